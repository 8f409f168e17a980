-- The token at the front of some characters, or why there is none.
use Rattle.std.proofs.Common.{◌≡◌, ℕ, ◌≤◌, Bool, true, false, eqb, List, [], ◌∷◌, ◌++◌, refl, subst, inl, inr}
use Rattle.std.specs.Prelude.{◌⊎◌, ◌||◌, pos}
use Rattle.std.proofs.lemmas.Bool.{both_ways}
use Rattle.utopist_lexer.specs.declared.token.Kind.{Kind}
use Rattle.utopist_lexer.specs.declared.fault.LexKind.{LexKind}
use Rattle.utopist_lexer.specs.Characters.{is_continue}
use Rattle.utopist_lexer.specs.Lexical.{IsFree, IsToken, max_number}
use Rattle.utopist_lexer.specs.Faults.{Faulty}

-- a token at the front
pub record TokenAt (cs : List ℕ) : Type 0 where
  pub kind : Kind
  pub text : List ℕ
  pub rest : List ℕ
  pub split : cs ≡ text ++ rest
  pub token : IsToken kind text rest

-- it, or why there is none
abbrev pub HasFront : List ℕ → Type 0
HasFront cs = TokenAt cs ⊎ ((k : LexKind) × Faulty k cs)

-- ---- limits

free_or : (c : ℕ) (cs : List ℕ) (b : Bool) → (eqb c 46 || is_continue c) ≡ b → IsFree (c ∷ cs) ⊎ (IsFree (c ∷ cs) → ⊥)
free_or c cs true e = inr (λ f. both_ways (eqb c 46 || is_continue c) f e)
free_or c cs false e = inl e

-- what follows a number is free, or isn't
pub free_or_not : (rest : List ℕ) → IsFree rest ⊎ (IsFree rest → ⊥)
free_or_not [] = inl tt
free_or_not (c ∷ cs) = free_or c cs (eqb c 46 || is_continue c) refl

pos_same : (m n : ℕ) → pos m ≡ pos n → m ≡ n
pos_same m n e = cc

-- a number within the limit, whichever way it is written
pub in_bounds : (n : ℕ) → n ≤ max_number → (m : ℕ) → pos n ≡ pos m → m ≤ max_number
in_bounds n h m e = subst (λ (x : ℕ). x ≤ max_number) (pos_same n m e) h
