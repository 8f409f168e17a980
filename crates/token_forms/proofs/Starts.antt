-- Where the loops begin, and how they go on where a view shows what was read.
use Rattle.std.proofs.Common.{◌≡◌, ◌<◌, Bool, true, List, [], ◌∷◌, ◌++◌, length, map, Ok, refl, sym, ap, subst, ◌∙◌, arith}
use Rattle.std.proofs.lemmas.List.{map-append}
use Rattle.utopist_lexer.specs.declared.mark.Mark.{Mark}
use Rattle.token_forms.specs.Symbols.{Symbol}
use Rattle.token_forms.specs.steps.Steps.{Reading, ReadOf, StepOf, next, meets, repeat_fuel}
use Rattle.token_forms.specs.steps.Single.{is_mark}
use Rattle.token_forms.specs.steps.Lists.{next_at, separated_at}
use Rattle.token_forms.specs.steps.Answers.{StoppedAt, Fails}
use Rattle.token_forms.proofs.Loops.{SoFar, fails_on, with_front-nil, goes_on}

module _ {V : Type 0} (separator : Mark) (f : StepOf V) where
  -- parts with separators so far, of all that are read
  abbrev pub Separated : List V → List Symbol → List Symbol → Type 0
  Separated front rest ts = SoFar (is_mark separator) (next_at separator f 63) front rest (separated_at separator f 63 ts)

  -- the first part
  pub separated_starts : (ts : List Symbol) (v : V) (rest : List Symbol) → f 63 ts ≡ Ok (v, rest) → Separated (v ∷ []) rest ts
  separated_starts ts v rest e = record { fuel = length rest; enough = omega arith; gives = rw e refl }

  -- no first part
  pub separated_fails : (e : StoppedAt) (ts : List Symbol) → Fails e (f 63 ts) → Fails e (separated_at separator f 63 ts)
  separated_fails e ts h = fails_on e (f 63 ts) (separated_at separator f 63 ts) (λ x i. rw i refl) h

module _ {X V : Type 0} (view : X → V) (begins : Symbol → Bool) (read : ReadOf V) where
  -- one more part, as it was pushed
  pub seen_on : (found more : List X) (x : X) (ts rest : List Symbol) (total : Reading (List V)) → more ≡ found ++ x ∷ [] → true ≡ meets begins (next ts) → read ts ≡ Ok (view x, rest) → length rest < length ts → SoFar begins read (map view found) ts total
      → SoFar begins read (map view more) rest total
  seen_on found more x ts rest total pushed starts e shorter so_far =
      subst (λ (l : List V). SoFar begins read l rest total) (sym (ap (map view) pushed ∙ map-append view found (x ∷ []))) (goes_on begins read (map view found) ts (view x) rest total starts e shorter so_far)

  -- none yet
  pub none_seen : (found : List X) (ts : List Symbol) → found ≡ [] → SoFar begins read (map view found) ts (repeat_fuel begins read (length ts) ts)
  none_seen found ts none_yet =
      subst (λ (l : List X). SoFar begins read (map view l) ts (repeat_fuel begins read (length ts) ts)) (sym none_yet)
      (record { fuel = length ts; enough = omega arith; gives = with_front-nil (repeat_fuel begins read (length ts) ts) })

-- what is seen as it is
pub seen_plainly : {V : Type 0} (xs : List V) → map (λ x. x) xs ≡ xs
seen_plainly [] = refl
seen_plainly (x ∷ xs) = ap (λ ys. x ∷ ys) (seen_plainly xs)
