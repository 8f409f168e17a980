-- {OPERATOR operand} read operand by operand, as a loop does.
use Rattle.std.proofs.Common.{◌≡◌, ℕ, zero, suc, true, false, ◌+◌, ◌-◌, ◌<◌, ◌≤◌, max, List, length, Option, Some, None, Ok, Err, refl, sym, subst, ◌∙◌, arith, drop}
use Rattle.std.specs.Prelude.{nat_le}
use Rattle.body_lang.specs.declared.op.Op.{Op}
use Rattle.utopist_syntax.specs.ExprTree.{ExprTree, op}
use Rattle.utopist_parser.specs.declared.breadth.Breadth.{Breadth}
use Rattle.utopist_parser.specs.declared.group.Group.{Group}
use Rattle.utopist_parser.specs.declared.group.Group.TheVariants as group
use Rattle.token_forms.specs.Symbols.{Symbol}
use Rattle.token_forms.specs.declared.parse_stop.Why.TheVariants.{TooDeep}
use Rattle.token_forms.specs.steps.Steps.{Reading, ReadOf, Miss, next}
use Rattle.utopist_parser.specs.steps.ReadingExpr.{Nested, op_over, more_at, Levels, levels_within, factor_at, term_at, chain_at, operator_of, group_within, operand_at}
use Rattle.token_forms.specs.steps.Answers.{StoppedAt, Fails}
use Rattle.token_forms.proofs.Loops.{fails_on}

-- the test whether a number is small enough
at_most : (n m : ℕ) → n ≤ m → nat_le n m ≡ true
at_most n m h = grind (arith, h)

-- or not
more_than : (n m : ℕ) → m < n → nat_le n m ≡ false
more_than n m h = grind (arith, h)

module _ (find : Option Symbol → Option Op) (operand : ReadOf Nested) (room : ℕ) (total : Reading Nested) where
  -- the operands so far, and those that still come
  pub record Operands (v : Nested) (rest : List Symbol) : Type 0 where
    pub fuel : ℕ
    pub enough : room < fuel + v.1
    pub gives : total ≡ more_at find operand room fuel v rest

  -- no operator follows, of so many at most
  ends-at : (fuel : ℕ) (v : Nested) (rest : List Symbol) → find (next rest) ≡ None → more_at find operand room fuel v rest ≡ Ok (v, rest)
  unfolding more_at
  ends-at zero v rest e = rw e refl
  ends-at (suc fuel) v rest e = rw e refl

  -- no operator follows: what was read is all
  pub ends : (v : Nested) (rest : List Symbol) → None ≡ find (next rest) → Operands v rest → total ≡ Ok (v, rest)
  ends v rest e s = s.gives ∙ ends-at s.fuel v rest (sym e)

  -- an operator for which there is no room, of so many at most
  deep-at : (fuel : ℕ) (v : Nested) (rest : List Symbol) (o : Op) → find (next rest) ≡ Some o → room < v.1 → more_at find operand room fuel v rest ≡ Err (TooDeep, length rest)
  unfolding more_at
  deep-at zero v rest o e h = rw (e, more_than _ _ h) refl
  deep-at (suc fuel) v rest o e h = rw (e, more_than _ _ h) refl

  -- an operator for which there is no room
  pub too_deep : (v : Nested) (rest : List Symbol) (o : Op) → Some o ≡ find (next rest) → room < v.1 → Operands v rest → total ≡ Err (TooDeep, length rest)
  too_deep v rest o e h s = s.gives ∙ deep-at s.fuel v rest o (sym e) h

  -- an operand fails, of so many at most
  fails-at : (fuel : ℕ) (v : Nested) (rest : List Symbol) (o : Op) (x : Miss) → room < fuel + v.1 → find (next rest) ≡ Some o → v.1 ≤ room → operand (drop 1 rest) ≡ Err x → more_at find operand room fuel v rest ≡ Err x
  unfolding more_at
  fails-at zero v rest o x k i h f = absurd (omega (arith, k, h))
  fails-at (suc fuel) v rest o x k i h f = rw (i, at_most _ _ h, f) refl

  -- an operand fails, and the whole with it
  pub fails : (e : StoppedAt) (v : Nested) (rest : List Symbol) (o : Op) (lower : ReadOf Nested) (behind : List Symbol) → operand ≡ lower → behind ≡ drop 1 rest → Some o ≡ find (next rest) → v.1 ≤ room → Fails e (lower behind) → Operands v rest → Fails e total
  fails e v rest o lower behind same is i h f s = fails_on e (lower behind) total (λ x g. s.gives ∙ fails-at s.fuel v rest o x s.enough (sym i) h ((λ j. same j (sym is j)) ∙ g)) f

  -- one more operator and operand
  pub goes_on : (v : Nested) (rest : List Symbol) (o : Op) (lower : ReadOf Nested) (behind : List Symbol) (w : Nested) (after : List Symbol) (t : ExprTree) (n : ℕ) → operand ≡ lower → behind ≡ drop 1 rest → Some o ≡ find (next rest) → v.1 ≤ room → lower behind ≡ Ok (w, after) → t ≡ op o v.0 w.0 → n ≡ suc (max v.1 w.1)
      → Operands v rest → Operands (t, n) after
  unfolding more_at
  goes_on v rest o lower behind w after t n same is i h f tree nest s = subst (λ (x : Nested). Operands x after) (λ j. (sym tree j, sym nest j)) (go s.fuel s.enough s.gives) where
    read : operand (drop 1 rest) ≡ Ok (w, after)
    read = (λ j. same j (sym is j)) ∙ f

    go : (fuel : ℕ) → room < fuel + v.1 → total ≡ more_at find operand room fuel v rest → Operands (op_over o v w) after
    go zero k e = absurd (omega (arith, k, h))
    go (suc fuel) k e = record { fuel = fuel; enough = omega (arith, k); gives = e ∙ rw (sym i, at_most _ _ h, read) refl }

-- the operands of a group one level below
abbrev pub lower : Group → Levels → ReadOf Nested
lower group.Chain low = low.term
lower group.Term low = low.factor

-- how far a group is above factors
abbrev pub rank : Group → ℕ
rank group.Chain = 2
rank group.Term = 0

-- operands so far, of a whole group
abbrev pub SoManyOperands : Group → Breadth → ℕ → List Symbol → Nested → List Symbol → Type 0
SoManyOperands g b room ts = Operands (operator_of g) (lower g (levels_within b room)) room (group_within g b room ts)

-- a group begins with an operand
pub first_operand : (g : Group) (b : Breadth) (room : ℕ) (ts : List Symbol) (v : Nested) (rest : List Symbol) → operand_at g b room ts ≡ Ok (v, rest) → 1 ≤ v.1 → SoManyOperands g b room ts v rest
unfolding factor_at term_at chain_at
first_operand group.Chain b room ts v rest e h = record { fuel = room; enough = omega (arith, h); gives = rw e refl }
first_operand group.Term b room ts v rest e h = record { fuel = room; enough = omega (arith, h); gives = rw e refl }

-- the first operand fails, and the group with it
pub no_operand : (g : Group) (b : Breadth) (room : ℕ) (e : StoppedAt) (ts : List Symbol) → Fails e (operand_at g b room ts) → Fails e (group_within g b room ts)
unfolding factor_at term_at chain_at
no_operand group.Chain b room e ts h = fails_on e (term_at b room ts) (chain_at b room ts) (λ x i. rw i refl) h
no_operand group.Term b room e ts h = fails_on e (factor_at b room ts) (term_at b room ts) (λ x i. rw i refl) h

-- an operand one level below
pub operand_below : (g : Group) (b : Breadth) (room : ℕ) → 0 < room → lower g (levels_within b room) ≡ operand_at g b (room - 1)
unfolding factor_at term_at
operand_below g b zero h = absurd (omega (arith, h))
operand_below group.Chain b (suc room) h = let e : room ≡ suc room - 1 = omega arith in subst (λ k. (levels_within b (suc room)).term ≡ term_at b k) e refl
operand_below group.Term b (suc room) h = let e : room ≡ suc room - 1 = omega arith in subst (λ k. (levels_within b (suc room)).factor ≡ factor_at b k) e refl
