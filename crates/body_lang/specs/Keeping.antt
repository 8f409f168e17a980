-- Runs that keep a property of values, as that of being in lowest terms.
use Rattle.std.specs.Prelude.{ℕ, List, All, IfOk, ⊤}
use Rattle.priz_frac.specs.Ratio.{Ratio}
use Rattle.body_lang.specs.BodyTree.{BodyTree, BodyTrees, num, input, local, neg, op, choice, total, product, iterate, call, none, more}
use Rattle.body_lang.specs.Meaning.{Calls, mean}
use Rattle.body_lang.specs.Precision.{Precision}
use Rattle.body_lang.specs.Run.{Ran}

module _ (P : Ratio → Type 0) where
  abbrev mutual
    -- each number of a body has the property
    pub NumbersHave : BodyTree → Type 0
    NumbersHave (num v) = P v
    NumbersHave (input i) = ⊤
    NumbersHave (local j) = ⊤
    NumbersHave (neg a) = NumbersHave a
    NumbersHave (op o a b) = NumbersHave a × NumbersHave b
    NumbersHave (choice c a b p q) = NumbersHave a × NumbersHave b × NumbersHave p × NumbersHave q
    NumbersHave (total a b e) = NumbersHave a × NumbersHave b × NumbersHave e
    NumbersHave (product a b e) = NumbersHave a × NumbersHave b × NumbersHave e
    NumbersHave (iterate a b e) = NumbersHave a × NumbersHave b × NumbersHave e
    NumbersHave (call k out args) = AllNumbersHave args

    -- each number of a call's arguments has the property
    pub AllNumbersHave : BodyTrees → Type 0
    AllNumbersHave none = ⊤
    AllNumbersHave (more a rest) = NumbersHave a × AllNumbersHave rest

  -- the value, where the run ends in one, has the property
  abbrev pub EndsIn : Ran → Type 0
  EndsIn r = IfOk r (λ end. P end.0)

  -- arguments that have the property are answered by such values
  abbrev pub CallsKeep : Calls → Type 0
  CallsKeep calls = (k out : ℕ) (arguments : List Ratio) (turns : ℕ) → All P arguments → EndsIn (calls k out arguments turns)

  -- where numbers, inputs, locals and answers have the property, so has the value of a body
  abbrev pub MeaningKeeps : Precision → Type 0
  MeaningKeeps precision =
      (owner : ℕ) (calls : Calls) → CallsKeep calls → (inputs : List Ratio) → All P inputs
      → (body : BodyTree) → NumbersHave body → (locals : List Ratio) → All P locals
      → (turns : ℕ) → EndsIn (mean precision owner calls inputs body locals turns)
