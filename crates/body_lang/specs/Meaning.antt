-- What a body means: the value and the turns left, or the first stop.
use Rattle.std.specs.Prelude.{ℕ, List, [], ◌∷◌, ◌++◌, pos, if◌then◌else◌, Result, Ok}
use Rattle.priz_frac.specs.Ratio.{Ratio}
use Rattle.priz_frac.specs.Arithmetic.{negative_of}
use Rattle.priz_frac.specs.Whole.{whole_of, whole}
use Rattle.body_lang.specs.declared.op.Op.TheVariants.{Add, Mul}
use Rattle.body_lang.specs.BodyTree.{BodyTree, BodyTrees, num, input, local, neg, op, choice, total, product, iterate, call, none, more}
use Rattle.body_lang.specs.Precision.{Precision}
use Rattle.body_lang.specs.Operation.{operate, as_run, holds}
use Rattle.body_lang.specs.Rounds.{rounds_between, replacements_for}
use Rattle.body_lang.specs.Run.{Ran, then_with, then_both}
use Rattle.body_lang.specs.Stop.{Stop}
use Rattle.body_lang.specs.Values.{value_at}

-- what a call gives, with so many turns left, of the subtask and the output of these numbers, for its arguments
abbrev pub Calls : Type 0
Calls = (k out : ℕ) → List Ratio → ℕ → Ran

-- in a statement whose calls are so answered, and whose inputs have these values in lowest terms
module _ (precision : Precision) (owner : ℕ) (calls : Calls) (inputs : List Ratio) where
  abbrev mutual
    -- a body inside loops whose variables have these values, outermost first, with so many turns left
    pub mean : BodyTree → List Ratio → ℕ → Ran
    mean (num v) locals turns = Ok (v, turns)
    mean (input i) locals turns = Ok (value_at inputs i, turns)
    mean (local j) locals turns = Ok (value_at locals j, turns)
    mean (neg a) locals turns = then_with (mean a locals turns) (λ x left. Ok (negative_of x, left))
    mean (op o a b) locals turns =
        then_both (mean a locals turns) (λ left. mean b locals left)
        (λ x y left. as_run owner left (operate precision o x y))
    mean (choice c a b p q) locals turns =
        then_both (mean a locals turns) (λ left. mean b locals left)
        (λ x y left. if holds c x y then mean p locals left else mean q locals left)
    mean (total a b e) locals turns =
        then_both (mean a locals turns) (λ left. mean b locals left)
        (λ x y left. rounds_between precision owner (λ v rest. mean e (locals ++ v ∷ []) rest)
        Add (whole (pos 0)) (whole_of x) (whole_of y) left)
    mean (product a b e) locals turns =
        then_both (mean a locals turns) (λ left. mean b locals left)
        (λ x y left. rounds_between precision owner (λ v rest. mean e (locals ++ v ∷ []) rest)
        Mul (whole (pos 1)) (whole_of x) (whole_of y) left)
    mean (iterate a b e) locals turns =
        then_both (mean a locals turns) (λ left. mean b locals left)
        (λ x y left. replacements_for precision owner (λ v rest. mean e (locals ++ v ∷ []) rest) x (whole_of y) left)
    mean (call k out args) locals turns =
        then_with (mean_all args locals turns) (λ values left. calls k out values left)

    -- the arguments of a call, from left to right
    pub mean_all : BodyTrees → List Ratio → ℕ → Result (List Ratio × ℕ) Stop
    mean_all none locals turns = Ok ([], turns)
    mean_all (more a rest) locals turns =
        then_with (mean a locals turns) (λ v left.
        then_with (mean_all rest locals left) (λ values t. Ok (v ∷ values, t)))
