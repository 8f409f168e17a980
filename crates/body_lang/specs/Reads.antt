-- What a body reads: inputs, the variables of the loops around, and outputs of subtasks.
use Rattle.std.specs.Prelude.{◌≡◌, ◌<◌, ℕ, suc, List, IsSomeAnd, slice_get, ⊤}
use Rattle.body_lang.specs.declared.arity.Arity.{Arity}
use Rattle.body_lang.specs.BodyTree.{BodyTree, BodyTrees, num, input, local, neg, op, choice, total, product, iterate, call, none, more, count_of}

-- in a statement with so many inputs, and subtasks of these arities
module _ (inputs : ℕ) (arities : List Arity) where
  abbrev mutual
    -- all is there that a body inside so many loops reads: a call has as many arguments as its subtask has inputs
    pub IsClosed : ℕ → BodyTree → Type 0
    IsClosed loops (num v) = ⊤
    IsClosed loops (input i) = i < inputs
    IsClosed loops (local j) = j < loops
    IsClosed loops (neg a) = IsClosed loops a
    IsClosed loops (op o a b) = IsClosed loops a × IsClosed loops b
    IsClosed loops (choice c a b p q) = IsClosed loops a × IsClosed loops b × IsClosed loops p × IsClosed loops q
    IsClosed loops (total a b e) = IsClosed loops a × IsClosed loops b × IsClosed (suc loops) e
    IsClosed loops (product a b e) = IsClosed loops a × IsClosed loops b × IsClosed (suc loops) e
    IsClosed loops (iterate a b e) = IsClosed loops a × IsClosed loops b × IsClosed (suc loops) e
    IsClosed loops (call k out args) =
        IsSomeAnd (slice_get arities k) (λ a. (out < a.outputs) × (count_of args ≡ a.inputs)) × AreClosed loops args

    -- the same of the arguments of a call
    pub AreClosed : ℕ → BodyTrees → Type 0
    AreClosed loops none = ⊤
    AreClosed loops (more a rest) = IsClosed loops a × AreClosed loops rest
