-- What is wrong with a body: its first bad node, from left to right, a node before its parts.
use Rattle.std.specs.Prelude.{ℕ, suc, List, Option, Some, None, Ok, Err, slice_get, nat_lt, ◌==◌}
use Rattle.body_lang.specs.declared.arity.Arity.{Arity}
use Rattle.body_lang.specs.declared.body_fault.BodyFault.{BodyFault}
use Rattle.body_lang.specs.declared.body_fault.BodyFault.TheVariants.{BadInput, BadLocal, BadCall, BadArity}
use Rattle.body_lang.specs.Verdicts.{Verdict, and_then, fault_unless}
use Rattle.body_lang.specs.BodyTree.{BodyTree, BodyTrees, num, input, local, neg, op, choice, total, product, iterate, call, none, more, count_of}

-- a call with so many arguments that asks for this output of a subtask, where there is one
abbrev pub call_checked : Option Arity → ℕ → ℕ → Verdict BodyFault
call_checked None out count = Err BadCall
call_checked (Some a) out count =
    and_then (fault_unless (nat_lt out a.outputs) BadCall) (fault_unless (count == a.inputs) BadArity)

-- in a statement with so many inputs, and subtasks of these arities
module _ (inputs : ℕ) (arities : List Arity) where
  abbrev mutual
    -- a body inside so many loops
    pub checked : ℕ → BodyTree → Verdict BodyFault
    checked loops (num v) = Ok tt
    checked loops (input i) = fault_unless (nat_lt i inputs) BadInput
    checked loops (local j) = fault_unless (nat_lt j loops) BadLocal
    checked loops (neg a) = checked loops a
    checked loops (op o a b) = and_then (checked loops a) (checked loops b)
    checked loops (choice c a b p q) =
        and_then (checked loops a) (and_then (checked loops b) (and_then (checked loops p) (checked loops q)))
    checked loops (total a b e) = and_then (checked loops a) (and_then (checked loops b) (checked (suc loops) e))
    checked loops (product a b e) = and_then (checked loops a) (and_then (checked loops b) (checked (suc loops) e))
    checked loops (iterate a b e) = and_then (checked loops a) (and_then (checked loops b) (checked (suc loops) e))
    checked loops (call k out args) =
        and_then (call_checked (slice_get arities k) out (count_of args)) (all_checked loops args)

    -- the arguments of a call, from left to right
    pub all_checked : ℕ → BodyTrees → Verdict BodyFault
    all_checked loops none = Ok tt
    all_checked loops (more a rest) = and_then (checked loops a) (all_checked loops rest)
