-- A body that passes the check of a statement without subtasks calls nothing.
use Rattle.std.proofs.Common.{◌≡◌, ℕ, suc, List, [], Option, Some, Ok, subst, length, map}
use Rattle.std.specs.Prelude.{All, IfSome, slice_get}
use Rattle.body_lang.specs.declared.arity.Arity.{Arity}
use Rattle.body_lang.specs.BodyTree.{BodyTree, num, input, local, neg, op, choice, total, product, iterate, call, count_of}
use Rattle.body_lang.specs.Checked.{checked, all_checked, call_checked}
use Rattle.body_lang.proofs.Verdicts.{first_passes, second_passes}
use Rattle.statement_set.specs.declared.statement.Statement.{Statement}
use Rattle.statement_set.specs.declared.subtask.Subtask.{Subtask}
use Rattle.statement_set.specs.Problem.{Task, IsBodyOver, arities}
use Rattle.statement_set.proofs.Lists.{all_at}
use Rattle.proof_term.specs.steps.HasNoCall.{HasNoCall}

-- a body that passes where there is no subtask
calls_nothing : (n loops : ℕ) (t : BodyTree) → checked n [] loops t ≡ Ok tt → HasNoCall t
calls_nothing n loops (num v) h = tt
calls_nothing n loops (input i) h = tt
calls_nothing n loops (local j) h = tt
calls_nothing n loops (neg a) h = calls_nothing n loops a h
calls_nothing n loops (op o a b) h = (calls_nothing n loops a (first_passes _ _ h), calls_nothing n loops b (second_passes _ _ h))
calls_nothing n loops (choice c a b p q) h =
    let after = second_passes _ _ h in
    let branches = second_passes _ _ after in
    (calls_nothing n loops a (first_passes _ _ h), (calls_nothing n loops b (first_passes _ _ after), (calls_nothing n loops p (first_passes _ _ branches), calls_nothing n loops q (second_passes _ _ branches))))
calls_nothing n loops (total a b e) h =
    let after = second_passes _ _ h in
    (calls_nothing n loops a (first_passes _ _ h), (calls_nothing n loops b (first_passes _ _ after), calls_nothing n (suc loops) e (second_passes _ _ after)))
calls_nothing n loops (product a b e) h =
    let after = second_passes _ _ h in
    (calls_nothing n loops a (first_passes _ _ h), (calls_nothing n loops b (first_passes _ _ after), calls_nothing n (suc loops) e (second_passes _ _ after)))
calls_nothing n loops (iterate a b e) h =
    let after = second_passes _ _ h in
    (calls_nothing n loops a (first_passes _ _ h), (calls_nothing n loops b (first_passes _ _ after), calls_nothing n (suc loops) e (second_passes _ _ after)))
calls_nothing n loops (call k out args) h = let bad = first_passes (call_checked (slice_get {X = Arity} [] k) out (count_of args)) (all_checked n [] loops args) h in absurd (cc)

abbrev arity_of : Subtask → Arity
arity_of u = record { inputs = length u.inputs; outputs = length u.outputs }

-- the body of a statement without subtasks
pub no_call : (p : Task) (n : ℕ) (s : Statement) (b : BodyTree) → All (λ (x : Statement). x.subs ≡ []) p.statements → slice_get p.statements n ≡ Some s → IsBodyOver s → s.body ≡ Some b → HasNoCall b
no_call p n s b plain there over is =
    let none = all_at (λ (x : Statement). x.subs ≡ []) p.statements n s plain there in
    let its = subst (λ (o : Option BodyTree). IfSome o (λ x. checked (length s.inputs) (arities s) 0 x ≡ Ok tt)) is over in
    calls_nothing (length s.inputs) 0 b (subst (λ (us : List Subtask). checked (length s.inputs) (map arity_of us) 0 b ≡ Ok tt) none its)
