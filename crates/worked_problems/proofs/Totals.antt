-- How many subtasks the first statements have together.
use Rattle.std.proofs.Common.{◌≡◌, ℕ, ◌+◌, ◌-◌, ◌<◌, ◌≤◌, List, [], ◌∷◌, length, get_or, take, map, ap, refl, arith}
use Rattle.std.specs.List.{sum_by}
use Rattle.std.proofs.lemmas.List.{length-map, get_or_default}
use Rattle.std.proofs.lemmas.List.Sums.{sum_by-append, sum_by-take-le}
use Rattle.priz_base.proofs.More.{take_at}
use Rattle.statement_set.specs.declared.statement.Statement.{Statement}
use Rattle.worked_problems.specs.declared.rows.StatementRow.{StatementRow}
use Rattle.worked_problems.specs.Rows.{row_statement, row_subtask, subtask_total}

total_more : (rows : List StatementRow) (i : ℕ) (r : StatementRow) → i < length rows → r ≡ get_or rows i r → subtask_total (take (i + 1) rows) ≡ subtask_total (take i rows) + length r.subs.now
total_more rows i r lt is =
    let f : StatementRow → ℕ = λ s. length s.subs.now in
    omega (arith, ap subtask_total (take_at rows i r lt is), sum_by-append f (take i rows) (r ∷ []))

total_front : (rows : List StatementRow) (i : ℕ) → subtask_total (take i rows) ≤ subtask_total rows
total_front rows i = sum_by-take-le (λ (s : StatementRow). length s.subs.now) rows i

-- the statements have as many subtasks as their rows
total_is : (rows : List StatementRow) → sum_by (λ (s : Statement). length s.subs) (map row_statement rows) ≡ subtask_total rows
total_is [] = refl
total_is (r ∷ rows) =
    let whole = sum_by-append (λ (s : Statement). length s.subs) (row_statement r ∷ []) (map row_statement rows) in
    let parts = sum_by-append (λ (s : StatementRow). length s.subs.now) (r ∷ []) rows in
    omega (arith, total_is rows, length-map r.subs.now row_subtask, whole, parts)

-- where all rows have few subtasks, there is room for those of the next
pub room_left : (rows : List StatementRow) (i : ℕ) (d : StatementRow) (ss : List Statement) (s : Statement) → i < length rows → subtask_total rows ≤ 255 → ss ≡ map row_statement (take i rows) → s ≡ row_statement (get_or rows i d) → length s.subs ≤ 255 - sum_by (λ (s : Statement). length s.subs) ss
room_left rows i d ss s lt few before here =
    let r = get_or rows i d in
    let count = ap (sum_by (λ (s : Statement). length s.subs)) before in
    let own = ap (λ (s : Statement). length s.subs) here in
    omega (arith, few, total_front rows (i + 1), total_more rows i r lt (get_or_default rows i d r lt), count, total_is (take i rows), own, length-map r.subs.now row_subtask)
