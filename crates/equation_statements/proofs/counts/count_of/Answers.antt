use Rattle.std.proofs.Common.{◌≡◌, ℕ, ◌+◌, length, sym, ap, ◌∙◌, subst, arith}
use Rattle.body_lang.specs.Equations.{Sides}
use Rattle.body_lang.specs.Occurrences.{occurrences, occurrences_in}
use Rattle.body_lang.specs.View.{body_tree}
use Rattle.statement_set.specs.Problem.{IsEquationOver}
use Rattle.equation_statements.specs.SolvingStatements.{solving_statements}
use Rattle.equation_statements.specs.steps.Sightings.{IsSeen}
use Rattle.equation_statements.proofs.Counting.{none_seen, out_count}
use Rattle.equation_statements.proofs.counts.count_of.Goals as goal

pub returns : goal.returns
returns c =
    let e : Sides = record { left = body_tree c.equation.inside.left; right = body_tree c.equation.inside.right } in
    let over : IsEquationOver 1024 e = subst (IsEquationOver 1024) (sym c.equation.view_is) c.requires in
    let seen = λ (w : ℕ).
    let start = none_seen c.new.result c.new-2.result c.new.ensures c.new-2.ensures w in
    let left = c.see.ensures w 0 start in
    let both = c.see-2.ensures w (0 + occurrences w e.left) left in
    let sum : 0 + occurrences w e.left + occurrences w e.right ≡ occurrences_in w e = omega arith in
    subst (IsSeen c.see-2.new.seen w) sum both in
    out_count e over c.see-2.new.seen seen c.count_without-left.result c.count_without.result c.saturating_add.result c.count_without-left.ensures c.count_without.ensures c.saturating_add.ensures
    ∙ ap (λ (d : Sides). length (solving_statements d)) c.equation.view_is
