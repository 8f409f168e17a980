use Rattle.std.proofs.Common.{length, map, refl, sym}
use Rattle.std.specs.List.{sum_by}
use Rattle.std.proofs.lemmas.Result.{err_from_is_err_and}
use Rattle.utopist_syntax.specs.FileTree.{item_tree}
use Rattle.concept_unfold.specs.Declarations.{all_variables}
use Rattle.concept_unfold.specs.UnfoldingRules.{item_size, item_statements}
use Rattle.concept_unfold.proofs.limits.check_limits.Goals as goal

pub returns-in_err-expect_at_most : goal.returns-in_err-expect_at_most
returns-in_err-expect_at_most c =
    let n = length (all_variables (map item_tree c.args.items.now)) in
    let paths = c.in_err-expect_at_most.ensures n c.count-counts.ensures.variables in
    let p = err_from_is_err_and c.from_residual.result c.from_residual.ensures.1 in
    rw (p.1, p.2, sym paths) refl

pub returns-in_err-expect_at_most-2 : goal.returns-in_err-expect_at_most-2
returns-in_err-expect_at_most-2 c =
    let n = length (all_variables (map item_tree c.args.items.now)) in
    let variables = c.count-counts.ensures.variables in
    let p = err_from_is_err_and c.from_residual-in_err-expect_at_most-2.result c.from_residual-in_err-expect_at_most-2.ensures.1 in
    rw (p.1, p.2, sym (c.in_ok-expect_at_most.ensures n variables), sym (c.in_err-expect_at_most-2.ensures n variables)) refl

pub returns-in_err-expect_at_most-3 : goal.returns-in_err-expect_at_most-3
returns-in_err-expect_at_most-3 c =
    let items = map item_tree c.args.items.now in
    let n = length (all_variables items) in
    let variables = c.count-counts.ensures.variables in
    let size = c.in_err-expect_at_most-3.ensures (sum_by item_size items) c.count-counts.ensures.size in
    let p = err_from_is_err_and c.from_residual-in_err-expect_at_most-3.result c.from_residual-in_err-expect_at_most-3.ensures.1 in
    rw (p.1, p.2, sym (c.in_ok-expect_at_most.ensures n variables), sym (c.in_ok-expect_at_most-2.ensures n variables), sym size) refl

pub returns : goal.returns
returns c =
    let items = map item_tree c.args.items.now in
    let n = length (all_variables items) in
    let variables = c.count-counts.ensures.variables in
    let size = c.in_ok-expect_at_most-3.ensures (sum_by item_size items) c.count-counts.ensures.size in
    let last = c.expect_at_most-4.ensures (sum_by item_statements items) c.count-counts.ensures.statements in
    rw (sym (c.in_ok-expect_at_most.ensures n variables), sym (c.in_ok-expect_at_most-2.ensures n variables), sym size) last
