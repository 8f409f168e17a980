use Rattle.std.proofs.Common.{◌<◌, length, arith, sym, ◌∙◌, ap, List, ◌∷◌, [], ◌++◌}
use Rattle.std.proofs.lemmas.Result.{err_from_is_err_and}
use Rattle.std.proofs.lemmas.List.{drop_all}
use Rattle.std.proofs.lemmas.List.Elements.{All-push}
use Rattle.statement_set.specs.Problem.{Task, IsPlain}
use Rattle.utopist_syntax.specs.FileTree.{file_tree}
use Rattle.concept_unfold.specs.UnfoldingRules.{unfoldings_fault}
use Rattle.file_accept.proofs.Unfolds.{few_computes, unfolded_more, unfolding_fails}
use Rattle.file_accept.proofs.problems.unfold_all.Goals as goal

pub overflow_cast-count : goal.overflow_cast-count
overflow_cast-count c = omega (arith, c.len-count.ensures, few_computes (file_tree c.args.file.now) c.requires.built c.requires.rules)

pub returns-in_err-unfold-clause-rules : goal.returns-in_err-unfold-clause-rules
returns-in_err-unfold-clause-rules c =
    let p = err_from_is_err_and c.from_residual.result c.from_residual.ensures.1 in
    let below : c.loop-which.which < length (file_tree c.args.file.now).computes = omega (arith, c.loop-which-test.true, c.len-count.ensures) in
    rw (p.1, p.2) (unfolding_fails (file_tree c.args.file.now) c.loop-which.which below c.in_err-unfold.field-0.0 c.in_err-unfold.ensures.problem c.loop-which.invariant.left)

pub loop-which-preserved : goal.loop-which-preserved
loop-which-preserved c =
    let f = file_tree c.args.file.now in
    let p = c.in_ok-unfold.field-0 in
    let old = c.loop-which.invariant in
    let below : c.loop-which.which < length f.computes = omega (arith, c.loop-which-test.true, c.len-count.ensures) in
    let more = unfolded_more f c.loop-which.which below p c.in_ok-unfold.ensures.problem in
    let pushed = c.in_ok-add.ensures in record {
      left = old.left ∙ more.0;
      problems = pushed ∙ ap (λ (ps : List Task). ps ++ p ∷ []) old.problems ∙ sym more.1;
      plain = rw pushed (All-push IsPlain c.loop-which.problems p old.plain c.in_ok-unfold.ensures.plain);
    }

pub returns-clause-rules : goal.returns-clause-rules
returns-clause-rules c =
    let f = file_tree c.args.file.now in
    c.loop-which.invariant.left ∙ ap (unfoldings_fault f) (drop_all c.loop-which.which f.computes (omega (arith, c.loop-which-test.false, c.len-count.ensures)))
