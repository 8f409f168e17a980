use Rattle.std.proofs.Common.{◌≡◌, ◌<◌, ◌+◌, List, ℕ, refl, subst, true, nat_le, arith, Contains}
use Rattle.std.proofs.lemmas.Bool.{le-leb}
use Rattle.body_lang.specs.Verdicts.{Verdict}
use Rattle.utopist_syntax.specs.declared.compute.Compute.{Compute}
use Rattle.utopist_syntax.specs.FileTree.{ConceptTree}
use Rattle.concept_rules.specs.declared.fault.ModelFault.{ModelFault}
use Rattle.concept_rules.specs.Declarations.{is_among}
use Rattle.concept_rules.specs.Lineage.{concept_names, effective_items}
use Rattle.concept_rules.specs.ConceptRules.{goal_fault, compute_fault}
use Rattle.concept_rules.proofs.Types.{type_here}
use Rattle.concept_rules.proofs.computes.check_compute.Goals as goal

goal_left :
    (most : ℕ) (concepts : List ConceptTree) (before : ℕ) (c : Compute) (r : Verdict ModelFault)
    → before < most → is_among c.name.text (concept_names concepts) ≡ true
    → r ≡ goal_fault concepts (effective_items concepts c.name.text) c
    → r ≡ compute_fault most concepts before c
goal_left most concepts before c r few known h =
    let fits : nat_le (before + 1) most ≡ true = le-leb (before + 1) most (omega (arith, few)) in
    rw (fits, known) h

pub returns-in-Some : goal.returns-in-Some
returns-in-Some c = λ f at.
    let name = c.args.compute.now.name.text in
    let here = type_here f _ _ _ at name _ c.text.ensures c.in-Some.line.now c.in-Some.ensures.line in
    goal_left c.args.most f.before _ c.args.compute.now c.check_goal.result c.if-which-most.false ((at.lines.known name).1 (subst (Contains _) c.text.ensures (c.in-Some.ensures.found.0 refl))) (c.check_goal.ensures f _ at here)
