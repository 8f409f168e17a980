use Rattle.std.proofs.Common.{◌≡◌, List, [], ◌∷◌, ◌++◌, Ok, Err, ap, sym, ◌∙◌, refl, subst}
use Rattle.std.proofs.lemmas.Result.{err_from_is_err_and}
use Rattle.body_lang.specs.Verdicts.{Verdict, and_then}
use Rattle.utopist_syntax.specs.Named.{Named}
use Rattle.utopist_syntax.specs.declared.item.Part.{Part}
use Rattle.utopist_syntax.specs.FileTree.{ItemTree, item_tree, rel, body_expr_tree}
use Rattle.concept_rules.specs.declared.fault.ModelFault.{ModelFault}
use Rattle.concept_rules.specs.declared.fault.UnfoldFault.{UnfoldFault}
use Rattle.concept_rules.specs.declared.fault.UnfoldFault.TheVariants as fault
use Rattle.concept_rules.specs.Checks.{Checks}
use Rattle.concept_rules.specs.PathRules.{numeric_path}
use Rattle.concept_rules.specs.ItemRules.{item_fault, parts_fault, body_fault}
use Rattle.concept_rules.proofs.item_rules.check_item.Goals as goal

body_fails :
    (v1 v2 v3 v4 : Verdict ModelFault) (e : UnfoldFault) → v1 ≡ Ok tt → v2 ≡ Ok tt → v3 ≡ Ok tt
    → Checks {X = Unit {0}} v4 (Err e)
    → Checks {X = Unit {0}} (and_then v1 (and_then v2 (and_then v3 v4))) (Err e)
body_fails v1 v2 v3 v4 (fault.Model g) a b c h =
    ap (λ v. and_then v (and_then v2 (and_then v3 v4))) a ∙ ap (λ v. and_then v (and_then v3 v4)) b
    ∙ ap (λ v. and_then v v4) c ∙ h
body_fails v1 v2 v3 v4 fault.NoMem a b c h = tt

pub returns-in_err-check_body-in-Rel-clause-rules :
    goal.returns-in_err-check_body-in-Rel-clause-rules
returns-in_err-check_body-in-Rel-clause-rules c = λ f before at here.
    let last = rel c.in-Rel.name c.in-Rel.parts c.in-Rel.output (body_expr_tree c.in-Rel.body) in
    let e = c.in_err-check_body-in-Rel.field-0.0 in
    let p = err_from_is_err_and c.from_residual-in_err-check_body-in-Rel.result c.from_residual-in_err-check_body-in-Rel.ensures.1 in
    rw (p.1, p.2)
    (subst (λ (i : ItemTree). Checks {X = Unit {0}} (item_fault f.before before i) (Err e)) (sym (ap item_tree c.in-Rel.is))
    (body_fails _ _ _ _ e
    (sym (c.in_ok-expect_undeclared-in-Rel.ensures f before at here))
    (ap (λ (ps : List Part). parts_fault f.before before ps) (sym c.as_slice-in-Rel.ensures) ∙ sym (c.in_ok-check_parts-in-Rel.ensures f before at here))
    (ap (λ (ns : List Named). numeric_path f.before before ns) (sym c.as_slice-in-Rel-2.ensures) ∙ sym (c.in_ok-expect_numeric-in-Rel.ensures f before at here))
    (subst (λ (ps : List Part). Checks {X = Unit {0}} (body_fault (before ++ last ∷ []) ps (body_expr_tree c.in-Rel.body)) (Err e)) c.as_slice-in-Rel-3.ensures (c.in_err-check_body-in-Rel.ensures f before at here last refl))))
