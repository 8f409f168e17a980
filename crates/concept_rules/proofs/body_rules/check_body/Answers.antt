use Rattle.std.proofs.Common.{◌≡◌, List, ℕ, [], ◌∷◌, ◌++◌, ◌∙◌, map, ap, sym, refl}
use Rattle.std.proofs.lemmas.Result.{err_from_is_err_and}
use Rattle.body_lang.specs.declared.arity.Arity.{Arity}
use Rattle.utopist_syntax.specs.declared.item.Part.{Part}
use Rattle.utopist_syntax.specs.FileTree.{ItemTree}
use Rattle.utopist_syntax.specs.ExprTree.{ExprTree}
use Rattle.utopist_syntax.specs.View.{tree_of}
use Rattle.concept_rules.specs.steps.Arities.{arity_behind}
use Rattle.concept_rules.specs.steps.LoopNames.{name_before, loop_names}
use Rattle.concept_rules.specs.BodyFault.{Point, expr_fault}
use Rattle.concept_rules.specs.ItemRules.{spelled_inputs, arities_of}
use Rattle.concept_rules.specs.declared.loops.Loops.TheVariants as loops
use Rattle.concept_rules.specs.declared.loops.Loops.TheFolds.{fold-roll-Loops}
use Rattle.concept_rules.specs.declared.loops.Loops.TheOpen.{Loops-F}
use Rattle.concept_rules.proofs.body_rules.check_body.Goals as goal

no_loops : loop_names loops.Outermost ≡ []
no_loops =
    ap loop_names (sym loops.rolls-Outermost)
    ∙ fold-roll-Loops (List (List ℕ)) name_before Loops-F.Outermost

abbrev start : List ItemTree → List (List ℕ) → List (List (List ℕ)) → List Arity → Point
start items names inputs sizes = record { items = items; around = names; inputs = inputs; arities = sizes; rounds = names }

outside :
    (items : List ItemTree) (parts : List Part) (inputs : List (List (List ℕ))) (sizes : List Arity)
    (e : ExprTree) → inputs ≡ spelled_inputs parts → sizes ≡ arities_of parts
    → expr_fault (start items (loop_names loops.Outermost) inputs sizes) e ≡ expr_fault (start items [] (spelled_inputs parts) (arities_of parts)) e
outside items parts inputs sizes e is are =
    ap (λ (names : List (List ℕ)). expr_fault (start items names inputs sizes) e) no_loops
    ∙ ap (λ (paths : List (List (List ℕ))). expr_fault (start items [] paths sizes) e) is
    ∙ ap (λ (counts : List Arity). expr_fault (start items [] (spelled_inputs parts) counts) e) are

pub returns-in_err-check_expr : goal.returns-in_err-check_expr
returns-in_err-check_expr c = λ f before at here last own.
    let p = err_from_is_err_and c.from_residual-in_err-check_expr.result c.from_residual-in_err-check_expr.ensures.1 in
    let parts = c.args.relation.now.parts.now in
    rw (p.1, p.2, c.in-Some.is)
    (sym (outside (before ++ last ∷ []) parts _ _ (tree_of c.in-Some.expr) c.in_ok-inputs.ensures (ap (map arity_behind) c.as_slice.ensures ∙ c.in_ok-sizes.ensures))
    ∙ sym (c.in_err-check_expr.ensures (before ++ last ∷ []) (record { extent = f; before = before; found = at; here = here; up_to = record { last = last; items = refl; name = own } })))

pub returns : goal.returns
returns c = λ f before at here last own.
    let parts = c.args.relation.now.parts.now in
    rw c.in-Some.is
    (sym (outside (before ++ last ∷ []) parts _ _ (tree_of c.in-Some.expr) c.in_ok-inputs.ensures (ap (map arity_behind) c.as_slice.ensures ∙ c.in_ok-sizes.ensures))
    ∙ sym (c.in_ok-check_expr.ensures (before ++ last ∷ []) (record { extent = f; before = before; found = at; here = here; up_to = record { last = last; items = refl; name = own } })))
