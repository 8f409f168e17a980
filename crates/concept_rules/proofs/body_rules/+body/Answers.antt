use Rattle.std.proofs.Common.{◌≡◌, ℕ, ◌∙◌, ◌∷◌, ap, sym, map, List, ℤ, Option, Err, Bor}
use Rattle.std.proofs.lemmas.Result.{err_from_is_err_and}
use Rattle.priz_base.specs.declared.place.Place.{Place}
use Rattle.body_lang.specs.declared.arity.Arity.{Arity}
use Rattle.body_lang.specs.Verdicts.{Verdict, and_then}
use Rattle.utopist_syntax.specs.declared.expr.Expr.{Expr}
use Rattle.utopist_syntax.specs.declared.expr.Expr.TheVariants as variants
use Rattle.utopist_syntax.specs.declared.expr.Expr.TheFolds.{fold-roll-Expr}
use Rattle.utopist_syntax.specs.declared.expr.Expr.TheOpen.{Expr-F}
use Rattle.utopist_syntax.specs.ExprTree.{ExprTree, call}
use Rattle.utopist_syntax.specs.View.{expr_node, tree_of, trees_of}
use Rattle.concept_rules.specs.declared.fault.ModelFault.{ModelFault}
use Rattle.concept_rules.specs.BodyFault.{Point, in_bounds, arity_of, call_fault, count_trees, expr_fault, exprs_fault}
use Rattle.concept_rules.specs.declared.loops.Loops.{Loops}
use Rattle.concept_rules.specs.declared.loops.Loops.TheVariants as loops
use Rattle.concept_rules.specs.declared.loops.Loops.TheFolds.{fold-roll-Loops}
use Rattle.concept_rules.specs.declared.loops.Loops.TheOpen.{Loops-F}
use Rattle.concept_rules.specs.steps.LoopNames.{name_before, loop_names}
use Rattle.concept_rules.specs.steps.InBody.{point_in}
use Rattle.concept_rules.specs.steps.Arities.{arity_behind, arity_found}
use Rattle.concept_rules.proofs.Bodies.{count_trees_of}
use Rattle.concept_rules.proofs.Sizes.{numbered_is}
use Rattle.concept_rules.specs.declared.calls.Sizes.{Sizes}
use Rattle.concept_rules.proofs.body_rules.+body.Goals as goal

call_tree :
    (k out : ℤ) (p : Place) (args : List Expr)
    → tree_of (variants.Call k out p args) ≡ call k out p (trees_of args)
call_tree k out p args =
    ap tree_of (sym (variants.rolls-Call k out p args))
    ∙ fold-roll-Expr ExprTree expr_node (Expr-F.Call k out p args)

call_verdict :
    (pt : Point) (e : Expr) (k out : ℤ) (p : Place) (args : List Expr)
    → e ≡ variants.Call k out p args → expr_fault pt (tree_of e)
    ≡ and_then (call_fault p (arity_of pt.arities k) out (count_trees (trees_of args))) (exprs_fault pt (trees_of args))
call_verdict pt e k out p args is =
    ap (λ (x : Expr). expr_fault pt (tree_of x)) is ∙ ap (expr_fault pt) (call_tree k out p args)

-- what the code's numbers say of a call
same_call :
    (p : Place) (out k : ℤ) (sizes : List Sizes) (args : List Expr) (found : Option Arity) (n : ℕ)
    → found ≡ arity_of (map arity_behind sizes) k → n ≡ count_trees (trees_of args)
    → call_fault p found out n
    ≡ call_fault p (arity_of (map arity_behind sizes) k) out (count_trees (trees_of args))
same_call p out k sizes args found n e d =
    ap (λ (o : Option Arity). call_fault p o out n) e
    ∙ ap (call_fault p (arity_of (map arity_behind sizes) k) out) d

pub check_expr-returns-in_err-expect_call-in-Call :
    goal.check_expr-returns-in_err-expect_call-in-Call
check_expr-returns-in_err-expect_call-in-Call t c = λ items b.
    let pt = point_in c.args.at.now items c.args.around.now c.args.rounds.now in
    let p = err_from_is_err_and c.from_residual-in_err-expect_call-in-Call.result c.from_residual-in_err-expect_call-in-Call.ensures.1 in
    let next = exprs_fault pt (trees_of c.in-Call.args) in
    let fails =
    c.in_err-expect_call-in-Call.ensures
    ∙ same_call c.in-Call.place c.in-Call.out c.in-Call.k c.args.at.now.arities.now c.in-Call.args (arity_found c.numbered.result) c.len.result (ap arity_found c.numbered.ensures ∙ numbered_is c.args.at.now.arities.now c.in-Call.k) (c.len.ensures ∙ sym (count_trees_of c.in-Call.args)) in
    p.1 ∙ ap Err p.2 ∙ ap (λ (v : Verdict ModelFault). and_then v next) fails
    ∙ sym (call_verdict pt c.args.expr.now c.in-Call.k c.in-Call.out c.in-Call.place c.in-Call.args c.in-Call.is)

pub check_expr-returns-in_ok-expect_call-in-Call : goal.check_expr-returns-in_ok-expect_call-in-Call
check_expr-returns-in_ok-expect_call-in-Call t c = λ items b.
    let pt = point_in c.args.at.now items c.args.around.now c.args.rounds.now in
    let next = exprs_fault pt (trees_of c.in-Call.args) in
    let fits =
    c.in_ok-expect_call-in-Call.ensures
    ∙ same_call c.in-Call.place c.in-Call.out c.in-Call.k c.args.at.now.arities.now c.in-Call.args (arity_found c.numbered.result) c.len.result (ap arity_found c.numbered.ensures ∙ numbered_is c.args.at.now.arities.now c.in-Call.k) (c.len.ensures ∙ sym (count_trees_of c.in-Call.args)) in
    c.check_exprs.ensures items b
    ∙ ap (λ (es : List Expr). exprs_fault pt (trees_of es)) c.as_slice.ensures
    ∙ ap (λ (v : Verdict ModelFault). and_then v next) fits
    ∙ sym (call_verdict pt c.args.expr.now c.in-Call.k c.in-Call.out c.in-Call.place c.in-Call.args c.in-Call.is)

-- the names of loops with one more inside
inside_names :
    (name : Bor (List ℕ)) (around : Bor Loops) (text : List ℕ) → name.now ≡ text
    → loop_names (loops.Inside name around) ≡ text ∷ loop_names around.now
inside_names name around text is =
    ap loop_names (sym (loops.rolls-Inside name around))
    ∙ fold-roll-Loops (List (List ℕ)) name_before (Loops-F.Inside name around)
    ∙ ap (λ (n : List ℕ). n ∷ loop_names around.now) is

pub check_inside-returns : goal.check_inside-returns
check_inside-returns t c = λ items b.
    let pt = point_in c.args.at.now items c.args.around.now c.args.rounds.now in
    c.check_expr.ensures items b
    ∙ ap (λ (names : List (List ℕ)). expr_fault (record pt { around = names }) (tree_of c.args.part.now)) (inside_names c.text.result c.args.around c.args.name.now.text c.text.ensures)

pub check_round-returns : goal.check_round-returns
check_round-returns t c = λ items b.
    let pt = in_bounds c.args.name.now (point_in c.args.at.now items c.args.around.now c.args.rounds.now) in
    c.check_inside.ensures items b
    ∙ ap (λ (names : List (List ℕ)). expr_fault (record pt { rounds = names }) (tree_of c.args.each.now)) (inside_names c.text.result c.args.rounds c.args.name.now.text c.text.ensures)
