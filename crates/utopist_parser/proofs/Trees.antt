-- The trees of the nodes of an expression: a number, a path, a negation, an operator, a choice, a loop, a call.
use Rattle.std.proofs.Common.{◌≡◌, ℤ, List, sym, ap, ◌∙◌}
use Rattle.priz_base.specs.declared.place.Place.{Place}
use Rattle.body_lang.specs.declared.op.Op.{Op}
use Rattle.body_lang.specs.declared.cmp.Cmp.{Cmp}
use Rattle.body_lang.specs.declared.loop_kind.LoopKind.{LoopKind}
use Rattle.utopist_syntax.specs.Named.{Named}
use Rattle.utopist_syntax.specs.declared.path.Path.{Path}
use Rattle.utopist_syntax.specs.declared.expr.Expr.{Expr}
use Rattle.utopist_syntax.specs.declared.expr.Expr.TheViews as views
use Rattle.utopist_syntax.specs.declared.expr.Expr.TheVariants as variants
use Rattle.utopist_syntax.specs.declared.expr.Expr.TheFolds.{fold-roll-Expr}
use Rattle.utopist_syntax.specs.declared.expr.Expr.TheOpen.{Expr-F}
use Rattle.utopist_syntax.specs.ExprTree.{ExprTree, num, path, neg, op, choice, loop, call}
use Rattle.utopist_syntax.specs.View.{expr_node, tree_of, trees_of}

pub num_tree : (n : ℤ) → tree_of (variants.Num n) ≡ num n
num_tree n = ap tree_of (sym (variants.rolls-Num n)) ∙ fold-roll-Expr ExprTree expr_node (Expr-F.Num n)

pub path_tree : (p : Path) → tree_of (variants.Path p) ≡ path p.parts
path_tree p = ap tree_of (sym (variants.rolls-Path p)) ∙ fold-roll-Expr ExprTree expr_node (Expr-F.Path p)

pub neg_tree : (a : Expr) → tree_of (views.Neg a) ≡ neg (tree_of a)
neg_tree a = ap tree_of (sym (variants.rolls-Neg a)) ∙ fold-roll-Expr ExprTree expr_node (Expr-F.Neg a)

pub op_tree : (o : Op) (a b : Expr) → tree_of (views.Op o a b) ≡ op o (tree_of a) (tree_of b)
op_tree o a b = ap tree_of (sym (variants.rolls-Op o a b)) ∙ fold-roll-Expr ExprTree expr_node (Expr-F.Op o a b)

pub choice_tree : (c : Cmp) (a b t e : Expr) → tree_of (views.If c a b t e) ≡ choice c (tree_of a) (tree_of b) (tree_of t) (tree_of e)
choice_tree c a b t e = ap tree_of (sym (variants.rolls-If c a b t e)) ∙ fold-roll-Expr ExprTree expr_node (Expr-F.If c a b t e)

pub loop_tree : (kind : LoopKind) (n : Named) (a b e : Expr) → tree_of (views.Loop kind n a b e) ≡ loop kind n (tree_of a) (tree_of b) (tree_of e)
loop_tree kind n a b e = ap tree_of (sym (variants.rolls-Loop kind n a b e)) ∙ fold-roll-Expr ExprTree expr_node (Expr-F.Loop kind n a b e)

pub call_tree : (k out : ℤ) (p : Place) (args : List Expr) → tree_of (views.Call k out p args) ≡ call k out p (trees_of args)
call_tree k out p args = ap tree_of (sym (variants.rolls-Call k out p args)) ∙ fold-roll-Expr ExprTree expr_node (Expr-F.Call k out p args)
