-- The trees of the nodes of a body.
use Rattle.std.proofs.Common.{◌≡◌, ℕ, List, sym, ap, ◌∙◌}
use Rattle.priz_frac.specs.Ratio.{Ratio}
use Rattle.body_lang.specs.declared.op.Op.{Op}
use Rattle.body_lang.specs.declared.cmp.Cmp.{Cmp}
use Rattle.body_lang.specs.declared.body.Body.{Body}
use Rattle.body_lang.specs.declared.body.Body.TheViews as views
use Rattle.body_lang.specs.declared.body.Body.TheVariants as variants
use Rattle.body_lang.specs.declared.body.Body.TheFolds.{fold-roll-Body}
use Rattle.body_lang.specs.declared.body.Body.TheOpen.{Body-F}
use Rattle.body_lang.specs.BodyTree.{BodyTree, num, input, local, neg, op, choice, total, product, iterate, call}
use Rattle.body_lang.specs.View.{body_node, body_tree, body_trees}

-- a number
pub num_tree : (r : Ratio) → body_tree (variants.Num r) ≡ num r
num_tree r = ap body_tree (sym (variants.rolls-Num r)) ∙ fold-roll-Body BodyTree body_node (Body-F.Num r)

-- an input
pub input_tree : (i : ℕ) → body_tree (variants.Input i) ≡ input i
input_tree i = ap body_tree (sym (variants.rolls-Input i)) ∙ fold-roll-Body BodyTree body_node (Body-F.Input i)

-- a loop's variable
pub local_tree : (j : ℕ) → body_tree (variants.Local j) ≡ local j
local_tree j = ap body_tree (sym (variants.rolls-Local j)) ∙ fold-roll-Body BodyTree body_node (Body-F.Local j)

-- a negated part
pub neg_tree : (a : Body) → body_tree (views.Neg a) ≡ neg (body_tree a)
neg_tree a = ap body_tree (sym (variants.rolls-Neg a)) ∙ fold-roll-Body BodyTree body_node (Body-F.Neg a)

-- an operator and its two parts
pub op_tree : (o : Op) (a b : Body) → body_tree (views.Op o a b) ≡ op o (body_tree a) (body_tree b)
op_tree o a b = ap body_tree (sym (variants.rolls-Op o a b)) ∙ fold-roll-Body BodyTree body_node (Body-F.Op o a b)

-- a comparison and its branches
pub choice_tree : (c : Cmp) (a b p q : Body) → body_tree (views.If c a b p q) ≡ choice c (body_tree a) (body_tree b) (body_tree p) (body_tree q)
choice_tree c a b p q = ap body_tree (sym (variants.rolls-If c a b p q)) ∙ fold-roll-Body BodyTree body_node (Body-F.If c a b p q)

-- a sum over rounds
pub total_tree : (a b e : Body) → body_tree (views.Sum a b e) ≡ total (body_tree a) (body_tree b) (body_tree e)
total_tree a b e = ap body_tree (sym (variants.rolls-Sum a b e)) ∙ fold-roll-Body BodyTree body_node (Body-F.Sum a b e)

-- a product over rounds
pub product_tree : (a b e : Body) → body_tree (views.Prod a b e) ≡ product (body_tree a) (body_tree b) (body_tree e)
product_tree a b e = ap body_tree (sym (variants.rolls-Prod a b e)) ∙ fold-roll-Body BodyTree body_node (Body-F.Prod a b e)

-- a part that is repeated
pub iterate_tree : (a b e : Body) → body_tree (views.Iter a b e) ≡ iterate (body_tree a) (body_tree b) (body_tree e)
iterate_tree a b e = ap body_tree (sym (variants.rolls-Iter a b e)) ∙ fold-roll-Body BodyTree body_node (Body-F.Iter a b e)

-- a call
pub call_tree : (k out : ℕ) (args : List Body) → body_tree (views.Call k out args) ≡ call k out (body_trees args)
call_tree k out args = ap body_tree (sym (variants.rolls-Call k out args)) ∙ fold-roll-Body BodyTree body_node (Body-F.Call k out args)
