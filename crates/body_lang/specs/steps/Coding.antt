-- A body as a tree of numbers, which gives it back. Rattle asks for this of a model's value that holds itself.
use Rattle.std.specs.Coded.{code_by, coded×}
use Rattle.std.specs.Prelude.{◌≡◌, refl, ℕ, ℤ, pos, negsuc, [], ◌∷◌, slice_index_or}
use Rattle.std.proofs.Common.{ap, sym, ◌∙◌}
use base.Stored.{Gv, gnil, gnum, gcons, Coded}
use Rattle.priz_frac.specs.Ratio.{Ratio}
use Rattle.body_lang.specs.declared.op.Op.{Op}
use Rattle.body_lang.specs.declared.op.Op.TheVariants.{Add, Sub, Mul, Div}
use Rattle.body_lang.specs.declared.cmp.Cmp.{Cmp}
use Rattle.body_lang.specs.declared.cmp.Cmp.TheVariants.{Less, AtMost, Same}
use Rattle.body_lang.specs.BodyTree.{BodyTree, BodyTrees, num, input, local, neg, op, choice, total, product, iterate, call, none, more}
use Rattle.body_lang.specs.Equations.{Sides}

abbrev code_int : ℤ → Gv
code_int (pos n) = gnum n
code_int (negsuc n) = gcons gnil (gnum n)

abbrev code_ratio : Ratio → Gv
code_ratio x = gcons (code_int x.num) (gnum x.den)

abbrev code_op : Op → Gv
code_op Add = gnum 0
code_op Sub = gnum 1
code_op Mul = gnum 2
code_op Div = gnum 3

abbrev code_cmp : Cmp → Gv
code_cmp Less = gnum 0
code_cmp AtMost = gnum 1
code_cmp Same = gnum 2

-- a node's kind, what stands in it, and its parts
abbrev code_node : ℕ → Gv → Gv → Gv → Gv → Gv → Gv
code_node kind inside a b c d = gcons (gnum kind) (gcons inside (gcons a (gcons b (gcons c d))))

abbrev mutual
  -- a body as a tree of numbers
  pub code_body : BodyTree → Gv
  code_body (num v) = code_node 0 (code_ratio v) gnil gnil gnil gnil
  code_body (input i) = code_node 1 (gnum i) gnil gnil gnil gnil
  code_body (local j) = code_node 2 (gnum j) gnil gnil gnil gnil
  code_body (neg a) = code_node 3 gnil (code_body a) gnil gnil gnil
  code_body (op o a b) = code_node 4 (code_op o) (code_body a) (code_body b) gnil gnil
  code_body (choice c a b p q) = code_node 5 (code_cmp c) (code_body a) (code_body b) (code_body p) (code_body q)
  code_body (total a b e) = code_node 6 gnil (code_body a) (code_body b) (code_body e) gnil
  code_body (product a b e) = code_node 7 gnil (code_body a) (code_body b) (code_body e) gnil
  code_body (iterate a b e) = code_node 8 gnil (code_body a) (code_body b) (code_body e) gnil
  code_body (call k out args) = code_node 9 (gcons (gnum k) (gnum out)) (code_bodies args) gnil gnil gnil

  -- arguments as a tree of numbers
  pub code_bodies : BodyTrees → Gv
  code_bodies none = gnil
  code_bodies (more a rest) = gcons (code_body a) (code_bodies rest)

abbrev number_back : Gv → ℕ
number_back (gnum n) = n
number_back _ = 0

abbrev int_back : Gv → ℤ
int_back (gcons a b) = negsuc (number_back b)
int_back g = pos (number_back g)

abbrev ratio_back : Gv → Ratio
ratio_back (gcons a b) = record { num = int_back a; den = number_back b }
ratio_back _ = record { num = pos 0; den = 0 }

abbrev op_back : Gv → Op
op_back g = slice_index_or (Add ∷ Sub ∷ Mul ∷ Div ∷ []) (number_back g) Add

abbrev cmp_back : Gv → Cmp
cmp_back g = slice_index_or (Less ∷ AtMost ∷ Same ∷ []) (number_back g) Less

abbrev call_back : Gv → BodyTrees → BodyTree
call_back (gcons k out) args = call (number_back k) (number_back out) args
call_back _ args = call 0 0 args

-- the node of this kind
abbrev node_back : ℕ → Gv → BodyTree → BodyTree → BodyTree → BodyTree → BodyTrees → BodyTree
node_back kind inside a b c d args =
    slice_index_or
    (num (ratio_back inside) ∷ input (number_back inside) ∷ local (number_back inside) ∷ neg a ∷ op (op_back inside) a b
    ∷ choice (cmp_back inside) a b c d ∷ total a b c ∷ product a b c ∷ iterate a b c ∷ call_back inside args ∷ [])
    kind (input 0)

abbrev mutual
  -- the body that a tree of numbers stands for
  pub body_back : Gv → BodyTree
  body_back (gcons (gnum kind) (gcons inside (gcons a (gcons b (gcons c d))))) =
      node_back kind inside (body_back a) (body_back b) (body_back c) (body_back d) (bodies_back a)
  body_back _ = input 0

  -- the arguments that a tree of numbers stands for
  pub bodies_back : Gv → BodyTrees
  bodies_back (gcons a rest) = more (body_back a) (bodies_back rest)
  bodies_back _ = none

int_is_back : (z : ℤ) → int_back (code_int z) ≡ z
int_is_back (pos n) = refl
int_is_back (negsuc n) = refl

op_is_back : (o : Op) → op_back (code_op o) ≡ o
op_is_back Add = refl
op_is_back Sub = refl
op_is_back Mul = refl
op_is_back Div = refl

cmp_is_back : (c : Cmp) → cmp_back (code_cmp c) ≡ c
cmp_is_back Less = refl
cmp_is_back AtMost = refl
cmp_is_back Same = refl

mutual
  -- a body comes back
  pub body_is_back : (b : BodyTree) → body_back (code_body b) ≡ b
  body_is_back (num v) = λ i. num (record { num = int_is_back v.num i; den = v.den })
  body_is_back (input i) = refl
  body_is_back (local j) = refl
  body_is_back (neg a) = ap neg (body_is_back a)
  body_is_back (op o a b) = λ i. op (op_is_back o i) (body_is_back a i) (body_is_back b i)
  body_is_back (choice c a b p q) = λ i. choice (cmp_is_back c i) (body_is_back a i) (body_is_back b i) (body_is_back p i) (body_is_back q i)
  body_is_back (total a b e) = λ i. total (body_is_back a i) (body_is_back b i) (body_is_back e i)
  body_is_back (product a b e) = λ i. product (body_is_back a i) (body_is_back b i) (body_is_back e i)
  body_is_back (iterate a b e) = λ i. iterate (body_is_back a i) (body_is_back b i) (body_is_back e i)
  body_is_back (call k out args) = ap (call k out) (bodies_are_back args)

  -- arguments come back
  pub bodies_are_back : (bs : BodyTrees) → bodies_back (code_bodies bs) ≡ bs
  bodies_are_back none = refl
  bodies_are_back (more a rest) = λ i. more (body_is_back a i) (bodies_are_back rest i)

-- bodies can be told apart by their codes
abbrev pub coded_body : Coded BodyTree
coded_body = record { code = code_body; inj = λ x y p. sym (body_is_back x) ∙ ap body_back p ∙ body_is_back y }

-- and so can equations
abbrev pub coded_sides : Coded Sides
coded_sides =
    code_by (BodyTree × BodyTree) (coded× coded_body coded_body) (λ e. (e.left, e.right)) (λ p. record { left = p.0; right = p.1 }) (λ _. refl)
