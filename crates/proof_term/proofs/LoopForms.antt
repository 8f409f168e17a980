-- The forms of loop, once their first two parts have values.
use Rattle.std.proofs.Common.{◌≡◌, ℕ, pos, Ok, sym, ap, ◌∙◌}
use Rattle.priz_frac.specs.Ratio.{Ratio}
use Rattle.priz_frac.specs.Whole.{whole_of, whole}
use Rattle.body_lang.specs.declared.op.Op.TheVariants.{Add, Mul}
use Rattle.body_lang.specs.declared.body.Body.{Body}
use Rattle.body_lang.specs.declared.body.Body.TheViews as views
use Rattle.body_lang.specs.BodyTree.{BodyTree}
use Rattle.body_lang.specs.View.{body_tree}
use Rattle.body_lang.specs.Precision.{narrowly}
use Rattle.body_lang.specs.Meaning.{Calls}
use Rattle.body_lang.specs.Rounds.{rounds_between, replacements_for}
use Rattle.body_lang.specs.Run.{Ran, then_with, then_both}
use Rattle.body_lang.proofs.BodyTrees.{total_tree, product_tree, iterate_tree}
use Rattle.proof_term.specs.declared.evaluate.Frame.{Frame}
use Rattle.proof_term.specs.steps.Agrees.{means, repeated_part}

-- where both parts have values, the run goes on with them
both_go : (r : Ran) (s : ℕ → Ran) (go : Ratio → Ratio → ℕ → Ran) (x y : Ratio) (u v : ℕ) → r ≡ Ok (x, u) → s u ≡ Ok (y, v) → then_both r s go ≡ go x y v
both_go r s go x y u v ea eb =
    ap (λ q. then_both q s go) ea ∙ ap (λ q. then_with q (λ z rest. go x z rest)) eb

module _ (owner : ℕ) (calls : Calls) (f : Frame) where
  abbrev runs : BodyTree → ℕ → Ran
  runs = means owner calls f

  abbrev each : Body → Ratio → ℕ → Ran
  each e = repeated_part owner calls f (body_tree e)

  module _ (body a b e : Body) (x y start : Ratio) (t u v : ℕ) (ea : runs (body_tree a) t ≡ Ok (x, u)) (eb : runs (body_tree b) u ≡ Ok (y, v)) where
    pub sum_is : body ≡ views.Sum a b e → start ≡ whole (pos 0) → runs (body_tree body) t ≡ rounds_between narrowly owner (each e) Add start (whole_of x) (whole_of y) v
    sum_is is zero =
        ap (λ o. runs (body_tree o) t) is ∙ ap (λ o. runs o t) (total_tree a b e)
        ∙ both_go (runs (body_tree a) t) (runs (body_tree b)) (λ p q rest. rounds_between narrowly owner (each e) Add (whole (pos 0)) (whole_of p) (whole_of q) rest) x y u v ea eb
        ∙ ap (λ s. rounds_between narrowly owner (each e) Add s (whole_of x) (whole_of y) v) (sym zero)

    pub product_is : body ≡ views.Prod a b e → start ≡ whole (pos 1) → runs (body_tree body) t ≡ rounds_between narrowly owner (each e) Mul start (whole_of x) (whole_of y) v
    product_is is one =
        ap (λ o. runs (body_tree o) t) is ∙ ap (λ o. runs o t) (product_tree a b e)
        ∙ both_go (runs (body_tree a) t) (runs (body_tree b)) (λ p q rest. rounds_between narrowly owner (each e) Mul (whole (pos 1)) (whole_of p) (whole_of q) rest) x y u v ea eb
        ∙ ap (λ s. rounds_between narrowly owner (each e) Mul s (whole_of x) (whole_of y) v) (sym one)

    pub iteration_is : body ≡ views.Iter a b e → runs (body_tree body) t ≡ replacements_for narrowly owner (each e) x (whole_of y) v
    iteration_is is =
        ap (λ o. runs (body_tree o) t) is ∙ ap (λ o. runs o t) (iterate_tree a b e)
        ∙ both_go (runs (body_tree a) t) (runs (body_tree b)) (λ p q rest. replacements_for narrowly owner (each e) p (whole_of q) rest) x y u v ea eb
