-- The exact value of arithmetic, apart from statements, calls, loops and turns.
use Rattle.std.proofs.Common.{◌≡◌, ◌↔◌, ℕ, List, [], Result, Ok, Err, refl, sym, ap, ◌∙◌}
use Rattle.priz_frac.specs.Ratio.{Ratio}
use Rattle.priz_frac.specs.Arithmetic.{negative_of}
use Rattle.priz_frac.specs.declared.fault.FracFault.{FracFault}
use Rattle.priz_frac.specs.declared.fault.FracFault.TheVariants.{ZeroDivisor}
use Rattle.body_lang.specs.declared.op.Op.{Op}
use Rattle.body_lang.specs.BodyTree.{BodyTree, num, input, neg, op}
use Rattle.body_lang.specs.Equations.{IsArithmetic}
use Rattle.body_lang.specs.ExactValue.{HasValue, no_calls}
use Rattle.body_lang.specs.Meaning.{Calls, mean}
use Rattle.body_lang.specs.Precision.{exactly}
use Rattle.body_lang.specs.Operation.{operate, as_run}
use Rattle.body_lang.specs.Run.{Ran, then_with, then_both}
use Rattle.body_lang.specs.Values.{value_at}
use Rattle.body_lang.proofs.Arithmetic.{by_form}

abbrev pub negated : Result Ratio FracFault → Result Ratio FracFault
negated (Ok x) = Ok (negative_of x)
negated (Err e) = Err e

abbrev pub operated : Op → Result Ratio FracFault → Result Ratio FracFault → Result Ratio FracFault
operated o (Ok x) (Ok y) = operate exactly o x y
operated o (Ok x) (Err e) = Err e
operated o (Err e) s = Err e

-- the value, or the first fault
abbrev pub value_of : List Ratio → BodyTree → Result Ratio FracFault
value_of row (num x) = Ok x
value_of row (input i) = Ok (value_at row i)
value_of row (neg a) = negated (value_of row a)
value_of row (op o a b) = operated o (value_of row a) (value_of row b)
value_of row _ = Err ZeroDivisor

module _ (owner : ℕ) (calls : Calls) (row locals : List Ratio) where
  negated_run : (t : ℕ) (r : Result Ratio FracFault) → then_with (as_run owner t r) (λ x left. Ok (negative_of x, left)) ≡ as_run owner t (negated r)
  negated_run t (Ok x) = refl
  negated_run t (Err e) = refl

  operated_run : (o : Op) (t : ℕ) (r s : Result Ratio FracFault) → then_both (as_run owner t r) (λ left. as_run owner left s) (λ x y left. as_run owner left (operate exactly o x y)) ≡ as_run owner t (operated o r s)
  operated_run o t (Ok x) (Ok y) = refl
  operated_run o t (Ok x) (Err e) = refl
  operated_run o t (Err e) s = refl

  both_runs : (o : Op) (t : ℕ) (first : Ran) (second : ℕ → Ran) (r s : Result Ratio FracFault) → first ≡ as_run owner t r → ((u : ℕ) → second u ≡ as_run owner u s) → then_both first second (λ x y left. as_run owner left (operate exactly o x y)) ≡ as_run owner t (operated o r s)
  both_runs o t first second (Ok x) s e f =
      ap (λ (m : Ran). then_both m second (λ x y left. as_run owner left (operate exactly o x y))) e
      ∙ ap (λ (m : Ran). then_with m (λ y left. as_run owner left (operate exactly o x y))) (f t)
      ∙ operated_run o t (Ok x) s
  both_runs o t first second (Err x) s e f =
      ap (λ (m : Ran). then_both m second (λ x y left. as_run owner left (operate exactly o x y))) e

  abbrev IsMeant : BodyTree → Type 0
  IsMeant b = (t : ℕ) → mean exactly owner calls row b locals t ≡ as_run owner t (value_of row b)

  meant_negative : (a : BodyTree) → IsMeant a → IsMeant (neg a)
  meant_negative a f t =
      ap (λ (m : Ran). then_with m (λ x left. Ok (negative_of x, left))) (f t) ∙ negated_run t (value_of row a)

  pub mean_is : (b : BodyTree) → IsArithmetic b → IsMeant b
  mean_is =
      by_form IsMeant (λ x t. refl) (λ i t. refl) (λ a h f. meant_negative a f)
      (λ o a b h k f g t. both_runs o t _ _ (value_of row a) (value_of row b) (f t) g)

value_in_run : (owner t : ℕ) (r : Result Ratio FracFault) (x : Ratio) → as_run owner t r ≡ Ok (x, t) → r ≡ Ok x
value_in_run owner t (Ok y) x e = ap first e
  where
    first : Ran → Result Ratio FracFault
    first (Ok v) = Ok v.0
    first (Err s) = Err ZeroDivisor
value_in_run owner t (Err f) x e = absurd (cc)

pub value_from : (row : List Ratio) (b : BodyTree) (x : Ratio) → IsArithmetic b → HasValue row b x → value_of row b ≡ Ok x
value_from row b x h e = value_in_run 0 0 (value_of row b) x (sym (mean_is 0 no_calls row [] b h 0) ∙ e)

value_to : (row : List Ratio) (b : BodyTree) (x : Ratio) → IsArithmetic b → value_of row b ≡ Ok x → HasValue row b x
value_to row b x h e = mean_is 0 no_calls row [] b h 0 ∙ ap (as_run 0 0) e

-- the same in every statement, in any loops, whatever answers calls, and however many turns are left
pub one_exact_value : (owner : ℕ) (calls : Calls) (row : List Ratio) (b : BodyTree) → IsArithmetic b → (locals : List Ratio) (turns : ℕ) (x : Ratio) → HasValue row b x ↔ (mean exactly owner calls row b locals turns ≡ Ok (x, turns))
one_exact_value owner calls row b h locals turns x = (
  λ e. mean_is owner calls row locals b h turns ∙ ap (as_run owner turns) (value_from row b x h e),
  λ e. value_to row b x h (value_in_run owner turns (value_of row b) x (sym (mean_is owner calls row locals b h turns) ∙ e)),
)
