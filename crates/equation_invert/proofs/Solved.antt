-- What is known of an answer that is the inverse.
use Rattle.std.proofs.Common.{◌≡◌, ℕ, Option, Some, None, Result, Ok, Err, sym}
use Rattle.std.specs.Prelude.{IfOk, IfSome}
use Rattle.std.specs.Option.{option_map}
use Rattle.body_lang.specs.declared.body.Body.{Body}
use Rattle.body_lang.specs.Equations.{Sides, AreArithmetic}
use Rattle.body_lang.specs.ExactValue.{NumbersAreFractions, SolvesFor}
use Rattle.body_lang.specs.Inverse.{inverse}
use Rattle.body_lang.specs.Occurrences.{occurrences}
use Rattle.body_lang.specs.View.{body_tree}
use Rattle.body_lang.proofs.Inverses.{inverse_without, inverse_solves}

module _ (v : ℕ) (e : Sides) (arithmetic : AreArithmetic e) {E : Type 0} where
  abbrev IsInverse : Result (Option Body) E → Type 0
  IsInverse r = IfOk r (λ b. option_map body_tree b ≡ inverse v e)

  pub answer_without : (r : Result (Option Body) E) → IsInverse r → IfOk r (λ b. IfSome b (λ x. occurrences v (body_tree x) ≡ 0))
  answer_without (Ok (Some x)) h = inverse_without e v (body_tree x) arithmetic (sym h)
  answer_without (Ok None) h = tt
  answer_without (Err no_memory) h = tt

  pub answer_solves : NumbersAreFractions e → (r : Result (Option Body) E) → IsInverse r → IfOk r (λ b. IfSome b (λ x. SolvesFor e v (body_tree x)))
  answer_solves n (Ok (Some x)) h = inverse_solves e v (body_tree x) arithmetic n (sym h)
  answer_solves n (Ok None) h = tt
  answer_solves n (Err no_memory) h = tt
