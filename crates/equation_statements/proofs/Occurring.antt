-- How often variables stand in an equation, as lists say it.
use Rattle.std.proofs.Common.{◌≡◌, ℕ, ◌<◌, ◌≤◌, [], refl, ap, arith}
use Rattle.std.specs.Prelude.{All}
use Rattle.std.proofs.lemmas.Bool.{eq-eqb}
use Rattle.std.proofs.lemmas.List.Elements.{All-append, All-cons}
use Rattle.body_lang.specs.BodyTree.{BodyTree}
use Rattle.body_lang.specs.BodyTree as body
use Rattle.body_lang.specs.Equations.{Sides, IsArithmetic, AreArithmetic}
use Rattle.body_lang.specs.Occurrences.{occurrences, occurrences_in}
use Rattle.body_lang.specs.Reads.{IsClosed}
use Rattle.body_lang.proofs.Arithmetic.{by_form}
use Rattle.statement_set.specs.Problem.{IsEquationOver}
use Rattle.equation_statements.specs.SolvingStatements.{renumbered, variables_in, variables_on}
use Rattle.equation_statements.specs.steps.Places.{times}
use Rattle.equation_statements.proofs.Times.{one_if, times_cons, times_append, all_times}

-- in arithmetic, each variable stands as often as among the variables
pub occurrences_times : (v : ℕ) (t : BodyTree) → IsArithmetic t → occurrences v t ≡ times v (variables_in t)
occurrences_times v =
    by_form (λ t. occurrences v t ≡ times v (variables_in t)) (λ x. refl) (λ i. omega (arith, times_cons v i []))
    (λ a h is. is)
    (λ o a b h k is also. omega (arith, is, also, times_append v (variables_in a) (variables_in b)))

pub occurrences_on : (v : ℕ) (e : Sides) → AreArithmetic e → occurrences_in v e ≡ times v (variables_on e)
occurrences_on v e h =
    omega (arith, occurrences_times v e.left h.0, occurrences_times v e.right h.1, times_append v (variables_in e.left) (variables_in e.right))

module _ (n : ℕ) where
  -- all variables of closed arithmetic are below n
  pub variables_below : (t : BodyTree) → IsArithmetic t → IsClosed n [] 0 t → All (λ v. v < n) (variables_in t)
  variables_below =
      by_form (λ t. IsClosed n [] 0 t → All (λ v. v < n) (variables_in t)) (λ x c k d lt. absurd (omega arith))
      (λ i c. All-cons (λ v. v < n) i [] c (λ k d lt. absurd (omega arith)))
      (λ a h is c. is c)
      (λ o a b h k is also c. All-append (λ v. v < n) (variables_in a) (variables_in b) (is c.0) (also c.1))

  pub all_below : (e : Sides) → IsEquationOver n e → All (λ v. v < n) (variables_on e)
  all_below e h =
      All-append (λ v. v < n) (variables_in e.left) (variables_in e.right) (variables_below e.left h.arithmetic.0 h.left) (variables_below e.right h.arithmetic.1 h.right)

  pub occurring_below : (e : Sides) → IsEquationOver n e → (v : ℕ) → 1 ≤ occurrences_in v e → v < n
  occurring_below e h v some =
      all_times (λ w. w < n) (variables_on e) (all_below e h) v (omega (arith, some, occurrences_on v e h.arithmetic))

  own : (i : ℕ) → 1 ≤ occurrences i (body.input i)
  own i = let one = ap one_if (eq-eqb i i refl) in omega (arith, one)

  -- arithmetic whose variables go by numbers below n is closed
  pub renumbered_closed : (f : ℕ → ℕ) (t : BodyTree) → IsArithmetic t → ((v : ℕ) → 1 ≤ occurrences v t → f v < n) → IsClosed n [] 0 (renumbered f t)
  renumbered_closed f =
      by_form (λ t. ((v : ℕ) → 1 ≤ occurrences v t → f v < n) → IsClosed n [] 0 (renumbered f t)) (λ x below. tt)
      (λ i below. below i (own i))
      (λ a h is below. is below)
      (λ o a b h k is also below. (is (λ v some. below v (omega (arith, some))), also (λ v some. below v (omega (arith, some)))))

  pub arithmetic_closed : (t : BodyTree) → IsArithmetic t → ((v : ℕ) → 1 ≤ occurrences v t → v < n) → IsClosed n [] 0 t
  arithmetic_closed =
      by_form (λ t. ((v : ℕ) → 1 ≤ occurrences v t → v < n) → IsClosed n [] 0 t) (λ x below. tt)
      (λ i below. below i (own i))
      (λ a h is below. is below)
      (λ o a b h k is also below. (is (λ v some. below v (omega (arith, some))), also (λ v some. below v (omega (arith, some)))))
