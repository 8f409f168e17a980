-- Which variables stand in an equation once, as two sets say it.
use Rattle.std.proofs.Common.{◌≡◌, ◌↔◌, ℕ, ◌+◌, ◌-◌, ◌^◌, ◌≤◌, ⊎_elim, inl, inr, Bool, true, false, cond, min, List, [], ◌∷◌, ◌++◌, length, refl, sym, ap, ◌∙◌, subst, arith}
use Rattle.std.specs.Prelude.{Contains, IsTrue, not, ◌==◌}
use Rattle.std.specs.List.{filter, list_any}
use Rattle.std.proofs.Math.ListN.{length-append}
use Rattle.std.proofs.lemmas.Bool.{cases_lt, eqb-true, eq-eqb, ne_eqb}
use Rattle.std.proofs.lemmas.List.{length-map}
use Rattle.std.proofs.lemmas.List.Elements.{filter-append}
use Rattle.std.proofs.lemmas.List.Folds.{list_any_at, Any-from_list_any}
use Rattle.priz_base.specs.Sets.{Adds}
use Rattle.priz_base.proofs.Members.{contains_none}
use Rattle.body_lang.specs.Equations.{Sides}
use Rattle.body_lang.specs.Occurrences.{occurrences_in}
use Rattle.statement_set.specs.Problem.{IsEquationOver}
use Rattle.equation_statements.specs.declared.counts.Sightings.{Sightings}
use Rattle.equation_statements.specs.SolvingStatements.{variables_in, variables_on, stand_once, solving_statement, solving_statements}
use Rattle.equation_statements.specs.steps.Places.{times}
use Rattle.equation_statements.specs.steps.Sightings.{IsSeen}
use Rattle.equation_statements.proofs.Times.{one_if, times_cons}
use Rattle.equation_statements.proofs.Occurring.{occurrences_on}
use Rattle.equation_statements.proofs.Solving.{stands_once, few_statements}

-- nothing was seen yet
pub none_seen : (once again : List ℕ) → once ≡ [] → again ≡ [] → (v : ℕ) → IsSeen (record { once = once; again = again }) v 0
none_seen once again no_one nobody v = record {
  once = (λ c. absurd (contains_none v (subst (λ vs. Contains vs v) no_one c)), λ le. absurd (omega (arith, le)));
  again = (λ c. absurd (contains_none v (subst (λ vs. Contains vs v) nobody c)), λ le. absurd (omega (arith, le)));
}

module _ (s : Sightings) (i : ℕ) where
  -- a variable that was seen is seen again
  pub seen_again :
      (more : List ℕ) → Contains s.once i → Adds s.again more i → (v n : ℕ) → IsSeen s v n
      → IsSeen (record { once = s.once; again = more }) v (n + one_if (i == v))
  seen_again more there adds v n h = by (i == v) refl
    where
      by : (b : Bool) → (i == v) ≡ b → IsSeen (record { once = s.once; again = more }) v (n + one_if b)
      by true e =
          let own = eqb-true i v e in
          let known = subst (Contains s.once) own there in
          let some = h.once.0 known in
          record {
            once = (λ c. omega arith, λ le. known);
            again = (λ c. omega (arith, some), λ le. (adds v).1 (inl (sym own)));
          }
      by false e = record {
        once = (λ c. omega (arith, h.once.0 c), λ le. h.once.1 (omega (arith, le)));
        again = (
          λ c. ⊎_elim (λ same. let wrong = sym e ∙ eq-eqb i v (sym same) in absurd (cc)) (λ old. omega (arith, h.again.0 old)) ((adds v).0 c),
          λ le. (adds v).1 (inr (h.again.1 (omega (arith, le)))),
        );
      }

  -- one that wasn't is seen for the first time
  pub seen_once :
      (more : List ℕ) → (Contains s.once i → ⊥) → Adds s.once more i → (v n : ℕ) → IsSeen s v n
      → IsSeen (record { once = more; again = s.again }) v (n + one_if (i == v))
  seen_once more new adds v n h = by (i == v) refl
    where
      by : (b : Bool) → (i == v) ≡ b → IsSeen (record { once = more; again = s.again }) v (n + one_if b)
      by true e =
          let own = eqb-true i v e in
          let none : n ≡ 0 = ⊎_elim (λ some. absurd (new (subst (Contains s.once) (sym own) (h.once.1 some)))) (λ le. omega (arith, le)) (cases_lt 0 n) in
          record {
            once = (λ c. omega arith, λ le. (adds v).1 (inl (sym own)));
            again = (λ c. absurd (omega (arith, none, h.again.0 c)), λ le. absurd (omega (arith, none, le)));
          }
      by false e = record {
        once = (
          λ c. ⊎_elim (λ same. let wrong = sym e ∙ eq-eqb i v (sym same) in absurd (cc)) (λ old. omega (arith, h.once.0 old)) ((adds v).0 c),
          λ le. (adds v).1 (inr (h.once.1 (omega (arith, le)))),
        );
        again = (λ c. omega (arith, h.again.0 c), λ le. h.again.1 (omega (arith, le)));
      }

-- a number stands in a list where the test finds it
any_contains : (vs : List ℕ) (v : ℕ) → list_any (λ u. u == v) vs ≡ true → Contains vs v
any_contains vs v found =
    let at = Any-from_list_any (λ u. u == v) vs found in
    let same = eqb-true at.1 v at.4 in
    subst (Contains vs) same (at.0, at.2, at.3)

contains_any : (vs : List ℕ) (v : ℕ) → Contains vs v → list_any (λ u. u == v) vs ≡ true
contains_any vs v c = list_any_at (λ u. u == v) vs c.0 v c.1 (eq-eqb _ v c.2)

abbrev pub is_out : List ℕ → ℕ → Bool
is_out vs w = not (list_any (λ u. u == w) vs)

-- a test of the set is that of the list
pub out_is : (vs : List ℕ) (v : ℕ) (b : Bool) → (IsTrue b ↔ Contains vs v) → not b ≡ is_out vs v
out_is vs v b h = ap not (by b (list_any (λ u. u == v) vs) refl h)
  where
    by : (b t : Bool) → list_any (λ u. u == v) vs ≡ t → (IsTrue b ↔ Contains vs v) → b ≡ t
    by true true e h = refl
    by true false e h = let found = contains_any vs v (h.0 refl) in absurd (cc)
    by false true e h = let wrong = h.1 (any_contains vs v e) in absurd (cc)
    by false false e h = refl

pub out_append :
    (vs xs ys : List ℕ)
    → length (filter (is_out vs) (xs ++ ys)) ≡ length (filter (is_out vs) xs) + length (filter (is_out vs) ys)
out_append vs xs ys = ap length (filter-append (is_out vs) xs ys) ∙ length-append (filter (is_out vs) xs) (filter (is_out vs) ys)

-- tests that agree on the elements keep the same
filter_same :
    (p q : ℕ → Bool) (xs : List ℕ) → ((x : ℕ) → 1 ≤ times x xs → p x ≡ q x) → filter p xs ≡ filter q xs
filter_same p q [] agree = refl
filter_same p q (x ∷ xs) agree =
    let own = ap one_if (eq-eqb x x refl) in
    let rest = filter_same p q xs (λ y some. agree y (omega (arith, some, times_cons y x xs))) in
    let here = agree x (omega (arith, own, times_cons x x xs)) in
    ap (λ b. cond b (x ∷ filter p xs) (filter p xs)) here ∙ ap (λ ys. cond (q x) (x ∷ ys) ys) rest

-- of a variable that stands there, the set of those seen twice or more says whether it stands there once
out_once :
    (e : Sides) (s : Sightings) (w : ℕ) → IsSeen s w (occurrences_in w e) → 1 ≤ occurrences_in w e
    → is_out s.again w ≡ stands_once e w
out_once e s w h some = by (list_any (λ u. u == w) s.again) refl
  where
    by : (b : Bool) → list_any (λ u. u == w) s.again ≡ b → not b ≡ stands_once e w
    by true found = sym (ne_eqb (occurrences_in w e) 1 (λ one. omega (arith, one, h.again.0 (any_contains s.again w found))))
    by false out =
        ⊎_elim
        (λ two. let found = contains_any s.again w (h.again.1 two) in absurd (cc))
        (λ le. sym (eq-eqb (occurrences_in w e) 1 (omega (arith, le, some))))
        (cases_lt 1 (occurrences_in w e))

-- so it leaves as many as there are statements
pub out_statements :
    (e : Sides) → IsEquationOver 1024 e → (s : Sightings) → ((w : ℕ) → IsSeen s w (occurrences_in w e))
    → length (filter (is_out s.again) (variables_on e)) ≡ length (solving_statements e)
out_statements e over s seen =
    ap length (filter_same (is_out s.again) (stands_once e) (variables_on e) (λ w some. out_once e s w (seen w) (omega (arith, some, occurrences_on w e over.arithmetic))))
    ∙ sym (length-map (stand_once e) (solving_statement e))

-- in two parts, counted up to the last value
pub out_count :
    (e : Sides) → IsEquationOver 1024 e → (s : Sightings) → ((w : ℕ) → IsSeen s w (occurrences_in w e))
    → (left right sum : ℕ)
    → left ≡ min (2 ^ 64 - 1) (length (filter (is_out s.again) (variables_in e.left)))
    → right ≡ min (2 ^ 64 - 1) (length (filter (is_out s.again) (variables_in e.right)))
    → sum ≡ min (left + right) (2 ^ 64 - 1)
    → sum ≡ length (solving_statements e)
out_count e over s seen left right sum is_left is_right is_sum =
    omega (arith, is_left, is_right, is_sum, out_append s.again (variables_in e.left) (variables_in e.right), out_statements e over s seen, few_statements e over)
