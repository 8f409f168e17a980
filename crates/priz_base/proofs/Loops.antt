-- A loop that leaves at the first element for which a fact fails.
use Rattle.std.proofs.Common.{◌≡◌, ◌↔◌, ℕ, ◌+◌, ◌<◌, ◌≤◌, Bool, true, false, IsTrue, List, length, get_or, take, refl, sym, subst}
use Rattle.std.specs.Prelude.{All}
use Rattle.std.proofs.lemmas.List.{take_all}
use Rattle.std.proofs.lemmas.List.Elements.{All-get_or, All-more}
use Rattle.priz_base.proofs.Deciding.{not_so}

module _ {X : Type 0} (P : X → Type 0) (xs : List X) (i : ℕ) where
  pub all_so_far : (x : X) (r : Bool) → i < length xs → x ≡ get_or xs i x → IsTrue r ↔ P x → r ≡ true → All P (take i xs) → All P (take (i + 1) xs)
  all_so_far x r lt is test held h = All-more P xs i x lt h (subst P is (test.0 held))

  pub all_refused : (x : X) (r : Bool) → i < length xs → x ≡ get_or xs i x → IsTrue r ↔ P x → r ≡ false → IsTrue false ↔ All P xs
  all_refused x r lt is test says = (λ e. absurd (cc), λ h. absurd (not_so r test says (subst P (sym is) (All-get_or P xs i x lt h))))

  pub all_passed : length xs ≤ i → All P (take i xs) → IsTrue true ↔ All P xs
  all_passed le h = (λ e. rw (take_all i xs le) at h, λ q. refl)
