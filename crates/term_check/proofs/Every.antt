-- What a test of every element of a list answers.
use Rattle.std.proofs.Common.{◌↔◌, ◌<◌, ℕ, Bool, true, false, IsTrue, MatchBool, List, [], ◌∷◌, length, refl, arith}
use Rattle.std.specs.Prelude.{All}
use Rattle.std.specs.List.{HoldsAt, AllWithin}
use Rattle.std.proofs.lemmas.List.Elements.{All-from_all_within, All-weaker}

-- the test said true of each element, or it said false of one
pub every : {X : Type 0} (P : X → Type 0) (xs : List X) (r : Bool) → MatchBool r (AllWithin (λ x. IsTrue true ↔ P x) xs 0 (length xs)) ((k : ℕ) × (k < length xs) × HoldsAt (λ x. IsTrue false ↔ P x) xs k) → IsTrue r ↔ All P xs
every P xs true h = (λ e. All-weaker (λ x. IsTrue true ↔ P x) P (λ x d. d.0 refl) xs (All-from_all_within (λ x. IsTrue true ↔ P x) xs h), λ a. refl)
every P [] false h = absurd (omega (arith, h.1))
every P (x ∷ xs) false h = (λ e. absurd (cc), λ a. (h.2 x).1 (a h.0 x h.1))
