-- The bit that stands for a variable.
use Rattle.std.proofs.Common.{◌≡◌, ◌↔◌, ℕ, Bool, true, false, IsTrue, List, refl}
use Rattle.std.specs.Prelude.{Contains, nat_eq, if◌then◌else◌}
use Rattle.std.specs.List.{list_any}
use Rattle.std.proofs.lemmas.Map.Views.{list_any-from_Contains, Contains-from_any}
use Rattle.std.proofs.lemmas.Bool.{eqb-true}
use Rattle.std.proofs.lemmas.Cmp.{nat_eq_equiv}
use Rattle.cert_text.specs.WorldText.{bit_of}

pub member_bit : (w : List ℕ) (v : ℕ) (r : Bool) → IsTrue r ↔ Contains w v → r ≡ true → 1 ≡ bit_of w v
member_bit w v r test held = rw (list_any-from_Contains nat_eq_equiv v w (test.0 held)) refl

zero_of : (b : Bool) → (b ≡ true → ⊥) → ◌≡◌ {A = ℕ} 0 (if b then 1 else 0)
zero_of true h = absurd (h refl)
zero_of false h = refl

pub other_bit : (w : List ℕ) (v : ℕ) (r : Bool) → IsTrue r ↔ Contains w v → r ≡ false → 0 ≡ bit_of w v
other_bit w v r test held =
    zero_of (list_any (nat_eq v) w) (λ e. let t = test.1 (Contains-from_any (λ x y q. eqb-true x y q) v w e) in absurd (cc))
