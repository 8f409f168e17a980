use Rattle.std.proofs.Common.{◌≡◌, ◌↔◌, ℕ, List, IsTrue, Bool, sym}
use Rattle.std.specs.Prelude.{Contains}
use Rattle.std.proofs.lemmas.List.Elements.{All-weaker, All-contains, All-contains_itself}
use Rattle.priz_base.specs.Sets.{IsWithin}
use Rattle.concept_rules.proofs.line.Line.is_within.Goals as goal

within :
    (xs ys us vs : List ℕ) → ((n : ℕ) → Contains us n → Contains xs n)
    → ((n : ℕ) → Contains ys n → Contains vs n) → IsWithin xs ys → IsWithin us vs
within xs ys us vs f g w =
    All-weaker (Contains us) (Contains vs) (λ n c. g n (All-contains (Contains ys) xs n w (f n c))) us (All-contains_itself us)

same_answer :
    (xs us ys vs now other : List ℕ) (r : Bool) → now ≡ us → other ≡ vs
    → (IsTrue r ↔ IsWithin xs ys) → ((n : ℕ) → Contains xs n ↔ Contains us n)
    → ((n : ℕ) → Contains ys n ↔ Contains vs n) → IsTrue r ↔ IsWithin now other
same_answer xs us ys vs now other r is are h ours theirs = rw (is, are) (
  λ t. within xs ys us vs (λ n c. (ours n).1 c) (λ n c. (theirs n).0 c) (h.0 t),
  λ w. h.1 (within us vs xs ys (λ n c. (ours n).0 c) (λ n c. (theirs n).1 c) w),
)

pub returns : goal.returns
returns c =
    same_answer _ _ _ _ _ _ _ (sym c.self.view_is) (sym c.other.view_is) c.is_within.ensures c.self.invariant.0 c.other.invariant.0
