-- Whether a number is one of so many from another on.
use Rattle.std.proofs.Common.{◌≡◌, ℕ, suc, ◌+◌, ◌<◌, ◌≤◌, Bool, true, false, refl, ◌⊎◌, inl, inr, ⊎_elim, leb-true, arith}
use Rattle.std.specs.Prelude.{◌&&◌, nat_le, nat_lt}
use Rattle.std.proofs.lemmas.Bool.{and_parts, both_ways}
use Rattle.std.proofs.lemmas.Bool.Decides.{nat_tests}
use borrow.Author.Tests.{ltb-true, ltb-false, leb-false}

-- the test, in either case
pub between : (at n size : ℕ) (b : Bool) → (b ≡ true → (at ≤ n) × (n < at + size)) → (b ≡ false → (n < at) ⊎ (at + size ≤ n)) → (nat_le at n && nat_lt n (at + size)) ≡ b
between at n size true h k = let g = h refl in let p = g.0 in let q = g.1 in grind (arith, nat_tests)
between at n size false h k = by (k refl)
  where
    by : (n < at) ⊎ (at + size ≤ n) → (nat_le at n && nat_lt n (at + size)) ≡ false
    by (inl p) = grind (arith, nat_tests)
    by (inr p) = grind (arith, nat_tests)

-- what it says where it holds, and where it doesn't
pub within_of : (at n size : ℕ) → (nat_le at n && nat_lt n (at + size)) ≡ true → (at ≤ n) × (n < at + size)
within_of at n size h =
    let tests = and_parts (nat_le at n) (nat_lt n (at + size)) h in
    (leb-true _ _ tests.0, ltb-true _ _ tests.1)

one_false : (a b : Bool) → (a && b) ≡ false → (a ≡ false) ⊎ (b ≡ false)
one_false true b e = inr e
one_false false b e = inl refl

pub outside_of : (at n size : ℕ) → (nat_le at n && nat_lt n (at + size)) ≡ false → (n < at) ⊎ (at + size ≤ n)
outside_of at n size h =
    ⊎_elim (λ f. inl (leb-false _ _ f)) (λ f. inr (ltb-false _ _ f)) (one_false (nat_le at n) (nat_lt n (at + size)) h)

pub within_is : (at n size : ℕ) (b : Bool) → b ≡ true → at ≤ n → n < at + size → (nat_le at n && nat_lt n (at + size)) ≡ b
within_is at n size b t low high = between at n size b (λ u. (low, high)) (λ u. absurd (both_ways b u t))

pub before_is : (at n size : ℕ) (b : Bool) → b ≡ false → n < at → (nat_le at n && nat_lt n (at + size)) ≡ b
before_is at n size b f lt = between at n size b (λ t. absurd (both_ways b f t)) (λ t. inl lt)

pub behind_is : (at n size : ℕ) (b : Bool) → b ≡ false → at + size ≤ n → (nat_le at n && nat_lt n (at + size)) ≡ b
behind_is at n size b f le = between at n size b (λ t. absurd (both_ways b f t)) (λ t. inr le)

-- the same test further on
pub shifted : (at m n k size : ℕ) (t : Bool) → n ≡ at + suc k → (nat_le m k && nat_lt k (m + size)) ≡ t → (nat_le (at + m + 1) n && nat_lt n (at + m + 1 + size)) ≡ t
shifted at m n k size true d h =
    let g = within_of m k size h in
    within_is (at + m + 1) n size true refl (omega (arith, g.0)) (omega (arith, g.1))
shifted at m n k size false d h =
    ⊎_elim (λ g. before_is (at + m + 1) n size false refl (omega (arith, g)))
    (λ g. behind_is (at + m + 1) n size false refl (omega (arith, g)))
    (outside_of m k size h)
