-- Equations and comparisons of whole numbers through their positive multiples.
use Rattle.std.proofs.Common.{◌≡◌, ℕ, zero, suc, ◌+◌, ◌*◌, ◌<◌, ◌≤◌, Bool, true, false, ℤ, pos, negsuc, refl, sym, ap, ◌∙◌, subst, arith}
use Rattle.std.specs.Prelude.{◌+ℤ◌, ◌*ℤ◌, neg_ℤ, int_lt}
use Rattle.std.specs.Ordering.{int_cmp}
use Rattle.std.proofs.Math.Nat.{mul-pos, mul-lt-mul_of_pos_right, lt_of_mul-lt-mul_right, mul-le-mul_right, le_of_mul-le-mul_right}
use borrow.Author.Differences.{up, down, same_in, sum_is_lem, product_is, neg_is, lt-true, lt-false, true_is_lt, false_is_lt}

-- the two parts of a multiple of z
times_parts : (z : ℤ) (d : ℕ) → (up (z *ℤ pos d) ≡ up z * d) × (down (z *ℤ pos d) ≡ down z * d)
times_parts (pos n) d = omega arith
times_parts (negsuc n) d = omega (arith, neg_is (pos (suc n * d)))

-- the parts of two equal multiples
pub equal_parts : (a x : ℤ) (d k : ℕ) → a *ℤ pos d ≡ x *ℤ pos k → (up a * d ≡ up x * k) × (down a * d ≡ down x * k)
equal_parts a x d k h =
    let p = times_parts a d in
    let q = times_parts x k in
    (sym p.0 ∙ ap up h ∙ q.0, sym p.1 ∙ ap down h ∙ q.1)

-- multiples are equal where their parts are
pub multiples : (a x : ℤ) (d k : ℕ) → up a * d + down x * k ≡ up x * k + down a * d → a *ℤ pos d ≡ x *ℤ pos k
multiples a x d k h = same_in _ _ (omega (arith, times_parts a d, times_parts x k, h))

pub times : (k m n : ℕ) → m ≡ n → m * k ≡ n * k
times k m n e = ap (λ x. x * k) e

pub sum_parts : (a b : ℤ) (l k : ℕ) → up (a *ℤ pos l +ℤ b *ℤ pos k) + down a * l + down b * k ≡ down (a *ℤ pos l +ℤ b *ℤ pos k) + up a * l + up b * k
sum_parts a b l k = omega (arith, sum_is_lem (a *ℤ pos l) (b *ℤ pos k), times_parts a l, times_parts b k)

pub sums_across : (a b x y : ℤ) (k l d e : ℕ) → a *ℤ pos d ≡ x *ℤ pos k → b *ℤ pos e ≡ y *ℤ pos l → (a *ℤ pos l +ℤ b *ℤ pos k) *ℤ pos (d * e) ≡ (x *ℤ pos e +ℤ y *ℤ pos d) *ℤ pos (k * l)
sums_across a b x y k l d e h j =
    let p = equal_parts a x d k h in
    let q = equal_parts b y e l j in
    let left = times (d * e) _ _ (sum_parts a b l k) in
    let right = times (k * l) _ _ (sum_parts x y e d) in
    multiples _ _ (d * e) (k * l)
    (omega (arith, left, right, times (l * e) _ _ p.0, times (l * e) _ _ p.1, times (k * d) _ _ q.0, times (k * d) _ _ q.1))

factors : (a b m n : ℕ) → a ≡ b → m ≡ n → a * m ≡ b * n
factors a b m n e f = ap (λ x. x * m) e ∙ ap (λ x. b * x) f

pub products_across : (a b x y : ℤ) (k l d e : ℕ) → a *ℤ pos d ≡ x *ℤ pos k → b *ℤ pos e ≡ y *ℤ pos l → (a *ℤ b) *ℤ pos (d * e) ≡ (x *ℤ y) *ℤ pos (k * l)
products_across a b x y k l d e h j =
    let p = equal_parts a x d k h in
    let q = equal_parts b y e l j in
    let m = product_is a b in
    let n = product_is x y in
    multiples _ _ (d * e) (k * l)
    (omega (
      arith,
      times (d * e) _ _ m.0,
      times (d * e) _ _ m.1,
      times (k * l) _ _ n.0,
      times (k * l) _ _ n.1,
      factors _ _ _ _ p.0 q.0,
      factors _ _ _ _ p.1 q.1,
      factors _ _ _ _ p.0 q.1,
      factors _ _ _ _ p.1 q.0,
    ))

pub neg-times : (z : ℤ) (d : ℕ) → neg_ℤ z *ℤ pos d ≡ neg_ℤ (z *ℤ pos d)
neg-times z d =
    let n = neg_is z in
    same_in _ _ (omega (arith, times_parts (neg_ℤ z) d, times_parts z d, times d _ _ n.0, times d _ _ n.1, neg_is (z *ℤ pos d)))

pub negatives_across : (a x : ℤ) (k d : ℕ) → a *ℤ pos d ≡ x *ℤ pos k → neg_ℤ a *ℤ pos d ≡ neg_ℤ x *ℤ pos k
negatives_across a x k d h = neg-times a d ∙ ap neg_ℤ h ∙ sym (neg-times x k)

pub times-neg : (a b : ℤ) → a *ℤ neg_ℤ b ≡ neg_ℤ (a *ℤ b)
times-neg a b =
    let n = neg_is b in
    same_in _ _
    (omega (
      arith,
      product_is a (neg_ℤ b),
      product_is a b,
      neg_is (a *ℤ b),
      times (up a) _ _ n.0,
      times (up a) _ _ n.1,
      times (down a) _ _ n.0,
      times (down a) _ _ n.1,
    ))

pub sides_across : (a x : ℤ) (k d l e m n : ℕ) → a *ℤ pos d ≡ x *ℤ pos k → m ≡ d * e → n ≡ k * l → (a *ℤ pos l) *ℤ pos m ≡ (x *ℤ pos e) *ℤ pos n
sides_across a x k d l e m n h i j =
    let p = equal_parts a x d k h in
    let q = times_parts a l in
    let r = times_parts x e in
    subst (λ (m : ℕ). (a *ℤ pos l) *ℤ pos m ≡ (x *ℤ pos e) *ℤ pos n) (sym i)
    (subst (λ (n : ℕ). (a *ℤ pos l) *ℤ pos (d * e) ≡ (x *ℤ pos e) *ℤ pos n) (sym j)
    (multiples _ _ (d * e) (k * l)
    (omega (
      arith,
      times (d * e) _ _ q.0,
      times (d * e) _ _ q.1,
      times (k * l) _ _ r.0,
      times (k * l) _ _ r.1,
      times (l * e) _ _ p.0,
      times (l * e) _ _ p.1,
    ))))

pub zero_multiple : (a x : ℤ) (d k : ℕ) → 0 < k → a *ℤ pos d ≡ x *ℤ pos k → a ≡ pos 0 → x ≡ pos 0
zero_multiple a x d k p h e = by_sign x (equal_parts (pos 0) x d k (subst (λ (z : ℤ). z *ℤ pos d ≡ x *ℤ pos k) e h))
  where
    by_sign : (x : ℤ) → (0 * d ≡ up x * k) × (0 * d ≡ down x * k) → x ≡ pos 0
    by_sign (pos zero) h = refl
    by_sign (pos (suc n)) h = let f = mul-pos {m = suc n} {n = k} (omega arith) p in absurd (omega (arith, h.0, f))
    by_sign (negsuc n) h = let f = mul-pos {m = suc n} {n = k} (omega arith) p in absurd (omega (arith, h.1, f))

-- two sums compare as their multiples do
sums_lt : (a b x y m n : ℕ) → 0 < n → a * m ≡ x * n → b * m ≡ y * n → x < y → a < b
sums_lt a b x y m n p h j l =
    let g : x * n < y * n = mul-lt-mul_of_pos_right l p in
    lt_of_mul-lt-mul_right m (omega arith)

sums_le : (a b x y m n : ℕ) → 0 < m → a * m ≡ x * n → b * m ≡ y * n → x ≤ y → a ≤ b
sums_le a b x y m n p h j l =
    let g : x * n ≤ y * n = mul-le-mul_right n l in
    let f : a * m ≤ b * m = omega arith in
    le_of_mul-le-mul_right f p

lt-same : (a b x y : ℤ) (m n : ℕ) → 0 < m → 0 < n → a *ℤ pos m ≡ x *ℤ pos n → b *ℤ pos m ≡ y *ℤ pos n → int_lt a b ≡ int_lt x y
lt-same a b x y m n p q h j =
    let e = equal_parts a x m n h in
    let f = equal_parts b y m n j in
    let low : (up a + down b) * m ≡ (up x + down y) * n = omega (arith, e.0, f.1) in
    let high : (up b + down a) * m ≡ (up y + down x) * n = omega (arith, e.1, f.0) in
    by (int_lt x y) refl low high
  where
    by : (t : Bool) → int_lt x y ≡ t → (up a + down b) * m ≡ (up x + down y) * n → (up b + down a) * m ≡ (up y + down x) * n → int_lt a b ≡ int_lt x y
    by true g low high = sym (true_is_lt a b (sums_lt _ _ _ _ m n q low high (lt-true x y g))) ∙ sym g
    by false g low high = sym (false_is_lt a b (sums_le _ _ _ _ m n p high low (lt-false x y g))) ∙ sym g

-- numbers compare as their multiples do
pub cmp-same : (a b x y : ℤ) (m n : ℕ) → 0 < m → 0 < n → a *ℤ pos m ≡ x *ℤ pos n → b *ℤ pos m ≡ y *ℤ pos n → int_cmp a b ≡ int_cmp x y
cmp-same a b x y m n p q h j =
    let e = lt-same a b x y m n p q h j in
    let f = lt-same b a y x m n p q j h in
    cc
