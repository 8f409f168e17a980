-- The extents of lists of paths.
use Rattle.std.proofs.Common.{◌≡◌, ℕ, zero, suc, ◌+◌, ◌*◌, ◌<◌, ◌≤◌, ◌⊎◌, ⊎_elim, inl, inr, List, [], ◌∷◌, ◌++◌, map, length, min, max, refl, sym, ap, ◌∙◌, length-append, arith}
use Rattle.std.specs.Prelude.{fold}
use Rattle.std.specs.List.{flat_map}
use Rattle.std.proofs.Math.Nat.{mul-le-mul_left, mul-le-mul_right}
use Rattle.std.proofs.lemmas.List.{length-map}
use Rattle.utopist_syntax.specs.Named.{Named}
use Rattle.canonical_paths.specs.PathNames.{PathNames}
use Rattle.canonical_paths.specs.DeclaredPaths.{variable_paths, most_segments}
use Rattle.canonical_paths.specs.Limits.{max_declared}
use Rattle.path_limits.specs.SegmentLimit.{max_segments}
use Rattle.path_limits.specs.declared.extent.PathExtent.{PathExtent}
use Rattle.path_limits.specs.Extents.{extent_of}

-- the most segments of these paths, and no fewer than so many
abbrev longest_from : ℕ → List PathNames → ℕ
longest_from n paths = fold (λ m p. max m (length p)) n paths

from_most : (n : ℕ) (paths : List PathNames) → longest_from n paths ≡ max n (most_segments paths)
from_most n [] = omega arith
from_most n (p ∷ paths) =
    let a : longest_from (max n (length p)) paths ≡ max (max n (length p)) (most_segments paths) = from_most (max n (length p)) paths in
    let b : longest_from (max 0 (length p)) paths ≡ max (max 0 (length p)) (most_segments paths) = from_most (max 0 (length p)) paths in
    a ∙ (omega (arith, b))

from_append : (n : ℕ) (xs ys : List PathNames) → longest_from n (xs ++ ys) ≡ longest_from (longest_from n xs) ys
from_append n [] ys = refl
from_append n (p ∷ xs) ys = from_append (max n (length p)) xs ys

pub most_append : (xs ys : List PathNames) → most_segments (xs ++ ys) ≡ max (most_segments xs) (most_segments ys)
most_append xs ys = from_append 0 xs ys ∙ from_most (most_segments xs) ys

-- one name more before each path
deeper : (name : List ℕ) (n m : ℕ) (paths : List PathNames) → m ≡ suc n → longest_from m (map (λ p. name ∷ p) paths) ≡ suc (longest_from n paths)
deeper name n m [] e = e
deeper name n m (p ∷ paths) e =
    let one : max m (suc (length p)) ≡ suc (max n (length p)) = omega (arith, e) in
    deeper name (max n (length p)) (max m (length (name ∷ p))) paths one

most_variable : (inside : List PathNames) (name : List ℕ) → most_segments (variable_paths inside name) ≡ suc (most_segments inside)
most_variable inside name = deeper name 0 (max 0 (length (name ∷ []))) inside (omega arith)

size_variable : (inside : List PathNames) (name : List ℕ) → length (variable_paths inside name) ≡ suc (length inside)
size_variable inside name = ap suc (length-map inside (λ p. name ∷ p))

-- the paths of variables
abbrev paths_of : List PathNames → List Named → List PathNames
paths_of inside names = flat_map (λ n. variable_paths inside n.text) names

size_names : (inside : List PathNames) (names : List Named) → length (paths_of inside names) ≡ length names * suc (length inside)
size_names inside [] = omega arith
size_names inside (n ∷ names) =
    let a = length-append (variable_paths inside n.text) (paths_of inside names) in
    let b = size_variable inside n.text in
    let r = size_names inside names in
    let e : length (variable_paths inside n.text ++ paths_of inside names) ≡ suc (length inside) + length names * suc (length inside) = omega (arith, a, b, r) in
    let f : suc (length inside) + length names * suc (length inside) ≡ suc (length names) * suc (length inside) = omega arith in
    e ∙ f

most_names : (inside : List PathNames) (n : Named) (names : List Named) → most_segments (paths_of inside (n ∷ names)) ≡ suc (most_segments inside)
most_names inside n [] =
    let a : most_segments (variable_paths inside n.text ++ []) ≡ max (most_segments (variable_paths inside n.text)) 0 = most_append (variable_paths inside n.text) [] in
    let b = most_variable inside n.text in
    a ∙ (omega (arith, b))
most_names inside n (m ∷ names) =
    let a = most_append (variable_paths inside n.text) (paths_of inside (m ∷ names)) in
    let b = most_variable inside n.text in
    let r = most_names inside m names in
    a ∙ (omega (arith, b, r))

-- extents by their numbers
pub same_extent : (a b : PathExtent) → a.paths ≡ b.paths → a.segments ≡ b.segments → a ≡ b
same_extent a b p s =
    let f : ℕ → PathExtent = λ n. record { paths = n; segments = a.segments } in
    let g : ℕ → PathExtent = λ n. record { paths = b.paths; segments = n } in
    ap f p ∙ ap g s

least_or_more : (l m : ℕ) → (l ≤ m) ⊎ (m < l)
least_or_more zero m = inl (omega arith)
least_or_more (suc l) zero = inr (omega arith)
least_or_more (suc l) (suc m) = ⊎_elim (λ h. inl (omega (arith, h))) (λ h. inr (omega (arith, h))) (least_or_more l m)

-- a product that is stopped
at_least_left : (a b : ℕ) → 0 < b → a ≤ a * b
at_least_left a zero h = absurd (omega (arith, h))
at_least_left a (suc b) h = let e : a * suc b ≡ a + a * b = omega arith in omega (arith, e)

at_least_right : (a b : ℕ) → 0 < a → b ≤ a * b
at_least_right zero b h = absurd (omega (arith, h))
at_least_right (suc a) b h = let e : suc a * b ≡ b + a * b = omega arith in omega (arith, e)

product : (k l m : ℕ) → 0 < k → 0 < m → min ((min l m + 1) * min k m) m ≡ min (k * suc l) m
product k l m some most = by (least_or_more l m) (least_or_more k m)
  where
    large : (a b : ℕ) → m ≤ a → m ≤ b → min a m ≡ min b m
    large a b h g = omega (arith, h, g)

    by : (l ≤ m) ⊎ (m < l) → (k ≤ m) ⊎ (m < k) → min ((min l m + 1) * min k m) m ≡ min (k * suc l) m
    by (inl h) (inl g) =
        let e : min l m ≡ l = omega (arith, h) in
        let f : min k m ≡ k = omega (arith, g) in
        let x : (min l m + 1) * min k m ≡ (l + 1) * k = ap (λ (n : ℕ). (n + 1) * min k m) e ∙ ap (λ (n : ℕ). (l + 1) * n) f in
        let y : (l + 1) * k ≡ k * suc l = omega arith in
        ap (λ (n : ℕ). min n m) (x ∙ y)
    by (inr h) g =
        let a = at_least_left (min l m + 1) (min k m) (omega (arith, some, most)) in
        let b = at_least_right k (suc l) some in
        large ((min l m + 1) * min k m) (k * suc l) (omega (arith, a, h)) (omega (arith, b, h))
    by (inl h) (inr g) =
        let a = at_least_right (min l m + 1) (min k m) (omega arith) in
        let b = at_least_left k (suc l) (omega arith) in
        large ((min l m + 1) * min k m) (k * suc l) (omega (arith, a, g)) (omega (arith, b, g))

-- the numbers of paths together
pub joined_paths : (xs ys : List PathNames) → (extent_of (xs ++ ys)).paths ≡ min (length xs + length ys) (max_declared + 1)
joined_paths xs ys = ap (λ (n : ℕ). min n (max_declared + 1)) (length-append xs ys)

pub joined_segments : (xs ys : List PathNames) → (extent_of (xs ++ ys)).segments ≡ max (extent_of xs).segments (extent_of ys).segments
joined_segments xs ys = ap (λ (n : ℕ). min n (max_segments + 1)) (most_append xs ys) ∙ (omega arith)

-- and those of variables
pub variables_paths : (inside : List PathNames) (names : List Named) → 0 < length names → (extent_of (paths_of inside names)).paths ≡ min (((extent_of inside).paths + 1) * min (length names) (max_declared + 1)) (max_declared + 1)
variables_paths inside names some =
    ap (λ (n : ℕ). min n (max_declared + 1)) (size_names inside names)
    ∙ sym (product (length names) (length inside) (max_declared + 1) some (omega arith))

pub variables_segments : (inside : List PathNames) (names : List Named) → 0 < length names → (extent_of (paths_of inside names)).segments ≡ min ((extent_of inside).segments + 1) (max_segments + 1)
variables_segments inside [] some = absurd (omega arith)
variables_segments inside (n ∷ names) some =
    let e = most_names inside n names in
    ap (λ (m : ℕ). min m (max_segments + 1)) e ∙ (omega arith)

-- by numbers that are stopped at 32 bits too
pub stopped_product : (l k each many times result : ℕ) → each ≡ min (min l 8193 + 1) 4294967295 → many ≡ min k 8193 → times ≡ min (each * many) 4294967295 → result ≡ min times 8193 → result ≡ min ((min l 8193 + 1) * min k 8193) 8193
stopped_product l k each many times result e f g h =
    let one : each ≡ min l 8193 + 1 = omega (arith, e) in
    let both : each * many ≡ (min l 8193 + 1) * min k 8193 = ap (λ (n : ℕ). n * many) one ∙ ap (λ (n : ℕ). (min l 8193 + 1) * n) f in
    least (each * many) ((min l 8193 + 1) * min k 8193) both g
  where
    least : (m n : ℕ) → m ≡ n → times ≡ min m 4294967295 → result ≡ min n 8193
    least m n same t = omega (arith, same, t, h)
