-- A path is known by its names with dots, where the names have none themselves.
use Rattle.std.proofs.Common.{◌≡◌, ◌≢◌, ℕ, List, [], ◌∷◌, ◌++◌, refl, sym, ap, ◌∙◌, subst}
use Rattle.std.specs.Prelude.{Contains}
use Rattle.std.proofs.lemmas.List.Elements.{Contains-append_right}
use Rattle.priz_base.proofs.Members.{contains_here, contains_there}
use Rattle.canonical_paths.specs.PathNames.{PathNames}
use Rattle.canonical_paths.proofs.Elements.{heads, tails}
use Rattle.concept_walk.specs.Dotted.{dotted, HasNoDot}
use Rattle.concept_walk.proofs.DotlessPaths.{IsDotless}

-- there is a dot behind a name
dot_behind : (n rest : List ℕ) → Contains (n ++ 46 ∷ rest) 46
dot_behind n rest = Contains-append_right n (46 ∷ rest) 46 (contains_here 46 rest)

-- one element more of two lists
one_more : {X : Type 0} (x y : X) (xs ys : List X) → x ≡ y → xs ≡ ys → x ∷ xs ≡ y ∷ ys
one_more x y xs ys e f = ap (λ z. z ∷ xs) e ∙ ap (λ zs. y ∷ zs) f

-- texts with a dot behind their names are cut there
cut_at_dot :
    (n m x y : List ℕ) → HasNoDot n → HasNoDot m → n ++ 46 ∷ x ≡ m ++ 46 ∷ y
    → (n ≡ m) × (x ≡ y)
cut_at_dot [] [] x y h k e = (refl, tails 46 46 x y e)
cut_at_dot [] (d ∷ m) x y h k e =
    absurd (k (subst (Contains (d ∷ m)) (sym (heads 46 d x (m ++ 46 ∷ y) e)) (contains_here d m)))
cut_at_dot (c ∷ n) [] x y h k e =
    absurd (h (subst (Contains (c ∷ n)) (heads c 46 (n ++ 46 ∷ x) y e) (contains_here c n)))
cut_at_dot (c ∷ n) (d ∷ m) x y h k e =
    let r = cut_at_dot n m x y (λ g. h (contains_there c n 46 g)) (λ g. k (contains_there d m 46 g)) (tails c d (n ++ 46 ∷ x) (m ++ 46 ∷ y) e) in
    (one_more c d n m (heads c d (n ++ 46 ∷ x) (m ++ 46 ∷ y) e) r.0, r.1)

-- two paths with one text are one
pub dotted_once :
    (p q : PathNames) → p ≢ [] → q ≢ [] → IsDotless p → IsDotless q → dotted p ≡ dotted q → p ≡ q
dotted_once [] q some more h k e = absurd (some refl)
dotted_once (n ∷ p) [] some more h k e = absurd (more refl)
dotted_once (n ∷ []) (m ∷ []) some more h k e = ap (λ t. t ∷ []) e
dotted_once (n ∷ []) (m ∷ l ∷ q) some more h k e =
    absurd (h.0 (subst (λ (t : List ℕ). Contains t 46) (sym e) (dot_behind m (dotted (l ∷ q)))))
dotted_once (n ∷ o ∷ p) (m ∷ []) some more h k e =
    absurd (k.0 (subst (λ (t : List ℕ). Contains t 46) e (dot_behind n (dotted (o ∷ p)))))
dotted_once (n ∷ o ∷ p) (m ∷ l ∷ q) some more h k e =
    let r = cut_at_dot n m (dotted (o ∷ p)) (dotted (l ∷ q)) h.0 k.0 e in
    one_more n m (o ∷ p) (l ∷ q) r.0 (dotted_once (o ∷ p) (l ∷ q) (λ f. cc) (λ f. cc) h.1 k.1 r.1)
