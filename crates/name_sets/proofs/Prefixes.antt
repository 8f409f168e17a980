-- Prefixes of paths.
use Rattle.std.proofs.Common.{◌≡◌, ℕ, ◌≤◌, true, List, [], ◌∷◌, ◌++◌, length, take, drop, refl, sym, ap, ◌∙◌, subst, arith, append_assoc, length-append}
use Rattle.std.specs.Str.{bytes_eq}
use Rattle.std.proofs.lemmas.List.{append-nil, take-append-drop}
use Rattle.std.proofs.lemmas.Bool.{and_parts, and_from}
use Rattle.std.proofs.lemmas.Slice.Eq.{bytes_eq-Decides}
use Rattle.name_sets.specs.Paths.{is_prefix}

pub prefix_append : (p q : List (List ℕ)) → is_prefix p (p ++ q) ≡ true
prefix_append [] q = refl
prefix_append (n ∷ p) q =
    and_from (bytes_eq n n) (is_prefix p (p ++ q)) ((bytes_eq-Decides n n).1 refl) (prefix_append p q)

-- what comes behind a prefix
pub prefix_rest : (p r : List (List ℕ)) → is_prefix p r ≡ true → (q : List (List ℕ)) × (r ≡ p ++ q)
prefix_rest [] r h = (r, refl)
prefix_rest (n ∷ p) [] h = absurd (cc)
prefix_rest (n ∷ p) (m ∷ r) h =
    let both = and_parts (bytes_eq n m) (is_prefix p r) h in
    let same : n ≡ m = (bytes_eq-Decides n m).0 both.0 in
    let rest = prefix_rest p r both.1 in
    (rest.0, ap (λ k. k ∷ r) (sym same) ∙ ap (λ t. n ∷ t) rest.1)

pub prefix_trans :
    (p q r : List (List ℕ)) → is_prefix p q ≡ true → is_prefix q r ≡ true → is_prefix p r ≡ true
prefix_trans p q r h k =
    let a = prefix_rest p q h in
    let b = prefix_rest q r k in
    let e : r ≡ p ++ (a.0 ++ b.0) = b.1 ∙ ap (λ t. t ++ b.0) a.1 ∙ append_assoc p a.0 b.0 in
    subst (λ t. is_prefix p t ≡ true) (sym e) (prefix_append p (a.0 ++ b.0))

pub prefix_length : (p r : List (List ℕ)) → is_prefix p r ≡ true → length p ≤ length r
prefix_length p r h = let a = prefix_rest p r h in omega (arith, ap length a.1, length-append p a.0)

pub prefix_itself : (p : List (List ℕ)) → is_prefix p p ≡ true
prefix_itself p = subst (λ t. is_prefix p t ≡ true) (append-nil p) (prefix_append p [])

pub prefix_take : (k : ℕ) (p : List (List ℕ)) → is_prefix (take k p) p ≡ true
prefix_take k p =
    subst (λ t. is_prefix (take k p) t ≡ true) (take-append-drop k p) (prefix_append (take k p) (drop k p))
