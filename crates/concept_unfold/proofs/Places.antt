-- The number of a variable.
use Rattle.std.proofs.Common.{◌≡◌, ℕ, ◌+◌, ◌<◌, Bool, true, false, List, [], ◌∷◌, ◌++◌, length, get_or, map, Some, refl, sym, ap, ◌∙◌, subst, ⊎_elim, add_comm, add-one, arith}
use Rattle.std.specs.Prelude.{Contains, All, slice_get}
use Rattle.std.specs.List.{position_or_len}
use Rattle.std.specs.Str.{bytes_eq}
use Rattle.std.proofs.lemmas.Slice.Eq.{bytes_eq-Decides}
use Rattle.std.proofs.lemmas.List.Elements.{All-nil, All-cons, All-head, All-tail, All-get_or}
use Rattle.priz_base.proofs.More.{some_below}
use Rattle.priz_base.proofs.Members.{contains_cases, contains_none}
use Rattle.utopist_syntax.specs.declared.path.Path.{Path}
use Rattle.utopist_syntax.specs.Named.{Named}
use Rattle.concept_rules.specs.Paths.{first_of}
use Rattle.concept_rules.proofs.Lookup.{first_is, first_is_not}
use Rattle.concept_unfold.specs.Paths.{first_name, IsOneOf}
use Rattle.concept_unfold.specs.Unfolded.{AreKnown, var_number}

found_at : (x : List ℕ) (xs : List (List ℕ)) (n : List ℕ) (b : Bool) → bytes_eq n x ≡ b → Contains (x ∷ xs) n → (Contains xs n → slice_get xs (position_or_len (bytes_eq n) xs) ≡ Some n) → slice_get (x ∷ xs) (position_or_len (bytes_eq n) (x ∷ xs)) ≡ Some n
found_at x xs n true e c rest = rw (first_is x xs n e) (ap Some (sym ((bytes_eq-Decides n x).0 e)))
found_at x xs n false e c rest =
    let later : Contains xs n = ⊎_elim (λ s. absurd (let t = (bytes_eq-Decides n x).1 (sym s) in cc)) (λ h. h) (contains_cases x xs n c) in
    rw (first_is_not x xs n e, add_comm 1 (position_or_len (bytes_eq n) xs), add-one) (rest later)

-- at its place stands the name
pub stands_there : (names : List (List ℕ)) (n : List ℕ) → Contains names n → slice_get names (position_or_len (bytes_eq n) names) ≡ Some n
stands_there [] n c = absurd (contains_none n c)
stands_there (x ∷ xs) n c = found_at x xs n (bytes_eq n x) refl c (λ h. stands_there xs n h)

-- the number of a variable is below their count
number_below : (vars : List (List ℕ)) (p : Path) → IsOneOf vars p → var_number vars p < length vars
number_below vars p k = some_below vars (var_number vars p) (first_name p).text (stands_there vars (first_name p).text k.listed)

pub numbers_below : (vars : List (List ℕ)) (ps : List Path) → AreKnown vars ps → All (λ v. v < length vars) (map (var_number vars) ps)
numbers_below vars [] k = All-nil (λ v. v < length vars)
numbers_below vars (p ∷ ps) k =
    All-cons (λ v. v < length vars) (var_number vars p) (map (var_number vars) ps) (number_below vars p (All-head (IsOneOf vars) p ps k)) (numbers_below vars ps (All-tail (IsOneOf vars) p ps k))

-- two variables of one number have one name
pub same_name : (vars : List (List ℕ)) (a b : Path) → IsOneOf vars a → IsOneOf vars b → var_number vars a ≡ var_number vars b → (first_name a).text ≡ (first_name b).text
same_name vars a b ka kb e =
    let there : slice_get vars (var_number vars a) ≡ Some (first_name b).text = rw e (stands_there vars (first_name b).text kb.listed) in
    let here = stands_there vars (first_name a).text ka.listed in cc

stable_at : (x : List ℕ) (xs more : List (List ℕ)) (n : List ℕ) (b : Bool) → bytes_eq n x ≡ b → Contains (x ∷ xs) n → (Contains xs n → position_or_len (bytes_eq n) (xs ++ more) ≡ position_or_len (bytes_eq n) xs) → position_or_len (bytes_eq n) (x ∷ (xs ++ more)) ≡ position_or_len (bytes_eq n) (x ∷ xs)
stable_at x xs more n true e c rest = first_is x (xs ++ more) n e ∙ sym (first_is x xs n e)
stable_at x xs more n false e c rest =
    let later : Contains xs n = ⊎_elim (λ s. absurd (let t = (bytes_eq-Decides n x).1 (sym s) in cc)) (λ h. h) (contains_cases x xs n c) in
    first_is_not x (xs ++ more) n e ∙ ap (λ k. 1 + k) (rest later) ∙ sym (first_is_not x xs n e)

-- a name keeps its place where more names follow
pub place_stable : (vars more : List (List ℕ)) (n : List ℕ) → Contains vars n → position_or_len (bytes_eq n) (vars ++ more) ≡ position_or_len (bytes_eq n) vars
place_stable [] more n c = absurd (contains_none n c)
place_stable (x ∷ xs) more n c = stable_at x xs more n (bytes_eq n x) refl c (λ h. place_stable xs more n h)

-- the number of a variable stays where more variables follow
pub number_stable : (vars more : List (List ℕ)) (p : Path) → IsOneOf vars p → var_number (vars ++ more) p ≡ var_number vars p
number_stable vars more p k = place_stable vars more (first_name p).text k.listed

pub numbers_stable : (vars more : List (List ℕ)) (ps : List Path) → AreKnown vars ps → map (var_number (vars ++ more)) ps ≡ map (var_number vars) ps
numbers_stable vars more [] k = refl
numbers_stable vars more (p ∷ ps) k =
    ap (λ v. v ∷ map (var_number (vars ++ more)) ps) (number_stable vars more p (All-head (IsOneOf vars) p ps k))
    ∙ ap (λ vs. var_number vars p ∷ vs) (numbers_stable vars more ps (All-tail (IsOneOf vars) p ps k))

-- each of the known paths is one of the variables
pub known_at : (vars : List (List ℕ)) (ps : List Path) (i : ℕ) (p : Path) → i < length ps → p ≡ get_or ps i p → AreKnown vars ps → IsOneOf vars p
known_at vars ps i p lt is k = subst (IsOneOf vars) (sym is) (All-get_or (IsOneOf vars) ps i p lt k)

first_stands : (ns : List Named) (n : Named) → 0 < length ns → n ≡ get_or ns 0 n → n ≡ first_of ns
first_stands [] n lt is = absurd (omega arith)
first_stands (m ∷ ms) n lt is = is

-- the name that was read is the first name of the path
pub first_read : (names : List (List ℕ)) (p : Path) (read : List Named) (n : Named) → IsOneOf names p → read ≡ p.parts → n ≡ get_or read 0 n → n ≡ first_name p
first_read names p read n k same is =
    let single = k.single in
    first_stands p.parts n (omega arith) (subst (λ (ns : List Named). n ≡ get_or ns 0 n) same is)
