-- When a path clashes with one of a set, by a walk in the tree.
use Rattle.std.proofs.Common.{◌≡◌, ℕ, ◌+◌, ◌≤◌, ◌<◌, ⊎_elim, Bool, true, false, not, ◌↔◌, List, [], ◌∷◌, length, take, Option, None, Some, is_some, get_or, refl, sym, ap, ◌∙◌, subst, arith, nat_eq, position}
use Rattle.std.specs.Prelude.{Contains}
use Rattle.std.specs.List.{list_any}
use Rattle.std.proofs.lemmas.Bool.{or_cases, or_left, or_right, false_from_ne_true, cases_lt}
use Rattle.std.proofs.lemmas.Bool.Decides.{Decides-eqb}
use Rattle.std.proofs.lemmas.List.{length-map, get_or-map, take_all, take-append-le, take_at, nil_from_length}
use Rattle.std.proofs.lemmas.List.Elements.{All-weaker, All-contains_itself, All-get_or, Contains-get_or}
use Rattle.std.proofs.lemmas.List.Folds.{list_any_none, list_any_at}
use Rattle.std.proofs.lemmas.List.Quantifiers.{position-Some}
use Rattle.priz_base.proofs.Members.{contains_map}
use Rattle.name_sets.specs.Paths.{is_prefix, clash}
use Rattle.name_sets.specs.steps.Nodes.{path_to, IsNodeAt, IsTree}
use Rattle.name_sets.specs.steps.PathEnds.{paths_of, ArePaths}
use Rattle.name_sets.proofs.Places.{one_place}
use Rattle.name_sets.proofs.Prefixes.{prefix_rest, prefix_take, prefix_trans}
use Rattle.name_sets.proofs.Firsts.{position_some}
use Rattle.name_sets.proofs.Walks.{passes}

-- what of these begins the path has so many names, or more
abbrev pub EndsFrom : List (List ℕ) → ℕ → List (List (List ℕ)) → Type 0
EndsFrom path i others = (other : List (List ℕ)) → Contains others other → is_prefix other path ≡ true → i ≤ length other

any_in :
    {X : Type 0} (p : X → Bool) (xs : List X) (x : X) → Contains xs x → p x ≡ true
    → list_any p xs ≡ true
any_in p xs x there passed = list_any_at p xs there.0 x there.1 (ap p there.2 ∙ passed)

any_weaker :
    {X : Type 0} (p q : X → Bool) → ((x : X) → p x ≡ true → q x ≡ true) → (xs : List X)
    → list_any p xs ≡ true → list_any q xs ≡ true
any_weaker p q f [] h = h
any_weaker p q f (x ∷ xs) h =
    ⊎_elim (λ here. or_left (q x) (list_any q xs) (f x here)) (λ later. or_right (q x) (list_any q xs) (any_weaker p q f xs later)) (or_cases (p x) (list_any p xs) h)

any_none :
    {X : Type 0} (p : X → Bool) (xs : List X) → ((x : X) → Contains xs x → p x ≡ true → ⊥)
    → list_any p xs ≡ false
any_none p xs fails =
    list_any_none p xs (All-weaker (Contains xs) (λ x. p x ≡ false) (λ x there. false_from_ne_true (p x) (fails x there)) xs (All-contains_itself xs))

position_there : (n : ℕ) (ns : List ℕ) → is_some (position (nat_eq n) ns) ≡ true → Contains ns n
position_there n ns some = by (position (nat_eq n) ns) refl
  where
    by : (o : Option ℕ) → position (nat_eq n) ns ≡ o → Contains ns n
    by None e = let wrong = rw e at some in absurd (cc)
    by (Some i) e =
        let f = position-Some (nat_eq n) ns i n e in
        (i, f.0, sym ((Decides-eqb n (get_or ns i n)).0 f.1))

no_place : (n : ℕ) (ns : List ℕ) → is_some (position (nat_eq n) ns) ≡ false → Contains ns n → ⊥
no_place n ns none there =
    let here : list_any (nat_eq n) ns ≡ true = any_in (nat_eq n) ns n there ((Decides-eqb n n).1 refl) in
    let some : is_some (position (nat_eq n) ns) ≡ true = position_some (nat_eq n) ns ∙ here in
    absurd (cc)

module _ (nodes : List (List (List ℕ))) (ends : List ℕ) (s : ArePaths nodes ends) (t : IsTree nodes)
  where
    -- a path of the set ends at a node
    end_of :
        (other : List (List ℕ)) → Contains (paths_of nodes ends) other
        → (n : ℕ) × Contains ends n × (n < length nodes) × (path_to nodes n ≡ other)
    end_of other there =
        let lt : there.0 < length ends = omega (arith, there.1, length-map ends (path_to nodes)) in
        let n = get_or ends there.0 0 in
        (n, Contains-get_or ends there.0 0 lt, All-get_or (λ m. m < length nodes) ends there.0 0 lt s.within, sym (get_or-map (path_to nodes) ends there.0 0 other lt) ∙ there.2)

    pub node_of :
        (other : List (List ℕ)) → Contains (paths_of nodes ends) other → Contains nodes other
    node_of other there =
        let e = end_of other there in
        subst (Contains nodes) e.3 (Contains-get_or nodes e.0 [] e.2)

    -- a path ends on the way
    pub clashes_here :
        (path : List (List ℕ)) (i node : ℕ) → IsNodeAt nodes (take i path) node
        → is_some (position (nat_eq node) ends) ≡ true
        → list_any (clash path) (paths_of nodes ends) ≡ true
    clashes_here path i node at some =
        let there = subst (Contains (paths_of nodes ends)) at.leads (contains_map (path_to nodes) ends node (position_there node ends some)) in
        any_in (clash path) (paths_of nodes ends) (take i path) there (or_right (is_prefix path (take i path)) (is_prefix (take i path) path) (prefix_take i path))

    -- no path ends at this node of the way
    pub ends_later :
        (path : List (List ℕ)) (i node : ℕ) → i < length path → IsNodeAt nodes (take i path) node
        → is_some (position (nat_eq node) ends) ≡ false → EndsFrom path i (paths_of nodes ends)
        → EndsFrom path (i + 1) (paths_of nodes ends)
    ends_later path i node lt at none from other there begins =
        ⊎_elim
        (λ lt. omega (arith, lt))
        (λ le.
        let rest = prefix_rest other path begins in
        let e = end_of other there in
        let long : length other ≡ i = omega (arith, from other there begins) in
        let same : take i path ≡ other = ap (take i) rest.1 ∙ take_at other rest.0 i long in
        let number : e.0 ≡ node = one_place nodes [] t.distinct e.0 node e.2 at.within (e.3 ∙ sym same ∙ sym at.leads) in
        absurd (no_place node ends none (subst (Contains ends) number e.1)))
        (cases_lt i (length other))

    -- the way ends before the path does
    pub clashes_nowhere :
        (path : List (List ℕ)) (k : ℕ) → EndsFrom path k (paths_of nodes ends)
        → (Contains nodes (take k path) → ⊥) → list_any (clash path) (paths_of nodes ends) ≡ false
    clashes_nowhere path k from missing =
        any_none (clash path) (paths_of nodes ends) (λ other there yes. missing
        (⊎_elim
        (λ within.
        let rest = prefix_rest (take k path) other (prefix_trans (take k path) path other (prefix_take k path) within) in
        t.closed (take k path) rest.0 (subst (Contains nodes) rest.1 (node_of other there)))
        (λ begins.
        let rest = prefix_rest other path begins in
        let same : take k path ≡ take k other = ap (take k) rest.1 ∙ take-append-le k other rest.0 (from other there begins) in
        subst (Contains nodes) (sym same) (passes nodes other k t (node_of other there)))
        (or_cases (is_prefix path other) (is_prefix other path) yes)))

    -- the way goes to the end of the path
    clashes_at_end :
        (path : List (List ℕ)) (node : ℕ) → IsNodeAt nodes path node → 0 < length ends
        → list_any (clash path) (paths_of nodes ends) ≡ true
    clashes_at_end path node at some =
        by path (subst (Contains nodes) at.leads (Contains-get_or nodes node [] at.within))
      where
        by : (p : List (List ℕ)) → Contains nodes p → list_any (clash p) (paths_of nodes ends) ≡ true
        by [] there =
            any_in (clash []) (paths_of nodes ends) _ (contains_map (path_to nodes) ends (get_or ends 0 0) (Contains-get_or ends 0 0 some)) refl
        by (n ∷ p) there =
            any_weaker (is_prefix (n ∷ p)) (clash (n ∷ p)) (λ other begins. or_left (is_prefix (n ∷ p) other) (is_prefix other (n ∷ p)) begins) (paths_of nodes ends) (s.used (n ∷ p) there (λ e. absurd (cc)))

    pub clashes_behind :
        (path : List (List ℕ)) (i node : ℕ) (empty : Bool) → length path ≤ i
        → IsNodeAt nodes (take i path) node → (empty ≡ true) ↔ (ends ≡ [])
        → not empty ≡ list_any (clash path) (paths_of nodes ends)
    clashes_behind path i node true le at none =
        ap (λ ns. list_any (clash path) (paths_of nodes ns)) (sym (none.0 refl))
    clashes_behind path i node false le at none =
        let some : 0 < length ends = ⊎_elim (λ lt. lt) (λ zero. let wrong = none.1 (nil_from_length ends (omega arith)) in absurd (cc)) (cases_lt 0 (length ends)) in
        sym (clashes_at_end path node (subst (λ p. IsNodeAt nodes p node) (take_all i path le) at) some)
