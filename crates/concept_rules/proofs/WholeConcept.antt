-- A concept that was checked whole.
use Rattle.std.proofs.Common.{◌≡◌, ◌↔◌, ◌⊎◌, ℕ, zero, suc, ◌+◌, ◌<◌, Bool, true, false, ◌||◌, nat_lt, nat_eq, List, [], ◌∷◌, ◌++◌, length, map, reverse, Some, None, refl, sym, ap, ◌∙◌, subst, ⊎_elim, inl, inr, All, IsTrue, arith}
use Rattle.std.specs.Prelude.{Contains, slice_get}
use Rattle.std.specs.Str.{bytes_eq}
use Rattle.std.proofs.lemmas.Bool.{lt-ltb}
use Rattle.std.proofs.lemmas.Grind.{reverse_onto}
use Rattle.std.proofs.lemmas.List.{take_all, map-append, length-append}
use Rattle.std.proofs.lemmas.Option.{get_or_from_slice_get}
use Rattle.std.proofs.lemmas.List.Elements.{All-contains, All-push, All-weaker, Contains-append_left, Contains-push, Contains-push_cases}
use Rattle.std.proofs.lemmas.Slice.Eq.{bytes_eq-Decides}
use Rattle.priz_base.proofs.More.{some_below}
use Rattle.utopist_syntax.specs.FileTree.{ItemTree, ConceptTree}
use Rattle.concept_rules.specs.Declarations.{is_among, is_declared}
use Rattle.concept_rules.specs.Lineage.{concept_names, lineage, ancestors}
use Rattle.concept_rules.specs.Lineages.{Lines}
use Rattle.concept_rules.specs.steps.Extent.{extent, concept_of, own_items, checked_items, IsApart, IsLine, AreLines}
use Rattle.concept_rules.proofs.Lines.{seen_below, seen_last, not_below}
use Rattle.concept_rules.proofs.Growing.{not_equal}
use Rattle.concept_rules.proofs.Sharing.{or_true}

pub push_left :
    {X : Type 0} (xs : List X) (x : X) (i : ℕ) → i < length xs
    → slice_get (xs ++ x ∷ []) i ≡ slice_get xs i
push_left [] x i lt = absurd (omega arith)
push_left (y ∷ xs) x zero lt = refl
push_left (y ∷ xs) x (suc i) lt = push_left xs x i (omega arith)

pub push_at : {X : Type 0} (xs : List X) (x : X) → slice_get (xs ++ x ∷ []) (length xs) ≡ Some x
push_at [] x = refl
push_at (y ∷ xs) x = push_at xs x

pub push_past :
    {X : Type 0} (xs : List X) (x : X) (i : ℕ) → length xs < i → slice_get (xs ++ x ∷ []) i ≡ None
push_past [] x zero lt = absurd (omega arith)
push_past [] x (suc i) lt = refl
push_past (y ∷ xs) x zero lt = absurd (omega arith)
push_past (y ∷ xs) x (suc i) lt = push_past xs x i (omega arith)

pub less_or_same : (i n : ℕ) → (i < n) ⊎ ((i ≡ n) ⊎ (n < i))
less_or_same zero zero = inr (inl refl)
less_or_same zero (suc n) = inl (omega arith)
less_or_same (suc i) zero = inr (inr (omega arith))
less_or_same (suc i) (suc n) =
    ⊎_elim (λ h. inl (omega arith)) (λ h. ⊎_elim (λ e. inr (inl (ap suc e))) (λ g. inr (inr (omega arith))) h) (less_or_same i n)

module _ (all : List ConceptTree) (n : ℕ) (before : List ConceptTree) where
  abbrev done : ℕ → List ItemTree
  done = checked_items (extent all n before (length (own_items all n)))

  done_last : done n ≡ own_items all n
  done_last =
      seen_last (extent all n before (length (own_items all n)))
      ∙ take_all (length (own_items all n)) (own_items all n) (omega arith)

  done_past : (k : ℕ) → n < k → done k ≡ []
  done_past k lt =
      let low = not_below k n (nat_lt k n) refl (λ h. omega (arith, h, lt)) in
      let other = not_equal k n (nat_eq k n) refl (λ e. omega (arith, e, lt)) in
      rw (low, other) refl

  after_last : checked_items (extent all (n + 1) (concept_of all n ∷ before) 0) n ≡ own_items all n
  after_last = rw (lt-ltb n (n + 1) (omega arith)) refl

  after_past :
      (k : ℕ) (b : Bool) → nat_eq k (n + 1) ≡ b → n < k
      → checked_items (extent all (n + 1) (concept_of all n ∷ before) 0) k ≡ []
  after_past k true e lt = rw (not_below k (n + 1) (nat_lt k (n + 1)) refl (λ h. omega (arith, h, lt)), e) refl
  after_past k false e lt = rw (not_below k (n + 1) (nat_lt k (n + 1)) refl (λ h. omega (arith, h, lt)), e) refl

  after_below :
      (k : ℕ) → k < n → checked_items (extent all (n + 1) (concept_of all n ∷ before) 0) k ≡ done k
  after_below k lt = rw (lt-ltb k (n + 1) (omega (arith, lt)), lt-ltb k n lt) refl

  -- what was checked is the same
  pub seen_after :
      (k : ℕ) → checked_items (extent all (n + 1) (concept_of all n ∷ before) 0) k ≡ done k
  seen_after k =
      ⊎_elim (λ lt. after_below k lt)
      (λ h. ⊎_elim
      (λ e. subst (λ j. checked_items (extent all (n + 1) (concept_of all n ∷ before) 0) j ≡ done j) (sym e) (after_last ∙ sym done_last))
      (λ lt. after_past k (nat_eq k (n + 1)) refl lt ∙ sym (done_past k lt))
      h)
      (less_or_same k n)

  module _ (line here : List ℕ) (cs : List ConceptTree) (is : IsLine all n line cs)
      (ends : here ≡ line ++ n ∷ []) (apart : IsApart done here) where
    own_seen : (k : ℕ) → Contains here k → done k ≡ own_items all k
    own_seen k c =
        ⊎_elim
        (λ d. seen_below (extent all n before (length (own_items all n))) k (All-contains (λ j. j < n) line k is.below d))
        (λ e. subst (λ j. done j ≡ own_items all j) e done_last)
        (Contains-push_cases line n k (subst (λ (xs : List ℕ). Contains xs k) ends c))

    -- its line
    pub whole_line : IsLine all (n + 1) here (cs ++ concept_of all n ∷ [])
    whole_line = record {
      concepts =
          ap (λ (xs : List ConceptTree). xs ++ concept_of all n ∷ []) is.concepts
          ∙ sym (map-append (concept_of all) line (n ∷ [])) ∙ ap (map (concept_of all)) (sym ends);
      below =
          subst (All (λ j. j < n + 1)) (sym ends) (All-push (λ j. j < n + 1) line n (All-weaker (λ j. j < n) (λ j. j < n + 1) (λ j h. omega (arith, h)) line is.below) (omega arith));
      apart = λ name a b ca cb da db. apart name a b ca cb
          (subst (λ (xs : List ItemTree). is_declared xs name ≡ true) (sym (own_seen a ca)) da)
          (subst (λ (xs : List ItemTree). is_declared xs name ≡ true) (sym (own_seen b cb)) db);
    }

weaker :
    (all : List ConceptTree) (n : ℕ) (line : List ℕ) (cs : List ConceptTree) → IsLine all n line cs
    → IsLine all (n + 1) line cs
weaker all n line cs is = record { concepts = is.concepts; below = All-weaker (λ j. j < n) (λ j. j < n + 1) (λ j h. omega (arith, h)) line is.below; apart = is.apart }

other_line :
    (c : ConceptTree) (earlier : List ConceptTree) (name : List ℕ) (b : Bool)
    → bytes_eq c.name.text name ≡ b → (c.name.text ≡ name → ⊥)
    → lineage (c ∷ earlier) name ≡ lineage earlier name
other_line c earlier name true e h = absurd (h ((bytes_eq-Decides c.name.text name).0 e))
other_line c earlier name false e h = rw e refl

this_line :
    (c : ConceptTree) (earlier : List ConceptTree)
    → lineage (c ∷ earlier) c.name.text ≡ ancestors earlier c.parents ++ c ∷ []
this_line c earlier = rw ((bytes_eq-Decides c.name.text c.name.text).1 refl) refl

known_step : (b d : Bool) → (b || d) ≡ true → (b ≡ true) ⊎ (d ≡ true)
known_step true d h = inl refl
known_step false d h = inr h

contained : {X : Type 0} (xs : List X) (i : ℕ) (x : X) → slice_get xs i ≡ Some x → Contains xs x
contained xs i x h = (i, some_below xs i x h, get_or_from_slice_get xs i x x h)

module _ (all : List ConceptTree) (n : ℕ) (before : List ConceptTree) (l : Lines)
    (at : AreLines all n before l) (text : List ℕ) (named : text ≡ (concept_of all n).name.text)
    (new : ¬ Contains l.names text) (here : List ℕ)
    (whole : IsLine all (n + 1) here (ancestors before (concept_of all n).parents ++ concept_of all n ∷ []))
  where
    abbrev c : ConceptTree
    c = concept_of all n

    abbrev more : Lines
    more = record { names = l.names ++ text ∷ []; lines = l.lines ++ here ∷ [] }

    known_next :
        (name : List ℕ)
        → IsTrue (is_among name (concept_names (c ∷ before))) ↔ Contains more.names name
    known_next name = (
      λ h. ⊎_elim
          (λ e. subst (Contains more.names) (named ∙ sym ((bytes_eq-Decides name c.name.text).0 e)) (Contains-push l.names text))
          (λ g. Contains-append_left l.names (text ∷ []) name ((at.known name).0 g))
          (known_step (bytes_eq name c.name.text) (is_among name (concept_names before)) h),
      λ h. ⊎_elim
          (λ g. let k = (at.known name).1 g in ap (λ b. bytes_eq name c.name.text || b) k ∙ or_true (bytes_eq name c.name.text))
          (λ e. let t = (bytes_eq-Decides name c.name.text).1 (sym e ∙ named) in ap (λ b. b || is_among name (concept_names before)) t)
          (Contains-push_cases l.names text name h),
    )

    names_next : (k : ℕ) → k < n + 1 → Contains more.names (concept_of all k).name.text
    names_next k lt =
        ⊎_elim
        (λ h. Contains-append_left l.names (text ∷ []) (concept_of all k).name.text (at.names k h))
        (λ h. ⊎_elim (λ e. subst (λ j. Contains more.names (concept_of all j).name.text) (sym e) (subst (Contains more.names) named (Contains-push l.names text))) (λ g. absurd (omega (arith, g, lt))) h)
        (less_or_same k n)

    not_named : (k : ℕ) → k < n → (concept_of all k).name.text ≡ c.name.text → ⊥
    not_named k lt e = new (subst (Contains l.names) (e ∙ sym named) (at.names k lt))

    once_next :
        (a b : ℕ) → a < n + 1 → b < n + 1
        → (concept_of all a).name.text ≡ (concept_of all b).name.text → a ≡ b
    once_next a b la lb e =
        ⊎_elim
        (λ ha. ⊎_elim
        (λ hb. at.once a b ha hb e)
        (λ h. ⊎_elim (λ eb. absurd (not_named a ha (subst (λ j. (concept_of all a).name.text ≡ (concept_of all j).name.text) eb e))) (λ g. absurd (omega (arith, g, lb))) h)
        (less_or_same b n))
        (λ h. ⊎_elim
        (λ ea. ⊎_elim
        (λ hb. absurd (not_named b hb (sym (subst (λ j. (concept_of all j).name.text ≡ (concept_of all b).name.text) ea e))))
        (λ g. ⊎_elim (λ eb. ea ∙ sym eb) (λ k. absurd (omega (arith, k, lb))) g)
        (less_or_same b n))
        (λ g. absurd (omega (arith, g, la)))
        h)
        (less_or_same a n)

    lines_next :
        (i : ℕ) (name : List ℕ) (line : List ℕ) → slice_get more.names i ≡ Some name
        → slice_get more.lines i ≡ Some line → IsLine all (n + 1) line (lineage (c ∷ before) name)
    lines_next i name line a b =
        ⊎_elim
        (λ lt.
        let there = sym (push_left l.names text i lt) ∙ a in
        let even = at.even in
        let inside : i < length l.lines = omega (arith, even, lt) in
        let old = weaker all n line (lineage before name) (at.lines i name line there (sym (push_left l.lines here i inside) ∙ b)) in
        let other = other_line c before name (bytes_eq c.name.text name) refl (λ e. new (subst (Contains l.names) (sym e ∙ sym named) (contained l.names i name there))) in
        subst (λ (xs : List ConceptTree). IsLine all (n + 1) line xs) (sym other) old)
        (λ h. ⊎_elim
        (λ e.
        let first : Some text ≡ Some name = sym (push_at l.names text) ∙ subst (λ k. slice_get more.names k ≡ Some name) e a in
        let second : Some here ≡ Some line = sym (push_at l.lines here) ∙ subst (λ k. slice_get more.lines k ≡ Some line) (e ∙ at.even) b in
        let is_name : text ≡ name = cc in
        let is_line : here ≡ line = cc in
        subst (λ (t : List ℕ). IsLine all (n + 1) line (lineage (c ∷ before) t)) (sym named ∙ is_name)
        (subst (λ (xs : List ConceptTree). IsLine all (n + 1) line xs) (sym (this_line c before)) (subst (λ (ys : List ℕ). IsLine all (n + 1) ys (ancestors before c.parents ++ c ∷ [])) is_line whole)))
        (λ g. let none : None ≡ Some name = sym (push_past l.names text i g) ∙ a in absurd (cc))
        h)
        (less_or_same i (length l.names))

    order_next : more.names ≡ reverse (concept_names (c ∷ before))
    order_next =
        ap (λ (xs : List (List ℕ)). xs ++ text ∷ []) at.order
        ∙ ap (λ (t : List ℕ). reverse (concept_names before) ++ t ∷ []) named
        ∙ sym (reverse_onto (concept_names before) c.name.text [])

    -- with one more concept
    pub more_lines : AreLines all (n + 1) (c ∷ before) more
    more_lines = record {
      long = let e = at.long in omega (arith, e);
      even = let a = length-append l.names (text ∷ []) in let b = length-append l.lines (here ∷ []) in let e = at.even in omega (arith, a, b, e);
      order = order_next;
      known = known_next;
      names = names_next;
      once = once_next;
      lines = lines_next;
    }
