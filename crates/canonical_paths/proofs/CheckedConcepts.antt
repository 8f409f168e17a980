-- Concepts that pass their rules have scoped items.
use Rattle.std.proofs.Common.{◌≡◌, ℕ, Bool, true, false, ◌||◌, List, [], ◌∷◌, ◌++◌, Ok, refl, sym, ap, ◌∙◌, subst, ⊎_elim, append_assoc, append-nil}
use Rattle.std.specs.Prelude.{if◌then◌else◌, not, ◌&&◌, fold, reverse, Contains}
use Rattle.std.specs.Str.{bytes_eq}
use Rattle.std.proofs.lemmas.Bool.{both_ways, or_left, or_right, false_from_ne_true}
use Rattle.std.proofs.lemmas.Grind.{flat_map-append}
use Rattle.std.proofs.lemmas.List.{reverse-append}
use Rattle.std.proofs.lemmas.List.Elements.{Contains-push_cases}
use Rattle.std.proofs.lemmas.Slice.Eq.{bytes_eq-Decides}
use Rattle.priz_base.proofs.Members.{contains_here, contains_there, contains_cases, contains_none}
use Rattle.body_lang.proofs.Verdicts.{first_passes, second_passes}
use Rattle.utopist_syntax.specs.Named.{Named}
use Rattle.utopist_syntax.specs.FileTree.{ItemTree, ConceptTree, FileTree}
use Rattle.concept_rules.specs.Declarations.{is_among, is_declared}
use Rattle.concept_rules.specs.Lineage.{concept_names, take_concept, take_parent, lineage, all_items, ancestors}
use Rattle.concept_rules.specs.ConceptRules.{share_name, brings_name, brings_names, parents_fault, concept_fault, concepts_fault, file_fault}
use Rattle.concept_rules.proofs.Sharing.{not_shared, declared_first, declared_behind}
use Rattle.canonical_paths.specs.Scoped.{ConceptsAreScoped}
use Rattle.canonical_paths.proofs.Scoping.{ScopedFrom, IsDeclaredBy, AreApart, either_declares, scoped_append, scoped_behind, scoped_first, widen, all_turned}
use Rattle.canonical_paths.proofs.CheckedItems.{passed, items_scoped}

-- the items of one more concept
pub one_more : (cs : List ConceptTree) (c : ConceptTree) → all_items (cs ++ c ∷ []) ≡ all_items cs ++ c.items
one_more cs c = flat_map-append (λ (d : ConceptTree). d.items) cs (c ∷ []) ∙ ap (λ (is : List ItemTree). all_items cs ++ is) (append-nil c.items)

-- concepts by their names
pub named_among : (cs : List ConceptTree) (c : ConceptTree) → Contains cs c → is_among c.name.text (concept_names cs) ≡ true
named_among [] c h = absurd (contains_none c h)
named_among (d ∷ cs) c h =
    ⊎_elim
    (λ e. or_left (bytes_eq c.name.text d.name.text) (is_among c.name.text (concept_names cs)) ((bytes_eq-Decides c.name.text d.name.text).1 (ap (λ (x : ConceptTree). x.name.text) (sym e))))
    (λ k. or_right (bytes_eq c.name.text d.name.text) (is_among c.name.text (concept_names cs)) (named_among cs c k))
    (contains_cases d cs c h)

pub record HasName (cs : List ConceptTree) (name : List ℕ) : Type 0 where
  pub concept : ConceptTree
  pub there : Contains cs concept
  pub same : name ≡ concept.name.text

pub has_name : (cs : List ConceptTree) (name : List ℕ) → is_among name (concept_names cs) ≡ true → HasName cs name
has_name [] name h = absurd (both_ways (is_among name []) refl h)
has_name (d ∷ cs) name h = by (bytes_eq name d.name.text) refl (has_name cs name)
  where
    by : (t : Bool) → bytes_eq name d.name.text ≡ t → (is_among name (concept_names cs) ≡ true → HasName cs name) → HasName (d ∷ cs) name
    by true e k = record { concept = d; there = contains_here d cs; same = (bytes_eq-Decides name d.name.text).0 e }
    by false e k =
        let r = k (sym (ap (λ t. t || is_among name (concept_names cs)) e) ∙ h) in
        record { concept = r.concept; there = contains_there d cs r.concept r.there; same = r.same }

abbrev pub AreUnique : List ConceptTree → Type 0
AreUnique cs = (a b : ConceptTree) → Contains cs a → Contains cs b → a.name.text ≡ b.name.text → a ≡ b

abbrev pub AreWithin : List ConceptTree → List ConceptTree → Type 0
AreWithin cs all = (a : ConceptTree) → Contains cs a → Contains all a

-- what is taken are concepts before
pub take_within : (all taken : List ConceptTree) (c : ConceptTree) → AreWithin taken all → Contains all c → AreWithin (take_concept taken c) all
take_within all taken c w h = by (is_among c.name.text (concept_names taken))
  where
    by : (t : Bool) → AreWithin (if t then taken else taken ++ c ∷ []) all
    by true = w
    by false = λ a k. ⊎_elim (λ g. w a g) (λ e. subst (Contains all) e h) (Contains-push_cases taken c a k)

pub line_within : (all taken line : List ConceptTree) → AreWithin taken all → AreWithin line all → AreWithin (fold take_concept taken line) all
line_within all taken [] w l = w
line_within all taken (c ∷ line) w l =
    line_within all (take_concept taken c) line (take_within all taken c w (l c (contains_here c line))) (λ a k. l a (contains_there c line a k))

parents_within : (all taken : List ConceptTree) (ps : List Named) → ((name : List ℕ) → AreWithin (lineage all name) all) → AreWithin taken all → AreWithin (fold (take_parent (lineage all)) taken ps) all
parents_within all taken [] l w = w
parents_within all taken (p ∷ ps) l w = parents_within all (take_parent (lineage all) taken p) ps l (line_within all taken (lineage all p.text) w (l p.text))

pub lineage_within : (all : List ConceptTree) (name : List ℕ) → AreWithin (lineage all name) all
lineage_within [] name = λ a k. absurd (contains_none a k)
lineage_within (c ∷ earlier) name = by (bytes_eq c.name.text name) (lineage_within earlier name) (parents_within earlier [] c.parents (lineage_within earlier) (λ a k. absurd (contains_none a k)))
  where
    by : (t : Bool) → AreWithin (lineage earlier name) earlier → AreWithin (ancestors earlier c.parents) earlier → AreWithin (if t then ancestors earlier c.parents ++ c ∷ [] else lineage earlier name) (c ∷ earlier)
    by true l w a k = ⊎_elim (λ g. contains_there c earlier a (w a g)) (λ e. subst (Contains (c ∷ earlier)) e (contains_here c earlier)) (Contains-push_cases (ancestors earlier c.parents) c a k)
    by false l w a k = contains_there c earlier a (l a k)

-- what a concept declares, all of several declare that have it
in_all : (cs : List ConceptTree) (c : ConceptTree) → Contains cs c → IsDeclaredBy c.items (all_items cs)
in_all [] c k name h = absurd (contains_none c k)
in_all (d ∷ cs) c k name h =
    ⊎_elim
    (λ e. declared_first d.items (all_items cs) name (subst (λ (x : ConceptTree). is_declared x.items name ≡ true) (sym e) h))
    (λ g. declared_behind d.items (all_items cs) name (in_all cs c g name h))
    (contains_cases d cs c k)

neither : (a b : Bool) → (a || b) ≡ false → (a ≡ false) × (b ≡ false)
neither true b h = absurd (cc)
neither false b h = (refl, h)

not_shared_so : (t s : Bool) → t ≡ false → (not t && s) ≡ false → s ≡ false
not_shared_so true s e h = absurd (cc)
not_shared_so false s e h = h

module _ (all : List ConceptTree) (unique : AreUnique all) where
  -- one more concept of a line is taken, behind those of the line before it
  record IsTaken (taken before : List ConceptTree) : Type 0 where
    scoped : ScopedFrom [] (all_items taken)
    has : IsDeclaredBy (all_items before) (all_items taken)

  has_one : (taken before : List ConceptTree) (c : ConceptTree) → IsDeclaredBy (all_items before) (all_items taken) → IsDeclaredBy c.items (all_items taken) → IsDeclaredBy (all_items (before ++ c ∷ [])) (all_items taken)
  has_one taken before c h k name d =
      either_declares (is_declared (all_items taken) name ≡ true) (all_items before) c.items name (subst (λ (is : List ItemTree). is_declared is name ≡ true) (one_more before c) d)
      (h name) (k name)

  take_one : (taken before : List ConceptTree) (c : ConceptTree) → IsTaken taken before → AreWithin taken all → Contains all c → ScopedFrom (all_items before) c.items → brings_name taken c ≡ false → IsTaken (take_concept taken c) (before ++ c ∷ [])
  take_one taken before c h w k s b = by (is_among c.name.text (concept_names taken)) refl
    where
      by : (t : Bool) → is_among c.name.text (concept_names taken) ≡ t → IsTaken (if t then taken else taken ++ c ∷ []) (before ++ c ∷ [])
      by true e =
          let r = has_name taken c.name.text e in
          let same : c ≡ r.concept = unique c r.concept k (w r.concept r.there) r.same in
          record {
            scoped = h.scoped;
            has = has_one taken before c h.has (in_all taken c (subst (Contains taken) (sym same) r.there));
          }
      by false e =
          let apart : AreApart c.items (all_items taken) = λ name d. false_from_ne_true (is_declared (all_items taken) name) (λ g. not_shared c.items (all_items taken) name (not_shared_so (is_among c.name.text (concept_names taken)) (share_name c.items (all_items taken)) e b) d g) in
          let own = widen (all_items before) (all_items taken) c.items s h.has apart in
          record {
            scoped = subst (ScopedFrom []) (sym (one_more taken c)) (scoped_append [] (all_items taken) c.items h.scoped own);
            has =
                has_one (taken ++ c ∷ []) before c
                (λ name d. subst (λ (is : List ItemTree). is_declared is name ≡ true) (sym (one_more taken c)) (declared_first (all_items taken) c.items name (h.has name d)))
                (λ name d. subst (λ (is : List ItemTree). is_declared is name ≡ true) (sym (one_more taken c)) (declared_behind (all_items taken) c.items name d));
          }

  take_line : (taken before line : List ConceptTree) → IsTaken taken before → AreWithin taken all → AreWithin line all → ScopedFrom [] (all_items (before ++ line)) → brings_names taken line ≡ false → ScopedFrom [] (all_items (fold take_concept taken line))
  take_line taken before [] h w l s b = h.scoped
  take_line taken before (c ∷ line) h w l s b =
      let there = l c (contains_here c line) in
      let both = neither (brings_name taken c) (brings_names (take_concept taken c) line) b in
      let split : ScopedFrom (all_items before) (c.items ++ all_items line) = scoped_behind [] (all_items before) (c.items ++ all_items line) (subst (ScopedFrom []) (flat_map-append (λ (d : ConceptTree). d.items) before (c ∷ line)) s) in
      take_line (take_concept taken c) (before ++ c ∷ []) line
      (take_one taken before c h w there (scoped_first (all_items before) c.items (all_items line) split) both.0)
      (take_within all taken c w there)
      (λ a k. l a (contains_there c line a k))
      (subst (λ (cs : List ConceptTree). ScopedFrom [] (all_items cs)) (sym (append_assoc before (c ∷ []) line)) s)
      both.1

  not_brought : (b : Bool) → not b ≡ true → b ≡ false
  not_brought true h = absurd (cc)
  not_brought false h = refl

  take_parents : ((name : List ℕ) → ScopedFrom [] (all_items (lineage all name))) → (taken : List ConceptTree) (ps : List Named) → ScopedFrom [] (all_items taken) → AreWithin taken all → parents_fault all taken ps ≡ Ok tt → ScopedFrom [] (all_items (fold (take_parent (lineage all)) taken ps))
  take_parents known taken [] s w h = s
  take_parents known taken (p ∷ ps) s w h =
      let brings = not_brought (brings_names taken (lineage all p.text)) (passed _ _ (second_passes _ _ (first_passes _ _ h))) in
      take_parents known (take_parent (lineage all) taken p) ps
      (take_line taken [] (lineage all p.text) (record { scoped = s; has = λ name d. absurd (both_ways (is_declared [] name) refl d) }) w (lineage_within all p.text) (known p.text) brings)
      (line_within all taken (lineage all p.text) w (lineage_within all p.text))
      (second_passes _ _ h)

-- what is known of concepts that passed
record AreChecked (all : List ConceptTree) : Type 0 where
  unique : AreUnique all
  known : (name : List ℕ) → ScopedFrom [] (all_items (lineage all name))
  scoped : ConceptsAreScoped all

pub unique_more : (all : List ConceptTree) (c : ConceptTree) → AreUnique all → is_among c.name.text (concept_names all) ≡ false → AreUnique (c ∷ all)
unique_more all c u f a b ca cb e =
    ⊎_elim
    (λ ha. ⊎_elim (λ hb. sym ha ∙ hb) (λ kb. absurd (other b kb (ap (λ (x : ConceptTree). x.name.text) ha ∙ e))) (contains_cases c all b cb))
    (λ ka. ⊎_elim (λ hb. absurd (other a ka (ap (λ (x : ConceptTree). x.name.text) hb ∙ sym e))) (λ kb. u a b ka kb e) (contains_cases c all b cb))
    (contains_cases c all a ca)
  where
    other : (d : ConceptTree) → Contains all d → c.name.text ≡ d.name.text → ⊥
    other d k same = both_ways (is_among c.name.text (concept_names all)) f (subst (λ (n : List ℕ). is_among n (concept_names all) ≡ true) (sym same) (named_among all d k))

one_checked : (all : List ConceptTree) (c : ConceptTree) → AreChecked all → concept_fault all c ≡ Ok tt → AreChecked (c ∷ all)
one_checked all c h ok =
    let name = not_taken (is_among c.name.text (concept_names all)) (passed _ _ (second_passes _ _ (first_passes _ _ ok))) in
    let parents = first_passes _ _ (second_passes _ _ ok) in
    let items = second_passes _ _ (second_passes _ _ ok) in
    let inherited = take_parents all h.unique h.known [] c.parents tt (λ a k. absurd (contains_none a k)) parents in
    let whole : ScopedFrom [] (all_items (ancestors all c.parents ++ c ∷ [])) =
    subst (ScopedFrom []) (sym (one_more (ancestors all c.parents) c))
    (scoped_append [] (all_items (ancestors all c.parents)) c.items inherited (items_scoped all (all_items (ancestors all c.parents)) c.items items)) in
    let known : (n : List ℕ) → ScopedFrom [] (all_items (lineage (c ∷ all) n)) = λ n. by n (bytes_eq c.name.text n) whole (h.known n) in
    record { unique = unique_more all c h.unique name; known = known; scoped = (all_turned (all_items (lineage (c ∷ all) c.name.text)) (known c.name.text), h.scoped) }
  where
    not_taken : (t : Bool) → not t ≡ true → t ≡ false
    not_taken true e = absurd (cc)
    not_taken false e = refl

    by : (n : List ℕ) (t : Bool) → ScopedFrom [] (all_items (ancestors all c.parents ++ c ∷ [])) → ScopedFrom [] (all_items (lineage all n)) → ScopedFrom [] (all_items (if t then ancestors all c.parents ++ c ∷ [] else lineage all n))
    by n true w k = w
    by n false w k = k

all_checked : (before cs : List ConceptTree) → AreChecked before → concepts_fault before cs ≡ Ok tt → ConceptsAreScoped (reverse cs ++ before)
all_checked before [] h ok = h.scoped
all_checked before (c ∷ cs) h ok =
    let e : reverse cs ++ c ∷ before ≡ reverse (c ∷ cs) ++ before = sym (append_assoc (reverse cs) (c ∷ []) before) ∙ ap (λ (ds : List ConceptTree). ds ++ before) (sym (reverse-append (c ∷ []) cs)) in
    subst ConceptsAreScoped e (all_checked (c ∷ before) cs (one_checked before c h (first_passes _ _ ok)) (second_passes _ _ ok))

-- the concepts of a file that keeps the rules
pub kept_are_scoped : (cs : List ConceptTree) → concepts_fault [] cs ≡ Ok tt → ConceptsAreScoped (reverse cs)
kept_are_scoped cs ok =
    subst ConceptsAreScoped (append-nil (reverse cs))
    (all_checked [] cs (record { unique = λ a b k. absurd (contains_none a k); known = λ name. tt; scoped = tt }) ok)

pub checked_are_scoped : (most : ℕ) (f : FileTree) → file_fault most f ≡ Ok tt → ConceptsAreScoped (reverse f.concepts)
checked_are_scoped most f ok = kept_are_scoped f.concepts (first_passes _ _ ok)
