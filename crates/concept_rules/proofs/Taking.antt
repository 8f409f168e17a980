-- A line that takes one more concept.
use Rattle.std.proofs.Common.{◌≡◌, ℕ, ◌<◌, Bool, true, false, List, [], ◌∷◌, ◌++◌, map, refl, sym, ap, ◌∙◌, subst, ⊎_elim}
use Rattle.std.specs.Prelude.{Contains}
use Rattle.std.specs.Str.{bytes_eq}
use Rattle.std.specs.List.{flat_map}
use Rattle.std.proofs.lemmas.List.{map-append}
use Rattle.std.proofs.lemmas.List.Elements.{All-push, All-contains, Contains-push_cases}
use Rattle.std.proofs.lemmas.Slice.Eq.{bytes_eq-Decides}
use Rattle.priz_base.proofs.Members.{contains_here, contains_there, contains_cases, contains_none}
use Rattle.utopist_syntax.specs.FileTree.{ItemTree, ConceptTree}
use Rattle.concept_rules.specs.Declarations.{is_among, is_declared}
use Rattle.concept_rules.specs.Lineage.{concept_names, take_concept, all_items}
use Rattle.concept_rules.specs.ConceptRules.{share_name, brings_name}
use Rattle.concept_rules.specs.Lineages.{Lines}
use Rattle.concept_rules.specs.steps.Extent.{concept_of, own_items, IsApart, IsLine, AreLines}
use Rattle.concept_rules.proofs.Lookup.{false_of}
use Rattle.concept_rules.proofs.Sharing.{or_true, not_shared, declared_in}

pub items_of_numbers :
    (all : List ConceptTree) (line : List ℕ)
    → all_items (map (concept_of all) line) ≡ flat_map (own_items all) line
items_of_numbers all [] = refl
items_of_numbers all (n ∷ line) =
    ap (λ (items : List ItemTree). own_items all n ++ items) (items_of_numbers all line)

among_first :
    (name : List ℕ) (n : List ℕ) (ns : List (List ℕ)) → name ≡ n → is_among name (n ∷ ns) ≡ true
among_first name n ns e = rw ((bytes_eq-Decides name n).1 e) refl

-- a concept of a line has one of its names
pub name_among :
    (all : List ConceptTree) (line : List ℕ) (n : ℕ) → Contains line n
    → is_among (concept_of all n).name.text (concept_names (map (concept_of all) line)) ≡ true
name_among all [] n c = absurd (contains_none n c)
name_among all (m ∷ line) n c =
    ⊎_elim
    (λ e. among_first (concept_of all n).name.text (concept_of all m).name.text (concept_names (map (concept_of all) line)) (ap (λ k. (concept_of all k).name.text) (sym e)))
    (λ d. rw (name_among all line n d) (or_true (bytes_eq (concept_of all n).name.text (concept_of all m).name.text)))
    (contains_cases m line n c)

-- a name of a line is that of one of its concepts
pub record Named (all : List ConceptTree) (line : List ℕ) (name : List ℕ) : Type 0 where
  pub number : ℕ
  pub among : Contains line number
  pub same : name ≡ (concept_of all number).name.text

named_step :
    (all : List ConceptTree) (m : ℕ) (line : List ℕ) (name : List ℕ) (b : Bool)
    → bytes_eq name (concept_of all m).name.text ≡ b
    → is_among name (concept_names (map (concept_of all) (m ∷ line))) ≡ true
    → (is_among name (concept_names (map (concept_of all) line)) ≡ true → Named all line name)
    → Named all (m ∷ line) name
named_step all m line name true e h rest = record { number = m; among = contains_here m line; same = (bytes_eq-Decides name (concept_of all m).name.text).0 e }
named_step all m line name false e h rest =
    let r = rest (rw e at h) in record { number = r.number; among = contains_there m line r.number r.among; same = r.same }

pub named :
    (all : List ConceptTree) (line : List ℕ) (name : List ℕ)
    → is_among name (concept_names (map (concept_of all) line)) ≡ true → Named all line name
named all [] name h = absurd (cc)
named all (m ∷ line) name h =
    named_step all m line name (bytes_eq name (concept_of all m).name.text) refl h (named all line name)

module _ (all : List ConceptTree) (count : ℕ) (taken : List ℕ) (cs : List ConceptTree)
    (is : IsLine all count taken cs) (n : ℕ) where
  pub taken_known :
      Contains taken n → is_among (concept_of all n).name.text (concept_names cs) ≡ true
  taken_known c = rw is.concepts (name_among all taken n c)

  pub taken_new :
      (before : List ConceptTree) (l : Lines) → AreLines all count before l → n < count
      → ¬ Contains taken n → is_among (concept_of all n).name.text (concept_names cs) ≡ false
  taken_new before l lines lt none =
      false_of (is_among (concept_of all n).name.text (concept_names cs)) (λ t.
      let r = named all taken (concept_of all n).name.text (rw is.concepts at t) in
      let below = All-contains (λ k. k < count) taken r.number is.below r.among in
      none (subst (Contains taken) (sym (lines.once n r.number lt below r.same)) r.among))

  items_are : all_items cs ≡ flat_map (own_items all) taken
  items_are = ap all_items is.concepts ∙ items_of_numbers all taken

  declared_by :
      (m : ℕ) (name : List ℕ) → Contains taken m → is_declared (own_items all m) name ≡ true
      → is_declared (all_items cs) name ≡ true
  declared_by m name c h = rw items_are (declared_in (own_items all) taken m name c h)

  take_apart :
      share_name (own_items all n) (all_items cs) ≡ false
      → IsApart (own_items all) (taken ++ n ∷ [])
  take_apart none = λ name a b ca cb da db.
      ⊎_elim
      (λ ta. ⊎_elim
      (λ tb. is.apart name a b ta tb da db)
      (λ eb. absurd (not_shared (own_items all n) (all_items cs) name none (subst (λ k. is_declared (own_items all k) name ≡ true) (sym eb) db) (declared_by a name ta da)))
      (Contains-push_cases taken n b cb))
      (λ ea. ⊎_elim
      (λ tb. absurd (not_shared (own_items all n) (all_items cs) name none (subst (λ k. is_declared (own_items all k) name ≡ true) (sym ea) da) (declared_by b name tb db)))
      (λ eb. sym ea ∙ eb)
      (Contains-push_cases taken n b cb))
      (Contains-push_cases taken n a ca)

  -- one more concept, which shares no name with the others
  pub take_more :
      n < count → share_name (own_items all n) (all_items cs) ≡ false
      → IsLine all count (taken ++ n ∷ []) (cs ++ concept_of all n ∷ [])
  take_more lt none = record {
    concepts =
        ap (λ (xs : List ConceptTree). xs ++ concept_of all n ∷ []) is.concepts
        ∙ sym (map-append (concept_of all) taken (n ∷ []));
    below = All-push (λ k. k < count) taken n is.below lt;
    apart = take_apart none;
  }

  -- the line is left, or grows
  pub stays : Contains taken n → IsLine all count taken (take_concept cs (concept_of all n))
  stays c = rw (taken_known c) is

  pub grows :
      (before : List ConceptTree) (l : Lines) → AreLines all count before l → n < count
      → ¬ Contains taken n → share_name (own_items all n) (all_items cs) ≡ false
      → IsLine all count (taken ++ n ∷ []) (take_concept cs (concept_of all n))
  grows before l lines lt new none = rw (taken_new before l lines lt new) (take_more lt none)

  pub brings_none : Contains taken n → brings_name cs (concept_of all n) ≡ false
  brings_none c = rw (taken_known c) refl

  pub brings_shared :
      (before : List ConceptTree) (l : Lines) → AreLines all count before l → n < count
      → ¬ Contains taken n
      → brings_name cs (concept_of all n) ≡ share_name (own_items all n) (all_items cs)
  brings_shared before l lines lt new = rw (taken_new before l lines lt new) refl
