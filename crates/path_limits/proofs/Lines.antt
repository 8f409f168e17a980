-- What the concepts of a file that keeps the rules have, by their own items and their lines.
use Rattle.std.proofs.Common.{◌≡◌, ℕ, zero, suc, ◌+◌, ◌<◌, ◌≤◌, Bool, true, false, List, [], ◌∷◌, ◌++◌, Option, Some, Ok, map, length, refl, sym, ap, ◌∙◌, subst, ⊎_elim, arith}
use Rattle.std.specs.Prelude.{reverse, slice_get, Contains}
use Rattle.std.specs.Str.{bytes_eq}
use Rattle.std.specs.List.{flat_map}
use Rattle.std.proofs.lemmas.Bool.{or_left, or_right}
use Rattle.std.proofs.lemmas.Grind.{flat_map-append}
use Rattle.std.proofs.lemmas.List.Elements.{Contains-append_right}
use Rattle.std.proofs.lemmas.Option.{slice_get_within}
use Rattle.std.proofs.lemmas.Slice.Eq.{bytes_eq-Decides}
use Rattle.priz_base.proofs.Members.{contains_here, contains_there, contains_cases}
use Rattle.name_sets.proofs.Spelt.{member_at}
use Rattle.utopist_syntax.specs.Named.{Named}
use Rattle.utopist_syntax.specs.declared.item.VarKind.{VarKind}
use Rattle.utopist_syntax.specs.declared.item.VarKind.TheVariants.{Numeric, Of}
use Rattle.utopist_syntax.specs.FileTree.{ItemTree, var, eq, rel, ConceptTree}
use Rattle.concept_rules.specs.Declarations.{is_among}
use Rattle.concept_rules.specs.Lineage.{concept_names, lineage, all_items, ancestors}
use Rattle.concept_rules.specs.Lineages.{Lines, AreLineages}
use Rattle.concept_rules.specs.ConceptRules.{concepts_fault}
use Rattle.canonical_paths.specs.PathNames.{PathNames}
use Rattle.canonical_paths.specs.Canonical.{items_behind}
use Rattle.canonical_paths.specs.DeclaredPaths.{item_paths, declared_paths}
use Rattle.canonical_paths.specs.Components.{declared_in}
use Rattle.canonical_paths.specs.steps.Fitting.{IsKnownKind, AreNamedOnce}
use Rattle.canonical_paths.proofs.Elements.{heads, tails}
use Rattle.canonical_paths.proofs.CheckedConcepts.{one_more, lineage_within}
use Rattle.canonical_paths.proofs.FittingItems.{known_in}
use Rattle.canonical_paths.proofs.FittingConcepts.{same_lineage}
use Rattle.canonical_paths.proofs.KnownPaths.{own_is_here, declared_again}
use Rattle.canonical_paths.proofs.FindingPaths.{place_of}
use Rattle.canonical_paths.proofs.ConceptNumbers.{Standing, standing, stands_in_all, turned_around, had_by_reverse, fitted, sound_here, stands_earlier, names_stand_once, name_at, is_named}
use Rattle.path_limits.specs.declared.extent.PathExtent.{PathExtent}
use Rattle.path_limits.specs.Extents.{extent_of}
use Rattle.path_limits.specs.steps.Measured.{IsMeasured, IsKindMeasured, IsItemMeasured, AreMeasured, AreOf, own_paths, AreFirst}

-- what is made of lists that stand one behind the other
made_of_parts : {X Y Z : Type 0} (f : Y → List Z) (g : X → List Y) (xs : List X) → flat_map f (flat_map g xs) ≡ flat_map (λ x. flat_map f (g x)) xs
made_of_parts f g [] = refl
made_of_parts {Z = Z} f g (x ∷ xs) =
    flat_map-append f (g x) (flat_map g xs) ∙ ap (λ (zs : List Z). flat_map f (g x) ++ zs) (made_of_parts f g xs)

among_behind : (later earlier : List ConceptTree) (name : List ℕ) → is_among name (concept_names earlier) ≡ true → is_among name (concept_names (later ++ earlier)) ≡ true
among_behind [] earlier name h = h
among_behind (d ∷ later) earlier name h = or_right (bytes_eq name d.name.text) (is_among name (concept_names (later ++ earlier))) (among_behind later earlier name h)

-- later concepts have no part in a lineage
lineage_past : (later earlier : List ConceptTree) (name : List ℕ) → AreNamedOnce (later ++ earlier) → is_among name (concept_names earlier) ≡ true → lineage (later ++ earlier) name ≡ lineage earlier name
lineage_past [] earlier name once h = refl
lineage_past (d ∷ later) earlier name once h =
    same_lineage d (later ++ earlier) once.0 name (among_behind later earlier name h) ∙ lineage_past later earlier name once.1 h

module _ (all : List ConceptTree) (kept : concepts_fault [] all ≡ Ok tt) where
  -- the declared paths of a concept are the own ones of its line
  pub declared_by_line : (c : ConceptTree) → declared_in all c ≡ flat_map (own_paths all) (lineage (reverse all) c.name.text)
  declared_by_line c =
      let sound = (fitted all kept).sound in
      declared_again (reverse all) sound.once sound.fit c.name.text
      ∙ made_of_parts (item_paths (declared_paths (reverse all))) (λ (d : ConceptTree). d.items) (lineage (reverse all) c.name.text)

  module _ (n : ℕ) (c : ConceptTree) (is : slice_get all n ≡ Some c) where
    s : Standing all n c
    s = standing all n c is

    -- its own items are among those that it has
    own_among : (i : ItemTree) → Contains c.items i → Contains (items_behind (reverse s.before) c) i
    own_among i h =
        subst (λ (items : List ItemTree). Contains items i) (sym (own_is_here c (reverse s.before) ∙ one_more (ancestors (reverse s.before) c.parents) c))
        (Contains-append_right (all_items (ancestors (reverse s.before) c.parents)) c.items i h)

    module _ (extents : List PathExtent) (first : AreFirst (declared_in all) all extents) (count : length extents ≡ n) where
      -- a type that is known before it is measured
      type_measured : (type : List ℕ) → is_among type (concept_names (reverse s.before)) ≡ true → IsMeasured (declared_paths (reverse all)) (concept_names all) extents type
      type_measured type h =
          let b = stands_earlier all kept n c s type h in
          record {
            named = member_at (concept_names all) b.number type b.is;
            extent = λ m e.
                let same = names_stand_once all kept type m b.number e b.is in
                let d = is_named all m type e in
                let w : m < length extents = omega (arith, same, b.below, count) in
                first.each m d.concept w d.is
                ∙ ap (λ (t : List ℕ). Some (extent_of (declared_paths (reverse all) t))) d.named;
          }

      kind_measured : (kind : VarKind) → IsKnownKind (reverse s.before) kind → IsKindMeasured (declared_paths (reverse all)) (concept_names all) extents kind
      kind_measured Numeric h = tt
      kind_measured (Of type) h = type_measured type.text h

      item_measured : (i : ItemTree) → Contains (items_behind (reverse s.before) c) i → IsItemMeasured (declared_paths (reverse all)) (concept_names all) extents i
      item_measured (var names kind binds) h =
          kind_measured kind (known_in (reverse s.before) [] (items_behind (reverse s.before) c) (sound_here all kept n c s).fit.0 names kind binds h)
      item_measured (eq left right) h = tt
      item_measured (rel name parts output body) h = tt

      pub items_measured : AreMeasured (declared_paths (reverse all)) (concept_names all) extents c.items
      items_measured i h = item_measured i (own_among i h)

    -- its line
    turn : reverse all ≡ reverse s.rest ++ c ∷ reverse s.before
    turn = turned_around all n c s

    named_here : is_among c.name.text (concept_names (c ∷ reverse s.before)) ≡ true
    named_here = or_left (bytes_eq c.name.text c.name.text) (is_among c.name.text (concept_names (reverse s.before))) ((bytes_eq-Decides c.name.text c.name.text).1 refl)

    line_here : lineage (reverse all) c.name.text ≡ lineage (c ∷ reverse s.before) c.name.text
    line_here =
        ap (λ (cs : List ConceptTree). lineage cs c.name.text) turn
        ∙ lineage_past (reverse s.rest) (c ∷ reverse s.before) c.name.text (subst AreNamedOnce turn (fitted all kept).sound.once) named_here

    -- a concept that isn't later
    not_later : (d : ConceptTree) → Contains (c ∷ reverse s.before) d → (m : ℕ) → slice_get all m ≡ Some d → m < suc n
    not_later d h m e =
        ⊎_elim
        (λ (same : c ≡ d).
        let k = names_stand_once all kept d.name.text m n (name_at all m d e) (name_at all n d (is ∙ ap (λ (x : ConceptTree). Some x) same)) in
        omega (arith, k))
        (λ (g : Contains (reverse s.before) d).
        let p = place_of s.before d (had_by_reverse s.before d g) in
        let a = stands_in_all all n c s p.0 d p.1 in
        let k = names_stand_once all kept d.name.text m p.0 (name_at all m d e) (name_at all p.0 d a.0) in
        omega (arith, k, a.1))
        (contains_cases c (reverse s.before) d h)

    module _ (own : List PathExtent) (first : AreFirst (own_paths all) all own) (count : length own ≡ suc n) where
      of_parts : (line : List ℕ) (cs : List ConceptTree) → ((d : ConceptTree) → Contains cs d → Contains (c ∷ reverse s.before) d) → map (slice_get all) line ≡ map (λ d. Some d) cs → AreOf (own_paths all) own line cs
      of_parts [] [] within e = refl
      of_parts [] (d ∷ cs) within e = absurd (cc)
      of_parts (m ∷ line) [] within e = absurd (cc)
      of_parts (m ∷ line) (d ∷ cs) within e =
          let at : slice_get all m ≡ Some d = heads (slice_get all m) (Some d) (map (slice_get all) line) (map (λ x. Some x) cs) e in
          let w = not_later d (within d (contains_here d cs)) m at in
          let here : slice_get own m ≡ Some (extent_of (own_paths all d)) = first.each m d (omega (arith, w, count)) at in
          ap (λ (o : Option PathExtent). o ∷ map (slice_get own) line) here
          ∙ ap (λ (os : List (Option PathExtent)). Some (extent_of (own_paths all d)) ∷ os)
          (of_parts line cs (λ x h. within x (contains_there d cs x h)) (tails (slice_get all m) (Some d) (map (slice_get all) line) (map (λ x. Some x) cs) e))

      pub line_parts : (l : Lines) → AreLineages all l → (line : List ℕ) → slice_get l.lines n ≡ Some line → AreOf (own_paths all) own line (lineage (reverse all) c.name.text)
      line_parts l h line e =
          of_parts line (lineage (reverse all) c.name.text)
          (λ d k. lineage_within (c ∷ reverse s.before) c.name.text d (subst (λ (cs : List ConceptTree). Contains cs d) line_here k))
          (h.lines n c line is e)
