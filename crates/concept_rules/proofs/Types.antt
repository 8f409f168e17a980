-- The items inside a type.
use Rattle.std.proofs.Common.{◌≡◌, ℕ, Bool, true, false, List, [], ◌∷◌, ◌||◌, Some, refl, sym, ap, subst}
use Rattle.std.specs.Prelude.{Contains, slice_get}
use Rattle.std.specs.Str.{bytes_eq}
use Rattle.std.proofs.lemmas.Slice.Eq.{bytes_eq-Decides}
use Rattle.utopist_syntax.specs.declared.concept.Concept.{Concept}
use Rattle.utopist_syntax.specs.FileTree.{ConceptTree}
use Rattle.concept_rules.specs.Declarations.{is_among}
use Rattle.concept_rules.specs.Lineage.{concept_names, lineage, all_items, effective_items}
use Rattle.concept_rules.specs.steps.DeclaredNames.{Declared}
use Rattle.concept_rules.specs.Lineages.{Lines}
use Rattle.concept_rules.specs.steps.Extent.{Extent, Reached, IsHere, IsLine}
use Rattle.concept_rules.proofs.Lookup.{false_of}
use Rattle.concept_rules.proofs.Lines.{line_here}

pub same_test : (a b : List ℕ) (t : Bool) → bytes_eq a b ≡ t → bytes_eq b a ≡ t
same_test a b true e = (bytes_eq-Decides b a).1 (sym ((bytes_eq-Decides a b).0 e))
same_test a b false e = false_of (bytes_eq b a) (λ t. let s = (bytes_eq-Decides a b).1 (sym ((bytes_eq-Decides b a).0 t)) in absurd (cc))

absent_step :
    (c : ConceptTree) (earlier : List ConceptTree) (name : List ℕ) (b : Bool)
    → bytes_eq name c.name.text ≡ b → is_among name (concept_names (c ∷ earlier)) ≡ false
    → (is_among name (concept_names earlier) ≡ false → lineage earlier name ≡ [])
    → lineage (c ∷ earlier) name ≡ []
absent_step c earlier name true e h rest = let t : (true || is_among name (concept_names earlier)) ≡ false = rw e at h in absurd (cc)
absent_step c earlier name false e h rest = rw (same_test name c.name.text false e) (rest (rw e at h))

-- where there is no concept of a name, it has no line
pub lineage_absent :
    (cs : List ConceptTree) (name : List ℕ) → is_among name (concept_names cs) ≡ false
    → lineage cs name ≡ []
lineage_absent [] name h = refl
lineage_absent (c ∷ earlier) name h =
    absent_step c earlier name (bytes_eq name c.name.text) refl h (lineage_absent earlier name)

module _
    (f : Extent) (concepts : List Concept) (l : Lines) (d : Declared) (at : Reached f concepts l d)
    (name text : List ℕ) (is : text ≡ name) where
  -- the line that was found under a concept's name has its items
  pub type_here :
      (line : List ℕ)
      → (i : ℕ) × (slice_get l.names i ≡ Some text) × (slice_get l.lines i ≡ Some line)
      → IsHere f line (effective_items f.before name)
  type_here line w =
      line_here f line (lineage f.before name) (subst (λ t. IsLine f.all f.concept line (lineage f.before t)) is (at.lines.lines w.0 text line w.1 w.2))

  pub type_missing : ¬ Contains l.names text → is_among name (concept_names f.before) ≡ false
  type_missing h =
      false_of (is_among name (concept_names f.before)) (λ t. h (subst (Contains l.names) (sym is) ((at.lines.known name).0 t)))

  pub none_inside : ¬ Contains l.names text → effective_items f.before name ≡ []
  none_inside h = ap all_items (lineage_absent f.before name (type_missing h))
