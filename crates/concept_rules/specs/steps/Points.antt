-- Points of a file, and what was seen in extent of them.
use Rattle.std.specs.Prelude.{◌≡◌, ◌∷◌, [], ◌++◌, ℕ, List}
use Rattle.utopist_syntax.specs.FileTree.{ItemTree, ConceptTree}
use Rattle.utopist_syntax.specs.declared.concept.Concept.{Concept}
use Rattle.concept_rules.specs.declared.kinds.Seen.{Seen}
use Rattle.concept_rules.specs.declared.check.Findings.{Findings}
use Rattle.concept_rules.specs.declared.own_items.Current.{Current}
use Rattle.concept_rules.specs.steps.DeclaredNames.{Declared}
use Rattle.concept_rules.specs.steps.Extent.{Extent, extent, Reached, IsHere, IsLine}

-- so it is for each extent of which this was seen
abbrev pub AtEachExtent : Seen → (Extent → Type 0) → Type 0
AtEachExtent s P = (f : Extent) → Reached f s.concepts.now s.checked.now s.declared.now → P f

-- so it is for each such extent, and the items before a point of it, which are those of these concepts
abbrev pub AtEachPoint : Seen → List ℕ → (Extent → List ItemTree → Type 0) → Type 0
AtEachPoint s here P =
    (f : Extent) (before : List ItemTree)
    → Reached f s.concepts.now s.checked.now s.declared.now → IsHere f here before → P f before

-- so it is for each such extent, and the concepts of it that have these numbers
abbrev pub AtEachLine : Seen → List ℕ → (Extent → List ConceptTree → Type 0) → Type 0
AtEachLine s line P =
    (f : Extent) (concepts : List ConceptTree)
    → Reached f s.concepts.now s.checked.now s.declared.now → IsLine f.all f.concept line concepts
    → P f concepts

-- so it is for each file of which this was found up to the concept of this number
abbrev pub AtEachConcept :
    List Concept → ℕ → Findings → (List ConceptTree → List ConceptTree → Type 0) → Type 0
AtEachConcept concepts n found P =
    (all before : List ConceptTree)
    → Reached (extent all n before 0) concepts found.checked found.declared → P all before

-- so it is for each file of which this was found before the items of the concept at hand
abbrev pub AtEachItems :
    Current → Declared → (List ConceptTree → List ConceptTree → List ConceptTree → Type 0) → Type 0
AtEachItems c declared P =
    (all before : List ConceptTree) (line : List ℕ) (ancestors : List ConceptTree)
    → Reached (extent all c.which before 0) c.concepts.now c.checked.now declared
    → IsLine all c.which line ancestors → c.here.now ≡ line ++ c.which ∷ []
    → P all before ancestors
