-- How far a check has come.
use Rattle.std.proofs.Common.{◌≡◌, ℕ, ◌<◌, Bool, true, false, ◌||◌, not, List, [], ◌∷◌, ◌++◌, map, take, drop, fold, reverse, Ok, Err, refl, ap, ◌∙◌}
use Rattle.std.specs.Prelude.{Result}
use Rattle.std.proofs.lemmas.List.Elements.{All-nil}
use Rattle.priz_base.proofs.Members.{contains_none}
use Rattle.body_lang.specs.Verdicts.{Verdict, and_then, fault_unless}
use Rattle.utopist_syntax.specs.Named.{Named}
use Rattle.utopist_syntax.specs.declared.concept.Concept.{Concept}
use Rattle.utopist_syntax.specs.FileTree.{ConceptTree}
use Rattle.concept_rules.specs.declared.fault.ModelFault.{ModelFault}
use Rattle.concept_rules.specs.declared.fault.UnfoldFault.{UnfoldFault}
use Rattle.concept_rules.specs.declared.fault.UnfoldFault.TheVariants as fault
use Rattle.concept_rules.specs.Checks.{Checks}
use Rattle.concept_rules.specs.Declarations.{is_among}
use Rattle.concept_rules.specs.Lineage.{concept_names, take_concept, take_parent, lineage, all_items}
use Rattle.concept_rules.specs.PathRules.{broken_at}
use Rattle.concept_rules.specs.declared.fault.Rule.TheVariants as rule
use Rattle.concept_rules.specs.ConceptRules.{brings_name, brings_names, parent_fault, parents_fault, items_fault, concepts_fault}
use Rattle.concept_rules.specs.steps.DeclaredNames.{Declared}
use Rattle.concept_rules.specs.Lineages.{Lines}
use Rattle.concept_rules.specs.steps.Extent.{extent, concept_of, own_items, checked_items, IsApart, IsLine, Reached}

-- a line that takes those that are left, after which it is as one that takes the whole
pub record Taking (all : List ConceptTree) (count : ℕ) (taken : List ℕ) (before whole left : List ConceptTree) : Type 0 where
  pub concepts : List ConceptTree
  pub line : IsLine all count taken concepts
  pub brings : brings_names before whole ≡ brings_names concepts left
  pub folds : fold take_concept before whole ≡ fold take_concept concepts left

-- the same of parents
pub record Ancestry (all : List ConceptTree) (count : ℕ) (taken : List ℕ) (earlier : List ConceptTree) (whole left : List Named) : Type 0 where
  pub concepts : List ConceptTree
  pub line : IsLine all count taken concepts
  pub verdict : parents_fault earlier [] whole ≡ parents_fault earlier concepts left
  pub folds :
      fold (take_parent (lineage earlier)) [] whole
      ≡ fold (take_parent (lineage earlier)) concepts left

-- some items of a concept were checked, behind those of its ancestors
pub record WithinItems (all : List ConceptTree) (n : ℕ) (before : List ConceptTree) (here : List ℕ) (concepts : List Concept) (l : Lines) (d : Declared) (m : ℕ) (cs : List ConceptTree) : Type 0 where
  pub found : Reached (extent all n before m) concepts l d
  pub apart : IsApart (checked_items (extent all n before m)) here
  pub verdict :
      items_fault before (all_items cs) (own_items all n)
      ≡ items_fault before (all_items cs ++ take m (own_items all n)) (drop m (own_items all n))

-- some concepts were checked
pub record WithinConcepts (all : List ConceptTree) (concepts : List Concept) (k : ℕ) (l : Lines) (d : Declared) : Type 0 where
  pub before : List ConceptTree
  pub found : Reached (extent all k before 0) concepts l d
  pub latest : before ≡ reverse (take k all)
  pub verdict : concepts_fault [] all ≡ concepts_fault before (drop k all)

pub passes : {E : Type 0} (b : Bool) (e : E) → fault_unless (not b) e ≡ Ok tt → b ≡ false
passes true e h = absurd (cc)
passes false e h = refl

pub passed : {E : Type 0} (b : Bool) (e : E) → b ≡ false → fault_unless (not b) e ≡ Ok tt
passed b e h = rw h refl

-- what fails for a part fails for the whole
pub fails_whole :
    (b w : Bool) (f : ModelFault) (e : UnfoldFault) → (b ≡ true → w ≡ true)
    → Checks {X = Unit {0}} (fault_unless (not b) f) (Err e)
    → Checks {X = Unit {0}} (fault_unless (not w) f) (Err e)
fails_whole true w f (fault.Model g) h c = rw (h refl) c
fails_whole false w f (fault.Model g) h c = absurd (cc)
fails_whole b w f fault.NoMem h c = tt

-- a first fault is that of the whole
pub fails_first :
    (v next whole : Verdict ModelFault) (e : UnfoldFault) → whole ≡ and_then v next
    → Checks {X = Unit {0}} v (Err e) → Checks {X = Unit {0}} whole (Err e)
fails_first v next whole (fault.Model g) is c = is ∙ ap (λ r. and_then r next) c
fails_first v next whole fault.NoMem is c = tt

module _
    {all : List ConceptTree} {count : ℕ} {taken : List ℕ} {before whole : List ConceptTree} {x : ConceptTree} {left : List ConceptTree}
  where
    pub take_next :
        (p : Taking all count taken before whole (x ∷ left)) (new : List ℕ)
        → brings_name p.concepts x ≡ false → IsLine all count new (take_concept p.concepts x)
        → Taking all count new before whole left
    take_next p new none line = record {
      concepts = take_concept p.concepts x;
      line = line;
      brings = p.brings ∙ ap (λ b. b || brings_names (take_concept p.concepts x) left) none;
      folds = p.folds;
    }

    pub take_fails :
        (p : Taking all count taken before whole (x ∷ left)) → brings_name p.concepts x ≡ true
        → brings_names before whole ≡ true
    take_fails p t = p.brings ∙ ap (λ b. b || brings_names (take_concept p.concepts x) left) t

-- a parent whose line was taken
module _ (all : List ConceptTree) (count : ℕ) (earlier cs : List ConceptTree) (parent : Named)
    (line : List ℕ) (il : IsLine all count line (lineage earlier parent.text)) where
  pub parent_rules :
      is_among parent.text (concept_names earlier) ≡ true → (r : Result (Unit {0}) UnfoldFault)
      → Checks (fault_unless (not (brings_names cs (map (concept_of all) line))) (broken_at parent rule.DuplicateName)) r
      → Checks (parent_fault earlier cs parent) r
  parent_rules known r h = rw (known, il.concepts) h

  pub parent_line :
      (new : List ℕ) → IsLine all count new (fold take_concept cs (map (concept_of all) line))
      → IsLine all count new (take_parent (lineage earlier) cs parent)
  parent_line new h = rw il.concepts h

pub no_parents :
    (all : List ConceptTree) (count : ℕ) (earlier : List ConceptTree) (whole : List Named)
    → Ancestry all count [] earlier whole whole
no_parents all count earlier whole = record {
  concepts = [];
  line = record { concepts = refl; below = All-nil (λ n. n < count); apart = λ name n m c. absurd (contains_none n c) };
  verdict = refl;
  folds = refl;
}

module _
    {all : List ConceptTree} {count : ℕ} {taken : List ℕ} {earlier : List ConceptTree} {whole : List Named} {x : Named} {left : List Named}
  where
    pub next_parent :
        (p : Ancestry all count taken earlier whole (x ∷ left)) (new : List ℕ)
        → parent_fault earlier p.concepts x ≡ Ok tt
        → IsLine all count new (take_parent (lineage earlier) p.concepts x)
        → Ancestry all count new earlier whole left
    next_parent p new ok line = record {
      concepts = take_parent (lineage earlier) p.concepts x;
      line = line;
      verdict =
          p.verdict
          ∙ ap (λ v. and_then v (parents_fault earlier (take_parent (lineage earlier) p.concepts x) left)) ok;
      folds = p.folds;
    }

    pub parent_fails :
        (Y : Type 0) (p : Ancestry all count taken earlier whole (x ∷ left)) (e : UnfoldFault)
        → Checks {X = Unit {0}} (parent_fault earlier p.concepts x) (Err e)
        → Checks {X = Y} (parents_fault earlier [] whole) (Err e)
    parent_fails Y p (fault.Model g) c =
        p.verdict
        ∙ ap (λ v. and_then v (parents_fault earlier (take_parent (lineage earlier) p.concepts x) left)) c
    parent_fails Y p fault.NoMem c = tt
