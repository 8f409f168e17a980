-- The lineages of all concepts of a file.
use Rattle.std.proofs.Common.{◌≡◌, ℕ, suc, ◌<◌, ◌≤◌, ◌∙◌, List, [], ◌∷◌, ◌++◌, length, map, reverse, take, All, Some, Err, refl, sym, ap, subst, arith}
use Rattle.std.specs.Prelude.{slice_get, option_map}
use Rattle.std.proofs.lemmas.Grind.{reverse_onto}
use Rattle.std.proofs.lemmas.List.{map-append, reverse-reverse, take_all, length-map, length-reverse}
use Rattle.std.proofs.lemmas.List.Elements.{All-weaker}
use Rattle.std.proofs.lemmas.Option.{slice_get-map, slice_get-get_or}
use Rattle.body_lang.specs.Verdicts.{Verdict}
use Rattle.utopist_syntax.specs.FileTree.{ConceptTree}
use Rattle.utopist_syntax.specs.declared.concept.Concept.{Concept}
use Rattle.concept_rules.specs.declared.fault.ModelFault.{ModelFault}
use Rattle.concept_rules.specs.declared.fault.UnfoldFault.{UnfoldFault}
use Rattle.concept_rules.specs.declared.fault.UnfoldFault.TheVariants as fault
use Rattle.concept_rules.specs.Checks.{Checks}
use Rattle.concept_rules.specs.Lineage.{concept_names, lineage}
use Rattle.concept_rules.specs.Lineages.{Lines, AreLineages}
use Rattle.concept_rules.specs.steps.DeclaredNames.{Declared}
use Rattle.concept_rules.specs.steps.Extent.{no_concept, concept_of, IsLine}
use Rattle.concept_rules.proofs.Steps.{WithinConcepts}

-- a fault is one for each result
pub same_fault :
    (X Y : Type 0) (v : Verdict ModelFault) (e : UnfoldFault)
    → Checks {X = X} v (Err e) → Checks {X = Y} v (Err e)
same_fault X Y v (fault.Model f) h = h
same_fault X Y v fault.NoMem h = tt

map_reversed :
    {X Y : Type 0} (f : X → Y) (xs : List X) → map f (reverse xs) ≡ reverse (map f xs)
map_reversed f [] = refl
map_reversed f (x ∷ xs) =
    ap (map f) (reverse_onto xs x []) ∙ map-append f (reverse xs) (x ∷ [])
    ∙ ap (λ ys. ys ++ f x ∷ []) (map_reversed f xs) ∙ sym (reverse_onto (map f xs) (f x) [])

numbers_found :
    (all : List ConceptTree) (line : List ℕ) → All (λ n. n < length all) line
    → map (slice_get all) line ≡ map Some (map (concept_of all) line)
numbers_found all [] below = refl
numbers_found all (n ∷ line) below =
    ap (λ x. x ∷ map (slice_get all) line) (slice_get-get_or all n no_concept (below 0 0 (omega arith)))
    ∙ ap (λ xs. Some (concept_of all n) ∷ xs) (numbers_found all line (λ k d lt. below (suc k) d (omega (arith, lt))))

module _ (all : List ConceptTree) (concepts : List Concept) (k : ℕ) (l : Lines) (d : Declared)
    (p : WithinConcepts all concepts k l d) (past : length all ≤ k) where
  latest : p.before ≡ reverse all
  latest = p.latest ∙ ap reverse (take_all k all past)

  within : k ≤ length all
  within = let a = p.found.lines.long in let b = ap length latest in let c = length-reverse all in omega (arith, a, b, c)

  named : l.names ≡ concept_names all
  named =
      p.found.lines.order ∙ ap (λ cs. reverse (concept_names cs)) latest
      ∙ ap reverse (map_reversed (λ c. c.name.text) all) ∙ reverse-reverse (concept_names all)

  line_is :
      (n : ℕ) (c : ConceptTree) (line : List ℕ) → slice_get all n ≡ Some c
      → slice_get l.lines n ≡ Some line
      → map (slice_get all) line ≡ map Some (lineage (reverse all) c.name.text)
  line_is n c line is there =
      let name_is : slice_get l.names n ≡ Some c.name.text =
      ap (λ names. slice_get names n) named ∙ slice_get-map (λ x. x.name.text) all n ∙ ap (option_map (λ x. x.name.text)) is in
      let at = p.found.lines.lines n c.name.text line name_is there in
      numbers_found all line (All-weaker (λ j. j < k) (λ j. j < length all) (λ j lt. omega (arith, lt, within)) line at.below)
      ∙ ap (map Some) (sym at.concepts ∙ ap (λ cs. lineage cs c.name.text) latest)

  -- they were all found
  pub all_lineages : AreLineages all l
  all_lineages = record {
    names = named;
    count = let a = p.found.lines.even in let b = ap length named in let c = length-map all (λ x. x.name.text) in omega (arith, a, b, c);
    lines = line_is;
  }
