-- The bindings of an item, one behind the other, as a loop has them.
use Rattle.std.proofs.Common.{◌≡◌, ℕ, ◌+◌, ◌<◌, List, [], ◌∷◌, ◌++◌, length, get_or, drop, Ok, Err, sym, ap, ◌∙◌}
use Rattle.priz_base.proofs.More.{drop_at}
use Rattle.body_lang.specs.Verdicts.{Verdict, and_then}
use Rattle.name_sets.specs.Paths.{texts}
use Rattle.utopist_syntax.specs.declared.item.VarKind.{VarKind}
use Rattle.utopist_syntax.specs.declared.item.Bind.{Bind}
use Rattle.utopist_syntax.specs.FileTree.{ItemTree, ConceptTree}
use Rattle.concept_rules.specs.declared.fault.ModelFault.{ModelFault}
use Rattle.concept_rules.specs.BindRules.{bind_fault, binds_fault}

module _ (concepts : List ConceptTree) (items : List ItemTree) (kind : VarKind)
    (bound : List (List (List ℕ))) (binds : List Bind) (i : ℕ) (b : Bind) (lt : i < length binds)
    (is : b ≡ get_or binds i b) where
  abbrev later : Verdict ModelFault
  later = binds_fault concepts items kind (bound ++ texts b.left.parts ∷ []) (drop (i + 1) binds)

  one_more :
      binds_fault concepts items kind bound (drop i binds)
      ≡ and_then (bind_fault concepts items kind bound b) later
  one_more = ap (binds_fault concepts items kind bound) (drop_at binds i b lt is)

  -- where the next one has a fault it is the first of those that are left
  pub bind_fails :
      (m : ModelFault) → Err m ≡ bind_fault concepts items kind bound b
      → binds_fault concepts items kind bound (drop i binds) ≡ Err m
  bind_fails m e = one_more ∙ ap (λ (v : Verdict ModelFault). and_then v later) (sym e)

  -- where it has none those behind it decide
  pub bind_passes :
      (u : Unit {0}) (next : List (List (List ℕ))) → Ok u ≡ bind_fault concepts items kind bound b
      → next ≡ bound ++ texts b.left.parts ∷ []
      → binds_fault concepts items kind bound (drop i binds)
      ≡ binds_fault concepts items kind next (drop (i + 1) binds)
  bind_passes u next e new =
      one_more ∙ ap (λ (v : Verdict ModelFault). and_then v later) (sym e)
      ∙ ap (λ (paths : List (List (List ℕ))). binds_fault concepts items kind paths (drop (i + 1) binds)) (sym new)
