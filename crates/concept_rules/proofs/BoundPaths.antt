-- What items bind, after one more item.
use Rattle.std.proofs.Common.{◌≡◌, ℕ, Bool, true, false, List, [], Option, Some, refl, sym, ap, ◌∙◌, nat_eq}
use Rattle.std.specs.Prelude.{unwrap_or, if◌then◌else◌}
use Rattle.std.specs.Map.{lookup}
use Rattle.std.proofs.lemmas.Bool.{and_parts}
use Rattle.concept_rules.specs.declared.declarations.Declaration.{Declaration}
use Rattle.concept_rules.specs.steps.DeclaredNames.{Declared, is_same_item, bound_in, Binds}
use Rattle.concept_rules.proofs.Growing.{nat_eq_true}

pick :
    (b : Bool) (paths : List (List (List ℕ))) (o : Option (List (List (List ℕ))))
    → unwrap_or (if b then Some paths else o) [] ≡ (if b then paths else unwrap_or o [])
pick true paths o = refl
pick false paths o = refl

-- an item with bindings
pub binds_more :
    (old : Declared) (es : List (Declaration × List (List (List ℕ)))) (d : Declaration)
    (paths : List (List (List ℕ)))
    → ((q : Declaration) → lookup (is_same_item q) es ≡ (if is_same_item d q then Some paths else lookup (is_same_item q) old.bound))
    → Binds old (record old { bound = es }) d paths
binds_more old es d paths updates = record {
  items = λ name n. refl;
  bound = λ free n j.
      let q : Declaration = record { concept = n; item = j } in
      ap (λ (o : Option (List (List (List ℕ)))). unwrap_or o []) (updates q)
      ∙ pick (is_same_item d q) paths (lookup (is_same_item q) old.bound);
}

free_case :
    (old : Declared) (d : Declaration) (n j : ℕ) (b : Bool)
    → is_same_item d (record { concept = n; item = j }) ≡ b → bound_in old d.concept d.item ≡ []
    → bound_in old n j ≡ (if b then [] else bound_in old n j)
free_case old d n j true e free =
    let both = and_parts (nat_eq d.concept n) (nat_eq d.item j) e in
    ap (λ k. bound_in old k j) (sym (nat_eq_true d.concept n both.0))
    ∙ ap (λ k. bound_in old d.concept k) (sym (nat_eq_true d.item j both.1)) ∙ free
free_case old d n j false e free = refl

-- an item without any
pub binds_none : (old : Declared) (d : Declaration) → Binds old old d []
binds_none old d = record {
  items = λ name n. refl;
  bound = λ free n j. free_case old d n j (is_same_item d (record { concept = n; item = j })) refl free;
}
