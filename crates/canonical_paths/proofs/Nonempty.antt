-- Declared paths have names.
use Rattle.std.proofs.Common.{◌≢◌, ℕ, List, [], ◌∷◌, Bool, true, false, map, arith}
use Rattle.std.specs.Prelude.{if◌then◌else◌, All}
use Rattle.std.specs.List.{flat_map}
use Rattle.std.specs.Str.{bytes_eq}
use Rattle.std.proofs.lemmas.List.Elements.{All-append, All-map, All-push}
use Rattle.utopist_syntax.specs.Named.{Named}
use Rattle.utopist_syntax.specs.FileTree.{ItemTree, var, eq, rel, ConceptTree}
use Rattle.canonical_paths.specs.PathNames.{PathNames}
use Rattle.canonical_paths.specs.Canonical.{items_behind}
use Rattle.canonical_paths.specs.DeclaredPaths.{paths_in_kind, variable_paths, item_paths, declared_paths}

abbrev HasName : PathNames → Type 0
HasName p = p ≢ []

cons_some : (n : List ℕ) (p : PathNames) → n ∷ p ≢ []
cons_some n p e = cc

none_fails : All HasName []
none_fails k d h = absurd (omega arith)

of_variable : (inner : List PathNames) (name : List ℕ) → All HasName (variable_paths inner name)
of_variable inner name =
    All-append HasName ((name ∷ []) ∷ []) (map (λ p. name ∷ p) inner)
    (All-push HasName [] (name ∷ []) none_fails (cons_some name []))
    (All-map HasName (λ (p : PathNames). name ∷ p) inner (λ k d h. cons_some name _))

of_names : (inner : List PathNames) (ns : List Named) → All HasName (flat_map (λ n. variable_paths inner n.text) ns)
of_names inner [] = none_fails
of_names inner (n ∷ ns) = All-append HasName (variable_paths inner n.text) (flat_map (λ n. variable_paths inner n.text) ns) (of_variable inner n.text) (of_names inner ns)

pub of_item : (inside : List ℕ → List PathNames) (i : ItemTree) → All HasName (item_paths inside i)
of_item inside (var names kind binds) = of_names (paths_in_kind inside kind) names
of_item inside (eq left right) = none_fails
of_item inside (rel name parts output body) = none_fails

of_items : (inside : List ℕ → List PathNames) (items : List ItemTree) → All HasName (flat_map (item_paths inside) items)
of_items inside [] = none_fails
of_items inside (i ∷ items) = All-append HasName (item_paths inside i) (flat_map (item_paths inside) items) (of_item inside i) (of_items inside items)

either_some : (t : Bool) (xs ys : List PathNames) → All HasName xs → All HasName ys → All HasName (if t then xs else ys)
either_some true xs ys h k = h
either_some false xs ys h k = k

pub declared_are_some : (concepts : List ConceptTree) (name : List ℕ) → All (λ (p : PathNames). p ≢ []) (declared_paths concepts name)
declared_are_some [] name = none_fails
declared_are_some (c ∷ earlier) name =
    either_some (bytes_eq c.name.text name) (flat_map (item_paths (declared_paths earlier)) (items_behind earlier c)) (declared_paths earlier name)
    (of_items (declared_paths earlier) (items_behind earlier c)) (declared_are_some earlier name)
