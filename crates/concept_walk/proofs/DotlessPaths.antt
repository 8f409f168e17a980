-- The names of declared paths have no dot where no declared name has one.
use Rattle.std.proofs.Common.{◌≡◌, ℕ, Bool, true, false, List, [], ◌∷◌, ◌++◌, ⊎_elim, map, refl, sym, ap, ◌∙◌, subst}
use Rattle.std.specs.Prelude.{if◌then◌else◌, Contains, reverse, ⊤}
use Rattle.std.specs.Str.{bytes_eq}
use Rattle.std.specs.List.{flat_map}
use Rattle.std.proofs.lemmas.Cmp.{nat_list_eq_equiv}
use Rattle.std.proofs.lemmas.List.{reverse-append}
use Rattle.std.proofs.lemmas.List.Elements.{Contains-append_cases, Contains-push_cases}
use Rattle.std.proofs.lemmas.Map.Views.{list_any-from_Contains}
use Rattle.priz_base.proofs.Members.{contains_here, contains_there, contains_cases, contains_none, contains_map}
use Rattle.utopist_syntax.specs.Named.{Named}
use Rattle.utopist_syntax.specs.declared.item.VarKind.{VarKind}
use Rattle.utopist_syntax.specs.declared.item.VarKind.TheVariants.{Numeric, Of}
use Rattle.utopist_syntax.specs.FileTree.{ItemTree, var, eq, rel, ConceptTree}
use Rattle.name_sets.specs.Paths.{texts}
use Rattle.concept_rules.specs.Declarations.{is_among, declared}
use Rattle.concept_rules.specs.Lineage.{lineage, all_items}
use Rattle.canonical_paths.specs.PathNames.{PathNames}
use Rattle.canonical_paths.specs.Canonical.{items_behind}
use Rattle.canonical_paths.specs.DeclaredPaths.{paths_in_kind, variable_paths, item_paths, declared_paths}
use Rattle.canonical_paths.proofs.CheckedConcepts.{lineage_within}
use Rattle.concept_walk.specs.Dotted.{HasNoDot, NamesHaveNoDot}

-- no name of the path has a dot
abbrev pub IsDotless : PathNames → Type 0
IsDotless [] = ⊤
IsDotless (n ∷ p) = HasNoDot n × IsDotless p

-- nor has one of these paths
abbrev AreDotless : List PathNames → Type 0
AreDotless ps = (p : PathNames) → Contains ps p → IsDotless p

-- paths behind a name
of_mapped : (name : List ℕ) (ps : List PathNames) → HasNoDot name → AreDotless ps → AreDotless (map (λ p. name ∷ p) ps)
of_mapped name [] none h p c = absurd (contains_none p c)
of_mapped name (q ∷ ps) none h p c =
    ⊎_elim (λ e. subst IsDotless e (none, h q (contains_here q ps)))
    (λ k. of_mapped name ps none (λ r g. h r (contains_there q ps r g)) p k)
    (contains_cases (name ∷ q) (map (λ p. name ∷ p) ps) p c)

-- a variable's path, and those inside of it
of_variable : (name : List ℕ) (ps : List PathNames) → HasNoDot name → AreDotless ps → AreDotless (variable_paths ps name)
of_variable name ps none h p c =
    ⊎_elim (λ e. subst IsDotless e (none, tt)) (λ k. of_mapped name ps none h p k)
    (contains_cases (name ∷ []) (map (λ p. name ∷ p) ps) p c)

-- lists of paths one behind the other
of_list :
    {X : Type 0} (f : X → List PathNames) (xs : List X) → ((x : X) → Contains xs x → AreDotless (f x))
    → AreDotless (flat_map f xs)
of_list f [] h p c = absurd (contains_none p c)
of_list f (x ∷ xs) h p c =
    ⊎_elim (h x (contains_here x xs) p) (of_list f xs (λ y k. h y (contains_there x xs y k)) p)
    (Contains-append_cases (f x) (flat_map f xs) p c)

-- a name is among those that are declared together
among_itself : (names : List Named) (n : Named) → Contains names n → is_among n.text (texts names) ≡ true
among_itself names n c =
    list_any-from_Contains nat_list_eq_equiv n.text (texts names)
    (contains_map (λ (m : Named). m.text) names n c)

-- the paths inside of types are given
module _ (within : List ℕ → List PathNames) (known : (name : List ℕ) → AreDotless (within name)) where
  of_kind : (kind : VarKind) → AreDotless (paths_in_kind within kind)
  of_kind Numeric p c = absurd (contains_none p c)
  of_kind (Of type) p c = known type.text p c

  of_item :
      (i : ItemTree) → ((name : List ℕ) → is_among name (declared i) ≡ true → HasNoDot name)
      → AreDotless (item_paths within i)
  of_item (var names kind binds) h p c =
      of_list (λ n. variable_paths (paths_in_kind within kind) n.text) names
      (λ n k. of_variable n.text (paths_in_kind within kind) (h n.text (among_itself names n k)) (of_kind kind)) p c
  of_item (eq left right) h p c = absurd (contains_none p c)
  of_item (rel name parts output body) h p c = absurd (contains_none p c)

-- the concept of one of their items
its_concept :
    (cs : List ConceptTree) (i : ItemTree) → Contains (all_items cs) i
    → (c : ConceptTree) × (Contains cs c × Contains c.items i)
its_concept [] i k = absurd (contains_none i k)
its_concept (c ∷ cs) i k =
    ⊎_elim (λ g. (c, (contains_here c cs, g)))
    (λ g. let r = its_concept cs i g in (r.0, (contains_there c cs r.0 r.1.0, r.1.1)))
    (Contains-append_cases c.items (all_items cs) i k)

-- of concepts of which the latest stands first
pub declared_dotless :
    (concepts : List ConceptTree) → NamesHaveNoDot concepts → (name : List ℕ) (p : PathNames)
    → Contains (declared_paths concepts name) p → IsDotless p
declared_dotless [] none name p k = absurd (contains_none p k)
declared_dotless (c ∷ earlier) none name p k =
    let before = declared_dotless earlier (λ d i n h. none d i n (contains_there c earlier d h)) in
    by (bytes_eq c.name.text name)
    (of_list (item_paths (declared_paths earlier)) (items_behind earlier c) (λ i h. of_item (declared_paths earlier) before i (own i h)))
    (before name) p k
  where
    own : (i : ItemTree) → Contains (items_behind earlier c) i → (n : List ℕ) → is_among n (declared i) ≡ true → HasNoDot n
    own i k n h =
        let r = its_concept (lineage (c ∷ earlier) c.name.text) i k in
        none r.0 i n (lineage_within (c ∷ earlier) c.name.text r.0 r.1.0) r.1.1 h

    by :
        (t : Bool) → AreDotless (flat_map (item_paths (declared_paths earlier)) (items_behind earlier c))
        → AreDotless (declared_paths earlier name)
        → AreDotless (if t then flat_map (item_paths (declared_paths earlier)) (items_behind earlier c) else declared_paths earlier name)
    by true h k = h
    by false h k = k

-- what stands in a list turned round
turned : (cs : List ConceptTree) (c : ConceptTree) → Contains (reverse cs) c → Contains cs c
turned [] c k = k
turned (d ∷ cs) c k =
    ⊎_elim (λ g. contains_there d cs c (turned cs c g))
    (λ e. subst (Contains (d ∷ cs)) e (contains_here d cs))
    (Contains-push_cases (reverse cs) d c (subst (λ (ds : List ConceptTree). Contains ds c) (reverse-append (d ∷ []) cs) k))

-- the order of the concepts has no part in it
pub turned_have_no_dot : (concepts : List ConceptTree) → NamesHaveNoDot concepts → NamesHaveNoDot (reverse concepts)
turned_have_no_dot concepts none c i name k = none c i name (turned concepts c k)
