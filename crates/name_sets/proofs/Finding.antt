-- The first of the paths of a set that has the same names.
use Rattle.std.proofs.Common.{◌≡◌, ℕ, ◌<◌, Bool, true, false, List, [], length, get_or, Option, None, Some, nat_eq, refl, sym, ap, ◌∙◌, subst, position}
use Rattle.std.specs.Prelude.{Contains}
use Rattle.std.specs.Bool.{Decides}
use Rattle.std.specs.Cmp.Lexicographic.{pointwise}
use Rattle.std.specs.Str.{bytes_eq}
use Rattle.std.proofs.lemmas.Bool.Decides.{Decides-eqb}
use Rattle.std.proofs.lemmas.List.Quantifiers.{position-Some}
use Rattle.std.proofs.lemmas.List.Elements.{Contains-get_or}
use Rattle.std.proofs.lemmas.Slice.Eq.{bytes_eq-Decides, slice_eq-Decides}
use Rattle.name_sets.specs.Paths.{path_position}
use Rattle.name_sets.specs.steps.Nodes.{path_to, IsNodeAt, IsTree}
use Rattle.name_sets.specs.steps.PathEnds.{paths_of, ArePaths}
use Rattle.name_sets.proofs.Places.{one_place}
use Rattle.name_sets.proofs.Firsts.{position_map}
use Rattle.name_sets.proofs.Clashes.{node_of}

same_paths : (p q : List (List ℕ)) → Decides (pointwise bytes_eq p q) (p ≡ q)
same_paths p q = slice_eq-Decides bytes_eq-Decides p q (pointwise bytes_eq p q) refl

same_tests : (a b : Bool) → (a ≡ true → b ≡ true) → (b ≡ true → a ≡ true) → a ≡ b
same_tests true b f g = sym (f refl)
same_tests false true f g = g refl
same_tests false false f g = refl

module _ (nodes : List (List (List ℕ))) (ends : List ℕ) (s : ArePaths nodes ends) (t : IsTree nodes)
    (path : List (List ℕ)) where
  pub place_at_node :
      (n : ℕ) → IsNodeAt nodes path n
      → position (nat_eq n) ends ≡ path_position path (paths_of nodes ends)
  place_at_node n at =
      position_map (nat_eq n) (pointwise bytes_eq path) (path_to nodes) (λ m. m < length nodes) agree ends s.within
    where
      agree : (m : ℕ) → m < length nodes → nat_eq n m ≡ pointwise bytes_eq path (path_to nodes m)
      agree m within =
          same_tests (nat_eq n m) (pointwise bytes_eq path (path_to nodes m))
          (λ e. (same_paths path (path_to nodes m)).1 (sym at.leads ∙ ap (path_to nodes) ((Decides-eqb n m).0 e)))
          (λ e. (Decides-eqb n m).1 (one_place nodes [] t.distinct n m at.within within (at.leads ∙ (same_paths path (path_to nodes m)).0 e)))

  pub no_place_without_node :
      (Contains nodes path → ⊥) → None ≡ path_position path (paths_of nodes ends)
  no_place_without_node missing = by (path_position path (paths_of nodes ends)) refl
    where
      by : (o : Option ℕ) → path_position path (paths_of nodes ends) ≡ o → None ≡ o
      by None e = refl
      by (Some i) e =
          let f = position-Some (pointwise bytes_eq path) (paths_of nodes ends) i path e in
          let there = subst (Contains (paths_of nodes ends)) (sym ((same_paths path (get_or (paths_of nodes ends) i path)).0 f.1)) (Contains-get_or (paths_of nodes ends) i path f.0) in
          absurd (missing (node_of nodes ends s t path there))
