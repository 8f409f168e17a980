-- Edges as the keys of a set.
use Rattle.std.proofs.Common.{◌≡◌, ℕ, Bool, true, false, ◌&&◌, nat_eq, List, [], ◌∷◌, ◌++◌, Some, refl, sym, ap, ◌∙◌, position}
use Rattle.std.specs.Prelude.{slice_get, Contains}
use Rattle.std.specs.List.{list_any}
use Rattle.std.proofs.lemmas.Bool.{and_parts, and_from, false_from_ne_true}
use Rattle.std.proofs.lemmas.Bool.Decides.{Decides-eqb}
use Rattle.std.proofs.lemmas.List.Quantifiers.{position-Some}
use Rattle.std.proofs.lemmas.Map.Keys.{any_passes_from_place}
use Rattle.std.proofs.lemmas.Option.{slice_get-get_or}
use Rattle.indexmap.specs.IndexSet.{insert_key}
use Rattle.indexmap.proofs.CallerLemmas.{Contains-list_any}
use Rattle.name_sets.specs.declared.edge.Edge.{Edge}
use Rattle.name_sets.proofs.Tries.{edge_is}

abbrev pub same_edge : Edge → Edge → Bool
same_edge e f = nat_eq e.node f.node && nat_eq e.name f.name

edge_same : (e f : Edge) → same_edge e f ≡ true → e ≡ f
edge_same e f h =
    let both = and_parts (nat_eq e.node f.node) (nat_eq e.name f.name) h in
    edge_is e f.node f.name ((Decides-eqb e.node f.node).0 both.0) ((Decides-eqb e.name f.name).0 both.1)

edge_itself : (e : Edge) → same_edge e e ≡ true
edge_itself e =
    and_from (nat_eq e.node e.node) (nat_eq e.name e.name) ((Decides-eqb e.node e.node).1 refl) ((Decides-eqb e.name e.name).1 refl)

edge_there : (es : List Edge) (e : Edge) → Contains es e → list_any (same_edge e) es ≡ true
edge_there es e there =
    any_passes_from_place (same_edge e) es there.0 e (slice_get-get_or es there.0 e there.1 ∙ ap Some there.2) (edge_itself e)

-- a set finds an edge where it stands
pub edge_found :
    (es : List Edge) (e : Edge) (i : ℕ) → position (same_edge e) es ≡ Some i
    → slice_get es i ≡ Some e
edge_found es e i at =
    let f = position-Some (same_edge e) es i e at in
    slice_get-get_or es i e f.0 ∙ ap Some (sym (edge_same e _ f.1))

pub edge_missing :
    (es : List Edge) (e : Edge) → list_any (same_edge e) es ≡ false → Contains es e → ⊥
edge_missing es e none there = let some = edge_there es e there in absurd (cc)

-- a new edge goes last
pub edge_added :
    (es : List Edge) (e : Edge) → (Contains es e → ⊥) → insert_key same_edge es e ≡ es ++ e ∷ []
edge_added es e fresh = rw (false_from_ne_true (list_any (same_edge e) es) (λ some. fresh (Contains-list_any same_edge edge_same es e some))) refl
