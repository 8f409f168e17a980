-- A tree with one more node.
use Rattle.std.proofs.Common.{◌≡◌, ℕ, ◌^◌, ◌<◌, List, [], ◌∷◌, ◌++◌, length, take, Some, sym, ap, subst, ◌∙◌, arith}
use Rattle.std.specs.Prelude.{slice_get, Contains}
use Rattle.std.proofs.lemmas.List.{length_push}
use Rattle.std.proofs.lemmas.Option.{slice_get_within, get_or_from_slice_get}
use Rattle.indexmap.specs.IndexSet.{insert_key}
use Rattle.name_sets.specs.declared.edge.Edge.{Edge}
use Rattle.name_sets.specs.steps.Nodes.{path_to}
use Rattle.name_sets.specs.steps.Edges.{path_along, paths_from, IsTrie}
use Rattle.name_sets.proofs.Tries.{paths_append, paths_grown, trie_names, trie_push, new_edge}
use Rattle.name_sets.proofs.Edges.{same_edge, edge_added}

module _ (names more : List (List ℕ)) (kept : take (length names) more ≡ names) (es : List Edge) (h : IsTrie names es (paths_from names ([] ∷ []) es))
    (node k : ℕ) (n : List ℕ) (within : node < length (paths_from names ([] ∷ []) es)) (named : slice_get more k ≡ Some n)
    (fresh : Contains (paths_from names ([] ∷ []) es) (path_to (paths_from names ([] ∷ []) es) node ++ n ∷ []) → ⊥) where
  abbrev pub nodes : List (List (List ℕ))
  nodes = paths_from names ([] ∷ []) es

  abbrev pub edge : Edge
  edge = record { node = node; name = k }

  abbrev pub child : List (List ℕ)
  child = path_to nodes node ++ n ∷ []

  leads : path_along more nodes edge ≡ child
  leads = ap (λ m. path_to nodes node ++ m ∷ []) (get_or_from_slice_get more k n [] named)

  is_new : Contains nodes (path_along more nodes edge) → ⊥
  is_new there = fresh (subst (Contains nodes) leads there)

  more_edges : insert_key same_edge es edge ≡ es ++ edge ∷ []
  more_edges =
      edge_added es edge (new_edge more es nodes (trie_names names more kept es nodes h) edge is_new)

  more_nodes :
      paths_from more ([] ∷ []) (es ++ edge ∷ []) ≡ nodes ++ path_along more nodes edge ∷ []
  more_nodes =
      paths_append more ([] ∷ []) es (edge ∷ [])
      ∙ ap (λ ns. ns ++ path_along more ns edge ∷ []) (paths_grown names more kept es h)

  -- what holds where the edge to the child is inserted
  pub record IsWithChild (edges : List Edge) : Type 0 where
    pub count : length edges ≡ length nodes
    pub ok : paths_from more ([] ∷ []) edges ≡ nodes ++ child ∷ []
    pub trie : length edges < 2 ^ 63 → IsTrie more edges (paths_from more ([] ∷ []) edges)

  pub with_child : (edges : List Edge) → edges ≡ insert_key same_edge es edge → IsWithChild edges
  with_child edges inserted =
      subst IsWithChild (sym (inserted ∙ more_edges)) (record {
        count = omega (arith, length_push es edge, h.count);
        ok = more_nodes ∙ ap (λ p. nodes ++ p ∷ []) leads;
        trie = λ small. subst (IsTrie more (es ++ edge ∷ [])) (sym more_nodes) (trie_push more es nodes (trie_names names more kept es nodes h) edge small within (slice_get_within more k n named) is_new);
      })
