-- The nodes of a tree by its edges.
use Rattle.std.proofs.Common.{◌≡◌, ◌≢◌, ℕ, zero, suc, ◌+◌, ◌^◌, ◌<◌, ◌≤◌, ⊎_elim, List, [], ◌∷◌, ◌++◌, length, take, get_or, Some, refl, sym, ap, subst, ◌∙◌, arith, length-append, length-take-le, append_assoc}
use Rattle.std.specs.Prelude.{slice_get, Contains}
use Rattle.std.specs.List.{AllPairs}
use Rattle.std.proofs.lemmas.List.{length-take, take-take, take_all, take_at, get_or-take, get_or_append_left, get_or_push, length_push, same_from_push, append-nil, get_or_default}
use Rattle.std.proofs.lemmas.List.Elements.{Contains-get_or}
use Rattle.std.proofs.lemmas.Option.{slice_get_within, slice_get-get_or, get_or_from_slice_get}
use Rattle.name_sets.specs.declared.edge.Edge.{Edge}
use Rattle.name_sets.specs.steps.Nodes.{path_to, IsNodeAt, IsTree}
use Rattle.name_sets.specs.steps.Edges.{path_along, paths_from, IsStep, IsTrie}
use Rattle.name_sets.proofs.Spelt.{differ_push, member_at}
use Rattle.name_sets.proofs.Places.{at_push, at_take, one_place, differ_take, last_of, kept_at}

-- an edge by its parts
pub edge_is :
    (e : Edge) (node name : ℕ) → e.node ≡ node → e.name ≡ name
    → e ≡ record { node = node; name = name }
edge_is e node name from by_name = λ i. record { node = from i; name = by_name i }

module _ (names : List (List ℕ)) where
  -- further edges leave the nodes that are there
  pub paths_keep :
      (nodes : List (List (List ℕ))) (es : List Edge)
      → take (length nodes) (paths_from names nodes es) ≡ nodes
  paths_keep nodes [] = take_all (length nodes) nodes (omega arith)
  paths_keep nodes (e ∷ es) =
      let more = nodes ++ path_along names nodes e ∷ [] in
      let le : length nodes ≤ length more = omega (arith, length-append nodes (path_along names nodes e ∷ [])) in
      sym (take-take (length nodes) (length more) (paths_from names more es) le)
      ∙ ap (take (length nodes)) (paths_keep more es)
      ∙ take_at nodes (path_along names nodes e ∷ []) (length nodes) refl

  pub paths_append :
      (nodes : List (List (List ℕ))) (es fs : List Edge)
      → paths_from names nodes (es ++ fs) ≡ paths_from names (paths_from names nodes es) fs
  paths_append nodes [] fs = refl
  paths_append nodes (e ∷ es) fs = paths_append (nodes ++ path_along names nodes e ∷ []) es fs

  -- the first edges lead to the first nodes
  pub paths_take :
      (nodes : List (List (List ℕ))) (es : List Edge) (k : ℕ)
      → paths_from names nodes (take k es) ≡ take (length nodes + k) (paths_from names nodes es)
  paths_take nodes es zero =
      let same : length nodes ≡ length nodes + 0 = omega arith in
      sym (paths_keep nodes es) ∙ ap (λ n. take n (paths_from names nodes es)) same
  paths_take nodes [] (suc k) = sym (take_all (length nodes + suc k) nodes (omega arith))
  paths_take nodes (e ∷ es) (suc k) =
      let more = nodes ++ path_along names nodes e ∷ [] in
      let same : length more + k ≡ length nodes + suc k = omega (arith, length-append nodes (path_along names nodes e ∷ [])) in
      paths_take more es k ∙ ap (λ n. take n (paths_from names more es)) same

module _ (names more : List (List ℕ)) (kept : take (length names) more ≡ names) where
  -- a name keeps its number where names come behind it
  name_kept : (k : ℕ) → k < length names → get_or more k [] ≡ get_or names k []
  name_kept k lt = kept_at names more [] kept k lt

  pub names_grow : length names ≤ length more
  names_grow = omega (arith, length-take (length names) more, ap length kept)

  pub paths_same :
      (nodes : List (List (List ℕ))) (es : List Edge)
      → ((i : ℕ) (e : Edge) → slice_get es i ≡ Some e → e.name < length names)
      → paths_from more nodes es ≡ paths_from names nodes es
  paths_same nodes [] named = refl
  paths_same nodes (e ∷ es) named =
      ap (λ n. paths_from more (nodes ++ (path_to nodes e.node ++ n ∷ []) ∷ []) es) (name_kept e.name (named 0 e refl))
      ∙ paths_same (nodes ++ path_along names nodes e ∷ []) es (λ i f at. named (suc i) f at)

  pub trie_names :
      (es : List Edge) (nodes : List (List (List ℕ))) → IsTrie names es nodes → IsTrie more es nodes
  trie_names es nodes h = record {
    count = h.count;
    small = h.small;
    root = h.root;
    steps = λ i e at. let s = h.steps i e at in record {
      before = s.before;
      named = omega (arith, s.named, names_grow);
      leads = s.leads ∙ ap (λ n. path_to nodes e.node ++ n ∷ []) (sym (name_kept e.name s.named));
    };
    distinct = h.distinct;
  }

module _ (names : List (List ℕ)) (es : List Edge) (nodes : List (List (List ℕ)))
    (h : IsTrie names es nodes) where
  step_kept :
      (p : List (List ℕ)) (i : ℕ) (f : Edge) → IsStep names nodes i f → i < length es
      → IsStep names (nodes ++ p ∷ []) i f
  step_kept p i f s lt = record {
    before = s.before;
    named = s.named;
    leads =
        get_or_append_left nodes (p ∷ []) [] (i + 1) (omega (arith, h.count)) ∙ s.leads
        ∙ ap (λ q. q ++ get_or names f.name [] ∷ []) (sym (get_or_append_left nodes (p ∷ []) [] f.node (omega (arith, h.count, s.before))));
  }

  -- one more edge, to a path that is new
  pub trie_push :
      (e : Edge) → length (es ++ e ∷ []) < 2 ^ 63 → e.node < length nodes → e.name < length names
      → (Contains nodes (path_along names nodes e) → ⊥)
      → IsTrie names (es ++ e ∷ []) (nodes ++ path_along names nodes e ∷ [])
  trie_push e small within named fresh =
      let p = path_along names nodes e in record {
        count = omega (arith, h.count, length_push nodes p, length_push es e);
        small = small;
        root = get_or_append_left nodes (p ∷ []) [] 0 (omega (arith, h.count)) ∙ h.root;
        steps = λ i f at.
            ⊎_elim
            (λ old. step_kept p i f (h.steps i f old) (slice_get_within es i f old))
            (λ new. subst (IsStep names (nodes ++ p ∷ []) i) new.1 (record {
              before = omega (arith, h.count, new.0);
              named = named;
              leads =
                  get_or_push nodes p [] (i + 1) (omega (arith, h.count, new.0))
                  ∙ ap (λ q. q ++ get_or names e.name [] ∷ []) (sym (get_or_append_left nodes (p ∷ []) [] e.node within));
            }))
            (at_push es e f i at);
        distinct = differ_push nodes p h.distinct fresh;
      }

  pub trie_take : (k : ℕ) → k ≤ length es → IsTrie names (take k es) (take (k + 1) nodes)
  trie_take k le = record {
    count =
        omega (arith, length-take-le k es le, length-take-le (k + 1) nodes (omega (arith, h.count)));
    small = omega (arith, length-take-le k es le, h.small);
    root = get_or-take (k + 1) nodes 0 [] (omega arith) ∙ h.root;
    steps = λ i e at.
        let there = at_take k es i e at in
        let s = h.steps i e there.0 in record {
          before = s.before;
          named = s.named;
          leads =
              get_or-take (k + 1) nodes (i + 1) [] (omega (arith, there.1)) ∙ s.leads
              ∙ ap (λ q. q ++ get_or names e.name [] ∷ []) (sym (get_or-take (k + 1) nodes e.node [] (omega (arith, there.1, s.before))));
        };
    distinct = differ_take (k + 1) nodes (omega (arith, h.count)) h.distinct;
  }

  -- the edge to a node whose path has this last name
  record Way (p : List (List ℕ)) (n : List ℕ) (k : ℕ) : Type 0 where
    pub place : ℕ
    pub edge : Edge
    pub number : k ≡ place + 1
    pub at : slice_get es place ≡ Some edge
    pub step : IsStep names nodes place edge
    pub from : path_to nodes edge.node ≡ p
    pub last : get_or names edge.name [] ≡ n

  way :
      (p : List (List ℕ)) (n : List ℕ) (k : ℕ) → k < length nodes → path_to nodes k ≡ p ++ n ∷ []
      → Way p n k
  way p n zero lt leads =
      absurd (omega (arith, ap length (sym h.root ∙ leads), length-append p (n ∷ [])))
  way p n (suc i) lt leads =
      let e : Edge = get_or es i (record { node = 0; name = 0 }) in
      let there : slice_get es i ≡ Some e = slice_get-get_or es i (record { node = 0; name = 0 }) (omega (arith, h.count)) in
      let s : IsStep names nodes i e = h.steps i e there in
      let same = same_from_push (path_to nodes e.node) p (get_or names e.name []) n (sym s.leads ∙ ap (path_to nodes) (omega arith) ∙ leads) in record {
        place = i;
        edge = e;
        number = omega arith;
        at = there;
        step = s;
        from = same.0;
        last = same.1;
      }

  way_to : (p : List (List ℕ)) (n : List ℕ) → Contains nodes (p ++ n ∷ []) → (k : ℕ) × Way p n k
  way_to p n there = (there.0, way p n there.0 there.1 (get_or_default nodes there.0 [] (p ++ n ∷ []) there.1 ∙ there.2))

  -- a path to a node passes nodes
  closed_below :
      (bound k : ℕ) (p q : List (List ℕ)) → k < bound → k < length nodes → path_to nodes k ≡ p ++ q
      → Contains nodes p
  closed_below zero k p q lt within leads = absurd (omega arith)
  closed_below (suc bound) k p q lt within leads =
      ⊎_elim
      (λ none. subst (Contains nodes) (leads ∙ ap (λ t. p ++ t) none ∙ append-nil p) (Contains-get_or nodes k [] within))
      (λ last.
      let w = way (p ++ last.0) last.1 k within (leads ∙ ap (λ t. p ++ t) last.2 ∙ sym (append_assoc p last.0 (last.1 ∷ []))) in
      closed_below bound w.edge.node p last.0 (omega (arith, w.number, w.step.before)) (omega (arith, w.number, w.step.before)) w.from)
      (last_of q)

  pub is_tree : IsTree nodes
  is_tree = record {
    root = record { within = omega (arith, h.count); leads = h.root };
    closed = λ p q there. closed_below (there.0 + 1) there.0 p q (omega arith) there.1 (get_or_default nodes there.0 [] (p ++ q) there.1 ∙ there.2);
    distinct = h.distinct;
  }

  -- a name leads nowhere where there is no such name
  pub no_name :
      (p : List (List ℕ)) (n : List ℕ) → (Contains names n → ⊥) → Contains nodes (p ++ n ∷ []) → ⊥
  no_name p n lacks there =
      let w = (way_to p n there).1 in
      lacks (subst (Contains names) w.last (Contains-get_or names w.edge.name [] w.step.named))

  -- nor where there is no such edge
  pub no_edge :
      AllPairs (λ x y. x ≢ y) names → (node k : ℕ) (n : List ℕ) → node < length nodes
      → slice_get names k ≡ Some n → (Contains es (record { node = node; name = k }) → ⊥)
      → Contains nodes (path_to nodes node ++ n ∷ []) → ⊥
  no_edge differ node k n within named lacks there =
      let w = (way_to (path_to nodes node) n there).1 in
      let lt : k < length names = slice_get_within names k n named in
      let from : w.edge.node ≡ node = one_place nodes [] h.distinct w.edge.node node (omega (arith, h.count, w.step.before, slice_get_within es w.place w.edge w.at)) within w.from in
      let by_name : w.edge.name ≡ k = one_place names [] differ w.edge.name k w.step.named lt (w.last ∙ sym (get_or_from_slice_get names k n [] named)) in
      let same : w.edge ≡ record { node = node; name = k } = edge_is w.edge node k from by_name in
      lacks (subst (Contains es) same (member_at es w.place w.edge w.at))

  -- an edge leads to the node behind its number
  pub edge_leads :
      (node k i : ℕ) (n : List ℕ) → slice_get names k ≡ Some n
      → slice_get es i ≡ Some (record { node = node; name = k })
      → IsNodeAt nodes (path_to nodes node ++ n ∷ []) (i + 1)
  edge_leads node k i n named there = record {
    within = omega (arith, h.count, slice_get_within es i (record { node = node; name = k }) there);
    leads = (h.steps i (record { node = node; name = k }) there).leads ∙ ap (λ m. path_to nodes node ++ m ∷ []) (get_or_from_slice_get names k n [] named);
  }

  -- an edge to a new path is new
  pub new_edge : (e : Edge) → (Contains nodes (path_along names nodes e) → ⊥) → Contains es e → ⊥
  new_edge e fresh there =
      let at : slice_get es there.0 ≡ Some e = slice_get-get_or es there.0 e there.1 ∙ ap Some there.2 in
      let s = h.steps there.0 e at in
      fresh (subst (Contains nodes) s.leads (Contains-get_or nodes (there.0 + 1) [] (omega (arith, h.count, there.1))))

module _ (names more : List (List ℕ)) (kept : take (length names) more ≡ names) (es : List Edge)
    (h : IsTrie names es (paths_from names ([] ∷ []) es)) where
  -- names that come behind leave the nodes as they are
  pub paths_grown : paths_from more ([] ∷ []) es ≡ paths_from names ([] ∷ []) es
  paths_grown = paths_same names more kept ([] ∷ []) es (λ i e at. (h.steps i e at).named)

  pub trie_grown : IsTrie more es (paths_from more ([] ∷ []) es)
  trie_grown =
      subst (IsTrie more es) (sym paths_grown) (trie_names names more kept es (paths_from names ([] ∷ []) es) h)
