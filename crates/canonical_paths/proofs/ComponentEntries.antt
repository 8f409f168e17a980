-- The entries of a component are the numbers of its canonical paths.
use Rattle.std.proofs.Common.{◌≡◌, ℕ, zero, suc, ◌+◌, ◌-◌, List, [], ◌∷◌, ◌++◌, Bool, true, false, Option, Some, None, map, length, refl, sym, ap, ◌∙◌, arith}
use Rattle.std.specs.Prelude.{if◌then◌else◌, slice_get, slice_index, fold, drop, All, option_map}
use Rattle.std.specs.Option.{option_map_or}
use Rattle.std.proofs.lemmas.List.{map-append, length-map}
use Rattle.std.proofs.lemmas.Option.{slice_get-map, same_Some}
use Rattle.utopist_syntax.specs.declared.item.Bind.{Bind}
use Rattle.canonical_paths.specs.declared.tables.Alias.{Alias}
use Rattle.canonical_paths.specs.PathNames.{PathNames, names_in}
use Rattle.canonical_paths.specs.Canonical.{rebind, rebound}
use Rattle.canonical_paths.specs.DeclaredPaths.{variable_paths}
use Rattle.canonical_paths.specs.Tables.{IsTable}
use Rattle.canonical_paths.specs.steps.Tables.{is_within, move_by, moved_to, component_entries, StandsFor, AllStand}
use Rattle.canonical_paths.proofs.Elements.{heads, tails, get_left, get_right}

abbrev some : {A : Type 0} → A → Option A
some x = Some x

module _ (f : PathNames → PathNames) (paths : List PathNames) where
  -- an entry of a table
  entry_of : (ns : List ℕ) (xs : List PathNames) → map (slice_get paths) ns ≡ map (λ p. some (f p)) xs → (i : ℕ) (p : PathNames) → slice_get xs i ≡ some p → slice_get paths (slice_index ns i) ≡ some (f p)
  entry_of [] [] e i p h = absurd (cc)
  entry_of [] (x ∷ xs) e i p h = absurd (cc)
  entry_of (n ∷ ns) [] e i p h = absurd (cc)
  entry_of (n ∷ ns) (x ∷ xs) e zero p h = heads (slice_get paths n) (some (f x)) _ _ e ∙ ap (λ y. some (f y)) (same_Some x p h)
  entry_of (n ∷ ns) (x ∷ xs) e (suc i) p h = entry_of ns xs (tails (slice_get paths n) (some (f x)) _ _ e) i p h

  -- a table of more paths
  grown : (more : List PathNames) (ns : List ℕ) (xs : List PathNames) → map (slice_get paths) ns ≡ map (λ p. some (f p)) xs → map (slice_get (paths ++ more)) ns ≡ map (λ p. some (f p)) xs
  grown more [] xs e = e
  grown more (n ∷ ns) [] e = absurd (cc)
  grown more (n ∷ ns) (x ∷ xs) e =
      let first = get_left paths more n (f x) (heads (slice_get paths n) (some (f x)) _ _ e) in
      let rest = grown more ns xs (tails (slice_get paths n) (some (f x)) _ _ e) in
      ap (λ y. y ∷ map (slice_get (paths ++ more)) ns) first ∙ ap (λ ys. some (f x) ∷ ys) rest

entry : (f : PathNames → PathNames) (paths : List PathNames) (table : List ℕ) → IsTable f paths table → (i : ℕ) (p : PathNames) → slice_get paths i ≡ some p → slice_get paths (slice_index table i) ≡ some (f p)
entry f paths table e i p h = entry_of f paths table paths e i p h

-- as many entries as paths
table_length : (f : PathNames → PathNames) (paths : List PathNames) (table : List ℕ) → IsTable f paths table → length table ≡ length paths
table_length f paths table e =
    sym (length-map table (slice_get paths)) ∙ ap length e ∙ length-map paths (λ p. some (f p))

-- the paths of a concept, and those inside of a component behind them; bindings, and what is bound by them, by numbers
module _ (paths inner : List PathNames) (before : PathNames → PathNames) (table : List ℕ) (whole : IsTable before paths table) (name : List ℕ) where
  abbrev all : List PathNames
  all = paths ++ variable_paths inner name

  -- where a path inside stands for what was found, or for itself
  abbrev target : PathNames → Option PathNames → PathNames
  target q found = option_map_or before found (name ∷ q)

  one_move : (n m : ℕ) (q : PathNames) (found : Option PathNames) (b : Bind) (u : Alias) → slice_get inner n ≡ some q → StandsFor paths inner b u → slice_get all m ≡ some (target q found) → slice_get all (move_by table n m u) ≡ some (target q (rebind q found b))
  one_move n m q found b u e s h = by (is_within u n) refl
    where
      by : (t : Bool) → is_within u n ≡ t → slice_get all (move_by table n m u) ≡ some (target q (rebind q found b))
      by true d =
          let p = names_in b.right ++ drop (length (names_in b.left)) q in
          let there : slice_get paths (slice_index table (u.right + (n - u.left))) ≡ some (before p) = entry before paths table whole (u.right + (n - u.left)) p (s.right n q e d) in
          ap (λ t. slice_get all (if t then slice_index table (u.right + (n - u.left)) else m)) d
          ∙ get_left paths (variable_paths inner name) (slice_index table (u.right + (n - u.left))) (before p) there
          ∙ ap (λ t. some (target q (if t then Some p else found))) (sym d ∙ s.within n q e)
      by false d =
          ap (λ t. slice_get all (if t then slice_index table (u.right + (n - u.left)) else m)) d
          ∙ h
          ∙ ap (λ t. some (target q (if t then Some (names_in b.right ++ drop (length (names_in b.left)) q) else found))) (sym d ∙ s.within n q e)

  all_moves : (binds : List Bind) (aliases : List Alias) (n m : ℕ) (q : PathNames) (found : Option PathNames) → slice_get inner n ≡ some q → AllStand paths inner binds aliases → slice_get all m ≡ some (target q found) → slice_get all (fold (move_by table n) m aliases) ≡ some (target q (fold (rebind q) found binds))
  all_moves [] [] n m q found e s h = h
  all_moves [] (u ∷ aliases) n m q found e s h = absurd s
  all_moves (b ∷ binds) [] n m q found e s h = absurd s
  all_moves (b ∷ binds) (u ∷ aliases) n m q found e s h =
      all_moves binds aliases n (move_by table n m u) q (rebind q found b) e s.1 (one_move n m q found b u e s.0 h)

  -- a path that nothing moves
  unmoved_path : (n : ℕ) (q : PathNames) → slice_get inner n ≡ some q → slice_get all (suc (length table) + n) ≡ some (name ∷ q)
  unmoved_path n q e =
      let at : suc (length table) + n ≡ length paths + suc n = let l = table_length before paths table whole in omega (arith, l) in
      ap (slice_get all) at ∙ get_right paths (variable_paths inner name) (suc n)
      ∙ slice_get-map (λ p. name ∷ p) inner n ∙ ap (option_map (λ p. name ∷ p)) e

  moved_path : (binds : List Bind) (aliases : List Alias) (n : ℕ) (q : PathNames) → AllStand paths inner binds aliases → slice_get inner n ≡ some q → slice_get all (moved_to table aliases (suc (length table)) n) ≡ some (target q (rebound binds q))
  moved_path binds aliases n q s e = all_moves binds aliases n _ q None e s (unmoved_path n q e)

  own_path : slice_get all (length table) ≡ some (name ∷ [])
  own_path =
      let at : length table ≡ length paths + 0 = let l = table_length before paths table whole in omega (arith, l) in
      ap (slice_get all) at ∙ get_right paths (variable_paths inner name) 0

  -- what canonical paths are with the component: the old ones as before, and the new ones as its bindings say
  module _ (inside new : PathNames → PathNames) (binds : List Bind) (aliases : List Alias) (stands : AllStand paths inner binds aliases) where
    moved_paths : (ns : List ℕ) (rs : List PathNames) → All (λ r. new (name ∷ r) ≡ target (inside r) (rebound binds (inside r))) rs → map (slice_get inner) ns ≡ map (λ p. some (inside p)) rs → map (slice_get all) (map (moved_to table aliases (suc (length table))) ns) ≡ map (λ p. some (new p)) (map (λ p. name ∷ p) rs)
    moved_paths [] [] h e = refl
    moved_paths [] (r ∷ rs) h e = absurd (cc)
    moved_paths (n ∷ ns) [] h e = absurd (cc)
    moved_paths (n ∷ ns) (r ∷ rs) h e =
        let here : slice_get inner n ≡ some (inside r) = heads (slice_get inner n) (some (inside r)) _ _ e in
        let first = moved_path binds aliases n (inside r) stands here ∙ ap some (sym (h 0 r (omega arith))) in
        let rest = moved_paths ns rs (λ k x l. h (suc k) x (omega arith)) (tails (slice_get inner n) (some (inside r)) _ _ e) in
        ap (λ y. y ∷ map (slice_get all) (map (moved_to table aliases (suc (length table))) ns)) first
        ∙ ap (λ ys. some (new (name ∷ r)) ∷ ys) rest

    pub component_is_table : (inner_table : List ℕ) → IsTable inside inner inner_table → map (λ p. some (new p)) paths ≡ map (λ p. some (before p)) paths → new (name ∷ []) ≡ name ∷ [] → All (λ r. new (name ∷ r) ≡ target (inside r) (rebound binds (inside r))) inner → IsTable new all (table ++ component_entries table aliases inner_table)
    component_is_table inner_table t old own deep =
        map-append (slice_get all) table (component_entries table aliases inner_table)
        ∙ ap (λ ys. ys ++ map (slice_get all) (component_entries table aliases inner_table)) (grown before paths (variable_paths inner name) table paths whole ∙ sym old)
        ∙ ap (λ ys. map (λ p. some (new p)) paths ++ ys)
        (ap (λ y. y ∷ map (slice_get all) (map (moved_to table aliases (suc (length table))) inner_table)) (own_path ∙ ap some (sym own))
        ∙ ap (λ ys. some (new (name ∷ [])) ∷ ys) (moved_paths inner_table inner deep t))
        ∙ sym (map-append (λ p. some (new p)) paths (variable_paths inner name))
