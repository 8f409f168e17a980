-- The numbers of the paths of what a walk has found.
use Rattle.std.proofs.Common.{◌≡◌, ◌≢◌, ◌<◌, ◌≤◌, ℕ, List, [], ◌∷◌, map, length, get_or, Option, Some, None, refl, sym, ap, ◌∙◌, subst, arith}
use Rattle.std.specs.Prelude.{slice_get, option_map, reverse}
use Rattle.std.specs.List.{AllPairs}
use Rattle.std.proofs.lemmas.List.{length-map}
use Rattle.std.proofs.lemmas.Option.{slice_get_within, slice_get-get_or, slice_get-map, same_Some}
use Rattle.statement_set.specs.Problem.{Task}
use Rattle.canonical_paths.specs.PathNames.{PathNames}
use Rattle.canonical_paths.specs.Components.{canonical_in}
use Rattle.canonical_paths.specs.Tables.{IsTable}
use Rattle.canonical_paths.proofs.DistinctPaths.{declared_differ}
use Rattle.concept_walk.specs.Visits.{visited_variables}
use Rattle.concept_walk.specs.Dotted.{dotted}
use Rattle.concept_walk.specs.declared.walk.Walk.{Walk}
use Rattle.concept_walk.specs.declared.found.Walked.{Walked}
use Rattle.concept_walk.specs.Walks.{IsWalk, AreFound, concepts_of, concept_in, paths_in, whole_walk}
use Rattle.concept_walk.proofs.WalkedNames.{variables_differ}
use Rattle.walk_variables.specs.Numbering.{AreVariableNumbers}
use Rattle.walk_variables.proofs.Placing.{AreAt, same_place, one_more}

module _ (w : Walk) (h : IsWalk w) where
  -- a table has an entry for each path
  pub table_size : (table : List ℕ) → IsTable (canonical_in (concepts_of w) (concept_in w w.asked)) (paths_in w w.asked) table → length table ≡ length (paths_in w w.asked)
  table_size table is =
      sym (length-map table (slice_get (paths_in w w.asked)))
      ∙ ap length is ∙ length-map (paths_in w w.asked) (λ p. Some (canonical_in (concepts_of w) (concept_in w w.asked) p))

  module _ (f : Walked) (found : AreFound w (whole_walk w) f) where
    sides : (k : ℕ) → option_map (slice_get (paths_in w w.asked)) (slice_get f.variables k) ≡ option_map (λ p. Some p) (slice_get (visited_variables (whole_walk w)) k)
    sides k =
        sym (slice_get-map (slice_get (paths_in w w.asked)) f.variables k)
        ∙ ap (λ os. slice_get os k) found.variables
        ∙ slice_get-map (λ p. Some p) (visited_variables (whole_walk w)) k

    -- the path of a number
    pub path_of : (k n : ℕ) → slice_get f.variables k ≡ Some n → (p : PathNames) × (slice_get (visited_variables (whole_walk w)) k ≡ Some p) × (slice_get (paths_in w w.asked) n ≡ Some p)
    path_of k n at = by (slice_get (visited_variables (whole_walk w)) k) refl
      where
        left : Some (slice_get (paths_in w w.asked) n) ≡ option_map (λ p. Some p) (slice_get (visited_variables (whole_walk w)) k)
        left = ap (option_map (slice_get (paths_in w w.asked))) (sym at) ∙ sides k

        by : (o : Option PathNames) → slice_get (visited_variables (whole_walk w)) k ≡ o → (p : PathNames) × (slice_get (visited_variables (whole_walk w)) k ≡ Some p) × (slice_get (paths_in w w.asked) n ≡ Some p)
        by None e = absurd (none (left ∙ ap (option_map (λ p. Some p)) e))
          where
            none : Some (slice_get (paths_in w w.asked) n) ≡ None → ⊥
            none g = cc
        by (Some p) e = (p, e, same_Some _ _ (left ∙ ap (option_map (λ q. Some q)) e))

    -- the number of a path
    pub number_at : (k : ℕ) (p : PathNames) → slice_get (visited_variables (whole_walk w)) k ≡ Some p → (n : ℕ) × (slice_get f.variables k ≡ Some n) × (slice_get (paths_in w w.asked) n ≡ Some p)
    number_at k p at = by (slice_get f.variables k) refl
      where
        right : option_map (slice_get (paths_in w w.asked)) (slice_get f.variables k) ≡ Some (Some p)
        right = sides k ∙ ap (option_map (λ q. Some q)) at

        by : (o : Option ℕ) → slice_get f.variables k ≡ o → (n : ℕ) × (slice_get f.variables k ≡ Some n) × (slice_get (paths_in w w.asked) n ≡ Some p)
        by None e = absurd (none (sym right ∙ ap (option_map (slice_get (paths_in w w.asked))) e))
          where
            none : Some (Some p) ≡ None → ⊥
            none g = cc
        by (Some n) e = (n, e, same_Some _ _ (sym (ap (option_map (slice_get (paths_in w w.asked))) e) ∙ right))

    pub numbers_differ : AllPairs (λ a b. a ≢ b) f.variables
    numbers_differ i j d lt within e =
        let early : i < length f.variables = omega (arith, lt, within) in
        let one = path_of i (get_or f.variables i d) (slice_get-get_or f.variables i d early) in
        let other = path_of j (get_or f.variables j d) (slice_get-get_or f.variables j d within) in
        let same : one.0 ≡ other.0 = same_Some one.0 other.0 (sym one.2 ∙ ap (slice_get (paths_in w w.asked)) e ∙ other.2) in
        let places = same_place (visited_variables (whole_walk w)) (variables_differ (concepts_of w) h.kept (concept_in w w.asked).name.text) i j other.0 (one.1 ∙ ap (λ p. Some p) same) other.1 in
        omega (arith, lt, places)

    -- there are as many as the problem has variables
    pub counts : length f.variables ≡ length f.problem.names
    counts =
        sym (length-map f.variables (slice_get (paths_in w w.asked))) ∙ ap length found.variables
        ∙ length-map (visited_variables (whole_walk w)) (λ p. Some p)
        ∙ sym (length-map (visited_variables (whole_walk w)) dotted)
        ∙ sym (ap (λ (t : Task). length t.names) found.problem)

    module _ (table : List ℕ) (is : IsTable (canonical_in (concepts_of w) (concept_in w w.asked)) (paths_in w w.asked) table) where
      -- a number is one of the table
      pub number_within : (k n : ℕ) → slice_get f.variables k ≡ Some n → n < length table
      number_within k n at =
          let p = path_of k n at in
          let within = slice_get_within (paths_in w w.asked) n p.0 p.2 in
          let size = table_size table is in
          omega (arith, within, size)

      -- when all are placed, they are the numbers of the walk
      pub are_numbers : (numbers : List ℕ) → length numbers ≡ length table → AreAt f.variables (length f.variables) numbers → AreVariableNumbers w numbers
      are_numbers numbers size filled = record {
        count = size ∙ table_size table is;
        each = λ n k p there met.
            let own = number_at k p met in
            let same = declared_differ (concepts_of w) h.kept (concept_in w w.asked).name.text n own.0 p there own.2 in
            let within = slice_get_within f.variables k own.0 own.1 in
            ap (slice_get numbers) same ∙ filled k own.0 within own.1;
      }
