-- What it takes to force a statement's formula, without formulas.
use Rattle.std.proofs.Common.{◌≡◌, ◌↔◌, ℕ, List, [], ◌∷◌, ◌++◌, refl, subst, sym, ⊎_elim}
use Rattle.std.specs.Prelude.{Contains, All, map}
use Rattle.std.proofs.lemmas.List.Elements.{All-nil, All-cons, All-head, All-tail, All-contains, All-append, All-map}
use Rattle.priz_base.specs.Sets.{IsWithin}
use Rattle.priz_base.proofs.Members.{contains_here, contains_cases, contains_none}
use Rattle.statement_set.specs.declared.subtask.Subtask.{Subtask}
use Rattle.statement_set.specs.declared.statement.Statement.{Statement}
use Rattle.statement_set.specs.Problem.{Task, var_count, AreVars, results}
use Rattle.statement_set.specs.Formula.{atom, atoms, and_more, conjunction, statement_formula, subtask_formula}
use Rattle.statement_set.specs.Forcing.{World, forces}
use Rattle.statement_set.specs.Countermodel.{IsCountermodelFrom, RefutesAlone}
use Rattle.statement_set.proofs.Lists.{each, all_left, all_right, all_of_map}
use Rattle.statement_set.proofs.Models.{forces_chain, chain_forces}

-- at world u above w the subtask's results are true if its inputs are
abbrev pub SubObeys : World → Subtask → World → Type 0
SubObeys w t u = IsWithin w u → IsWithin t.inputs u → IsWithin (results t) u

-- at world u above w the statement's output is true if its inputs are, and its subtasks are forced
abbrev pub Obeys : List World → World → Statement → World → Type 0
Obeys L w s u = IsWithin w u → IsWithin s.inputs u → All (λ t. forces L u (subtask_formula t)) s.subs → Contains u s.output

-- a conjunction is forced where its variables are members
more_forced : (L : List World) (u : World) (v : ℕ) (ws : List ℕ) → IsWithin (v ∷ ws) u → forces L u (and_more v ws)
more_forced L u v [] i = All-head (Contains u) v [] i
more_forced L u v (w ∷ ws) i = (All-head (Contains u) v (w ∷ ws) i, more_forced L u w ws (All-tail (Contains u) v (w ∷ ws) i))

more_within : (L : List World) (u : World) (v : ℕ) (ws : List ℕ) → forces L u (and_more v ws) → IsWithin (v ∷ ws) u
more_within L u v [] f = All-cons (Contains u) v [] f (All-nil (Contains u))
more_within L u v (w ∷ ws) f = All-cons (Contains u) v (w ∷ ws) f.0 (more_within L u w ws f.1)

all_forced : (L : List World) (u : World) (vs : List ℕ) → IsWithin vs u → forces L u (conjunction vs)
all_forced L u [] i = λ x c j f. f
all_forced L u (v ∷ vs) i = more_forced L u v vs i

all_within : (L : List World) (u : World) (vs : List ℕ) → forces L u (conjunction vs) → IsWithin vs u
all_within L u [] f = All-nil (Contains u)
all_within L u (v ∷ vs) f = more_within L u v vs f

pub subtask_forced : (L : List World) (w : World) (t : Subtask) → Contains L w → All (SubObeys w t) L ↔ forces L w (subtask_formula t)
subtask_forced L w t c = (
  λ h. forces_chain L (atoms t.inputs) (conjunction (results t)) w
      (λ u k i g. all_forced L u (results t) (All-contains (SubObeys w t) L u h k i (all_of_map (forces L u) atom t.inputs g))) c,
  λ f. each (SubObeys w t) L
      (λ u k i g. all_within L u (results t) (chain_forces L (atoms t.inputs) (conjunction (results t)) w u f k i (All-map (forces L u) atom t.inputs g))),
)

pub statement_forced : (L : List World) (w : World) (s : Statement) → Contains L w → All (Obeys L w s) L ↔ forces L w (statement_formula s)
statement_forced L w s c = (
  λ h. forces_chain L (map subtask_formula s.subs ++ atoms s.inputs) (atom s.output) w
      (λ u k i g. All-contains (Obeys L w s) L u h k i
      (all_of_map (forces L u) atom s.inputs (all_right (forces L u) (map subtask_formula s.subs) (atoms s.inputs) g))
      (all_of_map (forces L u) subtask_formula s.subs (all_left (forces L u) (map subtask_formula s.subs) (atoms s.inputs) g)))
      c,
  λ f. each (Obeys L w s) L (λ u k i g subs.
      chain_forces L (map subtask_formula s.subs ++ atoms s.inputs) (atom s.output) w u f k i
      (All-append (forces L u) (map subtask_formula s.subs) (atoms s.inputs) (All-map (forces L u) subtask_formula s.subs subs) (All-map (forces L u) atom s.inputs g))),
)

pub only : (w u : World) → Contains (w ∷ []) u → w ≡ u
only w u c = ⊎_elim (λ e. e) (λ h. absurd (contains_none u h)) (contains_cases w [] u c)

pub one_world : (p : Task) (G : List ℕ) (w : World) → RefutesAlone p G w → IsCountermodelFrom p G (w ∷ [])
one_world p G w r = record {
  vars = All-cons (AreVars (var_count p)) w [] r.vars (All-nil (AreVars (var_count p)));
  refuted = (
    w,
    refl,
    record {
      givens = r.givens;
      lacks = r.lacks;
      statements = each (λ s. forces (w ∷ []) w (statement_formula s)) p.statements (λ s k.
          (statement_forced (w ∷ []) w s (contains_here w [])).0
          (each (Obeys (w ∷ []) w s) (w ∷ []) (λ u c i g subs.
          subst (λ x. Contains x s.output) (only w u c)
          (All-contains (λ s. IsWithin s.inputs w → Contains w s.output) p.statements s r.closed k (subst (IsWithin s.inputs) (sym (only w u c)) g)))));
    },
  );
}
