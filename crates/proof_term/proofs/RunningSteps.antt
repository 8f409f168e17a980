-- The run of a block, one step after another.
use Rattle.std.proofs.Common.{◌≡◌, ℕ, zero, suc, ◌+◌, ◌<◌, ◌≤◌, List, [], ◌∷◌, length, drop, get_or, map, None, Result, Ok, Err, refl, sym, ap, ◌∙◌, subst, arith}
use Rattle.std.specs.Prelude.{slice_get, slice_set, IsSome, IsSomeAnd}
use Rattle.std.proofs.lemmas.List.{drop_all, length-map, length-set}
use Rattle.std.proofs.lemmas.List.Elements.{All-get_or}
use Rattle.priz_base.proofs.More.{drop_at}
use Rattle.priz_frac.specs.Ratio.{Ratio}
use Rattle.body_lang.specs.Run.{then_with}
use Rattle.body_lang.specs.Meaning.{Calls}
use Rattle.body_lang.specs.Stop.{Stop, fault}
use Rattle.statement_set.specs.declared.given.Given.{Given}
use Rattle.statement_set.specs.Problem.{Task, given_vars, var_count, AreVars}
use Rattle.proof_term.specs.declared.run_stop.RunStop.{RunStop}
use Rattle.proof_term.specs.declared.run_stop.RunStop.TheVariants.{Fault, NoMem}
use Rattle.proof_term.specs.declared.step.Step.{Step}
use Rattle.proof_term.specs.Proof.{step}
use Rattle.proof_term.specs.Plain.{subs_of, steps_of}
use Rattle.proof_term.specs.Bodies.{first_without_body}
use Rattle.proof_term.specs.RunOf.{StopsAs}
use Rattle.proof_term.proofs.Bodies.{bodies_of_step}
use Rattle.proof_term.specs.Running.{Env, one_step, run, called, statement_at, with_values}

-- a stop that is passed on
pub stops_along : {A B : Type 0} (e : RunStop) (m : Result A Stop) (n : Result B Stop) → ((s : Stop) → m ≡ Err s → n ≡ Err s) → StopsAs e m → StopsAs e n
stops_along (Fault s k) m n h a = h (fault s k) a
stops_along NoMem m n h a = tt

module _ (p : Task) (steps : List Step) (i : ℕ) (s : Step) (lt : i < length steps) (is : s ≡ get_or steps i s) where
  -- what its calls are answered by
  abbrev pub answered : Env → Calls
  answered e = called p (subs_of s.subs) (statement_at p s.stmt).subs e

  opened : steps_of (drop i steps) ≡ step s.stmt (subs_of s.subs) (steps_of (drop (i + 1) steps))
  opened = ap steps_of (drop_at steps i s lt is)

  -- its statement has a body, and those of the steps behind it have
  pub bodies_from : first_without_body p (steps_of (drop i steps)) ≡ None → IsSomeAnd (slice_get p.statements s.stmt) (λ t. IsSome t.body) × (first_without_body p (steps_of (drop (i + 1) steps)) ≡ None)
  bodies_from h = bodies_of_step p s.stmt (subs_of s.subs) (steps_of (drop (i + 1) steps)) (ap (first_without_body p) (sym opened) ∙ h)

  pub run_on : (e next : Env) (t u : ℕ) → one_step p s.stmt (answered e) e t ≡ Ok (next, u) → run p (steps_of (drop i steps)) e t ≡ run p (steps_of (drop (i + 1) steps)) next u
  run_on e next t u h =
      ap (λ b. run p b e t) opened ∙ ap (λ r. then_with r (λ x left. run p (steps_of (drop (i + 1) steps)) x left)) h

  pub run_stops : (e : Env) (t : ℕ) (stop : Stop) → one_step p s.stmt (answered e) e t ≡ Err stop → run p (steps_of (drop i steps)) e t ≡ Err stop
  run_stops e t stop h =
      ap (λ b. run p b e t) opened ∙ ap (λ r. then_with r (λ x left. run p (steps_of (drop (i + 1) steps)) x left)) h

-- at the end no step is left
pub run_ends : (p : Task) (steps : List Step) (i : ℕ) (e : Env) (t : ℕ) → length steps ≤ i → run p (steps_of (drop i steps)) e t ≡ Ok (e, t)
run_ends p steps i e t le = ap (λ (l : List Step). run p (steps_of l) e t) (drop_all i steps le)

-- one given more
pub given_more : (e : Env) (vars : List ℕ) (values : List Ratio) (i v : ℕ) (x : Ratio) → i < length vars → i < length values → v ≡ get_or vars i v → x ≡ get_or values i x → with_values e (drop i vars) (drop i values) ≡ with_values (slice_set e v x) (drop (i + 1) vars) (drop (i + 1) values)
given_more e vars values i v x lt below is at =
    ap (λ vs. with_values e vs (drop i values)) (drop_at vars i v lt is) ∙ ap (λ (xs : List Ratio). with_values e (v ∷ drop (i + 1) vars) xs) (drop_at values i x below at)

-- at the end none is left
pub givens_end : (e : Env) (vars : List ℕ) (values : List Ratio) (i : ℕ) → length vars ≤ i → with_values e (drop i vars) (drop i values) ≡ e
givens_end e vars values i le = ap (λ vs. with_values e vs (drop i values)) (drop_all i vars le)

-- setting values keeps the number of variables
pub values_length : (e : Env) (vars : List ℕ) (values : List Ratio) → length (with_values e vars values) ≡ length e
values_length e [] values = refl
values_length e (v ∷ vars) [] = refl
values_length e (v ∷ vars) (x ∷ values) = values_length (slice_set e v x) vars values ∙ length-set e v x

var_read : (gs : List Given) (i : ℕ) (g : Given) → i < length gs → g ≡ get_or gs i g → g.var ≡ get_or (map (λ (x : Given). x.var) gs) i g.var
var_read [] i g lt is = absurd (omega arith)
var_read (x ∷ gs) zero g lt is = ap (λ (y : Given). y.var) is
var_read (x ∷ gs) (suc i) g lt is = var_read gs i g (omega arith) is

module _ (p : Task) (items : List Given) (i : ℕ) (g : Given) (v : ℕ) (same : items ≡ p.givens) (lt : i < length items) (is : g ≡ get_or items i g) (its : v ≡ g.var) where
  in_problem : g ≡ get_or p.givens i g
  in_problem = subst (λ (gs : List Given). g ≡ get_or gs i g) same is

  pub within_givens : i < length (given_vars p)
  within_givens = omega (arith, lt, ap length same, length-map p.givens (λ (x : Given). x.var))

  -- the variable of a given
  pub given_read : v ≡ get_or (given_vars p) i v
  given_read = subst (λ w. w ≡ get_or (given_vars p) i w) (sym its) (var_read p.givens i g (omega (arith, lt, ap length same)) in_problem)

  pub given_below : AreVars (var_count p) (given_vars p) → v < var_count p
  given_below vars = subst (λ w. w < var_count p) (sym given_read) (All-get_or (λ w. w < var_count p) (given_vars p) i v within_givens vars)
