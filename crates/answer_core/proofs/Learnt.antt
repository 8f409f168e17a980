-- What is known, and the block that gives it, after one more statement.
use Rattle.std.proofs.Common.{◌≡◌, ◌↔◌, ℕ, ◌<◌, List, [], ◌∷◌, length, Some, sym, subst, ⊎_elim, inl, inr, refl}
use Rattle.std.specs.Prelude.{Contains, All, IsSomeAnd, slice_get}
use Rattle.std.proofs.lemmas.List.Elements.{All-weaker, All-contains, All-contains_itself}
use Rattle.priz_base.specs.Sets.{Adds, IsWithin}
use Rattle.priz_base.proofs.More.{some_below}
use Rattle.priz_base.proofs.Members.{contains_here, contains_there}
use Rattle.statement_set.specs.declared.statement.Statement.{Statement}
use Rattle.statement_set.specs.Problem.{Task, var_count, given_vars, AreVars, IsPlain}
use Rattle.statement_set.specs.Countermodel.{IsCountermodelFrom}
use Rattle.statement_set.proofs.Lists.{some_and, some_lacked}
use Rattle.statement_set.proofs.Obeys.{one_world}
use Rattle.proof_term.specs.Proof.{Steps, no_more, proves, push}
use Rattle.proof_term.proofs.Pushes.{proves_fewer, proves_push}
use Rattle.saturate.specs.Ready.{IsReady, ReadyAt}
use Rattle.saturate.proofs.Closed.{closed}
use Rattle.answer_core.proofs.Left.{left, less_left}

-- two lists with the same members
pub same_within : (xs ys : List ℕ) → ((n : ℕ) → Contains xs n ↔ Contains ys n) → IsWithin xs ys
same_within xs ys same = All-weaker (Contains xs) (Contains ys) (λ n c. (same n).0 c) xs (All-contains_itself xs)

pub same_within_back : (xs ys : List ℕ) → ((n : ℕ) → Contains xs n ↔ Contains ys n) → IsWithin ys xs
same_within_back xs ys same = All-weaker (Contains ys) (Contains xs) (λ n c. (same n).1 c) ys (All-contains_itself ys)

pub all_within : (P : ℕ → Type 0) (xs ys : List ℕ) → IsWithin xs ys → All P ys → All P xs
all_within P xs ys sub h = All-weaker (Contains ys) P (λ n c. All-contains P ys n h c) xs sub

added_within : (known new : List ℕ) (v : ℕ) → Adds known new v → IsWithin new (v ∷ known)
added_within known new v adds =
    All-weaker (Contains new) (Contains (v ∷ known))
    (λ n c. ⊎_elim (λ e. subst (Contains (v ∷ known)) (sym e) (contains_here v known)) (λ o. contains_there v known n o) ((adds n).0 c))
    new (All-contains_itself new)

pub kept_within : (xs known new : List ℕ) (v : ℕ) → Adds known new v → IsWithin xs known → IsWithin xs new
kept_within xs known new v adds h = All-weaker (Contains known) (Contains new) (λ n c. (adds n).1 (inr c)) xs h

module _ (p : Task) (known new : List ℕ) (n out : ℕ) (ready : ReadyAt p known n) (is : IsSomeAnd (slice_get p.statements n) (λ (t : Statement). out ≡ t.output)) where
  found : (s : Statement) × (slice_get p.statements n ≡ Some s) × IsReady known s
  found = some_and (slice_get p.statements n) (IsReady known) ready

  output_is : out ≡ found.0.output
  output_is = subst (λ o. IsSomeAnd o (λ (t : Statement). out ≡ t.output)) found.1 is

  pub less : Adds known new out → left new p.statements < left known p.statements
  less adds =
      less_left known new p.statements n found.0 found.1 found.2.output (subst (Contains new) output_is ((adds out).1 (inl refl))) (λ v c. (adds v).1 (inr c))

  pub vars_more : (m : ℕ) → AreVars m known → out < m → Adds known new out → AreVars m new
  vars_more m vars below adds =
      All-weaker (Contains new) (λ v. v < m)
      (λ v c. ⊎_elim (λ e. subst (λ x. x < m) (sym e) below) (λ o. All-contains (λ x. x < m) known v vars o) ((adds v).0 c))
      new (All-contains_itself new)

  pub proof_more : (G : List ℕ) (b : Steps) → proves p G b known → Adds known new out → proves p G (push b n no_more) new
  proof_more G b proof adds =
      let s = found.0 in
      let inputs = proves_fewer p G b s.inputs known found.2.inputs proof in
      let more = proves_push p G b n s known found.1 found.2.plain inputs proof in
      proves_fewer p G (push b n no_more) new (s.output ∷ known) (subst (λ v. IsWithin new (v ∷ known)) output_is (added_within known new out adds)) more

pub in_range : (p : Task) (known : List ℕ) (n : ℕ) → ReadyAt p known n → n < length p.statements
in_range p known n ready = let f = some_and (slice_get p.statements n) (IsReady known) ready in some_below p.statements n f.0 f.1

-- where nothing is left to learn and a want isn't known, what is known refutes the goal
pub refused : (p : Task) (known : List ℕ) → IsPlain p → AreVars (var_count p) known → IsWithin (given_vars p) known → (IsWithin p.wants known → ⊥) → ((n : ℕ) → ¬ ReadyAt p known n) → IsCountermodelFrom p (given_vars p) (known ∷ [])
refused p known plain vars given lacks none =
    one_world p (given_vars p) known (record { vars = vars; givens = given; lacks = some_lacked p.wants known lacks; closed = closed p known plain none })
