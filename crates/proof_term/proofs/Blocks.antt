-- A block that proves the goal gives derivation trees.
use Rattle.std.proofs.Common.{◌≡◌, ℕ, List, [], ◌∷◌, ◌++◌, Some}
use Rattle.std.specs.Prelude.{Contains, All, map, slice_get}
use Rattle.std.proofs.lemmas.List.Elements.{All-nil, All-cons, All-contains, All-weaker, All-append, All-map, Contains-append_left, Contains-append_right}
use Rattle.priz_base.specs.Sets.{IsWithin}
use Rattle.priz_base.proofs.Members.{contains_map}
use Rattle.statement_set.specs.declared.subtask.Subtask.{Subtask}
use Rattle.statement_set.specs.declared.statement.Statement.{Statement}
use Rattle.statement_set.specs.Problem.{Task, results}
use Rattle.statement_set.specs.Formula.{Formula, atom, atoms, conjunction, statement_formula, subtask_formula}
use Rattle.statement_set.specs.Derivation.{Follows, assume}
use Rattle.statement_set.specs.Goal.{IsDerivableFrom, hypotheses_from}
use Rattle.statement_set.proofs.Lists.{each, all_at, some_and}
use Rattle.statement_set.proofs.Trees.{follows_weaken, use_chain, with_links, with_links_old, with_links_new, make_chain, conjunction_follows}
use Rattle.proof_term.specs.Proof.{Steps, done, step, Subs, no_more, known, block, proves, answers}

-- the statements are among the hypotheses
abbrev HasStatements : Task → List Formula → Type 0
HasStatements p H = All (λ s. Contains H (statement_formula s)) p.statements

-- each variable of the list follows
abbrev Gives : List Formula → List ℕ → Type 0
Gives H S = All (λ v. Follows H (atom v)) S

gives_within : (H : List Formula) (R S : List ℕ) → IsWithin R S → Gives H S → Gives H R
gives_within H R S i g = All-weaker (Contains S) (λ v. Follows H (atom v)) (λ v c. All-contains (λ v. Follows H (atom v)) S v g c) R i

-- a statement's output follows where its inputs and its subtasks do
output_follows : (p : Task) (H : List Formula) (S : List ℕ) (n : ℕ) (s : Statement) → HasStatements p H → slice_get p.statements n ≡ Some s → Gives H S → IsWithin s.inputs S → All (λ u. Follows H (subtask_formula u)) s.subs → Follows H (atom s.output)
output_follows p H S n s has e g i subs =
    use_chain H (map subtask_formula s.subs ++ atoms s.inputs) (atom s.output)
    (assume, all_at (λ s. Contains H (statement_formula s)) p.statements n s has e)
    (All-append (Follows H) (map subtask_formula s.subs) (atoms s.inputs) (All-map (Follows H) subtask_formula s.subs subs) (All-map (Follows H) atom s.inputs (gives_within H s.inputs S i g)))

-- in a nested block the subtask's inputs are hypotheses too
gives_inside : (H : List Formula) (U S : List ℕ) → Gives H S → Gives (with_links (atoms U) H) (U ++ S)
gives_inside H U S g =
    let K = with_links (atoms U) H in
    let new : Gives K U = each (λ v. Follows K (atom v)) U (λ v c. (assume, with_links_new (atoms U) H (atom v) (contains_map atom U v c))) in
    let old : Gives K S = All-weaker (λ v. Follows H (atom v)) (λ v. Follows K (atom v)) (λ v f. follows_weaken H K (atom v) (with_links_old (atoms U) H) f) S g in
    All-append (λ v. Follows K (atom v)) U S new old

inside_has : (p : Task) (H As : List Formula) → HasStatements p H → HasStatements p (with_links As H)
inside_has p H As has =
    All-weaker (λ s. Contains H (statement_formula s)) (λ s. Contains (with_links As H) (statement_formula s)) (λ s c. with_links_old As H (statement_formula s) c) p.statements has

mutual
  block_gives : (p : Task) (S : List ℕ) (b : Steps) (R : List ℕ) (H : List Formula) → HasStatements p H → Gives H S → proves p S b R → Gives H R
  block_gives p S done R H has g d = gives_within H R S d g
  block_gives p S (step n subs more) R H has g d =
      let x = some_and (slice_get p.statements n) (λ s. IsWithin s.inputs S × answers p S s.subs subs × proves p (s.output ∷ S) more R) d in
      let s = x.0 in
      let f = output_follows p H S n s has x.1 g x.2.0 (subs_give p S s.subs subs H has g x.2.1) in
      block_gives p (s.output ∷ S) more R H has (All-cons (λ v. Follows H (atom v)) s.output S f g) x.2.2

  subs_give : (p : Task) (S : List ℕ) (us : List Subtask) (subs : Subs) (H : List Formula) → HasStatements p H → Gives H S → answers p S us subs → All (λ u. Follows H (subtask_formula u)) us
  subs_give p S [] no_more H has g a = All-nil (λ u. Follows H (subtask_formula u))
  subs_give p S [] (known more) H has g a = absurd a
  subs_give p S [] (block b more) H has g a = absurd a
  subs_give p S (u ∷ us) no_more H has g a = absurd a
  subs_give p S (u ∷ us) (known more) H has g a =
      let K = with_links (atoms u.inputs) H in
      let all = conjunction (results u) in
      let f = conjunction_follows H (results u) (gives_within H (results u) S a.0 g) in
      let c = make_chain (atoms u.inputs) H all (follows_weaken H K all (with_links_old (atoms u.inputs) H) f) in
      All-cons (λ u. Follows H (subtask_formula u)) u us c (subs_give p S us more H has g a.1)
  subs_give p S (u ∷ us) (block b more) H has g a =
      let K = with_links (atoms u.inputs) H in
      let f = block_gives p (u.inputs ++ S) b (results u) K (inside_has p H (atoms u.inputs) has) (gives_inside H u.inputs S g) a.0 in
      let c = make_chain (atoms u.inputs) H (conjunction (results u)) (conjunction_follows K (results u) f) in
      All-cons (λ u. Follows H (subtask_formula u)) u us c (subs_give p S us more H has g a.1)

-- a block that gives all wants from G gives a derivation of each from G
pub derivable : (p : Task) (G : List ℕ) (b : Steps) → proves p G b p.wants → IsDerivableFrom p G
derivable p G b d =
    let H = hypotheses_from p G in
    let has : HasStatements p H = each (λ s. Contains H (statement_formula s)) p.statements (λ s c. Contains-append_left (map statement_formula p.statements) (atoms G) (statement_formula s) (contains_map statement_formula p.statements s c)) in
    let given : Gives H G = each (λ v. Follows H (atom v)) G (λ v c. (assume, Contains-append_right (map statement_formula p.statements) (atoms G) (atom v) (contains_map atom G v c))) in
    block_gives p G b p.wants H has given d
