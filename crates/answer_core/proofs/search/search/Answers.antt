use Rattle.std.proofs.Common.{ℕ, ◌<◌, ◌↔◌, List, ◌∙◌, sym, subst, ap}
use Rattle.std.specs.Prelude.{Contains}
use Rattle.priz_base.specs.Sets.{Adds, IsWithin}
use Rattle.priz_base.proofs.Deciding.{not_so}
use Rattle.priz_base.proofs.Members.{within_trans}
use Rattle.statement_set.specs.Problem.{Task, given_vars, var_count}
use Rattle.proof_term.specs.Proof.{Steps, proves}
use Rattle.proof_term.proofs.Pushes.{proves_fewer}
use Rattle.saturate.specs.Ready.{Progress, ReadyAt}
use Rattle.answer_core.proofs.Learnt.{same_within, same_within_back, kept_within, less, vars_more, proof_more, in_range, refused}
use Rattle.answer_core.proofs.search.search.Goals as goal

pub learning-init : goal.learning-init
learning-init c =
    let p = c.args.problem.now in
    let known = c.learn_givens.new.closure.known in
    let same = c.learn_givens.ensures.known in
    record {
      task = c.learn_givens.ensures.task;
      given = same_within_back known (given_vars p) same;
      vars = c.learn_givens.ensures.vars;
      proof = subst (λ (b : Steps). proves p (given_vars p) b known) (sym c.new-block.ensures) (same_within known (given_vars p) same);
    }

pub returns-in_default : goal.returns-in_default
returns-in_default c =
    let p = c.args.problem.now in
    let known = c.learning.closure.known in
    let wanted = c.set_of-wanted.result in
    let same = λ (n : ℕ). subst (λ (vs : List ℕ). Contains wanted n ↔ Contains vs n) c.wants.ensures.list (c.set_of-wanted.ensures n) in
    let world = refused p known c.requires c.learning.invariant.vars c.learning.invariant.given
    (λ h. not_so c.is_within.result c.is_within.ensures c.learning-test.true
    (subst (λ (k : List ℕ). IsWithin wanted k) (sym c.known.ensures) (within_trans wanted p.wants known (same_within wanted p.wants same) h)))
    (subst (λ (t : Task). (n : ℕ) → ReadyAt t known n → ⊥) c.learning.invariant.task c.in_default.ensures.which) in
    let here = c.known-in_default.ensures ∙ ap (λ (q : Progress). q.known) c.in_default.ensures.same in
    rw (c.in_ok-world_of.ensures, here) world

pub output-requires : goal.output-requires
output-requires c =
    let known = c.learning.closure.known in
    in_range c.args.problem.now known c.in-Some.n (subst (λ (t : Task). ReadyAt t known c.in-Some.n) c.learning.invariant.task c.in-Some.ensures.which.ready)

pub learn-requires : goal.learn-requires
learn-requires c =
    let task = ap (λ (q : Progress). q.task) c.next.ensures.same ∙ c.learning.invariant.task in
    subst (λ (t : Task). c.output.result < var_count t) (sym task) c.output.ensures.var

pub learning-smaller : goal.learning-smaller
learning-smaller c =
    let p = c.args.problem.now in
    let known = c.learning.closure.known in
    let new = c.learn.new.self.known in
    let ready = subst (λ (t : Task). ReadyAt t known c.in-Some.n) c.learning.invariant.task c.in-Some.ensures.which.ready in
    let adds = subst (λ (k : List ℕ). Adds k new c.output.result) (ap (λ (q : Progress). q.known) c.next.ensures.same) c.learn.ensures.known in
    less p known new c.in-Some.n c.output.result ready c.output.ensures.which adds

pub learning-preserved : goal.learning-preserved
learning-preserved c =
    let p = c.args.problem.now in
    let known = c.learning.closure.known in
    let new = c.learn.new.self.known in
    let n = c.in-Some.n in
    let out = c.output.result in
    let ready = subst (λ (t : Task). ReadyAt t known n) c.learning.invariant.task c.in-Some.ensures.which.ready in
    let adds = subst (λ (k : List ℕ). Adds k new out) (ap (λ (q : Progress). q.known) c.next.ensures.same) c.learn.ensures.known in
    record {
      task = c.learn.ensures.task ∙ ap (λ (q : Progress). q.task) c.next.ensures.same ∙ c.learning.invariant.task;
      given = kept_within (given_vars p) known new out adds c.learning.invariant.given;
      vars = vars_more p known new n out ready c.output.ensures.which (var_count p) c.learning.invariant.vars c.output.ensures.var adds;
      proof = let h = proof_more p known new n out ready c.output.ensures.which (given_vars p) c.learning.block c.learning.invariant.proof adds in
          rw (c.in_ok-push.ensures.ok, c.new-in-learning.ensures) h;
    }

pub returns : goal.returns
returns c =
    let p = c.args.problem.now in
    let known = c.learning.closure.known in
    let wanted = c.set_of-wanted.result in
    let same = λ (n : ℕ). subst (λ (vs : List ℕ). Contains wanted n ↔ Contains vs n) c.wants.ensures.list (c.set_of-wanted.ensures n) in
    proves_fewer p (given_vars p) c.learning.block p.wants known
    (within_trans p.wants wanted known (same_within_back wanted p.wants same)
    (subst (λ (k : List ℕ). IsWithin wanted k) c.known.ensures (c.is_within.ensures.0 c.learning-test.false)))
    c.learning.invariant.proof
