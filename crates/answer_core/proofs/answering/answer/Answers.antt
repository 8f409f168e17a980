use Rattle.std.proofs.Common.{refl, subst}
use Rattle.statement_set.specs.Problem.{given_vars}
use Rattle.statement_set.proofs.Models.{refutes}
use Rattle.proof_term.proofs.Blocks.{derivable}
use Rattle.answer_core.specs.declared.search.Found.{Found}
use Rattle.answer_core.specs.steps.Found.{IsFound}
use Rattle.answer_core.proofs.answering.answer.Goals as goal

pub returns-in_ok-values-in-Derived : goal.returns-in_ok-values-in-Derived
returns-in_ok-values-in-Derived c =
    let p = c.args.problem.now in
    let proof = subst (λ (f : Found). IsFound p f) c.in-Derived.is c.in_ok-block.ensures in
    record { proof = proof; derivable = derivable p (given_vars p) c.in-Derived.block proof; separate = refl; values = c.in_ok-values-in-Derived.ensures }

pub returns-in-Refuted : goal.returns-in-Refuted
returns-in-Refuted c =
    let p = c.args.problem.now in
    let model = subst (λ (f : Found). IsFound p f) c.in-Refuted.is c.in_ok-block.ensures in
    record { countermodel = model; underivable = λ d. refutes p (given_vars p) c.in-Refuted.worlds model d }
