use Rattle.std.proofs.Common.{◌≡◌, ◌≤◌, ◌<◌, ℕ, List, ◌∷◌, [], ◌++◌, length, get_or, map, sym, ap, ◌∙◌, subst, arith}
use Rattle.std.specs.List.{filter}
use Rattle.std.specs.Option.{option_map}
use Rattle.std.proofs.lemmas.List.{take_all}
use Rattle.body_lang.specs.View.{body_tree}
use Rattle.body_lang.specs.Inverse.{inverse}
use Rattle.statement_set.specs.declared.statement.Statement.{Statement}
use Rattle.equation_statements.specs.SolvingStatements.{solving_statement}
use Rattle.equation_statements.specs.steps.Places.{statement_for}
use Rattle.equation_statements.proofs.Solving.{stands_once, answer_arithmetic, answer_closed, first_below, next_solved, next_unsolved, once_of_firsts}
use Rattle.equation_statements.proofs.statements.statements_for.Goals as goal
use Rattle.equation_statements.proofs.statements.statements_for.Goals.{in-Some+in_ok-statement+in_ok-push, in_default}

pub statement_of-requires-clause-v : goal.statement_of-requires-clause-v
statement_of-requires-clause-v c =
    let vs = c.as_slice-v-items.result.now in
    let all = first_below c.args.equation.now c.requires.over vs (c.as_slice-v-items.ensures ∙ c.requires.variables) in
    let lt : c.loop-v.v-index < length vs = omega (arith, c.loop-v-test.true) in
    let below : c.v-item.result < 1024 = subst (λ (v : ℕ). v < 1024) (sym c.v-item.is) (all c.loop-v.v-index c.v-item.result lt) in
    omega (arith, below, c.v.view_is)

pub statement_of-requires-clause-arithmetic : goal.statement_of-requires-clause-arithmetic
statement_of-requires-clause-arithmetic c =
    answer_arithmetic c.args.equation.now c.requires.over c.v.inside.0 (body_tree c.in-Some.solved) (sym c.in_ok-solved.ensures.inverse ∙ ap (option_map body_tree) c.in-Some.is)

pub statement_of-requires-clause-closed : goal.statement_of-requires-clause-closed
statement_of-requires-clause-closed c =
    answer_closed c.args.equation.now c.requires.over c.v.inside.0 (body_tree c.in-Some.solved) (sym c.in_ok-solved.ensures.inverse ∙ ap (option_map body_tree) c.in-Some.is)

pub loop-v-preserved : goal.loop-v-preserved
loop-v-preserved c =
    let e = c.args.equation.now in
    let vs = c.args.variables.now in
    let i = c.loop-v.v-index in
    let v = c.v-item.result in
    let same = ap length c.as_slice-v-items.ensures in
    let lt : i < length vs = omega (arith, c.loop-v-test.true, same) in
    let at : v ≡ get_or vs i v = c.v-item.is ∙ ap (λ (us : List ℕ). get_or us i v) c.as_slice-v-items.ensures in
    let is : inverse v e ≡ option_map body_tree c.in_ok-solved.solved = subst (λ (u : ℕ). inverse u e ≡ option_map body_tree c.in_ok-solved.solved) c.v.view_is (sym c.in_ok-solved.ensures.inverse) in
    elim c.match-solved.branch [
      | in-Some+in_ok-statement+in_ok-push w ↦
          let t = body_tree w.in-Some.solved in
          w.statements-is
          ∙ next_solved e vs i v lt at t c.loop-v.statements w.push.new.self (is ∙ ap (option_map body_tree) w.in-Some.is) c.loop-v.invariant
          (w.in_ok-push.ensures.ok
          ∙ ap (λ (s : Statement). c.loop-v.statements ++ s ∷ []) (w.in_ok-statement.ensures ∙ ap (λ (u : ℕ). statement_for vs u t) c.v.view_is ∙ ap (λ (us : List ℕ). statement_for us v t) c.requires.variables))
      | in_default w ↦
          w.statements-is
          ∙ next_unsolved e vs i v lt at c.loop-v.statements (is ∙ ap (option_map body_tree) w.in_default.is) c.loop-v.invariant
    ]

pub returns : goal.returns
returns c =
    let e = c.args.equation.now in
    let vs = c.args.variables.now in
    let same = ap length c.as_slice-v-items.ensures in
    let end : length vs ≤ c.loop-v.v-index = omega (arith, c.loop-v-test.false, same) in
    c.loop-v.invariant
    ∙ ap (λ (us : List ℕ). map (solving_statement e) (filter (stands_once e) us)) (take_all c.loop-v.v-index vs end ∙ c.requires.variables)
    ∙ ap (map (solving_statement e)) (once_of_firsts e c.requires.over.arithmetic)
