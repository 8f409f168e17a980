use Rattle.problem_text.specs.VariableNames.{variable_name}
use Rattle.problem_text.specs.StatementText.{subtask_text}
use Rattle.problem_text.proofs.Taken.{without_second, with_second, printed_behind, four_written}
use Rattle.problem_text.proofs.statement.print_taken.Goals as goal

pub returns-then-is_empty : goal.returns-then-is_empty
returns-then-is_empty c =
    let p = c.args.problem.now in
    let whole = without_second (subtask_text p) (variable_name p) c.args.subtasks.now c.args.inputs.now c.is_empty.result c.is_empty-then-is_empty.result c.is_empty.ensures c.if-is_empty.true c.is_empty-then-is_empty.ensures in
    printed_behind _ _ _ c.args.out.now.items c.print_subtasks.new.out.items c.print_if.new.out.items c.print_if.result whole c.in_ok-print_subtasks.ensures c.print_if.ensures

pub returns : goal.returns
returns c =
    let p = c.args.problem.now in
    let whole = with_second (subtask_text p) (variable_name p) c.args.subtasks.now c.args.inputs.now c.is_empty.result c.is_empty-2.result c.is_empty.ensures c.if-is_empty.false c.is_empty-2.ensures in
    four_written _ _ _ _ _ c.args.out.now.items c.print_subtasks.new.out.items c.print_if-2.new.out.items c.print_vars.new.out.items c.push.new.self.items whole c.in_ok-print_subtasks.ensures c.in_ok-print_if.ensures c.in_ok-print_vars.ensures c.in_ok-push.ensures.items
