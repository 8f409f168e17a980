use Rattle.std.proofs.Common.{◌∙◌, arith}
use Rattle.std.proofs.lemmas.List.{length-drop}
use Rattle.std.proofs.lemmas.Result.{err_from_is_err_and}
use Rattle.utopist_syntax.specs.View.{tree_of}
use Rattle.utopist_parser.specs.steps.ReadingExpr.{operator_of, levels_within}
use Rattle.utopist_parser.proofs.Operands.{fails, too_deep, goes_on, ends, lower, first_operand, no_operand, operand_below}
use Rattle.utopist_parser.proofs.Arguments.{first_argument, no_argument, argument_fails, argument_on, arguments_end}
use Rattle.utopist_parser.proofs.Branches.{no_room, factor_is_negated, factor_is_round, factor_is_call, factor_is_loop, factor_is_variable, factor_is_literal, expr_is_choice, expr_is_chain, negated_below, round_below, call_below, loop_below, choice_below}
use Rattle.utopist_parser.proofs.+reading.Goals as goal

pub expr::read_group-parts-init : goal.expr::read_group-parts-init
expr::read_group-parts-init t c =
    let n = c.in_ok-tree.ensures.within in
    record { gives = first_operand c.args.group c.args.breadth c.args.room _ (tree_of c.in_ok-tree.tree, c.in_ok-tree.nest) _ c.in_ok-tree.ensures.reads n.0; some = n.0; within = n.1; shorter = c.in_ok-tree.ensures.goes_on.1; text = c.in_ok-tree.ensures.goes_on.0 }

pub expr::read_group-returns-in_err-tree-clause-reads : goal.expr::read_group-returns-in_err-tree-clause-reads
expr::read_group-returns-in_err-tree-clause-reads t c =
    let p = err_from_is_err_and c.from_residual.result c.from_residual.ensures.1 in
    rw (p.1, p.2) (no_operand c.args.group c.args.breadth c.args.room _ _ c.in_err-tree.ensures.reads)

pub expr::read_group-returns-in_err-part-clause-reads : goal.expr::read_group-returns-in_err-part-clause-reads
expr::read_group-returns-in_err-part-clause-reads t c =
    let p = err_from_is_err_and c.from_residual-in_err-part.result c.from_residual-in_err-part.ensures.1 in
    let some = c.parts.invariant.some in
    let within = c.if-nest-room.false in
    rw (p.1, p.2) (fails (operator_of c.args.group) (lower c.args.group (levels_within c.args.breadth c.args.room)) c.args.room _ _ (tree_of c.parts.tree, c.parts.nest) c.parts.reader.symbols c.in-Some.op _ _ (operand_below c.args.group c.args.breadth c.args.room (omega (arith, some, within))) c.advance.ensures.symbols c.in-Some.ensures within c.in_err-part.ensures.reads c.parts.invariant.gives)

pub expr::read_group-returns-then-nest-room-clause-reads : goal.expr::read_group-returns-then-nest-room-clause-reads
expr::read_group-returns-then-nest-room-clause-reads t c =
    too_deep (operator_of c.args.group) (lower c.args.group (levels_within c.args.breadth c.args.room)) c.args.room _ (tree_of c.parts.tree, c.parts.nest) c.parts.reader.symbols c.in-Some.op c.in-Some.ensures c.if-nest-room.true c.parts.invariant.gives

pub expr::read_group-parts-preserved : goal.expr::read_group-parts-preserved
expr::read_group-parts-preserved t c =
    let some = c.parts.invariant.some in
    let within = c.if-nest-room.false in
    let n = c.in_ok-part.ensures.within in
    let m = c.max-nest.ensures in
    record {
      gives = goes_on (operator_of c.args.group) (lower c.args.group (levels_within c.args.breadth c.args.room)) c.args.room _ (tree_of c.parts.tree, c.parts.nest) c.parts.reader.symbols c.in-Some.op _ _ (tree_of c.in_ok-part.part, c.in_ok-part.deep) c.read_operand-in-Some.new.reader.symbols _ _ (operand_below c.args.group c.args.breadth c.args.room (omega (arith, some, within))) c.advance.ensures.symbols c.in-Some.ensures within c.in_ok-part.ensures.reads c.in_ok-tree-2.ensures (omega (arith, m)) c.parts.invariant.gives;
      some = omega arith;
      within = omega (arith, m, n, within);
      shorter = omega (arith, rw c.advance.ensures.symbols at c.in_ok-part.ensures.goes_on.1, length-drop 1 c.parts.reader.symbols, c.parts.invariant.shorter);
      text = c.in_ok-part.ensures.goes_on.0 ∙ c.advance.ensures.text ∙ c.parts.invariant.text;
    }

pub expr::read_group-returns-clause-reads : goal.expr::read_group-returns-clause-reads
expr::read_group-returns-clause-reads t c = ends (operator_of c.args.group) (lower c.args.group (levels_within c.args.breadth c.args.room)) c.args.room _ (tree_of c.parts.tree, c.parts.nest) c.parts.reader.symbols (rw c.in_default.is at c.operator_of.ensures) c.parts.invariant.gives

pub expr::read_factor-returns-in_err-below-clause-reads : goal.expr::read_factor-returns-in_err-below-clause-reads
expr::read_factor-returns-in_err-below-clause-reads t c =
    let p = err_from_is_err_and c.from_residual.result c.from_residual.ensures.1 in
    rw (p.1, p.2, factor_is_negated c.args.breadth c.args.room c.args.reader.now.symbols c.if-next_is_mark.ensures) (no_room _ c.args.room c.args.reader.now.symbols _ _ c.in_err-below.ensures.gives)

pub expr::read_factor-returns-in_ok-below-clause-reads : goal.expr::read_factor-returns-in_ok-below-clause-reads
expr::read_factor-returns-in_ok-below-clause-reads t c =
    rw (factor_is_negated c.args.breadth c.args.room c.args.reader.now.symbols c.if-next_is_mark.ensures, negated_below c.args.breadth c.args.room c.in_ok-below.below c.args.reader.now.symbols c.in_ok-below.ensures.below) c.read_negated.ensures.reads

pub expr::read_factor-returns-in_err-below-2-clause-reads : goal.expr::read_factor-returns-in_err-below-2-clause-reads
expr::read_factor-returns-in_err-below-2-clause-reads t c =
    let p = err_from_is_err_and c.from_residual-in_err-below-2.result c.from_residual-in_err-below-2.ensures.1 in
    rw (p.1, p.2, factor_is_round c.args.breadth c.args.room c.args.reader.now.symbols c.if-next_is_mark.ensures c.if-next_is_mark-2.ensures) (no_room _ c.args.room c.args.reader.now.symbols _ _ c.in_err-below-2.ensures.gives)

pub expr::read_factor-returns-in_ok-below-2-clause-reads : goal.expr::read_factor-returns-in_ok-below-2-clause-reads
expr::read_factor-returns-in_ok-below-2-clause-reads t c =
    rw (factor_is_round c.args.breadth c.args.room c.args.reader.now.symbols c.if-next_is_mark.ensures c.if-next_is_mark-2.ensures, round_below c.args.breadth c.args.room c.in_ok-below-2.below c.args.reader.now.symbols c.in_ok-below-2.ensures.below) c.read_round.ensures.reads

pub expr::read_factor-returns-in_err-below-3-clause-reads : goal.expr::read_factor-returns-in_err-below-3-clause-reads
expr::read_factor-returns-in_err-below-3-clause-reads t c =
    let p = err_from_is_err_and c.from_residual-in_err-below-3.result c.from_residual-in_err-below-3.ensures.1 in
    rw (p.1, p.2, factor_is_call c.args.breadth c.args.room c.args.reader.now.symbols c.if-next_is_mark.ensures c.if-next_is_mark-2.ensures c.if-begins_call.ensures) (no_room _ c.args.room c.args.reader.now.symbols _ _ c.in_err-below-3.ensures.gives)

pub expr::read_factor-returns-in_ok-below-3-clause-reads : goal.expr::read_factor-returns-in_ok-below-3-clause-reads
expr::read_factor-returns-in_ok-below-3-clause-reads t c =
    rw (factor_is_call c.args.breadth c.args.room c.args.reader.now.symbols c.if-next_is_mark.ensures c.if-next_is_mark-2.ensures c.if-begins_call.ensures, call_below c.args.breadth c.args.room c.in_ok-below-3.below c.args.reader.now.symbols c.in_ok-below-3.ensures.below) c.read_call.ensures.reads

pub expr::read_factor-returns-in_err-below-4-clause-reads : goal.expr::read_factor-returns-in_err-below-4-clause-reads
expr::read_factor-returns-in_err-below-4-clause-reads t c =
    let p = err_from_is_err_and c.from_residual-in_err-below-4.result c.from_residual-in_err-below-4.ensures.1 in
    rw (p.1, p.2, factor_is_loop c.args.breadth c.args.room c.args.reader.now.symbols c.if-next_is_mark.ensures c.if-next_is_mark-2.ensures c.if-begins_call.ensures c.if-begins_loop.ensures) (no_room _ c.args.room c.args.reader.now.symbols _ _ c.in_err-below-4.ensures.gives)

pub expr::read_factor-returns-in_ok-below-4-clause-reads : goal.expr::read_factor-returns-in_ok-below-4-clause-reads
expr::read_factor-returns-in_ok-below-4-clause-reads t c =
    rw (factor_is_loop c.args.breadth c.args.room c.args.reader.now.symbols c.if-next_is_mark.ensures c.if-next_is_mark-2.ensures c.if-begins_call.ensures c.if-begins_loop.ensures, loop_below c.args.breadth c.args.room c.in_ok-below-4.below c.args.reader.now.symbols c.in_ok-below-4.ensures.below) c.read_loop.ensures.reads

pub expr::read_factor-returns-then-next_is-clause-reads : goal.expr::read_factor-returns-then-next_is-clause-reads
expr::read_factor-returns-then-next_is-clause-reads t c =
    rw (factor_is_variable c.args.breadth c.args.room c.args.reader.now.symbols c.if-next_is_mark.ensures c.if-next_is_mark-2.ensures c.if-begins_call.ensures c.if-begins_loop.ensures c.if-next_is.ensures) c.read_variable.ensures.reads

pub expr::read_factor-returns-else-next_is-clause-reads : goal.expr::read_factor-returns-else-next_is-clause-reads
expr::read_factor-returns-else-next_is-clause-reads t c =
    rw (factor_is_literal c.args.breadth c.args.room c.args.reader.now.symbols c.if-next_is_mark.ensures c.if-next_is_mark-2.ensures c.if-begins_call.ensures c.if-begins_loop.ensures c.if-next_is.ensures) c.read_literal.ensures.reads

pub expr::read_expr-returns-in_err-below-clause-reads : goal.expr::read_expr-returns-in_err-below-clause-reads
expr::read_expr-returns-in_err-below-clause-reads t c =
    let p = err_from_is_err_and c.from_residual.result c.from_residual.ensures.1 in
    rw (p.1, p.2, expr_is_choice c.args.breadth c.args.room c.args.reader.now.symbols c.if-begins_choice.ensures) (no_room _ c.args.room c.args.reader.now.symbols _ _ c.in_err-below.ensures.gives)

pub expr::read_expr-returns-in_ok-below-clause-reads : goal.expr::read_expr-returns-in_ok-below-clause-reads
expr::read_expr-returns-in_ok-below-clause-reads t c =
    rw (expr_is_choice c.args.breadth c.args.room c.args.reader.now.symbols c.if-begins_choice.ensures, choice_below c.args.breadth c.args.room c.in_ok-below.below c.args.reader.now.symbols c.in_ok-below.ensures.below) c.read_choice.ensures.reads

pub expr::read_expr-returns-else-begins_choice-clause-reads : goal.expr::read_expr-returns-else-begins_choice-clause-reads
expr::read_expr-returns-else-begins_choice-clause-reads t c = rw (expr_is_chain c.args.breadth c.args.room c.args.reader.now.symbols c.if-begins_choice.ensures) c.read_group.ensures.reads

pub forms::read_args-returns-in_err-first-clause-reads : goal.forms::read_args-returns-in_err-first-clause-reads
forms::read_args-returns-in_err-first-clause-reads t c =
    let p = err_from_is_err_and c.from_residual.result c.from_residual.ensures.1 in
    rw (p.1, p.2) (no_argument c.args.breadth c.args.room c.args.reader.now.symbols _ c.in_err-first.ensures.reads)

pub forms::read_args-parts-init : goal.forms::read_args-parts-init
forms::read_args-parts-init t c =
    let n = c.in_ok-first.ensures.within in
    record {
      gives = first_argument c.args.breadth c.args.room c.args.reader.now.symbols _ _ c.in_ok-first.first c.in_ok-first.nest _ c.new-found.ensures c.in_ok-push.ensures.ok c.in_ok-first.ensures.reads;
      within = n.1;
      shorter = c.in_ok-first.ensures.goes_on.1;
      text = c.in_ok-first.ensures.goes_on.0;
    }

pub forms::read_args-returns-in_err-part-clause-reads : goal.forms::read_args-returns-in_err-part-clause-reads
forms::read_args-returns-in_err-part-clause-reads t c =
    let p = err_from_is_err_and c.from_residual-in_err-part.result c.from_residual-in_err-part.ensures.1 in
    rw (p.1, p.2) (argument_fails c.args.breadth c.args.room c.args.reader.now.symbols _ c.parts.found c.parts.nest c.parts.reader.symbols c.parts-test.ensures c.in_err-part.ensures.reads c.parts.invariant.gives)

pub forms::read_args-parts-preserved : goal.forms::read_args-parts-preserved
forms::read_args-parts-preserved t c =
    let n = c.in_ok-part.ensures.within in
    let m = c.max-nest.ensures in
    record {
      gives = argument_on c.args.breadth c.args.room c.args.reader.now.symbols c.parts.found _ c.parts.nest _ c.parts.reader.symbols c.in_ok-part.part c.in_ok-part.deep c.read_behind.new.reader.symbols c.parts-test.ensures c.in_ok-part.ensures.reads c.in_ok-part.ensures.goes_on.1 c.in_ok-push-2.ensures.ok m c.parts.invariant.gives;
      within = omega (arith, m, n, c.parts.invariant.within);
      shorter = omega (arith, c.in_ok-part.ensures.goes_on.1, c.parts.invariant.shorter);
      text = c.in_ok-part.ensures.goes_on.0 ∙ c.parts.invariant.text;
    }

pub forms::read_args-returns-clause-reads : goal.forms::read_args-returns-clause-reads
forms::read_args-returns-clause-reads t c = arguments_end c.args.breadth c.args.room c.args.reader.now.symbols c.parts.found c.parts.nest c.parts.reader.symbols c.parts-test.ensures c.parts.invariant.gives
