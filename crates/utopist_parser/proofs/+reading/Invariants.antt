use Rattle.std.proofs.Common.{◌≡◌, ◌≤◌, ◌<◌, ◌+◌, ◌*◌, length}
use Rattle.utopist_syntax.specs.View.{tree_of}
use Rattle.utopist_parser.proofs.Operands.{SoManyOperands, rank}
use Rattle.utopist_parser.proofs.Arguments.{Arguments}
use Rattle.utopist_parser.proofs.+reading.Given as goal

abbrev pub decreases-expr::read_factor : goal.decreases-expr::read_factor
decreases-expr::read_factor l = l.room * 16

abbrev pub decreases-expr::read_operand : goal.decreases-expr::read_operand
decreases-expr::read_operand l = l.room * 16 + 1 + rank l.group

abbrev pub decreases-expr::read_group : goal.decreases-expr::read_group
decreases-expr::read_group l = l.room * 16 + 2 + rank l.group

abbrev pub decreases-expr::read_expr : goal.decreases-expr::read_expr
decreases-expr::read_expr l = l.room * 16 + 5

abbrev pub decreases-forms::read_behind : goal.decreases-forms::read_behind
decreases-forms::read_behind l = l.room * 16 + 6

abbrev pub decreases-forms::read_args : goal.decreases-forms::read_args
decreases-forms::read_args l = l.room * 16 + 7

abbrev pub decreases-forms::read_negated : goal.decreases-forms::read_negated
decreases-forms::read_negated l = l.room * 16 + 8

abbrev pub decreases-forms::read_round : goal.decreases-forms::read_round
decreases-forms::read_round l = l.room * 16 + 8

abbrev pub decreases-forms::read_call : goal.decreases-forms::read_call
decreases-forms::read_call l = l.room * 16 + 8

abbrev pub decreases-forms::read_loop : goal.decreases-forms::read_loop
decreases-forms::read_loop l = l.room * 16 + 8

abbrev pub decreases-forms::read_choice : goal.decreases-forms::read_choice
decreases-forms::read_choice l = l.room * 16 + 8

abbrev pub invariant-expr::read_group-parts : goal.invariant-expr::read_group-parts
invariant-expr::read_group-parts l = record {
  gives : SoManyOperands l.group l.breadth l.room l.fn.reader.symbols (tree_of l.tree, l.nest) l.reader.symbols;
  some : 1 ≤ l.nest;
  within : l.nest ≤ l.room + 1;
  shorter : length l.reader.symbols < length l.fn.reader.symbols;
  text : l.reader.text ≡ l.fn.reader.text;
}

abbrev pub decreases-expr::read_group-parts : goal.decreases-expr::read_group-parts
decreases-expr::read_group-parts l = length l.reader.symbols

abbrev pub invariant-forms::read_args-parts : goal.invariant-forms::read_args-parts
invariant-forms::read_args-parts l = record {
  gives : Arguments l.breadth l.room l.fn.reader.symbols l.found l.nest l.reader.symbols;
  within : l.nest ≤ l.room + 1;
  shorter : length l.reader.symbols < length l.fn.reader.symbols;
  text : l.reader.text ≡ l.fn.reader.text;
}

abbrev pub decreases-forms::read_args-parts : goal.decreases-forms::read_args-parts
decreases-forms::read_args-parts l = length l.reader.symbols
