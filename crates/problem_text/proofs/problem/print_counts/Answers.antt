use Rattle.std.proofs.Common.{◌∙◌}
use Rattle.problem_text.proofs.Counts.{counts_written}
use Rattle.problem_text.proofs.problem.print_counts.Goals as goal

pub returns : goal.returns
returns c =
    counts_written c.args.problem.now c.args.index c.from.result c.from-2.result c.from-3.result c.args.out.now.items c.extend_from_slice.new.self.items c.print_counted.new.out.items c.print_counted-2.new.out.items c.print_counted-3.new.out.items c.from.ensures (c.from-2.ensures ∙ c.vars.ensures.count) (c.from-3.ensures ∙ c.statements.ensures) c.in_ok-extend_from_slice.ensures.items c.in_ok-print_counted.ensures c.in_ok-print_counted-2.ensures c.in_ok-print_counted-3.ensures
