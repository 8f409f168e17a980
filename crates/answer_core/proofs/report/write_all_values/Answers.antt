use Rattle.std.proofs.Common.{◌<◌, ◌+◌, ◌++◌, length, drop, append-nil, sym, ap, ◌∙◌, arith}
use Rattle.std.proofs.Transfers.{starts_with_trans, starts_with_of_append}
use Rattle.priz_base.proofs.More.{moved_on}
use Rattle.answer_core.specs.Report.{value_line, value_lines}
use Rattle.answer_core.proofs.Numbers.{lines_open, lines_end}
use Rattle.answer_core.proofs.report.write_all_values.Goals as goal

pub loop-i-preserved : goal.loop-i-preserved
loop-i-preserved c =
    let p = c.args.problem.now in
    let vs = c.wants-want-items.result.now in
    let xs = c.args.values.now in
    let i = c.loop-i.i in
    let x = c.index-values-i.result in
    let name = c.name.result.now in
    let old = c.loop-i.invariant in
    let below : i < length xs = omega (arith, c.requires, ap length old.all, c.loop-i-test.true) in
    let opened = lines_open p vs xs i c.want-item.result x name c.loop-i-test.true below c.want-item.is c.index-values-i.is c.name.ensures in
    record {
      all = old.all;
      kept = starts_with_trans _ _ _ (starts_with_of_append c.write_value.new.out.items c.loop-i.out.items _ c.in_ok-write_value.ensures) old.kept;
      rest = moved_on c.loop-i.out.items c.write_value.new.out.items (value_line name x) (value_lines p (drop (i + 1) vs) (drop (i + 1) xs)) _
          (ap (λ l. c.loop-i.out.items ++ l) (sym opened) ∙ old.rest) c.in_ok-write_value.ensures;
    }

pub returns : goal.returns
returns c =
    let p = c.args.problem.now in
    let out = c.loop-i.out.items in
    let none = lines_end p c.wants-want-items.result.now (drop c.loop-i.i c.args.values.now) c.loop-i.i c.loop-i-test.false in
    sym (append-nil out) ∙ ap (λ l. out ++ l) (sym none) ∙ c.loop-i.invariant.rest
