use Rattle.std.proofs.Common.{sym}
use Rattle.utopist_lexer.specs.Characters.{has}
use Rattle.utopist_lexer.proofs.Runs.{run_none, run_more, run_ends, stops_at, stops_none}
use Rattle.utopist_lexer.proofs.run.cut_run.Goals as goal
use Rattle.utopist_lexer.proofs.run.cut_run.Goals.{in-Some+then-not-has, in_default}

pub run-init : goal.run-init
run-init c = run_none (has c.args.class) c.args.text.now c.utf8.text

pub run-preserved : goal.run-preserved
run-preserved c = run_more (has c.args.class) c.args.text.now c.run.rest.now c.in-Some.after.now c.in-Some.c c.in-Some.ensures.bytes c.in-Some.ensures.first (sym c.if-not-has.ensures) c.run.invariant

pub returns-clause-run : goal.returns-clause-run
returns-clause-run c =
    let ends = run_ends (has c.args.class) c.args.text.now c.run.rest.now c.cut_before.result.0.now c.cut_before.result.1.now in
    elim c.match-first_char.branch [
      | in-Some+then-not-has w ↦ ends (stops_at (has c.args.class) c.run.rest.now w.in-Some.after.now w.in-Some.c w.in-Some.ensures.first (sym w.if-not-has.ensures)) c.cut_before.ensures.parts c.cut_before.ensures.rest c.run.invariant
      | in_default w ↦ ends (stops_none (has c.args.class) c.run.rest.now w.in_default.ensures.first) c.cut_before.ensures.parts c.cut_before.ensures.rest c.run.invariant
    ]
