use Rattle.std.proofs.Common.{ap, ◌∙◌}
use Rattle.std.specs.Str.{chars}
use Rattle.std.proofs.lemmas.Str.{IsUtf8-past_char}
use Rattle.utopist_lexer.proofs.Cutting.{behind_more}
use Rattle.utopist_lexer.proofs.GapSteps.{gap_inside, gap_comment, gap_blank, gap_ends, gap_none}
use Rattle.utopist_lexer.proofs.gap.cut_gap.Goals as goal
use Rattle.utopist_lexer.proofs.gap.cut_gap.Goals.{in-Some+else-inside+else-c-eq35+then-not-is_blank, in_default}

pub gap-preserved-then-inside : goal.gap-preserved-then-inside
gap-preserved-then-inside c = record {
  rest = gap_inside c.gap.inside _ _ c.in-Some.c _ c.in-Some.ensures.first c.gap.invariant.rest c.if-inside.true;
  utf8 = IsUtf8-past_char c.gap.rest.now c.in-Some.after.now c.in-Some.c c.gap.invariant.utf8 c.in-Some.ensures.bytes;
  behind = behind_more c.args.text.now c.gap.rest.now c.in-Some.after.now c.in-Some.c c.in-Some.ensures.bytes c.gap.invariant.behind;
}

pub gap-preserved-then-c-eq35 : goal.gap-preserved-then-c-eq35
gap-preserved-then-c-eq35 c = record {
  rest = gap_comment c.gap.inside _ _ c.in-Some.c _ c.in-Some.ensures.first c.gap.invariant.rest c.if-inside.false c.if-c-eq35.true;
  utf8 = IsUtf8-past_char c.gap.rest.now c.in-Some.after.now c.in-Some.c c.gap.invariant.utf8 c.in-Some.ensures.bytes;
  behind = behind_more c.args.text.now c.gap.rest.now c.in-Some.after.now c.in-Some.c c.in-Some.ensures.bytes c.gap.invariant.behind;
}

pub gap-preserved : goal.gap-preserved
gap-preserved c = record {
  rest = gap_blank c.gap.inside _ _ c.in-Some.c _ c.in-Some.ensures.first c.gap.invariant.rest c.if-inside.false c.if-not-is_blank.ensures;
  utf8 = IsUtf8-past_char c.gap.rest.now c.in-Some.after.now c.in-Some.c c.gap.invariant.utf8 c.in-Some.ensures.bytes;
  behind = behind_more c.args.text.now c.gap.rest.now c.in-Some.after.now c.in-Some.c c.in-Some.ensures.bytes c.gap.invariant.behind;
}

pub returns-clause-rest : goal.returns-clause-rest
returns-clause-rest c =
    ap chars c.cut_before.ensures.rest
    ∙ elim c.match-first_char.branch [
      | in-Some+else-inside+else-c-eq35+then-not-is_blank w ↦ gap_ends c.gap.inside _ _ w.in-Some.c _ w.in-Some.ensures.first c.gap.invariant.rest w.if-inside.false w.if-c-eq35.false w.if-not-is_blank.ensures
      | in_default w ↦ gap_none c.gap.inside (chars c.gap.rest.now) _ w.in_default.ensures.first c.gap.invariant.rest
    ]
