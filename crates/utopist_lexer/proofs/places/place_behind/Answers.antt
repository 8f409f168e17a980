use Rattle.std.proofs.Common.{length, sym, subst, ◌∙◌}
use Rattle.std.specs.Str.{chars}
use Rattle.std.proofs.lemmas.Str.{IsUtf8-past_char}
use Rattle.priz_base.specs.declared.place.Place.{Place}
use Rattle.utopist_lexer.specs.Cutting.{HasRoom}
use Rattle.utopist_lexer.proofs.Counting.{room_for, room_past, behind_step, behind_none}
use Rattle.utopist_lexer.proofs.places.place_behind.Goals as goal

pub place_past-place-requires : goal.place_past-place-requires
place_past-place-requires c = room_for c.characters.place c.characters.rest.now c.in-Some.after.now c.in-Some.c c.in-Some.ensures.bytes c.characters.invariant.room

pub characters-preserved : goal.characters-preserved
characters-preserved c = record {
  behind = behind_step c.characters.place c.place_past-place.result _ _ c.in-Some.c c.in-Some.ensures.first c.place_past-place.ensures ∙ c.characters.invariant.behind;
  utf8 = IsUtf8-past_char c.characters.rest.now c.in-Some.after.now c.in-Some.c c.characters.invariant.utf8 c.in-Some.ensures.bytes;
  room = subst (λ (p : Place). HasRoom p (length c.in-Some.after.now)) (sym c.place_past-place.ensures) (room_past c.characters.place c.characters.rest.now c.in-Some.after.now c.in-Some.c c.in-Some.ensures.bytes c.characters.invariant.room);
}

pub returns : goal.returns
returns c = behind_none c.characters.place (chars c.characters.rest.now) c.in_default.ensures.first ∙ c.characters.invariant.behind
