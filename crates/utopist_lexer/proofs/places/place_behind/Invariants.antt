use Rattle.std.proofs.Common.{◌≡◌, length}
use Rattle.std.specs.Str.{IsUtf8, chars}
use Rattle.utopist_lexer.specs.Places.{place_behind}
use Rattle.utopist_lexer.specs.Cutting.{HasRoom}
use Rattle.utopist_lexer.proofs.places.place_behind.Given as goal

abbrev pub invariant-characters : goal.invariant-characters
invariant-characters l = record {
  behind : place_behind l.place (chars l.rest) ≡ place_behind l.fn.start (chars l.fn.text);
  utf8 : IsUtf8 l.rest;
  room : HasRoom l.place (length l.rest);
}

abbrev pub decreases-characters : goal.decreases-characters
decreases-characters l = length l.rest
