use Rattle.std.proofs.Common.{◌≡◌, ◌++◌, List, ℕ, false, length}
use Rattle.std.specs.Str.{IsUtf8, chars}
use Rattle.utopist_lexer.specs.Gap.{past_gap}
use Rattle.utopist_lexer.proofs.gap.cut_gap.Given as goal

abbrev pub invariant-gap : goal.invariant-gap
invariant-gap l = record {
  rest : past_gap l.inside (chars l.rest) ≡ past_gap false (chars l.text);
  utf8 : IsUtf8 l.rest;
  behind : (front : List ℕ) × (l.text ≡ front ++ l.rest);
}

abbrev pub decreases-gap : goal.decreases-gap
decreases-gap l = length l.rest
