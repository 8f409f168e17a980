-- Places in a text.
use Rattle.std.specs.Prelude.{◌≡◌, ℕ, ◌+◌, ◌==◌, if◌then◌else◌, List, [], ◌∷◌, ◌++◌}
use Rattle.std.specs.Char.{len_utf8}
use Rattle.priz_base.specs.declared.place.Place.{Place}

-- the first place of a text
abbrev pub first_place : Place
first_place = record { at = 0; line = 1; col = 1 }

-- the place behind a character: its bytes are passed, and a line feed ends its line
abbrev pub place_past : Place → ℕ → Place
place_past p c = record {
  at = p.at + len_utf8 c;
  line = if c == 10 then p.line + 1 else p.line;
  col = if c == 10 then 1 else p.col + 1;
}

-- the place behind these characters, of which the first stands at p
abbrev pub place_behind : Place → List ℕ → Place
place_behind p [] = p
place_behind p (c ∷ cs) = place_behind (place_past p c) cs

-- the rest of a text stands at this place
abbrev pub Stands : List ℕ → List ℕ → Place → Type 0
Stands whole rest p = (before : List ℕ) × (whole ≡ before ++ rest) × (p ≡ place_behind first_place before)
