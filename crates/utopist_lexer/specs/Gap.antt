-- The gap before a token: blanks and comments.
use Rattle.std.specs.Prelude.{ℕ, Bool, true, false, not, ◌==◌, if◌then◌else◌, List, [], ◌∷◌}
use Rattle.utopist_lexer.specs.Characters.{is_blank}

-- what stands behind blanks and comments, which go from # to before the next line feed or to the end; the flag says whether the front is inside a comment
abbrev pub past_gap : Bool → List ℕ → List ℕ
past_gap inside [] = []
past_gap true (c ∷ cs) = past_gap (not (c == 10)) cs
past_gap false (c ∷ cs) = if is_blank c then past_gap false cs else (if c == 35 then past_gap true cs else c ∷ cs)
