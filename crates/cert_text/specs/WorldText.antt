-- The text of a list of worlds.
use Rattle.std.specs.Prelude.{List, ℕ, ◌∷◌, ◌++◌, ◌+◌, ◌*◌, ◌/◌, false, if◌then◌else◌, codes, map, nat_eq}
use Rattle.std.specs.List.{list_any, range_with_len, flat_map}
use Rattle.std.specs.Fmt.{digit_glyph}

-- 1 for a member, 0 for any other variable
abbrev pub bit_of : List ℕ → ℕ → ℕ
bit_of w v = if list_any (nat_eq v) w then 1 else 0

-- the number whose bits stand for the four variables from 4·j on, the first of them lowest
abbrev pub four_of : List ℕ → ℕ → ℕ
four_of w j = bit_of w (4 * j) + 2 * bit_of w (4 * j + 1) + 4 * bit_of w (4 * j + 2) + 8 * bit_of w (4 * j + 3)

-- a digit `0` to `f` for each four of n variables
abbrev pub world_text : ℕ → List ℕ → List ℕ
world_text n w = map (λ j. digit_glyph false (four_of w j)) (range_with_len 0 ((n + 3) / 4))

-- "worlds" {" " world} LF
abbrev pub worlds_line : ℕ → List (List ℕ) → List ℕ
worlds_line n L = codes "worlds" ++ (flat_map (λ w. 32 ∷ world_text n w) L ++ codes "\n")
