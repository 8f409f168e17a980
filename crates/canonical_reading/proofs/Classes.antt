-- Characters that begin no token, and characters that end a name or a number.
use Rattle.std.proofs.Common.{◌≡◌, ℕ, ◌<◌, Bool, true, false, eqb, List, [], ◌∷◌, refl, ◌∙◌, arith}
use Rattle.std.specs.Prelude.{◌||◌}
use Rattle.std.specs.Char.{is_ascii_digit, is_ascii_alphabetic, is_ascii_alphanumeric}
use Rattle.std.proofs.lemmas.Bool.{both_ways, or_parts, or_from}
use Rattle.std.proofs.lemmas.Bool.Decides.{nat_tests}
use Rattle.unicode_ident.proofs.IdentLemmas.{is_xid_start-ascii, is_xid_continue-ascii}
use Rattle.utopist_lexer.specs.Characters.{is_blank, is_start, is_continue}
use Rattle.utopist_lexer.specs.Lexical.{IsFree}
use Rattle.utopist_lexer.specs.Cutting.{StopsAt}
use Rattle.utopist_lexer.proofs.Leads.{lead, other, other_lead}

-- a digit may continue a name
digit_continues : (c : ℕ) → is_ascii_digit c ≡ true → is_continue c ≡ true
digit_continues c h = is_xid_continue-ascii c (grind (arith, nat_tests)) ∙ grind (arith, nat_tests)

-- an ASCII character that starts no name
no_start : (c : ℕ) → c < 128 → is_ascii_alphabetic c ≡ false → eqb c 95 ≡ false → is_start c ≡ false
no_start c small a b = rw (is_xid_start-ascii c small, a, b) refl

-- a blank begins no name, no number and no $
pub blank_lead : (c : ℕ) → is_blank c ≡ true → lead c ≡ other
blank_lead c h = other_lead c (no_start c (grind (arith, nat_tests)) (grind (arith, nat_tests)) (grind (arith, nat_tests))) (grind (arith, nat_tests)) (grind (arith, nat_tests))

-- nor does #
pub hash_lead : lead 35 ≡ other
hash_lead = other_lead 35 (no_start 35 (omega arith) refl refl) refl refl

-- nor does >
pub greater_lead : lead 62 ≡ other
greater_lead = other_lead 62 (no_start 62 (omega arith) refl refl) refl refl

-- what continues no name is no digit, by cases
no_digit : (c : ℕ) (b : Bool) → is_ascii_digit c ≡ b → is_continue c ≡ false → is_ascii_digit c ≡ false
no_digit c true e h = absurd (both_ways (is_continue c) h (digit_continues c e))
no_digit c false e h = e

-- what is free continues no name
pub free_stops : (cs : List ℕ) → IsFree cs → StopsAt is_continue cs
free_stops [] f = tt
free_stops (c ∷ cs) f = (or_parts (eqb c 46) (is_continue c) f).1

-- what continues no name is no digit
pub stops_digits : (cs : List ℕ) → StopsAt is_continue cs → StopsAt is_ascii_digit cs
stops_digits [] s = tt
stops_digits (c ∷ cs) s = no_digit c (is_ascii_digit c) refl s

-- an ASCII character that continues no name
pub stops_ascii : (c : ℕ) → c < 128 → (is_ascii_alphanumeric c || eqb c 95) ≡ false → is_continue c ≡ false
stops_ascii c small h = is_xid_continue-ascii c small ∙ h

-- and is no dot
pub free_ascii : (c : ℕ) → c < 128 → (is_ascii_alphanumeric c || eqb c 95) ≡ false → eqb c 46 ≡ false → (eqb c 46 || is_continue c) ≡ false
free_ascii c small h dot = or_from _ _ dot (stops_ascii c small h)
