-- Classes of characters: what the tables of Unicode say of ASCII.
use Rattle.std.proofs.Common.{◌≡◌, ℕ, ◌<◌, Bool, true, false, eqb, refl, sym, ap, ◌∙◌, arith}
use Rattle.std.specs.Prelude.{◌||◌, ◌==◌}
use Rattle.std.specs.Char.{is_ascii_digit, is_ascii, is_ascii_alphabetic, is_ascii_alphanumeric}
use Rattle.std.proofs.lemmas.Bool.{or_left}
use Rattle.std.proofs.lemmas.Bool.Decides.{nat_tests}
use Rattle.unicode_ident.specs.Ident.{is_xid_start, is_xid_continue}
use Rattle.unicode_ident.proofs.IdentLemmas.{is_xid_start-ascii, is_xid_continue-ascii, is_xid_start-is_xid_continue}
use Rattle.utopist_lexer.specs.Characters.{is_start, is_continue}

pub letter_small : (c : ℕ) → is_ascii_alphabetic c ≡ true → c < 128
letter_small c h = grind (arith, nat_tests)

pub letter_starts : (c : ℕ) → is_ascii_alphabetic c ≡ true → is_start c ≡ true
letter_starts c h = or_left _ _ (is_xid_start-ascii c (letter_small c h) ∙ h)

underline_continues : (c : ℕ) → eqb c 95 ≡ true → is_continue c ≡ true
underline_continues c h = let e : c ≡ 95 = grind (arith, nat_tests) in ap is_xid_continue e ∙ is_xid_continue-ascii 95 (omega arith)

starts_either : (c : ℕ) (x : Bool) → is_xid_start c ≡ x → (x || eqb c 95) ≡ true → is_continue c ≡ true
starts_either c true e h = is_xid_start-is_xid_continue c e
starts_either c false e h = underline_continues c h

-- what may start an identifier may continue one
pub start_continues : (c : ℕ) → is_start c ≡ true → is_continue c ≡ true
start_continues c h = starts_either c (is_xid_start c) refl h

-- an ASCII character that is neither a letter nor _ starts none
pub plain_no_start : (c : ℕ) → c < 128 → is_ascii_alphabetic c ≡ false → eqb c 95 ≡ false → is_start c ≡ false
plain_no_start c small a b = rw (is_xid_start-ascii c small, a, b) refl

pub digit_no_start : (c : ℕ) → is_ascii_digit c ≡ true → is_start c ≡ false
digit_no_start c h = plain_no_start c (grind (arith, nat_tests)) (grind (arith, nat_tests)) (grind (arith, nat_tests))

pub digit_small : (c : ℕ) → is_ascii_digit c ≡ true → c < 128
digit_small c h = grind (arith, nat_tests)

small : (c : ℕ) → true ≡ is_ascii c → c < 128
small c h = grind (arith, nat_tests)

pub start_ascii : (c : ℕ) → true ≡ is_ascii c → (is_ascii_alphabetic c || (c == 95)) ≡ is_start c
start_ascii c h = ap (λ (b : Bool). b || (c == 95)) (sym (is_xid_start-ascii c (small c h)))

pub continue_ascii : (c : ℕ) → true ≡ is_ascii c → (is_ascii_alphanumeric c || (c == 95)) ≡ is_continue c
continue_ascii c h = sym (is_xid_continue-ascii c (small c h))
