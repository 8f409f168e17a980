-- Numbers among the words of the command line.
use Rattle.std.proofs.Common.{◌≡◌, ℕ, zero, suc, ◌<◌, ◌≤◌, ◌^◌, Bool, true, false, List, [], ◌∷◌, length, get_or, ◌≢◌, Some, None, Result, Ok, Err, refl, ap, ◌∙◌, arith, sym}
use Rattle.std.specs.Prelude.{◌&&◌, ◌==◌, nat_le, if◌then◌else◌, slice_index}
use Rattle.std.specs.Result.{OkIff}
use Rattle.std.specs.Char.{is_ascii_digit}
use Rattle.std.specs.List.{list_all}
use Rattle.std.specs.Str.Parse.{ParsesUnsigned, digits_value}
use Rattle.std.proofs.lemmas.Bool.{le-leb, lt-leb, eqb-false}
use Rattle.std.proofs.lemmas.Str.Parse.{IsNumeralModel, numerals_by_value, tells_all_ascii_digits, parse_plain}
use Rattle.priz_cli.specs.Words.{number_to}

decimal : IsNumeralModel (λ ds. list_all is_ascii_digit ds ≡ true) (digits_value 10)
decimal = numerals_by_value _ tells_all_ascii_digits

in_range : (n greatest : ℕ) → 1 ≤ n → n ≤ greatest → (nat_le 1 n && nat_le n greatest) ≡ true
in_range n greatest some few = rw (le-leb 1 n some, le-leb n greatest few) refl

past_range : (n greatest : ℕ) → greatest < n → (nat_le 1 n && nat_le n greatest) ≡ false
past_range zero greatest past = refl
past_range (suc n) greatest past = rw (le-leb 1 (suc n) (omega arith), lt-leb (suc n) greatest past) refl

module _ {E : Type 0} (greatest : ℕ) (text : List ℕ) (r : Result ℕ E) (parsed : ParsesUnsigned 32 10 text r) (no_plus : get_or text 0 0 ≢ 43) where
  abbrev IsWritten : Type 0
  IsWritten = (list_all is_ascii_digit text ≡ true) × (0 < length text) × (digits_value 10 text < 2 ^ 32)

  written : OkIff r IsWritten (digits_value 10 text)
  written = parse_plain decimal 32 text r parsed no_plus

  pub number_read : (n : ℕ) → r ≡ Ok n → 1 ≤ n → n ≤ greatest → Some n ≡ number_to greatest text
  number_read n is some few = by r is written where
    value_in : Result ℕ E → ℕ
    value_in (Ok x) = x
    value_in (Err x) = 0

    by : (q : Result ℕ E) → q ≡ Ok n → OkIff q IsWritten (digits_value 10 text) → Some n ≡ number_to greatest text
    by (Ok m) e h =
        let same : n ≡ digits_value 10 text = omega (arith, h.1, ap value_in e) in
        rw (same, h.0.0, in_range (digits_value 10 text) greatest (omega (arith, some, same)) (omega (arith, few, same))) refl
    by (Err m) e h = absurd (cc)

  pub nothing_read : (e : E) → r ≡ Err e → greatest < 2 ^ 32 → None ≡ number_to greatest text
  nothing_read e is fits = by r is written where
    none : (ds : List ℕ) → (0 < length ds → 2 ^ 32 ≤ digits_value 10 ds) → (nat_le 1 (digits_value 10 ds) && nat_le (digits_value 10 ds) greatest) ≡ false
    none [] wide = refl
    none (c ∷ cs) wide = past_range (digits_value 10 (c ∷ cs)) greatest (omega (arith, fits, wide (omega arith)))

    told : (b : Bool) → list_all is_ascii_digit text ≡ b → ¬ IsWritten → None ≡ number_to greatest text
    told false other h = rw (other) refl
    told true digits h = rw (digits, none text (λ some. let wide : digits_value 10 text < 2 ^ 32 → ⊥ = λ small. h (digits, some, small) in omega arith)) refl

    by : (q : Result ℕ E) → q ≡ Err e → OkIff q IsWritten (digits_value 10 text) → None ≡ number_to greatest text
    by (Ok m) i h = absurd (cc)
    by (Err m) i h = told (list_all is_ascii_digit text) refl h

pub no_plus_first : (text : List ℕ) → (slice_index text 0 == 43) ≡ false → get_or text 0 0 ≢ 43
no_plus_first text h e = omega (arith, eqb-false (slice_index text 0) 43 h, e)
