use Rattle.std.proofs.Common.{List, ℕ, ◌<◌, true, ◌≡◌, length, w64, subst}
use Rattle.std.specs.Char.{is_ascii_digit}
use Rattle.std.specs.List.{list_all}
use Rattle.std.proofs.lemmas.Str.Parse.{parse_signed_digits}
use Rattle.utopist_lexer.proofs.Values.{decimal, digits_are_bytes, value_parsed}
use Rattle.utopist_lexer.proofs.digits.value_of.Goals as goal

pub returns : goal.returns
returns c =
    let bytes = digits_are_bytes c.args.digits.now c.utf8.digits c.requires.1 in
    let all : list_all is_ascii_digit c.args.digits.now ≡ true = subst (λ (l : List ℕ). list_all is_ascii_digit l ≡ true) bytes c.requires.1 in
    let some : 0 < length c.args.digits.now = subst (λ (l : List ℕ). 0 < length l) bytes c.requires.0 in
    let parsed = value_parsed c.args.digits.now c.parse.result (parse_signed_digits decimal w64 c.args.digits.now c.parse.result c.parse.ensures.value.0 all) some in
    rw (bytes, c.ok.ensures.value) parsed
