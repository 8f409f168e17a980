use Rattle.std.proofs.Common.{◌≡◌, true, false, List, [], refl, sym, ap, ap₂, ◌∙◌, codes, cond, map, string_bytes, None, ⊎_elim, ◌∷◌}
use Rattle.clap.specs.Words.{App, Kinds, Text, app_of, first_of, first_value, found_of, is_simple, is_simple_and_free, matches_of, fault_of, rows_of, IsAmong}
use Rattle.clap.specs.declared.error.kind.ErrorKind.{ErrorKind}
use Rattle.clap.proofs.OnLiterals.{clap_on_literals}
use Rattle.clap.proofs.WalkLemmas.{first_value-rows}
use Rattle.priz_cli.specs.Words.{command, order_in, is_taken, asked_order}
use Rattle.priz_cli.proofs.words.asked_order.Goals as goal

-- what `clap` promises holds of the command
is_simple_one : is_simple command ≡ true
unfolding clap_on_literals
is_simple_one = refl

is_free_one : is_simple_and_free command ≡ true
unfolding clap_on_literals
is_free_one = refl

-- words with a fault aren't taken
not_taken : (ks : Kinds) (k : ErrorKind) → IsAmong k ks → is_taken ks ≡ false
not_taken [] k h = absurd h
not_taken (x ∷ ks) k h = refl

pub returns-in-Ok : goal.returns-in-Ok
returns-in-Ok c =
    let words = map string_bytes c.args.words.now in
    let is = c.in_ok-command.ensures in
    let found = found_of c.in-Ok.matches in
    let rows : rows_of found ≡ matches_of command words = (c.in-Ok.ensures.matches (ap is_simple is ∙ is_simple_one)).0 ∙ ap (λ (a : App). matches_of a words) is in
    let none : fault_of command words ≡ [] = ap (λ (a : App). fault_of a words) (sym is) ∙ c.in-Ok.ensures.kinds (ap is_simple_and_free is ∙ is_free_one) in
    let mode = c.get_str.ensures ∙ first_value-rows found (codes "mode") ∙ ap (first_of (codes "mode")) rows in
    let turns = c.get_str-in-Ok.ensures ∙ first_value-rows found (codes "turns") ∙ ap (first_of (codes "turns")) rows in
    c.order_in.ensures ∙ ap₂ order_in mode turns
    ∙ sym (ap (λ (ks : Kinds). cond (is_taken ks) (order_in (first_of (codes "mode") (matches_of command words)) (first_of (codes "turns") (matches_of command words))) None) none)

pub returns : goal.returns
returns c =
    let words = map string_bytes c.args.words.now in
    let is = c.in_ok-command.ensures in
    let asked = order_in (first_of (codes "mode") (matches_of command words)) (first_of (codes "turns") (matches_of command words)) in
    ⊎_elim (λ want. absurd (c.in_default.not-OutOfMemory (c.kind.ensures ∙ want)))
    (λ among. sym (ap (λ b. cond b asked None) (ap (λ (a : App). is_taken (fault_of a words)) (sym is) ∙ not_taken _ _ among)))
    (c.in-Err.ensures.kinds (ap is_simple_and_free is ∙ is_free_one))
