-- The rules of givens and of the compute statement.
use Rattle.std.proofs.Common.{◌≡◌, ℕ, suc, Bool, true, false, List, [], map, Option, Some, None, refl}
use Rattle.std.specs.Prelude.{ℤ, pos, unsigned_abs}
use Rattle.priz_frac.specs.Ratio.{Ratio}
use Rattle.priz_frac.specs.Lowest.{low}
use Rattle.priz_frac.specs.Sign.{signed_ratio}
use Rattle.utopist_lexer.specs.declared.word.Word.TheVariants as words
use Rattle.utopist_lexer.specs.declared.mark.Mark.TheVariants as marks
use Rattle.utopist_lexer.specs.declared.token.Kind.TheVariants as kinds
use Rattle.utopist_syntax.specs.Named.{Named}
use Rattle.utopist_syntax.specs.declared.compute.Compute.{Compute}
use Rattle.utopist_syntax.specs.declared.compute.GivenPath.{GivenPath}
use Rattle.token_forms.specs.Symbols.{Symbol, number, word}
use Rattle.token_forms.specs.steps.Steps.{meets}
use Rattle.token_forms.specs.steps.Single.{is_word, is_mark}
use Rattle.token_forms.specs.Lists.{OneOrMore}
use Rattle.utopist_parser.specs.Written.{WrittenPath}
use Rattle.utopist_parser.specs.WrittenFile.{WrittenNumber, WrittenGiven, WrittenCompute}
use Rattle.token_forms.specs.Lists.{all_of}
use Rattle.utopist_parser.specs.FileSymbols.{spell_minus, spell_value, spell_given, spell_givens, spell_compute}
use Rattle.utopist_parser.specs.FileSeen.{see_path, see_value, see_given, see_compute}
use Rattle.utopist_parser.specs.steps.ReadingFile.{minus_at, negative_at, some_below_at, below_at, some_value_at, given_value_at, given_at, some_givens_at, givens_at, compute_at}
use Rattle.token_forms.proofs.StepLaws.{Form, Aspect}
use Rattle.token_forms.proofs.Sequence.{both}
use Rattle.token_forms.proofs.Recast.{recast}
use Rattle.token_forms.proofs.Singles.{after, name_form, number_form, divisor_form}
use Rattle.token_forms.proofs.Rules.{Rule, name_rule, number_rule, divisor_rule, after_word, after_mark, stop, stop_rule, then_rule, map_rule, recast_rule, separated_form, separated_stops, separated_rule, see_optional, optional, optional_rule, with_option, with_option_rule}
use Rattle.utopist_parser.proofs.PathRules.{path_form, path_rule, path_stops, paths_form, paths_rule, paths_stop}
use Rattle.token_forms.proofs.Meeting.{meets_other}
use Rattle.utopist_parser.proofs.Free.{Free, free_after, free_stop, free_both, free_separated, free_optional, free_recast}
use Rattle.utopist_parser.proofs.ItemRules.{free_name, free_path, free_paths}

-- ---- numbers

-- ["-"]
abbrev minus_form : Form (Option (Unit {0}))
minus_form = optional (stop marks.Minus) (is_mark marks.Minus)

abbrev from_sign : Bool → Option (Unit {0})
from_sign true = Some tt
from_sign false = None

abbrev to_sign : Option (Unit {0}) → Bool
to_sign None = false
to_sign (Some u) = true

sign_back : (o : Option (Unit {0})) → from_sign (to_sign o) ≡ o
sign_back None = refl
sign_back (Some u) = refl

sign_spelled : (b : Bool) → minus_form.spell (from_sign b) ≡ spell_minus b
sign_spelled true = refl
sign_spelled false = refl

sign_seen : (b : Bool) → see_optional {X = Unit {0}} (λ u. true) false (from_sign b) ≡ b
sign_seen true = refl
sign_seen false = refl

abbrev negative_form : Form Bool
negative_form = recast minus_form spell_minus from_sign

minus_rule : {m : Aspect} {room : ℕ} → Rule m room (stop marks.Minus) (λ u. true) minus_at
unfolding minus_at
minus_rule = stop_rule marks.Minus true

negative_rule : {m : Aspect} {room : ℕ} → Rule m room negative_form (λ b. b) negative_at
unfolding negative_at
negative_rule =
    recast_rule {g = minus_form} {see = see_optional (λ u. true) false} spell_minus (λ b. b) to_sign from_sign sign_back sign_spelled sign_seen
    (optional_rule (is_mark marks.Minus) false (λ u rest. refl) minus_rule)

-- a number ends the sign
negative_stops : (b : Bool) (n : ℤ) (rest : List Symbol) → negative_form.Stops b (Some (number n))
negative_stops true n rest = tt
negative_stops false n rest = refl

free_negative : Free negative_form
free_negative = free_recast spell_minus from_sign (free_optional (is_mark marks.Minus) (free_stop marks.Minus))

-- ["/" Number that isn't 0]
abbrev some_below_form : Form ℕ
some_below_form = after (kinds.Mark marks.Slash) divisor_form

some_below_rule : {m : Aspect} {room : ℕ} → Rule m room some_below_form (λ d. pos (suc d)) some_below_at
unfolding some_below_at
some_below_rule = after_mark marks.Slash divisor_rule

abbrev below_form : Form (Option ℕ)
below_form = optional some_below_form (is_mark marks.Slash)

abbrev see_below : Option ℕ → ℤ
see_below = see_optional (λ d. pos (suc d)) (pos 1)

below_rule : {m : Aspect} {room : ℕ} → Rule m room below_form see_below below_at
unfolding below_at
below_rule = optional_rule (is_mark marks.Slash) (pos 1) (λ d rest. refl) some_below_rule

free_divisor : Free divisor_form
free_divisor = record { fits = λ d M. tt }

free_number : Free number_form
free_number = record { fits = λ n M. tt }

free_below : Free below_form
free_below = free_optional (is_mark marks.Slash) (free_after (kinds.Mark marks.Slash) free_divisor)

-- "=" ["-"] Number ["/" Number that isn't 0]
abbrev Value : Type 0
Value = Bool × (ℕ × Option ℕ)

abbrev see_parts : Value → Ratio
see_parts p = low (signed_ratio p.0 p.1.0 (unsigned_abs (see_below p.1.1)))

abbrev value_pair : Form Value
value_pair = after (kinds.Mark marks.Equal) (both negative_form (both number_form below_form))

some_value_rule : {m : Aspect} {room : ℕ} → Rule m room value_pair (λ p. Some (see_parts p)) some_value_at
unfolding some_value_at
some_value_rule =
    after_mark marks.Equal
    (then_rule (λ b p. Some (see_parts (b, p))) _ negative_rule
    (λ b. then_rule (λ n o. Some (see_parts (b, (n, o)))) _ number_rule (λ n. map_rule (λ d. Some (low (signed_ratio b n (unsigned_abs d)))) below_rule) (λ n o rest s. tt))
    (λ b p rest s. negative_stops b (pos p.0) rest))

value_seen : (x : WrittenNumber) → ◌≡◌ {A = Option Ratio} (Some (see_parts (x.negative, (x.above, x.below)))) (Some (see_value x))
value_seen x =
    elim x.below as (λ d. ◌≡◌ {A = Option Ratio} (Some (see_parts (x.negative, (x.above, d)))) (Some (see_value (record { negative = x.negative; above = x.above; below = d })))) [ None ↦ refl | Some d ↦ refl ]

abbrev some_value_form : Form WrittenNumber
some_value_form = recast value_pair spell_value (λ x. (x.negative, (x.above, x.below)))

number_value_rule : {m : Aspect} {room : ℕ} → Rule m room some_value_form (λ x. Some (see_value x)) some_value_at
number_value_rule =
    recast_rule {g = value_pair} {see = λ p. Some (see_parts p)} spell_value (λ x. Some (see_value x)) (λ p. record { negative = p.0; above = p.1.0; below = p.1.1 }) (λ x. (x.negative, (x.above, x.below))) (λ p. refl) (λ x. refl) value_seen
    some_value_rule

free_value : Free some_value_form
free_value =
    free_recast spell_value (λ x. (x.negative, (x.above, x.below))) (free_after (kinds.Mark marks.Equal) (free_both free_negative (free_both free_number free_below)))

-- ---- givens

-- path ["=" number]
abbrev given_pair : Form (WrittenPath × Option WrittenNumber)
given_pair = with_option path_form some_value_form (is_mark marks.Equal)

abbrev see_pair : WrittenPath × Option WrittenNumber → GivenPath
see_pair p = record { path = see_path p.0; value = see_optional (λ x. Some (see_value x)) None p.1 }

abbrev given_form : Form WrittenGiven
given_form = recast given_pair spell_given (λ g. (g.path, g.value))

given_seen : (g : WrittenGiven) → see_pair (g.path, g.value) ≡ see_given g
given_seen g = elim g.value as (λ x. see_pair (g.path, x) ≡ see_given (record { path = g.path; value = x })) [ None ↦ refl | Some x ↦ refl ]

given_rule : {m : Aspect} {room : ℕ} → Rule m room given_form see_given given_at
unfolding given_at given_value_at
given_rule =
    recast_rule {g = given_pair} {see = see_pair} spell_given see_given (λ p. record { path = p.0; value = p.1 }) (λ g. (g.path, g.value)) (λ p. refl) (λ g. refl) given_seen
    (with_option_rule (is_mark marks.Equal) None (λ p v. record { path = p; value = v }) (λ x rest. refl) (λ p o s. path_stops p o (meets_other (kinds.Mark marks.Equal) (kinds.Mark marks.Dot) o refl s)) path_rule number_value_rule)

value_stops : (x : WrittenNumber) (o : Option Symbol) → meets (is_mark marks.Slash) o ≡ false → some_value_form.Stops x o
value_stops x o e = at x.below where
  at : (b : Option ℕ) → below_form.Stops b o
  at None = e
  at (Some d) = tt

-- what is neither a dot, nor an equals sign, nor a slash stops a given
given_stops : (g : WrittenGiven) (o : Option Symbol) → meets (is_mark marks.Dot) o ≡ false → meets (is_mark marks.Equal) o ≡ false → meets (is_mark marks.Slash) o ≡ false → given_form.Stops g o
given_stops g o dot equal slash = at g.value where
  at : (v : Option WrittenNumber) → given_pair.Stops (g.path, v) o
  at None = (equal, path_stops g.path o dot)
  at (Some x) = value_stops x o slash

free_given : Free given_form
free_given = record { fits = λ g M. at g.path g.value M } where
  at : (p : WrittenPath) (v : Option WrittenNumber) (M : ℕ) → given_pair.Fits (p, v) M
  at p None M = (free_path.fits p M, tt)
  at p (Some x) M = (free_path.fits p M, free_value.fits x M)

-- "given" given {"," given} ";"
abbrev some_givens_pair : Form (OneOrMore WrittenGiven × Unit {0})
some_givens_pair = after (kinds.Word words.Given) (both (separated_form marks.Comma given_form) (stop marks.Semicolon))

abbrev some_givens_form : Form (OneOrMore WrittenGiven)
some_givens_form = recast some_givens_pair spell_givens (λ gs. (gs, tt))

abbrev see_some_givens : OneOrMore WrittenGiven → List GivenPath
see_some_givens gs = map see_given (all_of gs)

comma_stops : (g : WrittenGiven) (o : Option Symbol) → meets (is_mark marks.Comma) o ≡ true → given_form.Stops g o
comma_stops g o s =
    given_stops g o (meets_other (kinds.Mark marks.Comma) (kinds.Mark marks.Dot) o refl s) (meets_other (kinds.Mark marks.Comma) (kinds.Mark marks.Equal) o refl s)
    (meets_other (kinds.Mark marks.Comma) (kinds.Mark marks.Slash) o refl s)

some_givens_rule : {m : Aspect} {room : ℕ} → Rule m room some_givens_form see_some_givens some_givens_at
unfolding some_givens_at
some_givens_rule =
    recast_rule {g = some_givens_pair} {see = λ p. see_some_givens p.0} spell_givens see_some_givens (λ p. p.0) (λ gs. (gs, tt)) (λ p. refl) (λ gs. refl) (λ gs. refl)
    (after_word words.Given
    (then_rule (λ gs u. see_some_givens gs) _ (separated_rule marks.Comma comma_stops given_rule) (λ gs. stop_rule marks.Semicolon (see_some_givens gs))
    (λ gs u rest s. separated_stops marks.Comma given_form _ (λ g. given_stops g _ refl refl refl) refl gs)))

-- ["given" given {"," given} ";"]
abbrev givens_form : Form (Option (OneOrMore WrittenGiven))
givens_form = optional some_givens_form (is_word words.Given)

givens_rule : {m : Aspect} {room : ℕ} → Rule m room givens_form (see_optional see_some_givens []) givens_at
unfolding givens_at
givens_rule = optional_rule (is_word words.Given) [] (λ gs rest. refl) some_givens_rule

-- "find" ends the givens
find_stops : (o : Option (OneOrMore WrittenGiven)) → givens_form.Stops o (Some (word words.Find))
find_stops None = refl
find_stops (Some gs) = tt

free_givens : Free givens_form
free_givens =
    free_optional (is_word words.Given) (free_recast spell_givens (λ gs. (gs, tt)) (free_after (kinds.Word words.Given) (free_both (free_separated marks.Comma free_given) (free_stop marks.Semicolon))))

-- ---- compute statements

abbrev Parts : Type 0
Parts = Named × (Option (OneOrMore WrittenGiven) × (OneOrMore WrittenPath × Unit {0}))

abbrev see_all : Parts → Compute
see_all p = record { name = p.0; givens = see_optional see_some_givens [] p.1.0; wants = map see_path (all_of p.1.1.0) }

abbrev wants_form : Form (OneOrMore WrittenPath × Unit {0})
wants_form = both paths_form (after (kinds.Mark marks.CloseRound) (stop marks.Semicolon))

abbrev parts_form : Form Parts
parts_form =
    after (kinds.Word words.Compute)
    (both name_form (after (kinds.Mark marks.Colon) (after (kinds.Mark marks.OpenRound) (both givens_form (after (kinds.Word words.Find) wants_form)))))

parts_rule : {m : Aspect} {room : ℕ} → Rule m room parts_form see_all compute_at
unfolding compute_at
parts_rule =
    after_word words.Compute
    (then_rule (λ n p. see_all (n, p)) _ name_rule
    (λ n. after_mark marks.Colon
    (after_mark marks.OpenRound
    (then_rule (λ gs p. see_all (n, (gs, p))) _ givens_rule
    (λ gs. after_word words.Find
    (then_rule (λ ws u. see_all (n, (gs, (ws, u)))) _ paths_rule (λ ws. after_mark marks.CloseRound (stop_rule marks.Semicolon (see_all (n, (gs, (ws, tt)))))) (λ ws u rest s. paths_stop ws _ refl refl)))
    (λ gs p rest s. find_stops gs))))
    (λ n p rest s. tt))

abbrev from_compute : WrittenCompute → Parts
from_compute c = (c.name, (c.givens, (c.wants, tt)))

compute_seen : (c : WrittenCompute) → see_all (from_compute c) ≡ see_compute c
compute_seen c =
    elim c.givens as (λ gs. see_all (c.name, (gs, (c.wants, tt))) ≡ see_compute (record { name = c.name; givens = gs; wants = c.wants })) [ None ↦ refl | Some gs ↦ refl ]

abbrev pub compute_form : Form WrittenCompute
compute_form = recast parts_form spell_compute from_compute

pub compute_rule : {m : Aspect} {room : ℕ} → Rule m room compute_form see_compute compute_at
compute_rule =
    recast_rule {g = parts_form} {see = see_all} spell_compute see_compute (λ p. record { name = p.0; givens = p.1.0; wants = p.1.1.0 }) from_compute (λ p. refl) (λ c. refl) compute_seen parts_rule

pub free_compute : Free compute_form
free_compute =
    free_recast spell_compute from_compute
    (free_after (kinds.Word words.Compute) (free_both free_name (free_after (kinds.Mark marks.Colon) (free_after (kinds.Mark marks.OpenRound)
    (free_both free_givens (free_after (kinds.Word words.Find) (free_both free_paths (free_after (kinds.Mark marks.CloseRound) (free_stop marks.Semicolon)))))))))
