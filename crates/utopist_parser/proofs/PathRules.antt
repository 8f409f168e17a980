-- The rules of names and paths.
use Rattle.std.proofs.Common.{◌≡◌, ℕ, false, List, [], ◌∷◌, map, Option, refl, ap}
use Rattle.utopist_lexer.specs.declared.mark.Mark.TheVariants as marks
use Rattle.utopist_lexer.specs.declared.token.Kind.TheVariants as kinds
use Rattle.utopist_syntax.specs.Named.{Named}
use Rattle.token_forms.specs.Symbols.{Symbol}
use Rattle.token_forms.specs.steps.Steps.{StepOf, meets}
use Rattle.token_forms.specs.steps.Single.{is_mark}
use Rattle.utopist_parser.specs.steps.Lists.{names_at, path_at, paths_at}
use Rattle.token_forms.specs.Lists.{OneOrMore}
use Rattle.utopist_parser.specs.Written.{WrittenPath}
use Rattle.token_forms.specs.Lists.{all_of}
use Rattle.utopist_parser.specs.FileSeen.{see_path}
use Rattle.token_forms.proofs.StepLaws.{Form, Aspect}
use Rattle.token_forms.proofs.Singles.{name_form}
use Rattle.token_forms.proofs.Rules.{Rule, name_rule, map_rule, recast_rule, separated_form, separated_stops, separated_rule}
use Rattle.token_forms.proofs.Meeting.{meets_other}

-- a rule with what it means said in other words
pub seen_rule : {X V : Type 0} {m : Aspect} {room : ℕ} {g : Form X} {see : X → V} {f : StepOf V} (see_c : X → V) → ((x : X) → see x ≡ see_c x) → Rule m room g see f → Rule m room g see_c f
seen_rule {g = g} see_c seen r = recast_rule {g = g} g.spell see_c (λ x. x) (λ x. x) (λ x. refl) (λ x. refl) seen r

same_names : (ns : List Named) → map (λ (n : Named). n) ns ≡ ns
same_names [] = refl
same_names (n ∷ ns) = ap (λ l. n ∷ l) (same_names ns)

-- Name {"," Name}
abbrev pub names_form : Form (OneOrMore Named)
names_form = separated_form marks.Comma name_form

pub names_rule : {m : Aspect} {room : ℕ} → Rule m room names_form all_of names_at
unfolding names_at
names_rule = seen_rule {g = names_form} {see = λ ns. map (λ n. n) (all_of ns)} all_of (λ ns. same_names (all_of ns)) (separated_rule marks.Comma (λ n o s. tt) name_rule)

-- path = Name {"." Name}
abbrev pub path_form : Form WrittenPath
path_form = separated_form marks.Dot name_form

pub path_rule : {m : Aspect} {room : ℕ} → Rule m room path_form see_path path_at
unfolding path_at
path_rule =
    map_rule (λ ns. record { parts = ns })
    (seen_rule {g = path_form} {see = λ ns. map (λ n. n) (all_of ns)} all_of (λ ns. same_names (all_of ns)) (separated_rule marks.Dot (λ n o s. tt) name_rule))

-- all but a dot stops a path
pub path_stops : (p : WrittenPath) (o : Option Symbol) → meets (is_mark marks.Dot) o ≡ false → path_form.Stops p o
path_stops p o e = separated_stops marks.Dot name_form o (λ n. tt) e p

-- path {"," path}
abbrev pub paths_form : Form (OneOrMore WrittenPath)
paths_form = separated_form marks.Comma path_form

pub paths_rule : {m : Aspect} {room : ℕ} → Rule m room paths_form (λ ps. map see_path (all_of ps)) paths_at
unfolding paths_at
paths_rule =
    separated_rule marks.Comma (λ p o s. path_stops p o (meets_other (kinds.Mark marks.Comma) (kinds.Mark marks.Dot) o refl s)) path_rule

-- neither a dot nor a comma stops paths
pub paths_stop : (ps : OneOrMore WrittenPath) (o : Option Symbol) → meets (is_mark marks.Dot) o ≡ false → meets (is_mark marks.Comma) o ≡ false → paths_form.Stops ps o
paths_stop ps o dot comma = separated_stops marks.Comma path_form o (λ p. path_stops p o dot) comma ps
