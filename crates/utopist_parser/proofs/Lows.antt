-- The levels of expressions as forms, and the readers one level below.
use Rattle.std.proofs.Common.{◌≡◌, ℕ, zero, suc, Bool, true, false, List, ◌∷◌, ◌++◌, Option, Some, refl, inr}
use Rattle.std.specs.Prelude.{◌&&◌, None}
use Rattle.utopist_parser.specs.declared.breadth.Breadth.{Breadth}
use Rattle.utopist_parser.specs.declared.breadth.Breadth.TheVariants as breadth
use Rattle.token_forms.specs.Symbols.{Symbol}
use Rattle.token_forms.specs.steps.Steps.{StepOf, next, meets, choose_at, deeper_at}
use Rattle.utopist_parser.specs.Written.{Expression, Chain, Term, Factor}
use Rattle.utopist_parser.specs.ExprSymbols.{spell_expr, spell_chain, spell_term, spell_factor}
use Rattle.utopist_parser.specs.steps.ReadingExpr.{Nested, is_all, levels_within}
use Rattle.token_forms.proofs.StepLaws.{Form, AgainAt, Aspect, again_only, all_laws, Keeps}
use Rattle.token_forms.proofs.Recast.{reform, reform_keeps}
use Rattle.token_forms.proofs.Choice.{either, see_either, never_keeps}
use Rattle.utopist_parser.proofs.Levels.{level, below, IfRoom, Rounds, deep_keeps}
use Rattle.token_forms.proofs.Rules.{Rule, fitting_by}
use Rattle.utopist_parser.proofs.ExprFacts.{seen_factor, seen_term, seen_chain, seen_expr, AllowedFactor, AllowedTerm, AllowedChain, AllowedExpr, FactorStops, TermStops, ChainStops, ExprStops}

-- ---- forms

abbrev pub factor_form : Breadth → Form Factor
factor_form b = level spell_factor seen_factor (AllowedFactor b) FactorStops

abbrev pub term_form : Breadth → Form Term
term_form b = level spell_term seen_term (AllowedTerm b) TermStops

abbrev pub chain_form : Breadth → Form Chain
chain_form b = level spell_chain seen_chain (AllowedChain b) ChainStops

abbrev pub expr_form : Breadth → Form Expression
expr_form b = level spell_expr seen_expr (AllowedExpr b) ExprStops

abbrev pub low_factor_form : Breadth → Form Factor
low_factor_form b = below spell_factor seen_factor (AllowedFactor b) FactorStops

abbrev pub low_term_form : Breadth → Form Term
low_term_form b = below spell_term seen_term (AllowedTerm b) TermStops

abbrev pub low_chain_form : Breadth → Form Chain
low_chain_form b = below spell_chain seen_chain (AllowedChain b) ChainStops

abbrev pub low_expr_form : Breadth → Form Expression
low_expr_form b = below spell_expr seen_expr (AllowedExpr b) ExprStops

-- ---- readers

abbrev pub low_factor : Breadth → StepOf Nested
low_factor b M = (levels_within b M).factor

abbrev pub low_term : Breadth → StepOf Nested
low_term b M = (levels_within b M).term

abbrev pub low_chain : Breadth → StepOf Nested
low_chain b M = (levels_within b M).chain

abbrev pub low_expr : Breadth → StepOf Nested
low_expr b M = (levels_within b M).expr

-- their rules
pub record LowRules (m : Aspect) (room : ℕ) (b : Breadth) : Type 0 where
  pub factor : Rule m room (low_factor_form b) seen_factor (low_factor b)
  pub term : Rule m room (low_term_form b) seen_term (low_term b)
  pub chain : Rule m room (low_chain_form b) seen_chain (low_chain b)
  pub expr : Rule m room (low_expr_form b) seen_expr (low_expr b)

-- in the second round, those of the first at each room
abbrev pub RoundsOf : Aspect → Breadth → Type 0
RoundsOf again_only b = Unit {0}
RoundsOf all_laws b = (room : ℕ) → LowRules again_only (suc room) b

-- ---- a form that is one level deeper, or another

module _ {X V : Type 0} (b : Breadth) (g : Form X) (see : X → V) (f : StepOf V) (prod : (m : Aspect) (room : ℕ) → LowRules m room b → Rule m room g see f) (none : (x : X) → g.Fits x zero → ⊥) where
  rounds_of : (m : Aspect) → RoundsOf m b → Rounds m g see f
  rounds_of again_only r = tt
  rounds_of all_laws r = each where
    each : (M : ℕ) → AgainAt g see f M
    each zero = record { again = λ x h rest s. absurd (none x h) }
    each (suc M) = (prod again_only (suc M) (r M)).keeps

  if_room : (m : Aspect) (room : ℕ) → IfRoom room (LowRules m room b) → IfRoom room (Keeps m g see f room)
  if_room m zero low = tt
  if_room m (suc room) low = (prod m (suc room) low).keeps

  pub deep_rule : {Y : Type 0} {m : Aspect} {room : ℕ} {d : Form Y} {see_y : Y → V} {k : StepOf V} (begins : Symbol → Bool) → ((x : X) (rest : List Symbol) → meets begins (next (g.spell x ++ rest)) ≡ true)
      → ((y : Y) (rest : List Symbol) → d.Stops y (next rest) → meets begins (next (d.spell y ++ rest)) ≡ false) → ((o : Option Symbol) → g.Enters o)
      → ((c : Symbol) → begins c ≡ true → (x : X) × (more : List Symbol) × (g.spell x ≡ c ∷ more) × (M : ℕ) × g.Fits x M) → RoundsOf m b → IfRoom room (LowRules m room b) → Rule m room d see_y k
      → Rule m room (either g d) (see_either see see_y) (choose_at begins (deeper_at f) k)
  deep_rule {Y} {m} {room} {d} {see_y} {k} begins starts others enters opens rounds low s = record {
    keeps = deep_keeps g see d see_y begins f k starts others enters s.enters none opens m room (rounds_of m rounds) (if_room m room low) s.keeps s.some s.fits;
    some = inr s.some;
    fits = fitting_by m d (either g d) s.some (inr s.some) room (λ h. h) s.fits;
    enters = λ o. tt;
  }

-- ---- a form that arithmetic does not have

abbrev pub IsAll : Breadth → Type 0
IsAll breadth.All = Unit {0}
IsAll breadth.Arithmetic = ⊥

-- the form, where it is allowed
abbrev pub gate : {X : Type 0} → Breadth → Form X → Form X
gate b g = reform g (λ x M. IsAll b × g.Fits x M) (λ x m M h f. (f.0, g.grows x m M h f.1)) g.Stops

gate_rule : {X V : Type 0} {m : Aspect} {room : ℕ} {g : Form X} {see : X → V} {f : StepOf V} → Rule m room g see f → Rule m room (gate breadth.All g) see f
gate_rule {m = m} {room = room} {g = g} {see = see} {f = f} r = record {
  keeps = reform_keeps g see (λ x M. IsAll breadth.All × g.Fits x M) (λ x n M h i. (i.0, g.grows x n M h i.1)) g.Stops (λ x M h. h.1) (λ x M h. (tt, h)) (λ x o s. s) (λ x o s. s) r.enters m f room r.keeps;
  some = r.some;
  fits = fitting_by m g (gate breadth.All g) r.some r.some room (λ h. (tt, h)) r.fits;
  enters = λ o. tt;
}

-- whether a form begins that arithmetic does not have
abbrev pub begins_in : Breadth → (Symbol → Bool) → Symbol → Bool
begins_in b begins c = is_all b && begins c

pub gated_rule : {X Y V : Type 0} (b : Breadth) (g : Form X) (see : X → V) (f : StepOf V) → ((m : Aspect) (room : ℕ) → LowRules m room b → Rule m room g see f) → ((x : X) → g.Fits x zero → ⊥)
    → {m : Aspect} {room : ℕ} {d : Form Y} {see_y : Y → V} {k : StepOf V} (begins : Symbol → Bool) → ((x : X) (rest : List Symbol) → meets begins (next (g.spell x ++ rest)) ≡ true)
    → ((y : Y) (rest : List Symbol) → d.Stops y (next rest) → meets begins (next (d.spell y ++ rest)) ≡ false) → ((o : Option Symbol) → g.Enters o)
    → ((c : Symbol) → begins c ≡ true → (x : X) × (more : List Symbol) × (g.spell x ≡ c ∷ more) × (M : ℕ) × g.Fits x M) → RoundsOf m b → IfRoom room (LowRules m room b) → Rule m room d see_y k
    → Rule m room (either (gate b g) d) (see_either see see_y) (choose_at (begins_in b begins) (deeper_at f) k)
gated_rule breadth.All g see f prod none begins starts others enters opens rounds low s =
    deep_rule breadth.All (gate breadth.All g) see f (λ m room l. gate_rule (prod m room l)) (λ x h. none x h.1) begins starts others (λ o. tt) (λ c e. let o = opens c e in (o.0, o.1, o.2, o.3, (tt, o.4))) rounds low s
gated_rule breadth.Arithmetic g see f prod none {m} {room} {d} {see_y} {k} begins starts others enters opens rounds low s = record {
  keeps = never_keeps (gate breadth.Arithmetic g) see d see_y (begins_in breadth.Arithmetic begins) (deeper_at f) k never (λ x M h. h.0) s.enters m room s.keeps;
  some = inr s.some;
  fits = fitting_by m d (either (gate breadth.Arithmetic g) d) s.some (inr s.some) room (λ h. h) s.fits;
  enters = λ o. tt;
} where
  never : (o : Option Symbol) → meets (begins_in breadth.Arithmetic begins) o ≡ false
  never None = refl
  never (Some c) = refl
