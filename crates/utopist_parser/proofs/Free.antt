-- Forms on which nothing nests: all their parts fit at any room.
use Rattle.std.proofs.Common.{ℕ, Bool, List, [], ◌∷◌, Option, Some, None, inl, inr}
use Rattle.std.specs.Prelude.{◌⊎◌}
use Rattle.utopist_lexer.specs.declared.mark.Mark.{Mark}
use Rattle.utopist_lexer.specs.declared.token.Kind.{Kind}
use Rattle.token_forms.specs.Symbols.{Symbol}
use Rattle.token_forms.specs.steps.Single.{is_mark}
use Rattle.token_forms.proofs.StepLaws.{Form}
use Rattle.token_forms.proofs.Sequence.{both}
use Rattle.token_forms.proofs.Choice.{either}
use Rattle.token_forms.proofs.Recast.{recast}
use Rattle.token_forms.proofs.Repeat.{FitsAll}
use Rattle.token_forms.proofs.Singles.{after}
use Rattle.token_forms.proofs.Rules.{stop, next_form, separated_form, optional}

pub record Free {X : Type 0} (g : Form X) : Type 0 where
  pub fits : (x : X) (M : ℕ) → g.Fits x M

pub free_after : {Y : Type 0} {d : Form Y} (k : Kind) → Free d → Free (after k d)
free_after k h = record { fits = λ y M. (tt, h.fits y M) }

pub free_stop : (k : Mark) → Free (stop k)
free_stop k = record { fits = λ u M. (tt, tt) }

pub free_both : {X Y : Type 0} {g : Form X} {d : Form Y} → Free g → Free d → Free (both g d)
free_both h i = record { fits = λ p M. (h.fits p.0 M, i.fits p.1 M) }

pub free_either : {X Y : Type 0} {g : Form X} {d : Form Y} → Free g → Free d → Free (either g d)
free_either {X} {Y} {g} {d} h i = record { fits = each } where
  each : (z : X ⊎ Y) (M : ℕ) → (either g d).Fits z M
  each (inl x) M = h.fits x M
  each (inr y) M = i.fits y M

free_all : {X : Type 0} (g : Form X) (begins : Symbol → Bool) (S : Option Symbol → Type 0) → Free g → (xs : List X) (M : ℕ) → FitsAll g begins S xs M
free_all g begins S h [] M = tt
free_all g begins S h (x ∷ xs) M = (h.fits x M, free_all g begins S h xs M)

pub free_separated : {X : Type 0} {g : Form X} (k : Mark) → Free g → Free (separated_form k g)
free_separated {X} {g} k h = record { fits = λ xs M. (h.fits xs.first M, free_all (next_form k g) (is_mark k) (g.Stops xs.first) (record { fits = λ y N. (tt, h.fits y N) }) xs.more M) }

pub free_optional : {X : Type 0} {g : Form X} (begins : Symbol → Bool) → Free g → Free (optional g begins)
free_optional {X} {g} begins h = record { fits = each } where
  each : (o : Option X) (M : ℕ) → (optional g begins).Fits o M
  each None M = tt
  each (Some x) M = h.fits x M

-- the same parts, of another type
pub free_recast : {X C : Type 0} {g : Form X} (spell : C → List Symbol) (from : C → X) → Free g → Free (recast g spell from)
free_recast spell from h = record { fits = λ c M. h.fits (from c) M }
