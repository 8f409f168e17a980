use Rattle.std.proofs.Common.{◌≡◌, ◌∙◌, ap, sym, ℕ, List, Option, Some, None, IfSome}
use Rattle.std.specs.Prelude.{slice_get}
use Rattle.canonical_paths.specs.declared.slot.Slot.{Slot}
use Rattle.canonical_paths.specs.LaidOut.{LaidOut}
use Rattle.canonical_paths.specs.steps.Layouts.{HasSlot}
use Rattle.canonical_paths.proofs.layout.Layout.slot.Goals as goal

has_slot : (l : LaidOut) (name : List ℕ) (place : ℕ) (r : Option Slot) → slice_get l.names place ≡ Some name → r ≡ slice_get l.slots place → IfSome r (HasSlot l name)
has_slot l name place (Some s) e f = record { place = place; name_is = e; slot_is = sym f }
has_slot l name place None e f = tt

pub returns-clause-slot : goal.returns-clause-slot
returns-clause-slot c =
    has_slot c.args.self.now c.args.name.now c.in_ok-place.place c.copied.result (ap (λ (l : LaidOut). slice_get l.names c.in_ok-place.place) (sym c.self.view_is) ∙ c.in_ok-place.ensures.place)
    (c.copied.ensures ∙ c.at.ensures ∙ ap (λ slots. slice_get slots c.in_ok-place.place) (c.as_slice.ensures ∙ ap (λ (l : LaidOut). l.slots) c.self.view_is))
