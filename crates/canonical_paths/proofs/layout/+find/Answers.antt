use Rattle.std.proofs.Common.{◌≡◌, ◌∙◌, ap, sym, subst, refl, arith, ℕ, zero, suc, false, ◌-◌, length, take, drop, List, Option, Some, None, IfSome}
use Rattle.std.specs.Prelude.{◌==◌, Contains}
use Rattle.std.specs.Option.{option_copied}
use Rattle.canonical_paths.specs.declared.slot.Slot.{Slot}
use Rattle.canonical_paths.specs.steps.Layouts.{HasSlot}
use Rattle.canonical_paths.proofs.BlocksInside.{found_behind}
use Rattle.canonical_paths.proofs.FindingPaths.{none_empty, no_names, has_slot, is_component, has_layout, finds_rest, fits}
use Rattle.canonical_paths.specs.steps.Kinds.{IsKindBelow}
use Rattle.canonical_paths.proofs.JoinedSides.{kind_behind}
use Rattle.canonical_paths.proofs.layout.+find.Goals as goal

if_some : (r : Option Slot) (P Q : Slot → Type 0) → IfSome r P → ((s : Slot) → P s → Q s) → IfSome r Q
if_some (Some s) P Q h k = k s h
if_some None P Q h k = tt

not_empty : (n : ℕ) → false ≡ (n == 0) → n ≡ 0 → ⊥
not_empty zero e z = cc
not_empty (suc n) e z = omega arith

pub returns-clause-place : goal.returns-clause-place
returns-clause-place t c =
    λ w here.
    if_some c.behind.result _ _ c.behind.ensures.slot
    (λ r is.
    found_behind w c.args.layouts.now c.args.layout.now here c.args.path.now (take (length c.args.path.now - 1) (drop 1 c.args.path.now)) c.name-item.result _
    c.in-len1-up.len_at_least c.name-item.is refl c.in_ok-slot.slot
    (subst (λ (n : List ℕ). HasSlot c.args.layout.now n c.in_ok-slot.slot) c.text.ensures c.in_ok-slot.ensures.slot)
    c.in_ok-slot-2.field-0 c.in_ok-inside.inside.now c.in_ok-found.found r
    c.in_ok-slot-2.was
    (sym c.at.ensures ∙ ap option_copied c.in_ok-inside.was)
    (not_empty (length (take (length c.args.path.now - 1) (drop 1 c.args.path.now))) c.if-is_empty.ensures)
    c.in_ok-found.ensures.place
    is)

pub returns-in_default-clause-known : goal.returns-in_default-clause-known
returns-in_default-clause-known t c =
    λ w here all declared.
    absurd (none_empty w c.args.layouts.now c.args.layout.now here (subst (Contains w.paths) (no_names c.args.path.now c.in_default.len_below) declared))

pub returns-in_err-slot-clause-known : goal.returns-in_err-slot-clause-known
returns-in_err-slot-clause-known t c =
    λ w here all declared.
    absurd
    (has_slot w c.args.layouts.now c.args.layout.now here c.args.path.now (take (length c.args.path.now - 1) (drop 1 c.args.path.now)) c.name-item.result _
    c.in-len1-up.len_at_least c.name-item.is refl declared
    c.text.result.now c.slot.result c.text.ensures c.slot.ensures.known c.in_err-slot.was)

pub returns-in_err-slot-2-clause-known : goal.returns-in_err-slot-2-clause-known
returns-in_err-slot-2-clause-known t c =
    λ w here all declared.
    absurd
    (is_component w c.args.layouts.now c.args.layout.now here c.args.path.now (take (length c.args.path.now - 1) (drop 1 c.args.path.now)) c.name-item.result _
    c.in-len1-up.len_at_least c.name-item.is refl declared
    c.in_ok-slot.slot
    (subst (λ (n : List ℕ). HasSlot c.args.layout.now n c.in_ok-slot.slot) c.text.ensures c.in_ok-slot.ensures.slot)
    (not_empty (length (take (length c.args.path.now - 1) (drop 1 c.args.path.now))) c.if-is_empty.ensures)
    c.in_err-slot-2.was)

pub returns-in_err-inside-clause-known : goal.returns-in_err-inside-clause-known
returns-in_err-inside-clause-known t c =
    λ w here all declared.
    absurd
    (has_layout w c.args.layouts.now c.args.layout.now here c.args.path.now (take (length c.args.path.now - 1) (drop 1 c.args.path.now)) c.name-item.result _
    c.in-len1-up.len_at_least c.name-item.is refl declared
    c.in_ok-slot.slot
    (subst (λ (n : List ℕ). HasSlot c.args.layout.now n c.in_ok-slot.slot) c.text.ensures c.in_ok-slot.ensures.slot)
    (not_empty (length (take (length c.args.path.now - 1) (drop 1 c.args.path.now))) c.if-is_empty.ensures)
    c.in_ok-slot-2.field-0 c.in_ok-slot-2.was all (sym c.at.ensures ∙ ap option_copied c.in_err-inside.was))

pub returns-in_err-found-clause-known : goal.returns-in_err-found-clause-known
returns-in_err-found-clause-known t c =
    λ w here all declared.
    absurd
    (finds_rest w c.args.layouts.now c.args.layout.now here c.args.path.now (take (length c.args.path.now - 1) (drop 1 c.args.path.now)) c.name-item.result _
    c.in-len1-up.len_at_least c.name-item.is refl declared
    c.in_ok-slot.slot
    (subst (λ (n : List ℕ). HasSlot c.args.layout.now n c.in_ok-slot.slot) c.text.ensures c.in_ok-slot.ensures.slot)
    (not_empty (length (take (length c.args.path.now - 1) (drop 1 c.args.path.now))) c.if-is_empty.ensures)
    c.in_ok-slot-2.field-0 c.in_ok-inside.inside.now c.find.result c.in_ok-slot-2.was
    (sym c.at.ensures ∙ ap option_copied c.in_ok-inside.was) all c.find.ensures.known c.in_err-found.was)

pub returns-clause-known : goal.returns-clause-known
returns-clause-known t c =
    λ w here all declared.
    c.behind.ensures.fits
    (fits w c.args.layouts.now c.args.layout.now here c.args.path.now (take (length c.args.path.now - 1) (drop 1 c.args.path.now)) c.name-item.result _
    c.in-len1-up.len_at_least c.name-item.is refl declared
    c.in_ok-slot.slot
    (subst (λ (n : List ℕ). HasSlot c.args.layout.now n c.in_ok-slot.slot) c.text.ensures c.in_ok-slot.ensures.slot)
    (not_empty (length (take (length c.args.path.now - 1) (drop 1 c.args.path.now))) c.if-is_empty.ensures)
    c.in_ok-slot-2.field-0 c.in_ok-inside.inside.now c.in_ok-found.found c.in_ok-slot-2.was
    (sym c.at.ensures ∙ ap option_copied c.in_ok-inside.was) all c.in_ok-found.ensures.place)

pub returns-clause-kind : goal.returns-clause-kind
returns-clause-kind t c =
    λ types of kind e.
    if_some c.behind.result _ _ c.behind.ensures.slot
    (λ r is.
    subst (λ (o : Option ℕ). IsKindBelow types.names (length c.args.layouts.now) kind o) (sym is.1)
    (kind_behind types c.args.layouts.now c.args.layout.now of c.args.path.now (take (length c.args.path.now - 1) (drop 1 c.args.path.now)) c.name-item.result _
    c.in-len1-up.len_at_least c.name-item.is refl kind e c.in_ok-slot.slot
    (subst (λ (n : List ℕ). HasSlot c.args.layout.now n c.in_ok-slot.slot) c.text.ensures c.in_ok-slot.ensures.slot)
    (not_empty (length (take (length c.args.path.now - 1) (drop 1 c.args.path.now))) c.if-is_empty.ensures)
    c.in_ok-slot-2.field-0 c.in_ok-inside.inside.now c.in_ok-slot-2.was
    (sym c.at.ensures ∙ ap option_copied c.in_ok-inside.was)
    c.in_ok-found.found.concept
    c.in_ok-found.ensures.kind))
