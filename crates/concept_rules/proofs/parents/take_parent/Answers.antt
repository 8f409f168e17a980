use Rattle.std.proofs.Common.{◌≡◌, List, ℕ, true, refl, ap, sym, subst, Ok, Err, Result, OnOk}
use Rattle.concept_rules.specs.Declarations.{is_among}
use Rattle.std.specs.Prelude.{Contains}
use Rattle.concept_rules.specs.Lineage.{lineage, concept_names}
use Rattle.concept_rules.specs.steps.Extent.{IsLine}
use Rattle.concept_rules.proofs.Types.{type_missing}
use Rattle.concept_rules.proofs.Steps.{parent_rules, parent_line}
use Rattle.concept_rules.proofs.parents.take_parent.Goals as goal

pub returns-in-Some-clause-rules : goal.returns-in-Some-clause-rules
returns-in-Some-clause-rules c = λ f cs at line.
    let w = c.in-Some.ensures.line in
    let found = at.lines.lines w.0 _ _ w.1 w.2 in
    let il = subst (λ t. IsLine f.all f.concept c.in-Some.line.now (lineage f.before t)) c.text.ensures found in
    let il2 = subst (λ (xs : List ℕ). IsLine f.all f.concept xs (lineage f.before c.args.parent.now.text)) (sym c.concepts.ensures.same) il in
    let known : is_among c.args.parent.now.text (concept_names f.before) ≡ true = (at.lines.known c.args.parent.now.text).1 (subst (Contains _) c.text.ensures (c.in-Some.ensures.found.0 refl)) in
    parent_rules f.all f.concept f.before cs c.args.parent.now _ il2 known c.take_line.result (c.take_line.ensures.rules f cs at line il2.below)

on_ok : {X E A B : Type 0} (r : Result X E) → (A → B) → OnOk r A → OnOk r B
on_ok (Ok x) f a = f a
on_ok (Err e) f a = tt

pub returns-in-Some-clause-line : goal.returns-in-Some-clause-line
returns-in-Some-clause-line c = on_ok c.take_line.result
    (λ taken f cs at line.
    let w = c.in-Some.ensures.line in
    let found = at.lines.lines w.0 _ _ w.1 w.2 in
    let il = subst (λ t. IsLine f.all f.concept c.in-Some.line.now (lineage f.before t)) c.text.ensures found in
    let il2 = subst (λ (xs : List ℕ). IsLine f.all f.concept xs (lineage f.before c.args.parent.now.text)) (sym c.concepts.ensures.same) il in
    parent_line f.all f.concept f.before cs c.args.parent.now _ il2 _ (taken f cs at line il2.below))
    c.take_line.ensures.line

pub returns-in-None-clause-rules : goal.returns-in-None-clause-rules
returns-in-None-clause-rules c = λ f cs at line.
    let none = type_missing f _ _ _ at c.args.parent.now.text _ c.text.ensures (λ h. let t = c.in-None.ensures.found.1 h in absurd (cc)) in
    rw none (ap Err (sym c.broken_at.ensures))
