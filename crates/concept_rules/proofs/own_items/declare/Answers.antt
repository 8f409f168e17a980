use Rattle.std.proofs.Common.{◌≡◌, ◌∙◌, ap, sym, List, ℕ, [], ◌∷◌, Ok, Err, Result, OnOk, subst, arith}
use Rattle.utopist_syntax.specs.declared.item.Item.{Item}
use Rattle.utopist_syntax.specs.FileTree.{item_tree}
use Rattle.name_sets.specs.Paths.{texts}
use Rattle.concept_rules.specs.Declarations.{declared}
use Rattle.concept_rules.specs.steps.DeclaredNames.{AreNewNames, HasMore}
use Rattle.concept_rules.proofs.Declaring.{declares_one}
use Rattle.concept_rules.proofs.own_items.declare.Goals as goal

on_ok : {X E A B : Type 0} (r : Result X E) → (A → B) → OnOk r A → OnOk r B
on_ok (Ok x) f a = f a
on_ok (Err e) f a = tt

pub returns-in-Var-clause-names : goal.returns-in-Var-clause-names
returns-in-Var-clause-names c =
    let same : texts c.as_slice.result.now ≡ declared (item_tree c.args.item.now) = ap texts c.as_slice.ensures ∙ ap (λ (i : Item). declared (item_tree i)) (sym c.in-Var.is) in
    on_ok c.declare_all.result (λ h. subst (λ (ns : List (List ℕ)). AreNewNames c.args.declared.now c.args.declaration.concept ns → HasMore c.args.declared.now c.declare_all.new.declared c.args.declaration.concept c.args.declaration.item ns) same h) c.declare_all.ensures.names

pub returns-in-Rel-clause-names : goal.returns-in-Rel-clause-names
returns-in-Rel-clause-names c =
    let same : c.text.result.now ∷ [] ≡ declared (item_tree c.args.item.now) = ap (λ (t : List ℕ). t ∷ []) c.text.ensures ∙ ap (λ (i : Item). declared (item_tree i)) (sym c.in-Rel.is) in
    on_ok c.add.result
    (λ h. subst (λ (ns : List (List ℕ)). AreNewNames c.args.declared.now c.args.declaration.concept ns → HasMore c.args.declared.now c.add.new.self c.args.declaration.concept c.args.declaration.item ns) same
    (λ new. declares_one c.args.declared.now c.add.new.self c.args.declaration.concept c.args.declaration.item c.text.result.now (h (new.new 0 c.text.result.now (omega arith)))))
    c.add.ensures.name
