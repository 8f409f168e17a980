use Rattle.std.proofs.Common.{◌≡◌, ℕ, true, false, ◌++◌, ◌∷◌, [], Option, None, Some, is_some, Bor, nat_eq, sym, ap, ◌∙◌, position, arith}
use Rattle.std.specs.HashMap.{get}
use Rattle.std.specs.Option.{option_copied}
use Rattle.name_sets.specs.declared.ends.PathEnds.TheInside.{Inside}
use Rattle.name_sets.proofs.Firsts.{places_new, places_known}
use Rattle.name_sets.proofs.ends.PathEnds.add.Goals as goal
use Rattle.name_sets.proofs.ends.PathEnds.add.Goals.{then-is_none+in_ok-insert, else-is_none}

no_value : (o : Option (Bor ℕ)) (r : Option ℕ) → option_copied o ≡ r → is_some o ≡ false → r ≡ None
no_value None r e none = sym e
no_value (Some x) r e none = absurd (cc)

some_value :
    (o : Option (Bor ℕ)) (r : Option ℕ) → option_copied o ≡ r → is_some o ≡ true
    → (i : ℕ) × (r ≡ Some i)
some_value None r e some = absurd (cc)
some_value (Some x) r e some = (x.now, sym e)

pub invariant_of-self-2 : goal.invariant_of-self-2
invariant_of-self-2 c =
    let was = get nat_eq c.self.inside.first in
    let xs = c.self.inside.nodes.items in
    let x = c.args.node in
    elim c.if-is_none.branch [
      | then-is_none+in_ok-insert w ↦ (λ n.
          let u = w.in_ok-insert.ensures.updates in
          let none = no_value c.get.result (was x) c.get.ensures.value w.if-is_none.ensures in
          let items : c.push.new.self.items ≡ xs ++ x ∷ [] = c.in_ok-push.ensures.items ∙ ap (λ (i : Inside). i.nodes.items ++ x ∷ []) w.self-inside-is ∙ ap (λ ys. ys ++ x ∷ []) c.reserve.ensures.items in
          ap (λ (i : Inside). get nat_eq i.first n) w.self-inside-is
          ∙ places_new was xs x c.self.invariant (get nat_eq w.insert.new.self) none (u.1 ∙ ap Some (omega (arith, c.len-place.ensures))) u.2 n
          ∙ ap (position (nat_eq n)) (sym items))
      | else-is_none w ↦ (λ n.
          let some = some_value c.get.result (was x) c.get.ensures.value w.if-is_none.ensures in
          let items : c.push.new.self.items ≡ xs ++ x ∷ [] = c.in_ok-push.ensures.items ∙ ap (λ (i : Inside). i.nodes.items ++ x ∷ []) w.self-inside-is ∙ ap (λ ys. ys ++ x ∷ []) c.reserve.ensures.items in
          ap (λ (i : Inside). get nat_eq i.first n) w.self-inside-is
          ∙ places_known was xs x c.self.invariant some.0 some.1 n
          ∙ ap (position (nat_eq n)) (sym items))
    ]
