use Rattle.std.proofs.Common.{◌≡◌, ℕ, zero, suc, ◌<◌, List, [], ◌∷◌, length, get_or, drop, find, nat_eq, Some, refl, ◌∙◌, arith}
use Rattle.concept_rules.specs.declared.declarations.Declaration.{Declaration}
use Rattle.concept_rules.proofs.Lines.{equal_itself}
use Rattle.concept_rules.proofs.declarations.first_among.Goals as goal

found_first :
    (ds : List Declaration) (i : ℕ) (d : Declaration) → i < length ds
    → find (λ e. nat_eq e.concept (get_or ds i d).concept) (drop i ds) ≡ Some (get_or ds i d)
found_first [] i d lt = absurd (omega arith)
found_first (x ∷ ds) zero d lt = rw (equal_itself x.concept) refl
found_first (x ∷ ds) (suc i) d lt = found_first ds i d (omega arith)

pub returns-then-has-clause-found : goal.returns-then-has-clause-found
returns-then-has-clause-found c =
    let h = c.has.ensures.0 c.if-has.true in
    (h, c.loop-declaration.invariant _ h ∙ found_first _ _ _ c.loop-declaration-test.true)
