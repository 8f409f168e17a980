use Rattle.std.proofs.Common.{◌≡◌, [], ℕ, List, sym, subst, arith}
use Rattle.std.proofs.lemmas.List.{nil_from_length}
use Rattle.concept_rules.specs.steps.DeclaredNames.{Binds}
use Rattle.concept_rules.proofs.BoundPaths.{binds_more, binds_none}
use Rattle.concept_rules.proofs.declarations.Declarations.bind.Goals as goal

pub returns-in_ok-insert : goal.returns-in_ok-insert
returns-in_ok-insert c = rw (← c.self.view_is) (binds_more _ _ c.args.item c.args.paths c.in_ok-insert.ensures.updates.0)

pub returns-else-len-gt0 : goal.returns-else-len-gt0
returns-else-len-gt0 c =
    let none : c.args.paths ≡ [] = nil_from_length c.args.paths (omega (arith, c.len.ensures, c.if-len-gt0.false)) in
    subst (λ (ps : List (List (List ℕ))). Binds c.args.self.now c.args.self.now c.args.item ps) (sym none) (binds_none c.args.self.now c.args.item)
