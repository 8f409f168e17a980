use Rattle.std.proofs.Common.{◌≢◌, List, ℕ, Bor, ap, ◌∙◌, subst, sym}
use Rattle.std.specs.Prelude.{map}
use Rattle.std.specs.List.{AllPairs}
use Rattle.name_sets.proofs.Spelt.{differ_push, key_added}
use Rattle.name_sets.proofs.names.NameSet.add.Goals as goal

pub invariant_of-self-2 : goal.invariant_of-self-2
invariant_of-self-2 c =
    let fresh = rw (← c.self.view_is) at c.requires in
    let more = ap (map (λ (k : Bor (List ℕ)). k.now)) c.in_ok-insert.ensures.keys ∙ key_added (λ (k : Bor (List ℕ)). k.now) c.self.inside.set.keys c.args.name fresh in
    subst (AllPairs (λ x y. x ≢ y)) (sym more) (differ_push _ c.args.name.now c.self.invariant fresh)

pub returns-clause-ok : goal.returns-clause-ok
returns-clause-ok c =
    let fresh = rw (← c.self.view_is) at c.requires in
    rw (← c.self.view_is) (ap (map (λ (k : Bor (List ℕ)). k.now)) c.in_ok-insert.ensures.keys ∙ key_added (λ (k : Bor (List ℕ)). k.now) c.self.inside.set.keys c.args.name fresh)
