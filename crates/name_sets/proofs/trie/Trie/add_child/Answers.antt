use Rattle.std.proofs.Common.{ap, ◌∙◌, [], ◌∷◌, arith}
use Rattle.std.proofs.lemmas.Result.{err_from_is_err_and}
use Rattle.name_sets.specs.steps.Edges.{paths_from}
use Rattle.name_sets.proofs.Tries.{trie_grown, paths_grown}
use Rattle.name_sets.proofs.Children.{with_child}
use Rattle.name_sets.proofs.trie.Trie.add_child.Goals as goal

pub invariant_of-self : goal.invariant_of-self
invariant_of-self c = trie_grown _ _ c.in_err-name.ensures.kept _ c.self.invariant

pub returns-in_err-name-clause-err : goal.returns-in_err-name-clause-err
returns-in_err-name-clause-err c =
    let e = err_from_is_err_and c.from_residual.result c.from_residual.ensures.1 in
    rw (e.1, ← c.self.view_is) (paths_grown _ _ c.in_err-name.ensures.kept _ c.self.invariant)

pub invariant_of-self-in_err-insert : goal.invariant_of-self-in_err-insert
invariant_of-self-in_err-insert c =
    rw c.in_err-insert.ensures.err (trie_grown _ _ c.in_ok-name.ensures.kept _ c.self.invariant)

pub returns-in_err-insert-clause-err : goal.returns-in_err-insert-clause-err
returns-in_err-insert-clause-err c =
    let e = err_from_is_err_and c.from_residual-in_err-insert.result c.from_residual-in_err-insert.ensures.1 in
    rw (e.1, ← c.self.view_is) (ap (paths_from c.number_of.new.names ([] ∷ [])) c.in_err-insert.ensures.err ∙ paths_grown _ _ c.in_ok-name.ensures.kept _ c.self.invariant)

pub invariant_of-self-2 : goal.invariant_of-self-2
invariant_of-self-2 c =
    let within = rw (← c.self.view_is) at c.requires.node in
    let fresh = rw (← c.self.view_is) at c.requires.fresh in
    let more = with_child _ _ c.in_ok-name.ensures.kept _ c.self.invariant c.args.node _ c.args.name.now within c.in_ok-name.ensures.place fresh c.insert.new.self.keys c.in_ok-insert.ensures.keys in
    more.trie (omega (arith, c.len.ensures.len, c.len.ensures.small))

pub returns-clause-number : goal.returns-clause-number
returns-clause-number c =
    let within = rw (← c.self.view_is) at c.requires.node in
    let fresh = rw (← c.self.view_is) at c.requires.fresh in
    let more = with_child _ _ c.in_ok-name.ensures.kept _ c.self.invariant c.args.node _ c.args.name.now within c.in_ok-name.ensures.place fresh c.insert.new.self.keys c.in_ok-insert.ensures.keys in
    rw (← c.self.view_is) (c.len.ensures.len ∙ more.count)

pub returns-clause-ok : goal.returns-clause-ok
returns-clause-ok c =
    let within = rw (← c.self.view_is) at c.requires.node in
    let fresh = rw (← c.self.view_is) at c.requires.fresh in
    let more = with_child _ _ c.in_ok-name.ensures.kept _ c.self.invariant c.args.node _ c.args.name.now within c.in_ok-name.ensures.place fresh c.insert.new.self.keys c.in_ok-insert.ensures.keys in
    rw (← c.self.view_is) more.ok
