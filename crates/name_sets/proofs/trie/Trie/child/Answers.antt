use Rattle.std.proofs.Common.{sym, arith}
use Rattle.name_sets.proofs.Tries.{no_name, no_edge, edge_leads}
use Rattle.name_sets.proofs.Edges.{edge_found, edge_missing}
use Rattle.name_sets.proofs.trie.Trie.child.Goals as goal

pub returns-in_err-name-clause-missing : goal.returns-in_err-name-clause-missing
returns-in_err-name-clause-missing c =
    rw (c.from_residual.ensures, ← c.self.view_is) (no_name _ _ _ c.self.invariant _ c.args.name.now (λ there. absurd (cc (c.in_err-name.ensures.found.1 there))))

pub returns-in_err-place-clause-missing : goal.returns-in_err-place-clause-missing
returns-in_err-place-clause-missing c =
    let within = rw (← c.self.view_is) at c.requires in
    rw (c.from_residual-in_err-place.ensures, ← c.self.view_is) (no_edge _ _ _ c.self.invariant c.are_distinct.ensures c.args.node c.in_ok-name.name c.args.name.now within c.in_ok-name.ensures.place (edge_missing _ _ (sym c.in_err-place.ensures.found)))

pub overflow_add-result : goal.overflow_add-result
overflow_add-result c = omega (arith, c.in_ok-place.ensures.within, c.self.invariant.small)

pub returns-clause-found : goal.returns-clause-found
returns-clause-found c =
    rw (← c.self.view_is) (edge_leads _ _ _ c.self.invariant c.args.node c.in_ok-name.name c.in_ok-place.place c.args.name.now c.in_ok-name.ensures.place (edge_found _ _ _ (sym c.in_ok-place.ensures.index)))
