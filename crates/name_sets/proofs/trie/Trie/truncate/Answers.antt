use Rattle.std.proofs.Common.{◌≡◌, ◌+◌, ◌-◌, ◌≤◌, ◌∷◌, [], length, take, arith, sym, ap, subst, ◌∙◌}
use Rattle.name_sets.specs.steps.Edges.{paths_from, IsTrie}
use Rattle.name_sets.proofs.Tries.{trie_take, paths_take}
use Rattle.name_sets.proofs.trie.Trie.truncate.Goals as goal

pub invariant_of-self : goal.invariant_of-self
invariant_of-self c =
    let names = c.self.inside.names in
    let edges = c.self.inside.edges.keys in
    let k = c.args.nodes - 1 in
    let within = rw (← c.self.view_is) at c.requires.within in
    let le : k ≤ length edges = omega (arith, within, c.self.invariant.count, c.requires.some) in
    let same : paths_from names ([] ∷ []) (take k edges) ≡ take (k + 1) (paths_from names ([] ∷ []) edges) = paths_take names ([] ∷ []) edges k ∙ ap (λ n. take n (paths_from names ([] ∷ []) edges)) (omega arith) in
    rw c.truncate.ensures.keys (subst (IsTrie names (take k edges)) (sym same) (trie_take names edges _ c.self.invariant k le))

pub returns : goal.returns
returns c =
    let names = c.self.inside.names in
    let edges = c.self.inside.edges.keys in
    let number : 1 + (c.args.nodes - 1) ≡ c.args.nodes = omega (arith, c.requires.some) in
    rw (← c.self.view_is) (ap (paths_from names ([] ∷ [])) c.truncate.ensures.keys ∙ paths_take names ([] ∷ []) edges (c.args.nodes - 1) ∙ ap (λ n. take n (paths_from names ([] ∷ []) edges)) number)
