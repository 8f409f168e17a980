use Rattle.std.proofs.Common.{ℕ, ◌<◌, sym, ap, ◌∙◌, arith}
use Rattle.equation_statements.proofs.Places.{place_in, few_places, no_entry, entry}
use Rattle.equation_statements.proofs.variables.Variables.place.Goals as goal

pub overflow_cast-result : goal.overflow_cast-result
overflow_cast-result c =
    omega (arith, c.len.ensures, few_places c.self.inside.list c.self.inside.places.items c.self.invariant)

pub returns-in-None : goal.returns-in-None
returns-in-None c =
    let vs = c.self.inside.list in
    let w = c.v.inside.0 in
    let lt : w < 1024 = omega (arith, c.v.view_is, c.requires) in
    let none = entry vs c.self.inside.places.items c.self.invariant w lt c.index.result.now c.index.ensures ∙ c.in-None.is in
    c.len.ensures
    ∙ sym (no_entry w vs none)
    ∙ ap (λ (u : ℕ). place_in u vs) c.v.view_is
    ∙ ap (place_in c.args.v) c.self.view_is
