use Rattle.std.proofs.Common.{ap, ◌∙◌}
use Rattle.statement_set.proofs.Spelt.{bytes_of, name_added}
use Rattle.statement_set.proofs.names.Names.add.Goals as goal

pub returns-clause-ok : goal.returns-clause-ok
returns-clause-ok c =
    let fresh = rw (← c.self.view_is) at c.requires in
    let e = name_added c.self.inside.set.keys c.in_ok-text.text c.args.name.now c.in_ok-text.ensures.ok fresh in
    rw (← c.self.view_is) (ap bytes_of c.in_ok-insert.ensures.keys ∙ e)
