use Rattle.std.proofs.Common.{Some, None, Ok, Err, refl, ap}
use Rattle.std.specs.Prelude.{Option, Result}
use Rattle.priz_base.specs.declared.place.Place.{Place}
use Rattle.utopist_lexer.specs.declared.fault.LexFault.{LexFault}
use Rattle.token_forms.proofs.Standing.{is_next, place_is}
use Rattle.token_forms.proofs.reader.Reader.place.Goals as goal

-- a place that is found
abbrev found : Place → Option (Result Place LexFault)
found p = Some (Ok p)

pub returns-in-Some-Ok : goal.returns-in-Some-Ok
returns-in-Some-Ok c =
    place_is c.self.inside.lexer c.self.inside.front (Some (Ok c.in-Some-Ok.token)) c.args.self.now (found c.place.result) c.self.invariant c.self.view_is
    (is_next c.self.inside.front c.in-Some-Ok.field-0 (Ok c.in-Some-Ok.token) c.in-Some-Ok.is (rw c.in-Some-Ok.is at c.in-Some-Ok.field-0-is)) (ap (λ (p : Place). found p) c.place.ensures)

pub returns-in-Some-Err : goal.returns-in-Some-Err
returns-in-Some-Err c =
    place_is c.self.inside.lexer c.self.inside.front (Some (Err c.in-Some-Err.fault)) c.args.self.now (Some (Err c.in-Some-Err.fault)) c.self.invariant c.self.view_is
    (is_next c.self.inside.front c.in-Some-Err.field-0 (Err c.in-Some-Err.fault) c.in-Some-Err.is (rw c.in-Some-Err.is at c.in-Some-Err.field-0-is)) refl

pub returns-in-None : goal.returns-in-None
returns-in-None c = place_is c.self.inside.lexer c.self.inside.front None c.args.self.now None c.self.invariant c.self.view_is c.in-None.is refl
