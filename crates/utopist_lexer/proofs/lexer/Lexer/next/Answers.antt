use Rattle.std.proofs.Common.{◌⊎◌, inl, inr, subst, ⊎_elim}
use Rattle.std.specs.Str.{chars}
use Rattle.std.proofs.lemmas.Str.{encodes-chars}
use Rattle.utopist_lexer.specs.Scanning.{Scan, tok, IsNext, IsEnd, IsFault}
use Rattle.utopist_lexer.proofs.Reached.{reached_more, front_reached, room_of, next_is, end_is, fault_is}
use Rattle.utopist_lexer.proofs.lexer.Lexer.next.Goals as goal

pub place_behind-self-inside-requires : goal.place_behind-self-inside-requires
place_behind-self-inside-requires c =
    room_of c.in-Ok.ensures.0 (front_reached c.self.inside.text.now c.self.inside.rest.now c.cut_gap.result.0.now c.cut_gap.result.1.now c.self.inside.place c.place_behind-place.result c.self.invariant c.cut_gap.ensures.parts c.cut_gap.ensures.rest c.place_behind-place.ensures)

pub invariant_of-self : goal.invariant_of-self
invariant_of-self c =
    reached_more c.self.inside.text.now c.cut_gap.result.1.now c.in-Ok.text.now c.in-Ok.rest.now c.place_behind-place.result c.place_behind-self-inside.result
    (front_reached c.self.inside.text.now c.self.inside.rest.now c.cut_gap.result.0.now c.cut_gap.result.1.now c.self.inside.place c.place_behind-place.result c.self.invariant c.cut_gap.ensures.parts c.cut_gap.ensures.rest c.place_behind-place.ensures)
    c.in-Ok.ensures.0 c.place_behind-self-inside.ensures

pub returns-in-Ok-clause-next : goal.returns-in-Ok-clause-next
returns-in-Ok-clause-next c =
    subst (λ (s : Scan). IsNext s (tok c.token_at.result) (chars c.in-Ok.rest.now) ⊎ IsEnd s (tok c.token_at.result) (chars c.in-Ok.rest.now)) c.self.view_is
    (⊎_elim
    (λ t. inl (next_is c.self.inside.text.now c.self.inside.rest.now c.cut_gap.result.0.now c.cut_gap.result.1.now c.self.inside.place c.place_behind-place.result c.self.invariant c.cut_gap.ensures.parts c.cut_gap.ensures.rest c.place_behind-place.ensures c.in-Ok.kind c.in-Ok.text.now c.in-Ok.rest.now c.in-Ok.ensures.0 (tok c.token_at.result) c.token_at.ensures.token t))
    (λ e. inr (end_is c.self.inside.text.now c.self.inside.rest.now c.cut_gap.result.0.now c.cut_gap.result.1.now c.self.inside.place c.place_behind-place.result c.self.invariant c.cut_gap.ensures.parts c.cut_gap.ensures.rest c.place_behind-place.ensures c.in-Ok.kind c.in-Ok.text.now c.in-Ok.rest.now c.in-Ok.ensures.0 (tok c.token_at.result) c.token_at.ensures.token e))
    c.in-Ok.ensures.1)

pub returns-in-Ok-clause-text : goal.returns-in-Ok-clause-text
returns-in-Ok-clause-text c = rw c.token_at.ensures.text (encodes-chars c.in-Ok.text.now c.in-Ok.ensures.0.front_utf8)

pub returns-in-Err-clause-next : goal.returns-in-Err-clause-next
returns-in-Err-clause-next c =
    subst (λ (s : Scan). IsFault s (record { place = c.place_behind-place.result; kind = c.in-Err.kind }) s.left) c.self.view_is
    (fault_is c.self.inside.text.now c.self.inside.rest.now c.cut_gap.result.0.now c.cut_gap.result.1.now c.self.inside.place c.place_behind-place.result c.self.invariant c.cut_gap.ensures.parts c.cut_gap.ensures.rest c.place_behind-place.ensures c.in-Err.kind c.in-Err.ensures)
