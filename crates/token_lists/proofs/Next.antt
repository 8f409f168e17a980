-- What comes next in a text.
use Rattle.std.proofs.Common.{◌≡◌, ◌≢◌, ℕ, false, List, [], ◌∷◌, ◌++◌, refl, sym, ap, subst, ◌∙◌, append_assoc, inl, inr, ⊎_elim}
use Rattle.priz_base.specs.declared.place.Place.{Place}
use Rattle.utopist_lexer.specs.declared.token.Kind.TheVariants as kinds
use Rattle.utopist_lexer.specs.Gap.{past_gap}
use Rattle.utopist_lexer.specs.Places.{first_place, place_behind, Stands}
use Rattle.utopist_lexer.specs.Faults.{Faulty}
use Rattle.utopist_lexer.specs.Scanning.{Scan}
use Rattle.token_lists.specs.Next.{HasNext, NextExists, BehindStands}
use Rattle.token_lists.proofs.Fronts.{front_exists}
use Rattle.token_lists.proofs.Gaps.{gap_end}

some_none : (c : ℕ) (cs : List ℕ) → c ∷ cs ≢ []
some_none c cs e = cc

at_front : (s : Scan) (cs before : List ℕ) → past_gap false s.left ≡ cs → s.whole ≡ before ++ cs → HasNext s
at_front s [] before e w = inr (inl (
  record { kind = kinds.End; text = []; place = place_behind first_place before },
  record { kind = refl; nothing = e; stays = refl; empty = refl; place = (before, w, refl) },
))
at_front s (c ∷ cs) before e w =
    let place : Place = place_behind first_place before in
    let stands : Stands s.whole (past_gap false s.left) place = subst (λ (l : List ℕ). Stands s.whole l place) (sym e) (before, w, refl) in
    ⊎_elim
    (λ t. inl (record { kind = t.kind; text = t.text; place = place }, t.rest, record { split = e ∙ t.split; place = stands; token = t.token }))
    (λ f. inr (inr (record { place = place; kind = f.0 }, record { stays = refl; some = subst (λ (l : List ℕ). l ≢ []) (sym e) (some_none c cs); place = stands; faulty = subst (Faulty f.0) (sym e) f.1 })))
    (front_exists c cs)

pub next_exists : (s : Scan) → NextExists s
next_exists s p r =
    let g = gap_end false s.left in
    at_front s (past_gap false s.left) (r.0 ++ g.0) refl (r.1 ∙ ap (λ (l : List ℕ). r.0 ++ l) g.1 ∙ sym (append_assoc r.0 g.0 (past_gap false s.left)))

pub stands_behind : (s : Scan) → BehindStands s
stands_behind s t after n =
    (place_behind first_place (n.place.0 ++ t.text), (n.place.0 ++ t.text, n.place.1 ∙ ap (λ (l : List ℕ). n.place.0 ++ l) n.split ∙ sym (append_assoc n.place.0 t.text after), refl))
