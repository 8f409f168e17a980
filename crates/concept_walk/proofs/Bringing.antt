-- What visits bring, one behind the other.
use Rattle.std.proofs.Common.{◌≡◌, List, [], ◌∷◌, ◌++◌, sym, ap, ◌∙◌, subst, append_assoc, append-nil}
use Rattle.std.specs.List.{flat_map}
use Rattle.std.proofs.lemmas.Grind.{flat_map-append}
use Rattle.concept_walk.specs.Visits.{Visit}
use Rattle.concept_walk.specs.declared.walk.Walk.{Walk}
use Rattle.concept_walk.specs.declared.found.Walked.{Walked}
use Rattle.concept_walk.specs.Walks.{whole_walk, AreFound}
use Rattle.concept_walk.specs.steps.Bringing.{AreNext, Bring}

module _ (w : Walk) where
  pub bring_none : (f : Walked) → Bring w [] f f
  bring_none f before rest are h = subst (λ (vs : List Visit). AreFound w vs f) (sym (append-nil before)) h

  pub bring_both :
      (vs us : List Visit) (old mid new : Walked)
      → Bring w vs old mid → Bring w us mid new → Bring w (vs ++ us) old new
  bring_both vs us old mid new first second before rest are h =
      let all : whole_walk w ≡ before ++ (vs ++ (us ++ rest)) = are ∙ ap (λ (xs : List Visit). before ++ xs) (append_assoc vs us rest) in
      subst (λ (xs : List Visit). AreFound w xs new) (append_assoc before vs us)
      (second (before ++ vs) rest (all ∙ sym (append_assoc before vs (us ++ rest))) (first before (us ++ rest) all h))

  pub next_front : (vs us : List Visit) (f : Walked) → AreNext w (vs ++ us) f → AreNext w vs f
  next_front vs us f n = record {
    before = n.before;
    rest = us ++ n.rest;
    are = n.are ∙ ap (λ (xs : List Visit). n.before ++ xs) (append_assoc vs us n.rest);
    found = n.found;
  }

  pub next_behind :
      (vs us : List Visit) (old mid : Walked)
      → AreNext w (vs ++ us) old → Bring w vs old mid → AreNext w us mid
  next_behind vs us old mid n first =
      let all : whole_walk w ≡ n.before ++ (vs ++ (us ++ n.rest)) = n.are ∙ ap (λ (xs : List Visit). n.before ++ xs) (append_assoc vs us n.rest) in
      record {
        before = n.before ++ vs;
        rest = n.rest;
        are = all ∙ sym (append_assoc n.before vs (us ++ n.rest));
        found = first n.before (us ++ n.rest) all n.found;
      }

  module _ {X : Type 0} (f : X → List Visit) where
    -- the visits of elements in the middle
    pub next_part :
        (items done now more : List X) (old mid : Walked) → items ≡ done ++ (now ++ more)
        → AreNext w (flat_map f items) old → Bring w (flat_map f done) old mid
        → AreNext w (flat_map f now) mid
    next_part items done now more old mid split n brought =
        let e : flat_map f items ≡ flat_map f done ++ (flat_map f now ++ flat_map f more) =
        ap (flat_map f) split ∙ flat_map-append f done (now ++ more)
        ∙ ap (λ (vs : List Visit). flat_map f done ++ vs) (flat_map-append f now more) in
        next_front (flat_map f now) (flat_map f more) mid
        (next_behind (flat_map f done) (flat_map f now ++ flat_map f more) old mid
        (subst (λ (vs : List Visit). AreNext w vs old) e n) brought)

    pub bring_part :
        (done now : List X) (old mid new : Walked)
        → Bring w (flat_map f done) old mid → Bring w (flat_map f now) mid new
        → Bring w (flat_map f (done ++ now)) old new
    bring_part done now old mid new first second =
        subst (λ (vs : List Visit). Bring w vs old new) (sym (flat_map-append f done now))
        (bring_both (flat_map f done) (flat_map f now) old mid new first second)
