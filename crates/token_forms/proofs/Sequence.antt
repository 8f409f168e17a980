-- One step after another keeps the laws.
use Rattle.std.proofs.Common.{◌≡◌, ℕ, max, List, [], ◌∷◌, ◌++◌, Option, Ok, Err, refl, sym, ap, subst, ◌∙◌, append_assoc, arith, inl, inr}
use Rattle.token_forms.specs.Symbols.{Symbol}
use Rattle.token_forms.specs.steps.Steps.{Why, Unexpected, TooDeep, Miss, StepOf, ◌>>=◌, give, next}
use Rattle.token_forms.proofs.StepLaws.{reaches_up, AtHead, at_head, Form, Stuck, Further, Took, Blames, AgainAt, Laws, Aspect, again_only, all_laws, Keeps, Fitting, ok_is, then_ok, then_err, same_next}

-- one part after another, of which what stops the second may depend on the first
abbrev pub both_by : {X Y : Type 0} → Form X → (X → Form Y) → Form (X × Y)
both_by g d = record {
  spell = λ p. g.spell p.0 ++ (d p.0).spell p.1;
  Fits = λ p M. g.Fits p.0 M × (d p.0).Fits p.1 M;
  grows = λ p m M h f. (g.grows p.0 m M h f.0, (d p.0).grows p.1 m M h f.1);
  Stops = λ p. (d p.0).Stops p.1;
  Enters = g.Enters;
}

-- one part after another
abbrev pub both : {X Y : Type 0} → Form X → Form Y → Form (X × Y)
both g d = both_by g (λ x. d)

module _ {X Y V W : Type 0} (g : Form X) (d : X → Form Y) (see : X → V) (see_y : X → Y → W) (f : StepOf V) (k : V → StepOf W)
    (enters : (x : X) (o : Option Symbol) → g.Stops x o → (d x).Enters o)
    (opens : (x : X) (y : Y) (rest : List Symbol) → (d x).Stops y (next rest) → g.Stops x (next ((d x).spell y ++ rest))) where
  abbrev pair : Form (X × Y)
  pair = both_by g d

  abbrev see_both : X × Y → W
  see_both p = see_y p.0 p.1

  abbrev both_at : StepOf W
  both_at = f >>= k

  then_again : (M : ℕ) → AgainAt g see f M → ((x : X) → AgainAt (d x) (see_y x) (k (see x)) M) → AgainAt pair see_both both_at M
  then_again M a b = record {
    again = λ p h rest s.
        ap (both_at M) (append_assoc (g.spell p.0) ((d p.0).spell p.1) rest)
        ∙ rw (a.again p.0 h.0 ((d p.0).spell p.1 ++ rest) (opens p.0 p.1 rest s)) ((b p.0).again p.1 h.1 rest s);
  }

  module _ (room : ℕ) (a : Laws g see f room) (b : (x : X) → Laws (d x) (see_y x) (k (see x)) room) (some : X → Y) (fits : (x : X) → (d x).Fits (some x) room) where
    then_take : (ts : List Symbol) (v : W × List Symbol) → g.Enters (next ts) → both_at room ts ≡ Ok v → Took pair see_both room ts v
    then_take ts v n e =
        let x = then_ok (f room ts) (λ p. k p.0 room p.1) v e in
        let t = a.take ts x.0 n x.1 in
        let on : k (see t.part) room x.0.1 ≡ Ok v = subst (λ w. k w room x.0.1 ≡ Ok v) (sym t.seen) x.2 in
        let u = (b t.part).take x.0.1 v (enters t.part _ t.stops) on in
        record {
          part = (t.part, u.part);
          seen = u.seen;
          parts = t.parts ∙ ap (λ l. g.spell t.part ++ l) u.parts ∙ sym (append_assoc (g.spell t.part) ((d t.part).spell u.part) v.1);
          fits = (t.fits, u.fits);
          stops = u.stops;
        }

    first_further : (why : Why) (front : List Symbol) (c : Symbol) → Further g why front c → Further pair why front c
    first_further Unexpected front c h = tt
    first_further TooDeep front c h =
        let y = (d h.0).spell (some h.0) in (
          (h.0, some h.0),
          h.1 ++ y,
          ap (λ l. l ++ y) h.2 ∙ append_assoc front (c ∷ h.1) y,
          max h.3 room,
          (g.grows h.0 h.3 (max h.3 room) (omega arith) h.4, (d h.0).grows (some h.0) room (max h.3 room) (omega arith) (fits h.0)),
        )

    first_blames : (ts : List Symbol) (e : Miss) → Blames g f room ts e → Blames pair both_at room ts e
    first_blames ts e h =
        let y = (d h.begun).spell (some h.begun) in
        record {
          front = h.front;
          wrong = h.wrong;
          split = h.split;
          size = h.size;
          begun = (h.begun, some h.begun);
          more = h.more ++ y;
          fits = (h.fits, fits h.begun);
          begins = ap (λ l. l ++ y) h.begins ∙ append_assoc h.front h.more y;
          stuck = at_head (Stuck f room e.0 h.front) (Stuck both_at room e.0 h.front) (λ c s. record { fails = λ M r more. rw (s.fails M r more) refl }) h.wrong h.stuck;
          further = at_head (Further g e.0 h.front) (Further pair e.0 h.front) (λ c s. first_further e.0 h.front c s) h.wrong h.further;
        }

    second_further : (x : X) → g.Fits x room → (why : Why) (front : List Symbol) (c : Symbol) → Further (d x) why front c → Further pair why (g.spell x ++ front) c
    second_further x i Unexpected front c h = tt
    second_further x i TooDeep front c h = (
      (x, h.0),
      h.1,
      ap (λ l. g.spell x ++ l) h.2 ∙ sym (append_assoc (g.spell x) front (c ∷ h.1)),
      max h.3 room,
      (g.grows x room (max h.3 room) (omega arith) i, (d x).grows h.0 h.3 (max h.3 room) (omega arith) h.4),
    )

    second_stuck : (x : X) (why : Why) (front wrong : List Symbol) → g.Fits x room → g.Stops x (next (front ++ wrong)) → AtHead wrong (Stuck (k (see x)) room why front) → AtHead wrong (Stuck both_at room why (g.spell x ++ front))
    second_stuck x why front [] h s i = tt
    second_stuck x why front (c ∷ cs) h s i = record {
      fails = λ M r more.
          ap (both_at M) (append_assoc (g.spell x) front (c ∷ more))
          ∙ rw ((a.again M).again x (g.grows x room M (reaches_up why room M r) h) (front ++ (c ∷ more)) (subst (g.Stops x) (same_next front c cs more) s)) (i.fails M r more);
    }

    then_laws : Laws pair see_both both_at room
    then_laws = record {
      again = λ M. then_again M (a.again M) (λ x. (b x).again M);
      take = then_take;
      blames = λ ts e n h.
          elim (then_err (f room ts) (λ p. k p.0 room p.1) e h) [
            | inl bad ↦ first_blames ts e (a.blames ts e n bad)
            | inr x ↦ second x.0 (a.take ts x.0 n x.1) x.2
          ];
    } where
      second : {ts : List Symbol} {e : Miss} (x : V × List Symbol) → Took g see room ts x → k x.0 room x.1 ≡ Err e → Blames pair both_at room ts e
      second {ts} {e} x t h =
          let on : k (see t.part) room x.1 ≡ Err e = subst (λ w. k w room x.1 ≡ Err e) (sym t.seen) h in
          let u = (b t.part).blames x.1 e (enters t.part _ t.stops) on in
          record {
            front = g.spell t.part ++ u.front;
            wrong = u.wrong;
            split = t.parts ∙ ap (λ l. g.spell t.part ++ l) u.split ∙ sym (append_assoc (g.spell t.part) u.front u.wrong);
            size = u.size;
            begun = (t.part, u.begun);
            more = u.more;
            fits = (t.fits, u.fits);
            begins = ap (λ l. g.spell t.part ++ l) u.begins ∙ sym (append_assoc (g.spell t.part) u.front u.more);
            stuck = second_stuck t.part e.0 u.front u.wrong t.fits (subst (λ l. g.Stops t.part (next l)) u.split t.stops) u.stuck;
            further = at_head (Further (d t.part) e.0 u.front) (Further pair e.0 (g.spell t.part ++ u.front)) (λ c s. second_further t.part t.fits e.0 u.front c s) u.wrong u.further;
          }

  pub then_keeps : (m : Aspect) (room : ℕ) → Keeps m g see f room → ((x : X) → Keeps m (d x) (see_y x) (k (see x)) room) → (some : X → Y) → ((x : X) → Fitting m (d x) (some x) room)
      → Keeps m (both_by g d) (λ p. see_y p.0 p.1) (f >>= k) room
  then_keeps again_only room a b some fits = then_again room a b
  then_keeps all_laws room a b some fits = then_laws room a b some fits

-- ---- the value of a step changed

module _ {X V W : Type 0} (g : Form X) (see : X → V) (h : V → W) (f : StepOf V) where
  abbrev map_at : StepOf W
  map_at = f >>= λ v. give (h v)

  map_again : (M : ℕ) → AgainAt g see f M → AgainAt g (λ x. h (see x)) map_at M
  map_again M a = record { again = λ x i rest s. rw (a.again x i rest s) refl }

  map_take : (room : ℕ) → Laws g see f room → (ts : List Symbol) (v : W × List Symbol) → g.Enters (next ts) → map_at room ts ≡ Ok v → Took g (λ x. h (see x)) room ts v
  map_take room a ts v n e =
      let x = then_ok (f room ts) (λ p. give (h p.0) room p.1) v e in
      let t = a.take ts x.0 n x.1 in
      let y = ok_is (h x.0.0, x.0.1) v x.2 in
      record {
        part = t.part;
        seen = ap h t.seen ∙ ap (λ (p : W × List Symbol). p.0) y;
        parts = t.parts ∙ ap (λ (p : W × List Symbol). g.spell t.part ++ p.1) y;
        fits = t.fits;
        stops = subst (λ (p : W × List Symbol). g.Stops t.part (next p.1)) y t.stops;
      }

  map_blames : (room : ℕ) → Laws g see f room → (ts : List Symbol) (e : Miss) → g.Enters (next ts) → map_at room ts ≡ Err e → Blames g map_at room ts e
  map_blames room a ts e n i =
      elim (then_err (f room ts) (λ p. give (h p.0) room p.1) e i) [
        | inl bad ↦ let b = a.blames ts e n bad in record {
          front = b.front;
          wrong = b.wrong;
          split = b.split;
          size = b.size;
          begun = b.begun;
          more = b.more;
          fits = b.fits;
          begins = b.begins;
          stuck = at_head (Stuck f room e.0 b.front) (Stuck map_at room e.0 b.front) (λ c s. record { fails = λ M r more. rw (s.fails M r more) refl }) b.wrong b.stuck;
          further = b.further;
        }
        | inr x ↦ absurd (let z = x.2 in cc)
      ]

  map_laws : (room : ℕ) → Laws g see f room → Laws g (λ x. h (see x)) map_at room
  map_laws room a = record { again = λ M. map_again M (a.again M); take = map_take room a; blames = map_blames room a }

  pub map_keeps : (m : Aspect) (room : ℕ) → Keeps m g see f room → Keeps m g (λ x. h (see x)) (f >>= λ v. give (h v)) room
  map_keeps again_only room a = map_again room a
  map_keeps all_laws room a = map_laws room a
