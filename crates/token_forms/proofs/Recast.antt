-- Parts of another type with the same symbols keep the laws.
use Rattle.std.proofs.Common.{◌≡◌, ℕ, ◌≤◌, Option, List, ◌∷◌, ◌++◌, Ok, Err, sym, ap, subst, ◌∙◌}
use Rattle.token_forms.specs.Symbols.{Symbol}
use Rattle.token_forms.specs.steps.Steps.{Why, Unexpected, TooDeep, Miss, Reading, StepOf, next}
use Rattle.token_forms.proofs.StepLaws.{at_head, Form, Stuck, Further, Took, Blames, AgainAt, Laws, Aspect, again_only, all_laws, Keeps}

-- the same parts, of another type
abbrev pub recast : {X C : Type 0} → Form X → (C → List Symbol) → (C → X) → Form C
recast g spell from = record { spell = spell; Fits = λ c. g.Fits (from c); grows = λ c. g.grows (from c); Stops = λ c. g.Stops (from c); Enters = g.Enters }

module _ {X C V : Type 0} (g : Form X) (see : X → V) (spell : C → List Symbol) (see_c : C → V) (to : X → C) (from : C → X) (from_to : (x : X) → from (to x) ≡ x)
    (spelled : (c : C) → g.spell (from c) ≡ spell c) (seen : (c : C) → see (from c) ≡ see_c c) where
  abbrev there : Form C
  there = recast g spell from

  to_spelled : (x : X) → spell (to x) ≡ g.spell x
  to_spelled x = sym (spelled (to x)) ∙ ap g.spell (from_to x)

  recast_again : (f : StepOf V) (M : ℕ) → AgainAt g see f M → AgainAt there see_c f M
  recast_again f M a = record { again = λ c h rest s. ap (λ l. f M (l ++ rest)) (sym (spelled c)) ∙ a.again (from c) h rest s ∙ ap (λ (v : V). ok_at v rest) (seen c) } where
    ok_at : V → List Symbol → Reading V
    ok_at v rest = Ok (v, rest)

  module _ (f : StepOf V) (room : ℕ) (a : Laws g see f room) where
    recast_take : (ts : List Symbol) (v : V × List Symbol) → g.Enters (next ts) → f room ts ≡ Ok v → Took there see_c room ts v
    recast_take ts v n e =
        let t = a.take ts v n e in
        record {
          part = to t.part;
          seen = sym (seen (to t.part)) ∙ ap see (from_to t.part) ∙ t.seen;
          parts = t.parts ∙ ap (λ l. l ++ v.1) (sym (to_spelled t.part));
          fits = subst (λ x. g.Fits x room) (sym (from_to t.part)) t.fits;
          stops = subst (λ x. g.Stops x (next v.1)) (sym (from_to t.part)) t.stops;
        }

    recast_further : (why : Why) (front : List Symbol) (c : Symbol) → Further g why front c → Further there why front c
    recast_further Unexpected front c h = tt
    recast_further TooDeep front c h = (to h.0, h.1, to_spelled h.0 ∙ h.2, h.3, subst (λ x. g.Fits x h.3) (sym (from_to h.0)) h.4)

    recast_blames : (ts : List Symbol) (e : Miss) → g.Enters (next ts) → f room ts ≡ Err e → Blames there f room ts e
    recast_blames ts e n h =
        let b = a.blames ts e n h in
        record {
          front = b.front;
          wrong = b.wrong;
          split = b.split;
          size = b.size;
          begun = to b.begun;
          more = b.more;
          fits = subst (λ x. g.Fits x room) (sym (from_to b.begun)) b.fits;
          begins = to_spelled b.begun ∙ b.begins;
          stuck = b.stuck;
          further = at_head (Further g e.0 b.front) (Further there e.0 b.front) (λ c s. recast_further e.0 b.front c s) b.wrong b.further;
        }

    recast_laws : Laws there see_c f room
    recast_laws = record { again = λ M. recast_again f M (a.again M); take = recast_take; blames = recast_blames }

  pub recast_keeps : (m : Aspect) (f : StepOf V) (room : ℕ) → Keeps m g see f room → Keeps m (recast g spell from) see_c f room
  recast_keeps again_only f room a = recast_again f room a
  recast_keeps all_laws f room a = recast_laws f room a

-- ---- what fits and what stops, said in other words

-- the same parts, of which others fit, and which others stop
abbrev pub reform : {X : Type 0} → (g : Form X) → (Fits : X → ℕ → Type 0) → ((x : X) (m M : ℕ) → m ≤ M → Fits x m → Fits x M) → (X → Option Symbol → Type 0) → Form X
reform g Fits grows Stops = record { spell = g.spell; Fits = Fits; grows = grows; Stops = Stops; Enters = λ o. Unit {0} }

module _ {X V : Type 0} (g : Form X) (see : X → V) (Fits : X → ℕ → Type 0) (grows : (x : X) (m M : ℕ) → m ≤ M → Fits x m → Fits x M) (Stops : X → Option Symbol → Type 0)
    (to : (x : X) (M : ℕ) → Fits x M → g.Fits x M) (from : (x : X) (M : ℕ) → g.Fits x M → Fits x M) (to_stop : (x : X) (o : Option Symbol) → Stops x o → g.Stops x o) (from_stop : (x : X) (o : Option Symbol) → g.Stops x o → Stops x o)
    (enters : (o : Option Symbol) → g.Enters o) where
  abbrev other : Form X
  other = reform g Fits grows Stops

  reform_again : (f : StepOf V) (M : ℕ) → AgainAt g see f M → AgainAt other see f M
  reform_again f M a = record { again = λ x h rest s. a.again x (to x M h) rest (to_stop x _ s) }

  reform_laws : (f : StepOf V) (room : ℕ) → Laws g see f room → Laws other see f room
  reform_laws f room a = record {
    again = λ M. reform_again f M (a.again M);
    take = λ ts v n e. let t = a.take ts v (enters _) e in record { part = t.part; seen = t.seen; parts = t.parts; fits = from t.part room t.fits; stops = from_stop t.part _ t.stops };
    blames = λ ts e n h.
        let b = a.blames ts e (enters _) h in
        record {
          front = b.front;
          wrong = b.wrong;
          split = b.split;
          size = b.size;
          begun = b.begun;
          more = b.more;
          fits = from b.begun room b.fits;
          begins = b.begins;
          stuck = b.stuck;
          further = at_head (Further g e.0 b.front) (Further other e.0 b.front) (λ c s. same_further e.0 b.front c s) b.wrong b.further;
        };
  } where
    same_further : (why : Why) (front : List Symbol) (c : Symbol) → Further g why front c → Further other why front c
    same_further Unexpected front c h = tt
    same_further TooDeep front c h = (h.0, h.1, h.2, h.3, from h.0 h.3 h.4)

  pub reform_keeps : (m : Aspect) (f : StepOf V) (room : ℕ) → Keeps m g see f room → Keeps m (reform g Fits grows Stops) see f room
  reform_keeps again_only f room a = reform_again f room a
  reform_keeps all_laws f room a = reform_laws f room a

-- ---- the same step

module _ {X V : Type 0} (g : Form X) (see : X → V) (f h : StepOf V) (same : (M : ℕ) (ts : List Symbol) → f M ts ≡ h M ts) where
  same_again : (M : ℕ) → AgainAt g see f M → AgainAt g see h M
  same_again M a = record { again = λ x i rest s. sym (same M (g.spell x ++ rest)) ∙ a.again x i rest s }

  same_stuck : (room : ℕ) (why : Why) (front : List Symbol) (c : Symbol) → Stuck f room why front c → Stuck h room why front c
  same_stuck room why front c s = record { fails = λ M r more. sym (same M (front ++ (c ∷ more))) ∙ s.fails M r more }

  same_laws : (room : ℕ) → Laws g see f room → Laws g see h room
  same_laws room a = record {
    again = λ M. same_again M (a.again M);
    take = λ ts v n e. a.take ts v n (same room ts ∙ e);
    blames = λ ts e n i.
        let b = a.blames ts e n (same room ts ∙ i) in
        record {
          front = b.front;
          wrong = b.wrong;
          split = b.split;
          size = b.size;
          begun = b.begun;
          more = b.more;
          fits = b.fits;
          begins = b.begins;
          stuck = at_head (Stuck f room e.0 b.front) (Stuck h room e.0 b.front) (λ c s. same_stuck room e.0 b.front c s) b.wrong b.stuck;
          further = b.further;
        };
  }

  pub same_keeps : (m : Aspect) (room : ℕ) → Keeps m g see f room → Keeps m g see h room
  same_keeps again_only room a = same_again room a
  same_keeps all_laws room a = same_laws room a
