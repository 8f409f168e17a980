-- {part} keeps the laws, where the next symbol says whether a part begins.
use Rattle.std.proofs.Common.{◌≡◌, ℕ, zero, suc, ◌+◌, ◌≤◌, max, Bool, true, false, cond, List, [], ◌∷◌, ◌++◌, length, map, Option, Ok, Err, refl, sym, ap, subst, ◌∙◌, append_assoc, arith, inl, inr, length-append}
use Rattle.std.specs.Prelude.{◌⊎◌}
use Rattle.std.specs.List.{flat_map}
use Rattle.std.proofs.lemmas.List.{append-nil}
use Rattle.token_forms.specs.Symbols.{Symbol}
use Rattle.token_forms.specs.steps.Steps.{Why, Unexpected, TooDeep, Miss, Reading, StepOf, on_ok, next, meets, repeat_fuel, repeat_at}
use Rattle.token_forms.proofs.StepLaws.{Reaches, reaches_up, AtHead, at_head, Form, Stuck, Further, Took, Blames, AgainAt, Laws, Aspect, again_only, all_laws, Keeps, ok_is, then_ok, then_err, same_next}

-- what begins has a symbol
begins_some : (begins : Symbol → Bool) (ts : List Symbol) → meets begins (next ts) ≡ true → 1 ≤ length ts
begins_some begins [] e = absurd cc
begins_some begins (c ∷ cs) e = omega arith

-- what stops the last part, or S where there is none
abbrev pub LastStops : {X : Type 0} → Form X → (Option Symbol → Type 0) → List X → Option Symbol → Type 0
LastStops g S [] o = S o
LastStops g S (x ∷ xs) o = LastStops g (g.Stops x) xs o

module _ {X : Type 0} (g : Form X) (begins : Symbol → Bool) (S : Option Symbol → Type 0) where
  abbrev pub FitsAll : List X → ℕ → Type 0
  FitsAll [] M = Unit {0}
  FitsAll (x ∷ xs) M = g.Fits x M × FitsAll xs M

  pub fits_grow : (xs : List X) (m M : ℕ) → m ≤ M → FitsAll xs m → FitsAll xs M
  fits_grow [] m M h i = tt
  fits_grow (x ∷ xs) m M h i = (g.grows x m M h i.0, fits_grow xs m M h i.1)

  -- parts one after the other
  abbrev pub repeated : Form (List X)
  repeated = record { spell = flat_map g.spell; Fits = FitsAll; grows = fits_grow; Stops = λ xs o. (meets begins o ≡ false) × LastStops g S xs o; Enters = S }

-- what stops each part stops the last
pub last_stops : {X : Type 0} (g : Form X) (S : Option Symbol → Type 0) (o : Option Symbol) → ((x : X) → g.Stops x o) → (xs : List X) → S o → LastStops g S xs o
last_stops g S o all [] s = s
last_stops g S o all (x ∷ xs) s = last_stops g (g.Stops x) o all xs (all x)

module _ {X V : Type 0} (g : Form X) (see : X → V) (f : StepOf V) (begins : Symbol → Bool) (opens : (x : X) (more : List Symbol) → meets begins (next (g.spell x ++ more)) ≡ true)
    (goes : (x : X) (o : Option Symbol) → meets begins o ≡ true → g.Stops x o) where
  abbrev spelled : List X → List Symbol
  spelled = flat_map g.spell

  abbrev all : (Option Symbol → Type 0) → Form (List X)
  all S = repeated g begins S

  some_symbol : (x : X) → 1 ≤ length (g.spell x)
  some_symbol x = begins_some begins (g.spell x) (subst (λ l. meets begins (next l) ≡ true) (append-nil (g.spell x)) (opens x []))

  -- behind a part stands another one or what stops it
  behind_part : (x : X) (xs : List X) (rest : List Symbol) → LastStops g (g.Stops x) xs (next rest) → g.Stops x (next (spelled xs ++ rest))
  behind_part x [] rest s = s
  behind_part x (y ∷ ys) rest s = subst (λ l. g.Stops x (next l)) (sym (append_assoc (g.spell y) (spelled ys) rest)) (goes x _ (opens y (spelled ys ++ rest)))

  repeat_case : (b : Bool) (x : Reading (List V)) (v y : List V × List Symbol) → cond b x (Ok v) ≡ Ok y → ((b ≡ true) × (x ≡ Ok y)) ⊎ ((b ≡ false) × (v ≡ y))
  repeat_case true x v y e = inl (refl, e)
  repeat_case false x v y e = inr (refl, ok_is v y e)

  repeat_bad : (b : Bool) (x : Reading (List V)) (v : List V × List Symbol) (e : Miss) → cond b x (Ok v) ≡ Err e → (b ≡ true) × (x ≡ Err e)
  repeat_bad true x v e h = (refl, h)
  repeat_bad false x v e h = absurd cc

  repeat_again : (M : ℕ) → AgainAt g see f M → (S : Option Symbol → Type 0) (xs : List X) → (all S).Fits xs M → (rest : List Symbol) → meets begins (next rest) ≡ false → LastStops g S xs (next rest) → (k : ℕ) → length (spelled xs ++ rest) ≤ k
      → repeat_fuel begins (f M) k (spelled xs ++ rest) ≡ Ok (map see xs, rest)
  unfolding repeat_fuel
  repeat_again M a S [] h rest n s zero l = refl
  repeat_again M a S [] h rest n s (suc k) l = rw n refl
  repeat_again M a S (x ∷ xs) h rest n s zero l = absurd (omega (arith, l, some_symbol x, length-append (g.spell x ++ spelled xs) rest, length-append (g.spell x) (spelled xs)))
  repeat_again M a S (x ∷ xs) h rest n s (suc k) l =
      let same = append_assoc (g.spell x) (spelled xs) rest in
      let size : length ((g.spell x ++ spelled xs) ++ rest) ≡ length (g.spell x) + length (spelled xs ++ rest) = ap length same ∙ length-append (g.spell x) (spelled xs ++ rest) in
      rw (same, opens x (spelled xs ++ rest), a.again x h.0 (spelled xs ++ rest) (behind_part x xs rest s), repeat_again M a (g.Stops x) xs h.1 rest n s k (omega (arith, l, size, some_symbol x))) refl

  module _ (room : ℕ) (enters : (o : Option Symbol) → g.Enters o) (a : Laws g see f room) where
    repeat_take : (k : ℕ) (S : Option Symbol → Type 0) (ts : List Symbol) (v : List V × List Symbol) → length ts ≤ k → S (next ts) → repeat_fuel begins (f room) k ts ≡ Ok v → Took (all S) (map see) room ts v
    unfolding repeat_fuel
    repeat_take zero S [] v l s e = subst (λ w. Took (all S) (map see) room [] w) (ok_is ([], []) v e) (record { part = []; seen = refl; parts = refl; fits = tt; stops = (refl, s) })
    repeat_take zero S (c ∷ cs) v l s e = absurd (omega (arith, l))
    repeat_take (suc k) S ts v l s e =
        elim (repeat_case (meets begins (next ts)) _ ([], ts) v e) [
          | inl y ↦
              let x = then_ok (f room ts) (λ p. on_ok (repeat_fuel begins (f room) k p.1) (λ q. Ok (p.0 ∷ q.0, q.1))) v y.1 in
              let z = then_ok (repeat_fuel begins (f room) k x.0.1) (λ q. Ok (x.0.0 ∷ q.0, q.1)) v x.2 in
              let t = a.take ts x.0 (enters _) x.1 in
              let size : length ts ≡ length (g.spell t.part) + length x.0.1 = ap length t.parts ∙ length-append (g.spell t.part) x.0.1 in
              let u = repeat_take k (g.Stops t.part) x.0.1 z.0 (omega (arith, size, l, some_symbol t.part)) t.stops z.1 in
              let w = ok_is (x.0.0 ∷ z.0.0, z.0.1) v z.2 in
              subst (λ w. Took (all S) (map see) room ts w) w (record {
                part = t.part ∷ u.part;
                seen = λ i. t.seen i ∷ u.seen i;
                parts = t.parts ∙ ap (λ l. g.spell t.part ++ l) u.parts ∙ sym (append_assoc (g.spell t.part) (spelled u.part) z.0.1);
                fits = (t.fits, u.fits);
                stops = u.stops;
              })
          | inr n ↦ subst (λ w. Took (all S) (map see) room ts w) n.1 (record { part = []; seen = refl; parts = refl; fits = tt; stops = (n.0, s) })
        ]

    abbrev any : Form (List X)
    any = all (λ o. Unit {0})

    part_err : (k M : ℕ) (ts : List Symbol) (e : Miss) → meets begins (next ts) ≡ true → f M ts ≡ Err e → repeat_fuel begins (f M) (suc k) ts ≡ Err e
    unfolding repeat_fuel
    part_err k M ts e n h = rw (n, h) refl

    rest_err : (k M : ℕ) (ts : List Symbol) (v : V) (rest : List Symbol) (e : Miss) → meets begins (next ts) ≡ true → f M ts ≡ Ok (v, rest) → repeat_fuel begins (f M) k rest ≡ Err e → repeat_fuel begins (f M) (suc k) ts ≡ Err e
    unfolding repeat_fuel
    rest_err k M ts v rest e n h i = rw (n, h, i) refl

    -- stuck with any fuel that is enough
    record RepeatStuck (why : Why) (front : List Symbol) (c : Symbol) : Type 0 where
      fails : (M : ℕ) → Reaches why room M → (more : List Symbol) (k : ℕ) → length (front ++ (c ∷ more)) ≤ k → repeat_fuel begins (f M) k (front ++ (c ∷ more)) ≡ Err (why, suc (length more))

    record RepeatBlames (ts : List Symbol) (e : Miss) : Type 0 where
      front : List Symbol
      wrong : List Symbol
      split : ts ≡ front ++ wrong
      size : length wrong ≡ e.1
      begun : List X
      more : List Symbol
      fits : any.Fits begun room
      begins_so : spelled begun ≡ front ++ more
      stuck : AtHead wrong (RepeatStuck e.0 front)
      further : AtHead wrong (Further any e.0 front)

    -- a part that fails
    part_stuck : (why : Why) (front wrong : List Symbol) → meets begins (next (front ++ wrong)) ≡ true → AtHead wrong (Stuck f room why front) → AtHead wrong (RepeatStuck why front)
    part_stuck why front [] n s = tt
    part_stuck why front (c ∷ cs) n s = record { fails = λ M r more k l. on M r more k l } where
      on : (M : ℕ) → Reaches why room M → (more : List Symbol) (k : ℕ) → length (front ++ (c ∷ more)) ≤ k → repeat_fuel begins (f M) k (front ++ (c ∷ more)) ≡ Err (why, suc (length more))
      on M r more zero l = absurd (omega (arith, l, length-append front (c ∷ more)))
      on M r more (suc k) l = part_err k M (front ++ (c ∷ more)) (why, suc (length more)) (subst (λ o. meets begins o ≡ true) (same_next front c cs more) n) (s.fails M r more)

    part_further : (why : Why) (front : List Symbol) (c : Symbol) → Further g why front c → Further any why front c
    part_further Unexpected front c h = tt
    part_further TooDeep front c h = (h.0 ∷ [], h.1, append-nil (g.spell h.0) ∙ h.2, h.3, (h.4, tt))

    -- a part and then what fails
    rest_stuck : (x : X) (why : Why) (front wrong : List Symbol) → g.Fits x room → g.Stops x (next (front ++ wrong)) → AtHead wrong (RepeatStuck why front) → AtHead wrong (RepeatStuck why (g.spell x ++ front))
    rest_stuck x why front [] h s i = tt
    rest_stuck x why front (c ∷ cs) h s i = record { fails = λ M r more k l. on M r more k l } where
      on : (M : ℕ) → Reaches why room M → (more : List Symbol) (k : ℕ) → length ((g.spell x ++ front) ++ (c ∷ more)) ≤ k → repeat_fuel begins (f M) k ((g.spell x ++ front) ++ (c ∷ more)) ≡ Err (why, suc (length more))
      on M r more zero l = absurd (omega (arith, l, length-append (g.spell x ++ front) (c ∷ more)))
      on M r more (suc k) l =
          let same = append_assoc (g.spell x) front (c ∷ more) in
          let size : length ((g.spell x ++ front) ++ (c ∷ more)) ≡ length (g.spell x) + length (front ++ (c ∷ more)) = ap length same ∙ length-append (g.spell x) (front ++ (c ∷ more)) in
          let read = (a.again M).again x (g.grows x room M (reaches_up why room M r) h) (front ++ (c ∷ more)) (subst (g.Stops x) (same_next front c cs more) s) in
          ap (λ l. repeat_fuel begins (f M) (suc k) l) same ∙ rest_err k M (g.spell x ++ (front ++ (c ∷ more))) (see x) (front ++ (c ∷ more)) (why, suc (length more)) (opens x (front ++ (c ∷ more))) read (i.fails M r more k (omega (arith, l, size, some_symbol x)))

    rest_further : (x : X) → g.Fits x room → (why : Why) (front : List Symbol) (c : Symbol) → Further any why front c → Further any why (g.spell x ++ front) c
    rest_further x i Unexpected front c h = tt
    rest_further x i TooDeep front c h = (
      x ∷ h.0,
      h.1,
      ap (λ l. g.spell x ++ l) h.2 ∙ sym (append_assoc (g.spell x) front (c ∷ h.1)),
      max h.3 room,
      (g.grows x room (max h.3 room) (omega arith) i, any.grows h.0 h.3 (max h.3 room) (omega arith) h.4),
    )

    repeat_blames : (k : ℕ) (ts : List Symbol) (e : Miss) → length ts ≤ k → repeat_fuel begins (f room) k ts ≡ Err e → RepeatBlames ts e
    unfolding repeat_fuel
    repeat_blames zero ts e l h = absurd cc
    repeat_blames (suc k) ts e l h =
        let y = repeat_bad (meets begins (next ts)) _ ([], ts) e h in
        elim (then_err (f room ts) (λ p. on_ok (repeat_fuel begins (f room) k p.1) (λ q. Ok (p.0 ∷ q.0, q.1))) e y.1) [
          | inl bad ↦
              let b = a.blames ts e (enters _) bad in
              record {
                front = b.front;
                wrong = b.wrong;
                split = b.split;
                size = b.size;
                begun = b.begun ∷ [];
                more = b.more;
                fits = (b.fits, tt);
                begins_so = append-nil (g.spell b.begun) ∙ b.begins;
                stuck = part_stuck e.0 b.front b.wrong (subst (λ l. meets begins (next l) ≡ true) b.split y.0) b.stuck;
                further = at_head (Further g e.0 b.front) (Further any e.0 b.front) (λ c s. part_further e.0 b.front c s) b.wrong b.further;
              }
          | inr x ↦
              let t = a.take ts x.0 (enters _) x.1 in
              let size : length ts ≡ length (g.spell t.part) + length x.0.1 = ap length t.parts ∙ length-append (g.spell t.part) x.0.1 in
              elim (then_err (repeat_fuel begins (f room) k x.0.1) (λ q. Ok (x.0.0 ∷ q.0, q.1)) e x.2) [
                | inl bad ↦
                    let b = repeat_blames k x.0.1 e (omega (arith, size, l, some_symbol t.part)) bad in
                    record {
                      front = g.spell t.part ++ b.front;
                      wrong = b.wrong;
                      split = t.parts ∙ ap (λ l. g.spell t.part ++ l) b.split ∙ sym (append_assoc (g.spell t.part) b.front b.wrong);
                      size = b.size;
                      begun = t.part ∷ b.begun;
                      more = b.more;
                      fits = (t.fits, b.fits);
                      begins_so = ap (λ l. g.spell t.part ++ l) b.begins_so ∙ sym (append_assoc (g.spell t.part) b.front b.more);
                      stuck = rest_stuck t.part e.0 b.front b.wrong t.fits (subst (λ l. g.Stops t.part (next l)) b.split t.stops) b.stuck;
                      further = at_head (Further any e.0 b.front) (Further any e.0 (g.spell t.part ++ b.front)) (λ c s. rest_further t.part t.fits e.0 b.front c s) b.wrong b.further;
                    }
                | inr z ↦ absurd (let w = z.2 in cc)
              ]
        ]

    repeat_at_blames : (S : Option Symbol → Type 0) (ts : List Symbol) (e : Miss) → repeat_at begins f room ts ≡ Err e → Blames (all S) (repeat_at begins f) room ts e
    repeat_at_blames S ts e h =
        let b = repeat_blames (length ts) ts e (omega arith) h in
        record {
          front = b.front;
          wrong = b.wrong;
          split = b.split;
          size = b.size;
          begun = b.begun;
          more = b.more;
          fits = b.fits;
          begins = b.begins_so;
          stuck = at_head (RepeatStuck e.0 b.front) (Stuck (repeat_at begins f) room e.0 b.front) (λ c s. record { fails = λ M r more. s.fails M r more (length (b.front ++ (c ∷ more))) (omega arith) }) b.wrong b.stuck;
          further = at_head (Further any e.0 b.front) (Further (all S) e.0 b.front) (λ c s. same_further e.0 b.front c s) b.wrong b.further;
        } where
          same_further : (why : Why) (front : List Symbol) (c : Symbol) → Further any why front c → Further (all S) why front c
          same_further Unexpected front c h = tt
          same_further TooDeep front c h = h

  whole_again : (M : ℕ) (S : Option Symbol → Type 0) → AgainAt g see f M → AgainAt (all S) (map see) (repeat_at begins f) M
  whole_again M S a = record { again = λ xs h rest s. repeat_again M a S xs h rest s.0 s.1 (length (spelled xs ++ rest)) (omega arith) }

  pub repeat_keeps : (m : Aspect) (room : ℕ) (S : Option Symbol → Type 0) → ((o : Option Symbol) → g.Enters o) → Keeps m g see f room → Keeps m (repeated g begins S) (map see) (repeat_at begins f) room
  repeat_keeps again_only room S enters a = whole_again room S a
  repeat_keeps all_laws room S enters a = record {
    again = λ M. whole_again M S (a.again M);
    take = λ ts v s e. repeat_take room enters a (length ts) S ts v (omega arith) s e;
    blames = λ ts e s h. repeat_at_blames room enters a S ts e h;
  }
