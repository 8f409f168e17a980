-- A first part and then operators with further parts, grouped from the left.
use Rattle.std.proofs.Common.{◌≡◌, ℕ, zero, suc, ◌+◌, ◌<◌, ◌≤◌, max, Bool, true, false, cond, List, [], ◌∷◌, ◌++◌, length, drop, Option, Some, None, Ok, Err, refl, sym, ap, subst, ◌∙◌, append_assoc, arith, inl, inr}
use Rattle.std.specs.Prelude.{nat_le, ◌⊎◌}
use Rattle.std.proofs.lemmas.List.{append-nil}
use Rattle.body_lang.specs.declared.op.Op.{Op}
use Rattle.token_forms.specs.Symbols.{Symbol}
use Rattle.token_forms.specs.declared.parse_stop.Why.{Why}
use Rattle.token_forms.specs.declared.parse_stop.Why.TheVariants.{Unexpected, TooDeep}
use Rattle.token_forms.specs.steps.Steps.{Miss, Reading, ReadOf, StepOf, on_ok, next}
use Rattle.utopist_parser.specs.steps.ReadingExpr.{Nested, op_over, one_more, more_at, group_at}
use Rattle.token_forms.proofs.StepLaws.{reaches_up, AtHead, at_head, Form, Stuck, Further, Took, Blames, AgainAt, Laws, Aspect, again_only, all_laws, Keeps, failed_is, ok_is, then_ok, then_err}
use Rattle.utopist_parser.proofs.Levels.{level, below}

-- a kind of group: its operators, what one part is, and what the whole is
pub record Grouping (S A O : Type 0) : Type 1 where
  pub find : Option Symbol → Option Op
  pub sign : O → Symbol
  pub op_of : O → Op
  pub found : (o : O) → find (Some (sign o)) ≡ Some (op_of o)
  pub nothing : find None ≡ None
  pub finds : (c : Symbol) (p : Op) → find (Some c) ≡ Some p → (o : O) × (c ≡ sign o) × (op_of o ≡ p)
  pub spell_part : S → List Symbol
  pub see_part : S → Nested
  pub AllowedPart : S → Type 0
  pub PartStops : S → Option Symbol → Type 0
  pub some_part : S
  pub some_allowed : AllowedPart some_part
  pub spell : A → List Symbol
  pub see : A → Nested
  pub Allowed : A → Type 0
  pub LastStops : A → Option Symbol → Type 0
  pub one : S → A
  pub join : A → O → S → A
  pub spell_one : (x : S) → spell (one x) ≡ spell_part x
  pub see_one : (x : S) → see (one x) ≡ see_part x
  pub spell_join : (a : A) (o : O) (x : S) → spell (join a o x) ≡ spell a ++ (sign o ∷ spell_part x)
  pub see_join : (a : A) (o : O) (x : S) → see (join a o x) ≡ op_over (op_of o) (see a) (see_part x)
  pub allow_one : (x : S) → AllowedPart x → Allowed (one x)
  pub one_allowed : (x : S) → Allowed (one x) → AllowedPart x
  pub allow_join : (a : A) (o : O) (x : S) → Allowed a → AllowedPart x → Allowed (join a o x)
  pub join_allowed : (a : A) (o : O) (x : S) → Allowed (join a o x) → Allowed a × AllowedPart x
  pub stops_one : (x : S) (t : Option Symbol) → PartStops x t → LastStops (one x) t
  pub one_stops : (x : S) (t : Option Symbol) → LastStops (one x) t → PartStops x t
  pub stops_join : (a : A) (o : O) (x : S) (t : Option Symbol) → PartStops x t → LastStops (join a o x) t
  pub join_stops : (a : A) (o : O) (x : S) (t : Option Symbol) → LastStops (join a o x) t → PartStops x t
  pub sign_stops : (a : A) (o : O) → LastStops a (Some (sign o))
  pub some_nest : (a : A) → 1 ≤ (see a).1
  pub induct : (P : A → Type 0) → ((x : S) → P (one x)) → ((a : A) (o : O) (x : S) → P a → P (join a o x)) → (a : A) → P a

pub le_true : (a b : ℕ) → a ≤ b → nat_le a b ≡ true
le_true a b h = grind (arith, h)

pub le_false : (a b : ℕ) → b < a → nat_le a b ≡ false
le_false a b h = grind (arith, h)

-- the forms of a group, of its parts, and of its parts one level below
abbrev pub part_form : {S A O : Type 0} → Grouping S A O → Form S
part_form g = level g.spell_part g.see_part g.AllowedPart g.PartStops

abbrev pub operand_form : {S A O : Type 0} → Grouping S A O → Form S
operand_form g = below g.spell_part g.see_part g.AllowedPart g.PartStops

abbrev pub group_form : {S A O : Type 0} → Grouping S A O → Form A
group_form g = level g.spell g.see g.Allowed (λ a t. g.LastStops a t × (g.find t ≡ None))

-- ---- read again

module _ {S A O : Type 0} (g : Grouping S A O) (first operand : StepOf Nested) (room : ℕ) (first_again : AgainAt (part_form g) g.see_part first room) (operand_again : AgainAt (operand_form g) g.see_part operand room) where
  abbrev whole_at : ReadOf Nested
  whole_at = group_at g.find first operand room

  -- the reading of all comes to where the group is read
  pub record Comes (a : A) (rest : List Symbol) : Type 0 where
    pub left : ℕ
    pub enough : room < left + (g.see a).1
    pub same : whole_at (g.spell a ++ rest) ≡ more_at g.find (operand room) room left (g.see a) rest

  step_on : (left : ℕ) (a : A) (o : O) (x : S) (rest : List Symbol) → (g.see a).1 ≤ room → (g.see_part x).1 ≤ room → g.AllowedPart x → g.PartStops x (next rest) →
      more_at g.find (operand room) room (suc left) (g.see a) (g.sign o ∷ (g.spell_part x ++ rest)) ≡ more_at g.find (operand room) room left (g.see (g.join a o x)) rest
  unfolding more_at
  step_on left a o x rest h i n s = rw (g.found o, le_true _ _ h, operand_again.again x (i, n) rest s, g.see_join a o x) refl

  abbrev pub Fit : A → Type 0
  Fit a = ((g.see a).1 ≤ suc room) × g.Allowed a

  comes_one : (x : S) → Fit (g.one x) → (rest : List Symbol) → g.LastStops (g.one x) (next rest) → Comes (g.one x) rest
  comes_one x h rest s = record {
    left = room;
    enough = let n = g.some_nest (g.one x) in omega (arith, n);
    same = rw (g.spell_one x, first_again.again x (subst (λ (v : Nested). v.1 ≤ suc room) (g.see_one x) h.0, g.one_allowed x h.1) rest (g.one_stops x _ s), g.see_one x) refl;
  }

  comes_join : (a : A) (o : O) (x : S) → (Fit a → (rest : List Symbol) → g.LastStops a (next rest) → Comes a rest) → Fit (g.join a o x) → (rest : List Symbol) → g.LastStops (g.join a o x) (next rest) → Comes (g.join a o x) rest
  comes_join a o x ih h rest s =
      let k : suc (max (g.see a).1 (g.see_part x).1) ≤ suc room = subst (λ (v : Nested). v.1 ≤ suc room) (g.see_join a o x) h.0 in
      let n = g.join_allowed a o x h.1 in
      let c = ih (omega (arith, k), n.0) (g.sign o ∷ (g.spell_part x ++ rest)) (g.sign_stops a o) in
      go c.left c.enough (omega (arith, k)) (omega (arith, k)) n.1 c.same where
        go : (left : ℕ) → room < left + (g.see a).1 → (g.see a).1 ≤ room → (g.see_part x).1 ≤ room → g.AllowedPart x → whole_at (g.spell a ++ (g.sign o ∷ (g.spell_part x ++ rest))) ≡ more_at g.find (operand room) room left (g.see a) (g.sign o ∷ (g.spell_part x ++ rest)) → Comes (g.join a o x) rest
        go zero e i j n same = absurd (omega (arith, e, i))
        go (suc left) e i j n same = record {
          left = left;
          enough = rw (g.see_join a o x) (omega (arith, e));
          same = ap whole_at (ap (λ l. l ++ rest) (g.spell_join a o x) ∙ append_assoc (g.spell a) (g.sign o ∷ g.spell_part x) rest) ∙ same ∙ step_on left a o x rest i j n (g.join_stops a o x _ s);
        }

  pub comes : (a : A) → Fit a → (rest : List Symbol) → g.LastStops a (next rest) → Comes a rest
  comes = g.induct (λ a. Fit a → (rest : List Symbol) → g.LastStops a (next rest) → Comes a rest) comes_one comes_join

  ends : (left : ℕ) (v : Nested) (rest : List Symbol) → g.find (next rest) ≡ None → more_at g.find (operand room) room left v rest ≡ Ok (v, rest)
  unfolding more_at
  ends zero v rest e = rw e refl
  ends (suc left) v rest e = rw e refl

  pub group_again : AgainAt (group_form g) g.see (group_at g.find first operand) room
  group_again = record { again = λ a h rest s. let c = comes a h rest s.0 in c.same ∙ ends c.left (g.see a) rest s.1 }

-- ---- what is read is spelled

guard_ok : (a b : ℕ) (x : Reading Nested) (d : Miss) (y : Nested × List Symbol) → cond (nat_le a b) x (Err d) ≡ Ok y → (a ≤ b) × (x ≡ Ok y)
guard_ok a b x d y e = go (nat_le a b) refl e where
  go : (t : Bool) → nat_le a b ≡ t → cond t x (Err d) ≡ Ok y → (a ≤ b) × (x ≡ Ok y)
  go true i e = (grind (arith, i), e)
  go false i e = absurd cc

abbrev done : Nested × List Symbol → Reading Nested
done x = Ok x

one_more_ok : (o : Option Op) (room : ℕ) (v : Nested) (ts : List Symbol) (go_on : Op → Reading Nested) (y : Nested × List Symbol) → one_more o room v ts go_on ≡ Ok y →
    ((o ≡ None) × (done (v, ts) ≡ Ok y)) ⊎ ((p : Op) × (o ≡ Some p) × (v.1 ≤ room) × (go_on p ≡ Ok y))
one_more_ok None room v ts go_on y e = inl (refl, e)
one_more_ok (Some p) room v ts go_on y e = let h = guard_ok v.1 room (go_on p) (TooDeep, length ts) y e in inr (p, refl, h.0, h.1)

guard_err : (a b : ℕ) (x : Reading Nested) (d e : Miss) → cond (nat_le a b) x (Err d) ≡ Err e → ((b < a) × (d ≡ e)) ⊎ ((a ≤ b) × (x ≡ Err e))
guard_err a b x d e h = go (nat_le a b) refl h where
  go : (t : Bool) → nat_le a b ≡ t → cond t x (Err d) ≡ Err e → ((b < a) × (d ≡ e)) ⊎ ((a ≤ b) × (x ≡ Err e))
  go true i h = inr (grind (arith, i), h)
  go false i h = inl (grind (arith, i), failed_is Nested d e h)

one_more_err : (o : Option Op) (room : ℕ) (v : Nested) (ts : List Symbol) (go_on : Op → Reading Nested) (e : Miss) → one_more o room v ts go_on ≡ Err e →
    (p : Op) × (o ≡ Some p) × (((room < v.1) × ((TooDeep, length ts) ≡ e)) ⊎ ((v.1 ≤ room) × (go_on p ≡ Err e)))
one_more_err None room v ts go_on e h = absurd cc
one_more_err (Some p) room v ts go_on e h = (p, refl, guard_err v.1 room (go_on p) (TooDeep, length ts) e h)

module _ {S A O : Type 0} (g : Grouping S A O) where
  at_sign : (ts : List Symbol) (p : Op) → g.find (next ts) ≡ Some p → (o : O) × (cs : List Symbol) × (ts ≡ g.sign o ∷ cs) × (g.op_of o ≡ p)
  at_sign [] p e = absurd (none_some p (sym g.nothing ∙ e)) where
    none_some : (q : Op) → None ≡ Some q → ⊥
    none_some q i = cc
  at_sign (c ∷ cs) p e = let h = g.finds c p e in (h.0, cs, ap (λ x. x ∷ cs) h.1, h.2)

  -- one more part
  joins : (a : A) (o : O) (x : S) (ts cs rest : List Symbol) → ts ≡ g.sign o ∷ cs → cs ≡ g.spell_part x ++ rest → g.spell a ++ ts ≡ g.spell (g.join a o x) ++ rest
  joins a o x ts cs rest e i =
      ap (λ l. g.spell a ++ l) (e ∙ ap (λ l. g.sign o ∷ l) i) ∙ sym (append_assoc (g.spell a) (g.sign o ∷ g.spell_part x) rest) ∙ ap (λ l. l ++ rest) (sym (g.spell_join a o x))

  joins_seen : (a : A) (o : O) (x : S) (p : Op) (v : Nested) → g.op_of o ≡ p → g.see_part x ≡ v → op_over p (g.see a) v ≡ g.see (g.join a o x)
  joins_seen a o x p v e i = ap (λ q. op_over q (g.see a) v) (sym e) ∙ ap (λ w. op_over (g.op_of o) (g.see a) w) (sym i) ∙ sym (g.see_join a o x)

  joins_within : (a : A) (o : O) (x : S) (room : ℕ) → (g.see a).1 ≤ room → (g.see_part x).1 ≤ room → (g.see (g.join a o x)).1 ≤ suc room
  joins_within a o x room h i = subst (λ (v : Nested). v.1 ≤ suc room) (sym (g.see_join a o x)) (let m : suc (max (g.see a).1 (g.see_part x).1) ≤ suc room = omega (arith, h, i) in m)

  one_within : (x : S) (room : ℕ) → (g.see_part x).1 ≤ suc room → (g.see (g.one x)).1 ≤ suc room
  one_within x room h = subst (λ (w : Nested). w.1 ≤ suc room) (sym (g.see_one x)) h

module _ {S A O : Type 0} (g : Grouping S A O) (first operand : StepOf Nested) (room : ℕ) (a_first : Laws (part_form g) g.see_part first room) (operand_again : (M : ℕ) → AgainAt (operand_form g) g.see_part operand M) (a_operand : (r : ℕ) → room ≡ suc r → Laws (operand_form g) g.see_part operand room) where
  abbrev Group : StepOf Nested
  Group = group_at g.find first operand

  abbrev Whole : List Symbol → Nested × List Symbol → Type 0
  Whole ts v = Took (group_form g) g.see room ts v

  -- an operand is read only where there is room for one
  operand_laws : (a : A) → (g.see a).1 ≤ room → Laws (operand_form g) g.see_part operand room
  operand_laws a h = at room refl where
    at : (r : ℕ) → room ≡ r → Laws (operand_form g) g.see_part operand room
    at zero e = absurd (let n = g.some_nest a in omega (arith, n, h, e))
    at (suc r) e = a_operand r e

  ends_here : (a : A) (ts : List Symbol) (v : Nested × List Symbol) → (g.see a).1 ≤ suc room → g.Allowed a → g.LastStops a (next ts) → g.find (next ts) ≡ None → done (g.see a, ts) ≡ Ok v → Whole (g.spell a ++ ts) v
  ends_here a ts v h n s none e = subst (λ y. Whole (g.spell a ++ ts) y) (ok_is _ v e) (record { part = a; seen = refl; parts = refl; fits = (h, n); stops = (s, none) })

  more_take : (left : ℕ) (a : A) (ts : List Symbol) (v : Nested × List Symbol) → (g.see a).1 ≤ suc room → g.Allowed a → g.LastStops a (next ts) → more_at g.find (operand room) room left (g.see a) ts ≡ Ok v → Whole (g.spell a ++ ts) v
  unfolding more_at
  more_take zero a ts v h n s e =
      elim (one_more_ok (g.find (next ts)) room (g.see a) ts (λ o. Err (TooDeep, length ts)) v e) [
        | inl y ↦ ends_here a ts v h n s y.0 y.1
        | inr m ↦ absurd (let z = m.3 in cc)
      ]
  more_take (suc left) a ts v h n s e =
      elim (one_more_ok (g.find (next ts)) room (g.see a) ts (λ o. on_ok (operand room (drop 1 ts)) (λ x. more_at g.find (operand room) room left (op_over o (g.see a) x.0) x.1)) v e) [
        | inl y ↦ ends_here a ts v h n s y.0 y.1
        | inr m ↦
            let o = at_sign g ts m.0 m.1 in
            let b = then_ok (operand room (drop 1 ts)) (λ x. more_at g.find (operand room) room left (op_over m.0 (g.see a) x.0) x.1) v m.3 in
            let t = (operand_laws a m.2).take (drop 1 ts) b.0 tt b.1 in
            let cs : o.1 ≡ g.spell_part t.part ++ b.0.1 = sym (ap (drop 1) o.2) ∙ t.parts in
            let on : more_at g.find (operand room) room left (g.see (g.join a o.0 t.part)) b.0.1 ≡ Ok v = subst (λ w. more_at g.find (operand room) room left w b.0.1 ≡ Ok v) (joins_seen g a o.0 t.part m.0 b.0.0 o.3 t.seen) b.2 in
            subst (λ l. Whole l v) (sym (joins g a o.0 t.part ts o.1 b.0.1 o.2 cs))
            (more_take left (g.join a o.0 t.part) b.0.1 v (joins_within g a o.0 t.part room m.2 t.fits.0) (g.allow_join a o.0 t.part n t.fits.1) (g.stops_join a o.0 t.part _ t.stops) on)
      ]

  group_take : (ts : List Symbol) (v : Nested × List Symbol) → Group room ts ≡ Ok v → Whole ts v
  group_take ts v e =
      let b = then_ok (first room ts) (λ x. more_at g.find (operand room) room room x.0 x.1) v e in
      let t = a_first.take ts b.0 tt b.1 in
      let one : b.0.0 ≡ g.see (g.one t.part) = sym t.seen ∙ sym (g.see_one t.part) in
      let on : more_at g.find (operand room) room room (g.see (g.one t.part)) b.0.1 ≡ Ok v = subst (λ w. more_at g.find (operand room) room room w b.0.1 ≡ Ok v) one b.2 in
      subst (λ l. Whole l v) (ap (λ l. l ++ b.0.1) (g.spell_one t.part) ∙ sym t.parts)
      (more_take room (g.one t.part) b.0.1 v (one_within g t.part room t.fits.0) (g.allow_one t.part t.fits.1) (g.stops_one t.part _ t.stops) on)

  -- ---- where a reading fails

  on_deep : (left M : ℕ) (a : A) (o : O) (more : List Symbol) → M < (g.see a).1 → more_at g.find (operand M) M left (g.see a) (g.sign o ∷ more) ≡ Err (TooDeep, suc (length more))
  unfolding more_at
  on_deep zero M a o more h = rw (g.found o, le_false _ _ h) refl
  on_deep (suc left) M a o more h = rw (g.found o, le_false _ _ h) refl

  -- an operator for which there is no room
  sign_stuck : (a : A) (o : O) → (g.see a).1 ≤ suc room → g.Allowed a → room < (g.see a).1 → Stuck Group room TooDeep (g.spell a) (g.sign o)
  sign_stuck a o h n i = record {
    fails = λ M r more.
        let c = comes g first operand M (a_first.again M) (operand_again M) a (omega (arith, h, r), n) (g.sign o ∷ more) (g.sign_stops a o) in c.same ∙ on_deep c.left M a o more (omega (arith, i, r));
  }

  on_operand : (left M : ℕ) (a : A) (o : O) (ts : List Symbol) (e : Miss) → M < left + (g.see a).1 → (g.see a).1 ≤ M → operand M ts ≡ Err e → more_at g.find (operand M) M left (g.see a) (g.sign o ∷ ts) ≡ Err e
  unfolding more_at
  on_operand zero M a o ts e k h i = absurd (omega (arith, k, h))
  on_operand (suc left) M a o ts e k h i = rw (g.found o, le_true _ _ h, i) refl

  -- a part that fails behind an operator
  part_stuck : (a : A) (o : O) (why : Why) (front : List Symbol) (c : Symbol) → (g.see a).1 ≤ room → g.Allowed a → Stuck operand room why front c → Stuck Group room why (g.spell a ++ (g.sign o ∷ front)) c
  part_stuck a o why front c h n s = record {
    fails = λ M r more.
        let up = reaches_up why room M r in
        let k = comes g first operand M (a_first.again M) (operand_again M) a (omega (arith, h, up), n) (g.sign o ∷ (front ++ (c ∷ more))) (g.sign_stops a o) in
        ap (Group M) (append_assoc (g.spell a) (g.sign o ∷ front) (c ∷ more)) ∙ k.same ∙ on_operand k.left M a o (front ++ (c ∷ more)) _ k.enough (omega (arith, h, up)) (s.fails M r more);
  }

  part_further : (a : A) (o : O) → (g.see a).1 ≤ room → g.Allowed a → (why : Why) (front : List Symbol) (c : Symbol) → Further (operand_form g) why front c → Further (group_form g) why (g.spell a ++ (g.sign o ∷ front)) c
  part_further a o h n Unexpected front c f = tt
  part_further a o h n TooDeep front c f =
      let i = f.4.0 in (
        g.join a o f.0,
        f.1,
        g.spell_join a o f.0 ∙ ap (λ l. g.spell a ++ (g.sign o ∷ l)) f.2 ∙ sym (append_assoc (g.spell a) (g.sign o ∷ front) (c ∷ f.1)),
        max f.3 room,
        (joins_within g a o f.0 (max f.3 room) (omega (arith, h)) (omega (arith, i)), g.allow_join a o f.0 n f.4.1),
      )

  abbrev WholeBlames : List Symbol → Miss → Type 0
  WholeBlames ts e = Blames (group_form g) Group room ts e

  deep_here : (a : A) (o : O) (ts cs : List Symbol) → (g.see a).1 ≤ suc room → g.Allowed a → room < (g.see a).1 → ts ≡ g.sign o ∷ cs → WholeBlames (g.spell a ++ ts) (TooDeep, length ts)
  deep_here a o ts cs h n i is = record {
    front = g.spell a;
    wrong = ts;
    split = refl;
    size = refl;
    begun = a;
    more = [];
    fits = (h, n);
    begins = sym (append-nil (g.spell a));
    stuck = subst (λ l. AtHead l (Stuck Group room TooDeep (g.spell a))) (sym is) (sign_stuck a o h n i);
    further = subst (λ l. AtHead l (Further (group_form g) TooDeep (g.spell a))) (sym is) (
      g.join a o g.some_part,
      g.spell_part g.some_part,
      g.spell_join a o g.some_part,
      max (suc room) (g.see_part g.some_part).1,
      (joins_within g a o g.some_part (max (suc room) (g.see_part g.some_part).1) (omega (arith, h)) (omega arith), g.allow_join a o g.some_part n g.some_allowed),
    );
  }

  part_blames : (a : A) (o : O) (ts cs : List Symbol) (e : Miss) → (g.see a).1 ≤ room → g.Allowed a → ts ≡ g.sign o ∷ cs → Blames (operand_form g) operand room cs e → WholeBlames (g.spell a ++ ts) e
  part_blames a o ts cs e h n is b = record {
    front = g.spell a ++ (g.sign o ∷ b.front);
    wrong = b.wrong;
    split = ap (λ l. g.spell a ++ l) (is ∙ ap (λ l. g.sign o ∷ l) b.split) ∙ sym (append_assoc (g.spell a) (g.sign o ∷ b.front) b.wrong);
    size = b.size;
    begun = g.join a o b.begun;
    more = b.more;
    fits = (joins_within g a o b.begun room h b.fits.0, g.allow_join a o b.begun n b.fits.1);
    begins = g.spell_join a o b.begun ∙ ap (λ l. g.spell a ++ (g.sign o ∷ l)) b.begins ∙ sym (append_assoc (g.spell a) (g.sign o ∷ b.front) b.more);
    stuck = at_head (Stuck operand room e.0 b.front) (Stuck Group room e.0 (g.spell a ++ (g.sign o ∷ b.front))) (λ c s. part_stuck a o e.0 b.front c h n s) b.wrong b.stuck;
    further = at_head (Further (operand_form g) e.0 b.front) (Further (group_form g) e.0 (g.spell a ++ (g.sign o ∷ b.front))) (λ c s. part_further a o h n e.0 b.front c s) b.wrong b.further;
  }

  more_blames : (left : ℕ) (a : A) (ts : List Symbol) (e : Miss) → room < left + (g.see a).1 → (g.see a).1 ≤ suc room → g.Allowed a → more_at g.find (operand room) room left (g.see a) ts ≡ Err e → WholeBlames (g.spell a ++ ts) e
  unfolding more_at
  more_blames zero a ts e k h n i =
      let m = one_more_err (g.find (next ts)) room (g.see a) ts (λ o. Err (TooDeep, length ts)) e i in
      let o = at_sign g ts m.0 m.1 in
      elim m.2 [
        | inl d ↦ subst (λ q. WholeBlames (g.spell a ++ ts) q) d.1 (deep_here a o.0 ts o.1 h n d.0 o.2)
        | inr y ↦ absurd (let z = y.0 in omega (arith, z, k))
      ]
  more_blames (suc left) a ts e k h n i =
      let m = one_more_err (g.find (next ts)) room (g.see a) ts (λ o. on_ok (operand room (drop 1 ts)) (λ x. more_at g.find (operand room) room left (op_over o (g.see a) x.0) x.1)) e i in
      let o = at_sign g ts m.0 m.1 in
      let cs : drop 1 ts ≡ o.1 = ap (drop 1) o.2 in
      elim m.2 [
        | inl d ↦ subst (λ q. WholeBlames (g.spell a ++ ts) q) d.1 (deep_here a o.0 ts o.1 h n d.0 o.2)
        | inr y ↦
            elim (then_err (operand room (drop 1 ts)) (λ x. more_at g.find (operand room) room left (op_over m.0 (g.see a) x.0) x.1) e y.1) [
              | inl bad ↦ part_blames a o.0 ts (drop 1 ts) e y.0 n (o.2 ∙ ap (λ l. g.sign o.0 ∷ l) (sym cs)) ((operand_laws a y.0).blames (drop 1 ts) e tt bad)
              | inr b ↦
                  let t = (operand_laws a y.0).take (drop 1 ts) b.0 tt b.1 in
                  let seen = joins_seen g a o.0 t.part m.0 b.0.0 o.3 t.seen in
                  let on : more_at g.find (operand room) room left (g.see (g.join a o.0 t.part)) b.0.1 ≡ Err e = subst (λ w. more_at g.find (operand room) room left w b.0.1 ≡ Err e) seen b.2 in
                  let more : suc (g.see a).1 ≤ (g.see (g.join a o.0 t.part)).1 = subst (λ (v : Nested). suc (g.see a).1 ≤ v.1) (sym (g.see_join a o.0 t.part)) (let q : suc (g.see a).1 ≤ suc (max (g.see a).1 (g.see_part t.part).1) = omega arith in q) in
                  subst (λ l. WholeBlames l e) (sym (joins g a o.0 t.part ts o.1 b.0.1 o.2 (sym cs ∙ t.parts)))
                  (more_blames left (g.join a o.0 t.part) b.0.1 e (omega (arith, more, k)) (joins_within g a o.0 t.part room y.0 t.fits.0) (g.allow_join a o.0 t.part n t.fits.1) on)
            ]
      ]

  first_fails : (ts : List Symbol) (e : Miss) → Blames (part_form g) first room ts e → WholeBlames ts e
  first_fails ts e b = record {
    front = b.front;
    wrong = b.wrong;
    split = b.split;
    size = b.size;
    begun = g.one b.begun;
    more = b.more;
    fits = (one_within g b.begun room b.fits.0, g.allow_one b.begun b.fits.1);
    begins = g.spell_one b.begun ∙ b.begins;
    stuck = at_head (Stuck first room e.0 b.front) (Stuck Group room e.0 b.front) (λ c s. record { fails = λ M r more. rw (s.fails M r more) refl }) b.wrong b.stuck;
    further = at_head (Further (part_form g) e.0 b.front) (Further (group_form g) e.0 b.front) (first_further e.0) b.wrong b.further;
  } where
    first_further : (why : Why) (c : Symbol) → Further (part_form g) why b.front c → Further (group_form g) why b.front c
    first_further Unexpected c f = tt
    first_further TooDeep c f = (g.one f.0, f.1, g.spell_one f.0 ∙ f.2, f.3, (one_within g f.0 f.3 f.4.0, g.allow_one f.0 f.4.1))

  group_blames : (ts : List Symbol) (e : Miss) → Group room ts ≡ Err e → WholeBlames ts e
  group_blames ts e h =
      elim (then_err (first room ts) (λ x. more_at g.find (operand room) room room x.0 x.1) e h) [
        | inl bad ↦ first_fails ts e (a_first.blames ts e tt bad)
        | inr b ↦
            let t = a_first.take ts b.0 tt b.1 in
            let one : b.0.0 ≡ g.see (g.one t.part) = sym t.seen ∙ sym (g.see_one t.part) in
            let on : more_at g.find (operand room) room room (g.see (g.one t.part)) b.0.1 ≡ Err e = subst (λ w. more_at g.find (operand room) room room w b.0.1 ≡ Err e) one b.2 in
            let some = g.some_nest (g.one t.part) in
            subst (λ l. WholeBlames l e) (ap (λ l. l ++ b.0.1) (g.spell_one t.part) ∙ sym t.parts)
            (more_blames room (g.one t.part) b.0.1 e (omega (arith, some)) (one_within g t.part room t.fits.0) (g.allow_one t.part t.fits.1) on)
      ]

  pub group_laws : Laws (group_form g) g.see (group_at g.find first operand) room
  group_laws = record { again = λ M. group_again g first operand M (a_first.again M) (operand_again M); take = λ ts v n e. group_take ts v e; blames = λ ts e n h. group_blames ts e h }

-- what is known of the operand: that it is read again at this room, and in the second round at each, and all its laws where there is room
abbrev pub Operand : {S A O : Type 0} → Aspect → Grouping S A O → StepOf Nested → ℕ → Type 0
Operand again_only g operand room = AgainAt (operand_form g) g.see_part operand room
Operand all_laws g operand room = ((M : ℕ) → AgainAt (operand_form g) g.see_part operand M) × ((r : ℕ) → room ≡ suc r → Laws (operand_form g) g.see_part operand room)

pub group_keeps : {S A O : Type 0} (m : Aspect) (g : Grouping S A O) (first operand : StepOf Nested) (room : ℕ) → Keeps m (part_form g) g.see_part first room → Operand m g operand room → Keeps m (group_form g) g.see (group_at g.find first operand) room
group_keeps again_only g first operand room a b = group_again g first operand room a b
group_keeps all_laws g first operand room a b = group_laws g first operand room a b.0 b.1
