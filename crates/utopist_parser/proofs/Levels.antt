-- Parts that nest: those that fit at a room are nested at most one more, and those one level below at most so deep.
use Rattle.std.proofs.Common.{◌≡◌, ℕ, zero, suc, ◌≤◌, Bool, true, false, cond, List, [], ◌∷◌, ◌++◌, length, Option, Ok, Err, refl, sym, ap, subst, ◌∙◌, arith, inl, inr}
use Rattle.std.specs.Prelude.{◌⊎◌}
use Rattle.token_forms.specs.Symbols.{Symbol}
use Rattle.token_forms.specs.declared.parse_stop.Why.{Why}
use Rattle.token_forms.specs.declared.parse_stop.Why.TheVariants.{Unexpected, TooDeep}
use Rattle.token_forms.specs.steps.Steps.{Miss, Reading, StepOf, next, meets, choose_at, deeper_at}
use Rattle.utopist_parser.specs.steps.ReadingExpr.{Nested}
use Rattle.token_forms.proofs.StepLaws.{Reaches, AtHead, at_head, Form, Stuck, Further, Took, Blames, AgainAt, Laws, Aspect, again_only, all_laws, Keeps, Fitting, failed_is, same_next}
use Rattle.token_forms.proofs.Choice.{either, see_either, choose_keeps}

-- of these parts, which are nested so, those that are allowed
abbrev pub level : {X : Type 0} → (X → List Symbol) → (X → Nested) → (X → Type 0) → (X → Option Symbol → Type 0) → Form X
level spell see Allowed Stops = record {
  spell = spell;
  Fits = λ x M. ((see x).1 ≤ suc M) × Allowed x;
  grows = λ x m M h f. (omega (arith, h, f.0), f.1);
  Stops = Stops;
  Enters = λ o. Unit {0};
}

-- the same parts, one level below
abbrev pub below : {X : Type 0} → (X → List Symbol) → (X → Nested) → (X → Type 0) → (X → Option Symbol → Type 0) → Form X
below spell see Allowed Stops = record {
  spell = spell;
  Fits = λ x M. ((see x).1 ≤ M) × Allowed x;
  grows = λ x m M h f. (omega (arith, h, f.0), f.1);
  Stops = Stops;
  Enters = λ o. Unit {0};
}

-- where there is room
abbrev pub IfRoom : ℕ → Type 0 → Type 0
IfRoom zero T = Unit {0}
IfRoom (suc room) T = T

-- ---- reading one level below

module _ {X : Type 0} (spell : X → List Symbol) (see : X → Nested) (Allowed : X → Type 0) (Stops : X → Option Symbol → Type 0) (some_nest : (x : X) → 1 ≤ (see x).1)
    (low f : StepOf Nested) (at_none : (ts : List Symbol) → low zero ts ≡ Err (TooDeep, length ts)) (at_some : (room : ℕ) (ts : List Symbol) → low (suc room) ts ≡ f room ts) where
  abbrev high_form : Form X
  high_form = level spell see Allowed Stops

  abbrev low_form : Form X
  low_form = below spell see Allowed Stops

  pub below_none : AgainAt low_form see low zero
  below_none = record { again = λ x h rest s. absurd (let n = some_nest x in omega (arith, n, h.0)) }

  pub below_some : (room : ℕ) → AgainAt high_form see f room → AgainAt low_form see low (suc room)
  below_some room a = record { again = λ x h rest s. at_some room (spell x ++ rest) ∙ a.again x h rest s }

  below_again : ((M : ℕ) → AgainAt high_form see f M) → (M : ℕ) → AgainAt low_form see low M
  below_again a zero = below_none
  below_again a (suc M) = below_some M (a M)

  below_stuck : (room : ℕ) (why : Why) (front : List Symbol) (c : Symbol) → Stuck f room why front c → Stuck low (suc room) why front c
  below_stuck room why front c s = record { fails = λ M r more. on M why r more s } where
    on : (M : ℕ) (w : Why) → Reaches w (suc room) M → (more : List Symbol) → Stuck f room w front c → low M (front ++ (c ∷ more)) ≡ Err (w, suc (length more))
    on zero Unexpected r more t = absurd (omega (arith, r))
    on zero TooDeep r more t = absurd (omega (arith, r))
    on (suc M) Unexpected r more t = at_some M (front ++ (c ∷ more)) ∙ t.fails M (omega (arith, r)) more
    on (suc M) TooDeep r more t = at_some M (front ++ (c ∷ more)) ∙ t.fails M (omega (arith, r)) more

  below_laws : (room : ℕ) → Laws high_form see f room → Laws low_form see low (suc room)
  below_laws room a = record {
    again = below_again a.again;
    take = λ ts v n e. let t = a.take ts v tt (sym (at_some room ts) ∙ e) in record { part = t.part; seen = t.seen; parts = t.parts; fits = t.fits; stops = t.stops };
    blames = λ ts e n h.
        let b = a.blames ts e tt (sym (at_some room ts) ∙ h) in
        record {
          front = b.front;
          wrong = b.wrong;
          split = b.split;
          size = b.size;
          begun = b.begun;
          more = b.more;
          fits = b.fits;
          begins = b.begins;
          stuck = at_head (Stuck f room e.0 b.front) (Stuck low (suc room) e.0 b.front) (λ c s. below_stuck room e.0 b.front c s) b.wrong b.stuck;
          further = at_head (Further high_form e.0 b.front) (Further low_form e.0 b.front) (λ c s. same_further e.0 b.front c s) b.wrong b.further;
        };
  } where
    same_further : (why : Why) (front : List Symbol) (c : Symbol) → Further high_form why front c → Further low_form why front c
    same_further Unexpected front c h = tt
    same_further TooDeep front c h = (h.0, h.1, h.2, suc h.3, h.4)

  pub below_keeps : (m : Aspect) (room : ℕ) → Keeps m (level spell see Allowed Stops) see f room → Keeps m (below spell see Allowed Stops) see low (suc room)
  below_keeps again_only room a = below_some room a
  below_keeps all_laws room a = below_laws room a

-- ---- a choice whose first side is one level deeper

-- in the second round, all of the first
abbrev pub Rounds : {X V : Type 0} → Aspect → Form X → (X → V) → StepOf V → Type 0
Rounds again_only g see f = Unit {0}
Rounds all_laws g see f = (M : ℕ) → AgainAt g see f M

module _ {X V : Type 0} (g : Form X) (see : X → V) (f : StepOf V) (none : (x : X) → g.Fits x zero → ⊥) where
  deeper_none : AgainAt g see (deeper_at f) zero
  deeper_none = record { again = λ x h rest s. absurd (none x h) }

  deeper_some : (room : ℕ) → AgainAt g see f (suc room) → AgainAt g see (deeper_at f) (suc room)
  deeper_some room a = record { again = λ x h rest s. a.again x h rest s }

  pub deeper_again : ((M : ℕ) → AgainAt g see f M) → (M : ℕ) → AgainAt g see (deeper_at f) M
  deeper_again a zero = deeper_none
  deeper_again a (suc M) = deeper_some M (a (suc M))

  deeper_stuck : (room : ℕ) (why : Why) (front : List Symbol) (c : Symbol) → Stuck f (suc room) why front c → Stuck (deeper_at f) (suc room) why front c
  deeper_stuck room why front c s = record { fails = λ M r more. on M why r more s } where
    on : (M : ℕ) (w : Why) → Reaches w (suc room) M → (more : List Symbol) → Stuck f (suc room) w front c → deeper_at f M (front ++ (c ∷ more)) ≡ Err (w, suc (length more))
    on zero Unexpected r more t = absurd (omega (arith, r))
    on zero TooDeep r more t = absurd (omega (arith, r))
    on (suc M) w r more t = t.fails (suc M) r more

  deeper_laws : (room : ℕ) → Laws g see f (suc room) → Laws g see (deeper_at f) (suc room)
  deeper_laws room a = record {
    again = deeper_again a.again;
    take = λ ts v n e. a.take ts v n e;
    blames = λ ts e n h.
        let b = a.blames ts e n h in
        record {
          front = b.front;
          wrong = b.wrong;
          split = b.split;
          size = b.size;
          begun = b.begun;
          more = b.more;
          fits = b.fits;
          begins = b.begins;
          stuck = at_head (Stuck f (suc room) e.0 b.front) (Stuck (deeper_at f) (suc room) e.0 b.front) (λ c s. deeper_stuck room e.0 b.front c s) b.wrong b.stuck;
          further = b.further;
        };
  }

  deeper_keeps : (m : Aspect) (room : ℕ) → Keeps m g see f (suc room) → Keeps m g see (deeper_at f) (suc room)
  deeper_keeps again_only room a = deeper_some room a
  deeper_keeps all_laws room a = deeper_laws room a

module _ {X Y V : Type 0} (g : Form X) (see_x : X → V) (d : Form Y) (see_y : Y → V) (begins : Symbol → Bool) (f k : StepOf V)
    (yes_x : (x : X) (rest : List Symbol) → meets begins (next (g.spell x ++ rest)) ≡ true)
    (no_y : (y : Y) (rest : List Symbol) → d.Stops y (next rest) → meets begins (next (d.spell y ++ rest)) ≡ false)
    (enters_x : (o : Option Symbol) → g.Enters o) (enters_y : (o : Option Symbol) → d.Enters o)
    (none : (x : X) → g.Fits x zero → ⊥) (opens : (c : Symbol) → begins c ≡ true → (x : X) × (more : List Symbol) × (g.spell x ≡ c ∷ more) × (M : ℕ) × g.Fits x M) where
  abbrev whole : Form (X ⊎ Y)
  whole = either g d

  abbrev see_whole : X ⊎ Y → V
  see_whole = see_either see_x see_y

  abbrev whole_at : StepOf V
  whole_at = choose_at begins (deeper_at f) k

  chosen : (m : Aspect) (room : ℕ) → Keeps m g see_x (deeper_at f) room → Keeps m d see_y k room → Keeps m whole see_whole whole_at room
  chosen m room a b =
      choose_keeps g see_x d see_y begins (deeper_at f) k (λ x rest s. yes_x x rest) no_y (λ o e. enters_x o) (λ o e. enters_y o) m room a b

  -- no room: the first symbol is too deep
  none_deep : (some : Y) → d.Fits some zero → (ts : List Symbol) → meets begins (next ts) ≡ true → Blames whole whole_at zero ts (TooDeep, length ts)
  none_deep some fits [] e = absurd cc
  none_deep some fits (c ∷ cs) e = record {
    front = [];
    wrong = c ∷ cs;
    split = refl;
    size = refl;
    begun = inr some;
    more = d.spell some;
    fits = fits;
    begins = refl;
    stuck = record { fails = λ M r more. rw (let z : M ≡ zero = r in z, e) (ap (λ (n : ℕ). failed n) (let n : length (c ∷ more) ≡ suc (length more) = omega arith in n)) };
    further = let o = opens c e in (inl o.0, o.1, o.2, o.3, o.4);
  } where
    failed : ℕ → Reading V
    failed n = Err (TooDeep, n)

  none_take : Laws d see_y k zero → (ts : List Symbol) (v : V × List Symbol) → whole_at zero ts ≡ Ok v → Took whole see_whole zero ts v
  none_take b ts v e = go (meets begins (next ts)) refl e where
    go : (t : Bool) → meets begins (next ts) ≡ t → cond t (deeper_at f zero ts) (k zero ts) ≡ Ok v → Took whole see_whole zero ts v
    go true i h = absurd cc
    go false i h = let t = b.take ts v (enters_y _) h in record { part = inr t.part; seen = t.seen; parts = t.parts; fits = t.fits; stops = t.stops }

  none_blames : (a : (M : ℕ) → AgainAt g see_x f M) → Laws d see_y k zero → (some : Y) → d.Fits some zero → (ts : List Symbol) (e : Miss) → whole_at zero ts ≡ Err e → Blames whole whole_at zero ts e
  none_blames a b some fits ts e h = go (meets begins (next ts)) refl h where
    y_stuck : (front wrong : List Symbol) (why : Why) → meets begins (next (front ++ wrong)) ≡ false → AtHead wrong (Stuck k zero why front) → AtHead wrong (Stuck whole_at zero why front)
    y_stuck front [] why i s = tt
    y_stuck front (c ∷ cs) why i s = record { fails = λ M r more. rw (subst (λ o. meets begins o ≡ false) (same_next front c cs more) i) (s.fails M r more) }

    y_further : (why : Why) (front : List Symbol) (c : Symbol) → Further d why front c → Further whole why front c
    y_further Unexpected front c u = tt
    y_further TooDeep front c u = (inr u.0, u.1, u.2, u.3, u.4)

    go : (t : Bool) → meets begins (next ts) ≡ t → cond t (deeper_at f zero ts) (k zero ts) ≡ Err e → Blames whole whole_at zero ts e
    go true i h = subst (λ q. Blames whole whole_at zero ts q) (failed_is V (TooDeep, length ts) e h) (none_deep some fits ts i)
    go false i h =
        let u = b.blames ts e (enters_y _) h in
        record {
          front = u.front;
          wrong = u.wrong;
          split = u.split;
          size = u.size;
          begun = inr u.begun;
          more = u.more;
          fits = u.fits;
          begins = u.begins;
          stuck = y_stuck u.front u.wrong e.0 (subst (λ l. meets begins (next l) ≡ false) u.split i) u.stuck;
          further = at_head (Further d e.0 u.front) (Further whole e.0 u.front) (λ c s. y_further e.0 u.front c s) u.wrong u.further;
        }

  none_laws : ((M : ℕ) → AgainAt g see_x f M) → Laws d see_y k zero → (some : Y) → d.Fits some zero → Laws whole see_whole whole_at zero
  none_laws a b some fits = record {
    again = λ M. chosen again_only M (deeper_again g see_x f none a M) (b.again M);
    take = λ ts v n e. none_take b ts v e;
    blames = λ ts e n h. none_blames a b some fits ts e h;
  }

  pub deep_keeps : (m : Aspect) (room : ℕ) → Rounds m g see_x f → IfRoom room (Keeps m g see_x f room) → Keeps m d see_y k room → (some : Y) → Fitting m d some room
      → Keeps m (either g d) (see_either see_x see_y) (choose_at begins (deeper_at f) k) room
  deep_keeps again_only zero a h b some fits = chosen again_only zero (deeper_none g see_x f none) b
  deep_keeps all_laws zero a h b some fits = none_laws a b some fits
  deep_keeps m (suc room) a h b some fits = chosen m (suc room) (deeper_keeps g see_x f none m room h) b
