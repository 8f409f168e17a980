-- The one or the other, by the next symbol, and nothing, keep the laws.
use Rattle.std.proofs.Common.{◌≡◌, ℕ, ◌≤◌, Bool, true, false, cond, List, [], ◌∷◌, ◌++◌, Option, Ok, Err, refl, sym, ap, subst, ◌∙◌, inl, inr}
use Rattle.std.specs.Prelude.{◌⊎◌}
use Rattle.token_forms.specs.Symbols.{Symbol}
use Rattle.token_forms.specs.steps.Steps.{Why, Unexpected, TooDeep, Miss, StepOf, give, next, meets, choose_at}
use Rattle.token_forms.proofs.StepLaws.{AtHead, at_head, Form, Stuck, Further, Took, Blames, AgainAt, Laws, Aspect, again_only, all_laws, Keeps, ok_is, same_next}

-- ---- a side of a whole

-- parts of the side are parts of the whole
module _ {X Z : Type 0} (g : Form X) (whole : Form Z) (into : X → Z) (spelled : (x : X) → whole.spell (into x) ≡ g.spell x) (fits : (x : X) (M : ℕ) → g.Fits x M → whole.Fits (into x) M) where
  side_further : (why : Why) (front : List Symbol) (c : Symbol) → Further g why front c → Further whole why front c
  side_further Unexpected front c u = tt
  side_further TooDeep front c u = (into u.0, u.1, spelled u.0 ∙ u.2, u.3, fits u.0 u.3 u.4)

  -- where the same next symbol leads to the side
  pub side_blames : {V : Type 0} (f k : StepOf V) (room : ℕ) (ts : List Symbol) (e : Miss) → ((M : ℕ) (l : List Symbol) → next l ≡ next ts → k M l ≡ f M l) → Blames g f room ts e → Blames whole k room ts e
  side_blames f k room ts e same u = record {
    front = u.front;
    wrong = u.wrong;
    split = u.split;
    size = u.size;
    begun = into u.begun;
    more = u.more;
    fits = fits u.begun room u.fits;
    begins = spelled u.begun ∙ u.begins;
    stuck = at u.wrong u.split u.stuck;
    further = at_head (Further g e.0 u.front) (Further whole e.0 u.front) (λ c s. side_further e.0 u.front c s) u.wrong u.further;
  } where
    at : (wrong : List Symbol) → ts ≡ u.front ++ wrong → AtHead wrong (Stuck f room e.0 u.front) → AtHead wrong (Stuck k room e.0 u.front)
    at [] split s = tt
    at (c ∷ cs) split s = record { fails = λ M r more. same M (u.front ++ (c ∷ more)) (sym (ap next split ∙ same_next u.front c cs more)) ∙ s.fails M r more }

-- ---- the one or the other

module _ {X Y : Type 0} (g : Form X) (d : Form Y) where
  abbrev spell_either : X ⊎ Y → List Symbol
  spell_either (inl x) = g.spell x
  spell_either (inr y) = d.spell y

  abbrev FitsEither : X ⊎ Y → ℕ → Type 0
  FitsEither (inl x) M = g.Fits x M
  FitsEither (inr y) M = d.Fits y M

  pub grows_either : (z : X ⊎ Y) (m M : ℕ) → m ≤ M → FitsEither z m → FitsEither z M
  grows_either (inl x) m M h i = g.grows x m M h i
  grows_either (inr y) m M h i = d.grows y m M h i

  abbrev StopsEither : X ⊎ Y → Option Symbol → Type 0
  StopsEither (inl x) o = g.Stops x o
  StopsEither (inr y) o = d.Stops y o

  -- a part of the one or of the other, where this may stand before
  abbrev pub either_in : (Option Symbol → Type 0) → Form (X ⊎ Y)
  either_in E = record { spell = spell_either; Fits = FitsEither; grows = grows_either; Stops = StopsEither; Enters = E }

  -- a part of the one or of the other
  abbrev pub either : Form (X ⊎ Y)
  either = either_in (λ o. Unit {0})

module _ {X Y V : Type 0} (see_x : X → V) (see_y : Y → V) where
  abbrev pub see_either : X ⊎ Y → V
  see_either (inl x) = see_x x
  see_either (inr y) = see_y y

module _ {X Y V : Type 0} (g : Form X) (see_x : X → V) (d : Form Y) (see_y : Y → V) (begins : Symbol → Bool) (f k : StepOf V)
    (yes_x : (x : X) (rest : List Symbol) → g.Stops x (next rest) → meets begins (next (g.spell x ++ rest)) ≡ true)
    (no_y : (y : Y) (rest : List Symbol) → d.Stops y (next rest) → meets begins (next (d.spell y ++ rest)) ≡ false)
    (E : Option Symbol → Type 0) (enters_x : (o : Option Symbol) → meets begins o ≡ true → E o → g.Enters o) (enters_y : (o : Option Symbol) → meets begins o ≡ false → E o → d.Enters o) where
  abbrev whole : Form (X ⊎ Y)
  whole = either_in g d E

  choose_again : (M : ℕ) → AgainAt g see_x f M → AgainAt d see_y k M → AgainAt whole (see_either see_x see_y) (choose_at begins f k) M
  choose_again M a b = record { again = each } where
    each : (z : X ⊎ Y) → FitsEither g d z M → (rest : List Symbol) → StopsEither g d z (next rest) → choose_at begins f k M (spell_either g d z ++ rest) ≡ Ok (see_either see_x see_y z, rest)
    each (inl x) h rest s = rw (yes_x x rest s) (a.again x h rest s)
    each (inr y) h rest s = rw (no_y y rest s) (b.again y h rest s)

  module _ (room : ℕ) (a : Laws g see_x f room) (b : Laws d see_y k room) where
    choose_take : (ts : List Symbol) (v : V × List Symbol) → E (next ts) → choose_at begins f k room ts ≡ Ok v → Took whole (see_either see_x see_y) room ts v
    choose_take ts v n e = go (meets begins (next ts)) refl e where
      go : (t : Bool) → meets begins (next ts) ≡ t → cond t (f room ts) (k room ts) ≡ Ok v → Took whole (see_either see_x see_y) room ts v
      go true i h = let t = a.take ts v (enters_x _ i n) h in record { part = inl t.part; seen = t.seen; parts = t.parts; fits = t.fits; stops = t.stops }
      go false i h = let t = b.take ts v (enters_y _ i n) h in record { part = inr t.part; seen = t.seen; parts = t.parts; fits = t.fits; stops = t.stops }

    choose_blames : (ts : List Symbol) (e : Miss) → E (next ts) → choose_at begins f k room ts ≡ Err e → Blames whole (choose_at begins f k) room ts e
    choose_blames ts e n h = go (meets begins (next ts)) refl h where
      go : (t : Bool) → meets begins (next ts) ≡ t → cond t (f room ts) (k room ts) ≡ Err e → Blames whole (choose_at begins f k) room ts e
      go true i h = side_blames g whole (λ x. inl x) (λ x. refl) (λ x M u. u) f (choose_at begins f k) room ts e (λ M l same. rw (same, i) refl) (a.blames ts e (enters_x _ i n) h)
      go false i h = side_blames d whole (λ y. inr y) (λ y. refl) (λ y M u. u) k (choose_at begins f k) room ts e (λ M l same. rw (same, i) refl) (b.blames ts e (enters_y _ i n) h)

    choose_laws : Laws whole (see_either see_x see_y) (choose_at begins f k) room
    choose_laws = record { again = λ M. choose_again M (a.again M) (b.again M); take = choose_take; blames = choose_blames }

  pub choose_in_keeps : (m : Aspect) (room : ℕ) → Keeps m g see_x f room → Keeps m d see_y k room → Keeps m (either_in g d E) (see_either see_x see_y) (choose_at begins f k) room
  choose_in_keeps again_only room a b = choose_again room a b
  choose_in_keeps all_laws room a b = choose_laws room a b

pub choose_keeps : {X Y V : Type 0} (g : Form X) (see_x : X → V) (d : Form Y) (see_y : Y → V) (begins : Symbol → Bool) (f k : StepOf V)
    → ((x : X) (rest : List Symbol) → g.Stops x (next rest) → meets begins (next (g.spell x ++ rest)) ≡ true) → ((y : Y) (rest : List Symbol) → d.Stops y (next rest) → meets begins (next (d.spell y ++ rest)) ≡ false)
    → ((o : Option Symbol) → meets begins o ≡ true → g.Enters o) → ((o : Option Symbol) → meets begins o ≡ false → d.Enters o)
    → (m : Aspect) (room : ℕ) → Keeps m g see_x f room → Keeps m d see_y k room → Keeps m (either g d) (see_either see_x see_y) (choose_at begins f k) room
choose_keeps g see_x d see_y begins f k first second enters_x enters_y m room a b =
    choose_in_keeps g see_x d see_y begins f k first second (λ o. Unit {0}) (λ o e n. enters_x o e) (λ o e n. enters_y o e) m room a b

-- ---- a first side that never begins

module _ {X Y V : Type 0} (g : Form X) (see_x : X → V) (d : Form Y) (see_y : Y → V) (begins : Symbol → Bool) (f k : StepOf V)
    (never : (o : Option Symbol) → meets begins o ≡ false) (none : (x : X) (M : ℕ) → g.Fits x M → ⊥) (enters_y : (o : Option Symbol) → d.Enters o) where
  never_again : (M : ℕ) → AgainAt d see_y k M → AgainAt (either g d) (see_either see_x see_y) (choose_at begins f k) M
  never_again M b = record { again = each } where
    each : (z : X ⊎ Y) → FitsEither g d z M → (rest : List Symbol) → StopsEither g d z (next rest) → choose_at begins f k M (spell_either g d z ++ rest) ≡ Ok (see_either see_x see_y z, rest)
    each (inl x) h rest s = absurd (none x M h)
    each (inr y) h rest s = rw (never (next (d.spell y ++ rest))) (b.again y h rest s)

  never_is : (M : ℕ) (ts : List Symbol) → choose_at begins f k M ts ≡ k M ts
  never_is M ts = rw (never (next ts)) refl

  never_laws : (room : ℕ) → Laws d see_y k room → Laws (either g d) (see_either see_x see_y) (choose_at begins f k) room
  never_laws room b = record {
    again = λ M. never_again M (b.again M);
    take = λ ts v n e. let t = b.take ts v (enters_y _) (sym (never_is room ts) ∙ e) in record { part = inr t.part; seen = t.seen; parts = t.parts; fits = t.fits; stops = t.stops };
    blames = λ ts e n h. side_blames d (either g d) (λ y. inr y) (λ y. refl) (λ y M u. u) k (choose_at begins f k) room ts e (λ M l same. never_is M l) (b.blames ts e (enters_y _) (sym (never_is room ts) ∙ h));
  }

  pub never_keeps : (m : Aspect) (room : ℕ) → Keeps m d see_y k room → Keeps m (either g d) (see_either see_x see_y) (choose_at begins f k) room
  never_keeps again_only room b = never_again room b
  never_keeps all_laws room b = never_laws room b

-- ---- nothing: the other side of what may be left out

abbrev pub nothing : (Option Symbol → Type 0) → Form (Unit {0})
nothing P = record { spell = λ u. []; Fits = λ u M. Unit {0}; grows = λ u m M h i. tt; Stops = λ u o. P o; Enters = P }

module _ {V : Type 0} (v : V) (P : Option Symbol → Type 0) where
  give_take : (room : ℕ) (ts : List Symbol) (w : V × List Symbol) → P (next ts) → give v room ts ≡ Ok w → Took (nothing P) (λ u. v) room ts w
  give_take room ts w n e = subst (λ y. Took (nothing P) (λ u. v) room ts y) (ok_is (v, ts) w e) (record { part = tt; seen = refl; parts = refl; fits = tt; stops = n })

  give_laws : (room : ℕ) → Laws (nothing P) (λ u. v) (give v) room
  give_laws room = record { again = λ M. record { again = λ u h rest s. refl }; take = give_take room; blames = λ ts e n h. absurd cc }

  pub give_keeps : (m : Aspect) (room : ℕ) → Keeps m (nothing P) (λ u. v) (give v) room
  give_keeps again_only room = record { again = λ u h rest s. refl }
  give_keeps all_laws room = give_laws room
