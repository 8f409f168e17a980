-- Rules: a form, what it means, and the step that reads it, at a room and for an aspect of the laws.
use Rattle.std.proofs.Common.{◌≡◌, ℕ, Bool, true, false, List, [], ◌∷◌, ◌++◌, map, Option, Some, None, refl, inl, inr}
use Rattle.std.specs.Prelude.{pos, suc, ◌⊎◌}
use Rattle.utopist_lexer.specs.declared.word.Word.{Word}
use Rattle.utopist_lexer.specs.declared.mark.Mark.{Mark}
use Rattle.utopist_lexer.specs.declared.token.Kind.{Kind}
use Rattle.utopist_lexer.specs.declared.token.Kind.TheVariants as kinds
use Rattle.utopist_lexer.specs.Places.{first_place}
use Rattle.token_forms.specs.Symbols.{Symbol, mark}
use Rattle.token_forms.specs.steps.Steps.{StepOf, ◌>>=◌, give, next, meets, choose_at, repeat_at}
use Rattle.token_forms.specs.steps.Single.{is_mark, fixed_at, word_at, mark_at, name_at, number_at, divisor_at, sub_at}
use Rattle.token_forms.specs.steps.Lists.{next_at, separated_at}
use Rattle.token_forms.specs.Lists.{OneOrMore}
use Rattle.token_forms.specs.Lists.{separated}
use Rattle.token_forms.specs.Lists.{all_of}
use Rattle.token_forms.specs.Lists.{spell_option}
use Rattle.token_forms.proofs.SameKind.{same_kind-refl}
use Rattle.token_forms.proofs.StepLaws.{Form, Aspect, again_only, all_laws, Keeps, Fitting}
use Rattle.token_forms.proofs.Sequence.{both, both_by, then_keeps, map_keeps}
use Rattle.token_forms.proofs.Recast.{recast, recast_keeps}
use Rattle.token_forms.proofs.Choice.{either, either_in, see_either, choose_keeps, choose_in_keeps, nothing, give_keeps}
use Rattle.token_forms.proofs.Repeat.{repeated, last_stops, repeat_keeps}
use Rattle.token_forms.proofs.Singles.{IsFixed, after, after_keeps, some_name, name_form, name_keeps, number_form, number_keeps, divisor_form, divisor_keeps, sub_form, sub_keeps}

-- any symbol may stand there
abbrev pub Any : Option Symbol → Type 0
Any o = Unit {0}

-- the step keeps the laws, there is a part that fits, and any symbol may stand before
pub record Rule {X V : Type 0} (m : Aspect) (room : ℕ) (g : Form X) (see : X → V) (f : StepOf V) : Type 0 where
  pub keeps : Keeps m g see f room
  pub some : X
  pub fits : Fitting m g some room
  pub enters : (o : Option Symbol) → g.Enters o

pub fitting : {X : Type 0} (m : Aspect) (g : Form X) (x : X) (room : ℕ) → g.Fits x room → Fitting m g x room
fitting again_only g x room h = tt
fitting all_laws g x room h = h

-- what fits follows from what fits
pub fitting_by : {X Y : Type 0} (m : Aspect) (g : Form X) (d : Form Y) (x : X) (y : Y) (room : ℕ) → (g.Fits x room → d.Fits y room) → Fitting m g x room → Fitting m d y room
fitting_by again_only g d x y room h i = tt
fitting_by all_laws g d x y room h i = h i

-- ---- one symbol

pub name_rule : {m : Aspect} {room : ℕ} → Rule m room name_form (λ n. n) name_at
name_rule {m} {room} = record { keeps = name_keeps m room; some = some_name; fits = fitting m name_form some_name room tt; enters = λ o. tt }

pub number_rule : {m : Aspect} {room : ℕ} → Rule m room number_form (λ n. pos n) number_at
number_rule {m} {room} = record { keeps = number_keeps m room; some = 0; fits = fitting m number_form 0 room tt; enters = λ o. tt }

pub divisor_rule : {m : Aspect} {room : ℕ} → Rule m room divisor_form (λ n. pos (suc n)) divisor_at
divisor_rule {m} {room} = record { keeps = divisor_keeps m room; some = 0; fits = fitting m divisor_form 0 room tt; enters = λ o. tt }

pub sub_rule : {m : Aspect} {room : ℕ} → Rule m room sub_form (λ x. ((pos x.0.0, pos x.0.1), x.1)) sub_at
sub_rule {m} {room} = record { keeps = sub_keeps m room; some = ((0, 0), first_place); fits = fitting m sub_form ((0, 0), first_place) room tt; enters = λ o. tt }

-- a fixed symbol, and then what follows
after_rule : {Y V : Type 0} {m : Aspect} {room : ℕ} {d : Form Y} {see : Y → V} {f : StepOf V} (k : Kind) → IsFixed k → Rule m room d see f → Rule m room (after k d) see (fixed_at k >>= λ u. f)
after_rule {m = m} {room = room} {d = d} {see = see} {f = f} k is_fixed r = record {
  keeps = after_keeps k is_fixed m d see f room r.keeps r.enters r.some r.fits;
  some = r.some;
  fits = fitting_by m d (after k d) r.some r.some room (λ h. (tt, h)) r.fits;
  enters = λ o. tt;
}

pub after_word : {Y V : Type 0} {m : Aspect} {room : ℕ} {d : Form Y} {see : Y → V} {f : StepOf V} (w : Word) → Rule m room d see f → Rule m room (after (kinds.Word w) d) see (word_at w >>= λ u. f)
after_word w r = after_rule (kinds.Word w) tt r

pub after_mark : {Y V : Type 0} {m : Aspect} {room : ℕ} {d : Form Y} {see : Y → V} {f : StepOf V} (k : Mark) → Rule m room d see f → Rule m room (after (kinds.Mark k) d) see (mark_at k >>= λ u. f)
after_mark k r = after_rule (kinds.Mark k) tt r

pub after_end : {Y V : Type 0} {m : Aspect} {room : ℕ} {d : Form Y} {see : Y → V} {f : StepOf V} → Rule m room d see f → Rule m room (after kinds.End d) see (fixed_at kinds.End >>= λ u. f)
after_end r = after_rule kinds.End tt r

-- nothing more
abbrev pub done : Form (Unit {0})
done = nothing Any

pub done_rule : {V : Type 0} {m : Aspect} {room : ℕ} (v : V) → Rule m room done (λ u. v) (give v)
done_rule {m = m} {room = room} v = record { keeps = give_keeps v Any m room; some = tt; fits = fitting m done tt room tt; enters = λ o. tt }

-- a mark, and nothing more
abbrev pub stop : Mark → Form (Unit {0})
stop k = after (kinds.Mark k) done

pub stop_rule : {V : Type 0} {m : Aspect} {room : ℕ} (k : Mark) (v : V) → Rule m room (stop k) (λ u. v) (mark_at k >>= λ u. give v)
stop_rule k v = after_mark k (done_rule v)

-- ---- several parts

both_fit : {X Y : Type 0} (m : Aspect) (g : Form X) (d : X → Form Y) (x : X) (y : Y) (room : ℕ) → Fitting m g x room → Fitting m (d x) y room → Fitting m (both_by g d) (x, y) room
both_fit again_only g d x y room h i = tt
both_fit all_laws g d x y room h i = (h, i)

-- one part after another
pub then_rule : {X Y V W : Type 0} {m : Aspect} {room : ℕ} {g : Form X} {d : Form Y} {see : X → V} {f : StepOf V} (see_y : X → Y → W) (k : V → StepOf W) → Rule m room g see f → ((x : X) → Rule m room d (see_y x) (k (see x)))
    → ((x : X) (y : Y) (rest : List Symbol) → d.Stops y (next rest) → g.Stops x (next (d.spell y ++ rest))) → Rule m room (both g d) (λ p. see_y p.0 p.1) (f >>= k)
then_rule {m = m} {room = room} {g = g} {d = d} {see = see} {f = f} see_y k r s opens = record {
  keeps = then_keeps g (λ x. d) see see_y f k (λ x o i. (s x).enters o) opens m room r.keeps (λ x. (s x).keeps) (λ x. (s x).some) (λ x. (s x).fits);
  some = (r.some, (s r.some).some);
  fits = both_fit m g (λ x. d) r.some (s r.some).some room r.fits (s r.some).fits;
  enters = r.enters;
}

pub map_rule : {X V W : Type 0} {m : Aspect} {room : ℕ} {g : Form X} {see : X → V} {f : StepOf V} (h : V → W) → Rule m room g see f → Rule m room g (λ x. h (see x)) (f >>= λ v. give (h v))
map_rule {m = m} {room = room} {g = g} {see = see} {f = f} h r = record { keeps = map_keeps g see h f m room r.keeps; some = r.some; fits = r.fits; enters = r.enters }

-- {part}, where anything may stand behind a part
pub repeat_rule : {X V : Type 0} {m : Aspect} {room : ℕ} {g : Form X} {see : X → V} {f : StepOf V} (begins : Symbol → Bool) → ((x : X) (more : List Symbol) → meets begins (next (g.spell x ++ more)) ≡ true) → ((x : X) (o : Option Symbol) → g.Stops x o) → Rule m room g see f
    → Rule m room (repeated g begins Any) (map see) (repeat_at begins f)
repeat_rule {m = m} {room = room} {g = g} {see = see} {f = f} begins opens stops r = record {
  keeps = repeat_keeps g see f begins opens (λ x o s. stops x o) m room Any r.enters r.keeps;
  some = [];
  fits = fitting m (repeated g begins Any) [] room tt;
  enters = λ o. tt;
}

-- the same parts, of another type
pub recast_rule : {X C V : Type 0} {m : Aspect} {room : ℕ} {g : Form X} {see : X → V} {f : StepOf V} (spell : C → List Symbol) (see_c : C → V) (to : X → C) (from : C → X) → ((x : X) → from (to x) ≡ x)
    → ((c : C) → g.spell (from c) ≡ spell c) → ((c : C) → see (from c) ≡ see_c c) → Rule m room g see f → Rule m room (recast g spell from) see_c f
recast_rule {m = m} {room = room} {g = g} {see = see} {f = f} spell see_c to from back spelled seen r = record {
  keeps = recast_keeps g see spell see_c to from back spelled seen m f room r.keeps;
  some = to r.some;
  fits = fitting_by m g (recast g spell from) r.some (to r.some) room (λ h. rw (back r.some) h) r.fits;
  enters = r.enters;
}

-- ---- part {SEPARATOR part}

-- the separator and a part
abbrev pub next_form : {X : Type 0} → Mark → Form X → Form X
next_form k g = after (kinds.Mark k) g

abbrev pub separated_form : {X : Type 0} → Mark → Form X → Form (OneOrMore X)
separated_form k g =
    recast (both_by g (λ x. repeated (next_form k g) (is_mark k) (g.Stops x))) (separated k g.spell) (λ xs. (xs.first, xs.more))

-- what stops each part stops them all
pub separated_stops : {X : Type 0} (k : Mark) (g : Form X) (o : Option Symbol) → ((x : X) → g.Stops x o) → meets (is_mark k) o ≡ false → (xs : OneOrMore X) → (separated_form k g).Stops xs o
separated_stops k g o stops other xs = (other, last_stops (next_form k g) (g.Stops xs.first) o stops xs.more (stops xs.first))

-- the parts behind the first
abbrev tail_form : {X : Type 0} → Mark → Form X → X → Form (List X)
tail_form k g x = repeated (next_form k g) (is_mark k) (g.Stops x)

-- where the separator stops each part
pub separated_rule : {X V : Type 0} {m : Aspect} {room : ℕ} {g : Form X} {see : X → V} {f : StepOf V} (k : Mark) → ((x : X) (o : Option Symbol) → meets (is_mark k) o ≡ true → g.Stops x o) → Rule m room g see f
    → Rule m room (separated_form k g) (λ xs. map see (all_of xs)) (separated_at k f)
separated_rule {X} {V} {m = m} {room = room} {g = g} {see = see} {f = f} k stops r =
    recast_rule {g = both_by g (tail_form k g)} (separated k g.spell) (λ xs. map see (all_of xs)) (λ p. record { first = p.0; more = p.1 }) (λ xs. (xs.first, xs.more)) (λ p. refl) (λ xs. refl) (λ xs. refl)
    (record { keeps = keeps; some = (r.some, []); fits = both_fit m g (tail_form k g) r.some [] room r.fits (fitting m (tail_form k g r.some) [] room tt); enters = r.enters }) where
      tail_keeps : (x : X) → Keeps m (tail_form k g x) (map see) (repeat_at (is_mark k) (next_at k f)) room
      tail_keeps x = repeat_keeps (next_form k g) see (next_at k f) (is_mark k) (λ y more. same_kind-refl (kinds.Mark k)) stops m room (g.Stops x) (λ o. tt) (after_mark k r).keeps

      opens : (x : X) (ys : List X) (rest : List Symbol) → (tail_form k g x).Stops ys (next rest) → g.Stops x (next ((tail_form k g x).spell ys ++ rest))
      opens x [] rest s = s.1
      opens x (y ∷ ys) rest s = stops x (Some (mark k)) (same_kind-refl (kinds.Mark k))

      keeps : Keeps m (both_by g (tail_form k g)) (λ p. see p.0 ∷ map see p.1) (separated_at k f) room
      keeps =
          then_keeps g (tail_form k g) see (λ x xs. see x ∷ map see xs) f (λ v. repeat_at (is_mark k) (next_at k f) >>= λ vs. give (v ∷ vs)) (λ x o s. s) opens m room r.keeps
          (λ x. map_keeps (tail_form k g x) (map see) (λ vs. see x ∷ vs) (repeat_at (is_mark k) (next_at k f)) m room (tail_keeps x)) (λ x. []) (λ x. fitting m (tail_form k g x) [] room tt)

-- ---- choices

-- the one or the other, by the next symbol
pub either_rule : {X Y V : Type 0} {m : Aspect} {room : ℕ} {g : Form X} {d : Form Y} {see_x : X → V} {see_y : Y → V} {f k : StepOf V} (begins : Symbol → Bool) → ((x : X) (rest : List Symbol) → meets begins (next (g.spell x ++ rest)) ≡ true)
    → ((y : Y) (rest : List Symbol) → d.Stops y (next rest) → meets begins (next (d.spell y ++ rest)) ≡ false) → Rule m room g see_x f → Rule m room d see_y k → Rule m room (either g d) (see_either see_x see_y) (choose_at begins f k)
either_rule {m = m} {room = room} {g = g} {d = d} {see_x = see_x} {see_y = see_y} {f = f} {k = k} begins first second r s = record {
  keeps = choose_keeps g see_x d see_y begins f k (λ x rest i. first x rest) second (λ o i. r.enters o) (λ o i. s.enters o) m room r.keeps s.keeps;
  some = inl r.some;
  fits = fitting_by m g (either g d) r.some (inl r.some) room (λ h. h) r.fits;
  enters = λ o. tt;
}

-- ---- [part]

abbrev none : (Symbol → Bool) → Form (Unit {0})
none begins = nothing (λ o. meets begins o ≡ false)

abbrev from_option : {X : Type 0} → Option X → X ⊎ Unit {0}
from_option None = inr tt
from_option (Some x) = inl x

abbrev to_option : {X : Type 0} → X ⊎ Unit {0} → Option X
to_option (inl x) = Some x
to_option (inr u) = None

option_back : {X : Type 0} (z : X ⊎ Unit {0}) → from_option (to_option z) ≡ z
option_back (inl x) = refl
option_back (inr u) = refl

-- a part that may be left out
abbrev pub optional : {X : Type 0} → Form X → (Symbol → Bool) → Form (Option X)
optional g begins = recast (either g (none begins)) (spell_option g.spell) from_option

option_spelled : {X : Type 0} (g : Form X) (begins : Symbol → Bool) (o : Option X) → (either g (none begins)).spell (from_option o) ≡ spell_option g.spell o
option_spelled g begins None = refl
option_spelled g begins (Some x) = refl

-- what a part means, or what it means to leave it out
abbrev pub see_optional : {X V : Type 0} → (X → V) → V → Option X → V
see_optional see v None = v
see_optional see v (Some x) = see x

option_seen : {X V : Type 0} (see : X → V) (v : V) (o : Option X) → see_either see (λ u. v) (from_option o) ≡ see_optional see v o
option_seen see v None = refl
option_seen see v (Some x) = refl

-- where the next symbol says whether the part begins
pub optional_rule : {X V : Type 0} {m : Aspect} {room : ℕ} {g : Form X} {see : X → V} {f : StepOf V} (begins : Symbol → Bool) (v : V) → ((x : X) (rest : List Symbol) → meets begins (next (g.spell x ++ rest)) ≡ true) → Rule m room g see f
    → Rule m room (optional g begins) (see_optional see v) (choose_at begins f (give v))
optional_rule {m = m} {room = room} {g = g} {see = see} {f = f} begins v starts r =
    recast_rule {g = either g (none begins)} (spell_option g.spell) (see_optional see v) to_option from_option option_back (option_spelled g begins) (option_seen see v)
    (record {
      keeps = choose_keeps g see (none begins) (λ u. v) begins f (give v) (λ x rest s. starts x rest) (λ u rest s. s) (λ o i. r.enters o) (λ o i. i) m room r.keeps (give_keeps v (λ o. meets begins o ≡ false) m room);
      some = inr tt;
      fits = fitting m (either g (none begins)) (inr tt) room tt;
      enters = λ o. tt;
    })

-- ---- a part, and then another that may be left out

-- the other part, or what stops the first
abbrev tail_option : {X Y : Type 0} → Form X → Form Y → (Symbol → Bool) → X → Form (Option Y)
tail_option g d begins x = recast (either_in d (nothing (λ o. (meets begins o ≡ false) × g.Stops x o)) (g.Stops x)) (spell_option d.spell) from_option

abbrev pub with_option : {X Y : Type 0} → Form X → Form Y → (Symbol → Bool) → Form (X × Option Y)
with_option g d begins = both_by g (tail_option g d begins)

pub with_option_rule : {X Y V W Z : Type 0} {m : Aspect} {room : ℕ} {g : Form X} {d : Form Y} {see : X → V} {see_y : Y → W} {f : StepOf V} {h : StepOf W} (begins : Symbol → Bool) (none : W) (join : V → W → Z)
    → ((y : Y) (rest : List Symbol) → meets begins (next (d.spell y ++ rest)) ≡ true) → ((x : X) (o : Option Symbol) → meets begins o ≡ true → g.Stops x o) → Rule m room g see f → Rule m room d see_y h
    → Rule m room (with_option g d begins) (λ p. join (see p.0) (see_optional see_y none p.1)) (f >>= λ v. choose_at begins h (give none) >>= λ w. give (join v w))
with_option_rule {X} {Y} {V} {W} {m = m} {room = room} {g = g} {d = d} {see = see} {see_y = see_y} {f = f} {h = h} begins none join starts stops r s = record {
  keeps =
      then_keeps g (tail_option g d begins) see (λ x o. join (see x) (see_optional see_y none o)) f (λ v. choose_at begins h (give none) >>= λ w. give (join v w)) (λ x o i. i) opens m room r.keeps
      (λ x. map_keeps (tail_option g d begins x) (see_optional see_y none) (join (see x)) (choose_at begins h (give none)) m room (tail_keeps x)) (λ x. None) (λ x. fitting m (tail_option g d begins x) None room tt);
  some = (r.some, None);
  fits = both_fit m g (tail_option g d begins) r.some None room r.fits (fitting m (tail_option g d begins r.some) None room tt);
  enters = r.enters;
} where
  option_said : (x : X) (o : Option Y) → (either_in d (nothing (λ t. (meets begins t ≡ false) × g.Stops x t)) (g.Stops x)).spell (from_option o) ≡ spell_option d.spell o
  option_said x None = refl
  option_said x (Some y) = refl

  tail_keeps : (x : X) → Keeps m (tail_option g d begins x) (see_optional see_y none) (choose_at begins h (give none)) room
  tail_keeps x =
      recast_keeps (either_in d (nothing (λ o. (meets begins o ≡ false) × g.Stops x o)) (g.Stops x)) (see_either see_y (λ u. none)) (spell_option d.spell) (see_optional see_y none) to_option from_option option_back (option_said x) (option_seen see_y none) m (choose_at begins h (give none)) room
      (choose_in_keeps d see_y (nothing (λ o. (meets begins o ≡ false) × g.Stops x o)) (λ u. none) begins h (give none) (λ y rest t. starts y rest) (λ u rest t. t.0) (g.Stops x) (λ o e n. s.enters o) (λ o e n. (e, n)) m room s.keeps (give_keeps none (λ o. (meets begins o ≡ false) × g.Stops x o) m room))

  opens : (x : X) (o : Option Y) (rest : List Symbol) → (tail_option g d begins x).Stops o (next rest) → g.Stops x (next ((tail_option g d begins x).spell o ++ rest))
  opens x None rest t = t.1
  opens x (Some y) rest t = stops x _ (starts y rest)
