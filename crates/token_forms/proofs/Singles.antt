-- The laws of single symbols: a keyword, a mark or the end before another step, names and numbers.
use Rattle.std.proofs.Common.{◌≡◌, ℕ, zero, suc, Bool, true, false, cond, [], ◌∷◌, Option, Some, None, refl, sym, ap, subst}
use Rattle.std.specs.Prelude.{ℤ, pos, negsuc}
use Rattle.priz_base.specs.declared.place.Place.{Place}
use Rattle.utopist_lexer.specs.declared.token.Kind.{Kind}
use Rattle.utopist_lexer.specs.declared.token.Kind.TheVariants as kinds
use Rattle.utopist_lexer.specs.Places.{first_place}
use Rattle.utopist_syntax.specs.Named.{Named}
use Rattle.token_forms.specs.Symbols.{Symbol, name, sub, number, fixed}
use Rattle.token_forms.specs.steps.Steps.{StepOf, ◌>>=◌}
use Rattle.token_forms.specs.steps.Single.{is_kind, want_kind, want_name, natural, naturals, positive, want_number, placed, want_sub, fixed_at, name_at, number_at, divisor_at, sub_at}
use Rattle.token_forms.proofs.SameKind.{some_same, same_kind-true, same_kind-refl}
use Rattle.token_forms.proofs.StepLaws.{Form, Aspect, Keeps, Fitting}
use Rattle.token_forms.proofs.Sequence.{both, then_keeps}
use Rattle.token_forms.proofs.Recast.{recast, recast_keeps}
use Rattle.token_forms.proofs.Tokens.{one_symbol, token_keeps}

abbrev One : Type 0
One = Unit {0}

-- ---- a keyword, a mark, the end

-- a kind of which the kind alone counts
abbrev pub IsFixed : Kind → Type 0
IsFixed kinds.Name = ⊥
IsFixed (kinds.Word w) = One
IsFixed (kinds.Number i) = One
IsFixed (kinds.Sub i j) = ⊥
IsFixed (kinds.Mark m) = One
IsFixed kinds.End = One

wanted : (b : Bool) (v : One) → cond b (Some tt) None ≡ Some v → b ≡ true
wanted true v e = refl
wanted false v e = absurd cc

abbrev pub fixed_form : Kind → Form One
fixed_form k = one_symbol (λ u. fixed k)

-- a fixed symbol, and then what follows
abbrev pub after : {Y : Type 0} → Kind → Form Y → Form Y
after k d = recast (both (fixed_form k) d) (λ y. fixed k ∷ d.spell y) (λ y. (tt, y))

module _ (k : Kind) (is_fixed : IsFixed k) where
  fixed_found : (u : One) → want_kind k (fixed k) ≡ Some tt
  fixed_found u = rw (same_kind-refl k) refl

  pub fixed_is : (c : Symbol) → is_kind k c ≡ true → c ≡ fixed k
  fixed_is (name n) e = absurd (subst IsFixed (sym (same_kind-true kinds.Name k e)) is_fixed)
  fixed_is (sub i j p) e = absurd (subst IsFixed (sym (same_kind-true (kinds.Sub i j) k e)) is_fixed)
  fixed_is (fixed j) e = ap (λ (x : Kind). fixed x) (same_kind-true j k e)

  fixed_finds : (c : Symbol) (v : One) → want_kind k c ≡ Some v → (x : One) × (c ≡ fixed k) × (tt ≡ v)
  fixed_finds c v e = (tt, fixed_is c (wanted (is_kind k c) v e), refl)

  fixed_keeps : (m : Aspect) (room : ℕ) → Keeps m (fixed_form k) (λ u. tt) (fixed_at k) room
  unfolding fixed_at
  fixed_keeps m room = token_keeps (want_kind k) (λ u. fixed k) (λ u. tt) fixed_found fixed_finds tt m room

  pub after_keeps : {Y V : Type 0} (m : Aspect) (d : Form Y) (see : Y → V) (f : StepOf V) (room : ℕ) → Keeps m d see f room → ((o : Option Symbol) → d.Enters o) → (some : Y) → Fitting m d some room → Keeps m (after k d) see (fixed_at k >>= λ u. f) room
  after_keeps m d see f room a enters some fits =
      recast_keeps (both (fixed_form k) d) (λ p. see p.1) (λ y. fixed k ∷ d.spell y) see (λ p. p.1) (λ y. (tt, y)) (λ p. refl) (λ y. refl) (λ y. refl) m (fixed_at k >>= λ u. f) room
      (then_keeps (fixed_form k) (λ u. d) (λ u. tt) (λ u y. see y) (fixed_at k) (λ u. f) (λ u o s. enters o) (λ u y rest s. tt) m room (fixed_keeps m room) (λ u. a) (λ u. some) (λ u. fits))

-- ---- a name

name_finds : (c : Symbol) (n : Named) → want_name c ≡ Some n → (x : Named) × (c ≡ name x) × (x ≡ n)
name_finds (name m) n e = (m, refl, some_same m n e)
name_finds (sub i j p) n e = absurd cc
name_finds (fixed k) n e = absurd cc

-- some name
abbrev pub some_name : Named
some_name = record { text = []; place = first_place }

abbrev pub name_form : Form Named
name_form = one_symbol (λ n. name n)

pub name_keeps : (m : Aspect) (room : ℕ) → Keeps m name_form (λ n. n) name_at room
unfolding name_at
name_keeps m room = token_keeps want_name (λ n. name n) (λ n. n) (λ n. refl) name_finds some_name m room

-- ---- a number

natural_is : (i v : ℤ) → natural i ≡ Some v → (n : ℕ) × (i ≡ pos n) × (pos n ≡ v)
natural_is (pos n) v e = (n, refl, some_same (pos n) v e)
natural_is (negsuc n) v e = absurd cc

positive_is : (i v : ℤ) → positive i ≡ Some v → (n : ℕ) × (i ≡ pos (suc n)) × (pos (suc n) ≡ v)
positive_is (pos zero) v e = absurd cc
positive_is (pos (suc n)) v e = (n, refl, some_same (pos (suc n)) v e)
positive_is (negsuc n) v e = absurd cc

module _ (wants : ℤ → Option ℤ) (value : ℕ → ℤ) (found : (n : ℕ) → wants (value n) ≡ Some (value n)) (is : (i v : ℤ) → wants i ≡ Some v → (n : ℕ) × (i ≡ value n) × (value n ≡ v)) where
  number_finds : (c : Symbol) (v : ℤ) → want_number wants c ≡ Some v → (n : ℕ) × (c ≡ number (value n)) × (value n ≡ v)
  number_finds (name m) v e = absurd cc
  number_finds (sub i j p) v e = absurd cc
  number_finds (fixed kinds.Name) v e = absurd cc
  number_finds (fixed (kinds.Word w)) v e = absurd cc
  number_finds (fixed (kinds.Number i)) v e = let h = is i v e in (h.0, ap (λ (x : ℤ). number x) h.1, h.2)
  number_finds (fixed (kinds.Sub i j)) v e = absurd cc
  number_finds (fixed (kinds.Mark m)) v e = absurd cc
  number_finds (fixed kinds.End) v e = absurd cc

abbrev pub number_form : Form ℕ
number_form = one_symbol (λ n. number (pos n))

pub number_keeps : (m : Aspect) (room : ℕ) → Keeps m number_form (λ n. pos n) number_at room
unfolding number_at
number_keeps m room =
    token_keeps (want_number natural) (λ n. number (pos n)) (λ n. pos n) (λ n. refl) (number_finds natural (λ n. pos n) (λ n. refl) natural_is) 0 m room

-- a number that is not 0, less one
abbrev pub divisor_form : Form ℕ
divisor_form = one_symbol (λ n. number (pos (suc n)))

pub divisor_keeps : (m : Aspect) (room : ℕ) → Keeps m divisor_form (λ n. pos (suc n)) divisor_at room
unfolding divisor_at
divisor_keeps m room =
    token_keeps (want_number positive) (λ n. number (pos (suc n))) (λ n. pos (suc n)) (λ n. refl) (number_finds positive (λ n. pos (suc n)) (λ n. refl) positive_is) 0 m room

-- ---- the number of a subtask

placed_is : (p : Place) (i j : ℤ) (v : (ℤ × ℤ) × Place) → placed p (naturals i j) ≡ Some v → (x : (ℕ × ℕ) × Place) × (sub i j p ≡ sub (pos x.0.0) (pos x.0.1) x.1) × (((pos x.0.0, pos x.0.1), x.1) ≡ v)
placed_is p (pos n) (pos m) v e = (((n, m), p), refl, some_same ((pos n, pos m), p) v e)
placed_is p (pos n) (negsuc m) v e = absurd cc
placed_is p (negsuc n) j v e = absurd cc

sub_finds : (c : Symbol) (v : (ℤ × ℤ) × Place) → want_sub c ≡ Some v → (x : (ℕ × ℕ) × Place) × (c ≡ sub (pos x.0.0) (pos x.0.1) x.1) × (((pos x.0.0, pos x.0.1), x.1) ≡ v)
sub_finds (name n) v e = absurd cc
sub_finds (sub i j p) v e = placed_is p i j v e
sub_finds (fixed k) v e = absurd cc

abbrev pub sub_form : Form ((ℕ × ℕ) × Place)
sub_form = one_symbol (λ x. sub (pos x.0.0) (pos x.0.1) x.1)

pub sub_keeps : (m : Aspect) (room : ℕ) → Keeps m sub_form (λ x. ((pos x.0.0, pos x.0.1), x.1)) sub_at room
unfolding sub_at
sub_keeps m room = token_keeps want_sub (λ x. sub (pos x.0.0) (pos x.0.1) x.1) (λ x. ((pos x.0.0, pos x.0.1), x.1)) (λ x. refl) sub_finds ((0, 0), first_place) m room
