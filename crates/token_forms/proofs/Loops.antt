-- {part} read part by part, as a loop does.
use Rattle.std.proofs.Common.{◌≡◌, ℕ, zero, suc, ◌≤◌, ◌<◌, Bool, true, false, List, [], ◌∷◌, ◌++◌, length, Ok, Err, refl, sym, ap, ◌∙◌, append_assoc, arith}
use Rattle.std.proofs.lemmas.List.{append-nil}
use Rattle.token_forms.specs.declared.parse_stop.ParseStop.TheVariants as stop
use Rattle.token_forms.specs.Symbols.{Symbol}
use Rattle.token_forms.specs.steps.Steps.{Reading, ReadOf, Miss, on_ok, next, meets, repeat_fuel}
use Rattle.token_forms.specs.steps.Answers.{StoppedAt, Fails}

-- what was read before, and what is still read
abbrev pub with_front : {V : Type 0} → List V → Reading (List V) → Reading (List V)
with_front front read = on_ok read (λ p. Ok (front ++ p.0, p.1))

-- one more part in front of what is still read
regroup : {V : Type 0} (front : List V) (v : V) (read : Reading (List V)) → with_front front (with_front (v ∷ []) read) ≡ with_front (front ++ v ∷ []) read
regroup {V} front v (Ok p) = ap (λ (vs : List V). Ok (vs, p.1)) (simp append_assoc)
regroup front v (Err e) = refl

-- nothing was read before
pub with_front-nil : {V : Type 0} (read : Reading (List V)) → with_front [] read ≡ read
with_front-nil (Ok p) = refl
with_front-nil (Err e) = refl

-- a reading that fails where another does
pub fails_on : {V W : Type 0} (e : StoppedAt) (r : Reading V) (s : Reading W) → ((x : Miss) → r ≡ Err x → s ≡ Err x) → Fails e r → Fails e s
fails_on (stop.NoMem, new) r s f h = tt
fails_on (stop.Wrong why, new) r s f h = f _ h

module _ {V : Type 0} (begins : Symbol → Bool) (read : ReadOf V) where
  -- the parts so far, and those that still come, of which there is room for all
  pub record SoFar (front : List V) (ts : List Symbol) (total : Reading (List V)) : Type 0 where
    pub fuel : ℕ
    pub enough : length ts ≤ fuel
    pub gives : with_front front (repeat_fuel begins read fuel ts) ≡ total

  -- where a part begins there is a symbol
  nonempty : (ts : List Symbol) → true ≡ meets begins (next ts) → 1 ≤ length ts
  nonempty [] e = absurd cc
  nonempty (t ∷ ts) e = omega arith

  -- one more part, of so many at most
  goes_on-at : (k : ℕ) (front : List V) (ts : List Symbol) (v : V) (rest : List Symbol) (total : Reading (List V)) → true ≡ meets begins (next ts) → read ts ≡ Ok (v, rest) → length rest < length ts → length ts ≤ k
      → with_front front (repeat_fuel begins read k ts) ≡ total → SoFar (front ++ v ∷ []) rest total
  unfolding repeat_fuel
  goes_on-at zero front ts v rest total starts e shorter enough so_far = absurd (omega arith)
  goes_on-at (suc k) front ts v rest total starts e shorter enough so_far =
      let here : repeat_fuel begins read (suc k) ts ≡ with_front (v ∷ []) (repeat_fuel begins read k rest) = rw (← starts, e) refl in
      record { fuel = k; enough = omega arith; gives = sym (regroup front v (repeat_fuel begins read k rest)) ∙ ap (with_front front) (sym here) ∙ so_far }

  -- one more part
  pub goes_on : (front : List V) (ts : List Symbol) (v : V) (rest : List Symbol) (total : Reading (List V)) → true ≡ meets begins (next ts) → read ts ≡ Ok (v, rest) → length rest < length ts → SoFar front ts total → SoFar (front ++ v ∷ []) rest total
  goes_on front ts v rest total starts e shorter so_far = goes_on-at so_far.fuel front ts v rest total starts e shorter so_far.enough so_far.gives

  -- no part begins, whatever is the most
  ends-at : (k : ℕ) (ts : List Symbol) → false ≡ meets begins (next ts) → repeat_fuel begins read k ts ≡ Ok ([], ts)
  unfolding repeat_fuel
  ends-at zero ts stops = refl
  ends-at (suc k) ts stops = rw (← stops) refl

  -- no part begins: those so far are all
  pub ends : (front : List V) (ts : List Symbol) (total : Reading (List V)) → false ≡ meets begins (next ts) → SoFar front ts total → total ≡ Ok (front, ts)
  ends front ts total stops so_far =
      sym so_far.gives ∙ ap (with_front front) (ends-at so_far.fuel ts stops) ∙ ap (λ (vs : List V). Ok (vs, ts)) (append-nil front)

  -- a part fails, of so many at most
  fails-at : (k : ℕ) (fault : Miss) (front : List V) (ts : List Symbol) (total : Reading (List V)) → true ≡ meets begins (next ts) → read ts ≡ Err fault → length ts ≤ k → with_front front (repeat_fuel begins read k ts) ≡ total → total ≡ Err fault
  unfolding repeat_fuel
  fails-at zero fault front ts total starts e enough so_far = absurd (omega (arith, nonempty ts starts))
  fails-at (suc k) fault front ts total starts e enough so_far =
      let here : repeat_fuel begins read (suc k) ts ≡ Err fault = rw (← starts, e) refl in
      sym so_far ∙ ap (with_front front) here

  -- a part fails, and the whole with it
  pub fails : (e : StoppedAt) (front : List V) (ts : List Symbol) (total : Reading (List V)) → true ≡ meets begins (next ts) → Fails e (read ts) → SoFar front ts total → Fails e total
  fails e front ts total starts h so_far = fails_on e (read ts) total (λ x i. fails-at so_far.fuel x front ts total starts i so_far.enough so_far.gives) h

  -- no part yet
  at_first : (ts : List Symbol) → SoFar [] ts (repeat_fuel begins read (length ts) ts)
  at_first ts = record { fuel = length ts; enough = omega arith; gives = with_front-nil (repeat_fuel begins read (length ts) ts) }

  -- the first part, where one begins
  pub first_part : (ts : List Symbol) (v : V) (rest : List Symbol) → true ≡ meets begins (next ts) → read ts ≡ Ok (v, rest) → length rest < length ts → SoFar (v ∷ []) rest (repeat_fuel begins read (length ts) ts)
  first_part ts v rest starts e shorter = goes_on [] ts v rest (repeat_fuel begins read (length ts) ts) starts e shorter (at_first ts)

  -- the first part fails, and the whole with it
  pub no_first_part : (e : StoppedAt) (ts : List Symbol) → true ≡ meets begins (next ts) → Fails e (read ts) → Fails e (repeat_fuel begins read (length ts) ts)
  no_first_part e ts starts h = fails e [] ts (repeat_fuel begins read (length ts) ts) starts h (at_first ts)

  -- no part at all
  pub no_part : (ts : List Symbol) → false ≡ meets begins (next ts) → repeat_fuel begins read (length ts) ts ≡ Ok ([], ts)
  no_part ts stops = ends [] ts (repeat_fuel begins read (length ts) ts) stops (at_first ts)
