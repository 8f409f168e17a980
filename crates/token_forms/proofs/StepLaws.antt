-- The laws of a reading step: what it reads again, what it has read, and where it fails.
use Rattle.std.proofs.Common.{◌≡◌, ℕ, suc, ◌≤◌, List, [], ◌∷◌, ◌++◌, length, Option, Ok, Err, refl, ap, arith, inl, inr}
use Rattle.std.specs.Prelude.{◌⊎◌}
use Rattle.token_forms.specs.Symbols.{Symbol}
use Rattle.token_forms.specs.steps.Steps.{Why, Unexpected, TooDeep, Miss, Reading, StepOf, on_ok, next}

-- the rooms at which the same reading has the same fault: any larger one, or for a limit this one alone
abbrev pub Reaches : Why → ℕ → ℕ → Type 0
Reaches Unexpected m M = m ≤ M
Reaches TooDeep m M = M ≡ m

pub reaches_up : (w : Why) (m M : ℕ) → Reaches w m M → m ≤ M
reaches_up Unexpected m M r = r
reaches_up TooDeep m M r = omega (arith, r)

-- a fact of the first symbol, where there is one
abbrev pub AtHead : List Symbol → (Symbol → Type 0) → Type 0
AtHead [] P = Unit {0}
AtHead (c ∷ cs) P = P c

pub at_head : (P Q : Symbol → Type 0) → ((c : Symbol) → P c → Q c) → (ts : List Symbol) → AtHead ts P → AtHead ts Q
at_head P Q f [] h = tt
at_head P Q f (c ∷ cs) h = f c h

-- the parts that a step reads: their symbols, at which room they fit, what may stand behind, and what at the start where the parts may be none
pub record Form (X : Type 0) : Type 1 where
  pub spell : X → List Symbol
  pub Fits : X → ℕ → Type 0
  pub grows : (x : X) (m M : ℕ) → m ≤ M → Fits x m → Fits x M
  pub Stops : X → Option Symbol → Type 0
  pub Enters : Option Symbol → Type 0

-- with this symbol behind the front, the reading fails at it
pub record Stuck {V : Type 0} (f : StepOf V) (room : ℕ) (why : Why) (front : List Symbol) (c : Symbol) : Type 0 where
  pub fails : (M : ℕ) → Reaches why room M → (more : List Symbol) → f M (front ++ (c ∷ more)) ≡ Err (why, suc (length more))

-- what is too deep goes on where there is more room
abbrev pub Further : {X : Type 0} → Form X → Why → List Symbol → Symbol → Type 0
Further g Unexpected front c = Unit {0}
Further {X} g TooDeep front c = (x : X) × (more : List Symbol) × (g.spell x ≡ front ++ (c ∷ more)) × (M : ℕ) × g.Fits x M

-- what was read is a part
pub record Took {X V : Type 0} (g : Form X) (see : X → V) (room : ℕ) (ts : List Symbol) (v : V × List Symbol) : Type 0 where
  pub part : X
  pub seen : see part ≡ v.0
  pub parts : ts ≡ g.spell part ++ v.1
  pub fits : g.Fits part room
  pub stops : g.Stops part (next v.1)

-- where a reading fails, what stands before begins a part, and nothing goes on with the wrong symbol
pub record Blames {X V : Type 0} (g : Form X) (f : StepOf V) (room : ℕ) (ts : List Symbol) (fault : Miss) : Type 0 where
  pub front : List Symbol
  pub wrong : List Symbol
  pub split : ts ≡ front ++ wrong
  pub size : length wrong ≡ fault.1
  pub begun : X
  pub more : List Symbol
  pub fits : g.Fits begun room
  pub begins : g.spell begun ≡ front ++ more
  pub stuck : AtHead wrong (Stuck f room fault.0 front)
  pub further : AtHead wrong (Further g fault.0 front)

-- each part that fits is read again, whatever stands behind that stops it
pub record AgainAt {X V : Type 0} (g : Form X) (see : X → V) (f : StepOf V) (M : ℕ) : Type 0 where
  pub again : (x : X) → g.Fits x M → (rest : List Symbol) → g.Stops x (next rest) → f M (g.spell x ++ rest) ≡ Ok (see x, rest)

pub record Laws {X V : Type 0} (g : Form X) (see : X → V) (f : StepOf V) (room : ℕ) : Type 0 where
  pub again : (M : ℕ) → AgainAt g see f M
  pub take : (ts : List Symbol) (v : V × List Symbol) → g.Enters (next ts) → f room ts ≡ Ok v → Took g see room ts v
  pub blames : (ts : List Symbol) (e : Miss) → g.Enters (next ts) → f room ts ≡ Err e → Blames g f room ts e

-- ---- the two rounds in which the laws of steps that nest are proved

-- that parts are read again, at one room, and then all laws
pub data Aspect : Type 0 where
  again_only : Aspect
  all_laws : Aspect

-- a step keeps the laws of an aspect at a room
abbrev pub Keeps : {X V : Type 0} → Aspect → Form X → (X → V) → StepOf V → ℕ → Type 0
Keeps again_only g see f room = AgainAt g see f room
Keeps all_laws g see f room = Laws g see f room

-- where all laws are asked for, this part fits
abbrev pub Fitting : {X : Type 0} → Aspect → Form X → X → ℕ → Type 0
Fitting again_only g x room = Unit {0}
Fitting all_laws g x room = g.Fits x room

-- ---- answers of steps

pub failed_is : (V : Type 0) (e d : Miss) → ◌≡◌ {A = Reading V} (Err e) (Err d) → e ≡ d
failed_is V e d h = cc

pub ok_is : {V : Type 0} (v w : V × List Symbol) → ◌≡◌ {A = Reading V} (Ok v) (Ok w) → v ≡ w
ok_is v w h = cc

pub then_ok : {V W : Type 0} (r : Reading V) (f : V × List Symbol → Reading W) (y : W × List Symbol) → on_ok r f ≡ Ok y → (x : V × List Symbol) × (r ≡ Ok x) × (f x ≡ Ok y)
then_ok (Ok x) f y e = (x, refl, e)
then_ok (Err d) f y e = absurd cc

pub then_err : {V W : Type 0} (r : Reading V) (f : V × List Symbol → Reading W) (e : Miss) → on_ok r f ≡ Err e → (r ≡ Err e) ⊎ ((x : V × List Symbol) × (r ≡ Ok x) × (f x ≡ Err e))
then_err (Ok x) f e h = inr (x, refl, h)
then_err {V = V} {W = W} (Err d) f e h = inl (ap (λ (q : Miss). failed_at V q) (failed_is W d e h)) where
  failed_at : (U : Type 0) → Miss → Reading U
  failed_at U q = Err q

pub same_next : (front : List Symbol) (c : Symbol) (cs more : List Symbol) → next (front ++ (c ∷ cs)) ≡ next (front ++ (c ∷ more))
same_next [] c cs more = refl
same_next (d ∷ front) c cs more = refl
