-- Reading symbols in steps, each of which gives a value and what is left, or fails at a symbol.
use Rattle.std.specs.Prelude.{ℕ, zero, suc, Bool, false, if◌then◌else◌, List, [], ◌∷◌, length, drop, Option, Some, None, Result, Ok, Err}
use Rattle.token_forms.specs.Symbols.{Symbol}
pub use Rattle.token_forms.specs.declared.parse_stop.Why.{Why}
pub use Rattle.token_forms.specs.declared.parse_stop.Why.TheVariants.{Unexpected, TooDeep}

-- why, and how many symbols are left at the first wrong one
abbrev pub Miss : Type 0
Miss = Why × ℕ

-- what was read, and the symbols that are left
abbrev pub Reading : Type 0 → Type 0
Reading V = Result (V × List Symbol) Miss

-- a step reads the front of a list of symbols, and nests at most one more than its room
abbrev pub StepOf : Type 0 → Type 0
StepOf V = ℕ → List Symbol → Reading V

-- what goes on where nothing failed
abbrev pub on_ok : {V W : Type 0} → Reading V → (V × List Symbol → Reading W) → Reading W
on_ok (Ok x) f = f x
on_ok (Err e) f = Err e

infixl 10 ◌>>=◌
-- one step after another
abbrev pub ◌>>=◌ : {V W : Type 0} → StepOf V → (V → StepOf W) → StepOf W
f >>= k = λ room ts. on_ok (f room ts) (λ p. k p.0 room p.1)

-- this value, and nothing is read
abbrev pub give : {V : Type 0} → V → StepOf V
give v room ts = Ok (v, ts)

-- the next symbol
abbrev pub next : List Symbol → Option Symbol
next [] = None
next (c ∷ cs) = Some c

-- a test of the next symbol, where there is one
abbrev pub meets : (Symbol → Bool) → Option Symbol → Bool
meets test None = false
meets test (Some c) = test c

-- the value of a symbol that was wanted
abbrev pub token_value : {V : Type 0} → Option V → List Symbol → List Symbol → Reading V
token_value None ts rest = Err (Unexpected, length ts)
token_value (Some v) ts rest = Ok (v, rest)

-- one symbol that is wanted
abbrev pub token_at : {V : Type 0} → (Symbol → Option V) → StepOf V
token_at want room [] = Err (Unexpected, 0)
token_at want room (c ∷ cs) = token_value (want c) (c ∷ cs) cs

-- the one or the other, by the next symbol
abbrev pub choose_at : {V : Type 0} → (Symbol → Bool) → StepOf V → StepOf V → StepOf V
choose_at begins f k room ts = if meets begins (next ts) then f room ts else k room ts

-- reading at a room that is settled
abbrev pub ReadOf : Type 0 → Type 0
ReadOf V = List Symbol → Reading V

-- {part}, at most so many, where the next symbol says whether one more begins
unfoldable pub repeat_fuel : {V : Type 0} → (Symbol → Bool) → ReadOf V → ℕ → ReadOf (List V)
repeat_fuel begins read zero ts = Ok ([], ts)
repeat_fuel begins read (suc k) ts =
    if meets begins (next ts) then on_ok (read ts) (λ p. on_ok (repeat_fuel begins read k p.1) (λ q. Ok (p.0 ∷ q.0, q.1))) else Ok ([], ts)

-- {part}
abbrev pub repeat_at : {V : Type 0} → (Symbol → Bool) → StepOf V → StepOf (List V)
repeat_at begins f room ts = repeat_fuel begins (f room) (length ts) ts

-- the value of the next symbol, which is wanted
abbrev pub picked : {V : Type 0} → Option V → List Symbol → Reading V
picked None ts = Err (Unexpected, length ts)
picked (Some v) ts = Ok (v, drop 1 ts)

-- one symbol that has a value
abbrev pub pick_at : {V : Type 0} → (Option Symbol → Option V) → StepOf V
pick_at find room ts = picked (find (next ts)) ts

-- one level below, where there is room for it; else the next symbol is too deep
abbrev pub deeper : {V : Type 0} → ℕ → List Symbol → Reading V → Reading V
deeper zero ts read = Err (TooDeep, length ts)
deeper (suc room) ts read = read

-- what is one level deeper than its parts
abbrev pub deeper_at : {V : Type 0} → StepOf V → StepOf V
deeper_at f room ts = deeper room ts (f room ts)
