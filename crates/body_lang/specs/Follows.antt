-- How an exact run follows a narrow one.
use Rattle.std.specs.Prelude.{◌≡◌, ◌⊎◌, ℕ, List, Result, Ok, Err}
use Rattle.priz_frac.specs.Ratio.{Ratio}
use Rattle.body_lang.specs.Meaning.{Calls}
use Rattle.body_lang.specs.Stop.{Stop, no_row}

-- where the narrow run ends in a value, the exact run ends in the same value, whatever its turns
abbrev pub RunFollows : {A : Type 0} → Result (A × ℕ) Stop → (ℕ → Result (A × ℕ) Stop) → Type 0
RunFollows {A} narrow exact = (v : A) (t u : ℕ) → narrow ≡ Ok (v, t) → exact u ≡ Ok (v, u)

-- the same, unless the exact run finds no row for a call
abbrev pub RunFollowsOnRows : {A : Type 0} → Result (A × ℕ) Stop → (ℕ → Result (A × ℕ) Stop) → Type 0
RunFollowsOnRows {A} narrow exact =
    (v : A) (t u : ℕ) → narrow ≡ Ok (v, t) → (exact u ≡ Err no_row) ⊎ (exact u ≡ Ok (v, u))

-- the answers of exact runs follow those of narrow runs
abbrev pub CallsFollow : Calls → Calls → Type 0
CallsFollow narrow exact =
    (k out : ℕ) (arguments : List Ratio) (t : ℕ) → RunFollows (narrow k out arguments t) (λ u. exact k out arguments u)

-- the same, unless there is no row for them
abbrev pub CallsFollowOnRows : Calls → Calls → Type 0
CallsFollowOnRows narrow exact =
    (k out : ℕ) (arguments : List Ratio) (t : ℕ)
    → RunFollowsOnRows (narrow k out arguments t) (λ u. exact k out arguments u)
