-- The words of one world of a list.
use Rattle.std.proofs.Common.{◌≡◌, ℕ, ◌<◌, List, length, get_or, Some, ap, sym, ◌∙◌}
use Rattle.std.specs.Prelude.{IsSomeAnd, slice_get}
use Rattle.std.proofs.lemmas.Option.{slice_get-get_or, slice_get_within, get_or_from_slice_get}
use Rattle.priz_base.specs.Bits.{HasBits}
use Rattle.statement_set.proofs.Lists.{some_and_at}

-- words that have the bits of the world that is found there
pub bits_at : (L : List (List ℕ)) (i : ℕ) (words world : List ℕ) → i < length L → world ≡ get_or L i world → HasBits words world → IsSomeAnd (slice_get L i) (HasBits words)
bits_at L i words world lt is bits = some_and_at (slice_get L i) (HasBits words) world (slice_get-get_or L i world lt ∙ ap Some (sym is)) bits

-- what stands at a place, with its place
pub is_at : {X : Type 0} (xs : List X) (i : ℕ) (x : X) → slice_get xs i ≡ Some x → (i < length xs) × (x ≡ get_or xs i x)
is_at xs i x e = (slice_get_within xs i x e, sym (get_or_from_slice_get xs i x x e))
