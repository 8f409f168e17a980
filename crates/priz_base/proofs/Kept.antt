-- What a text begins with, where something was appended.
use Rattle.std.proofs.Common.{◌≡◌, ℕ, List, ◌++◌, length, take, refl, length-take, take-take}
use Rattle.std.proofs.Transfers.{starts_with_trans, starts_with_of_append}
use Rattle.std.specs.Io.{StartsWith}

-- it begins with each front of what it begins with. The first part says nothing: it shows `grind` the call to match
pub starts_with_front : (old more new : List ℕ) → StartsWith new (old ++ more) → (take (length (old ++ more)) new ≡ take (length (old ++ more)) new) × StartsWith new old
starts_with_front old more new h =
    (refl, starts_with_trans new (old ++ more) old h (starts_with_of_append (old ++ more) old more refl))

-- after several calls that append, of which the last may have wanted memory
pub ruleset kept = (starts_with_front, take-take, length-take)
