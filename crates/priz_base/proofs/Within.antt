-- A loop that looks for each number of a list among the members of a set.
use Rattle.std.proofs.Common.{◌≡◌, ℕ, ◌+◌, ◌<◌, ◌≤◌, List, length, get_or, take, sym, subst}
use Rattle.std.specs.Prelude.{Contains}
use Rattle.std.proofs.lemmas.List.{take_all}
use Rattle.std.proofs.lemmas.List.Elements.{All-get_or, All-more}
use Rattle.priz_base.specs.Sets.{IsWithin}

pub within_more : (vs : List ℕ) (i v : ℕ) (S : List ℕ) → i < length vs → v ≡ get_or vs i v → IsWithin (take i vs) S → Contains S v → IsWithin (take (i + 1) vs) S
within_more vs i v S lt is h c = All-more (Contains S) vs i v lt h (subst (Contains S) is c)

pub within_end : (vs : List ℕ) (i : ℕ) (S : List ℕ) → length vs ≤ i → IsWithin (take i vs) S → IsWithin vs S
within_end vs i S le h = rw (take_all i vs le) at h

pub within_not : (vs : List ℕ) (i v : ℕ) (S : List ℕ) → i < length vs → v ≡ get_or vs i v → (Contains S v → ⊥) → IsWithin vs S → ⊥
within_not vs i v S lt is lacks h = lacks (subst (Contains S) (sym is) (All-get_or (Contains S) vs i v lt h))
