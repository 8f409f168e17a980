use Rattle.std.proofs.Common.{◌≡◌, ℕ, nat_eq, find, Contains, drop}
use Rattle.concept_rules.proofs.declarations.first_among.Given as goal

-- none of those that were looked at stands in one of the concepts
abbrev pub invariant-loop-declaration : goal.invariant-loop-declaration
invariant-loop-declaration l =
    (n : ℕ) → Contains l.among n → find (λ e. nat_eq e.concept n) l.declarations ≡ find (λ e. nat_eq e.concept n) (drop l.declaration-index l.declarations)
