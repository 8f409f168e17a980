-- Lines that are numbered.
use Rattle.std.proofs.Common.{◌≡◌, ℕ, suc, ◌+◌, List, [], ◌∷◌, ◌++◌, drop, Some, sym, ap, ◌∙◌, add-one}
use Rattle.std.specs.Prelude.{slice_get}
use Rattle.std.proofs.lemmas.Option.{slice_get_within, get_or_from_slice_get}
use Rattle.priz_base.proofs.More.{drop_at, moved_on}
use Rattle.problem_text.specs.ProblemText.{numbered_lines}

-- the line of an element, and those behind it
lines_at : {X : Type 0} (line : ℕ → X → List ℕ) (xs : List X) (n : ℕ) (x : X) → slice_get xs n ≡ Some x → numbered_lines line n (drop n xs) ≡ line n x ++ numbered_lines line (n + 1) (drop (n + 1) xs)
lines_at line xs n x at =
    ap (numbered_lines line n) (drop_at xs n x (slice_get_within xs n x at) (sym (get_or_from_slice_get xs n x x at)))
    ∙ ap (λ k. line n x ++ numbered_lines line k (drop (n + 1) xs)) (sym (add-one n))

-- one more line was written
pub line_moved : {X : Type 0} (line : ℕ → X → List ℕ) (xs : List X) (n : ℕ) (x : X) (out new whole : List ℕ) → slice_get xs n ≡ Some x → out ++ numbered_lines line n (drop n xs) ≡ whole → new ≡ out ++ line n x → new ++ numbered_lines line (n + 1) (drop (n + 1) xs) ≡ whole
line_moved line xs n x out new whole at so_far e =
    moved_on out new (line n x) (numbered_lines line (n + 1) (drop (n + 1) xs)) whole (ap (λ t. out ++ t) (sym (lines_at line xs n x at)) ∙ so_far) e
