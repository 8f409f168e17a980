use Rattle.std.proofs.Common.{rules, ap, ◌∙◌, ◌≡◌, ◌∷◌, [], ◌++◌, string_bytes, IfOk, OnOk, ℕ, ◌+◌, ◌-◌, ◌*◌, ◌<◌, ◌≤◌, length, ◌/◌, ◌%◌, Bool, true, false, nat_eq, nat_lt, List, slice_index_or, slice_set, bit_and, bit_or, Fits, w8, w32, w64, Bor, MutBor}
use Rattle.concept_walk.specs.Dotted.{dotted}
use Rattle.concept_walk.specs.steps.Trails.{trail_path, with_dots}
use Rattle.concept_walk.proofs.Dots.{dots_behind}
use Rattle.concept_walk.proofs.trail.dotted_name.Goals as goal

-- src/trail.rt:20:1
pub returns : goal.returns
returns c =
    c.in_ok-push_str.ensures.bytes
    ∙ ap (λ (t : List ℕ). t ++ c.args.name.now) (c.in_ok-push_trail.ensures ∙ ap (λ (t : List ℕ). t ++ with_dots (trail_path c.args.around.now)) c.new-text.ensures.bytes)
    ∙ dots_behind (trail_path c.args.around.now) c.args.name.now
