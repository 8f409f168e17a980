use Rattle.std.proofs.Common.{◌≡◌, ◌∙◌, ap, sym, subst, Some, length, ◌≤◌, ℕ, Option}
use Rattle.std.specs.Prelude.{slice_get}
use Rattle.std.proofs.lemmas.Option.{slice_get-get_or}
use Rattle.canonical_paths.specs.Limits.{max_declared}
use Rattle.canonical_paths.specs.LaidOut.{LaidOut}
use Rattle.canonical_paths.specs.steps.Layouts.{inner_paths}
use Rattle.canonical_paths.proofs.AliasesStand.{entries_inside, is_there}
use Rattle.canonical_paths.proofs.aliases.count_inside.Goals as goal

pub returns-in-Some-clause-count : goal.returns-in-Some-clause-count
returns-in-Some-clause-count c =
    λ concepts all.
    entries_inside concepts c.args.layouts.now c.index-layouts-c.result c.in-Some.c c.args.concept c.len.result all
    (is_there c.args.layouts.now c.in-Some.c c.index-layouts-c.result c.args.concept c.requires.concept c.in-Some.is c.index-layouts-c.is) c.in-Some.is c.len.ensures

pub returns-in-Some-clause-few : goal.returns-in-Some-clause-few
returns-in-Some-clause-few c =
    subst (λ (n : ℕ). n ≤ max_declared) (sym c.len.ensures)
    (c.requires.small c.in-Some.c c.index-layouts-c.result
    (is_there c.args.layouts.now c.in-Some.c c.index-layouts-c.result c.args.concept c.requires.concept c.in-Some.is c.index-layouts-c.is))
