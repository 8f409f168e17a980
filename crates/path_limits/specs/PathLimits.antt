-- The limits on the declared paths of a concept that is asked, in the order in which they are checked.
use Rattle.std.specs.Prelude.{ℕ, List, length, nat_le}
use Rattle.body_lang.specs.Verdicts.{Verdict, and_then, fault_unless}
use Rattle.utopist_syntax.specs.Named.{Named}
use Rattle.concept_rules.specs.declared.fault.Rule.TheVariants as rule
use Rattle.concept_rules.specs.declared.fault.Limit.{Limit}
use Rattle.concept_rules.specs.declared.fault.Limit.TheVariants as limit
use Rattle.concept_rules.specs.declared.fault.ModelFault.{ModelFault}
use Rattle.concept_rules.specs.PathRules.{broken_at}
use Rattle.canonical_paths.specs.PathNames.{PathNames}
use Rattle.canonical_paths.specs.DeclaredPaths.{most_segments}
use Rattle.canonical_paths.specs.Limits.{max_declared}
use Rattle.path_limits.specs.SegmentLimit.{max_segments}

-- there are no more than the most, or else too many, at the name of the compute statement
abbrev pub within_limit : Named → Limit → ℕ → ℕ → Verdict ModelFault
within_limit n what most count = fault_unless (nat_le count most) (broken_at n (rule.TooMany what))

-- none of these declared paths has too many segments, and there are not too many of them
abbrev pub path_limits : Named → List PathNames → Verdict ModelFault
path_limits n paths =
    and_then (within_limit n limit.Segments max_segments (most_segments paths))
    (within_limit n limit.Paths max_declared (length paths))
