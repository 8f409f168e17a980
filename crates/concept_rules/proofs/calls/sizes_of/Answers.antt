use Rattle.std.proofs.Common.{map}
use Rattle.concept_rules.specs.ItemRules.{arities_of}
use Rattle.concept_rules.specs.steps.Arities.{arity_behind}
use Rattle.concept_rules.proofs.Sizes.{more_sizes}
use Rattle.concept_rules.proofs.calls.sizes_of.Goals as goal

pub loop-part-preserved : goal.loop-part-preserved
loop-part-preserved c =
    more_sizes (arities_of c.args.parts.now) (map arity_behind c.loop-part.sizes) (map arity_behind c.add_sizes.new.sizes) c.args.parts.now c.loop-part.part-index c.part-item.result c.loop-part-test.true c.part-item.is c.loop-part.invariant c.in_ok-add_sizes.ensures
