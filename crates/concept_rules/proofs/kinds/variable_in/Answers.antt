use Rattle.std.proofs.Common.{List, sym, ap, option_map}
use Rattle.utopist_syntax.specs.FileTree.{ItemTree}
use Rattle.concept_rules.specs.Declarations.{variable}
use Rattle.concept_rules.specs.steps.Variables.{outline}
use Rattle.concept_rules.proofs.Types.{type_here, none_inside}
use Rattle.concept_rules.proofs.kinds.variable_in.Goals as goal

pub returns-in-Some : goal.returns-in-Some
returns-in-Some c = λ f at.
    rw c.in-Of.is
    (c.variable.ensures f _ at (type_here f _ _ _ at _ _ c.text.ensures _ c.in-Some.ensures.line))

pub returns-in-None : goal.returns-in-None
returns-in-None c = λ f at.
    rw c.in-Of.is
    (ap (λ (items : List ItemTree). option_map outline (variable items c.args.name.now)) (sym (none_inside f _ _ _ at _ _ c.text.ensures (λ h. let t = c.in-None.ensures.found.1 h in absurd (cc)))))
