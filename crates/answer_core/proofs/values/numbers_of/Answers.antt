use Rattle.std.proofs.Common.{List, true, subst, sym, ◌≡◌}
use Rattle.std.specs.Prelude.{All, is_some}
use Rattle.std.proofs.lemmas.List.Elements.{All-get_or}
use Rattle.statement_set.specs.declared.given.Given.{Given}
use Rattle.answer_core.proofs.Numbers.{all_numbered}
use Rattle.answer_core.proofs.values.numbers_of.Goals as goal

pub unwrap-requires : goal.unwrap-requires
unwrap-requires c =
    let Has : Given → Type 0 = λ g. is_some g.value ≡ true in
    let items = c.givens-given-items.result.now in
    let all = subst (λ (gs : List Given). All Has gs) c.loop-given.invariant.all (all_numbered c.args.problem.now.givens c.requires) in
    subst Has (sym c.given-item.is) (All-get_or Has items c.loop-given.given-index c.given-item.result c.loop-given-test.true all)
