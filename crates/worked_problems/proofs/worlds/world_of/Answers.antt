use Rattle.std.proofs.Common.{get_or, take}
use Rattle.std.proofs.lemmas.List.{get_or_default, take_all}
use Rattle.priz_base.proofs.More.{same_members, take_at}
use Rattle.worked_problems.proofs.worlds.world_of.Goals as goal

pub loop-v-preserved : goal.loop-v-preserved
loop-v-preserved c =
    let vs = c.args.row.now in
    let i = c.loop-v.v-index in
    let v = get_or vs i 0 in
    let lt = c.loop-v-test.true in
    rw (take_at vs i v lt (get_or_default vs i 0 v lt)) (same_members c.loop-v.world c.add.new.self (take i vs) v c.add.ensures c.loop-v.invariant)

pub returns : goal.returns
returns c = rw (take_all c.loop-v.v-index c.args.row.now c.loop-v-test.false) at c.loop-v.invariant
