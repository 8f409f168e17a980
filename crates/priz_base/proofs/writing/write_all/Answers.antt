use Rattle.std.proofs.Common.{length-drop, arith}
use Rattle.std.proofs.Math.Seq.{take-add}
use Rattle.std.proofs.lemmas.List.{take_rest}
use Rattle.std.proofs.KnownBytes.{Appends-trans}
use Rattle.priz_base.proofs.writing.write_all.Goals as goal

-- the bytes that were taken follow those from before
pub pushes-preserved : goal.pushes-preserved
pushes-preserved g c = record {
  so_far = rw (take-add c.pushes.done c.in-Took.count c.args.bytes.now) (Appends-trans _ _ _ _ _ c.pushes.invariant.so_far (rw take_rest at c.in-Took.ensures.bytes));
  within = omega (arith, rw take_rest at c.in-Took.ensures.count.1, length-drop c.pushes.done c.args.bytes.now, c.pushes.invariant.within);
  later = omega (arith, c.push.ensures.later);
}
