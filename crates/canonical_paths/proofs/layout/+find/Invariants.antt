use Rattle.std.proofs.Common.{length}
use Rattle.canonical_paths.proofs.layout.+find.Given as goal

abbrev pub decreases-find : goal.decreases-find
decreases-find l = length l.path.now
