use Rattle.path_limits.proofs.WithinLimits.{few_paths}
use Rattle.path_limits.proofs.laws.limits_leave_few_paths.Goals as goal

pub returns : goal.returns
returns c = few_paths
