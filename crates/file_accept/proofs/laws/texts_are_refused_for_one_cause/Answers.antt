use Rattle.file_accept.proofs.OneCause.{one_file, one_cause, accepted_not_refused}
use Rattle.file_accept.proofs.laws.texts_are_refused_for_one_cause.Goals as goal

pub returns-clause-files : goal.returns-clause-files
returns-clause-files c = one_file

pub returns-clause-causes : goal.returns-clause-causes
returns-clause-causes c = one_cause

pub returns-clause-either : goal.returns-clause-either
returns-clause-either c = accepted_not_refused
