use Rattle.canonical_paths.proofs.VariableEntries.{grown_is_table, grown_is_layout}
use Rattle.canonical_paths.proofs.laws.tables_name_canonical_paths.Goals as goal

pub returns-clause-table : goal.returns-clause-table
returns-clause-table c = grown_is_table

pub returns-clause-layout : goal.returns-clause-layout
returns-clause-layout c = grown_is_layout
