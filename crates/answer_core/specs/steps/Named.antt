-- What a program's values speak of.
use Rattle.std.specs.Prelude.{◌≡◌, ◌<◌, length}
use Rattle.statement_set.specs.Problem.{Task, var_count}
use Rattle.answer_core.specs.declared.values.Values.{Values}
use Rattle.answer_core.specs.declared.values.Values.TheVariants as values

-- there is a value for each want, and a variable that is named is one of the problem's
abbrev pub HasNames : Task → Values → Type 0
HasNames p (values.All ys) = length ys ≡ length p.wants
HasNames p (values.Fault s kind) = Unit {0}
HasNames p (values.NoNumber v) = v < var_count p
HasNames p (values.NoBody s) = Unit {0}
