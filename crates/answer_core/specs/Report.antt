-- The lines that report an answer.
use Rattle.std.specs.Prelude.{ℕ, List, [], ◌∷◌, ◌++◌, codes, decimal, slice_index_or}
use Rattle.priz_frac.specs.Ratio.{Ratio}
use Rattle.body_lang.specs.declared.run_fault.RunFault.{RunFault}
use Rattle.utopist_syntax.specs.FractionText.{fraction_text}
use Rattle.statement_set.specs.Problem.{Task, var_count}
use Rattle.cert_text.specs.BlockText.{proof_line}
use Rattle.cert_text.specs.WorldText.{worlds_line}
use Rattle.answer_core.specs.Wordings.{separate_text, fault_text}
use Rattle.answer_core.specs.declared.values.Values.{Values}
use Rattle.answer_core.specs.declared.values.Values.TheVariants as values
use Rattle.answer_core.specs.declared.verdict.Answer.{Answer}
use Rattle.answer_core.specs.declared.verdict.Answer.TheVariants as answer

-- the name of a variable
abbrev pub name_of : Task → ℕ → List ℕ
name_of p v = slice_index_or p.names v []

-- "compute N: "
abbrev pub head_text : ℕ → List ℕ
head_text index = codes "compute " ++ (decimal index ++ codes ": ")

-- "NAME = VALUE"
abbrev pub value_line : List ℕ → Ratio → List ℕ
value_line name x = name ++ (codes " = " ++ (fraction_text x ++ codes "\n"))

-- such a line for each variable, in order
abbrev pub value_lines : Task → List ℕ → List Ratio → List ℕ
value_lines p [] xs = []
value_lines p (v ∷ vs) [] = []
value_lines p (v ∷ vs) (x ∷ xs) = value_line (name_of p v) x ++ value_lines p vs xs

-- "fault: statement N: KIND"
abbrev pub fault_line : ℕ → RunFault → List ℕ
fault_line s kind = codes "fault: statement " ++ (decimal s ++ (codes ": " ++ (fault_text kind ++ codes "\n")))

-- what the program computes, or why it has no values
abbrev pub values_text : Task → Values → List ℕ
values_text p (values.All ys) = value_lines p p.wants ys
values_text p (values.Fault s kind) = fault_line s kind
values_text p (values.NoNumber v) = codes "no number: " ++ (name_of p v ++ codes "\n")
values_text p (values.NoBody s) = codes "no body: statement " ++ (decimal s ++ codes "\n")

-- the lines of an answer: what it is, its certificate, and its values
abbrev pub answer_text : Task → ℕ → Answer → List ℕ
answer_text p index (answer.Program b separate v) = head_text index ++ (separate_text separate ++ (proof_line b ++ values_text p v))
answer_text p index (answer.NoProgram L) = head_text index ++ (codes "no program\n" ++ worlds_line (var_count p) L)
