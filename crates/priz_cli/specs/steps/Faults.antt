-- How the faults of a text become those of an input.
use Rattle.file_accept.specs.declared.fault.FileFault.{FileFault}
use Rattle.file_accept.specs.declared.fault.FileFault.TheVariants as text
use Rattle.priz_cli.specs.declared.refusal.Refusal.TheVariants as refusal
use Rattle.priz_cli.specs.declared.fault.Fault.{Fault}
use Rattle.priz_cli.specs.declared.fault.Fault.TheVariants as fault

-- what is wrong with the text is wrong with the input
abbrev pub fault_of_file : FileFault → Fault
fault_of_file (text.Lex f) = fault.Refused (refusal.Lex f)
fault_of_file (text.Expected p) = fault.Refused (refusal.Expected p)
fault_of_file (text.TooDeep p) = fault.Refused (refusal.TooDeep p)
fault_of_file (text.Model m) = fault.Refused (refusal.Model m)
fault_of_file text.NoMem = fault.NoMem
