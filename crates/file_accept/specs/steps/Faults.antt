-- How the faults of the steps become those of a text.
use Rattle.utopist_parser.specs.declared.parser.ParseFault.{ParseFault}
use Rattle.utopist_parser.specs.declared.parser.ParseFault.TheVariants as parsing
use Rattle.concept_rules.specs.declared.fault.UnfoldFault.{UnfoldFault}
use Rattle.concept_rules.specs.declared.fault.UnfoldFault.TheVariants as rules
use Rattle.file_accept.specs.declared.fault.FileFault.{FileFault}
use Rattle.file_accept.specs.declared.fault.FileFault.TheVariants as fault

-- a text without a tree
abbrev pub parse_fault : ParseFault → FileFault
parse_fault (parsing.Lex f) = fault.Lex f
parse_fault (parsing.Expected p) = fault.Expected p
parse_fault (parsing.TooDeep p) = fault.TooDeep p
parse_fault parsing.NoMem = fault.NoMem

-- a file for which a rule fails
abbrev pub unfold_fault : UnfoldFault → FileFault
unfold_fault (rules.Model m) = fault.Model m
unfold_fault rules.NoMem = fault.NoMem
