-- What parsing answers for the token that is wrong.
use Rattle.priz_base.specs.declared.place.Place.{Place}
use Rattle.utopist_parser.specs.declared.parser.ParseFault.{ParseFault}
use Rattle.utopist_parser.specs.declared.parser.ParseFault.TheVariants as fault
use Rattle.token_forms.specs.declared.parse_stop.Why.{Why}
use Rattle.token_forms.specs.declared.parse_stop.Why.TheVariants.{Unexpected, TooDeep}

-- what is wrong with the token at a place
abbrev pub fault_by : Why → Place → ParseFault
fault_by Unexpected p = fault.Expected p
fault_by TooDeep p = fault.TooDeep p
