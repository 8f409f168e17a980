-- The words for each kind of refusal.
use Rattle.std.specs.Prelude.{ℕ, List, codes}
use Rattle.utopist_lexer.specs.declared.fault.LexKind.{LexKind}
use Rattle.utopist_lexer.specs.declared.fault.LexKind.TheVariants as kind
use Rattle.concept_rules.specs.declared.fault.Limit.{Limit}
use Rattle.concept_rules.specs.declared.fault.Limit.TheVariants as limit
use Rattle.concept_rules.specs.declared.fault.Rule.{Rule}
use Rattle.concept_rules.specs.declared.fault.Rule.TheVariants as rule

-- why no token stands at a place
abbrev pub lex_text : LexKind → List ℕ
lex_text kind.BadChar = codes "bad character"
lex_text kind.BadNumber = codes "bad number"
lex_text kind.NumberTooWide = codes "number too wide"
lex_text kind.NameTooLong = codes "name too long"

-- what there are too many of
abbrev pub limit_text : Limit → List ℕ
limit_text limit.Concepts = codes "too many concepts"
limit_text limit.Computes = codes "too many computes"
limit_text limit.Segments = codes "too many segments"
limit_text limit.Paths = codes "too many paths"
limit_text limit.Variables = codes "too many variables"
limit_text limit.Size = codes "too many nodes"
limit_text limit.Statements = codes "too many statements"
limit_text limit.Subtasks = codes "too many subtasks"

-- which rule fails
abbrev pub rule_text : Rule → List ℕ
rule_text rule.UnknownConcept = codes "unknown concept"
rule_text rule.DuplicateName = codes "duplicate name"
rule_text rule.UnknownPath = codes "unknown path"
rule_text rule.NotNumeric = codes "not numeric"
rule_text rule.BadBinding = codes "bad binding"
rule_text rule.ShadowedName = codes "shadowed name"
rule_text rule.BadCall = codes "bad call"
rule_text rule.BadArity = codes "bad arity"
rule_text rule.DuplicateInput = codes "duplicate input"
rule_text (rule.TooMany l) = limit_text l
