-- Limits that are kept.
use Rattle.std.proofs.Common.{◌≡◌, ℕ, ◌<◌, ◌≤◌, ◌-◌, ◌^◌, true, false, List, length, min, Ok, arith}
use Rattle.std.specs.Prelude.{nat_le}
use Rattle.std.specs.List.{sum_by}
use Rattle.std.proofs.lemmas.Bool.{leb-true, le-leb, lt-leb}
use Rattle.body_lang.specs.Verdicts.{and_then}
use Rattle.body_lang.proofs.Verdicts.{first_passes, second_passes, test_passes}
use Rattle.utopist_syntax.specs.Named.{Named}
use Rattle.utopist_syntax.specs.FileTree.{ItemTree}
use Rattle.concept_rules.specs.declared.fault.Rule.TheVariants as rule
use Rattle.concept_rules.specs.declared.fault.Limit.{Limit}
use Rattle.concept_rules.specs.declared.fault.Limit.TheVariants as limit
use Rattle.concept_rules.specs.PathRules.{broken_at}
use Rattle.concept_unfold.specs.Limits.{max_statements}
use Rattle.concept_walk.specs.Limits.{max_variables, max_size}
use Rattle.concept_unfold.specs.Declarations.{all_variables}
use Rattle.concept_unfold.specs.UnfoldingRules.{item_size, item_statements, limits_fault}
use Rattle.path_limits.specs.PathLimits.{within_limit}

-- a count that ends at the type's last value tells whether there are more than the most
pub over : (n most count : ℕ) → count ≡ min n (2 ^ 64 - 1) → most < count → nat_le n most ≡ false
over n most count is more = lt-leb n most (omega (arith, is, more))

pub within : (n most count : ℕ) → most < 2 ^ 64 - 1 → count ≡ min n (2 ^ 64 - 1) → count ≤ most → nat_le n most ≡ true
within n most count few is le = le-leb n most (omega (arith, few, is, le))

few : (name : Named) (what : Limit) (most count : ℕ) → within_limit name what most count ≡ Ok tt → count ≤ most
few name what most count e = leb-true count most (test_passes (nat_le count most) (broken_at name (rule.TooMany what)) e)

module _ (name : Named) (items : List ItemTree) (h : limits_fault name items ≡ Ok tt) where
  after_variables : and_then (within_limit name limit.Size max_size (sum_by item_size items)) (within_limit name limit.Statements max_statements (sum_by item_statements items)) ≡ Ok tt
  after_variables = second_passes _ _ (second_passes _ _ h)

  pub few_variables : length (all_variables items) ≤ max_variables
  few_variables = few name limit.Variables max_variables (length (all_variables items)) (first_passes _ _ (second_passes _ _ h))

  pub few_nodes : sum_by item_size items ≤ max_size
  few_nodes = few name limit.Size max_size (sum_by item_size items) (first_passes _ _ after_variables)

  pub few_statements : sum_by item_statements items ≤ max_statements
  few_statements = few name limit.Statements max_statements (sum_by item_statements items) (second_passes _ _ after_variables)
