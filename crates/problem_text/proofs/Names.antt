-- The names of variables, and of a statement's inputs.
use Rattle.std.proofs.Common.{◌≡◌, ℕ, ◌<◌, List, [], Option, Some, None, length, get_or, sym, ap, ◌∙◌, subst}
use Rattle.std.specs.Prelude.{map, slice_get, slice_index_or, unwrap_or}
use Rattle.std.specs.Option.{option_map}
use Rattle.std.proofs.lemmas.Option.{get_or_from_slice_get, unwrap_or-slice_get, slice_get-map}
use Rattle.std.proofs.lemmas.List.Elements.{All-get_or}
use Rattle.statement_set.specs.declared.given.Given.{Given}
use Rattle.statement_set.specs.Problem.{Task, AreVars}
use Rattle.statement_set.proofs.Lists.{all_of_map}
use Rattle.problem_text.specs.VariableNames.{variable_name}

-- the name that stands at a variable's number
pub name_is : (p : Task) (v : ℕ) (n : List ℕ) → slice_get p.names v ≡ Some n → variable_name p v ≡ n
name_is p v n at = get_or_from_slice_get p.names v n [] at

-- the name of an input, if there is one
input_name : (p : Task) (vs : List ℕ) (i : ℕ) → slice_index_or (map (variable_name p) vs) i [] ≡ unwrap_or (option_map (variable_name p) (slice_get vs i)) []
input_name p vs i =
    sym (unwrap_or-slice_get (map (variable_name p) vs) i []) ∙ ap (λ o. unwrap_or o []) (slice_get-map (variable_name p) vs i)

pub no_input_name : (p : Task) (vs : List ℕ) (i : ℕ) → slice_get vs i ≡ None → slice_index_or (map (variable_name p) vs) i [] ≡ []
no_input_name p vs i none = input_name p vs i ∙ ap (λ o. unwrap_or (option_map (variable_name p) o) []) none

pub some_input_name : (p : Task) (vs : List ℕ) (i v : ℕ) → slice_get vs i ≡ Some v → slice_index_or (map (variable_name p) vs) i [] ≡ variable_name p v
some_input_name p vs i v at = input_name p vs i ∙ ap (λ o. unwrap_or (option_map (variable_name p) o) []) at

-- what is given is a variable
pub given_is_var : (n : ℕ) (all gs : List Given) (i : ℕ) (g : Given) → gs ≡ all → AreVars n (map (λ (x : Given). x.var) all) → i < length gs → g ≡ get_or gs i g → g.var < n
given_is_var n all gs i g same vars lt is =
    let here = all_of_map (λ v. v < n) (λ (x : Given). x.var) gs (subst (λ (xs : List Given). AreVars n (map (λ (x : Given). x.var) xs)) (sym same) vars) in
    subst (λ (x : Given). x.var < n) (sym is) (All-get_or (λ (x : Given). x.var < n) gs i g lt here)
