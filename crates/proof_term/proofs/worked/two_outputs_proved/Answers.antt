use Rattle.std.proofs.Common.{ℕ, List, [], ◌∷◌, ⊎_elim}
use Rattle.std.specs.Prelude.{Contains}
use Rattle.std.proofs.lemmas.List.Elements.{All-nil, All-cons, All-head, All-tail}
use Rattle.priz_base.proofs.Members.{contains_here, contains_there, contains_cases, contains_none, within_itself}
use Rattle.statement_set.proofs.Lists.{within_first}
use Rattle.proof_term.proofs.worked.two_outputs_proved.Goals as goal

pub returns-clause-both : goal.returns-clause-both
returns-clause-both c =
    let inside : List ℕ = 2 ∷ 1 ∷ 0 ∷ 3 ∷ [] in
    let second = All-cons (Contains inside) 2 [] (contains_here 2 (1 ∷ 0 ∷ 3 ∷ [])) (All-nil (Contains inside)) in
    let results = All-cons (Contains inside) 1 (2 ∷ []) (contains_there 2 (1 ∷ 0 ∷ 3 ∷ []) 1 (contains_here 1 (0 ∷ 3 ∷ []))) second in
    let x = All-cons (Contains (1 ∷ 0 ∷ 3 ∷ [])) 0 [] (contains_there 1 (0 ∷ 3 ∷ []) 0 (contains_here 0 (3 ∷ []))) (All-nil (Contains (1 ∷ 0 ∷ 3 ∷ []))) in
    (within_itself (3 ∷ []), ((within_first 0 (3 ∷ []), tt, (x, tt, results)), tt), within_first 4 (3 ∷ []))

pub returns-clause-first_alone : goal.returns-clause-first_alone
returns-clause-first_alone c = λ d.
    let inside : List ℕ = 1 ∷ 0 ∷ 3 ∷ [] in
    let second : Contains inside 2 = All-head (Contains inside) 2 [] (All-tail (Contains inside) 1 (2 ∷ []) d.1.0.2) in
    ⊎_elim
    (λ e. cc)
    (λ k. ⊎_elim (λ e. cc) (λ m. ⊎_elim (λ e. cc) (contains_none 2) (contains_cases 3 [] 2 m)) (contains_cases 0 (3 ∷ []) 2 k))
    (contains_cases 1 (0 ∷ 3 ∷ []) 2 second)
