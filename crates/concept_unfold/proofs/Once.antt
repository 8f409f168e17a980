-- What is given, each variable once.
use Rattle.std.proofs.Common.{◌≡◌, ◌↔◌, ℕ, ◌+◌, ◌<◌, not, List, [], ◌∷◌, ◌++◌, length, get_or, take, drop, map, Err, refl, sym, ap, ◌∙◌, subst, ⊎_elim}
use Rattle.std.specs.Prelude.{Contains}
use Rattle.std.specs.List.{position_or_len}
use Rattle.std.specs.Str.{bytes_eq}
use Rattle.std.proofs.lemmas.List.{map-append}
use Rattle.std.proofs.lemmas.List.Elements.{All-head, All-tail, All-take, All-map, All-get_or}
use Rattle.priz_base.specs.Sets.{Adds}
use Rattle.priz_base.proofs.More.{drop_at, map_more, same_members}
use Rattle.priz_base.proofs.Members.{contains_here, contains_there, contains_cases, contains_none}
use Rattle.utopist_syntax.specs.declared.path.Path.{Path}
use Rattle.utopist_syntax.specs.declared.compute.GivenPath.{GivenPath}
use Rattle.statement_set.specs.declared.given.Given.{Given}
use Rattle.statement_set.specs.Problem.{Task}
use Rattle.name_sets.specs.Paths.{texts}
use Rattle.concept_rules.specs.Paths.{given_paths}
use Rattle.concept_unfold.specs.Paths.{first_name, given_names, IsOneOf}
use Rattle.body_lang.specs.Verdicts.{Verdict, and_then, fault_unless}
use Rattle.concept_rules.specs.declared.fault.Rule.TheVariants as rule
use Rattle.concept_rules.specs.declared.fault.ModelFault.{ModelFault}
use Rattle.concept_rules.specs.Declarations.{is_among}
use Rattle.concept_rules.specs.PathRules.{broken_at}
use Rattle.concept_rules.proofs.Lookup.{false_of}
use Rattle.concept_rules.proofs.Among.{among, listed}
use Rattle.concept_unfold.specs.UnfoldingRules.{once_fault}
use Rattle.concept_unfold.specs.Unfolded.{AreKnown, var_number, given_of}
use Rattle.statement_set.proofs.Lists.{all_of_map}
use Rattle.utopist_syntax.specs.Named.{Named}
use Rattle.concept_unfold.proofs.Places.{same_name}

-- the variables of what is given
given_numbers_are : (vars : List (List ℕ)) (gs : List GivenPath) → map (λ (g : Given). g.var) (map (given_of vars) gs) ≡ map (var_number vars) (given_paths gs)
given_numbers_are vars [] = refl
given_numbers_are vars (g ∷ gs) = ap (λ ws. var_number vars g.path ∷ ws) (given_numbers_are vars gs)

-- one more given, and nothing else
pub given_step : (start p q : Task) (g : Given) → p ≡ record start { givens = p.givens } → q ≡ record p { givens = p.givens ++ g ∷ [] } → q ≡ record start { givens = q.givens }
given_step start p q g same e =
    let givens : q.givens ≡ p.givens ++ g ∷ [] = ap (λ (r : Task). r.givens) e in
    e ∙ ap (λ gs. record p { givens = gs }) (sym givens) ∙ ap (λ (r : Task). record r { givens = q.givens }) same

pub givens_more : (vars : List (List ℕ)) (gs : List GivenPath) (i : ℕ) (g : GivenPath) (old new : List Given) (made : Given) → i < length gs → g ≡ get_or gs i g → old ≡ map (given_of vars) (take i gs) → made ≡ given_of vars g → new ≡ old ++ made ∷ [] → new ≡ map (given_of vars) (take (i + 1) gs)
givens_more vars gs i g old new made lt is before same e =
    e ∙ ap (λ ms. ms ++ made ∷ []) before ∙ ap (λ m. map (given_of vars) (take i gs) ++ m ∷ []) same ∙ sym (map_more (given_of vars) gs i g lt is)

-- the names of what was given, with the new one
pub names_more : (gs : List GivenPath) (i : ℕ) (g : GivenPath) → i < length gs → g ≡ get_or gs i g → texts (given_names (take (i + 1) gs)) ≡ texts (given_names (take i gs)) ++ (first_name g.path).text ∷ []
names_more gs i g lt is =
    ap texts (map_more (λ (h : GivenPath). first_name h.path) gs i g lt is) ∙ map-append (λ (n : Named). n.text) (given_names (take i gs)) (first_name g.path ∷ [])

-- the set of what was given has the new variable too
pub seen_more : (seen new : List ℕ) (old : List Given) (made : Given) → Adds seen new made.var → ((n : ℕ) → Contains seen n ↔ Contains (map (λ (g : Given). g.var) old) n) → (n : ℕ) → Contains new n ↔ Contains (map (λ (g : Given). g.var) (old ++ made ∷ [])) n
seen_more seen new old made adds same n =
    let e = map-append (λ (g : Given). g.var) old (made ∷ []) in rw e (same_members seen new (map (λ (g : Given). g.var) old) made.var adds same n)

named_before : (vars : List (List ℕ)) (gs : List GivenPath) (p : Path) → AreKnown vars (given_paths gs) → IsOneOf vars p → Contains (map (var_number vars) (given_paths gs)) (var_number vars p) → Contains (texts (given_names gs)) (first_name p).text
named_before vars [] p known here c = absurd (contains_none (var_number vars p) c)
named_before vars (g ∷ gs) p known here c =
    let names = texts (given_names gs) in
    ⊎_elim
    (λ e. subst (Contains ((first_name g.path).text ∷ names)) (same_name vars g.path p (All-head (IsOneOf vars) g.path (given_paths gs) known) here e) (contains_here (first_name g.path).text names))
    (λ h. contains_there (first_name g.path).text names (first_name p).text (named_before vars gs p (All-tail (IsOneOf vars) g.path (given_paths gs) known) here h))
    (contains_cases (var_number vars g.path) (map (var_number vars) (given_paths gs)) (var_number vars p) c)

numbered_before : (vars : List (List ℕ)) (gs : List GivenPath) (p : Path) → Contains (texts (given_names gs)) (first_name p).text → Contains (map (var_number vars) (given_paths gs)) (var_number vars p)
numbered_before vars [] p c = absurd (contains_none (first_name p).text c)
numbered_before vars (g ∷ gs) p c =
    let numbers = map (var_number vars) (given_paths gs) in
    ⊎_elim
    (λ e. subst (Contains (var_number vars g.path ∷ numbers)) (ap (λ t. position_or_len (bytes_eq t) vars) e) (contains_here (var_number vars g.path) numbers))
    (λ h. contains_there (var_number vars g.path) numbers (var_number vars p) (numbered_before vars gs p h))
    (contains_cases (first_name g.path).text (texts (given_names gs)) (first_name p).text c)

-- each of the known givens is one of the variables
pub given_known_at : (vars : List (List ℕ)) (gs : List GivenPath) (i : ℕ) (g : GivenPath) → i < length gs → g ≡ get_or gs i g → AreKnown vars (given_paths gs) → IsOneOf vars g.path
given_known_at vars gs i g lt is known =
    let at : GivenPath → Type 0 = λ h. IsOneOf vars h.path in
    subst at (sym is) (All-get_or at gs i g lt (all_of_map (IsOneOf vars) (λ (h : GivenPath). h.path) gs known))

module _ (vars : List (List ℕ)) (gs : List GivenPath) (i : ℕ) (g : GivenPath) (old : List Given) (v : ℕ) where
  -- a variable that was given was given by its name
  pub given_before : i < length gs → g ≡ get_or gs i g → AreKnown vars (given_paths gs) → old ≡ map (given_of vars) (take i gs) → v ≡ var_number vars g.path → Contains (map (λ (g : Given). g.var) old) v → Contains (texts (given_names (take i gs))) (first_name g.path).text
  given_before lt is known before same c =
      let numbers = ap (map (λ (g : Given). g.var)) before ∙ given_numbers_are vars (take i gs) in
      let at : GivenPath → Type 0 = λ h. IsOneOf vars h.path in
      let earlier = All-map (IsOneOf vars) (λ (h : GivenPath). h.path) (take i gs) (All-take at i gs (all_of_map (IsOneOf vars) (λ (h : GivenPath). h.path) gs known)) in
      named_before vars (take i gs) g.path earlier (given_known_at vars gs i g lt is known)
      (subst (λ (xs : List ℕ). Contains xs (var_number vars g.path)) numbers (subst (Contains (map (λ (g : Given). g.var) old)) same c))

  -- the name of a variable that was not given is new
  pub not_given_before : old ≡ map (given_of vars) (take i gs) → v ≡ var_number vars g.path → ¬ Contains (map (λ (g : Given). g.var) old) v → ¬ Contains (texts (given_names (take i gs))) (first_name g.path).text
  not_given_before before same fresh = λ c.
      let numbers = ap (map (λ (g : Given). g.var)) before ∙ given_numbers_are vars (take i gs) in
      fresh (subst (Contains (map (λ (g : Given). g.var) old)) (sym same) (subst (λ (xs : List ℕ). Contains xs (var_number vars g.path)) (sym numbers) (numbered_before vars (take i gs) g.path c)))

-- at first nothing is given
pub nothing_seen : (seen : List ℕ) (old : List Given) (n : ℕ) → seen ≡ [] → old ≡ [] → Contains seen n ↔ Contains (map (λ (g : Given). g.var) old) n
nothing_seen seen old n none empty = (
  λ c. absurd (contains_none n (subst (λ (xs : List ℕ). Contains xs n) none c)),
  λ c. absurd (contains_none n (subst (λ (gs : List Given). Contains (map (λ (g : Given). g.var) gs) n) empty c)),
)

-- the names of what is given are looked at one behind the other
module _ (gs : List GivenPath) (i : ℕ) (g : GivenPath) (lt : i < length gs) (is : g ≡ get_or gs i g) where
  abbrev before : List (List ℕ)
  before = texts (given_names (take i gs))

  abbrev rest : List (List ℕ) → Verdict ModelFault
  rest names = once_fault names (given_names (drop (i + 1) gs))

  next_given : once_fault before (given_names (drop i gs)) ≡ and_then (fault_unless (not (is_among (first_name g.path).text before)) (broken_at (first_name g.path) rule.DuplicateInput)) (rest (before ++ (first_name g.path).text ∷ []))
  next_given = ap (λ (hs : List GivenPath). once_fault before (given_names hs)) (drop_at gs i g lt is)

  pub given_twice : Contains before (first_name g.path).text → once_fault before (given_names (drop i gs)) ≡ Err (broken_at (first_name g.path) rule.DuplicateInput)
  given_twice c =
      next_given
      ∙ ap (λ b. and_then (fault_unless (not b) (broken_at (first_name g.path) rule.DuplicateInput)) (rest (before ++ (first_name g.path).text ∷ []))) (among (first_name g.path).text before c)

  pub given_once : ¬ Contains before (first_name g.path).text → once_fault before (given_names (drop i gs)) ≡ rest (texts (given_names (take (i + 1) gs)))
  given_once fresh =
      let none = false_of (is_among (first_name g.path).text before) (λ t. fresh (listed (first_name g.path).text before t)) in
      next_given
      ∙ ap (λ b. and_then (fault_unless (not b) (broken_at (first_name g.path) rule.DuplicateInput)) (rest (before ++ (first_name g.path).text ∷ []))) none
      ∙ ap rest (sym (names_more gs i g lt is))
