-- The numbers of what is given.
use Rattle.std.proofs.Common.{◌≡◌, ℕ, ◌+◌, ◌<◌, ◌≤◌, Bool, true, false, cond, List, [], ◌∷◌, ◌++◌, length, map, take, drop, get_or, Option, Some, None, Result, Ok, Err, refl, sym, ap, subst, ◌∙◌}
use Rattle.std.specs.Prelude.{All, find, not, is_some}
use Rattle.std.specs.Option.{option_map}
use Rattle.std.proofs.lemmas.List.{drop_all, length-map, map-append}
use Rattle.std.proofs.lemmas.List.Elements.{All-nil, All-cons, All-head, All-tail}
use Rattle.priz_base.proofs.More.{drop_at, map_more}
use Rattle.priz_frac.specs.Ratio.{Ratio}
use Rattle.body_lang.specs.Stop.{Stop}
use Rattle.body_lang.specs.Run.{then_with}
use Rattle.body_lang.specs.Values.{value_at}
use Rattle.statement_set.specs.declared.given.Given.{Given}
use Rattle.statement_set.specs.Problem.{Task, var_count, AreVars, IsWellFormed}
use Rattle.proof_term.specs.Proof.{Steps}
use Rattle.proof_term.specs.Running.{Env, run, start_of, goal_values}
use Rattle.answer_core.specs.declared.values.Values.{Values}
use Rattle.answer_core.specs.declared.values.Values.TheVariants as values
use Rattle.std.specs.Prelude.{slice_get}
use Rattle.std.proofs.lemmas.Option.{get_or_from_slice_get}
use Rattle.answer_core.specs.steps.Named.{HasNames}
use Rattle.answer_core.specs.Report.{value_line, value_lines}
use Rattle.answer_core.specs.Values.{first_without_number, AreNumbers, IsValues}

-- what is found at the front, or behind it
first_opened : (g : Given) (gs : List Given) → first_without_number (g ∷ gs) ≡ cond (not (is_some g.value)) (Some g.var) (first_without_number gs)
first_opened g gs = by (not (is_some g.value)) where
  by : (b : Bool) → option_map (λ (x : Given). x.var) (cond b (Some g) (find (λ x. not (is_some x.value)) gs)) ≡ cond b (Some g.var) (first_without_number gs)
  by true = refl
  by false = refl

module _ (gs : List Given) (i : ℕ) (g : Given) (lt : i < length gs) (is : g ≡ get_or gs i g) where
  opened : first_without_number (drop i gs) ≡ cond (not (is_some g.value)) (Some g.var) (first_without_number (drop (i + 1) gs))
  opened = ap first_without_number (drop_at gs i g lt is) ∙ first_opened g (drop (i + 1) gs)

  pub unnumbered_here : is_some g.value ≡ false → first_without_number (drop i gs) ≡ Some g.var
  unnumbered_here h = opened ∙ ap (λ b. cond (not b) (Some g.var) (first_without_number (drop (i + 1) gs))) h

  pub unnumbered_behind : is_some g.value ≡ true → first_without_number (drop i gs) ≡ first_without_number (drop (i + 1) gs)
  unnumbered_behind h = opened ∙ ap (λ b. cond (not b) (Some g.var) (first_without_number (drop (i + 1) gs))) h

  -- one number more
  pub numbers_more : (xs new : List Ratio) (x : Ratio) → AreNumbers (take i gs) xs → g.value ≡ Some x → new ≡ xs ++ x ∷ [] → AreNumbers (take (i + 1) gs) new
  numbers_more xs new x h e pushed =
      map_more (λ (y : Given). y.value) gs i g lt is ∙ ap (λ (l : List (Option Ratio)). l ++ g.value ∷ []) h
      ∙ ap (λ (v : Option Ratio). map Some xs ++ v ∷ []) e ∙ sym (map-append Some xs (x ∷ [])) ∙ ap (map Some) (sym pushed)

pub no_more_givens : (gs : List Given) (i : ℕ) → length gs ≤ i → first_without_number (drop i gs) ≡ None
no_more_givens gs i le = ap first_without_number (drop_all i gs le)

-- where none is found each has a number
pub all_numbered : (gs : List Given) → first_without_number gs ≡ None → All (λ g. is_some g.value ≡ true) gs
all_numbered [] h = All-nil (λ (g : Given). is_some g.value ≡ true)
all_numbered (g ∷ gs) h = let r = by (is_some g.value) (first_without_number gs) (sym (first_opened g gs) ∙ h) in All-cons (λ (x : Given). is_some x.value ≡ true) g gs r.0 (all_numbered gs r.1) where
  by : (b : Bool) (o : Option ℕ) → cond (not b) (Some g.var) o ≡ None → (b ≡ true) × (o ≡ None)
  by true o h = (refl, h)
  by false o h = absurd (cc)

pub numbers_exist : (gs : List Given) → All (λ g. is_some g.value ≡ true) gs → (xs : List Ratio) × AreNumbers gs xs
numbers_exist [] h = ([], refl)
numbers_exist (g ∷ gs) h =
    let x = number g.value (All-head (λ (y : Given). is_some y.value ≡ true) g gs h) in
    let xs = numbers_exist gs (All-tail (λ (y : Given). is_some y.value ≡ true) g gs h) in
    (x.0 ∷ xs.0, ap (λ (v : Option Ratio). v ∷ map (λ (y : Given). y.value) gs) x.1 ∙ ap (λ l. Some x.0 ∷ l) xs.1) where
      number : (o : Option Ratio) → is_some o ≡ true → (x : Ratio) × (o ≡ Some x)
      number None h = absurd (cc)
      number (Some x) h = (x, refl)

pub numbers_length : (gs : List Given) (xs : List Ratio) → AreNumbers gs xs → length xs ≡ length gs
numbers_length gs xs h = sym (length-map xs Some) ∙ sym (ap length h) ∙ length-map gs (λ (y : Given). y.value)

-- what is found is a given
first_below : (n : ℕ) (gs : List Given) (v : ℕ) → AreVars n (map (λ g. g.var) gs) → first_without_number gs ≡ Some v → v < n
first_below n [] v all h = absurd (cc)
first_below n (g ∷ gs) v all h = by (not (is_some g.value)) (λ e. first_below n gs v (All-tail (λ w. w < n) g.var (map (λ (x : Given). x.var) gs) all) e) (sym (first_opened g gs) ∙ h) where
  by : (b : Bool) → (first_without_number gs ≡ Some v → v < n) → cond b (Some g.var) (first_without_number gs) ≡ Some v → v < n
  by true behind e = let same : g.var ≡ v = cc in subst (λ w. w < n) same (All-head (λ w. w < n) g.var (map (λ (x : Given). x.var) gs) all)
  by false behind e = behind e

-- a run gives a value for each want
values_for_wants : (p : Task) (b : Steps) (xs ys : List Ratio) (turns left : ℕ) → goal_values p b xs turns ≡ Ok (ys, left) → length ys ≡ length p.wants
values_for_wants p b xs ys turns left h = by (run p b (start_of p xs) turns) h where
  values_in : Result (List Ratio × ℕ) Stop → List Ratio
  values_in (Ok r) = r.0
  values_in (Err s) = []

  by : (r : Result (Env × ℕ) Stop) → then_with r (λ end rest. Ok (map (value_at end) p.wants, rest)) ≡ Ok (ys, left) → length ys ≡ length p.wants
  by (Ok q) e = sym (ap (λ r. length (values_in r)) e) ∙ length-map p.wants (value_at q.0)
  by (Err s) e = absurd (cc)

pub has_names : (p : Task) (b : Steps) (turns : ℕ) (v : Values) → IsWellFormed p → IsValues p b turns v → HasNames p v
has_names p b turns (values.All ys) good h = values_for_wants p b h.0 ys turns h.2.0 h.2.1
has_names p b turns (values.Fault s kind) good h = tt
has_names p b turns (values.NoNumber v) good h = first_below (var_count p) p.givens v good.givens h
has_names p b turns (values.NoBody s) good h = tt

-- the lines of the values that are left, one of which is the next
pub lines_open : (p : Task) (vs : List ℕ) (xs : List Ratio) (i v : ℕ) (x : Ratio) (name : List ℕ) → i < length vs → i < length xs → v ≡ get_or vs i v → x ≡ get_or xs i x → slice_get p.names v ≡ Some name
    → value_lines p (drop i vs) (drop i xs) ≡ value_line name x ++ value_lines p (drop (i + 1) vs) (drop (i + 1) xs)
lines_open p vs xs i v x name lt below is at named =
    ap (λ l. value_lines p l (drop i xs)) (drop_at vs i v lt is) ∙ ap (λ (l : List Ratio). value_lines p (v ∷ drop (i + 1) vs) l) (drop_at xs i x below at)
    ∙ ap (λ n. value_line n x ++ value_lines p (drop (i + 1) vs) (drop (i + 1) xs)) (get_or_from_slice_get p.names v name [] named)

pub lines_end : (p : Task) (vs : List ℕ) (xs : List Ratio) (i : ℕ) → length vs ≤ i → value_lines p (drop i vs) xs ≡ []
lines_end p vs xs i le = ap (λ l. value_lines p l xs) (drop_all i vs le)
