-- A property that operators and loops keep, a whole body keeps.
use Rattle.std.proofs.Common.{◌≡◌, ℕ, zero, suc, ◌<◌, List, [], ◌∷◌, ◌++◌, ℤ, pos, negsuc, ◌+ℤ◌, Bool, true, false, Option, Some, None, Result, Ok, Err, refl, subst, sym, arith}
use Rattle.std.specs.Prelude.{All, IfOk, if◌then◌else◌}
use Rattle.std.proofs.lemmas.Int.{ints}
use Rattle.std.proofs.lemmas.List.Elements.{All-append, All-cons, All-nil}
use Rattle.priz_frac.specs.Ratio.{Ratio}
use Rattle.priz_frac.specs.Arithmetic.{negative_of}
use Rattle.priz_frac.specs.Whole.{whole_of, whole}
use Rattle.priz_frac.specs.declared.fault.FracFault.{FracFault}
use Rattle.body_lang.specs.declared.op.Op.{Op}
use Rattle.body_lang.specs.declared.op.Op.TheVariants.{Add, Mul}
use Rattle.body_lang.specs.BodyTree.{BodyTree, BodyTrees, num, input, local, neg, op, choice, total, product, iterate, call, none, more}
use Rattle.body_lang.specs.Keeping.{NumbersHave, AllNumbersHave, EndsIn, CallsKeep, MeaningKeeps}
use Rattle.body_lang.specs.Meaning.{Calls, mean, mean_all}
use Rattle.body_lang.specs.Precision.{Precision, narrowly, exactly}
use Rattle.body_lang.specs.Operation.{operate, as_run, holds}
use Rattle.body_lang.specs.Rounds.{one_round, rounds, round_count, rounds_between, replacements, replacements_for}
use Rattle.body_lang.specs.Run.{Ran, then_with, then_both}
use Rattle.body_lang.specs.Stop.{Stop}
use Rattle.body_lang.specs.Values.{value_at}

-- what a property has to fulfil: constants, negatives, the operators' values and the variables of loops have it
pub record IsKept (P : Ratio → Type 0) (precision : Precision) : Type 0 where
  pub nought : P (whole (pos 0))
  pub one : P (whole (pos 1))
  pub negative : (x : Ratio) → P x → P (negative_of x)
  pub result : (o : Op) (x y : Ratio) → P x → P y → IfOk (operate precision o x y) P
  pub between : (x y : Ratio) (a b : ℤ) → P x → P y → whole_of x ≡ Some a → whole_of y ≡ Some b → (j : ℕ) → j < round_count a b → P (whole (a +ℤ pos j))

next_whole : (i : ℤ) (j : ℕ) → (i +ℤ pos 1) +ℤ pos j ≡ i +ℤ pos (suc j)
next_whole i j = omega (arith, ints)

first_whole : (i : ℤ) → i +ℤ pos 0 ≡ i
first_whole i = omega (arith, ints)

module _ (P : Ratio → Type 0) (precision : Precision) (kept : IsKept P precision) where
  value_keeps : (vs : List Ratio) (i : ℕ) → All P vs → P (value_at vs i)
  value_keeps [] i h = kept.nought
  value_keeps (v ∷ vs) zero h = h 0 v (omega arith)
  value_keeps (v ∷ vs) (suc i) h = value_keeps vs i (λ k d l. h (suc k) d (omega arith))

  then_ends : {A : Type 0} (Q : A → Type 0) (r : Result (A × ℕ) Stop) (go : A → ℕ → Ran) → IfOk r (λ end. Q end.0) → ((x : A) (t : ℕ) → Q x → EndsIn P (go x t)) → EndsIn P (then_with r go)
  then_ends Q (Ok (x, t)) go h k = k x t h
  then_ends Q (Err s) go h k = tt

  both_end : (r : Ran) (s : ℕ → Ran) (go : Ratio → Ratio → ℕ → Ran) → EndsIn P r → ((t : ℕ) → EndsIn P (s t)) → ((x y : Ratio) (t : ℕ) → P x → P y → EndsIn P (go x y t)) → EndsIn P (then_both r s go)
  both_end r s go h k j = then_ends P r _ h (λ x t p. then_ends P (s t) _ (k t) (λ y u q. j x y u p q))

  run_ends : (owner t : ℕ) (r : Result Ratio FracFault) → IfOk r P → EndsIn P (as_run owner t r)
  run_ends owner t (Ok v) h = h
  run_ends owner t (Err e) h = tt

  operation_ends : (owner t : ℕ) (o : Op) (x y : Ratio) → P x → P y → EndsIn P (as_run owner t (operate precision o x y))
  operation_ends owner t o x y p q = run_ends owner t (operate precision o x y) (kept.result o x y p q)

  -- the values of several parts
  abbrev then_cons : Ran → (ℕ → Result (List Ratio × ℕ) Stop) → Result (List Ratio × ℕ) Stop
  then_cons r rest = then_with r (λ v u. then_with (rest u) (λ vs t. Ok (v ∷ vs, t)))

  cons_after : (v : Ratio) (r : Result (List Ratio × ℕ) Stop) → P v → IfOk r (λ end. All P end.0) → IfOk (then_with r (λ vs t. Ok (v ∷ vs, t))) (λ end. All P end.0)
  cons_after v (Ok (vs, t)) p h = All-cons P v vs p h
  cons_after v (Err s) p h = tt

  cons_ends : (r : Ran) (rest : ℕ → Result (List Ratio × ℕ) Stop) → EndsIn P r → ((u : ℕ) → IfOk (rest u) (λ end. All P end.0)) → IfOk (then_cons r rest) (λ end. All P end.0)
  cons_ends (Ok (v, u)) rest p h = cons_after v (rest u) p (h u)
  cons_ends (Err s) rest p h = tt

  grown : (locs : List Ratio) (v : Ratio) → All P locs → P v → All P (locs ++ v ∷ [])
  grown locs v h p = All-append P locs (v ∷ []) h (All-cons P v [] p (All-nil P))

  branch_ends : (b : Bool) (r s : Ran) → EndsIn P r → EndsIn P s → EndsIn P (if b then r else s)
  branch_ends true r s h k = h
  branch_ends false r s h k = k

  module _ (owner : ℕ) (each : Ratio → ℕ → Ran) (h : (x : Ratio) (t : ℕ) → P x → EndsIn P (each x t)) where
    round_ends : (m : Precision) (x : Ratio) (t : ℕ) → P x → EndsIn P (one_round m owner each x t)
    round_ends narrowly x zero p = tt
    round_ends narrowly x (suc t) p = h x t p
    round_ends exactly x t p = h x t p

    rounds_end : (o : Op) (n : ℕ) (i : ℤ) (x : Ratio) (t : ℕ) → ((j : ℕ) → j < n → P (whole (i +ℤ pos j))) → P x → EndsIn P (rounds precision owner each o n i x t)
    rounds_end o zero i x t k p = p
    rounds_end o (suc n) i x t k p =
        then_ends P (one_round precision owner each (whole i) t) _ (round_ends precision (whole i) t (subst (λ z. P (whole z)) (first_whole i) (k 0 (omega arith))))
        (λ v u q. then_ends P (as_run owner u (operate precision o x v)) _ (operation_ends owner u o x v p q)
        (λ y w r. rounds_end o n (i +ℤ pos 1) y w (λ j l. subst (λ z. P (whole z)) (sym (next_whole i j)) (k (suc j) (omega arith))) r))

    between_end : (o : Op) (start : Ratio) (a b : Option ℤ) (t : ℕ) → ((x y : ℤ) → a ≡ Some x → b ≡ Some y → (j : ℕ) → j < round_count x y → P (whole (x +ℤ pos j))) → P start → EndsIn P (rounds_between precision owner each o start a b t)
    between_end o start None b t k p = tt
    between_end o start (Some a) None t k p = tt
    between_end o start (Some a) (Some b) t k p = rounds_end o (round_count a b) a start t (k a b refl refl) p

    replacements_end : (n : ℕ) (x : Ratio) (t : ℕ) → P x → EndsIn P (replacements precision owner each n x t)
    replacements_end zero x t p = p
    replacements_end (suc n) x t p =
        then_ends P (one_round precision owner each x t) _ (round_ends precision x t p) (λ v u q. replacements_end n v u q)

    times_end : (x : Ratio) (b : Option ℤ) (t : ℕ) → P x → EndsIn P (replacements_for precision owner each x b t)
    times_end x None t p = tt
    times_end x (Some (pos n)) t p = replacements_end n x t p
    times_end x (Some (negsuc n)) t p = tt

  module _ (owner : ℕ) (calls : Calls) (keep : CallsKeep P calls) (ins : List Ratio) (h : All P ins) where
    mutual
      mean_ends : (b : BodyTree) → NumbersHave P b → (locs : List Ratio) → All P locs → (t : ℕ) → EndsIn P (mean precision owner calls ins b locs t)
      mean_ends (num v) n locs k t = n
      mean_ends (input i) n locs k t = value_keeps ins i h
      mean_ends (local j) n locs k t = value_keeps locs j k
      mean_ends (neg a) n locs k t =
          then_ends P (mean precision owner calls ins a locs t) _ (mean_ends a n locs k t) (λ x u p. kept.negative x p)
      mean_ends (op o a b) n locs k t =
          both_end _ _ _ (mean_ends a n.0 locs k t) (λ u. mean_ends b n.1 locs k u) (λ x y u p q. operation_ends owner u o x y p q)
      mean_ends (choice c a b d e) n locs k t =
          both_end _ _ _ (mean_ends a n.0 locs k t) (λ u. mean_ends b n.1 locs k u) (λ x y u p q. branch_ends (holds c x y) _ _ (mean_ends d n.2 locs k u) (mean_ends e n.3 locs k u))
      mean_ends (total a b e) n locs k t =
          both_end _ _ _ (mean_ends a n.0 locs k t) (λ u. mean_ends b n.1 locs k u)
          (λ x y u p q. between_end owner _ (λ v w r. mean_ends e n.2 (locs ++ v ∷ []) (grown locs v k r) w) Add (whole (pos 0)) (whole_of x) (whole_of y) u (λ f g. kept.between x y f g p q) kept.nought)
      mean_ends (product a b e) n locs k t =
          both_end _ _ _ (mean_ends a n.0 locs k t) (λ u. mean_ends b n.1 locs k u)
          (λ x y u p q. between_end owner _ (λ v w r. mean_ends e n.2 (locs ++ v ∷ []) (grown locs v k r) w) Mul (whole (pos 1)) (whole_of x) (whole_of y) u (λ f g. kept.between x y f g p q) kept.one)
      mean_ends (iterate a b e) n locs k t =
          both_end _ _ _ (mean_ends a n.0 locs k t) (λ u. mean_ends b n.1 locs k u)
          (λ x y u p q. times_end owner _ (λ v w r. mean_ends e n.2 (locs ++ v ∷ []) (grown locs v k r) w) x (whole_of y) u p)
      mean_ends (call i out args) n locs k t =
          then_ends (All P) (mean_all precision owner calls ins args locs t) _ (all_end args n locs k t) (λ vs u p. keep i out vs u p)

      all_end : (args : BodyTrees) → AllNumbersHave P args → (locs : List Ratio) → All P locs → (t : ℕ) → IfOk (mean_all precision owner calls ins args locs t) (λ end. All P end.0)
      all_end none n locs k t = All-nil P
      all_end (more a rest) n locs k t =
          cons_ends (mean precision owner calls ins a locs t) (λ u. mean_all precision owner calls ins rest locs u) (mean_ends a n.0 locs k t) (λ u. all_end rest n.1 locs k u)

  pub meaning_keeps : MeaningKeeps P precision
  meaning_keeps owner calls keep ins h b n locs k t = mean_ends owner calls keep ins h b n locs k t
