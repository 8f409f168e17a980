-- Where the narrow meaning ends in a value, the exact meaning ends in the same.
use Rattle.std.proofs.Common.{◌≡◌, ◌⊎◌, inl, inr, ℕ, zero, suc, List, [], ◌∷◌, ◌++◌, ℤ, pos, negsuc, ◌+ℤ◌, Bool, true, false, Option, Some, None, Result, Ok, Err, refl, ap, ◌∙◌}
use Rattle.std.specs.Prelude.{if◌then◌else◌}
use Rattle.std.specs.Ordering.{int_eq}
use Rattle.priz_frac.specs.Ratio.{Ratio}
use Rattle.priz_frac.specs.Arithmetic.{sum_of, difference_of, product_of, quotient_of, negative_of}
use Rattle.priz_frac.specs.Lowest.{low}
use Rattle.priz_frac.specs.Narrow.{fits}
use Rattle.priz_frac.specs.Whole.{whole_of, whole}
use Rattle.priz_frac.specs.declared.fault.FracFault.{FracFault}
use Rattle.priz_frac.specs.declared.fault.FracFault.TheVariants as frac
use Rattle.body_lang.specs.declared.op.Op.{Op}
use Rattle.body_lang.specs.declared.op.Op.TheVariants.{Add, Sub, Mul, Div}
use Rattle.body_lang.specs.BodyTree.{BodyTree, BodyTrees, num, input, local, neg, op, choice, total, product, iterate, call, none, more}
use Rattle.body_lang.specs.Follows.{CallsFollow, CallsFollowOnRows, RunFollows, RunFollowsOnRows}
use Rattle.body_lang.specs.Meaning.{Calls, mean, mean_all}
use Rattle.body_lang.specs.Precision.{narrowly, exactly}
use Rattle.body_lang.specs.Operation.{operate, as_run, holds, value_in}
use Rattle.body_lang.specs.Rounds.{one_round, rounds, round_count, rounds_between, replacements, replacements_for}
use Rattle.body_lang.specs.Run.{Ran, then_with, then_both}
use Rattle.body_lang.specs.Stop.{Stop, no_row}
use Rattle.body_lang.specs.Values.{value_at}

-- the same run with another number of turns left
abbrev with_turns : {A : Type 0} → ℕ → Result (A × ℕ) Stop → Result (A × ℕ) Stop
with_turns u (Ok (x, t)) = Ok (x, u)
with_turns u (Err s) = Err s

abbrev IsValue : Result Ratio FracFault → Ratio → Type 0
IsValue r v = r ≡ Ok v

fitting : (b : Bool) (x v : Ratio) → IsValue (if b then Ok x else Err frac.Width) v → IsValue (Ok x) v
fitting true x v e = e
fitting false x v e = absurd (cc)

value_follows : (x v : Ratio) → value_in narrowly x ≡ Ok v → value_in exactly x ≡ Ok v
value_follows x v e = fitting (fits (low x)) (low x) v e

divided : (b : Bool) (x v : Ratio) → IsValue (if b then Err frac.ZeroDivisor else value_in narrowly x) v → IsValue (if b then Err frac.ZeroDivisor else value_in exactly x) v
divided true x v e = e
divided false x v e = value_follows x v e

operate_follows : (o : Op) (x y v : Ratio) → operate narrowly o x y ≡ Ok v → operate exactly o x y ≡ Ok v
operate_follows Add x y v e = value_follows (sum_of x y) v e
operate_follows Sub x y v e = value_follows (difference_of x y) v e
operate_follows Mul x y v e = value_follows (product_of x y) v e
operate_follows Div x y v e = divided (int_eq y.num (pos 0)) (quotient_of x y) v e

-- a run that may find no row only where Lacks holds
module _ (Lacks : Type 0) where
  abbrev pub Ends : {A : Type 0} → Result (A × ℕ) Stop → A → ℕ → Type 0
  Ends r v u = (Lacks × (r ≡ Err no_row)) ⊎ (r ≡ Ok (v, u))

  abbrev pub FollowsUnless : {A : Type 0} → Result (A × ℕ) Stop → (ℕ → Result (A × ℕ) Stop) → Type 0
  FollowsUnless {A} narrow exact = (v : A) (t u : ℕ) → narrow ≡ Ok (v, t) → Ends (exact u) v u

  here : {A : Type 0} (x : A) (t : ℕ) → FollowsUnless (Ok (x, t)) (λ u. Ok (x, u))
  here x t v t1 u e = inr (ap (with_turns u) e)

  stopped : {A : Type 0} (x : Stop) (s : ℕ → Result (A × ℕ) Stop) → FollowsUnless (Err x) s
  stopped x s v t u e = absurd (cc)

  after : {A B : Type 0} (s : Result (A × ℕ) Stop) (go : A → ℕ → Result (B × ℕ) Stop) (x : A) (v : B) (u : ℕ) → Ends s x u → Ends (go x u) v u → Ends (then_with s go) v u
  after s go x v u (inl p) k = inl (p.0, ap (λ r. then_with r go) p.1)
  after s go x v u (inr e) (inl p) = inl (p.0, ap (λ r. then_with r go) e ∙ p.1)
  after s go x v u (inr e) (inr q) = inr (ap (λ r. then_with r go) e ∙ q)

  then_follows : {A B : Type 0} (r : Result (A × ℕ) Stop) (s : ℕ → Result (A × ℕ) Stop) (go go1 : A → ℕ → Result (B × ℕ) Stop) → FollowsUnless r s → ((x : A) (t : ℕ) → FollowsUnless (go x t) (go1 x)) → FollowsUnless (then_with r go) (λ u. then_with (s u) go1)
  then_follows (Ok (x, t)) s go go1 h k v t1 u e = after (s u) go1 x v u (h x t u refl) (k x t v t1 u e)
  then_follows (Err x) s go go1 h k v t1 u e = absurd (cc)

  both_follow : (r : Ran) (s r1 s1 : ℕ → Ran) (go go1 : Ratio → Ratio → ℕ → Ran) → FollowsUnless r r1 → ((t : ℕ) → FollowsUnless (s t) s1) → ((x y : Ratio) (t : ℕ) → FollowsUnless (go x y t) (go1 x y)) → FollowsUnless (then_both r s go) (λ u. then_both (r1 u) s1 go1)
  both_follow r s r1 s1 go go1 h k j =
      then_follows _ _ _ _ h (λ x t. then_follows _ _ _ _ (k t) (λ y t2. j x y t2))

  run_follows : (owner t : ℕ) (r s : Result Ratio FracFault) → ((v : Ratio) → r ≡ Ok v → s ≡ Ok v) → FollowsUnless (as_run owner t r) (λ u. as_run owner u s)
  run_follows owner t (Ok x) s h v t1 u e = inr (ap (as_run owner u) (h x refl) ∙ ap (with_turns u) e)
  run_follows owner t (Err x) s h v t1 u e = absurd (cc)

  operation_follows : (owner t : ℕ) (o : Op) (x y : Ratio) → FollowsUnless (as_run owner t (operate narrowly o x y)) (λ u. as_run owner u (operate exactly o x y))
  operation_follows owner t o x y =
      run_follows owner t (operate narrowly o x y) (operate exactly o x y) (operate_follows o x y)

  branch_follows : (b : Bool) (r s : Ran) (r1 s1 : ℕ → Ran) → FollowsUnless r r1 → FollowsUnless s s1 → FollowsUnless (if b then r else s) (λ u. if b then r1 u else s1 u)
  branch_follows true r s r1 s1 h k = h
  branch_follows false r s r1 s1 h k = k

  module _ (owner : ℕ) (each each1 : Ratio → ℕ → Ran) (h : (x : Ratio) (t : ℕ) → FollowsUnless (each x t) (each1 x)) where
    round_follows : (x : Ratio) (t : ℕ) → FollowsUnless (one_round narrowly owner each x t) (one_round exactly owner each1 x)
    round_follows x zero = stopped _ _
    round_follows x (suc t) = h x t

    rounds_follow : (o : Op) (n : ℕ) (i : ℤ) (x : Ratio) (t : ℕ) → FollowsUnless (rounds narrowly owner each o n i x t) (rounds exactly owner each1 o n i x)
    rounds_follow o zero i x t = here x t
    rounds_follow o (suc n) i x t =
        then_follows _ _ _ _ (round_follows (whole i) t) (λ v t1. then_follows _ _ _ _ (operation_follows owner t1 o x v) (λ y t2. rounds_follow o n (i +ℤ pos 1) y t2))

    between_follow : (o : Op) (start : Ratio) (a b : Option ℤ) (t : ℕ) → FollowsUnless (rounds_between narrowly owner each o start a b t) (rounds_between exactly owner each1 o start a b)
    between_follow o start None b t = stopped _ _
    between_follow o start (Some a) None t = stopped _ _
    between_follow o start (Some a) (Some b) t = rounds_follow o (round_count a b) a start t

    replacements_follow : (n : ℕ) (x : Ratio) (t : ℕ) → FollowsUnless (replacements narrowly owner each n x t) (replacements exactly owner each1 n x)
    replacements_follow zero x t = here x t
    replacements_follow (suc n) x t =
        then_follows _ _ _ _ (round_follows x t) (λ v t1. replacements_follow n v t1)

    times_follow : (x : Ratio) (b : Option ℤ) (t : ℕ) → FollowsUnless (replacements_for narrowly owner each x b t) (replacements_for exactly owner each1 x b)
    times_follow x None t = stopped _ _
    times_follow x (Some (pos n)) t = replacements_follow n x t
    times_follow x (Some (negsuc n)) t = stopped _ _

  module _ (owner : ℕ) (f g : Calls) (calls : (k out : ℕ) (vs : List Ratio) (t : ℕ) → FollowsUnless (f k out vs t) (g k out vs)) (ins : List Ratio) where
    mutual
      pub mean_follows : (b : BodyTree) (locs : List Ratio) (t : ℕ) → FollowsUnless (mean narrowly owner f ins b locs t) (mean exactly owner g ins b locs)
      mean_follows (num v) locs t = here v t
      mean_follows (input i) locs t = here (value_at ins i) t
      mean_follows (local j) locs t = here (value_at locs j) t
      mean_follows (neg a) locs t =
          then_follows _ _ _ _ (mean_follows a locs t) (λ x t1. here (negative_of x) t1)
      mean_follows (op o a b) locs t =
          both_follow _ _ _ _ _ _ (mean_follows a locs t) (λ t1. mean_follows b locs t1) (λ x y t2. operation_follows owner t2 o x y)
      mean_follows (choice c a b p q) locs t =
          both_follow _ _ _ _ _ _ (mean_follows a locs t) (λ t1. mean_follows b locs t1) (λ x y t2. branch_follows (holds c x y) _ _ _ _ (mean_follows p locs t2) (mean_follows q locs t2))
      mean_follows (total a b e) locs t =
          both_follow _ _ _ _ _ _ (mean_follows a locs t) (λ t1. mean_follows b locs t1) (λ x y t2. between_follow owner _ _ (λ v t3. mean_follows e (locs ++ v ∷ []) t3) Add (whole (pos 0)) (whole_of x) (whole_of y) t2)
      mean_follows (product a b e) locs t =
          both_follow _ _ _ _ _ _ (mean_follows a locs t) (λ t1. mean_follows b locs t1) (λ x y t2. between_follow owner _ _ (λ v t3. mean_follows e (locs ++ v ∷ []) t3) Mul (whole (pos 1)) (whole_of x) (whole_of y) t2)
      mean_follows (iterate a b e) locs t =
          both_follow _ _ _ _ _ _ (mean_follows a locs t) (λ t1. mean_follows b locs t1) (λ x y t2. times_follow owner _ _ (λ v t3. mean_follows e (locs ++ v ∷ []) t3) x (whole_of y) t2)
      mean_follows (call k out args) locs t =
          then_follows _ _ _ _ (all_follow args locs t) (λ vs t1. calls k out vs t1)

      all_follow : (args : BodyTrees) (locs : List Ratio) (t : ℕ) → FollowsUnless (mean_all narrowly owner f ins args locs t) (mean_all exactly owner g ins args locs)
      all_follow none locs t = here [] t
      all_follow (more a rest) locs t =
          then_follows _ _ _ _ (mean_follows a locs t) (λ v t1. then_follows _ _ _ _ (all_follow rest locs t1) (λ vs t2. here (v ∷ vs) t2))

-- where nothing is lacking
only_value : {A : Type 0} (r : Result (A × ℕ) Stop) (v : A) (u : ℕ) → Ends ⊥ r v u → r ≡ Ok (v, u)
only_value r v u (inl p) = absurd p.0
only_value r v u (inr e) = e

either_end : {A : Type 0} (r : Result (A × ℕ) Stop) (v : A) (u : ℕ) → Ends (Unit {0}) r v u → (r ≡ Err no_row) ⊎ (r ≡ Ok (v, u))
either_end r v u (inl p) = inl p.1
either_end r v u (inr e) = inr e

from_either : {A : Type 0} (r : Result (A × ℕ) Stop) (v : A) (u : ℕ) → (r ≡ Err no_row) ⊎ (r ≡ Ok (v, u)) → Ends (Unit {0}) r v u
from_either r v u (inl e) = inl (tt, e)
from_either r v u (inr e) = inr e

pub exact_follows : (owner : ℕ) (f g : Calls) → CallsFollow f g → (ins : List Ratio) (b : BodyTree) (locs : List Ratio) (t : ℕ) → RunFollows (mean narrowly owner f ins b locs t) (mean exactly owner g ins b locs)
exact_follows owner f g h ins b locs t v t1 u e =
    only_value _ v u (mean_follows ⊥ owner f g (λ k out vs t2 x t3 u1 e1. inr (h k out vs t2 x t3 u1 e1)) ins b locs t v t1 u e)

pub exact_follows_on_rows : (owner : ℕ) (f g : Calls) → CallsFollowOnRows f g → (ins : List Ratio) (b : BodyTree) (locs : List Ratio) (t : ℕ) → RunFollowsOnRows (mean narrowly owner f ins b locs t) (mean exactly owner g ins b locs)
exact_follows_on_rows owner f g h ins b locs t v t1 u e =
    either_end _ v u (mean_follows (Unit {0}) owner f g (λ k out vs t2 x t3 u1 e1. from_either _ x u1 (h k out vs t2 x t3 u1 e1)) ins b locs t v t1 u e)
