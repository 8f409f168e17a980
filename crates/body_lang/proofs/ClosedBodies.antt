-- A body passes the check just where all that it reads is there.
use Rattle.std.proofs.Common.{◌≡◌, ◌<◌, ◌==◌, ℕ, suc, List, true, Option, Some, None, Ok, refl, sym, ap, ◌∙◌, arith}
use Rattle.std.specs.Prelude.{nat_lt, slice_get, IsSomeAnd}
use Rattle.std.proofs.lemmas.Bool.Decides.{nat_tests}
use Rattle.body_lang.specs.declared.body_fault.BodyFault.TheVariants.{BadInput, BadLocal, BadCall, BadArity}
use Rattle.body_lang.specs.declared.arity.Arity.{Arity}
use Rattle.body_lang.specs.BodyTree.{BodyTree, BodyTrees, num, input, local, neg, op, choice, total, product, iterate, call, none, more, count_of}
use Rattle.body_lang.specs.Verdicts.{fault_unless}
use Rattle.body_lang.specs.Checked.{checked, all_checked, call_checked}
use Rattle.body_lang.specs.Reads.{IsClosed, AreClosed}
use Rattle.body_lang.proofs.Verdicts.{first_passes, second_passes, both_pass, test_passes}

-- a number that passes the test is below
is_below : (i n : ℕ) → nat_lt i n ≡ true → i < n
is_below i n e = grind (arith, nat_tests)

-- a number that is below passes it
pub below_passes : (i n : ℕ) → i < n → nat_lt i n ≡ true
below_passes i n lt = grind (arith, nat_tests)

-- a count that passes the test is the same
same_number : (m n : ℕ) → (m == n) ≡ true → n ≡ m
same_number m n e = grind (arith, nat_tests)

-- a count passes the test against itself
equal_to_itself : (n : ℕ) → (n == n) ≡ true
equal_to_itself n = grind (arith, nat_tests)

-- the subtask has this output, and so many inputs
abbrev IsCalled : Option Arity → ℕ → ℕ → Type 0
IsCalled o out count = IsSomeAnd o (λ a. (out < a.outputs) × (count ≡ a.inputs))

-- a call that passes asks for what is there
is_called : (o : Option Arity) (out count : ℕ) → call_checked o out count ≡ Ok tt → IsCalled o out count
is_called None out count e = absurd (cc)
is_called (Some a) out count e = (
  is_below out a.outputs (test_passes (nat_lt out a.outputs) BadCall (first_passes _ _ e)),
  sym (same_number count a.inputs (test_passes (count == a.inputs) BadArity (second_passes _ _ e))),
)

-- a call that asks for what is there passes
call_passes : (o : Option Arity) (out count : ℕ) → IsCalled o out count → call_checked o out count ≡ Ok tt
call_passes None out count h = absurd h
call_passes (Some a) out count h =
    both_pass _ _ (ap (λ b. fault_unless b BadCall) (below_passes out a.outputs h.0))
    (ap (λ m. fault_unless (count == m) BadArity) (sym h.1) ∙ ap (λ b. fault_unless b BadArity) (equal_to_itself count))

module _ (n : ℕ) (arities : List Arity) where
  mutual
    -- a body that passes reads what is there
    pub closed : (loops : ℕ) (t : BodyTree) → checked n arities loops t ≡ Ok tt → IsClosed n arities loops t
    closed loops (num v) h = tt
    closed loops (input i) h = is_below i n (test_passes (nat_lt i n) BadInput h)
    closed loops (local j) h = is_below j loops (test_passes (nat_lt j loops) BadLocal h)
    closed loops (neg a) h = closed loops a h
    closed loops (op o a b) h = (closed loops a (first_passes _ _ h), closed loops b (second_passes _ _ h))
    closed loops (choice c a b p q) h =
        let after = second_passes _ _ h in
        let branches = second_passes _ _ after in
        (closed loops a (first_passes _ _ h), closed loops b (first_passes _ _ after), closed loops p (first_passes _ _ branches), closed loops q (second_passes _ _ branches))
    closed loops (total a b e) h =
        let after = second_passes _ _ h in
        (closed loops a (first_passes _ _ h), closed loops b (first_passes _ _ after), closed (suc loops) e (second_passes _ _ after))
    closed loops (product a b e) h =
        let after = second_passes _ _ h in
        (closed loops a (first_passes _ _ h), closed loops b (first_passes _ _ after), closed (suc loops) e (second_passes _ _ after))
    closed loops (iterate a b e) h =
        let after = second_passes _ _ h in
        (closed loops a (first_passes _ _ h), closed loops b (first_passes _ _ after), closed (suc loops) e (second_passes _ _ after))
    closed loops (call k out args) h =
        (is_called (slice_get arities k) out (count_of args) (first_passes _ _ h), all_closed loops args (second_passes _ _ h))

    -- so do arguments that pass
    all_closed : (loops : ℕ) (args : BodyTrees) → all_checked n arities loops args ≡ Ok tt → AreClosed n arities loops args
    all_closed loops none h = tt
    all_closed loops (more a rest) h = (closed loops a (first_passes _ _ h), all_closed loops rest (second_passes _ _ h))

  mutual
    -- a body that reads what is there passes
    pub passes : (loops : ℕ) (t : BodyTree) → IsClosed n arities loops t → checked n arities loops t ≡ Ok tt
    passes loops (num v) h = refl
    passes loops (input i) h = ap (λ b. fault_unless b BadInput) (below_passes i n h)
    passes loops (local j) h = ap (λ b. fault_unless b BadLocal) (below_passes j loops h)
    passes loops (neg a) h = passes loops a h
    passes loops (op o a b) h = both_pass _ _ (passes loops a h.0) (passes loops b h.1)
    passes loops (choice c a b p q) h =
        both_pass _ _ (passes loops a h.0) (both_pass _ _ (passes loops b h.1) (both_pass _ _ (passes loops p h.2) (passes loops q h.3)))
    passes loops (total a b e) h = both_pass _ _ (passes loops a h.0) (both_pass _ _ (passes loops b h.1) (passes (suc loops) e h.2))
    passes loops (product a b e) h = both_pass _ _ (passes loops a h.0) (both_pass _ _ (passes loops b h.1) (passes (suc loops) e h.2))
    passes loops (iterate a b e) h = both_pass _ _ (passes loops a h.0) (both_pass _ _ (passes loops b h.1) (passes (suc loops) e h.2))
    passes loops (call k out args) h = both_pass _ _ (call_passes (slice_get arities k) out (count_of args) h.0) (all_pass loops args h.1)

    -- so do arguments that read what is there
    all_pass : (loops : ℕ) (args : BodyTrees) → AreClosed n arities loops args → all_checked n arities loops args ≡ Ok tt
    all_pass loops none h = refl
    all_pass loops (more a rest) h = both_pass _ _ (passes loops a h.0) (all_pass loops rest h.1)
