-- One round more of a loop, and what a fault in a round is to the whole.
use Rattle.std.proofs.Common.{◌≡◌, ℕ, suc, ◌+◌, ◌-◌, ◌<◌, ◌≤◌, ℤ, pos, ◌+ℤ◌, Result, Ok, Err, ap, ◌∙◌, arith}
use Rattle.std.proofs.lemmas.Int.{ints}
use Rattle.priz_frac.specs.Ratio.{Ratio}
use Rattle.body_lang.specs.declared.op.Op.{Op}
use Rattle.body_lang.specs.declared.run_fault.RunFault.{RunFault}
use Rattle.body_lang.specs.Precision.{narrowly}
use Rattle.body_lang.specs.Operation.{operate, as_run}
use Rattle.body_lang.specs.Rounds.{one_round, rounds, replacements}
use Rattle.body_lang.specs.Run.{Ran, then_with}
use Rattle.body_lang.specs.Stop.{Stop}
use Rattle.priz_frac.specs.Whole.{whole}
use Rattle.proof_term.specs.steps.Agrees.{Agrees}

-- a result stands for an equal meaning too
pub agrees_along : {A : Type 0} (owner : ℕ) (r : Result A RunFault) (m n : Result A Stop) → m ≡ n → Agrees owner r n → Agrees owner r m
agrees_along owner (Ok v) m n e a = e ∙ a
agrees_along owner (Err kind) m n e a = e ∙ a

-- where a turn is left, a round is its part
pub turn_passes : (owner : ℕ) (each : Ratio → ℕ → Ran) (v : Ratio) (t : ℕ) → 0 < t → one_round narrowly owner each v t ≡ each v (t - 1)
turn_passes owner each v t lt =
    let a : t ≡ suc (t - 1) = omega arith in
    ap (λ u. one_round narrowly owner each v u) a

module _ (owner : ℕ) (each : Ratio → ℕ → Ran) where
  -- what follows a round of a sum or product
  abbrev after : Op → ℕ → ℤ → Ratio → Ratio → ℕ → Ran
  after o n i x w u = then_with (as_run owner u (operate narrowly o x w)) (λ y rest. rounds narrowly owner each o n (i +ℤ pos 1) y rest)

  pub rounds_start : (o : Op) (n : ℕ) (i : ℤ) (x : Ratio) (t : ℕ) → rounds narrowly owner each o n i x t ≡ rounds narrowly owner each o (n - 0) (i +ℤ pos 0) x t
  rounds_start o n i x t =
      let a : n ≡ n - 0 = omega arith in
      let b : i ≡ i +ℤ pos 0 = omega (arith, ints) in
      ap (λ m. rounds narrowly owner each o m i x t) a ∙ ap (λ j. rounds narrowly owner each o (n - 0) j x t) b

  opened : (o : Op) (n k : ℕ) (i : ℤ) (x : Ratio) (t : ℕ) → k < n → rounds narrowly owner each o (n - k) (i +ℤ pos k) x t ≡ then_with (one_round narrowly owner each (whole (i +ℤ pos k)) t) (λ w u. after o (n - k - 1) (i +ℤ pos k) x w u)
  opened o n k i x t lt =
      let a : n - k ≡ suc (n - k - 1) = omega arith in
      ap (λ m. rounds narrowly owner each o m (i +ℤ pos k) x t) a

  pub rounds_more : (o : Op) (n k : ℕ) (i : ℤ) (x v y : Ratio) (t u rest : ℕ) → k < n → one_round narrowly owner each (whole (i +ℤ pos k)) t ≡ Ok (v, u) → as_run owner u (operate narrowly o x v) ≡ Ok (y, rest) → rounds narrowly owner each o (n - k) (i +ℤ pos k) x t ≡ rounds narrowly owner each o (n - (k + 1)) (i +ℤ pos (k + 1)) y rest
  rounds_more o n k i x v y t u rest lt er ew =
      let b : n - k - 1 ≡ n - (k + 1) = omega arith in
      let c : i +ℤ pos k +ℤ pos 1 ≡ i +ℤ pos (k + 1) = omega (arith, ints) in
      opened o n k i x t lt
      ∙ ap (λ r. then_with r (λ w s. after o (n - k - 1) (i +ℤ pos k) x w s)) er
      ∙ ap (λ r. then_with r (λ z s. rounds narrowly owner each o (n - k - 1) (i +ℤ pos k +ℤ pos 1) z s)) ew
      ∙ ap (λ j. rounds narrowly owner each o (n - k - 1) j y rest) c
      ∙ ap (λ m. rounds narrowly owner each o m (i +ℤ pos (k + 1)) y rest) b

  pub rounds_end : (o : Op) (n k : ℕ) (i : ℤ) (x : Ratio) (t : ℕ) → n ≤ k → rounds narrowly owner each o (n - k) (i +ℤ pos k) x t ≡ Ok (x, t)
  rounds_end o n k i x t le =
      let a : n - k ≡ 0 = omega arith in
      ap (λ m. rounds narrowly owner each o m (i +ℤ pos k) x t) a

  pub round_stops : (o : Op) (n k : ℕ) (i : ℤ) (x : Ratio) (t : ℕ) (s : Stop) → k < n → one_round narrowly owner each (whole (i +ℤ pos k)) t ≡ Err s → rounds narrowly owner each o (n - k) (i +ℤ pos k) x t ≡ Err s
  round_stops o n k i x t s lt e =
      opened o n k i x t lt ∙ ap (λ r. then_with r (λ w u. after o (n - k - 1) (i +ℤ pos k) x w u)) e

  pub joining_stops : (o : Op) (n k : ℕ) (i : ℤ) (x v : Ratio) (t u : ℕ) (s : Stop) → k < n → one_round narrowly owner each (whole (i +ℤ pos k)) t ≡ Ok (v, u) → as_run owner u (operate narrowly o x v) ≡ Err s → rounds narrowly owner each o (n - k) (i +ℤ pos k) x t ≡ Err s
  joining_stops o n k i x v t u s lt er ew =
      opened o n k i x t lt
      ∙ ap (λ r. then_with r (λ w z. after o (n - k - 1) (i +ℤ pos k) x w z)) er
      ∙ ap (λ r. then_with r (λ y rest. rounds narrowly owner each o (n - k - 1) (i +ℤ pos k +ℤ pos 1) y rest)) ew

  pub replacing_starts : (n : ℕ) (x : Ratio) (t : ℕ) → replacements narrowly owner each n x t ≡ replacements narrowly owner each (n - 0) x t
  replacing_starts n x t = let a : n ≡ n - 0 = omega arith in ap (λ m. replacements narrowly owner each m x t) a

  replaced_once : (n k : ℕ) (x : Ratio) (t : ℕ) → k < n → replacements narrowly owner each (n - k) x t ≡ then_with (one_round narrowly owner each x t) (λ w u. replacements narrowly owner each (n - k - 1) w u)
  replaced_once n k x t lt =
      let a : n - k ≡ suc (n - k - 1) = omega arith in
      ap (λ m. replacements narrowly owner each m x t) a

  pub replaced_more : (n k : ℕ) (x v : Ratio) (t u : ℕ) → k < n → one_round narrowly owner each x t ≡ Ok (v, u) → replacements narrowly owner each (n - k) x t ≡ replacements narrowly owner each (n - (k + 1)) v u
  replaced_more n k x v t u lt er =
      let b : n - k - 1 ≡ n - (k + 1) = omega arith in
      replaced_once n k x t lt
      ∙ ap (λ r. then_with r (λ w z. replacements narrowly owner each (n - k - 1) w z)) er
      ∙ ap (λ m. replacements narrowly owner each m v u) b

  pub replacing_ends : (n k : ℕ) (x : Ratio) (t : ℕ) → n ≤ k → replacements narrowly owner each (n - k) x t ≡ Ok (x, t)
  replacing_ends n k x t le =
      let a : n - k ≡ 0 = omega arith in
      ap (λ m. replacements narrowly owner each m x t) a

  pub replacing_stops : (n k : ℕ) (x : Ratio) (t : ℕ) (s : Stop) → k < n → one_round narrowly owner each x t ≡ Err s → replacements narrowly owner each (n - k) x t ≡ Err s
  replacing_stops n k x t s lt e =
      replaced_once n k x t lt ∙ ap (λ r. then_with r (λ w z. replacements narrowly owner each (n - k - 1) w z)) e
