-- Which form a factor or an expression is read as.
use Rattle.std.proofs.Common.{◌≡◌, ℕ, zero, suc, true, false, List, length, Ok, Err, refl, sym, ap, subst}
use Rattle.utopist_lexer.specs.declared.mark.Mark.TheVariants as marks
use Rattle.utopist_lexer.specs.declared.token.Kind.TheVariants as kinds
use Rattle.utopist_parser.specs.declared.breadth.Breadth.{Breadth}
use Rattle.token_forms.specs.Symbols.{Symbol}
use Rattle.token_forms.specs.declared.parse_stop.Why.TheVariants.{TooDeep}
use Rattle.token_forms.specs.steps.Steps.{Reading, Miss, next, meets, deeper}
use Rattle.token_forms.specs.steps.Single.{is_mark, is_kind}
use Rattle.utopist_parser.specs.steps.ReadingExpr.{settled, begins_call, begins_loop, begins_choice, negated_step, round_step, call_step, loop_step, choice_step, literal_step, variable_step, levels_within, factor_at, chain_at, expr_at}
use Rattle.token_forms.specs.steps.Answers.{StoppedAt, Fails}
use Rattle.token_forms.proofs.Loops.{fails_on}
use Rattle.utopist_parser.proofs.Rooms.{negated_same, round_same, call_same, loop_same, choice_same, literal_same, variable_same}

-- where there is no room for a part, nothing one level deeper is read
pub no_room : {V W : Type 0} (e : StoppedAt) (room : ℕ) (ts : List Symbol) (v : V × List Symbol) (read : Reading W) → Fails e (deeper room ts (Ok v)) → Fails e (deeper room ts read)
no_room {V} {W} e room ts v read h = fails_on e (deeper room ts (Ok v)) (deeper room ts read) (go room) h where
  go : (n : ℕ) (x : Miss) → deeper n ts (Ok v) ≡ Err x → deeper n ts read ≡ Err x
  go zero x i = let same : (TooDeep, length ts) ≡ x = cc in ap (λ (y : Miss). Err y) same
  go (suc n) x i = absurd cc

module _ (b : Breadth) (room : ℕ) (ts : List Symbol) where
  -- a minus begins a negation
  pub factor_is_negated : true ≡ meets (is_mark marks.Minus) (next ts) → factor_at b room ts ≡ deeper room ts (negated_step (settled (levels_within b room).factor) 63 ts)
  unfolding factor_at
  factor_is_negated m = rw (← m) (λ i. deeper room ts (negated_same (levels_within b room).factor room i ts))

  module _ (no_minus : false ≡ meets (is_mark marks.Minus) (next ts)) where
    -- a bracket begins parentheses
    pub factor_is_round : true ≡ meets (is_mark marks.OpenRound) (next ts) → factor_at b room ts ≡ deeper room ts (round_step (settled (levels_within b room).expr) 63 ts)
    unfolding factor_at
    factor_is_round m = rw (← no_minus, ← m) (λ i. deeper room ts (round_same (levels_within b room).expr room i ts))

    module _ (no_round : false ≡ meets (is_mark marks.OpenRound) (next ts)) where
      -- the number of a subtask begins a call
      pub factor_is_call : true ≡ meets (begins_call b) (next ts) → factor_at b room ts ≡ deeper room ts (call_step (settled (levels_within b room).expr) 63 ts)
      unfolding factor_at
      factor_is_call m = rw (← no_minus, ← no_round, ← m) (λ i. deeper room ts (call_same (levels_within b room).expr room i ts))

      module _ (no_call : false ≡ meets (begins_call b) (next ts)) where
        -- the kind of a loop begins a loop
        pub factor_is_loop : true ≡ meets (begins_loop b) (next ts) → factor_at b room ts ≡ deeper room ts (loop_step (settled (levels_within b room).expr) 63 ts)
        unfolding factor_at
        factor_is_loop m = rw (← no_minus, ← no_round, ← no_call, ← m) (λ i. deeper room ts (loop_same (levels_within b room).expr room i ts))

        module _ (no_loop : false ≡ meets (begins_loop b) (next ts)) where
          -- a name begins a path
          pub factor_is_variable : true ≡ meets (is_kind kinds.Name) (next ts) → factor_at b room ts ≡ variable_step 63 ts
          unfolding factor_at
          factor_is_variable m = rw (← no_minus, ← no_round, ← no_call, ← no_loop, ← m) (λ i. variable_same room i ts)

          -- else a number is wanted
          pub factor_is_literal : false ≡ meets (is_kind kinds.Name) (next ts) → factor_at b room ts ≡ literal_step 63 ts
          unfolding factor_at
          factor_is_literal m = rw (← no_minus, ← no_round, ← no_call, ← no_loop, ← m) (λ i. literal_same room i ts)

  -- `if` begins a choice
  pub expr_is_choice : true ≡ meets (begins_choice b) (next ts) → expr_at b room ts ≡ deeper room ts (choice_step (settled (levels_within b room).chain) (settled (levels_within b room).expr) 63 ts)
  unfolding expr_at
  expr_is_choice m = rw (← m) (λ i. deeper room ts (choice_same (levels_within b room).chain (levels_within b room).expr room i ts))

  -- else a chain is wanted
  pub expr_is_chain : false ≡ meets (begins_choice b) (next ts) → expr_at b room ts ≡ chain_at b room ts
  unfolding expr_at chain_at
  expr_is_chain m = rw (← m) refl

-- what is one level deeper, where there is room for it: a negation, parentheses, a call, a loop, a choice
module _ (b : Breadth) (room below : ℕ) (ts : List Symbol) (one : room ≡ suc below) where
  pub negated_below : deeper room ts (negated_step (settled (levels_within b room).factor) 63 ts) ≡ negated_step (settled (factor_at b below)) 63 ts
  unfolding factor_at
  negated_below = subst (λ r. deeper r ts (negated_step (settled (levels_within b r).factor) 63 ts) ≡ negated_step (settled (factor_at b below)) 63 ts) (sym one) refl

  pub round_below : deeper room ts (round_step (settled (levels_within b room).expr) 63 ts) ≡ round_step (settled (expr_at b below)) 63 ts
  unfolding expr_at
  round_below = subst (λ r. deeper r ts (round_step (settled (levels_within b r).expr) 63 ts) ≡ round_step (settled (expr_at b below)) 63 ts) (sym one) refl

  pub call_below : deeper room ts (call_step (settled (levels_within b room).expr) 63 ts) ≡ call_step (settled (expr_at b below)) 63 ts
  unfolding expr_at
  call_below = subst (λ r. deeper r ts (call_step (settled (levels_within b r).expr) 63 ts) ≡ call_step (settled (expr_at b below)) 63 ts) (sym one) refl

  pub loop_below : deeper room ts (loop_step (settled (levels_within b room).expr) 63 ts) ≡ loop_step (settled (expr_at b below)) 63 ts
  unfolding expr_at
  loop_below = subst (λ r. deeper r ts (loop_step (settled (levels_within b r).expr) 63 ts) ≡ loop_step (settled (expr_at b below)) 63 ts) (sym one) refl

  pub choice_below : deeper room ts (choice_step (settled (levels_within b room).chain) (settled (levels_within b room).expr) 63 ts) ≡ choice_step (settled (chain_at b below)) (settled (expr_at b below)) 63 ts
  unfolding chain_at expr_at
  choice_below = subst (λ r. deeper r ts (choice_step (settled (levels_within b r).chain) (settled (levels_within b r).expr) 63 ts) ≡ choice_step (settled (chain_at b below)) (settled (expr_at b below)) 63 ts) (sym one) refl
