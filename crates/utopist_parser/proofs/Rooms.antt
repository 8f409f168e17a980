-- Forms whose parts are settled are read alike at each room.
use Rattle.std.proofs.Common.{◌≡◌, ℕ, suc, List, [], ◌∷◌, length, Option, Ok, refl, max}
use Rattle.utopist_lexer.specs.declared.word.Word.TheVariants as words
use Rattle.utopist_lexer.specs.declared.mark.Mark.{Mark}
use Rattle.utopist_lexer.specs.declared.mark.Mark.TheVariants as marks
use Rattle.utopist_lexer.specs.declared.token.Kind.{Kind}
use Rattle.utopist_lexer.specs.declared.token.Kind.TheVariants as kinds
use Rattle.utopist_syntax.specs.ExprTree.{num, path, neg, choice, loop, call}
use Rattle.token_forms.specs.Symbols.{Symbol}
use Rattle.token_forms.specs.steps.Steps.{StepOf, ReadOf, on_ok, token_at, pick_at, repeat_fuel}
use Rattle.token_forms.specs.steps.Single.{want_kind, want_name, want_number, want_sub, natural, is_mark, fixed_at, name_at, number_at, sub_at}
use Rattle.token_forms.specs.steps.Lists.{separated_at}
use Rattle.utopist_parser.specs.steps.Lists.{path_at}
use Rattle.utopist_parser.specs.steps.ReadingExpr.{Nested, settled, most, trees_in, negated_step, round_step, call_step, loop_of, loop_step, cmp_of, choice_step, literal_step, variable_step}

-- one symbol
token_same : {V : Type 0} (want : Symbol → Option V) (room : ℕ) → token_at want room ≡ token_at want 63
token_same want room = λ i ts. here ts i where
  here : (ts : List Symbol) → token_at want room ts ≡ token_at want 63 ts
  here [] = refl
  here (c ∷ cs) = refl

-- a keyword, a mark or the end
fixed_same : (k : Kind) (room : ℕ) → fixed_at k room ≡ fixed_at k 63
unfolding fixed_at
fixed_same k room = token_same (want_kind k) room

-- a name
name_same : (room : ℕ) → name_at room ≡ name_at 63
unfolding name_at
name_same room = token_same want_name room

-- a number
number_same : (room : ℕ) → number_at room ≡ number_at 63
unfolding number_at
number_same room = token_same (want_number natural) room

-- the number of a subtask
sub_same : (room : ℕ) → sub_at room ≡ sub_at 63
unfolding sub_at
sub_same room = token_same want_sub room

-- parts with separators
separated_same : {V : Type 0} (separator : Mark) (f : StepOf V) (room : ℕ) → f room ≡ f 63 → separated_at separator f room ≡ separated_at separator f 63
separated_same separator f room e = λ i ts.
    on_ok (e i ts) (λ p.
    on_ok (repeat_fuel (is_mark separator) (λ us. on_ok (fixed_same (kinds.Mark separator) room i us) (λ q. e i q.1)) (length p.1) p.1) (λ q.
    Ok (p.0 ∷ q.0, q.1)))

-- a path
path_same : (room : ℕ) → path_at room ≡ path_at 63
unfolding path_at
path_same room = λ i ts. on_ok (separated_same marks.Dot name_at room (name_same room) i ts) (λ p. Ok (record { parts = p.0 }, p.1))

-- a number as an expression
pub literal_same : (room : ℕ) → literal_step room ≡ literal_step 63
literal_same room = λ i ts. on_ok (number_same room i ts) (λ p. Ok ((num p.0, 1), p.1))

-- a path as an expression
pub variable_same : (room : ℕ) → variable_step room ≡ variable_step 63
variable_same room = λ i ts. on_ok (path_same room i ts) (λ p. Ok ((path p.0.parts, 1), p.1))

module _ (read : ReadOf Nested) (room : ℕ) where
  -- a negation
  pub negated_same : negated_step (settled read) room ≡ negated_step (settled read) 63
  negated_same = λ i ts. on_ok (fixed_same (kinds.Mark marks.Minus) room i ts) (λ p. on_ok (read p.1) (λ q. Ok ((neg q.0.0, suc q.0.1), q.1)))

  -- parentheses
  pub round_same : round_step (settled read) room ≡ round_step (settled read) 63
  round_same = λ i ts.
      on_ok (fixed_same (kinds.Mark marks.OpenRound) room i ts) (λ p.
      on_ok (read p.1) (λ q.
      on_ok (fixed_same (kinds.Mark marks.CloseRound) room i q.1) (λ r.
      Ok ((q.0.0, suc q.0.1), r.1))))

  -- a call
  pub call_same : call_step (settled read) room ≡ call_step (settled read) 63
  call_same = λ i ts.
      on_ok (sub_same room i ts) (λ k.
      on_ok (fixed_same (kinds.Mark marks.OpenRound) room i k.1) (λ p.
      on_ok (separated_same marks.Comma (settled read) room refl i p.1) (λ q.
      on_ok (fixed_same (kinds.Mark marks.CloseRound) room i q.1) (λ r.
      Ok ((call k.0.0.0 k.0.0.1 k.0.1 (trees_in q.0), suc (most q.0)), r.1)))))

  -- a loop
  pub loop_same : loop_step (settled read) room ≡ loop_step (settled read) 63
  loop_same = λ i ts.
      on_ok (pick_at loop_of room ts) (λ k.
      on_ok (fixed_same (kinds.Mark marks.OpenRound) room i k.1) (λ p.
      on_ok (name_same room i p.1) (λ n.
      on_ok (fixed_same (kinds.Mark marks.Comma) room i n.1) (λ p.
      on_ok (read p.1) (λ a.
      on_ok (fixed_same (kinds.Mark marks.Comma) room i a.1) (λ p.
      on_ok (read p.1) (λ b.
      on_ok (fixed_same (kinds.Mark marks.Comma) room i b.1) (λ p.
      on_ok (read p.1) (λ c.
      on_ok (fixed_same (kinds.Mark marks.CloseRound) room i c.1) (λ p.
      Ok ((loop k.0 n.0 a.0.0 b.0.0 c.0.0, suc (max a.0.1 (max b.0.1 c.0.1))), p.1)))))))))))

-- a choice
pub choice_same : (chain expr : ReadOf Nested) (room : ℕ) → choice_step (settled chain) (settled expr) room ≡ choice_step (settled chain) (settled expr) 63
choice_same chain expr room = λ i ts.
    on_ok (fixed_same (kinds.Word words.If) room i ts) (λ p.
    on_ok (chain p.1) (λ a.
    on_ok (pick_at cmp_of room a.1) (λ k.
    on_ok (chain k.1) (λ b.
    on_ok (fixed_same (kinds.Word words.Then) room i b.1) (λ p.
    on_ok (expr p.1) (λ c.
    on_ok (fixed_same (kinds.Word words.Else) room i c.1) (λ p.
    on_ok (expr p.1) (λ d.
    Ok ((choice k.0 a.0.0 b.0.0 c.0.0 d.0.0, suc (max (max a.0.1 b.0.1) (max c.0.1 d.0.1))), d.1)))))))))
