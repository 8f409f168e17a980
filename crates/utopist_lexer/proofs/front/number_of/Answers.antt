use Rattle.std.proofs.Common.{refl, sym, subst}
use Rattle.std.specs.Prelude.{ℤ}
use Rattle.std.specs.Str.{chars}
use Rattle.utopist_lexer.specs.declared.token.Kind.TheVariants as kinds
use Rattle.utopist_lexer.specs.Lexical.{IsToken}
use Rattle.utopist_lexer.proofs.Found.{number_digits, number_token, number_not_free, number_wide}
use Rattle.utopist_lexer.proofs.Values.{stored}
use Rattle.utopist_lexer.proofs.front.number_of.Goals as goal

pub value_of-requires : goal.value_of-requires
value_of-requires c = number_digits c.args.text.now c.cut_run.result.0.now c.cut_run.result.1.now c.requires c.cut_run.ensures.parts c.cut_run.ensures.run

pub returns-then-not-is_free : goal.returns-then-not-is_free
returns-then-not-is_free c = number_not_free c.args.text.now c.cut_run.result.0.now c.cut_run.result.1.now c.requires c.cut_run.ensures.parts c.cut_run.ensures.run (λ f. absurd (cc (c.if-not-is_free.ensures.1 f)))

pub returns-in-Some : goal.returns-in-Some
returns-in-Some c = (
  c.cut_run.ensures.parts,
  subst (λ (i : ℤ). IsToken (kinds.Number i) (chars c.cut_run.result.0.now) (chars c.cut_run.result.1.now)) (sym (stored (chars c.cut_run.result.0.now) c.in-Some.value c.in-Some.ensures))
      (number_token c.args.text.now c.cut_run.result.0.now c.cut_run.result.1.now c.requires c.cut_run.ensures.parts c.cut_run.ensures.run c.in-Some.value c.in-Some.ensures (c.if-not-is_free.ensures.0 refl)),
)

pub returns-in-None : goal.returns-in-None
returns-in-None c = number_wide c.args.text.now c.cut_run.result.0.now c.cut_run.result.1.now c.requires c.cut_run.ensures.parts c.cut_run.ensures.run c.in-None.ensures (c.if-not-is_free.ensures.0 refl)
