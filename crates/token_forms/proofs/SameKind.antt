-- Kinds are the same exactly where they spell the same.
use Rattle.std.proofs.Common.{◌≡◌, true, Option, Some, refl, sym, ap, ◌∙◌}
use Rattle.std.specs.Prelude.{ℤ}
use Rattle.std.specs.Ordering.{int_eq}
use Rattle.std.proofs.lemmas.Bool.{and_parts, and_from}
use Rattle.std.proofs.lemmas.Bool.Decides.{Decides-int_eq}
use Rattle.std.proofs.lemmas.Slice.Eq.{bytes_eq-Decides}
use Rattle.utopist_lexer.specs.declared.word.Word.{Word}
use Rattle.utopist_lexer.specs.declared.mark.Mark.{Mark}
use Rattle.utopist_lexer.specs.declared.token.Kind.{Kind}
use Rattle.utopist_lexer.specs.declared.token.Kind.TheVariants as kinds
use Rattle.utopist_lexer.specs.Spelling.{word_text, mark_text}
use Rattle.utopist_lexer.specs.Kinds.{same_kind}
use Rattle.utopist_lexer.specs.steps.Tables.{word_of, front_mark}
use Rattle.utopist_lexer.proofs.Spellings.{word_of-text, mark_at-text}

pub some_same : {X : Type 0} (x y : X) → ◌≡◌ {A = Option X} (Some x) (Some y) → x ≡ y
some_same x y e = cc

pub same_kind-true : (j k : Kind) → same_kind j k ≡ true → j ≡ k
same_kind-true kinds.Name kinds.Name e = refl
same_kind-true (kinds.Word v) (kinds.Word w) e =
    ap (λ (x : Word). kinds.Word x) (some_same v w (sym (word_of-text v) ∙ ap word_of ((bytes_eq-Decides (word_text v) (word_text w)).0 e) ∙ word_of-text w))
same_kind-true (kinds.Number i) (kinds.Number j) e = ap (λ (x : ℤ). kinds.Number x) ((Decides-int_eq i j).0 e)
same_kind-true (kinds.Sub i a) (kinds.Sub j b) e =
    let both = and_parts (int_eq i j) (int_eq a b) e in
    let k = (Decides-int_eq i j).0 both.0 in
    let o = (Decides-int_eq a b).0 both.1 in
    λ x. kinds.Sub (k x) (o x)
same_kind-true (kinds.Mark m) (kinds.Mark n) e =
    ap (λ (x : Mark). kinds.Mark x) (some_same m n (sym (mark_at-text m) ∙ ap front_mark ((bytes_eq-Decides (mark_text m) (mark_text n)).0 e) ∙ mark_at-text n))
same_kind-true kinds.End kinds.End e = refl
same_kind-true j k e = absurd cc

pub same_kind-refl : (k : Kind) → same_kind k k ≡ true
same_kind-refl kinds.Name = refl
same_kind-refl (kinds.Word w) = (bytes_eq-Decides (word_text w) (word_text w)).1 refl
same_kind-refl (kinds.Number i) = (Decides-int_eq i i).1 refl
same_kind-refl (kinds.Sub i j) = and_from (int_eq i i) (int_eq j j) ((Decides-int_eq i i).1 refl) ((Decides-int_eq j j).1 refl)
same_kind-refl (kinds.Mark m) = (bytes_eq-Decides (mark_text m) (mark_text m)).1 refl
same_kind-refl kinds.End = refl
