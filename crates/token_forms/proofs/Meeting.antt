-- What the next symbol is, and what it is not.
use Rattle.std.proofs.Common.{◌≡◌, true, false, Option, Some, None, refl, sym, subst}
use Rattle.utopist_lexer.specs.declared.token.Kind.{Kind}
use Rattle.utopist_lexer.specs.Kinds.{same_kind}
use Rattle.token_forms.specs.Symbols.{Symbol}
use Rattle.token_forms.specs.steps.Steps.{meets}
use Rattle.token_forms.specs.steps.Single.{kind_of, is_kind}
use Rattle.token_forms.proofs.SameKind.{same_kind-true}

-- a symbol of one kind is of no other
pub meets_other : (k j : Kind) (o : Option Symbol) → same_kind k j ≡ false → meets (is_kind k) o ≡ true → meets (is_kind j) o ≡ false
meets_other k j None other e = refl
meets_other k j (Some c) other e = subst (λ (i : Kind). same_kind i j ≡ false) (sym (same_kind-true (kind_of c) k e)) other
