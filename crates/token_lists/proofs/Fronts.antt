-- At the front of some characters a token stands, or there is why none does.
use Rattle.std.proofs.Common.{◌≡◌, ℕ, Bool, true, false, eqb, List, ◌∷◌, refl, sym, subst}
use Rattle.std.specs.Char.{is_ascii_digit}
use Rattle.std.proofs.lemmas.Bool.{eqb-true, eqb-false}
use Rattle.utopist_lexer.specs.Characters.{is_start}
use Rattle.utopist_lexer.proofs.Leads.{other_lead}
use Rattle.token_lists.proofs.FrontTokens.{HasFront}
use Rattle.token_lists.proofs.Names.{name_front}
use Rattle.token_lists.proofs.Numbers.{digits_front}
use Rattle.token_lists.proofs.Calls.{dollar_front}
use Rattle.token_lists.proofs.MarkTokens.{mark_front}

by_class : (c : ℕ) (cs : List ℕ) (a b d : Bool) → is_start c ≡ a → is_ascii_digit c ≡ b → eqb c 36 ≡ d → HasFront (c ∷ cs)
by_class c cs true b d e f g = name_front c cs e
by_class c cs false true d e f g = digits_front c cs f
by_class c cs false false true e f g = subst (λ (x : ℕ). HasFront (x ∷ cs)) (sym (eqb-true c 36 g)) (dollar_front cs)
by_class c cs false false false e f g = mark_front c cs (other_lead c e f g) (eqb-false c 36 g)

pub front_exists : (c : ℕ) (cs : List ℕ) → HasFront (c ∷ cs)
front_exists c cs = by_class c cs (is_start c) (is_ascii_digit c) (eqb c 36) refl refl refl
