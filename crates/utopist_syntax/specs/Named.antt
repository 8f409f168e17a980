-- A name as contracts see it.
use Rattle.std.specs.Prelude.{ℕ, List, refl}
use Rattle.std.specs.Coded.{Coded, code_by, coded×, coded_list, coded_ℕ}
use Rattle.priz_base.specs.declared.place.Place.{Place}

-- the bytes of a name, and where it begins in the text
pub record Named : Type 0 where
  pub text : List ℕ
  pub place : Place

-- a place is stored as the triple of its numbers
abbrev pub place_code : Coded Place
place_code = code_by (ℕ × (ℕ × ℕ)) (coded× coded_ℕ (coded× coded_ℕ coded_ℕ)) (λ p. (p.at, (p.line, p.col))) (λ q. record { at = q.0; line = q.1.0; col = q.1.1 }) (λ _. refl)

-- a name is stored as the pair of its fields
abbrev pub named_code : Coded Named
named_code = code_by (List ℕ × Place) (coded× (coded_list coded_ℕ) place_code) (λ n. (n.text, n.place)) (λ p. record { text = p.0; place = p.1 }) (λ _. refl)
