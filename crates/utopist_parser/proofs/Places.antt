-- The token at which some symbols are left.
use Rattle.std.proofs.Common.{◌≡◌, ℕ, ◌+◌, ◌-◌, false, List, [], ◌∷◌, ◌++◌, length, map, drop, refl, sym, ap, ◌∙◌, arith, inl, inr, length-append}
use Rattle.std.specs.Prelude.{◌⊎◌}
use Rattle.std.proofs.lemmas.List.{drop_at, length-map}
use Rattle.utopist_lexer.specs.Gap.{past_gap}
use Rattle.utopist_lexer.specs.Places.{Stands}
use Rattle.utopist_lexer.specs.Lexical.{Tok, IsToken}
use Rattle.utopist_lexer.specs.Tokens.{ReadsTo}
use Rattle.token_forms.specs.Symbols.{Symbol, symbol_of}

-- a list split where another one is
pub record SplitAt (items : List Tok) (front : List Symbol) (c : Symbol) : Type 0 where
  pub before : List Tok
  pub item : Tok
  pub after : List Tok
  pub split : items ≡ before ++ item ∷ after
  pub front_is : front ≡ map symbol_of before
  pub item_is : c ≡ symbol_of item

pub split_at : (items : List Tok) (front : List Symbol) (c : Symbol) (cs : List Symbol) → map symbol_of items ≡ front ++ c ∷ cs → SplitAt items front c
split_at [] [] c cs e = absurd cc
split_at [] (f ∷ front) c cs e = absurd cc
split_at (t ∷ items) [] c cs e = record { before = []; item = t; after = items; split = refl; front_is = refl; item_is = cc }
split_at (t ∷ items) (f ∷ front) c cs e =
    let head : f ≡ symbol_of t = cc in
    let tail : map symbol_of items ≡ front ++ c ∷ cs = cc in
    let s = split_at items front c cs tail in
    record { before = t ∷ s.before; item = s.item; after = s.after; split = ap (λ (l : List Tok). t ∷ l) s.split; front_is = λ i. head i ∷ s.front_is i; item_is = s.item_is }

-- where so many are left, the token stands
pub drop_to : (items : List Tok) (front : List Symbol) (c : Symbol) (s : SplitAt items front c) (left : ℕ) (cs : List Symbol) → map symbol_of items ≡ front ++ c ∷ cs → length (c ∷ cs) ≡ left → drop (length items - left) items ≡ s.item ∷ s.after
drop_to items front c s left cs e size =
    let long : length items ≡ length s.before + length (s.item ∷ s.after) = ap length s.split ∙ length-append s.before (s.item ∷ s.after) in
    let all : length items ≡ length front + length (c ∷ cs) = sym (length-map items symbol_of) ∙ ap length e ∙ length-append front (c ∷ cs) in
    let fronts : length front ≡ length s.before = ap length s.front_is ∙ length-map s.before symbol_of in
    let at : length s.before ≡ length items - left = omega arith in
    ap (drop (length items - left)) s.split ∙ drop_at s.before (s.item ∷ s.after) (length items - left) at

-- ---- a token inside a reading

pub record Inside (whole left : List ℕ) (before : List Tok) (t : Tok) : Type 0 where
  pub at : List ℕ
  pub read : ReadsTo whole left before at
  pub stands : Stands whole at t.place
  pub rest : List ℕ
  pub split : at ≡ t.text ++ rest
  pub token : IsToken t.kind t.text rest

pub inside : (whole left : List ℕ) (before : List Tok) (t : Tok) (after : List Tok) (stop : List ℕ) → ReadsTo whole left (before ++ t ∷ after) stop → Inside whole left before t
inside whole left [] t after stop r = record { at = past_gap false left; read = refl; stands = r.2; rest = r.0; split = r.1; token = r.3 }
inside whole left (b ∷ before) t after stop r =
    let i = inside whole r.0 before t after stop r.4 in
    record { at = i.at; read = (r.0, r.1, r.2, r.3, i.read); stands = i.stands; rest = i.rest; split = i.split; token = i.token }

-- what stands before the last, or is the last
pub last_or : {X : Type 0} (xs : List X) (x : X) (ys us : List X) (u : X) → xs ++ x ∷ ys ≡ us ++ u ∷ [] → ((xs ≡ us) × (x ≡ u)) ⊎ ((more : List X) × (us ≡ xs ++ x ∷ more))
last_or [] x ys [] u e = inl (refl, cc)
last_or [] x ys (v ∷ us) u e = let same : x ≡ v = cc in inr (us, ap (λ w. w ∷ us) (sym same))
last_or (y ∷ xs) x ys [] u e = absurd (omega (arith, ap length e, length-append xs (x ∷ ys)))
last_or {X} (y ∷ xs) x ys (v ∷ us) u e =
    let head : y ≡ v = cc in
    let tail : xs ++ x ∷ ys ≡ us ++ u ∷ [] = cc in
    elim (last_or xs x ys us u tail) [
      | inl s ↦ inl ((λ i. head i ∷ s.0 i), s.1)
      | inr s ↦ inr (s.0, λ i. sym head i ∷ s.1 i)
    ]
