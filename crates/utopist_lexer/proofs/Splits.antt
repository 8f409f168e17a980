-- Two fronts of one list.
use Rattle.std.proofs.Common.{◌≡◌, List, [], ◌∷◌, ◌++◌, refl, sym, inl, inr}
use Rattle.std.specs.Prelude.{◌⊎◌}

-- the second front is the first and more
abbrev pub Splits : {X : Type 0} → List X → List X → List X → List X → Type 0
Splits {X} xs ys us vs = (more : List X) × (us ≡ xs ++ more) × (ys ≡ more ++ vs)

split_more : {X : Type 0} (x u : X) (xs ys us vs : List X) → x ≡ u → Splits xs ys us vs ⊎ Splits us vs xs ys → Splits (x ∷ xs) ys (u ∷ us) vs ⊎ Splits (u ∷ us) vs (x ∷ xs) ys
split_more x u xs ys us vs e (inl s) = inl (s.0, (λ i. sym e i ∷ s.1 i), s.2)
split_more x u xs ys us vs e (inr s) = inr (s.0, (λ i. e i ∷ s.1 i), s.2)

-- of two fronts of a list one is a front of the other
pub fronts_split : {X : Type 0} (xs ys us vs : List X) → xs ++ ys ≡ us ++ vs → Splits xs ys us vs ⊎ Splits us vs xs ys
fronts_split [] ys us vs e = inl (us, refl, e)
fronts_split (x ∷ xs) ys [] vs e = inr (x ∷ xs, refl, sym e)
fronts_split (x ∷ xs) ys (u ∷ us) vs e =
    let head : x ≡ u = cc in
    let tail : xs ++ ys ≡ us ++ vs = cc in
    split_more x u xs ys us vs head (fronts_split xs ys us vs tail)
