-- What stands behind a gap is an end of the text.
use Rattle.std.proofs.Common.{◌≡◌, ℕ, Bool, true, false, cond, eqb, not, List, [], ◌∷◌, ◌++◌, refl, ap}
use Rattle.utopist_lexer.specs.Characters.{is_blank}
use Rattle.utopist_lexer.specs.Gap.{past_gap}

-- an end of some characters
abbrev pub IsEndOf : List ℕ → List ℕ → Type 0
IsEndOf cs rest = (before : List ℕ) × (cs ≡ before ++ rest)

end_more : (c : ℕ) (cs rest : List ℕ) → IsEndOf cs rest → IsEndOf (c ∷ cs) rest
end_more c cs rest e = (c ∷ e.0, ap (λ (l : List ℕ). c ∷ l) e.1)

end_either : (b : Bool) (cs x y : List ℕ) → IsEndOf cs x → IsEndOf cs y → IsEndOf cs (cond b x y)
end_either true cs x y e f = e
end_either false cs x y e f = f

pub gap_end : (inside : Bool) (cs : List ℕ) → IsEndOf cs (past_gap inside cs)
gap_end inside [] = ([], refl)
gap_end true (c ∷ cs) = end_more c cs _ (gap_end (not (eqb c 10)) cs)
gap_end false (c ∷ cs) =
    end_either (is_blank c) (c ∷ cs) _ _ (end_more c cs _ (gap_end false cs))
    (end_either (eqb c 35) (c ∷ cs) _ _ (end_more c cs _ (gap_end true cs)) ([], refl))
