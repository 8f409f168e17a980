-- Text written piece by piece.
use Rattle.std.proofs.Common.{◌≡◌, ℕ, ◌+◌, List, [], ◌∷◌, ◌++◌, append_assoc, arith}
use Rattle.std.specs.Prelude.{codes, map}
use Rattle.std.specs.List.{range_with_len}
use Rattle.std.proofs.lemmas.List.FromFn.{map-range_with_len_more}
use Rattle.proof_term.specs.declared.step.Sub.{Sub}
use Rattle.proof_term.specs.Plain.{subs_of}
use Rattle.cert_text.specs.BlockText.{more_subs_text}
use Rattle.cert_text.specs.steps.Parts.{sub_text}

-- the text of answers, the first of which has this byte before it
abbrev pub after_text : ℕ → List Sub → List ℕ
after_text before [] = codes ")"
after_text before (s ∷ more) = (before ∷ sub_text s) ++ more_subs_text (subs_of more)

-- one more element of a list that is made from its indices
pub one_more : (f : ℕ → ℕ) (start out new : List ℕ) (j d : ℕ) → out ≡ start ++ map f (range_with_len 0 j) → d ≡ f j → new ≡ out ++ d ∷ [] → new ≡ start ++ map f (range_with_len 0 (j + 1))
one_more f start out new j d so_far is e =
    rw (e, so_far, is, map-range_with_len_more f 0 j j (omega arith)) (append_assoc start (map f (range_with_len 0 j)) (f j ∷ []))
