-- Runs of characters that pass.
use Rattle.std.proofs.Common.{◌≡◌, ℕ, Bool, true, false, List, [], ◌∷◌, ◌++◌, refl, sym, ap, subst, ◌∙◌, append_assoc}
use Rattle.std.specs.Char.{encode_utf8}
use Rattle.std.specs.List.{list_all}
use Rattle.std.specs.Str.{IsUtf8, chars}
use Rattle.std.proofs.lemmas.Bool.{and_from}
use Rattle.std.proofs.lemmas.List.{append_cancel_right}
use Rattle.std.proofs.lemmas.Str.{IsUtf8-past_char}
use Rattle.std.proofs.lemmas.List.Folds.{list_all-append}
use Rattle.utopist_lexer.specs.Cutting.{Parts, StopsAt, IsRun}

-- a front that passes, and the rest, by bytes and by characters
pub record RunSoFar (p : ℕ → Bool) (text rest : List ℕ) : Type 0 where
  pub front : List ℕ
  pub bytes : text ≡ front ++ rest
  pub run : List ℕ
  pub characters : chars text ≡ run ++ chars rest
  pub passes : list_all p run ≡ true
  pub utf8 : IsUtf8 rest

module _ (p : ℕ → Bool) where
  pub run_none : (text : List ℕ) → IsUtf8 text → RunSoFar p text text
  run_none text u = record { front = []; bytes = refl; run = []; characters = refl; passes = refl; utf8 = u }

  -- one more character that passes
  pub run_more : (text rest after : List ℕ) (c : ℕ) → rest ≡ encode_utf8 c ++ after → chars rest ≡ c ∷ chars after → p c ≡ true → RunSoFar p text rest → RunSoFar p text after
  run_more text rest after c bytes is passes r = record {
    front = r.front ++ encode_utf8 c;
    bytes = r.bytes ∙ ap (λ (l : List ℕ). r.front ++ l) bytes ∙ sym (append_assoc r.front (encode_utf8 c) after);
    run = r.run ++ c ∷ [];
    characters = r.characters ∙ ap (λ (l : List ℕ). r.run ++ l) is ∙ sym (append_assoc r.run (c ∷ []) (chars after));
    passes = list_all-append p r.run (c ∷ []) ∙ and_from _ _ r.passes (and_from _ _ passes refl);
    utf8 = IsUtf8-past_char rest after c r.utf8 bytes;
  }

  -- what doesn't pass, or the end, stops the run
  pub stops_at : (rest after : List ℕ) (c : ℕ) → chars rest ≡ c ∷ chars after → p c ≡ false → StopsAt p (chars rest)
  stops_at rest after c is fails = subst (StopsAt p) (sym is) fails

  pub stops_none : (rest : List ℕ) → chars rest ≡ [] → StopsAt p (chars rest)
  stops_none rest is = subst (StopsAt p) (sym is) tt

  pub run_ends : (text rest front after : List ℕ) → StopsAt p (chars rest) → Parts text front after → after ≡ rest → RunSoFar p text rest → IsRun p (chars front) (chars after)
  run_ends text rest front after stops parts same r =
      let front_is : chars front ≡ r.run = append_cancel_right (chars front) r.run (chars after) (sym parts.characters ∙ r.characters ∙ ap (λ (l : List ℕ). r.run ++ chars l) (sym same)) in
      record { passes = subst (λ (l : List ℕ). list_all p l ≡ true) (sym front_is) r.passes; stops = subst (λ (l : List ℕ). StopsAt p (chars l)) (sym same) stops }
