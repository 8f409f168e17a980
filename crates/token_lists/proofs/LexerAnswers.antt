-- What comes next in a text of bytes, as an answer of the lexer.
use Rattle.std.proofs.Common.{◌≡◌, ℕ, true, false, List, [], ◌∷◌, ◌++◌, Ok, Err, refl, sym, ap, subst, ◌∙◌, inl, inr, ⊎_elim}
use Rattle.std.specs.Str.{IsUtf8, chars, encode_utf8_all, all_scalars}
use Rattle.std.proofs.lemmas.Bool.{and_parts, and_from}
use Rattle.std.proofs.lemmas.Str.{chars-encodes, scalars-chars}
use Rattle.utopist_lexer.specs.declared.token.Token.{Token}
use Rattle.utopist_lexer.specs.Gap.{past_gap}
use Rattle.utopist_lexer.specs.Lexical.{Tok}
use Rattle.utopist_lexer.specs.Scanning.{Scan, tok, IsNext, IsEnd}
use Rattle.token_lists.specs.Next.{HasAnswer, AnswersExist}
use Rattle.token_lists.proofs.Next.{next_exists}

-- both parts of a text of Unicode are
scalar_parts : (xs ys : List ℕ) → all_scalars (xs ++ ys) ≡ true → (all_scalars xs ≡ true) × (all_scalars ys ≡ true)
scalar_parts [] ys e = (refl, e)
scalar_parts (x ∷ xs) ys e =
    let a = and_parts _ _ e in
    let b = scalar_parts xs ys a.1 in
    (and_from _ _ a.0 b.0, b.1)

-- a token whose text lies somewhere
abbrev token_of : Tok → Token
token_of t = record { kind = t.kind; text = record { ref_ptr = (0, 0); now = encode_utf8_all t.text }; at = t.place.at; line = t.place.line; col = t.place.col }

same_tok : (t : Tok) → all_scalars t.text ≡ true → t ≡ tok (token_of t)
same_tok t h = λ i. record { kind = t.kind; text = sym (chars-encodes t.text h) i; place = t.place }

module _ (s : Scan) where
  next_answer : all_scalars s.whole ≡ true → (t : Tok) (after : List ℕ) → IsNext s t after → HasAnswer s
  next_answer h t after n =
      let behind = (scalar_parts n.place.0 (past_gap false s.left) (ap all_scalars (sym n.place.1) ∙ h)).1 in
      let text = (scalar_parts t.text after (ap all_scalars (sym n.split) ∙ behind)).0 in
      (Ok (token_of t), after, inl (subst (λ (u : Tok). IsNext s u after) (same_tok t text) n))

  end_answer : (t : Tok) → IsEnd s t [] → HasAnswer s
  end_answer t e = (Ok (token_of t), [], inr (subst (λ (u : Tok). IsEnd s u []) (same_tok t (ap all_scalars e.empty)) e))

pub answers_exist : (text : List ℕ) → IsUtf8 text → AnswersExist text
answers_exist text u left p r =
    let s : Scan = record { whole = chars text; left = left } in
    ⊎_elim (λ x. next_answer s (scalars-chars text u) x.0 x.1 x.2)
    (λ y. ⊎_elim (λ e. end_answer s e.0 e.1) (λ f. (Err f.0, left, f.1)) y)
    (next_exists s p r)
