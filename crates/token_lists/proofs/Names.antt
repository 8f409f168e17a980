-- The name or keyword at the front.
use Rattle.std.proofs.Common.{◌≡◌, ℕ, true, List, ◌∷◌, length, Option, Some, None, refl, sym, ap, ◌∙◌, inl, inr, ⊎_elim}
use Rattle.std.specs.Str.{bytes_eq, encode_utf8_all}
use Rattle.std.proofs.lemmas.Bool.{cases_lt}
use Rattle.std.proofs.lemmas.Slice.Eq.{bytes_eq-Decides}
use Rattle.utopist_lexer.specs.declared.word.Word.{Word}
use Rattle.utopist_lexer.specs.declared.word.TheConstants.{WORDS}
use Rattle.utopist_lexer.specs.declared.classes.Class.TheVariants as classes
use Rattle.utopist_lexer.specs.declared.token.Kind.{Kind}
use Rattle.utopist_lexer.specs.declared.token.Kind.TheVariants as kinds
use Rattle.utopist_lexer.specs.declared.fault.LexKind.TheVariants as fault
use Rattle.utopist_lexer.specs.Characters.{is_start, has}
use Rattle.utopist_lexer.specs.Spelling.{word_text}
use Rattle.utopist_lexer.specs.Lexical.{Spells, IsLongest, max_name}
use Rattle.utopist_lexer.specs.steps.Tables.{word_of}
use Rattle.utopist_lexer.proofs.Spellings.{word_of-text}
use Rattle.utopist_lexer.proofs.Fronts.{identifier_front, identifier_longest}
use Rattle.token_lists.proofs.Runs.{Run, run_of}
use Rattle.token_lists.proofs.FrontTokens.{HasFront}
use Rattle.token_lists.proofs.Tables.{find_some}

word_found : (text : List ℕ) (w : Word) → word_of text ≡ Some w → text ≡ word_text w
word_found text w e = sym ((bytes_eq-Decides (word_text w) text).0 (find_some (λ v. bytes_eq (word_text v) text) WORDS w e))

no_word : (text : List ℕ) → word_of text ≡ None → (w : Word) → text ≡ word_text w → ⊥
no_word text e w is = let both : None ≡ Some w = sym e ∙ ap word_of is ∙ word_of-text w in cc

module _ (c : ℕ) (cs : List ℕ) (starts : is_start c ≡ true) (r : Run (has classes.Identifier) (c ∷ cs)) where
  longest : (k : Kind) → Spells k r.front → IsLongest k r.front r.rest
  longest k s = record { spelled = s; longest = identifier_longest c cs r.front r.rest starts r.split r.run }

  a_name : word_of r.front ≡ None → Spells kinds.Name r.front
  a_name e = (identifier_front c cs r.front r.rest starts r.split r.run, no_word r.front e)

  by_word : (w : Option Word) → word_of r.front ≡ w → HasFront (c ∷ cs)
  by_word (Some w) e = inl (record { kind = kinds.Word w; text = r.front; rest = r.rest; split = r.split; token = record { longest = longest (kinds.Word w) (word_found r.front w e); within = tt } })
  by_word None e =
      ⊎_elim
      (λ long. inr (fault.NameTooLong, (record { kind = kinds.Name; text = r.front; rest = r.rest; split = r.split; longest = longest kinds.Name (a_name e) }, refl, long)))
      (λ short. inl (record { kind = kinds.Name; text = r.front; rest = r.rest; split = r.split; token = record { longest = longest kinds.Name (a_name e); within = short } }))
      (cases_lt max_name (length (encode_utf8_all r.front)))

-- what starts an identifier begins a name or a keyword, or a name that is too long
pub name_front : (c : ℕ) (cs : List ℕ) → is_start c ≡ true → HasFront (c ∷ cs)
name_front c cs starts = let r = run_of (has classes.Identifier) (c ∷ cs) in by_word c cs starts r (word_of r.front) refl
