-- Symbols that are watched for the first token of a form that is not built.
use Rattle.std.proofs.Common.{◌≡◌, Bool, true, false, List, [], ◌∷◌, ◌++◌, map, refl, sym, ap, subst, ◌∙◌}
use Rattle.std.specs.Prelude.{ℤ, All, ◌&&◌}
use Rattle.std.specs.List.{flat_map}
use Rattle.std.proofs.lemmas.List.{map-append}
use Rattle.std.proofs.lemmas.List.Elements.{All-nil, All-cons, All-head, All-tail}
use Rattle.utopist_lexer.specs.declared.word.Word.{Word}
use Rattle.utopist_lexer.specs.declared.mark.Mark.{Mark}
use Rattle.utopist_lexer.specs.declared.mark.Mark.TheVariants as marks
use Rattle.utopist_lexer.specs.declared.token.Kind.{Kind}
use Rattle.utopist_lexer.specs.declared.token.Kind.TheVariants as kinds
use Rattle.utopist_syntax.specs.Named.{Named}
use Rattle.token_forms.specs.Symbols.{Symbol, name, number, word, mark}
use Rattle.token_forms.specs.steps.Single.{kind_of}
use Rattle.token_forms.specs.Lists.{OneOrMore, behind as next_of, separated, all_of}
use Rattle.utopist_parser.specs.Written.{WrittenPath}
use Rattle.utopist_parser.specs.ExprSymbols.{spell_name, spell_path}
use Rattle.file_accept.specs.declared.unbuilt.Context.{Context}
use Rattle.file_accept.specs.Unbuilt.{not_solved, word_opens, mark_opens, opens, is_var, context_behind, behind_all, NoneOpens}
use Rattle.file_accept.proofs.UnbuiltTokens.{none-append, append-none, none-front, behind-append}

-- the kinds of symbols
abbrev pub kinds_in : List Symbol → List Kind
kinds_in cs = map kind_of cs

-- no variable is being declared
abbrev pub Calm : Context → Type 0
Calm c = c.in_var ≡ false

-- from any calm place none of these begins a form that is not built exactly where this holds, and then it is calm behind them
pub record Watched (Built : Type 0) (cs : List Symbol) : Type 0 where
  pub on : Built → (c : Context) → Calm c → NoneOpens not_solved c (kinds_in cs)
  pub back : (c : Context) → Calm c → NoneOpens not_solved c (kinds_in cs) → Built × Calm (behind_all c (kinds_in cs))

-- the same symbols, where as much is said in another way
pub recast : {A B : Type 0} {cs : List Symbol} → (A → B) → (B → A) → Watched A cs → Watched B cs
recast to from w = record {
  on = λ b. w.on (from b);
  back = λ c calm h. let r = w.back c calm h in (to r.0, r.1);
}

-- ---- single symbols

-- nothing
pub nothing : Watched (Unit {0}) []
nothing = record { on = λ u c calm. tt; back = λ c calm h. (tt, calm) }

-- a keyword before others
pub a_word : {A : Type 0} {cs : List Symbol} (k : Word) → word_opens not_solved k ≡ false → is_var k ≡ false → Watched A cs → Watched A (word k ∷ cs)
a_word k closed no_var w = record {
  on = λ a c calm. (closed, w.on a (context_behind c (kinds.Word k)) no_var);
  back = λ c calm h. w.back (context_behind c (kinds.Word k)) no_var h.1;
}

-- a mark before others
pub a_mark : {A : Type 0} {cs : List Symbol} (m : Mark) → mark_opens not_solved m ≡ false → Watched A cs → Watched A (mark m ∷ cs)
a_mark m closed w = record {
  on = λ a c calm. (closed, w.on a (context_behind c (kinds.Mark m)) calm);
  back = λ c calm h. w.back (context_behind c (kinds.Mark m)) calm h.1;
}

-- a number before others
pub a_number : {A : Type 0} {cs : List Symbol} (i : ℤ) → Watched A cs → Watched A (number i ∷ cs)
a_number i w = record {
  on = λ a c calm. (refl, w.on a (context_behind c (kinds.Number i)) calm);
  back = λ c calm h. w.back (context_behind c (kinds.Number i)) calm h.1;
}

-- a name before others
pub a_name : {A : Type 0} {cs : List Symbol} (n : Named) → Watched A cs → Watched A (name n ∷ cs)
a_name n w = record {
  on = λ a c calm. (ap (λ (b : Bool). b && c.behind_colon) calm, w.on a (context_behind c kinds.Name) calm);
  back = λ c calm h. w.back (context_behind c kinds.Name) calm h.1;
}

pub true_false : true ≡ false → ⊥
true_false e = cc

-- a symbol that begins a form that is not built, before others
pub an_opener : {A : Type 0} {cs : List Symbol} (s : Symbol) → ((c : Context) → opens not_solved c (kind_of s) ≡ true) → (A → ⊥) → Watched A (s ∷ cs)
an_opener s opening none = record {
  on = λ a. absurd (none a);
  back = λ c calm h. absurd (true_false (sym (opening c) ∙ h.0));
}

-- ---- one after another

-- one form and then another
pub both : {A B : Type 0} {xs ys : List Symbol} → Watched A xs → Watched B ys → Watched (A × B) (xs ++ ys)
both {A} {B} {xs} {ys} w v = record { on = on; back = back } where
  joined : kinds_in (xs ++ ys) ≡ kinds_in xs ++ kinds_in ys
  joined = map-append kind_of xs ys

  on : A × B → (c : Context) → Calm c → NoneOpens not_solved c (kinds_in (xs ++ ys))
  on p c calm =
      let first = w.on p.0 c calm in
      subst (NoneOpens not_solved c) (sym joined) (none-append not_solved c (kinds_in xs) (kinds_in ys) first (v.on p.1 (behind_all c (kinds_in xs)) (w.back c calm first).1))

  back : (c : Context) → Calm c → NoneOpens not_solved c (kinds_in (xs ++ ys)) → (A × B) × Calm (behind_all c (kinds_in (xs ++ ys)))
  back c calm h =
      let apart = subst (NoneOpens not_solved c) joined h in
      let first = w.back c calm (none-front not_solved c (kinds_in xs) (kinds_in ys) apart) in
      let second = v.back (behind_all c (kinds_in xs)) first.1 (append-none not_solved c (kinds_in xs) (kinds_in ys) apart) in
      ((first.0, second.0), subst Calm (sym (ap (behind_all c) joined ∙ behind-append c (kinds_in xs) (kinds_in ys))) second.1)

-- what is always built before others
pub after : {A : Type 0} {xs ys : List Symbol} → Watched (Unit {0}) xs → Watched A ys → Watched A (xs ++ ys)
after {A} w v = recast {A = Unit {0} × A} (λ p. p.1) (λ a. (tt, a)) (both w v)

-- and behind others
pub before : {A : Type 0} {xs ys : List Symbol} → Watched A xs → Watched (Unit {0}) ys → Watched A (xs ++ ys)
before {A} w v = recast {A = A × Unit {0}} (λ p. p.0) (λ a. (a, tt)) (both w v)

-- ---- lists

-- forms one behind another
pub many : {X V : Type 0} (spell : X → List Symbol) (see : X → V) (Built : V → Type 0) → ((x : X) → Watched (Built (see x)) (spell x)) → (xs : List X) → Watched (All Built (map see xs)) (flat_map spell xs)
many spell see Built w [] = recast {A = Unit {0}} (λ u. All-nil Built) (λ a. tt) nothing
many spell see Built w (x ∷ xs) =
    recast {A = Built (see x) × All Built (map see xs)} (λ p. All-cons Built (see x) (map see xs) p.0 p.1) (λ a. (All-head Built (see x) (map see xs) a, All-tail Built (see x) (map see xs) a))
    (both (w x) (many spell see Built w xs))

-- part {SEPARATOR part}
pub parted : {X V : Type 0} (m : Mark) → mark_opens not_solved m ≡ false → (spell : X → List Symbol) (see : X → V) (Built : V → Type 0) → ((x : X) → Watched (Built (see x)) (spell x))
    → (xs : OneOrMore X) → Watched (All Built (map see (all_of xs))) (separated m spell xs)
parted m closed spell see Built w xs =
    recast {A = Built (see xs.first) × All Built (map see xs.more)} (λ p. All-cons Built (see xs.first) (map see xs.more) p.0 p.1) (λ a. (All-head Built (see xs.first) (map see xs.more) a, All-tail Built (see xs.first) (map see xs.more) a))
    (both (w xs.first) (many (next_of m spell) see Built (λ x. a_mark m closed (w x)) xs.more))

-- forms that are always built, one behind another
pub many_free : {X : Type 0} (spell : X → List Symbol) → ((x : X) → Watched (Unit {0}) (spell x)) → (xs : List X) → Watched (Unit {0}) (flat_map spell xs)
many_free spell w [] = nothing
many_free spell w (x ∷ xs) = after (w x) (many_free spell w xs)

-- part {SEPARATOR part}
pub parted_free : {X : Type 0} (m : Mark) → mark_opens not_solved m ≡ false → (spell : X → List Symbol) → ((x : X) → Watched (Unit {0}) (spell x)) → (xs : OneOrMore X) → Watched (Unit {0}) (separated m spell xs)
parted_free m closed spell w xs = after (w xs.first) (many_free (next_of m spell) (λ x. a_mark m closed (w x)) xs.more)

-- a path
pub path_watched : (p : WrittenPath) → Watched (Unit {0}) (spell_path p)
path_watched p = parted_free marks.Dot refl spell_name (λ n. a_name n nothing) p
