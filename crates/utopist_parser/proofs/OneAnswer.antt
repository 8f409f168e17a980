-- A text reads as one tree, or fails in one way.
use Rattle.std.proofs.Common.{◌≡◌, ℕ, List, [], ◌∷◌, ◌++◌, map, sym, ap, subst, ◌∙◌, append_assoc, inl, inr}
use Rattle.std.specs.Str.{chars}
use Rattle.std.proofs.lemmas.List.{append-nil, map-append}
use Rattle.priz_base.specs.declared.place.Place.{Place}
use Rattle.utopist_lexer.specs.declared.fault.LexFault.{LexFault}
use Rattle.utopist_lexer.specs.Places.{Stands}
use Rattle.utopist_lexer.specs.Lexical.{Tok, IsToken}
use Rattle.utopist_lexer.proofs.OneWay.{NoToken, none_at_fault, none_at_end, stands_same, one_token, StopsInside, Meet, reads_meet, none_inside, one_list, one_fault, not_both}
use Rattle.utopist_syntax.specs.FileTree.{FileTree}
use Rattle.utopist_parser.specs.declared.parser.ParseFault.{ParseFault}
use Rattle.utopist_parser.specs.declared.parser.ParseFault.TheVariants as fault
use Rattle.token_forms.specs.Symbols.{Symbol, symbol_of, end}
use Rattle.utopist_parser.specs.FileSymbols.{spell_file}
use Rattle.utopist_parser.specs.FileSeen.{see_file}
use Rattle.utopist_parser.specs.Begins.{max_nesting, BeginsWithin, BeginsFile, BeginsNone, BeginsTooDeep, SymbolAt, FirstWrong}
use Rattle.utopist_parser.specs.Forms.{ReadsAs, FirstFault, FailsAs}
use Rattle.utopist_parser.specs.steps.ReadingFile.{file_at}
use Rattle.utopist_parser.proofs.Whole.{room, both_ok, file_again}

-- ---- symbols that begin a file

-- a front of what begins a file within a limit begins one too
front_begins : (limit : ℕ) (ts us : List Symbol) → BeginsWithin limit (ts ++ us) → BeginsWithin limit ts
front_begins limit ts us b = (b.0, us ++ b.1, b.2, b.3 ∙ append_assoc ts us b.1)

-- what is wrong so begins no file within the limit
abbrev Stops : (List Symbol → Type 0) → Type 0
Stops Wrong = (ts : List Symbol) → Wrong ts → BeginsWithin max_nesting ts → ⊥

-- where no file begins so, none does within the limit
none_stops : Stops BeginsNone
none_stops ts n b = n (max_nesting, b)

-- where only files begin so that are nested too deep, none does within the limit
deep_stops : Stops BeginsTooDeep
deep_stops ts d b = d.1 b

-- ---- the symbol at the front

-- the symbol where a token stands is that of the token
symbol_there : (whole left : List ℕ) (p : Place) (next : Symbol) (t : Tok) (rest : List ℕ) → Stands whole left p → SymbolAt left p next → left ≡ t.text ++ rest → Stands whole left t.place → IsToken t.kind t.text rest → next ≡ symbol_of t
symbol_there whole left p next t rest s (inl e) split q token = absurd (none_at_end t.kind t.text rest (sym e.0 ∙ split) token)
symbol_there whole left p next t rest s (inr u) split q token =
    u.5 ∙ ap symbol_of (one_token whole left u.0 t u.1 rest u.2 split (subst (Stands whole left) (sym u.4) s) q u.3 token).0

-- where nothing is left, the symbol is the end
symbol_last : (left : List ℕ) (p : Place) (next : Symbol) → left ≡ [] → SymbolAt left p next → next ≡ end
symbol_last left p next none (inl e) = e.1
symbol_last left p next none (inr u) = absurd (none_at_end u.0.kind u.0.text u.1 (sym none ∙ u.2) u.3)

-- one symbol stands at a place
symbol_same : (whole left : List ℕ) (p : Place) (a b : Symbol) → Stands whole left p → SymbolAt left p a → SymbolAt left p b → a ≡ b
symbol_same whole left p a b s x (inl e) = symbol_last left p a e.0 x ∙ sym e.1
symbol_same whole left p a b s x (inr u) = symbol_there whole left p a u.0 u.1 s x u.2 (subst (Stands whole left) (sym u.4) s) u.3 ∙ sym u.5

-- where no token stands and something is left, there is no symbol
no_symbol : (left : List ℕ) (p : Place) (next : Symbol) → (left ≡ [] → ⊥) → NoToken left → SymbolAt left p next → ⊥
no_symbol left p next some none (inl e) = some e.0
no_symbol left p next some none (inr u) = none u.0.kind u.0.text u.1 u.2 u.3

-- ---- the first wrong token

module _ (Wrong : List Symbol → Type 0) (stops : Stops Wrong) (text : List ℕ) (p : Place) (w : FirstWrong Wrong text p) where
  -- a symbol that goes on with a file within the limit is not the wrong one
  goes_on_not : (next : Symbol) → w.next ≡ next → BeginsWithin max_nesting (map symbol_of w.before ++ next ∷ []) → ⊥
  goes_on_not next same b = stops (map symbol_of w.before ++ w.next ∷ []) w.wrong (subst (λ (c : Symbol). BeginsWithin max_nesting (map symbol_of w.before ++ c ∷ [])) (sym same) b)

  -- tokens that begin a file within the limit don't go past it
  past_not : (us : List Tok) → StopsInside text w.before us w.left → BeginsWithin max_nesting (map symbol_of us) → ⊥
  past_not us i b =
      let front = map symbol_of w.before in
      let more = map symbol_of i.more in
      let split : map symbol_of us ≡ (front ++ symbol_of i.token ∷ []) ++ more = ap (map symbol_of) i.longer ∙ map-append symbol_of w.before (i.token ∷ i.more) ∙ sym (append_assoc front (symbol_of i.token ∷ []) more) in
      goes_on_not (symbol_of i.token) (symbol_there text w.left p w.next i.token i.rest w.stands w.is_next i.split i.stands i.is_token) (front_begins max_nesting (front ++ symbol_of i.token ∷ []) more (subst (BeginsWithin max_nesting) split b))

-- ---- two first wrong tokens

module _ (V W : List Symbol → Type 0) (v_stops : Stops V) (w_stops : Stops W) (text : List ℕ) (p q : Place) (v : FirstWrong V text p) (w : FirstWrong W text q) where
  -- neither reading goes on past the wrong token of the other
  stops_same : Meet text v.before w.before v.left w.left → (v.before ≡ w.before) × (v.left ≡ w.left)
  stops_same (inl e) = e
  stops_same (inr (inl i)) = absurd (past_not V v_stops text p v w.before i w.begins)
  stops_same (inr (inr i)) = absurd (past_not W w_stops text q w v.before i v.begins)

  -- so they stop together
  same : (v.before ≡ w.before) × (v.left ≡ w.left)
  same = stops_same (reads_meet text text v.before w.before v.left w.left v.read w.read)

  -- two first wrong tokens stand at one place
  wrong_places : p ≡ q
  wrong_places = stands_same text w.left p q (subst (λ (l : List ℕ). Stands text l p) same.1 v.stands) w.stands

  -- the wrong symbols are the same
  next_same : v.next ≡ w.next
  next_same = symbol_same text w.left q v.next w.next w.stands next_there w.is_next where
    next_there : SymbolAt w.left q v.next
    next_there = subst (λ (x : Place). SymbolAt w.left x v.next) wrong_places (subst (λ (l : List ℕ). SymbolAt l p v.next) same.1 v.is_next)

  -- and the symbols up to them are the same
  wrong_symbols : map symbol_of v.before ++ v.next ∷ [] ≡ map symbol_of w.before ++ w.next ∷ []
  wrong_symbols = λ i. map symbol_of (same.0 i) ++ next_same i ∷ []

-- one token isn't wrong for both reasons
not_none_and_deep : (text : List ℕ) (p q : Place) → FirstWrong BeginsNone text p → FirstWrong BeginsTooDeep text q → ⊥
not_none_and_deep text p q v w = v.wrong (subst BeginsFile (sym (wrong_symbols BeginsNone BeginsTooDeep none_stops deep_stops text p q v w)) w.wrong.0)

-- ---- the first fault

-- a first wrong token and a first fault exclude each other
not_wrong_and_fault : (Wrong : List Symbol → Type 0) → Stops Wrong → (text : List ℕ) (p : Place) (f : LexFault) → FirstWrong Wrong (chars text) p → FirstFault text f → ⊥
not_wrong_and_fault Wrong stops text p f w g = at (reads_meet (chars text) (chars text) w.before g.before w.left g.fault.left w.read g.fault.read) where
  none : NoToken g.fault.left
  none = none_at_fault f.kind g.fault.left g.fault.faulty

  at : Meet (chars text) w.before g.before w.left g.fault.left → ⊥
  at (inl e) = no_symbol g.fault.left p w.next g.fault.some none (subst (λ (l : List ℕ). SymbolAt l p w.next) e.1 w.is_next)
  at (inr (inl i)) = past_not Wrong stops (chars text) p w g.before i g.begins
  at (inr (inr i)) = none_inside (chars text) g.before w.before g.fault.left none i

-- a text has one first fault
lex_faults : (text : List ℕ) (f g : LexFault) → FirstFault text f → FirstFault text g → f ≡ g
lex_faults text f g a b =
    let same = one_fault (chars text) a.before b.before f.place g.place f.kind g.kind a.fault b.fault in
    λ i. record { place = same.1 i; kind = same.2 i }

-- ---- trees

-- a text has one tree
pub one_tree : (text : List ℕ) (f g : FileTree) → ReadsAs text f → ReadsAs text g → f ≡ g
one_tree text f g r s =
    let tokens = one_list (chars text) r.tokens s.tokens r.read s.read in
    let spelled : spell_file r.written ≡ spell_file s.written = sym r.grammar ∙ ap (λ (us : List Tok). map symbol_of us ++ (end ∷ [])) tokens ∙ s.grammar in
    let both = both_ok (see_file r.written, []) (see_file s.written, []) (file_at room (spell_file s.written)) (ap (file_at room) (sym spelled) ∙ file_again room r.written r.within) (file_again room s.written s.within) in
    sym r.tree ∙ ap (λ (x : FileTree × List Symbol). x.0) both ∙ s.tree

-- the tokens of a tree and the end begin a file
tree_begins : (text : List ℕ) (f : FileTree) (r : ReadsAs text f) → BeginsWithin max_nesting (map symbol_of r.tokens ++ end ∷ [])
tree_begins text f r = (r.written, [], r.within, sym r.grammar ∙ sym (append-nil (map symbol_of r.tokens ++ end ∷ [])))

-- a tree and a first wrong token exclude each other
not_tree_and_wrong : (Wrong : List Symbol → Type 0) → Stops Wrong → (text : List ℕ) (f : FileTree) (p : Place) → ReadsAs text f → FirstWrong Wrong (chars text) p → ⊥
not_tree_and_wrong Wrong stops text f p r w = at (reads_meet (chars text) (chars text) w.before r.tokens w.left [] w.read r.read) where
  begins : BeginsWithin max_nesting (map symbol_of r.tokens ++ end ∷ [])
  begins = tree_begins text f r

  at : Meet (chars text) w.before r.tokens w.left [] → ⊥
  at (inl e) =
      goes_on_not Wrong stops (chars text) p w end (symbol_last w.left p w.next e.1 w.is_next)
      (subst (λ (us : List Tok). BeginsWithin max_nesting (map symbol_of us ++ end ∷ [])) (sym e.0) begins)
  at (inr (inl i)) = past_not Wrong stops (chars text) p w r.tokens i (front_begins max_nesting (map symbol_of r.tokens) (end ∷ []) begins)
  at (inr (inr i)) = none_inside (chars text) r.tokens w.before [] none_at_end i

-- ---- the law

-- a text that reads as a tree doesn't fail
pub not_tree_and_fault : (text : List ℕ) (f : FileTree) (e : ParseFault) → ReadsAs text f → FailsAs text e → ⊥
not_tree_and_fault text f (fault.Lex g) r h = not_both (chars text) r.tokens h.before g.place g.kind r.read h.fault
not_tree_and_fault text f (fault.Expected p) r h = not_tree_and_wrong BeginsNone none_stops text f p r h
not_tree_and_fault text f (fault.TooDeep p) r h = not_tree_and_wrong BeginsTooDeep deep_stops text f p r h
not_tree_and_fault text f fault.NoMem r h = h

-- a text fails in one way
pub one_failure : (text : List ℕ) (e d : ParseFault) → FailsAs text e → FailsAs text d → e ≡ d
one_failure text (fault.Lex f) (fault.Lex g) h k = ap (λ (x : LexFault). fault.Lex x) (lex_faults text f g h k)
one_failure text (fault.Lex f) (fault.Expected q) h k = absurd (not_wrong_and_fault BeginsNone none_stops text q f k h)
one_failure text (fault.Lex f) (fault.TooDeep q) h k = absurd (not_wrong_and_fault BeginsTooDeep deep_stops text q f k h)
one_failure text (fault.Expected p) (fault.Lex g) h k = absurd (not_wrong_and_fault BeginsNone none_stops text p g h k)
one_failure text (fault.Expected p) (fault.Expected q) h k = ap (λ (x : Place). fault.Expected x) (wrong_places BeginsNone BeginsNone none_stops none_stops (chars text) p q h k)
one_failure text (fault.Expected p) (fault.TooDeep q) h k = absurd (not_none_and_deep (chars text) p q h k)
one_failure text (fault.TooDeep p) (fault.Lex g) h k = absurd (not_wrong_and_fault BeginsTooDeep deep_stops text p g h k)
one_failure text (fault.TooDeep p) (fault.Expected q) h k = absurd (not_none_and_deep (chars text) q p k h)
one_failure text (fault.TooDeep p) (fault.TooDeep q) h k = ap (λ (x : Place). fault.TooDeep x) (wrong_places BeginsTooDeep BeginsTooDeep deep_stops deep_stops (chars text) p q h k)
one_failure text fault.NoMem d h k = absurd h
one_failure text e fault.NoMem h k = absurd k
