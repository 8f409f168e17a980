-- From the tokens of a text to the tree that it reads as, or to its first wrong place.
use Rattle.std.proofs.Common.{◌≡◌, ℕ, suc, ◌-◌, max, List, [], ◌∷◌, ◌++◌, length, map, drop, Option, Some, None, Result, Ok, Err, refl, sym, ap, subst, ◌∙◌, append_assoc, arith, inl, inr}
use Rattle.std.specs.Str.{chars}
use Rattle.std.proofs.Math.Seq.{drop-length}
use Rattle.std.proofs.lemmas.List.{append-nil, map-append}
use Rattle.priz_base.specs.declared.place.Place.{Place}
use Rattle.utopist_lexer.specs.declared.fault.LexFault.{LexFault}
use Rattle.utopist_lexer.specs.Places.{Stands}
use Rattle.utopist_lexer.specs.Lexical.{Tok}
use Rattle.utopist_lexer.specs.Tokens.{ReadsTo, Reads, FaultAt}
use Rattle.utopist_lexer.proofs.OneWay.{one_list, not_both}
use Rattle.utopist_syntax.specs.declared.file.File.{File}
use Rattle.utopist_syntax.specs.FileTree.{FileTree, file_tree}
use Rattle.utopist_parser.specs.declared.parser.ParseFault.TheVariants as fault
use Rattle.token_forms.specs.Symbols.{Symbol, symbol_of, end}
use Rattle.token_forms.specs.steps.Left.{Left}
use Rattle.token_forms.specs.steps.Views.{end_at, WholeTokens, TokensOf, StartsAs, PlaceFrom, PlaceOf, StandsAt}
use Rattle.utopist_parser.specs.WrittenFile.{WrittenFile}
use Rattle.utopist_parser.specs.FileSymbols.{spell_file}
use Rattle.utopist_parser.specs.FileSeen.{see_file}
use Rattle.utopist_parser.specs.FileNesting.{IsFile}
use Rattle.utopist_parser.specs.Begins.{BeginsWithin, BeginsNone, BeginsTooDeep, FirstWrong}
use Rattle.utopist_parser.specs.Forms.{ReadsAs, FirstFault, HasNoTree, ParseOf}
use Rattle.token_forms.specs.declared.parse_stop.Why.{Why}
use Rattle.token_forms.specs.declared.parse_stop.Why.TheVariants.{Unexpected, TooDeep}
use Rattle.token_forms.specs.steps.Steps.{Reading, Miss}
use Rattle.utopist_parser.specs.steps.ReadingFile.{file_at}
use Rattle.utopist_parser.specs.steps.Answers.{fault_by}
use Rattle.token_forms.proofs.StepLaws.{AtHead, Stuck, Further, Laws, all_laws}
use Rattle.utopist_parser.proofs.FileRules.{file_grows, file_form, file_rule}
use Rattle.utopist_parser.proofs.NoEnd.{front_of, front_no_end, file_ends, reads_no_end, ends_once, no_end_inside}
use Rattle.utopist_parser.proofs.Places.{SplitAt, split_at, drop_to, inside, last_or}

-- ---- reading a file

-- the room for a file
abbrev pub room : ℕ
room = 63

pub file_laws : (M : ℕ) → Laws file_form see_file file_at M
file_laws M = (file_rule {m = all_laws} {room = M}).keeps

ok_err : (x : FileTree × List Symbol) (e : Miss) (r : Reading FileTree) → r ≡ Ok x → r ≡ Err e → ⊥
ok_err x e r h i = cc

-- a reading gives one answer
pub both_ok : (x y : FileTree × List Symbol) (r : Reading FileTree) → r ≡ Ok x → r ≡ Ok y → x ≡ y
both_ok x y r h i = cc

-- each file is read where there is room for it
pub file_again : (M : ℕ) (w : WrittenFile) → IsFile (suc M) w → file_at M (spell_file w) ≡ Ok (see_file w, [])
file_again M w h = ap (file_at M) (sym (append-nil (spell_file w))) ∙ ((file_laws M).again M).again w h [] tt

-- where a reading is stuck, no file goes on within the limit
stuck_at : (M : ℕ) (why : Why) (front : List Symbol) (c : Symbol) → ((more : List Symbol) → file_at M (front ++ (c ∷ more)) ≡ Err (why, suc (length more))) → BeginsWithin (suc M) (front ++ c ∷ []) → ⊥
stuck_at M why front c fails b =
    let is : spell_file b.0 ≡ front ++ (c ∷ b.1) = b.3 ∙ append_assoc front (c ∷ []) b.1 in
    ok_err (see_file b.0, []) (why, suc (length b.1)) (file_at M (spell_file b.0)) (file_again M b.0 b.2) (ap (file_at M) is ∙ fails b.1)

-- what is wrong with symbols, by why a reading fails
abbrev WrongBy : Why → List Symbol → Type 0
WrongBy Unexpected = BeginsNone
WrongBy TooDeep = BeginsTooDeep

stuck_wrong : (why : Why) (front : List Symbol) (c : Symbol) → Stuck file_at room why front c → Further file_form why front c → WrongBy why (front ++ c ∷ [])
stuck_wrong Unexpected front c s f = λ b.
    let M = max room b.0 in
    stuck_at M Unexpected front c (s.fails M (omega arith)) (b.1.0, b.1.1, file_grows b.1.0 b.0 (suc M) (omega arith) b.1.2, b.1.3)
stuck_wrong TooDeep front c s f = (
  (suc f.3, (f.0, f.1, f.4, f.2 ∙ sym (append_assoc front (c ∷ []) f.1))),
  λ b. stuck_at room TooDeep front c (s.fails room refl) b,
)

-- a token inside a reading is the first wrong one
inside_wrong : (text : List ℕ) (Wrong : List Symbol → Type 0) (front : List Symbol) (c : Symbol) → BeginsWithin (suc room) front → Wrong (front ++ c ∷ []) → (before : List Tok) (item : Tok) (after : List Tok) (stop : List ℕ) → ReadsTo (chars text) (chars text) (before ++ item ∷ after) stop → front ≡ map symbol_of before → c ≡ symbol_of item
    → FirstWrong Wrong (chars text) item.place
inside_wrong text Wrong front c begins wrong before item after stop read front_is item_is =
    let i = inside (chars text) (chars text) before item after stop read in
    record {
      before = before;
      left = i.at;
      read = i.read;
      begins = subst (BeginsWithin (suc room)) front_is begins;
      stands = i.stands;
      next = symbol_of item;
      is_next = inr (item, i.rest, i.split, i.token, refl, refl);
      wrong = subst Wrong (λ j. front_is j ++ item_is j ∷ []) wrong;
    }

-- ---- the tokens of a whole text

module _ (text : List ℕ) (items : List Tok) (w : WholeTokens (chars text) items) where
  symbols_end : map symbol_of items ≡ map symbol_of w.tokens ++ (end ∷ [])
  symbols_end = ap (map symbol_of) w.are ∙ map-append symbol_of w.tokens (end_at w.place ∷ [])

  -- what the tokens of a reading are read as
  again : (f : FileTree) → ReadsAs text f → file_at room (map symbol_of items) ≡ Ok (f, [])
  again f r =
      ap (file_at room) (symbols_end ∙ ap (λ (us : List Tok). map symbol_of us ++ (end ∷ [])) (one_list (chars text) w.tokens r.tokens w.read r.read) ∙ r.grammar)
      ∙ file_again room r.written r.within ∙ ap (λ (g : FileTree). read_as g) r.tree where
        read_as : FileTree → Reading FileTree
        read_as g = Ok (g, [])

  whole_tree : (f : FileTree) (rest : List Symbol) → file_at room (map symbol_of items) ≡ Ok (f, rest) → ReadsAs text f × ((g : FileTree) → ReadsAs text g → g ≡ f)
  whole_tree f rest e =
      let t = (file_laws room).take (map symbol_of items) (f, rest) tt e in
      let last : rest ≡ [] = ends_once (front_of t.part) rest (map symbol_of w.tokens) (reads_no_end (chars text) (chars text) w.tokens [] w.read) (sym (file_ends t.part rest) ∙ sym t.parts ∙ symbols_end) in (
        record { tokens = w.tokens; read = w.read; written = t.part; within = t.fits; grammar = sym symbols_end ∙ t.parts ∙ ap (λ (l : List Symbol). spell_file t.part ++ l) last ∙ append-nil (spell_file t.part); tree = t.seen },
        λ g r. ap (λ (x : FileTree × List Symbol). x.0) (both_ok (g, []) (f, rest) (file_at room (map symbol_of items)) (again g r) e),
      )

  whole_no_tree : (e : Miss) → file_at room (map symbol_of items) ≡ Err e → HasNoTree text
  whole_no_tree e h f r = ok_err (f, []) e (file_at room (map symbol_of items)) (again f r) h

  -- with the end no file goes on
  whole_done : (b : WrittenFile) (more : List Symbol) → spell_file b ≡ map symbol_of items ++ more → more ≡ []
  whole_done b more e =
      ends_once (map symbol_of w.tokens) more (front_of b) (front_no_end b)
      (sym (sym (file_ends b []) ∙ append-nil (spell_file b) ∙ e ∙ ap (λ (l : List Symbol). l ++ more) symbols_end ∙ append_assoc (map symbol_of w.tokens) (end ∷ []) more))

  -- so some symbol is wrong
  whole_some : (e : Miss) (b : WrittenFile) → IsFile (suc room) b → (more : List Symbol) → file_at room (map symbol_of items) ≡ Err e → spell_file b ≡ map symbol_of items ++ more → ⊥
  whole_some e b fits more h begins =
      let all : spell_file b ≡ map symbol_of items = begins ∙ ap (λ (l : List Symbol). map symbol_of items ++ l) (whole_done b more begins) ∙ append-nil (map symbol_of items) in
      ok_err (see_file b, []) e (file_at room (map symbol_of items)) (ap (file_at room) (sym all) ∙ file_again room b fits) h

  whole_wrong : (Wrong : List Symbol → Type 0) (front : List Symbol) (c : Symbol) → BeginsWithin (suc room) front → Wrong (front ++ c ∷ []) → (s : SplitAt items front c) → FirstWrong Wrong (chars text) s.item.place
  whole_wrong Wrong front c begins wrong s =
      elim (last_or s.before s.item s.after w.tokens (end_at w.place) (sym s.split ∙ w.are)) [
        | inl l ↦ record {
          before = w.tokens;
          left = [];
          read = w.read;
          begins = subst (BeginsWithin (suc room)) (s.front_is ∙ ap (map symbol_of) l.0) begins;
          stands = subst (λ (p : Place). Stands (chars text) [] p) (sym (ap (λ (t : Tok). t.place) l.1)) w.stands;
          next = end;
          is_next = inl (refl, refl);
          wrong = subst Wrong (λ i. (s.front_is ∙ ap (map symbol_of) l.0) i ++ (s.item_is ∙ ap symbol_of l.1) i ∷ []) wrong;
        }
        | inr m ↦ inside_wrong text Wrong front c begins wrong s.before s.item m.0 [] (subst (Reads (chars text)) m.1 w.read) s.front_is s.item_is
      ]

-- ---- the tokens before a fault

module _ (text : List ℕ) (items : List Tok) (f : LexFault) (w : FaultAt (chars text) items f.place f.kind) where
  faulty_no_end : (part : WrittenFile) (rest : List Symbol) → map symbol_of items ≡ spell_file part ++ rest → ⊥
  faulty_no_end part rest e = no_end_inside (front_of part) rest (map symbol_of items) (reads_no_end (chars text) (chars text) items w.left w.read) (e ∙ file_ends part rest)

  faulty_no_tree : HasNoTree text
  faulty_no_tree g r = not_both (chars text) r.tokens items f.place f.kind r.read w

  faulty_first : (b : WrittenFile) → IsFile (suc room) b → (more : List Symbol) → spell_file b ≡ map symbol_of items ++ more → FirstFault text f
  faulty_first b fits more e = record { before = items; fault = w; begins = (b, more, fits, e) }

  faulty_wrong : (Wrong : List Symbol → Type 0) (front : List Symbol) (c : Symbol) → BeginsWithin (suc room) front → Wrong (front ++ c ∷ []) → (s : SplitAt items front c) → FirstWrong Wrong (chars text) s.item.place
  faulty_wrong Wrong front c begins wrong s = inside_wrong text Wrong front c begins wrong s.before s.item s.after w.left (subst (λ (l : List Tok). ReadsTo (chars text) (chars text) l w.left) s.split w.read) s.front_is s.item_is

-- ---- both

tree_at : (text : List ℕ) (items : List Tok) (o : Option LexFault) → TokensOf (chars text) items o → (f : FileTree) (rest : List Symbol) → file_at room (map symbol_of items) ≡ Ok (f, rest) → ReadsAs text f × ((g : FileTree) → ReadsAs text g → g ≡ f)
tree_at text items None t f rest e = whole_tree text items t f rest e
tree_at text items (Some l) t f rest e =
    let k = (file_laws room).take (map symbol_of items) (f, rest) tt e in absurd (faulty_no_end text items l t k.part rest k.parts)

no_tree : (text : List ℕ) (items : List Tok) (o : Option LexFault) → TokensOf (chars text) items o → (e : Miss) → file_at room (map symbol_of items) ≡ Err e → HasNoTree text
no_tree text items None t e h = whole_no_tree text items t e h
no_tree text items (Some l) t e h = faulty_no_tree text items l t

wrong_place : (text : List ℕ) (items : List Tok) (o : Option LexFault) → TokensOf (chars text) items o → (Wrong : List Symbol → Type 0) (front : List Symbol) (c : Symbol) → BeginsWithin (suc room) front → Wrong (front ++ c ∷ []) → (s : SplitAt items front c) → FirstWrong Wrong (chars text) s.item.place
wrong_place text items None t Wrong front c begins wrong s = whole_wrong text items t Wrong front c begins wrong s
wrong_place text items (Some l) t Wrong front c begins wrong s = faulty_wrong text items l t Wrong front c begins wrong s

-- ---- the answer

-- what is answered for the first wrong place, or for the fault behind all tokens; one of the two there is
abbrev pub Answered : List ℕ → Why → Option (Result Place LexFault) → Type 0
Answered text why None = ⊥
Answered text why (Some (Ok p)) = ParseOf text (Err (fault_by why p))
Answered text why (Some (Err f)) = ParseOf text (Err (fault.Lex f))

wrong_answer : (text : List ℕ) (why : Why) (p : Place) → FirstWrong (WrongBy why) (chars text) p → HasNoTree text → ParseOf text (Err (fault_by why p))
wrong_answer text Unexpected p w n = (w, n)
wrong_answer text TooDeep p w n = (w, n)

module _ (text : List ℕ) (items : List Tok) (o : Option LexFault) (t : TokensOf (chars text) items o) (why : Why) (left : ℕ) (failed : file_at room (map symbol_of items) ≡ Err (why, left)) where
  none : HasNoTree text
  none = no_tree text items o t (why, left) failed

  first_left : (l : List Tok) (x : Tok) (xs : List Tok) (r : Option (Result Place LexFault)) → l ≡ x ∷ xs → PlaceFrom l o r → r ≡ Some (Ok x.place)
  first_left [] x xs r is h = absurd cc
  first_left (y ∷ ys) x xs r is h = let same : y ≡ x = cc in h ∙ ap (λ (z : Tok). found z) same where
    found : Tok → Option (Result Place LexFault)
    found z = Some (Ok z.place)

  none_left : (p : Option LexFault) → TokensOf (chars text) items p → (b : WrittenFile) → IsFile (suc room) b → (more : List Symbol) → spell_file b ≡ map symbol_of items ++ more → (r : Option (Result Place LexFault)) → PlaceFrom [] p r → Answered text why r
  none_left None u b fits more begins r h = absurd (whole_some text items u (why, left) b fits more failed begins)
  none_left (Some l) u b fits more begins r h = subst (Answered text why) (sym h) (faulty_first text items l u b fits more begins, none)

  place_at : (front wrong : List Symbol) → map symbol_of items ≡ front ++ wrong → length wrong ≡ left → (b : WrittenFile) → IsFile (suc room) b → (more : List Symbol) → spell_file b ≡ front ++ more → AtHead wrong (Stuck file_at room why front) → AtHead wrong (Further file_form why front)
      → (r : Option (Result Place LexFault)) → PlaceOf items left o r → Answered text why r
  place_at front [] split size b fits more begins stuck further r h =
      let all : spell_file b ≡ map symbol_of items ++ more = begins ∙ ap (λ (l : List Symbol). l ++ more) (sym (append-nil front) ∙ sym split) in
      let nothing : drop (length items - left) items ≡ [] = ap (λ (n : ℕ). drop n items) (let n : length items - left ≡ length items = omega (arith, size) in n) ∙ drop-length items in
      none_left o t b fits more all r (subst (λ (l : List Tok). PlaceFrom l o r) nothing h)
  place_at front (c ∷ cs) split size b fits more begins stuck further r h =
      let s = split_at items front c cs split in
      let is = first_left _ s.item s.after r (drop_to items front c s left cs split size) h in
      subst (Answered text why) (sym is)
      (wrong_answer text why s.item.place (wrong_place text items o t (WrongBy why) front c (b, more, fits, begins) (stuck_wrong why front c stuck further) s) none)

  fault_is : (r : Option (Result Place LexFault)) → PlaceOf items left o r → Answered text why r
  fault_is r h =
      let b = (file_laws room).blames (map symbol_of items) (why, left) tt failed in place_at b.front b.wrong b.split b.size b.begun b.fits b.more b.begins b.stuck b.further r h

-- ---- the reader's

module _ (text : List ℕ) (start : Left) (s : StartsAs (chars text) start) where
  pub tree_of : (f : File) (rest : List Symbol) → file_at room start.symbols ≡ Ok (file_tree f, rest) → ParseOf text (Ok f)
  tree_of f rest e = tree_at text s.items s.fault s.are (file_tree f) rest (ap (file_at room) (sym s.symbols_are) ∙ e)

  pub answer_of : (now : Left) → now.text ≡ start.text → (why : Why) → file_at room start.symbols ≡ Err (why, length now.symbols) → (r known : Option (Result Place LexFault)) → StandsAt now r → r ≡ known → Answered text why known
  answer_of now same why e r known stands is =
      subst (Answered text why) is
      (fault_is text s.items s.fault s.are why (length now.symbols) (ap (file_at room) (sym s.symbols_are) ∙ e) r
      (stands s.items s.fault (subst (λ (l : List ℕ). TokensOf l s.items s.fault) (sym (same ∙ s.same)) s.are)))

-- what was found, by what it is known to be
pub found_is : (r : Option (Result Place LexFault)) (x known : Result Place LexFault) → r ≡ Some x → x ≡ known → r ≡ Some known
found_is r x known e h = e ∙ ap (λ (y : Result Place LexFault). Some y) h
