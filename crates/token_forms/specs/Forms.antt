-- Which symbols are of a form, and which begin one, case by case.
use Rattle.std.specs.Prelude.{◌≡◌, ◌⊎◌, ℕ, suc, pos, List, [], ◌∷◌, ◌++◌, All}
use Rattle.priz_base.specs.declared.place.Place.{Place}
use Rattle.utopist_lexer.specs.declared.word.Word.{Word}
use Rattle.utopist_lexer.specs.declared.mark.Mark.{Mark}
use Rattle.utopist_lexer.specs.declared.token.Kind.{Kind}
use Rattle.utopist_lexer.specs.declared.token.Kind.TheVariants as kinds
use Rattle.utopist_syntax.specs.Named.{Named}
use Rattle.token_forms.specs.Symbols.{Symbol, name, sub, number, fixed}

-- a token that the grammar names: a name, a number that isn't negative, a number that isn't 0 either, a subtask's number with that of an output, or the token of this kind
pub data Sort : Type 0 where
  a_name : Sort
  a_number : Sort
  a_divisor : Sort
  a_subtask : Sort
  this : Kind → Sort

-- a symbol of such a token
abbrev pub IsOf : Sort → Symbol → Type 0
IsOf a_name c = (n : Named) × (c ≡ name n)
IsOf a_number c = (n : ℕ) × (c ≡ number (pos n))
IsOf a_divisor c = (n : ℕ) × (c ≡ number (pos (suc n)))
IsOf a_subtask c = (k : ℕ × ℕ) × (place : Place) × (c ≡ sub (pos k.0) (pos k.1) place)
IsOf (this k) c = c ≡ fixed k

-- a form: none at all, nothing, one token, one form and then another, one form or another, a form any number of times
pub data Form : Type 0 where
  never : Form
  nothing : Form
  one : Sort → Form
  then : Form → Form → Form
  either : Form → Form → Form
  many : Form → Form

-- parts one after another
abbrev pub joined : List (List Symbol) → List Symbol
joined [] = []
joined (p ∷ ps) = p ++ joined ps

-- these symbols, all of them, are of the form
abbrev pub AreForm : Form → List Symbol → Type 0
AreForm never ts = ⊥
AreForm nothing ts = ts ≡ []
AreForm (one s) ts = (c : Symbol) × (ts ≡ c ∷ []) × IsOf s c
AreForm (then f g) ts = (xs : List Symbol) × (ys : List Symbol) × (ts ≡ xs ++ ys) × AreForm f xs × AreForm g ys
AreForm (either f g) ts = AreForm f ts ⊎ AreForm g ts
AreForm (many f) ts = (parts : List (List Symbol)) × (ts ≡ joined parts) × All (AreForm f) parts

-- some symbols are of the form
abbrev pub HasForm : Form → Type 0
HasForm f = (ts : List Symbol) × AreForm f ts

-- these symbols begin the form: none and the symbol itself begin one token; a sequence those that begin the first part, where the second has some symbols, or that are all of the first before what begins the second;
-- a choice those that begin one of the two; a repetition whole parts before what begins another
abbrev pub BeginForm : Form → List Symbol → Type 0
BeginForm never ts = ⊥
BeginForm nothing ts = ts ≡ []
BeginForm (one s) ts = (ts ≡ []) ⊎ AreForm (one s) ts
BeginForm (then f g) ts = (BeginForm f ts × HasForm g) ⊎ ((xs : List Symbol) × (ys : List Symbol) × (ts ≡ xs ++ ys) × AreForm f xs × BeginForm g ys)
BeginForm (either f g) ts = BeginForm f ts ⊎ BeginForm g ts
BeginForm (many f) ts = (parts : List (List Symbol)) × (last : List Symbol) × (ts ≡ joined parts ++ last) × All (AreForm f) parts × ((last ≡ []) ⊎ BeginForm f last)

-- a keyword
abbrev pub a_word : Word → Form
a_word w = one (this (kinds.Word w))

-- a mark
abbrev pub a_mark : Mark → Form
a_mark m = one (this (kinds.Mark m))

-- a keyword, and then what follows
abbrev pub after_word : Word → Form → Form
after_word w f = then (a_word w) f

-- a mark, and then what follows
abbrev pub after_mark : Mark → Form → Form
after_mark m f = then (a_mark m) f

-- a name, and then what follows
abbrev pub after_name : Form → Form
after_name f = then (one a_name) f

-- a form between two marks
abbrev pub between : Mark → Form → Mark → Form
between open_mark f close_mark = after_mark open_mark (then f (a_mark close_mark))

-- [form]
abbrev pub optional : Form → Form
optional f = either f nothing

-- form {SEPARATOR form}
abbrev pub separated_form : Mark → Form → Form
separated_form separator f = then f (many (after_mark separator f))
