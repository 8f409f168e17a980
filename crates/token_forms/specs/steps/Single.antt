-- Reading one symbol.
use Rattle.std.specs.Prelude.{ℤ, pos, negsuc, suc, Bool, true, false, ◌&&◌, if◌then◌else◌, Option, Some, None}
use Rattle.priz_base.specs.declared.place.Place.{Place}
use Rattle.utopist_lexer.specs.declared.word.Word.{Word}
use Rattle.utopist_lexer.specs.declared.mark.Mark.{Mark}
use Rattle.utopist_lexer.specs.declared.token.Kind.{Kind}
use Rattle.utopist_lexer.specs.declared.token.Kind.TheVariants as kinds
use Rattle.utopist_lexer.specs.Kinds.{same_kind}
use Rattle.utopist_syntax.specs.Named.{Named}
use Rattle.token_forms.specs.Symbols.{Symbol, name, sub, fixed}
use Rattle.token_forms.specs.steps.Steps.{StepOf, token_at}

-- the kind of a symbol
abbrev pub kind_of : Symbol → Kind
kind_of (name n) = kinds.Name
kind_of (sub i j p) = kinds.Sub i j
kind_of (fixed k) = k

-- whether a symbol is of this kind
abbrev pub is_kind : Kind → Symbol → Bool
is_kind k c = same_kind (kind_of c) k

-- whether a symbol is this keyword
abbrev pub is_word : Word → Symbol → Bool
is_word w = is_kind (kinds.Word w)

-- whether a symbol is this mark
abbrev pub is_mark : Mark → Symbol → Bool
is_mark m = is_kind (kinds.Mark m)

-- whether a number is not negative
abbrev pub is_natural : ℤ → Bool
is_natural (pos n) = true
is_natural (negsuc n) = false

-- whether a symbol is the number of a subtask and of an output
abbrev pub is_sub : Symbol → Bool
is_sub (name n) = false
is_sub (sub i j p) = is_natural i && is_natural j
is_sub (fixed k) = false

-- a symbol of this kind
abbrev pub want_kind : Kind → Symbol → Option (Unit {0})
want_kind k c = if is_kind k c then Some tt else None

-- a name
abbrev pub want_name : Symbol → Option Named
want_name (name n) = Some n
want_name (sub i j p) = None
want_name (fixed k) = None

-- a number that is not negative, as all numbers of a text are
abbrev pub natural : ℤ → Option ℤ
natural (pos n) = Some (pos n)
natural (negsuc n) = None

-- one that is not 0 either
abbrev pub positive : ℤ → Option ℤ
positive (pos (suc n)) = Some (pos (suc n))
positive i = None

-- the number of a kind, where it has one that passes
abbrev pub number_of : (ℤ → Option ℤ) → Kind → Option ℤ
number_of wanted (kinds.Number i) = wanted i
number_of wanted k = None

-- a number that passes
abbrev pub want_number : (ℤ → Option ℤ) → Symbol → Option ℤ
want_number wanted (name n) = None
want_number wanted (sub i j p) = None
want_number wanted (fixed k) = number_of wanted k

-- two numbers, where neither is negative
abbrev pub naturals : ℤ → ℤ → Option (ℤ × ℤ)
naturals (pos k) (pos j) = Some (pos k, pos j)
naturals (pos k) (negsuc j) = None
naturals (negsuc k) j = None

-- two numbers, where there are any, with a place
abbrev pub placed : Place → Option (ℤ × ℤ) → Option ((ℤ × ℤ) × Place)
placed p None = None
placed p (Some i) = Some (i, p)

-- the number of a subtask and of an output
abbrev pub want_sub : Symbol → Option ((ℤ × ℤ) × Place)
want_sub (name n) = None
want_sub (sub i j p) = placed p (naturals i j)
want_sub (fixed k) = None

-- a keyword, a mark or the end
unfoldable pub fixed_at : Kind → StepOf (Unit {0})
fixed_at k = token_at (want_kind k)

-- a keyword
abbrev pub word_at : Word → StepOf (Unit {0})
word_at w = fixed_at (kinds.Word w)

-- a mark
abbrev pub mark_at : Mark → StepOf (Unit {0})
mark_at m = fixed_at (kinds.Mark m)

-- Name
unfoldable pub name_at : StepOf Named
name_at = token_at want_name

-- Number
unfoldable pub number_at : StepOf ℤ
number_at = token_at (want_number natural)

-- Number that isn't 0
unfoldable pub divisor_at : StepOf ℤ
divisor_at = token_at (want_number positive)

-- Sub
unfoldable pub sub_at : StepOf ((ℤ × ℤ) × Place)
sub_at = token_at want_sub
