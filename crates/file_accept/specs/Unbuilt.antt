-- The first token of a form that a mode leaves out.
use Rattle.std.specs.Prelude.{◌≡◌, ℕ, Bool, true, false, ◌&&◌, List, [], ◌∷◌, ◌++◌, map, Option, Some, None}
use Rattle.priz_base.specs.declared.place.Place.{Place}
use Rattle.utopist_lexer.specs.declared.word.Word.{Word}
use Rattle.utopist_lexer.specs.declared.word.Word.TheVariants as words
use Rattle.utopist_lexer.specs.declared.mark.Mark.{Mark}
use Rattle.utopist_lexer.specs.declared.mark.Mark.TheVariants as marks
use Rattle.utopist_lexer.specs.declared.token.Kind.{Kind}
use Rattle.utopist_lexer.specs.declared.token.Kind.TheVariants as kinds
use Rattle.utopist_lexer.specs.Lexical.{Tok}
use Rattle.utopist_lexer.specs.Tokens.{Reads}
use Rattle.file_accept.specs.declared.unbuilt.LeftOut.{LeftOut}
use Rattle.file_accept.specs.declared.unbuilt.Context.{Context}

-- the forms that "solve" does not answer yet
abbrev pub not_solved : LeftOut
not_solved = record { parents = true; components = true; equations = true; subtasks = true; calls = true }

-- whether a keyword begins a form that is left out: parents or an equation
abbrev pub word_opens : LeftOut → Word → Bool
word_opens o words.Is = o.parents
word_opens o words.Eq = o.equations
word_opens o w = false

-- whether a mark does: a subtask
abbrev pub mark_opens : LeftOut → Mark → Bool
mark_opens o marks.OpenSquare = o.subtasks
mark_opens o m = false

-- whether a token does; a name does where it is the type of a variable, and a subtask's number where the subtask is called
abbrev pub opens : LeftOut → Context → Kind → Bool
opens o c kinds.Name = o.components && c.in_var && c.behind_colon
opens o c (kinds.Word w) = word_opens o w
opens o c (kinds.Number i) = false
opens o c (kinds.Sub i j) = o.calls
opens o c (kinds.Mark m) = mark_opens o m
opens o c kinds.End = false

-- whether a keyword is "var"
abbrev pub is_var : Word → Bool
is_var words.Var = true
is_var w = false

-- whether a mark is ":"
abbrev pub is_colon : Mark → Bool
is_colon marks.Colon = true
is_colon m = false

-- what a token leaves before the next one
abbrev pub context_behind : Context → Kind → Context
context_behind c kinds.Name = record { in_var = c.in_var; behind_colon = false }
context_behind c (kinds.Word w) = record { in_var = is_var w; behind_colon = false }
context_behind c (kinds.Number i) = record { in_var = c.in_var; behind_colon = false }
context_behind c (kinds.Sub i j) = record { in_var = c.in_var; behind_colon = false }
context_behind c (kinds.Mark m) = record { in_var = c.in_var; behind_colon = is_colon m }
context_behind c kinds.End = record { in_var = c.in_var; behind_colon = false }

-- what stands before the first token
abbrev pub at_start : Context
at_start = record { in_var = false; behind_colon = false }

-- what tokens leave
abbrev pub behind_all : Context → List Kind → Context
behind_all c [] = c
behind_all c (k ∷ ks) = behind_all (context_behind c k) ks

-- none of these tokens begins a form that is left out
abbrev pub NoneOpens : LeftOut → Context → List Kind → Type 0
NoneOpens o c [] = Unit {0}
NoneOpens o c (k ∷ ks) = (opens o c k ≡ false) × NoneOpens o (context_behind c k) ks

-- the kinds of tokens
abbrev pub kinds_of : List Tok → List Kind
kinds_of ts = map (λ t. t.kind) ts

-- of these tokens, the first that begins such a form stands here
pub record FirstLeftOut (o : LeftOut) (ts : List Tok) (place : Place) : Type 0 where
  pub before : List Tok
  pub next : Tok
  pub after : List Tok
  pub split : ts ≡ before ++ next ∷ after
  pub none : NoneOpens o at_start (kinds_of before)
  pub opening : opens o (behind_all at_start (kinds_of before)) next.kind ≡ true
  pub here : next.place ≡ place

-- the place of the first of these tokens that begins such a form, or none
abbrev pub LeftOutIn : LeftOut → List Tok → Option Place → Type 0
LeftOutIn o ts (Some p) = FirstLeftOut o ts p
LeftOutIn o ts None = NoneOpens o at_start (kinds_of ts)

-- the same of the tokens of a text
abbrev pub LeftOutOf : LeftOut → List ℕ → Option Place → Type 0
LeftOutOf o text found = (ts : List Tok) → Reads text ts → LeftOutIn o ts found
