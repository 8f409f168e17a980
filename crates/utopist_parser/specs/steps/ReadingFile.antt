-- Reading items, concepts, compute statements and files.
use Rattle.std.specs.Prelude.{ℤ, pos, unsigned_abs, Bool, true, false, ◌||◌, List, [], Option, Some, None}
use Rattle.priz_frac.specs.Ratio.{Ratio}
use Rattle.priz_frac.specs.Lowest.{low}
use Rattle.priz_frac.specs.Sign.{signed_ratio}
use Rattle.utopist_lexer.specs.declared.word.Word.TheVariants as words
use Rattle.utopist_lexer.specs.declared.mark.Mark.TheVariants as marks
use Rattle.utopist_lexer.specs.declared.token.Kind.TheVariants as kinds
use Rattle.utopist_syntax.specs.Named.{Named}
use Rattle.utopist_syntax.specs.declared.item.VarKind.{VarKind}
use Rattle.utopist_syntax.specs.declared.item.VarKind.TheVariants as var_kinds
use Rattle.utopist_syntax.specs.declared.item.Bind.{Bind}
use Rattle.utopist_syntax.specs.declared.item.Part.{Part}
use Rattle.utopist_syntax.specs.declared.item.Part.TheVariants as parts
use Rattle.utopist_syntax.specs.declared.compute.Compute.{Compute}
use Rattle.utopist_syntax.specs.declared.compute.GivenPath.{GivenPath}
use Rattle.utopist_syntax.specs.ExprTree.{ExprTree}
use Rattle.utopist_syntax.specs.FileTree.{ItemTree, var, eq, rel, ConceptTree, FileTree}
use Rattle.utopist_parser.specs.declared.breadth.Breadth.TheVariants as breadth
use Rattle.token_forms.specs.Symbols.{Symbol}
use Rattle.token_forms.specs.steps.Steps.{StepOf, ◌>>=◌, give, choose_at, repeat_at}
use Rattle.token_forms.specs.steps.Single.{is_kind, is_word, is_mark, fixed_at, word_at, mark_at, name_at, number_at, divisor_at}
use Rattle.token_forms.specs.steps.Lists.{separated_at}
use Rattle.utopist_parser.specs.steps.Lists.{names_at, path_at, paths_at}
use Rattle.utopist_parser.specs.steps.ReadingExpr.{chain_at, expr_at}

-- ---- items

-- bind = path "=" path
unfoldable pub bind_at : StepOf Bind
bind_at = do
  l ← path_at
  u ← mark_at marks.Equal
  r ← path_at
  give (record { left = l; right = r })

-- "(" bind {"," bind} ")"
unfoldable pub some_binds_at : StepOf (List Bind)
some_binds_at = do
  u ← mark_at marks.OpenRound
  bs ← separated_at marks.Comma bind_at
  u ← mark_at marks.CloseRound
  give bs

-- ["(" bind {"," bind} ")"]
unfoldable pub binds_at : StepOf (List Bind)
binds_at = choose_at (is_mark marks.OpenRound) some_binds_at (give [])

-- "numeric"
unfoldable pub numeric_at : StepOf (VarKind × List Bind)
numeric_at = do
  u ← word_at words.Numeric
  give (var_kinds.Numeric, [])

-- Name ["(" bind {"," bind} ")"]
unfoldable pub component_at : StepOf (VarKind × List Bind)
component_at = do
  n ← name_at
  bs ← binds_at
  give (var_kinds.Of n, bs)

-- kind = "numeric" | Name ["(" bind {"," bind} ")"]
unfoldable pub kind_at : StepOf (VarKind × List Bind)
kind_at = choose_at (is_word words.Numeric) numeric_at component_at

-- "var" Name {"," Name} ":" kind ";"
unfoldable pub var_at : StepOf ItemTree
var_at = do
  u ← word_at words.Var
  ns ← names_at
  u ← mark_at marks.Colon
  k ← kind_at
  u ← mark_at marks.Semicolon
  give (var ns k.0 k.1)

-- "eq" arith "=" arith ";"
unfoldable pub eq_at : StepOf ItemTree
eq_at = do
  u ← word_at words.Eq
  l ← chain_at breadth.Arithmetic
  u ← mark_at marks.Equal
  r ← chain_at breadth.Arithmetic
  u ← mark_at marks.Semicolon
  give (eq l.0 r.0)

-- path
unfoldable pub input_at : StepOf Part
input_at = do
  p ← path_at
  give (parts.Input p)

-- "[" path {"," path} "->" path {"," path} "]"
unfoldable pub subtask_at : StepOf Part
subtask_at = do
  u ← mark_at marks.OpenSquare
  is ← paths_at
  u ← mark_at marks.Arrow
  os ← paths_at
  u ← mark_at marks.CloseSquare
  give (parts.Subtask is os)

-- part = path | "[" path {"," path} "->" path {"," path} "]"
unfoldable pub part_at : StepOf Part
part_at = choose_at (is_mark marks.OpenSquare) subtask_at input_at

-- part {"," part}
unfoldable pub some_parts_at : StepOf (List Part)
some_parts_at = separated_at marks.Comma part_at

-- whether a symbol begins a part
abbrev pub begins_part : Symbol → Bool
begins_part c = is_kind kinds.Name c || is_mark marks.OpenSquare c

-- [part {"," part}]
unfoldable pub parts_at : StepOf (List Part)
parts_at = choose_at begins_part some_parts_at (give [])

-- "{" expr "}"
unfoldable pub some_body_at : StepOf (Option ExprTree)
some_body_at = do
  u ← mark_at marks.OpenCurly
  e ← expr_at breadth.All
  u ← mark_at marks.CloseCurly
  give (Some e.0)

-- ["{" expr "}"]
unfoldable pub body_at : StepOf (Option ExprTree)
body_at = choose_at (is_mark marks.OpenCurly) some_body_at (give None)

-- "rel" Name ":" [part {"," part}] "->" path ["{" expr "}"] ";"
unfoldable pub rel_at : StepOf ItemTree
rel_at = do
  u ← word_at words.Rel
  n ← name_at
  u ← mark_at marks.Colon
  ps ← parts_at
  u ← mark_at marks.Arrow
  o ← path_at
  b ← body_at
  u ← mark_at marks.Semicolon
  give (rel n ps o b)

-- item = var | eq | rel
unfoldable pub item_at : StepOf ItemTree
item_at = choose_at (is_word words.Var) var_at (choose_at (is_word words.Eq) eq_at rel_at)

-- whether a symbol begins an item
abbrev pub begins_item : Symbol → Bool
begins_item c = is_word words.Var c || (is_word words.Eq c || is_word words.Rel c)

-- "(" {item}
unfoldable pub items_at : StepOf (List ItemTree)
items_at = do
  u ← mark_at marks.OpenRound
  repeat_at begins_item item_at

-- ---- concepts

-- "is" Name {"," Name}
unfoldable pub some_parents_at : StepOf (List Named)
some_parents_at = do
  u ← word_at words.Is
  names_at

-- ["is" Name {"," Name}]
unfoldable pub parents_at : StepOf (List Named)
parents_at = choose_at (is_word words.Is) some_parents_at (give [])

-- "concept" Name ["is" Name {"," Name}] ":" "(" {item} ")" ";"
unfoldable pub concept_at : StepOf ConceptTree
concept_at = do
  u ← word_at words.Concept
  n ← name_at
  ps ← parents_at
  u ← mark_at marks.Colon
  is ← items_at
  u ← mark_at marks.CloseRound
  u ← mark_at marks.Semicolon
  give (record { name = n; parents = ps; items = is })

-- ---- compute statements

-- "-"
unfoldable pub minus_at : StepOf Bool
minus_at = do
  u ← mark_at marks.Minus
  give true

-- ["-"]
unfoldable pub negative_at : StepOf Bool
negative_at = choose_at (is_mark marks.Minus) minus_at (give false)

-- "/" Number that isn't 0
unfoldable pub some_below_at : StepOf ℤ
some_below_at = do
  u ← mark_at marks.Slash
  divisor_at

-- ["/" Number that isn't 0]
unfoldable pub below_at : StepOf ℤ
below_at = choose_at (is_mark marks.Slash) some_below_at (give (pos 1))

-- "=" ["-"] Number ["/" Number that isn't 0]
unfoldable pub some_value_at : StepOf (Option Ratio)
some_value_at = do
  u ← mark_at marks.Equal
  negative ← negative_at
  n ← number_at
  d ← below_at
  give (Some (low (signed_ratio negative (unsigned_abs n) (unsigned_abs d))))

-- ["=" number]
unfoldable pub given_value_at : StepOf (Option Ratio)
given_value_at = choose_at (is_mark marks.Equal) some_value_at (give None)

-- given = path ["=" number]
unfoldable pub given_at : StepOf GivenPath
given_at = do
  p ← path_at
  v ← given_value_at
  give (record { path = p; value = v })

-- "given" given {"," given} ";"
unfoldable pub some_givens_at : StepOf (List GivenPath)
some_givens_at = do
  u ← word_at words.Given
  gs ← separated_at marks.Comma given_at
  u ← mark_at marks.Semicolon
  give gs

-- ["given" given {"," given} ";"]
unfoldable pub givens_at : StepOf (List GivenPath)
givens_at = choose_at (is_word words.Given) some_givens_at (give [])

-- "compute" Name ":" "(" [givens] "find" path {"," path} ")" ";"
unfoldable pub compute_at : StepOf Compute
compute_at = do
  u ← word_at words.Compute
  n ← name_at
  u ← mark_at marks.Colon
  u ← mark_at marks.OpenRound
  gs ← givens_at
  u ← word_at words.Find
  ws ← paths_at
  u ← mark_at marks.CloseRound
  u ← mark_at marks.Semicolon
  give (record { name = n; givens = gs; wants = ws })

-- ---- files

-- {concept}
unfoldable pub concepts_at : StepOf (List ConceptTree)
concepts_at = repeat_at (is_word words.Concept) concept_at

-- {compute}
unfoldable pub computes_at : StepOf (List Compute)
computes_at = repeat_at (is_word words.Compute) compute_at

-- file = {concept} {compute} End
unfoldable pub file_at : StepOf FileTree
file_at = do
  cs ← concepts_at
  ds ← computes_at
  u ← fixed_at kinds.End
  give (record { concepts = cs; computes = ds })
