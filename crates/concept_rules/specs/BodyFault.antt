-- The first fault in the body of a relation, from left to right.
use Rattle.std.specs.Prelude.{ℕ, suc, zero, ℤ, pos, negsuc, List, [], ◌∷◌, Bool, false, ◌||◌, not, nat_eq, nat_lt, Option, Some, None, is_some, Ok, Err, slice_get}
use Rattle.priz_base.specs.declared.place.Place.{Place}
use Rattle.body_lang.specs.declared.arity.Arity.{Arity}
use Rattle.body_lang.specs.Verdicts.{Verdict, and_then, fault_unless}
use Rattle.name_sets.specs.Paths.{texts, path_position}
use Rattle.concept_rules.specs.Declarations.{is_among, is_declared}
use Rattle.utopist_syntax.specs.Named.{Named}
use Rattle.utopist_syntax.specs.FileTree.{ItemTree}
use Rattle.utopist_syntax.specs.ExprTree.{ExprTree, ExprTrees, num, path, neg, op, choice, loop, call, none, more}
use Rattle.concept_rules.specs.declared.fault.Rule.TheVariants as rule
use Rattle.concept_rules.specs.declared.fault.ModelFault.{ModelFault}
use Rattle.concept_rules.specs.Paths.{first_of}
use Rattle.concept_rules.specs.PathRules.{broken_at}

-- a point of a body
pub record Point : Type 0 where
  -- the items up to the relation itself, and the loops around the point, whose names no loop there has
  pub items : List ItemTree
  pub around : List (List ℕ)
  -- the plain inputs of the relation as they are spelled, and what its subtasks take and give
  pub inputs : List (List (List ℕ))
  pub arities : List Arity
  -- the loops whose rounds hold the point
  pub rounds : List (List ℕ)

-- the single name of one of these loops
abbrev pub is_local : List (List ℕ) → List (List ℕ) → Bool
is_local rounds [] = false
is_local rounds (n ∷ []) = is_among n rounds
is_local rounds (n ∷ m ∷ ns) = false

-- a path is spelled as one of these plain inputs, or is one of these loops
abbrev pub readable_path : List (List (List ℕ)) → List (List ℕ) → List Named → Verdict ModelFault
readable_path inputs rounds names =
    fault_unless (is_some (path_position (texts names) inputs) || is_local rounds (texts names))
    (broken_at (first_of names) rule.UnknownPath)

-- the name of a loop is that of none of these loops, and declared by none of these items
abbrev pub free_name : List ItemTree → List (List ℕ) → Named → Verdict ModelFault
free_name items around n =
    fault_unless (not (is_among n.text around || is_declared items n.text))
    (broken_at n rule.ShadowedName)

-- a point of a loop's bounds: no loop there may have its name
abbrev pub in_bounds : Named → Point → Point
in_bounds n pt = record pt { around = n.text ∷ pt.around }

-- a point of a loop's round: its name may be read there
abbrev pub in_round : Named → Point → Point
in_round n pt = record pt { around = n.text ∷ pt.around; rounds = n.text ∷ pt.rounds }

-- how many there are
abbrev pub count_trees : ExprTrees → ℕ
count_trees none = 0
count_trees (more a rest) = suc (count_trees rest)

-- a number from 1 up to this one
abbrev pub is_number_of : ℕ → ℤ → Bool
is_number_of count (pos zero) = false
is_number_of count (pos (suc k)) = nat_lt k count
is_number_of count (negsuc k) = false

-- what the subtask of this number takes and gives; they are numbered from 1
abbrev pub arity_of : List Arity → ℤ → Option Arity
arity_of arities (pos zero) = None
arity_of arities (pos (suc k)) = slice_get arities k
arity_of arities (negsuc k) = None

-- a call, at this place, of a subtask for its output of this number, by so many arguments
abbrev pub call_fault : Place → Option Arity → ℤ → ℕ → Verdict ModelFault
call_fault place None out args = Err (record { place = place; rule = rule.BadCall })
call_fault place (Some a) out args =
    and_then
    (fault_unless (is_number_of a.outputs out) (record { place = place; rule = rule.BadCall }))
    (fault_unless (nat_eq a.inputs args) (record { place = place; rule = rule.BadArity }))

abbrev mutual
  -- an expression: its loops have new names, its paths are readable, and its calls fit the subtasks
  pub expr_fault : Point → ExprTree → Verdict ModelFault
  expr_fault pt (num n) = Ok tt
  expr_fault pt (path names) = readable_path pt.inputs pt.rounds names
  expr_fault pt (neg a) = expr_fault pt a
  expr_fault pt (op o a b) = and_then (expr_fault pt a) (expr_fault pt b)
  expr_fault pt (choice c a b t e) =
      and_then (expr_fault pt a)
      (and_then (expr_fault pt b) (and_then (expr_fault pt t) (expr_fault pt e)))
  expr_fault pt (loop kind n a b e) =
      and_then (free_name pt.items pt.around n)
      (and_then (expr_fault (in_bounds n pt) a)
      (and_then (expr_fault (in_bounds n pt) b) (expr_fault (in_round n pt) e)))
  expr_fault pt (call k out place args) =
      and_then (call_fault place (arity_of pt.arities k) out (count_trees args))
      (exprs_fault pt args)

  -- expressions, one behind the other
  pub exprs_fault : Point → ExprTrees → Verdict ModelFault
  exprs_fault pt none = Ok tt
  exprs_fault pt (more a rest) = and_then (expr_fault pt a) (exprs_fault pt rest)
