-- The forms that are built: numeric variables without bindings, and relations of plain inputs, whose bodies call
-- nothing.
use Rattle.std.specs.Prelude.{◌≡◌, ◌≤ℤ◌, pos, [], All, Option, Some, None}
use Rattle.utopist_syntax.specs.declared.item.VarKind.TheVariants.{Numeric}
use Rattle.utopist_syntax.specs.declared.item.Part.{Part}
use Rattle.utopist_syntax.specs.declared.item.Part.TheVariants.{Input, Subtask}
use Rattle.utopist_syntax.specs.ExprTree.{ExprTree, num, path, neg, op, choice, loop, call}
use Rattle.utopist_syntax.specs.FileTree.{ItemTree, var, eq, rel, ConceptTree, FileTree}

-- a plain input
abbrev pub IsInput : Part → Type 0
IsInput (Input p) = Unit {0}
IsInput (Subtask inputs outputs) = ⊥

-- an expression without a call, whose numbers are not negative
abbrev pub IsBuiltExpr : ExprTree → Type 0
IsBuiltExpr (num n) = pos 0 ≤ℤ n
IsBuiltExpr (path names) = Unit {0}
IsBuiltExpr (neg a) = IsBuiltExpr a
IsBuiltExpr (op o a b) = IsBuiltExpr a × IsBuiltExpr b
IsBuiltExpr (choice c a b t e) = IsBuiltExpr a × (IsBuiltExpr b × (IsBuiltExpr t × IsBuiltExpr e))
IsBuiltExpr (loop kind n a b e) = IsBuiltExpr a × (IsBuiltExpr b × IsBuiltExpr e)
IsBuiltExpr (call k out place args) = ⊥

-- a body of such an expression, or none
abbrev pub IsBuiltBody : Option ExprTree → Type 0
IsBuiltBody None = Unit {0}
IsBuiltBody (Some e) = IsBuiltExpr e

-- an item that is built
abbrev pub IsBuiltItem : ItemTree → Type 0
IsBuiltItem (var names kind binds) = (kind ≡ Numeric) × (binds ≡ [])
IsBuiltItem (eq left right) = ⊥
IsBuiltItem (rel name parts output body) = All IsInput parts × IsBuiltBody body

-- a concept without parents, of such items
abbrev pub IsBuiltConcept : ConceptTree → Type 0
IsBuiltConcept c = (c.parents ≡ []) × All IsBuiltItem c.items

-- a file of such concepts
abbrev pub IsBuilt : FileTree → Type 0
IsBuilt f = All IsBuiltConcept f.concepts
