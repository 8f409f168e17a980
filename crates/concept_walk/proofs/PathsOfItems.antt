-- The paths that an equation or a relation names, each of which is to have some property.
use Rattle.std.proofs.Common.{◌≡◌, List, [], ◌∷◌, ◌++◌, Option, Ok, refl}
use Rattle.std.specs.Prelude.{⊤}
use Rattle.body_lang.proofs.Verdicts.{first_passes, second_passes, both_pass}
use Rattle.utopist_syntax.specs.Named.{Named}
use Rattle.utopist_syntax.specs.declared.path.Path.{Path}
use Rattle.utopist_syntax.specs.declared.item.Part.{Part}
use Rattle.utopist_syntax.specs.declared.item.Part.TheVariants.{Input, Subtask}
use Rattle.utopist_syntax.specs.ExprTree.{ExprTree, num, path, neg, op, choice, loop, call}
use Rattle.utopist_syntax.specs.FileTree.{ItemTree, var, eq, rel, ConceptTree}
use Rattle.concept_rules.specs.PathRules.{numeric_path, numeric_paths}
use Rattle.concept_rules.specs.ItemRules.{side_fault, part_fault, parts_fault, body_fault, item_fault}
use Rattle.concept_walk.specs.KnownItems.{IsKnownItem}

-- each path of a side of an equation has it
abbrev pub SidePaths : (List Named → Type 0) → ExprTree → Type 0
SidePaths P (num n) = ⊤
SidePaths P (path names) = P names
SidePaths P (neg a) = SidePaths P a
SidePaths P (op o a b) = SidePaths P a × SidePaths P b
SidePaths P (choice c a b t e) = ⊤
SidePaths P (loop kind n a b e) = ⊤
SidePaths P (call k out place args) = ⊤

-- each of these paths has it
abbrev pub EachPath : (List Named → Type 0) → List Path → Type 0
EachPath P [] = ⊤
EachPath P (p ∷ paths) = P p.parts × EachPath P paths

-- so has each path of a part of a relation
abbrev pub PartPaths : (List Named → Type 0) → Part → Type 0
PartPaths P (Input p) = P p.parts
PartPaths P (Subtask inputs outputs) = EachPath P inputs × EachPath P outputs

-- and of parts
abbrev pub PartsPaths : (List Named → Type 0) → List Part → Type 0
PartsPaths P [] = ⊤
PartsPaths P (p ∷ parts) = PartPaths P p × PartsPaths P parts

-- a body has no fault behind some items
pub record HasSoundBody (parts : List Part) (body : Option ExprTree) : Type 0 where
  pub before : List ItemTree
  pub passes : body_fault before parts body ≡ Ok tt

-- each path that an item names has it, and its body has no fault
abbrev pub ItemPaths : (List Named → Type 0) → ItemTree → Type 0
ItemPaths P (var names kind binds) = ⊤
ItemPaths P (eq left right) = SidePaths P left × SidePaths P right
ItemPaths P (rel name parts output body) =
    PartsPaths P parts × P output.parts × HasSoundBody parts body

module _ (P Q : List Named → Type 0) (turn : (names : List Named) → P names → Q names) where
  -- what all paths of a side have, they have in another form too
  turn_side : (e : ExprTree) → SidePaths P e → SidePaths Q e
  turn_side (num n) h = tt
  turn_side (path names) h = turn names h
  turn_side (neg a) h = turn_side a h
  turn_side (op o a b) h = (turn_side a h.0, turn_side b h.1)
  turn_side (choice c a b t e) h = tt
  turn_side (loop kind n a b e) h = tt
  turn_side (call k out place args) h = tt

  -- so it is for paths
  turn_each : (paths : List Path) → EachPath P paths → EachPath Q paths
  turn_each [] h = tt
  turn_each (p ∷ paths) h = (turn p.parts h.0, turn_each paths h.1)

  -- for a part
  turn_part : (p : Part) → PartPaths P p → PartPaths Q p
  turn_part (Input p) h = turn p.parts h
  turn_part (Subtask inputs outputs) h = (turn_each inputs h.0, turn_each outputs h.1)

  -- for parts
  turn_parts : (parts : List Part) → PartsPaths P parts → PartsPaths Q parts
  turn_parts [] h = tt
  turn_parts (p ∷ parts) h = (turn_part p h.0, turn_parts parts h.1)

  -- and for an item
  pub turn_item : (i : ItemTree) → ItemPaths P i → ItemPaths Q i
  turn_item (var names kind binds) h = tt
  turn_item (eq left right) h = (turn_side left h.0, turn_side right h.1)
  turn_item (rel name parts output body) h = (turn_parts parts h.0, turn output.parts h.1, h.2)

module _ (concepts : List ConceptTree) (items : List ItemTree) where
  -- the path is known behind these items, and a number
  abbrev pub IsNumeric : List Named → Type 0
  IsNumeric names = numeric_path concepts items names ≡ Ok tt

  -- the paths of a side that passes are known
  side_paths : (e : ExprTree) → side_fault concepts items e ≡ Ok tt → SidePaths IsNumeric e
  side_paths (num n) h = tt
  side_paths (path names) h = h
  side_paths (neg a) h = side_paths a h
  side_paths (op o a b) h = (side_paths a (first_passes _ _ h), side_paths b (second_passes _ _ h))
  side_paths (choice c a b t e) h = tt
  side_paths (loop kind n a b e) h = tt
  side_paths (call k out place args) h = tt

  -- and a side of known paths passes
  side_passes : (e : ExprTree) → SidePaths IsNumeric e → side_fault concepts items e ≡ Ok tt
  side_passes (num n) h = refl
  side_passes (path names) h = h
  side_passes (neg a) h = side_passes a h
  side_passes (op o a b) h = both_pass _ _ (side_passes a h.0) (side_passes b h.1)
  side_passes (choice c a b t e) h = refl
  side_passes (loop kind n a b e) h = refl
  side_passes (call k out place args) h = refl

  -- paths that pass are known
  each_path : (paths : List Path) → numeric_paths concepts items paths ≡ Ok tt → EachPath IsNumeric paths
  each_path [] h = tt
  each_path (p ∷ paths) h = (first_passes _ _ h, each_path paths (second_passes _ _ h))

  -- and known paths pass
  each_passes : (paths : List Path) → EachPath IsNumeric paths → numeric_paths concepts items paths ≡ Ok tt
  each_passes [] h = refl
  each_passes (p ∷ paths) h = both_pass _ _ h.0 (each_passes paths h.1)

  -- the paths of a part that passes are known
  part_paths : (p : Part) → part_fault concepts items p ≡ Ok tt → PartPaths IsNumeric p
  part_paths (Input p) h = h
  part_paths (Subtask inputs outputs) h = (each_path inputs (first_passes _ _ h), each_path outputs (second_passes _ _ h))

  -- and a part of known paths passes
  part_passes : (p : Part) → PartPaths IsNumeric p → part_fault concepts items p ≡ Ok tt
  part_passes (Input p) h = h
  part_passes (Subtask inputs outputs) h = both_pass _ _ (each_passes inputs h.0) (each_passes outputs h.1)

  -- the paths of parts that pass are known
  parts_paths : (parts : List Part) → parts_fault concepts items parts ≡ Ok tt → PartsPaths IsNumeric parts
  parts_paths [] h = tt
  parts_paths (p ∷ parts) h = (part_paths p (first_passes _ _ h), parts_paths parts (second_passes _ _ h))

  -- and parts of known paths pass
  parts_pass : (parts : List Part) → PartsPaths IsNumeric parts → parts_fault concepts items parts ≡ Ok tt
  parts_pass [] h = refl
  parts_pass (p ∷ parts) h = both_pass _ _ (part_passes p h.0) (parts_pass parts h.1)

  -- the paths of an item that passes are known
  pub item_paths_known : (i : ItemTree) → item_fault concepts items i ≡ Ok tt → ItemPaths IsNumeric i
  item_paths_known (var names kind binds) h = tt
  item_paths_known (eq left right) h = (side_paths left (first_passes _ _ h), side_paths right (second_passes _ _ h))
  item_paths_known (rel name parts output body) h =
      let behind_name = second_passes _ _ h in
      let behind_parts = second_passes _ _ behind_name in (
        parts_paths parts (first_passes _ _ behind_name),
        first_passes _ _ behind_parts,
        record { before = items ++ rel name parts output body ∷ []; passes = second_passes _ _ behind_parts },
      )

  -- an item of known paths is known
  pub item_is_known : (i : ItemTree) → ItemPaths IsNumeric i → IsKnownItem concepts items i
  item_is_known (var names kind binds) h = tt
  item_is_known (eq left right) h = (side_passes left h.0, side_passes right h.1)
  item_is_known (rel name parts output body) h = (parts_pass parts h.0, h.1, (h.2.before, h.2.passes))
