-- From the shape of a tree, its names and its numbers to its forms.
use Rattle.std.proofs.Common.{◌≢◌, ℤ, pos, negsuc, List, [], ◌∷◌, ◌++◌, Option, Some, None, refl, arith}
use Rattle.std.specs.Prelude.{◌≤ℤ◌, All}
use Rattle.std.specs.List.{flat_map, AllByRecursion}
use Rattle.std.proofs.lemmas.List.Elements.{recursion_from_All}
use Rattle.priz_frac.specs.Ratio.{Ratio}
use Rattle.utopist_syntax.specs.Named.{Named}
use Rattle.utopist_syntax.specs.ExprTree.{ExprTree, ExprTrees, num, path, neg, op, choice, loop, call, none, more}
use Rattle.utopist_syntax.specs.FileTree.{ItemTree, ConceptTree, FileTree, var, eq, rel}
use Rattle.utopist_syntax.specs.declared.path.Path.{Path}
use Rattle.utopist_syntax.specs.declared.item.VarKind.{VarKind}
use Rattle.utopist_syntax.specs.declared.item.VarKind.TheVariants.{Numeric, Of}
use Rattle.utopist_syntax.specs.declared.item.Bind.{Bind}
use Rattle.utopist_syntax.specs.declared.item.Part.{Part}
use Rattle.utopist_syntax.specs.declared.item.Part.TheVariants.{Input, Subtask}
use Rattle.utopist_syntax.specs.declared.compute.Compute.{Compute}
use Rattle.utopist_syntax.specs.declared.compute.GivenPath.{GivenPath}
use Rattle.utopist_syntax.specs.Shape.{HasName, AreSomePaths, HasExprShape, HaveExprShape, HasBodyShape, HasBindShape, HasPartShape, HasItemShape, HasConceptShape, HasComputeShape}
use Rattle.utopist_syntax.specs.TreeNames.{tree_names, trees_names, paths_names, kind_names, bind_names, part_names, body_names, item_names, names_in_concept, compute_names, file_names}
use Rattle.canonical_reading.specs.TreeNumbers.{tree_numbers, trees_numbers, body_numbers, item_numbers, concept_numbers, value_numbers, compute_numbers, file_numbers}
use Rattle.canonical_reading.specs.Printable.{PrintableName, PrintableInteger, Printable}
use Rattle.canonical_reading.proofs.PrintableParts.{SomeAndAll, PrintablePath, PrintableNumber, PrintableTree, PrintableTrees, PrintableKind, PrintableBind, PrintablePart, PrintableBody, PrintableItem, PrintableConcept, PrintableValue, PrintableGiven, PrintableCompute, PrintableFile}

-- these names can be spelled
abbrev Names : List Named → Type 0
Names = AllByRecursion PrintableName

-- these numbers can
abbrev Numbers : List ℤ → Type 0
Numbers = AllByRecursion PrintableInteger

-- ---- lists

module _ {X : Type 0} (P : X → Type 0) where
  two : (xs ys : List X) → AllByRecursion P (xs ++ ys) → AllByRecursion P xs × AllByRecursion P ys
  two [] ys h = (tt, h)
  two (x ∷ xs) ys h = let t = two xs ys h.1 in ((h.0, t.0), t.1)

  some : (xs : List X) → xs ≢ [] → AllByRecursion P xs → SomeAndAll P xs
  some [] s h = absurd (s refl)
  some (x ∷ xs) s h = h

module _ {X : Type 0} (names : X → List Named) (numbers : X → List ℤ) (Shape Prints : X → Type 0) (one : (x : X) → Shape x → Names (names x) → Numbers (numbers x) → Prints x) where
  each-at : (xs : List X) → AllByRecursion Shape xs → Names (flat_map names xs) → Numbers (flat_map numbers xs) → AllByRecursion Prints xs
  each-at [] s n i = tt
  each-at (x ∷ xs) s n i =
      let ns = two PrintableName (names x) (flat_map names xs) n in
      let is = two PrintableInteger (numbers x) (flat_map numbers xs) i in
      (one x s.0 ns.0 is.0, each-at xs s.1 ns.1 is.1)

  each : (xs : List X) → All Shape xs → Names (flat_map names xs) → Numbers (flat_map numbers xs) → AllByRecursion Prints xs
  each xs s = each-at xs (recursion_from_All Shape xs s)

module _ {X : Type 0} (names : X → List Named) (Shape Prints : X → Type 0) (one : (x : X) → Shape x → Names (names x) → Prints x) where
  named-at : (xs : List X) → AllByRecursion Shape xs → Names (flat_map names xs) → AllByRecursion Prints xs
  named-at [] s n = tt
  named-at (x ∷ xs) s n = let ns = two PrintableName (names x) (flat_map names xs) n in (one x s.0 ns.0, named-at xs s.1 ns.1)

  named : (xs : List X) → All Shape xs → Names (flat_map names xs) → AllByRecursion Prints xs
  named xs s = named-at xs (recursion_from_All Shape xs s)

-- ---- expressions

number : (i : ℤ) → pos 0 ≤ℤ i → PrintableInteger i → PrintableNumber i
number (pos n) s h = h
number (negsuc n) s h = absurd (omega (arith, s))

mutual
  tree : (t : ExprTree) → HasExprShape t → Names (tree_names t) → Numbers (tree_numbers t) → PrintableTree t
  tree (num n) s h i = number n s i.0
  tree (path names) s h i = some PrintableName names s h
  tree (neg a) s h i = tree a s h i
  tree (op o a b) s h i =
      let n = two PrintableName (tree_names a) (tree_names b) h in
      let j = two PrintableInteger (tree_numbers a) (tree_numbers b) i in (tree a s.0 n.0 j.0, tree b s.1 n.1 j.1)
  tree (choice c a b t e) s h i =
      let n = two PrintableName (tree_names a) (tree_names b ++ (tree_names t ++ tree_names e)) h in
      let m = two PrintableName (tree_names b) (tree_names t ++ tree_names e) n.1 in
      let l = two PrintableName (tree_names t) (tree_names e) m.1 in
      let j = two PrintableInteger (tree_numbers a) (tree_numbers b ++ (tree_numbers t ++ tree_numbers e)) i in
      let k = two PrintableInteger (tree_numbers b) (tree_numbers t ++ tree_numbers e) j.1 in
      let u = two PrintableInteger (tree_numbers t) (tree_numbers e) k.1 in
      (tree a s.0 n.0 j.0, tree b s.1 m.0 k.0, tree t s.2 l.0 u.0, tree e s.3 l.1 u.1)
  tree (loop kind x a b e) s h i =
      let n = two PrintableName (tree_names a) (tree_names b ++ tree_names e) h.1 in
      let m = two PrintableName (tree_names b) (tree_names e) n.1 in
      let j = two PrintableInteger (tree_numbers a) (tree_numbers b ++ tree_numbers e) i in
      let k = two PrintableInteger (tree_numbers b) (tree_numbers e) j.1 in
      (h.0, tree a s.0 n.0 j.0, tree b s.1 m.0 k.0, tree e s.2 m.1 k.1)
  tree (call k out place args) s h i = (number k s.0 i.0, number out s.1 i.1.0, trees args s.3 h i.1.1)

  trees : (ts : ExprTrees) → HaveExprShape ts → Names (trees_names ts) → Numbers (trees_numbers ts) → PrintableTrees ts
  trees none s h i = tt
  trees (more a rest) s h i =
      let n = two PrintableName (tree_names a) (trees_names rest) h in
      let j = two PrintableInteger (tree_numbers a) (trees_numbers rest) i in (tree a s.0 n.0 j.0, trees rest s.1 n.1 j.1)

-- ---- items

path_prints : (p : Path) → HasName p → Names p.parts → PrintablePath p
path_prints p s h = some PrintableName p.parts s h

paths_print : (ps : List Path) → AreSomePaths ps → Names (paths_names ps) → SomeAndAll PrintablePath ps
paths_print ps s h = some PrintablePath ps s.0 (named (λ p. p.parts) HasName PrintablePath path_prints ps s.1 h)

kind_prints : (k : VarKind) → Names (kind_names k) → PrintableKind k
kind_prints Numeric h = tt
kind_prints (Of n) h = h.0

bind_prints : (b : Bind) → HasBindShape b → Names (bind_names b) → PrintableBind b
bind_prints b s h = let n = two PrintableName b.left.parts b.right.parts h in (path_prints b.left s.0 n.0, path_prints b.right s.1 n.1)

part_prints : (p : Part) → HasPartShape p → Names (part_names p) → PrintablePart p
part_prints (Input p) s h = path_prints p s h
part_prints (Subtask inputs outputs) s h =
    let n = two PrintableName (paths_names inputs) (paths_names outputs) h in
    (named (λ p. p.parts) HasName PrintablePath path_prints inputs s.0.1 n.0, paths_print outputs s.1 n.1)

body_prints : (o : Option ExprTree) → HasBodyShape o → Names (body_names o) → Numbers (body_numbers o) → PrintableBody o
body_prints None s h i = tt
body_prints (Some e) s h i = tree e s h i

item_prints : (x : ItemTree) → HasItemShape x → Names (item_names x) → Numbers (item_numbers x) → PrintableItem x
item_prints (var names kind binds) s h i =
    let n = two PrintableName names (kind_names kind ++ flat_map bind_names binds) h in
    let m = two PrintableName (kind_names kind) (flat_map bind_names binds) n.1 in
    (some PrintableName names s.0 n.0, kind_prints kind m.0, named bind_names HasBindShape PrintableBind bind_prints binds s.1 m.1)
item_prints (eq left right) s h i =
    let n = two PrintableName (tree_names left) (tree_names right) h in
    let j = two PrintableInteger (tree_numbers left) (tree_numbers right) i in (tree left s.0 n.0 j.0, tree right s.1 n.1 j.1)
item_prints (rel name parts output body) s h i =
    let n = two PrintableName (flat_map part_names parts) (output.parts ++ body_names body) h.1 in
    let m = two PrintableName output.parts (body_names body) n.1 in
    (h.0, named part_names HasPartShape PrintablePart part_prints parts s.0 n.0, path_prints output s.1 m.0, body_prints body s.2 m.1 i)

-- ---- files

concept_prints : (c : ConceptTree) → HasConceptShape c → Names (names_in_concept c) → Numbers (concept_numbers c) → PrintableConcept c
concept_prints c s h i =
    let n = two PrintableName c.parents (flat_map item_names c.items) h.1 in
    record { name = h.0; parents = n.0; items = each item_names item_numbers HasItemShape PrintableItem item_prints c.items s n.1 i }

value_prints : (o : Option Ratio) → Numbers (value_numbers o) → PrintableValue o
value_prints None i = tt
value_prints (Some x) i = record { num = i.0; den = i.1.0 }

given_prints : (g : GivenPath) → HasName g.path → Names g.path.parts → Numbers (value_numbers g.value) → PrintableGiven g
given_prints g s h i = (path_prints g.path s h, value_prints g.value i)

compute_prints : (c : Compute) → HasComputeShape c → Names (compute_names c) → Numbers (compute_numbers c) → PrintableCompute c
compute_prints c s h i =
    let n = two PrintableName (flat_map (λ (g : GivenPath). g.path.parts) c.givens) (paths_names c.wants) h.1 in
    record {
      name = h.0;
      givens = each (λ g. g.path.parts) (λ g. value_numbers g.value) (λ g. HasName g.path) PrintableGiven given_prints c.givens s.givens n.0 i;
      wants = paths_print c.wants s.wants n.1;
    }

-- a printable file is so form by form
pub parts_print : (f : FileTree) → Printable f → PrintableFile f
parts_print f h =
    let n = two PrintableName (flat_map names_in_concept f.concepts) (flat_map compute_names f.computes) (recursion_from_All PrintableName (file_names f) h.names) in
    let i = two PrintableInteger (flat_map concept_numbers f.concepts) (flat_map compute_numbers f.computes) (recursion_from_All PrintableInteger (file_numbers f) h.numbers) in
    record {
      concepts = each names_in_concept concept_numbers HasConceptShape PrintableConcept concept_prints f.concepts h.shape.concepts n.0 i.0;
      computes = each compute_names compute_numbers HasComputeShape PrintableCompute compute_prints f.computes h.shape.computes n.1 i.1;
    }
