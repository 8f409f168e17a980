-- Items that are added to a problem one after another.
use Rattle.std.proofs.Common.{◌≡◌, ℕ, zero, suc, ◌+◌, ◌<◌, ◌≤◌, List, [], ◌∷◌, ◌++◌, length, get_or, drop, map, refl, sym, ap, ◌∙◌, subst, arith, append_assoc, length-append}
use Rattle.std.specs.Prelude.{All}
use Rattle.std.specs.List.{sum_by}
use Rattle.std.proofs.lemmas.List.Elements.{All-get_or}
use Rattle.std.proofs.lemmas.List.Sums.{sum_by-drop_more, get_or-le-sum_by}
use Rattle.std.proofs.lemmas.List.Folds.{fold-map}
use Rattle.priz_base.proofs.More.{drop_at, moved_on}
use Rattle.statement_set.specs.declared.statement.Statement.{Statement}
use Rattle.statement_set.specs.Problem.{Task}
use Rattle.statement_set.proofs.Lists.{all_left, all_right, all_of_map}
use Rattle.utopist_syntax.specs.declared.item.Part.{Part}
use Rattle.utopist_syntax.specs.declared.item.Item.{Item}
use Rattle.utopist_syntax.specs.FileTree.{ItemTree, var, eq, rel, item_tree}
use Rattle.concept_unfold.specs.Limits.{max_statements}
use Rattle.concept_walk.specs.Limits.{max_size}
use Rattle.concept_unfold.specs.Built.{IsBuiltItem}
use Rattle.concept_unfold.specs.Paths.{input_in, inputs_of, IsOneOf}
use Rattle.concept_unfold.specs.Declarations.{variables, all_variables}
use Rattle.concept_unfold.specs.UnfoldingRules.{item_size, item_statements}
use Rattle.concept_unfold.specs.Unfolded.{statements_of, AreKnown}

-- a part of known inputs has known inputs
pub inputs_known_at : (vars : List (List ℕ)) (parts : List Part) (i : ℕ) (x : Part) → i < length parts → x ≡ get_or parts i x → AreKnown vars (inputs_of parts) → AreKnown vars (input_in x)
inputs_known_at vars [] i x lt is k = absurd (omega arith)
inputs_known_at vars (y ∷ parts) zero x lt is k =
    subst (λ (z : Part). AreKnown vars (input_in z)) (sym is) (all_left (IsOneOf vars) (input_in y) (inputs_of parts) k)
inputs_known_at vars (y ∷ parts) (suc i) x lt is k = inputs_known_at vars parts i x (omega arith) is (all_right (IsOneOf vars) (input_in y) (inputs_of parts) k)

statement_count : (vars : List (List ℕ)) (i : ItemTree) → length (statements_of vars i) ≡ item_statements i
statement_count vars (var ns kind binds) = refl
statement_count vars (eq left right) = refl
statement_count vars (rel n parts output body) = refl

module _ (items : List Item) (i : ℕ) (x : Item) (lt : i < length items) (is : x ≡ get_or items i x) where
  pub item_built : All IsBuiltItem (map item_tree items) → IsBuiltItem (item_tree x)
  item_built h =
      let at : Item → Type 0 = λ y. IsBuiltItem (item_tree y) in
      subst at (sym is) (All-get_or at items i x lt (all_of_map IsBuiltItem item_tree items h))

  pub item_fits : sum_by item_size (map item_tree items) ≤ max_size → item_size (item_tree x) ≤ max_size
  item_fits h =
      let f : Item → ℕ = λ y. item_size (item_tree y) in
      omega (arith, h, get_or-le-sum_by f items i x lt, ap f is, fold-map (λ a y. a + item_size y) item_tree 0 items)

  pub variables_more : (vars new all : List (List ℕ)) → vars ++ all_variables (map item_tree (drop i items)) ≡ all → new ≡ vars ++ variables (item_tree x) → new ++ all_variables (map item_tree (drop (i + 1) items)) ≡ all
  variables_more vars new all h e =
      ap (λ v. v ++ all_variables (map item_tree (drop (i + 1) items))) e ∙ append_assoc vars (variables (item_tree x)) (all_variables (map item_tree (drop (i + 1) items)))
      ∙ sym (ap (λ (y : List Item). vars ++ all_variables (map item_tree y)) (drop_at items i x lt is)) ∙ h

  pub room_more : (vars : List (List ℕ)) (old new : List Statement) → length old + sum_by item_statements (map item_tree (drop i items)) ≤ max_statements → new ≡ old ++ statements_of vars (item_tree x) → length new + sum_by item_statements (map item_tree (drop (i + 1) items)) ≤ max_statements
  room_more vars old new h e =
      let f : Item → ℕ = λ y. item_statements (item_tree y) in
      let here : f (get_or items i x) ≡ f x = ap f (sym is) in
      omega (
        arith,
        ap length e,
        length-append old (statements_of vars (item_tree x)),
        statement_count vars (item_tree x),
        sum_by-drop_more f items i x lt,
        fold-map (λ a y. a + item_statements y) item_tree 0 (drop i items),
        fold-map (λ a y. a + item_statements y) item_tree 0 (drop (i + 1) items),
        here,
      )

-- one more variable, and nothing else
pub name_step : (start p q : Task) (names : List (List ℕ)) → p ≡ record start { names = p.names } → q ≡ record p { names = names } → q ≡ record start { names = q.names }
name_step start p q names same e =
    let new : q.names ≡ names = ap (λ (r : Task). r.names) e in
    e ∙ ap (λ ns. record p { names = ns }) (sym new) ∙ ap (λ (r : Task). record r { names = q.names }) same

-- what an element gives moves from what is left to what was gathered
pub gathered_more : {X Y : Type 0} (f : List X → List Y) (xs : List X) (i : ℕ) (x : X) (old new piece whole : List Y) → i < length xs → x ≡ get_or xs i x → f (x ∷ drop (i + 1) xs) ≡ piece ++ f (drop (i + 1) xs) → old ++ f (drop i xs) ≡ whole → new ≡ old ++ piece → new ++ f (drop (i + 1) xs) ≡ whole
gathered_more f xs i x old new piece whole lt is opens so_far e =
    moved_on old new piece (f (drop (i + 1) xs)) whole (ap (λ ys. old ++ ys) (sym (ap f (drop_at xs i x lt is) ∙ opens)) ∙ so_far) e
