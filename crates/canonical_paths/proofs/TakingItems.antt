-- Items of a concept, one behind the other.
use Rattle.std.proofs.Common.{◌≡◌, ℕ, List, [], ◌∷◌, ◌++◌, true, Option, Some, None, refl, sym, ap, ◌∙◌, subst, ⊎_elim, append_assoc, append-nil}
use Rattle.std.specs.Prelude.{Contains, length}
use Rattle.std.specs.List.{flat_map}
use Rattle.std.specs.Str.{bytes_eq}
use Rattle.std.proofs.lemmas.Bool.{or_left, or_right}
use Rattle.std.proofs.lemmas.Grind.{flat_map-append}
use Rattle.std.proofs.lemmas.List.Elements.{Contains-append_right}
use Rattle.std.proofs.lemmas.Slice.Eq.{bytes_eq-Decides}
use Rattle.priz_base.proofs.Members.{contains_here, contains_cases, contains_none}
use Rattle.utopist_syntax.specs.Named.{Named}
use Rattle.utopist_syntax.specs.declared.item.Bind.{Bind}
use Rattle.utopist_syntax.specs.declared.item.VarKind.{VarKind}
use Rattle.utopist_syntax.specs.declared.item.VarKind.TheVariants.{Numeric, Of}
use Rattle.utopist_syntax.specs.declared.path.Path.{Path}
use Rattle.utopist_syntax.specs.declared.item.Part.{Part}
use Rattle.utopist_syntax.specs.ExprTree.{ExprTree}
use Rattle.utopist_syntax.specs.FileTree.{ItemTree, var, eq, rel}
use Rattle.name_sets.specs.Paths.{texts}
use Rattle.concept_rules.specs.Declarations.{is_among}
use Rattle.canonical_paths.specs.PathNames.{PathNames}
use Rattle.canonical_paths.specs.DeclaredPaths.{paths_in_kind, variable_paths, item_paths, declared_paths}
use Rattle.canonical_paths.specs.LaidOut.{LaidOut}
use Rattle.canonical_paths.specs.steps.Layouts.{inner_paths}
use Rattle.canonical_paths.specs.steps.Fitting.{IsKnownKind}
use Rattle.canonical_paths.specs.steps.Settings.{Setting, IsKindNumber, paths_of_variables, paths_of_items}
use Rattle.canonical_paths.specs.steps.Kinds.{IsKindBelow}
use Rattle.canonical_paths.specs.steps.Ready.{CanBeLaidOut, Reaches, AreVariables, TakesVariables, TakesItems}
use Rattle.canonical_paths.proofs.FittingItems.{known_in}

pub own_name : (ns : List Named) (n : Named) → Contains ns n → is_among n.text (texts ns) ≡ true
own_name [] n h = absurd (contains_none n h)
own_name (m ∷ ns) n h =
    ⊎_elim
    (λ e. or_left (bytes_eq n.text m.text) (is_among n.text (texts ns)) ((bytes_eq-Decides n.text m.text).1 (ap (λ (k : Named). k.text) (sym e))))
    (λ k. or_right (bytes_eq n.text m.text) (is_among n.text (texts ns)) (own_name ns n k))
    (contains_cases m ns n h)

-- the paths inside of a type by its name, and by its number
pub kind_paths : (s : Setting) (layouts : List LaidOut) (kind : VarKind) (concept : Option ℕ) → IsKindNumber s layouts kind concept → paths_in_kind (declared_paths s.earlier) kind ≡ inner_paths s.lists concept
kind_paths s layouts Numeric None k = refl
kind_paths s layouts Numeric (Some c) k = absurd k
kind_paths s layouts (Of type) None k = absurd k
kind_paths s layouts (Of type) (Some c) k = sym k.paths

-- the paths of variables, by the name of their type and by its number
variables_paths : (s : Setting) (layouts : List LaidOut) (variables : List Named) (kind : VarKind) (concept : Option ℕ) → ((n : Named) → Contains variables n → IsKindNumber s layouts kind concept) → paths_of_variables s concept variables ≡ flat_map (λ n. variable_paths (paths_in_kind (declared_paths s.earlier) kind) n.text) variables
variables_paths s layouts [] kind concept number = refl
variables_paths s layouts (n ∷ variables) kind concept number =
    ap (λ (inner : List PathNames). flat_map (λ m. variable_paths inner m.text) (n ∷ variables)) (sym (kind_paths s layouts kind concept (number n (contains_here n variables))))

one_item : (s : Setting) (before : List ItemTree) (i : ItemTree) → paths_of_items s (before ++ i ∷ []) ≡ paths_of_items s before ++ item_paths (declared_paths s.earlier) i
one_item s before i =
    flat_map-append (item_paths (declared_paths s.earlier)) before (i ∷ [])
    ∙ ap (λ (ps : List PathNames). paths_of_items s before ++ ps) (append-nil (item_paths (declared_paths s.earlier) i))

pub takes_item : (names : List (List ℕ)) (layouts : List LaidOut) (old new : LaidOut) (variables : List Named) (kind : VarKind) (binds : List Bind) (concept : Option ℕ) → ((s : Setting) → CanBeLaidOut s names layouts → IsKnownKind s.earlier kind → IsKindBelow names (length layouts) kind concept) → TakesVariables layouts old new variables concept binds → TakesItems names layouts old new (var variables kind binds ∷ [])
takes_item names layouts old new variables kind binds concept number taken s before rest ready e h =
    let here : Contains s.items (var variables kind binds) = subst (λ (is : List ItemTree). Contains is (var variables kind binds)) (sym e) (Contains-append_right before (var variables kind binds ∷ rest) (var variables kind binds) (contains_here (var variables kind binds) rest)) in
    let below = number s ready (known_in s.earlier [] s.items ready.fit variables kind binds here) in
    let are : AreVariables s names layouts before [] variables concept binds = record {
      more = [];
      kind = kind;
      rest = rest;
      are = subst (λ (ns : List Named). s.items ≡ before ++ var ns kind binds ∷ rest) (sym (append-nil variables)) e;
      number = below;
    } in
    let same : paths_of_variables s concept variables ≡ item_paths (declared_paths s.earlier) (var variables kind binds) =
    variables_paths s layouts variables kind concept
    (λ n own. ready.laid.kinds (var variables kind binds) (record { kind = kind; binds = binds }) n.text concept here refl (own_name variables n own) below.named) in
    subst (λ (ps : List PathNames). Reaches s names layouts ps new)
    (ap (λ (ps : List PathNames). paths_of_items s before ++ ps) same ∙ sym (one_item s before (var variables kind binds)))
    (taken s names before [] ready are (subst (λ (ps : List PathNames). Reaches s names layouts ps old) (sym (append-nil (paths_of_items s before))) h))

-- an item without variables
takes_without : (names : List (List ℕ)) (layouts : List LaidOut) (l : LaidOut) (i : ItemTree) → ((inside : List ℕ → List PathNames) → item_paths inside i ≡ []) → TakesItems names layouts l l (i ∷ [])
takes_without names layouts l i none s before rest ready e h =
    subst (λ (ps : List PathNames). Reaches s names layouts ps l)
    (sym (one_item s before i ∙ ap (λ (ps : List PathNames). paths_of_items s before ++ ps) (none (declared_paths s.earlier)) ∙ append-nil (paths_of_items s before))) h

pub takes_equation : (names : List (List ℕ)) (layouts : List LaidOut) (l : LaidOut) (i : ItemTree) → (left right : ExprTree) → i ≡ eq left right → TakesItems names layouts l l (i ∷ [])
takes_equation names layouts l i left right e = takes_without names layouts l i (λ inside. ap (item_paths inside) e)

pub takes_relation : (names : List (List ℕ)) (layouts : List LaidOut) (l : LaidOut) (i : ItemTree) → (name : Named) (parts : List Part) (output : Path) (body : Option ExprTree) → i ≡ rel name parts output body → TakesItems names layouts l l (i ∷ [])
takes_relation names layouts l i name parts output body e = takes_without names layouts l i (λ inside. ap (item_paths inside) e)

pub takes_nothing : (names : List (List ℕ)) (layouts : List LaidOut) (l : LaidOut) → TakesItems names layouts l l []
takes_nothing names layouts l s before rest ready e h = subst (λ (is : List ItemTree). Reaches s names layouts (paths_of_items s is) l) (sym (append-nil before)) h

pub takes_more : (names : List (List ℕ)) (layouts : List LaidOut) (old mid new : LaidOut) (is more : List ItemTree) → TakesItems names layouts old mid is → TakesItems names layouts mid new more → TakesItems names layouts old new (is ++ more)
takes_more names layouts old mid new is more first last s before rest ready e h =
    let one : s.items ≡ before ++ (is ++ (more ++ rest)) = e ∙ ap (λ (js : List ItemTree). before ++ js) (append_assoc is more rest) in
    let two : s.items ≡ (before ++ is) ++ (more ++ rest) = one ∙ sym (append_assoc before is (more ++ rest)) in
    subst (λ (js : List ItemTree). Reaches s names layouts (paths_of_items s js) new) (append_assoc before is more)
    (last s (before ++ is) rest ready two (first s before (more ++ rest) ready one h))
