-- A concept that can be laid out, and how far it is.
use Rattle.std.specs.Prelude.{◌≡◌, ◌≤◌, ◌<◌, ◌^◌, ℕ, List, [], ◌∷◌, ◌++◌, true, Contains, Option, Some, length, slice_get, ⊤}
use Rattle.utopist_syntax.specs.Named.{Named}
use Rattle.utopist_syntax.specs.declared.item.Bind.{Bind}
use Rattle.utopist_syntax.specs.declared.item.VarKind.{VarKind}
use Rattle.utopist_syntax.specs.declared.item.VarKind.TheVariants.{Numeric, Of}
use Rattle.utopist_syntax.specs.FileTree.{ItemTree, var}
use Rattle.concept_rules.specs.Declarations.{is_among}
use Rattle.concept_rules.specs.Lineage.{concept_names}
use Rattle.concept_rules.specs.Kinds.{kind_along, kind_of_path, is_same_kind}
use Rattle.canonical_paths.specs.PathNames.{PathNames, names_in}
use Rattle.canonical_paths.specs.DeclaredPaths.{declared_paths}
use Rattle.canonical_paths.specs.Limits.{max_declared}
use Rattle.canonical_paths.specs.steps.Fitting.{AllFit, AreSound}
use Rattle.canonical_paths.specs.steps.Kinds.{IsKindBelow, HaveKinds, AreTyped}
use Rattle.canonical_paths.specs.LaidOut.{LaidOut}
use Rattle.canonical_paths.specs.steps.Layouts.{inner_paths}
use Rattle.canonical_paths.specs.steps.Settings.{Setting, IsLaidOutIn, Covers, paths_of_items, paths_of_variables}

-- the name stands at a number below this one
pub record StandsBelow (names : List (List ℕ)) (count : ℕ) (name : List ℕ) : Type 0 where
  pub number : ℕ
  pub is : slice_get names number ≡ Some name
  pub below : number < count

-- so does the name of a component's type
abbrev pub KindStands : List (List ℕ) → ℕ → VarKind → Type 0
KindStands names count Numeric = ⊤
KindStands names count (Of type) = StandsBelow names count type.text

-- no name stands twice
abbrev pub StandOnce : List (List ℕ) → Type 0
StandOnce names =
    (name : List ℕ) (n m : ℕ)
    → slice_get names n ≡ Some name → slice_get names m ≡ Some name → n ≡ m

-- none of the layouts has more paths than may be
abbrev pub AreSmall : List LaidOut → Type 0
AreSmall layouts =
    (c : ℕ) (l : LaidOut) → slice_get layouts c ≡ Some l → length l.table ≤ max_declared

-- these are layouts of the concepts before one whose items fit, and it has no more paths than
-- may be
pub record CanBeLaidOut (s : Setting) (names : List (List ℕ)) (layouts : List LaidOut) : Type 0 where
  pub laid : IsLaidOutIn s names layouts
  pub sound : AreSound s.earlier
  pub fit : AllFit s.earlier [] s.items
  pub once : StandOnce names
  pub known :
      (name : List ℕ)
      → is_among name (concept_names s.earlier) ≡ true → StandsBelow names (length layouts) name
  pub typed : AreTyped names s.earlier layouts
  pub complete : length s.lists ≤ length layouts
  pub numbers : length layouts ≤ 2 ^ 32
  pub small : AreSmall layouts
  pub room : length (paths_of_items s s.items) ≤ max_declared

-- a layout covers these paths of it, and has the types of their variables
pub record Reaches
    (s : Setting) (names : List (List ℕ)) (layouts : List LaidOut) (paths : List PathNames)
    (l : LaidOut) : Type 0 where
  pub covers : Covers s paths l
  pub kinds : HaveKinds names (length layouts) s.items l

-- a layout covers these items too, where it covers those before them
abbrev pub TakesItems : List (List ℕ) → List LaidOut → LaidOut → LaidOut → List ItemTree → Type 0
TakesItems names layouts old new items =
    (s : Setting) (before rest : List ItemTree)
    → CanBeLaidOut s names layouts → s.items ≡ before ++ (items ++ rest)
    → Reaches s names layouts (paths_of_items s before) old
    → Reaches s names layouts (paths_of_items s (before ++ items)) new

-- a layout covers all items of a setting, where these are they
abbrev pub CoversAll : List (List ℕ) → List LaidOut → List ItemTree → LaidOut → Type 0
CoversAll names layouts items l =
    (s : Setting)
    → CanBeLaidOut s names layouts → s.items ≡ items
    → Reaches s names layouts (paths_of_items s items) l

-- these are all items of a concept that is ready
pub record AreReady (names : List (List ℕ)) (layouts : List LaidOut) (items : List ItemTree)
    : Type 0 where
  pub setting : Setting
  pub ready : CanBeLaidOut setting names layouts
  pub are : setting.items ≡ items

-- these items come next in a concept that is ready
pub record ItemsNext
    (names : List (List ℕ)) (layouts : List LaidOut) (so_far : LaidOut) (items : List ItemTree)
    : Type 0 where
  pub setting : Setting
  pub ready : CanBeLaidOut setting names layouts
  pub before : List ItemTree
  pub rest : List ItemTree
  pub are : setting.items ≡ before ++ (items ++ rest)
  pub reached : Reaches setting names layouts (paths_of_items setting before) so_far

-- variables of an item behind these items, which is one of the setting
pub record AreVariables
    (s : Setting) (names : List (List ℕ)) (layouts : List LaidOut) (before : List ItemTree)
    (done variables : List Named) (concept : Option ℕ) (binds : List Bind) : Type 0 where
  pub more : List Named
  pub kind : VarKind
  pub rest : List ItemTree
  pub are : s.items ≡ before ++ var (done ++ (variables ++ more)) kind binds ∷ rest
  pub number : IsKindBelow names (length layouts) kind concept

-- the paths of items, and of variables of one more
abbrev pub paths_behind :
    Setting → List ItemTree → Option ℕ → List Named → List PathNames
paths_behind s before concept done =
    paths_of_items s before ++ paths_of_variables s concept done

-- a layout covers these variables too, where it covers what is before them
abbrev pub TakesVariables :
    List LaidOut → LaidOut → LaidOut → List Named → Option ℕ → List Bind → Type 0
TakesVariables layouts old new variables concept binds =
    (s : Setting) (names : List (List ℕ)) (before : List ItemTree) (done : List Named)
    → CanBeLaidOut s names layouts
    → AreVariables s names layouts before done variables concept binds
    → Reaches s names layouts (paths_behind s before concept done) old
    → Reaches s names layouts (paths_behind s before concept (done ++ variables)) new

-- these variables come next in a concept that is ready
pub record VariablesNext
    (layouts : List LaidOut) (so_far : LaidOut) (variables : List Named) (concept : Option ℕ)
    (binds : List Bind) : Type 0 where
  pub names : List (List ℕ)
  pub setting : Setting
  pub ready : CanBeLaidOut setting names layouts
  pub before : List ItemTree
  pub done : List Named
  pub are : AreVariables setting names layouts before done variables concept binds
  pub reached : Reaches setting names layouts (paths_behind setting before concept done) so_far

-- a binding of components of this type: both sides are known and have one type, and the right one
-- is one of these paths
pub record IsBindable (s : Setting) (paths : List PathNames) (kind : VarKind) (b : Bind)
    : Type 0 where
  pub left : VarKind
  pub right : VarKind
  pub left_is : kind_along s.earlier kind b.left.parts ≡ Some left
  pub right_is : kind_of_path s.earlier s.items b.right.parts ≡ Some right
  pub same : is_same_kind left right ≡ true
  pub known : Contains paths (names_in b.right)

-- so are the bindings of a component of the concept of this number, which comes next
pub record BindsNext
    (layouts : List LaidOut) (so_far : LaidOut) (concept : ℕ) (binds : List Bind) : Type 0 where
  pub names : List (List ℕ)
  pub setting : Setting
  pub ready : CanBeLaidOut setting names layouts
  pub paths : List PathNames
  pub reached : Reaches setting names layouts paths so_far
  pub few : length paths ≤ max_declared
  pub type : Named
  pub number : slice_get names concept ≡ Some type.text
  pub inside : inner_paths setting.lists (Some concept) ≡ declared_paths setting.earlier type.text
  pub bindable :
      (b : Bind) → Contains binds b → IsBindable setting paths (Of type) b

-- the name stands once among these, at a number of 32 bits
pub record IsNumbered (names : List (List ℕ)) (name : List ℕ) : Type 0 where
  pub stands : StandsBelow names (2 ^ 32) name
  pub once : StandOnce names

-- so does the name of a component's type
abbrev pub HasNumber : List (List ℕ) → VarKind → Type 0
HasNumber names Numeric = ⊤
HasNumber names (Of type) = IsNumbered names type.text
