-- One more variable, and one more item, of a concept.
use Rattle.std.proofs.Common.{◌≡◌, ◌≢◌, ℕ, ◌<◌, List, [], ◌∷◌, ◌++◌, Option, Some, None, length, refl, sym, ap, ◌∙◌, subst, append_assoc, append-nil, arith}
use Rattle.std.specs.Prelude.{reverse, All, Contains, IfSome}
use Rattle.std.specs.List.{flat_map}
use Rattle.std.specs.Option.{option_map_or}
use Rattle.std.proofs.lemmas.List.{reverse-append}
use Rattle.std.proofs.lemmas.List.Elements.{Contains-append_left, Contains-append_right, Contains-push}
use Rattle.std.proofs.lemmas.Grind.{flat_map-append}
use Rattle.priz_base.proofs.Members.{contains_here}
use Rattle.utopist_syntax.specs.Named.{Named}
use Rattle.utopist_syntax.specs.declared.item.Bind.{Bind}
use Rattle.utopist_syntax.specs.declared.item.VarKind.{VarKind}
use Rattle.utopist_syntax.specs.declared.item.VarKind.TheVariants.{Numeric, Of}
use Rattle.utopist_syntax.specs.FileTree.{ItemTree}
use Rattle.concept_rules.specs.Declarations.{Variable}
use Rattle.canonical_paths.specs.PathNames.{PathNames}
use Rattle.canonical_paths.specs.Canonical.{canonical_in_kind, canonical_behind, canonical_path}
use Rattle.canonical_paths.specs.DeclaredPaths.{variable_paths}
use Rattle.canonical_paths.specs.Scoped.{AreScoped}
use Rattle.canonical_paths.specs.Tables.{IsTable}
use Rattle.canonical_paths.specs.LaidOut.{LaidOut}
use Rattle.canonical_paths.specs.steps.Layouts.{inner_paths, inner_table}
use Rattle.canonical_paths.specs.steps.PathLists.{PathLists, ForEachLists, HasGrown}
use Rattle.canonical_paths.specs.steps.Settings.{Setting, IsKindNumber, IsLaidOutIn, Declare, Covers}
use Rattle.canonical_paths.proofs.Elements.{there}
use Rattle.canonical_paths.proofs.Scopes.{is_added}
use Rattle.canonical_paths.proofs.Nonempty.{declared_are_some}
use Rattle.canonical_paths.proofs.OneVariable.{inner_size}
use Rattle.canonical_paths.proofs.VariableEntries.{grown_is_table, grown_is_layout}

-- the number of a variable's type is that of an item of the setting
pub kind_number : (s : Setting) (names : List (List ℕ)) (layouts : List LaidOut) (variables : List Named) (concept : Option ℕ) (binds : List Bind) → IsLaidOutIn s names layouts → (d : Declare s names variables concept binds) → (n : Named) → Contains variables n → IsKindNumber s layouts d.kind concept
kind_number s names layouts variables concept binds laid d n own =
    laid.kinds d.item (record { kind = d.kind; binds = binds }) n.text concept
    (subst (λ (is : List ItemTree). Contains is d.item) (sym d.items) (Contains-append_right d.before (d.item ∷ d.rest) d.item (contains_here d.item d.rest)))
    d.is (d.own n own) d.number

-- the table of a type names its canonical paths
kind_table : (s : Setting) (layouts : List LaidOut) (kind : VarKind) (concept : Option ℕ) → IfSome concept (λ c. c < length layouts) → IsKindNumber s layouts kind concept → IsTable (canonical_in_kind (canonical_path s.earlier) kind) (inner_paths s.lists concept) (inner_table layouts concept)
kind_table s layouts Numeric None w k = refl
kind_table s layouts Numeric (Some c) w k = absurd k
kind_table s layouts (Of type) None w k = absurd k
kind_table s layouts (Of type) (Some c) w k =
    let l = there layouts c w in
    let t : l.0.table ≡ inner_table layouts (Some c) = sym (ap (λ (o : Option LaidOut). option_map_or (λ v. v.table) o []) l.1) in
    subst (λ (ns : List ℕ). IsTable (canonical_path s.earlier type.text) (inner_paths s.lists (Some c)) ns) t
    (subst (λ (ps : List PathNames). IsTable (canonical_path s.earlier type.text) ps l.0.table) (sym k.paths) (k.table l.0 l.1))

kind_some : (s : Setting) (layouts : List LaidOut) (kind : VarKind) (concept : Option ℕ) → IsKindNumber s layouts kind concept → All (λ (p : PathNames). p ≢ []) (inner_paths s.lists concept)
kind_some s layouts Numeric None k = λ i d h. absurd (omega arith)
kind_some s layouts Numeric (Some c) k = absurd k
kind_some s layouts (Of type) None k = absurd k
kind_some s layouts (Of type) (Some c) k = subst (λ (ps : List PathNames). All (λ (p : PathNames). p ≢ []) ps) (sym k.paths) (declared_are_some s.earlier type.text)

-- the items of a setting, the latest first, around one of them
pub turned : (items before rest : List ItemTree) (i : ItemTree) → items ≡ before ++ i ∷ rest → reverse items ≡ reverse rest ++ i ∷ reverse before
turned items before rest i e =
    ap reverse e ∙ reverse-append before (i ∷ rest) ∙ ap (λ (is : List ItemTree). is ++ reverse before) (reverse-append (i ∷ []) rest)
    ∙ append_assoc (reverse rest) (i ∷ []) (reverse before)

-- one more variable is covered
module _ (s : Setting) (names : List (List ℕ)) (layouts : List LaidOut) (laid : IsLaidOutIn s names layouts) (variables : List Named) (concept : Option ℕ) (binds : List Bind) (d : Declare s names variables concept binds) (within : IfSome concept (λ c. c < length layouts)) where
  abbrev v : Variable
  v = record { kind = d.kind; binds = binds }

  pub covers_one : (paths : List PathNames) (old new : LaidOut) (n : Named) → Contains variables n → Covers s paths old → ForEachLists layouts old (λ w. HasGrown w layouts old new n.text concept binds) → Covers s (paths ++ variable_paths (inner_paths s.lists concept) n.text) new
  covers_one paths old new n own h grown =
      let w : PathLists = record { concepts = s.lists; paths = paths } in
      let g : HasGrown w layouts old new n.text concept binds = grown w (record { concepts = laid.lists; so_far = h.layout }) in
      let k = kind_number s names layouts variables concept binds laid d n own in
      let t = turned s.items d.before d.rest d.item d.items in
      let a = is_added (reverse d.rest) d.item (reverse d.before) n.text v (subst AreScoped t laid.scoped) (d.own n own) d.is in
      record {
        layout = grown_is_layout w layouts old new n.text concept binds g h.layout (inner_size s.lists layouts concept laid.lists within);
        table =
            subst (λ (is : List ItemTree). IsTable (canonical_behind (canonical_path s.earlier) is) (paths ++ variable_paths (inner_paths s.lists concept) n.text) new.table) (sym t)
            (grown_is_table (canonical_path s.earlier) (reverse d.rest) d.item (reverse d.before) n.text v a w layouts old new concept g
            (kind_table s layouts d.kind concept within k) (kind_some s layouts d.kind concept k)
            (subst (λ (is : List ItemTree). IsTable (canonical_behind (canonical_path s.earlier) is) paths old.table) t h.table));
      }
