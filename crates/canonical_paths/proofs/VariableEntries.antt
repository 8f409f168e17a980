-- One more variable of a concept keeps the table of its canonical paths.
use Rattle.std.proofs.Common.{◌≡◌, ◌≢◌, ℕ, List, [], ◌∷◌, ◌++◌, refl, sym, subst, length}
use Rattle.std.specs.Prelude.{All, Option}
use Rattle.std.specs.Option.{option_map_or}
use Rattle.utopist_syntax.specs.FileTree.{ItemTree}
use Rattle.utopist_syntax.specs.declared.item.Bind.{Bind}
use Rattle.canonical_paths.specs.declared.tables.Alias.{Alias}
use Rattle.concept_rules.specs.Declarations.{Variable}
use Rattle.canonical_paths.specs.PathNames.{PathNames}
use Rattle.canonical_paths.specs.Canonical.{rebound, canonical_in_kind, canonical_behind}
use Rattle.canonical_paths.specs.DeclaredPaths.{variable_paths}
use Rattle.canonical_paths.specs.Tables.{IsTable}
use Rattle.canonical_paths.specs.steps.Tables.{component_entries, AllStand}
use Rattle.canonical_paths.specs.steps.Growing.{IsAdded}
use Rattle.canonical_paths.proofs.ComponentEntries.{component_is_table}
use Rattle.canonical_paths.specs.LaidOut.{LaidOut}
use Rattle.canonical_paths.specs.steps.Layouts.{IsLayout, inner_paths, inner_table}
use Rattle.canonical_paths.specs.steps.PathLists.{PathLists, HasGrown, paths_with}
use Rattle.canonical_paths.proofs.GrownLayouts.{layout_grows}
use Rattle.canonical_paths.proofs.OneConcept.{own_is_canonical, inside_is_canonical}

module _ (inside : List ℕ → PathNames → PathNames) (later : List ItemTree) (i : ItemTree) (before : List ItemTree) (name : List ℕ) (v : Variable) (a : IsAdded later i name v) where
  abbrev canon : PathNames → PathNames
  canon = canonical_behind inside (later ++ i ∷ before)

  deep : (r : PathNames) → r ≢ [] → canon (name ∷ r) ≡ option_map_or canon (rebound v.binds (canonical_in_kind inside v.kind r)) (name ∷ canonical_in_kind inside v.kind r)
  deep [] h = absurd (h refl)
  deep (next ∷ rest) h = inside_is_canonical inside later i before name next rest v a.new a.declared a.is a.lead

  pub variable_is_table : (paths inner : List PathNames) (table inner_table : List ℕ) (aliases : List Alias) → IsTable canon paths table → IsTable (canonical_in_kind inside v.kind) inner inner_table → All (λ (p : PathNames). p ≢ []) inner → AllStand paths inner v.binds aliases → IsTable canon (paths ++ variable_paths inner name) (table ++ component_entries table aliases inner_table)
  variable_is_table paths inner table inner_table aliases t u n s =
      component_is_table paths inner canon table t name (canonical_in_kind inside v.kind) canon v.binds aliases s inner_table u refl (own_is_canonical inside (later ++ i ∷ before) name)
      (λ k r l. deep _ (n k r l))

  -- what the code adds for it
  pub grown_is_table : (w : PathLists) (layouts : List LaidOut) (old new : LaidOut) (concept : Option ℕ) → HasGrown w layouts old new name concept v.binds → IsTable (canonical_in_kind inside v.kind) (inner_paths w.concepts concept) (inner_table layouts concept) → All (λ (p : PathNames). p ≢ []) (inner_paths w.concepts concept) → IsTable canon w.paths old.table → IsTable canon (paths_with w name concept) new.table
  grown_is_table w layouts old new concept g u n t =
      subst (λ (x : LaidOut). IsTable canon (paths_with w name concept) x.table) (sym g.more.is)
      (variable_is_table w.paths (inner_paths w.concepts concept) old.table (inner_table layouts concept) g.aliases t u n g.stand)

pub grown_is_layout : (w : PathLists) (layouts : List LaidOut) (old new : LaidOut) (name : List ℕ) (concept : Option ℕ) (binds : List Bind) → HasGrown w layouts old new name concept binds → IsLayout w.concepts w.paths old → length (inner_table layouts concept) ≡ length (inner_paths w.concepts concept) → IsLayout w.concepts (paths_with w name concept) new
grown_is_layout w layouts old new name concept binds g h e =
    subst (λ (x : LaidOut). IsLayout w.concepts (paths_with w name concept) x) (sym g.more.is)
    (layout_grows w.concepts w.paths old name concept g.aliases (inner_table layouts concept) h g.more.fresh e)
