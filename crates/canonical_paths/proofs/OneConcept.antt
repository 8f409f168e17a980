-- Canonical paths of one concept: what a binding puts in the place of a path is canonical where it stands as a path of the whole concept.
use Rattle.std.proofs.Common.{◌≡◌, ℕ, List, [], ◌∷◌, ◌++◌, Bool, true, false, Option, Some, None, length, refl, sym, ap, ◌∙◌, append_assoc}
use Rattle.std.specs.Prelude.{if◌then◌else◌, fold, drop, ⊤}
use Rattle.std.specs.Option.{option_map_or}
use Rattle.utopist_syntax.specs.declared.item.Bind.{Bind}
use Rattle.utopist_syntax.specs.FileTree.{ItemTree}
use Rattle.concept_rules.specs.Declarations.{is_among, declared, is_declared, Variable, variable_of}
use Rattle.name_sets.specs.Paths.{is_prefix}
use Rattle.canonical_paths.specs.PathNames.{PathNames, names_in}
use Rattle.canonical_paths.specs.steps.Growing.{LeadsPast, AllLeadPast}
use Rattle.canonical_paths.specs.Canonical.{rebind, rebound, canonical_in_kind, behind_variable, canonical_behind}
use Rattle.canonical_paths.proofs.DeclaredBy.{Undeclared, undeclared}

module _ (inside : List ℕ → PathNames → PathNames) where
  -- items that don't declare the first name of a path have no part in its canonical path
  skip : (later before : List ItemTree) (name : List ℕ) (path : PathNames) → Undeclared name later → canonical_behind inside (later ++ before) (name ∷ path) ≡ canonical_behind inside before (name ∷ path)
  skip [] before name path h = refl
  skip (i ∷ later) before name [] h = sym (single before name)
    where
      single : (items : List ItemTree) (n : List ℕ) → canonical_behind inside items (n ∷ []) ≡ n ∷ []
      single [] n = refl
      single (j ∷ items) n = refl
  skip (i ∷ later) before name (next ∷ path) h =
      ap (λ t. if t then behind_variable inside (canonical_behind inside (later ++ before)) name (variable_of i) (next ∷ path) else canonical_behind inside (later ++ before) (name ∷ next ∷ path)) h.0
      ∙ skip later before name (next ∷ path) h.1

  -- what was found among such bindings begins so too
  abbrev Found : List ItemTree → Option PathNames → Type 0
  Found items None = ⊤
  Found items (Some p) = (first : List ℕ) × ((rest : PathNames) × ((p ≡ first ∷ rest) × Undeclared first items))

  found_one : (items : List ItemTree) (q : PathNames) (found : Option PathNames) (b : Bind) → LeadsPast items b → Found items found → Found items (rebind q found b)
  found_one items q found b h k = by (is_prefix (names_in b.left) q)
    where
      by : (t : Bool) → Found items (if t then Some (names_in b.right ++ drop (length (names_in b.left)) q) else found)
      by true = (h.first, (h.rest ++ drop (length (names_in b.left)) q, (ap (λ r. r ++ drop (length (names_in b.left)) q) h.is, undeclared items h.first h.earlier)))
      by false = k

  found_all : (items : List ItemTree) (q : PathNames) (found : Option PathNames) (binds : List Bind) → AllLeadPast items binds → Found items found → Found items (fold (rebind q) found binds)
  found_all items q found [] h k = k
  found_all items q found (b ∷ binds) h k = found_all items q (rebind q found b) binds h.1 (found_one items q found b h.0 k)

  -- the canonical path of one that begins behind some items is that behind all of them
  of_whole : (later before : List ItemTree) (found : Option PathNames) (other : PathNames) → Found later found → option_map_or (canonical_behind inside before) found other ≡ option_map_or (canonical_behind inside (later ++ before)) found other
  of_whole later before None other h = refl
  of_whole later before (Some p) other h =
      ap (canonical_behind inside before) h.1.1.0
      ∙ sym (skip later before h.0 h.1.0 h.1.1.1)
      ∙ ap (canonical_behind inside (later ++ before)) (sym h.1.1.0)

  -- a variable's own path
  pub own_is_canonical : (items : List ItemTree) (name : List ℕ) → canonical_behind inside items (name ∷ []) ≡ name ∷ []
  own_is_canonical [] name = refl
  own_is_canonical (i ∷ items) name = refl

  -- a path inside a variable
  pub inside_is_canonical : (later : List ItemTree) (i : ItemTree) (before : List ItemTree) (name next : List ℕ) (rest : PathNames) (v : Variable) → is_declared later name ≡ false → is_among name (declared i) ≡ true → variable_of i ≡ Some v → AllLeadPast (later ++ i ∷ []) v.binds → canonical_behind inside (later ++ i ∷ before) (name ∷ next ∷ rest) ≡ option_map_or (canonical_behind inside (later ++ i ∷ before)) (rebound v.binds (canonical_in_kind inside v.kind (next ∷ rest))) (name ∷ canonical_in_kind inside v.kind (next ∷ rest))
  inside_is_canonical later i before name next rest v u d e b =
      let q = canonical_in_kind inside v.kind (next ∷ rest) in
      skip later (i ∷ before) name (next ∷ rest) (undeclared later name u)
      ∙ ap (λ t. if t then behind_variable inside (canonical_behind inside before) name (variable_of i) (next ∷ rest) else canonical_behind inside before (name ∷ next ∷ rest)) d
      ∙ ap (λ w. behind_variable inside (canonical_behind inside before) name w (next ∷ rest)) e
      ∙ of_whole (later ++ i ∷ []) before (rebound v.binds q) (name ∷ q) (found_all (later ++ i ∷ []) q None v.binds b tt)
      ∙ ap (λ items. option_map_or (canonical_behind inside items) (rebound v.binds q) (name ∷ q)) (append_assoc later (i ∷ []) before)
