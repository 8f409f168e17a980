-- A layout that covers all items of a concept.
use Rattle.std.proofs.Common.{◌≡◌, ℕ, ◌<◌, List, [], ◌∷◌, ◌++◌, Option, Some, map, length, take, get_or, ◌+◌, refl, sym, ap, ◌∙◌, subst, append-nil, arith}
use Rattle.std.specs.Prelude.{if◌then◌else◌, reverse, slice_get, option_map, All}
use Rattle.std.specs.Option.{option_map_or}
use Rattle.std.proofs.lemmas.Grind.{flat_map-append}
use Rattle.std.specs.List.{flat_map}
use Rattle.std.proofs.lemmas.List.Elements.{All-append, All-push}
use Rattle.std.proofs.lemmas.Option.{slice_get_within, slice_get-map, slice_get-get_or, none-some}
use Rattle.std.proofs.lemmas.Slice.Eq.{bytes_eq-Decides}
use Rattle.utopist_syntax.specs.declared.concept.Concept.{Concept}
use Rattle.utopist_syntax.specs.FileTree.{ItemTree, ConceptTree, item_tree, concept_tree}
use Rattle.canonical_paths.specs.PathNames.{PathNames}
use Rattle.canonical_paths.specs.Canonical.{items_behind, canonical_behind, canonical_path}
use Rattle.canonical_paths.specs.DeclaredPaths.{item_paths, declared_paths}
use Rattle.canonical_paths.specs.Tables.{IsTable}
use Rattle.canonical_paths.specs.LaidOut.{LaidOut}
use Rattle.canonical_paths.specs.steps.Layouts.{no_variables, IsLayout}
use Rattle.canonical_paths.specs.steps.Settings.{Setting, items_of_line, CoversConcept}
use Rattle.canonical_paths.specs.steps.Ready.{Reaches, AreReady, ItemsNext, TakesItems, CoversAll}
use Rattle.canonical_paths.proofs.Elements.{heads, tails, take_next, split_index}
use Rattle.canonical_paths.proofs.NextItems.{next_items}

-- the items of one more concept of a line
pub line_more : (concepts : List Concept) (line : List ℕ) (k n d : ℕ) (c : Concept) → k < length line → n ≡ get_or line k d → slice_get concepts n ≡ Some c → items_of_line (map concept_tree concepts) (take k line) ++ map item_tree c.items ≡ items_of_line (map concept_tree concepts) (take (k + 1) line)
line_more concepts line k n d c h e at =
    let f : ℕ → List ItemTree = λ m. option_map_or (λ (t : ConceptTree). t.items) (slice_get (map concept_tree concepts) m) [] in
    let own : f n ≡ map item_tree c.items = ap (λ (o : Option ConceptTree). option_map_or (λ (t : ConceptTree). t.items) o []) (slice_get-map concept_tree concepts n ∙ ap (option_map concept_tree) at) in
    ap (λ (is : List ItemTree). flat_map f (take k line) ++ is) (sym (append-nil (f n) ∙ own))
    ∙ sym (flat_map-append f (take k line) (n ∷ []))
    ∙ ap (flat_map f) (sym (take_next line k n d h e))

-- no variable has no path
pub nothing_laid_out : (concepts : List (List PathNames)) → IsLayout concepts [] no_variables
nothing_laid_out concepts = record {
  count = refl;
  size = refl;
  begin = λ n q e. absurd (none-some q e);
  each = λ name s h. absurd (none-some name h.name_is);
}

-- it is where each concept begins
pub nothing_reached : (s : Setting) (names : List (List ℕ)) (layouts : List LaidOut) → Reaches s names layouts [] no_variables
nothing_reached s names layouts = record {
  covers = record { layout = nothing_laid_out s.lists; table = refl };
  kinds = λ name slot h. absurd (none-some name h.name_is);
}

pub covers_all : (names : List (List ℕ)) (layouts : List LaidOut) (items : List ItemTree) (l : LaidOut) → TakesItems names layouts no_variables l items → CoversAll names layouts items l
covers_all names layouts items l taken s ready e =
    taken s [] [] ready (e ∙ sym (append-nil items))
    (nothing_reached s names layouts)

-- the items of the next concept of a line
module _ (names : List (List ℕ)) (layouts : List LaidOut) (concepts : List Concept) (line : List ℕ) (k d : ℕ) (c e : Concept) (within : k < length line) (below : All (λ n. n < length concepts) line) (is : c ≡ get_or concepts (get_or line k d) e) where
  concept_there : slice_get concepts (get_or line k d) ≡ Some c
  concept_there = slice_get-get_or concepts (get_or line k d) e (below k d within) ∙ ap (λ (x : Concept). Some x) (sym is)

  pub line_step : items_of_line (map concept_tree concepts) (take k line) ++ map item_tree c.items ≡ items_of_line (map concept_tree concepts) (take (k + 1) line)
  line_step = line_more concepts line k (get_or line k d) d c within refl concept_there

  pub next_of_line : (l : LaidOut) → AreReady names layouts (items_of_line (map concept_tree concepts) line) → TakesItems names layouts no_variables l (items_of_line (map concept_tree concepts) (take k line)) → ItemsNext names layouts l (map item_tree c.items)
  next_of_line l ready taken =
      let f : ℕ → List ItemTree = λ m. option_map_or (λ (t : ConceptTree). t.items) (slice_get (map concept_tree concepts) m) [] in
      let split = split_index line k (get_or line k d) d within refl in
      let own : f (get_or line k d) ≡ map item_tree c.items = ap (λ (o : Option ConceptTree). option_map_or (λ (t : ConceptTree). t.items) o []) (slice_get-map concept_tree concepts (get_or line k d) ∙ ap (option_map concept_tree) concept_there) in
      let parts : items_of_line (map concept_tree concepts) line ≡ flat_map f (take k line) ++ (map item_tree c.items ++ flat_map f split.0) =
      ap (flat_map f) split.1 ∙ flat_map-append f (take k line) (get_or line k d ∷ split.0) ∙ ap (λ (is : List ItemTree). flat_map f (take k line) ++ (is ++ flat_map f split.0)) own in
      next_items names layouts no_variables l (items_of_line (map concept_tree concepts) line) (flat_map f (take k line)) (map item_tree c.items) (flat_map f split.0) parts
      (record {
        setting = ready.setting;
        ready = ready.ready;
        before = [];
        rest = [];
        are = ready.are ∙ sym (append-nil (items_of_line (map concept_tree concepts) line));
        reached = nothing_reached ready.setting names layouts;
      }) taken

-- what covers all items of a concept has the concept's declared paths, and their canonical paths
pub whole_concept : (earlier : List ConceptTree) (c : ConceptTree) (lists : List (List PathNames)) (l : LaidOut) → CoversConcept earlier c lists l → IsLayout lists (declared_paths (c ∷ earlier) c.name.text) l × IsTable (canonical_path (c ∷ earlier) c.name.text) (declared_paths (c ∷ earlier) c.name.text) l.table
whole_concept earlier c lists l h =
    let own = (bytes_eq-Decides c.name.text c.name.text).1 refl in
    let all = flat_map (item_paths (declared_paths earlier)) (items_behind earlier c) in
    let paths : all ≡ declared_paths (c ∷ earlier) c.name.text = ap (λ t. if t then all else declared_paths earlier c.name.text) (sym own) in
    let here : PathNames → PathNames = canonical_behind (canonical_path earlier) (reverse (items_behind earlier c)) in
    let table : IsTable (canonical_path (c ∷ earlier) c.name.text) all l.table =
    h.table ∙ ap (λ t. map (λ p. Some (if t then here p else canonical_path earlier c.name.text p)) all) (sym own) in (
      subst (λ (ps : List PathNames). IsLayout lists ps l) paths h.layout,
      subst (λ (ps : List PathNames). IsTable (canonical_path (c ∷ earlier) c.name.text) ps l.table) paths table,
    )

-- its table leads nowhere out of it
pub closed : {X Y : Type 0} (paths : List X) (f : Y → X) (ns : List ℕ) (xs : List Y) → map (slice_get paths) ns ≡ map (λ p. Some (f p)) xs → All (λ (n : ℕ). n < length paths) ns
closed paths f [] xs e = λ k d h. absurd (omega arith)
closed paths f (n ∷ ns) [] e = absurd (cc)
closed paths f (n ∷ ns) (x ∷ xs) e =
    let first = slice_get_within paths n (f x) (heads (slice_get paths n) (Some (f x)) _ _ e) in
    All-append (λ (m : ℕ). m < length paths) (n ∷ []) ns
    (All-push (λ (m : ℕ). m < length paths) [] n (λ k d h. absurd (omega arith)) first)
    (closed paths f ns xs (tails (slice_get paths n) (Some (f x)) _ _ e))

pub whole_is_closed : (earlier : List ConceptTree) (c : ConceptTree) (lists : List (List PathNames)) (l : LaidOut) → CoversConcept earlier c lists l → All (λ (n : ℕ). n < length l.table) l.table
whole_is_closed earlier c lists l h =
    let all = flat_map (item_paths (declared_paths earlier)) (items_behind earlier c) in
    subst (λ (m : ℕ). All (λ (n : ℕ). n < m) l.table) (sym h.layout.size)
    (closed all (canonical_behind (canonical_path earlier) (reverse (items_behind earlier c))) l.table all h.table)
