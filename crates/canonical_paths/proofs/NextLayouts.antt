-- One more layout of the concepts of a file.
use Rattle.std.proofs.Common.{◌≡◌, ◌^◌, ℕ, zero, suc, ◌+◌, ◌<◌, ◌≤◌, Bool, true, false, List, [], ◌∷◌, ◌++◌, ◌⊎◌, inl, inr, Option, Some, None, Ok, IfSome, map, length, refl, sym, ap, ◌∙◌, subst, ⊎_elim, length-append, arith}
use Rattle.std.specs.Prelude.{if◌then◌else◌, reverse, slice_get, unwrap_or, Contains, All, IfOk, Result, Err}
use Rattle.std.specs.List.{flat_map}
use Rattle.std.proofs.lemmas.Option.{slice_get_within, slice_get-map, same_Some, none-some}
use Rattle.std.proofs.lemmas.List.{length-map}
use Rattle.std.proofs.lemmas.Slice.Eq.{bytes_eq-Decides}
use Rattle.priz_base.proofs.Members.{contains_none}
use Rattle.name_sets.proofs.Places.{at_push}
use Rattle.utopist_syntax.specs.Named.{Named}
use Rattle.utopist_syntax.specs.declared.item.VarKind.{VarKind}
use Rattle.utopist_syntax.specs.declared.item.VarKind.TheVariants.{Numeric, Of}
use Rattle.utopist_syntax.specs.FileTree.{ItemTree, ConceptTree}
use Rattle.concept_rules.specs.Declarations.{is_among, declared, Variable, variable_of}
use Rattle.concept_rules.specs.Lineage.{concept_names, effective_items}
use Rattle.concept_rules.specs.Lineages.{Lines, AreLineages}
use Rattle.concept_rules.specs.ConceptRules.{concepts_fault}
use Rattle.canonical_paths.specs.declared.slot.Slot.{Slot}
use Rattle.canonical_paths.specs.PathNames.{PathNames}
use Rattle.canonical_paths.specs.Canonical.{items_behind, canonical_path}
use Rattle.canonical_paths.specs.DeclaredPaths.{item_paths, declared_paths}
use Rattle.canonical_paths.specs.Limits.{max_declared}
use Rattle.canonical_paths.specs.Blocks.{IsBlock}
use Rattle.canonical_paths.specs.Tables.{IsTable}
use Rattle.canonical_paths.specs.LaidOut.{LaidOut}
use Rattle.canonical_paths.specs.Components.{effective_in, declared_in, canonical_in, HasFewPaths, HasComponent}
use Rattle.canonical_paths.specs.Layouts.{AreLaidOut}
use Rattle.canonical_paths.specs.steps.Layouts.{no_variables, HasSlot, IsLayout, AreLayouts, inner_paths}
use Rattle.canonical_paths.specs.steps.PathLists.{AreClosed}
use Rattle.canonical_paths.specs.steps.Kinds.{IsKindNamed, IsKindBelow, HasKind, HaveKinds, AreTyped}
use Rattle.canonical_paths.specs.steps.Settings.{Setting, IsNumberOf, IsKindNumber, IsLaidOutIn, items_of_line, setting_of, CoversConcept}
use Rattle.canonical_paths.specs.steps.Ready.{AreSmall, CanBeLaidOut, Reaches, AreReady, CoversAll}
use Rattle.canonical_paths.specs.steps.AllLayouts.{HaveAllLayouts}
use Rattle.canonical_paths.specs.steps.Marks.{marked, IsMarked, AreMarked}
use Rattle.canonical_paths.proofs.Elements.{there, get_left}
use Rattle.canonical_paths.proofs.WholeConcepts.{whole_concept, whole_is_closed, nothing_laid_out}
use Rattle.canonical_paths.proofs.ConceptNumbers.{Standing, standing, fitted, sound_here, sound_earlier, scoped_here, items_here, paths_here, canonical_here, stands_earlier, among_earlier, items_earlier, paths_earlier, canonical_earlier, names_stand_once, names_number, is_named, name_at}
use Rattle.canonical_paths.proofs.MarkedConcepts.{is_among_marked, is_marked, component_is_earlier, component_of, line_is_whole}

-- a table of other names for the same paths
same_each : (f g : PathNames → PathNames) (ps : List PathNames) → ((p : PathNames) → f p ≡ g p) → map (λ p. Some (f p)) ps ≡ map (λ p. Some (g p)) ps
same_each f g [] h = refl
same_each f g (p ∷ ps) h =
    ap (λ (q : PathNames). Some q ∷ map (λ p. Some (f p)) ps) (h p) ∙ ap (λ (qs : List (Option PathNames)). Some (g p) ∷ qs) (same_each f g ps h)

pub table_again : (f g : PathNames → PathNames) (ps qs : List PathNames) (table : List ℕ) → ((p : PathNames) → f p ≡ g p) → ps ≡ qs → IsTable f ps table → IsTable g qs table
table_again f g ps qs table h e t = subst (λ (rs : List PathNames). IsTable g rs table) e (t ∙ same_each f g ps h)

-- more concepts change nothing inside of a variable
module _ (lists more : List (List PathNames)) where
  inner_stays : (concept : Option ℕ) → IfSome concept (λ c. c < length lists) → inner_paths lists concept ≡ inner_paths (lists ++ more) concept
  inner_stays None h = refl
  inner_stays (Some c) h =
      let l = there lists c h in
      ap (λ (o : Option (List PathNames)). unwrap_or o []) l.1
      ∙ ap (λ (o : Option (List PathNames)). unwrap_or o []) (sym (get_left lists more c l.0 l.1))

  layout_stays : (ps : List PathNames) (l : LaidOut) → ((name : List ℕ) (s : Slot) → HasSlot l name s → IfSome s.concept (λ c. c < length lists)) → IsLayout lists ps l → IsLayout (lists ++ more) ps l
  layout_stays ps l below h = record {
    count = h.count;
    size = h.size;
    begin = h.begin;
    each = λ name s k. subst (λ (inner : List PathNames). IsBlock ps s.at (name ∷ []) inner) (inner_stays s.concept (below name s k)) (h.each name s k);
  }

below_more : (count more : ℕ) (concept : Option ℕ) → count ≤ more → IfSome concept (λ c. c < count) → IfSome concept (λ c. c < more)
below_more count more None w h = tt
below_more count more (Some c) w h = omega (arith, w, h)

kinds_more : (names : List (List ℕ)) (count more : ℕ) (items : List ItemTree) (l : LaidOut) → count ≤ more → HaveKinds names count items l → HaveKinds names more items l
kinds_more names count more items l w h name s k =
    let own = h name s k in
    record { own = own.own; is = own.is; number = record { named = own.number.named; below = below_more count more s.concept w own.number.below } }

module _ (all : List ConceptTree) (reached : List ℕ) (layouts : List LaidOut) (h : HaveAllLayouts all reached layouts) (within : length layouts < length all) where
  abbrev n : ℕ
  n = length layouts

  -- slots lead to layouts
  slots_below : (k : ℕ) (l : LaidOut) → slice_get layouts k ≡ Some l → (name : List ℕ) (s : Slot) → HasSlot l name s → IfSome s.concept (λ c. c < length h.lists)
  slots_below k l is name s g =
      let w = slice_get_within layouts k l is in
      let c = there all k (omega (arith, w, within)) in
      let below = (h.typed k l c.0.name.text is (name_at all k c.0 c.1) name s g).number.below in
      subst (λ (m : ℕ). IfSome s.concept (λ d. d < m)) (sym h.count) below

  -- one more
  module _ (l : LaidOut) (ps : List PathNames) (layout : IsLayout h.lists ps l) (kinds : (c : ConceptTree) → slice_get all n ≡ Some c → HaveKinds (concept_names all) n (effective_in all c) l) (paths : (c : ConceptTree) → Contains reached n → slice_get all n ≡ Some c → ps ≡ declared_in all c) (table : (c : ConceptTree) → Contains reached n → slice_get all n ≡ Some c → IsTable (canonical_in all c) (declared_in all c) l.table) (few : length l.table ≤ max_declared) (ends : All (λ (k : ℕ). k < length l.table) l.table) where
    abbrev lists : List (List PathNames)
    lists = h.lists ++ ps ∷ []

    abbrev more : List LaidOut
    more = layouts ++ l ∷ []

    long : length more ≡ n + 1
    long = length-append layouts (l ∷ [])

    own_below : (name : List ℕ) (s : Slot) → HasSlot l name s → IfSome s.concept (λ c. c < length h.lists)
    own_below name s g =
        let c = there all n within in
        subst (λ (m : ℕ). IfSome s.concept (λ d. d < m)) (sym h.count) (kinds c.0 c.1 name s g).number.below

    list_at : (k : ℕ) (x : LaidOut) → slice_get layouts k ≡ Some x → unwrap_or (slice_get h.lists k) [] ≡ unwrap_or (slice_get lists k) []
    list_at k x is =
        let w = slice_get_within layouts k x is in
        let p = there h.lists k (omega (arith, w, h.count)) in
        ap (λ (o : Option (List PathNames)). unwrap_or o []) p.1 ∙ ap (λ (o : Option (List PathNames)). unwrap_or o []) (sym (get_left h.lists (ps ∷ []) k p.0 p.1))

    new_list : slice_get lists n ≡ Some ps
    new_list = at_end h.lists n h.count
      where
        at_end : (xs : List (List PathNames)) (k : ℕ) → length xs ≡ k → slice_get (xs ++ ps ∷ []) k ≡ Some ps
        at_end [] zero e = refl
        at_end [] (suc k) e = absurd (omega (arith, e))
        at_end (x ∷ xs) zero e = absurd (omega (arith, e))
        at_end (x ∷ xs) (suc k) e = at_end xs k (omega (arith, e))

    are_layouts : AreLayouts lists more
    are_layouts k x is = ⊎_elim (λ g. old g) (λ g. new g.0 g.1) (at_push layouts l x k is)
      where
        old : slice_get layouts k ≡ Some x → IsLayout lists (unwrap_or (slice_get lists k) []) x
        old g = subst (λ (qs : List PathNames). IsLayout lists qs x) (list_at k x g) (layout_stays h.lists (ps ∷ []) (unwrap_or (slice_get h.lists k) []) x (slots_below k x g) (h.layouts k x g))

        new : k ≡ n → l ≡ x → IsLayout lists (unwrap_or (slice_get lists k) []) x
        new e f =
            subst (λ (y : LaidOut). IsLayout lists (unwrap_or (slice_get lists k) []) y) f
            (subst (λ (qs : List PathNames). IsLayout lists qs l)
            (ap (λ (o : Option (List PathNames)). unwrap_or o []) (sym (ap (slice_get lists) e ∙ new_list)))
            (layout_stays h.lists (ps ∷ []) ps l own_below layout))

    are_paths : (k : ℕ) (c : ConceptTree) → Contains reached k → k < length more → slice_get all k ≡ Some c → slice_get lists k ≡ Some (declared_in all c)
    are_paths k c r w is = by (nat_cases k n (omega (arith, w, long)))
      where
        nat_cases : (a b : ℕ) → a < b + 1 → (a < b) ⊎ (a ≡ b)
        nat_cases zero zero e = inr refl
        nat_cases zero (suc b) e = inl (omega arith)
        nat_cases (suc a) zero e = absurd (omega (arith, e))
        nat_cases (suc a) (suc b) e = ⊎_elim (λ g. inl (omega (arith, g))) (λ g. inr (ap suc g)) (nat_cases a b (omega (arith, e)))

        by : (k < n) ⊎ (k ≡ n) → slice_get lists k ≡ Some (declared_in all c)
        by (inl less) = get_left h.lists (ps ∷ []) k (declared_in all c) (h.paths k c r less is)
        by (inr e) =
            ap (slice_get lists) e ∙ new_list
            ∙ ap (λ (qs : List PathNames). Some qs) (paths c (subst (Contains reached) e r) (subst (λ (m : ℕ). slice_get all m ≡ Some c) e is))

    are_tables : (k : ℕ) (c : ConceptTree) (x : LaidOut) → Contains reached k → slice_get all k ≡ Some c → slice_get more k ≡ Some x → IsTable (canonical_in all c) (declared_in all c) x.table
    are_tables k c x r is g =
        ⊎_elim (λ o. h.tables k c x r is o)
        (λ e. subst (λ (y : LaidOut). IsTable (canonical_in all c) (declared_in all c) y.table) e.1 (table c (subst (Contains reached) e.0 r) (subst (λ (m : ℕ). slice_get all m ≡ Some c) e.0 is)))
        (at_push layouts l x k g)

    are_typed : AreTyped (concept_names all) (reverse all) more
    are_typed k x name g e =
        subst (λ (m : ℕ). HaveKinds (concept_names all) m (effective_items (reverse all) name) x) (sym long)
        (kinds_more (concept_names all) n (n + 1) (effective_items (reverse all) name) x (omega arith) (⊎_elim (λ o. h.typed k x name o e) (λ f. new f.0 f.1) (at_push layouts l x k g)))
      where
        new : k ≡ n → l ≡ x → HaveKinds (concept_names all) n (effective_items (reverse all) name) x
        new a b =
            let c = is_named all k name e in
            subst (λ (y : LaidOut). HaveKinds (concept_names all) n (effective_items (reverse all) name) y) b
            (subst (λ (t : List ℕ). HaveKinds (concept_names all) n (effective_items (reverse all) t) l) c.named
            (kinds c.concept (subst (λ (m : ℕ). slice_get all m ≡ Some c.concept) a c.is)))

    pub one_more_layout : HaveAllLayouts all reached more
    one_more_layout = record {
      lists = lists;
      count = length-append h.lists (ps ∷ []) ∙ ap (λ (k : ℕ). k + 1) h.count ∙ sym long;
      layouts = are_layouts;
      paths = are_paths;
      tables = are_tables;
      typed = are_typed;
      small = λ k x g. ⊎_elim (λ o. h.small k x o) (λ e. subst (λ (y : LaidOut). length y.table ≤ max_declared) e.1 few) (at_push layouts l x k g);
      closed = λ k x g. ⊎_elim (λ o. h.closed k x o) (λ e. subst (λ (y : LaidOut). All (λ (m : ℕ). m < length y.table) y.table) e.1 ends) (at_push layouts l x k g);
    }

  -- what isn't reached
  pub unreached_layout : (Contains reached n → ⊥) → HaveAllLayouts all reached (layouts ++ no_variables ∷ [])
  unreached_layout none =
      one_more_layout no_variables [] (nothing_laid_out h.lists)
      (λ c is name s g. absurd (none-some name g.name_is))
      (λ c r is. absurd (none r))
      (λ c r is. absurd (none r))
      (omega arith)
      (λ k d w. absurd (omega (arith, w)))

-- a concept that is reached, where those before it have layouts
module _ (all : List ConceptTree) (kept : concepts_fault [] all ≡ Ok tt) (last : ℕ) (marks : List Bool) (are : AreMarked all last marks) (layouts : List LaidOut) (h : HaveAllLayouts all (marked marks) layouts) (c : ConceptTree) (is : slice_get all (length layouts) ≡ Some c) (here : IsMarked marks (length layouts)) (numbers : length layouts ≤ 2 ^ 32) where
  abbrev at : ℕ
  at = length layouts

  abbrev names : List (List ℕ)
  names = concept_names all

  s : Standing all (length layouts) c
  s = standing all (length layouts) c is

  abbrev before : List ConceptTree
  before = reverse s.before

  abbrev setting : Setting
  setting = setting_of (reverse s.before) c h.lists

  own : effective_in all c ≡ items_behind (reverse s.before) c
  own = items_here all kept (length layouts) c s

  -- a component's type
  module _ (i : ItemTree) (v : Variable) (name : List ℕ) (there_is : Contains (items_behind (reverse s.before) c) i) (declares : variable_of i ≡ Some v) (named : is_among name (declared i) ≡ true) (type : Named) (kind : v.kind ≡ Of type) (m : ℕ) (number : slice_get (concept_names all) m ≡ Some type.text) where
    component : HasComponent all (length layouts) m
    component = record {
      concept = c;
      is = is;
      item = i;
      there = subst (λ (items : List ItemTree). Contains items i) (sym own) there_is;
      type = type.text;
      declares = record { name = name; own = named; variable = v; is = declares; of = type; kind = kind; named = refl };
      number = is_named all m type.text number;
    }

    less : m < length layouts
    less = component_is_earlier all kept (length layouts) m component

    among : Contains (marked marks) m
    among = is_among_marked marks m (are.inside (length layouts) m (omega arith) here component)

    number_is : IsNumberOf setting layouts type.text m
    number_is =
        let d = is_named all m type.text number in
        let e = among_earlier all kept (length layouts) c s m d.concept d.is less in
        let ps = paths_earlier all kept (length layouts) c s d.concept e in
        record {
          paths =
              ap (λ (o : Option (List PathNames)). unwrap_or o []) (h.paths m d.concept among less d.is) ∙ ps
              ∙ ap (λ (t : List ℕ). declared_paths (reverse s.before) t) d.named;
          table = λ l g.
              subst (λ (t : List ℕ). IsTable (canonical_path (reverse s.before) t) (declared_paths (reverse s.before) t) l.table) d.named
              (table_again (canonical_in all d.concept) (canonical_path (reverse s.before) d.concept.name.text) (declared_in all d.concept) (declared_paths (reverse s.before) d.concept.name.text) l.table
              (canonical_earlier all kept (length layouts) c s d.concept e) ps (h.tables m d.concept l among d.is g));
        }

  kind_numbers : (i : ItemTree) (v : Variable) (name : List ℕ) (concept : Option ℕ) → Contains (items_behind (reverse s.before) c) i → variable_of i ≡ Some v → is_among name (declared i) ≡ true → IsKindNamed (concept_names all) v.kind concept → IsKindNumber setting layouts v.kind concept
  kind_numbers i v name concept g e own_name = by v.kind refl concept
    where
      by : (k : VarKind) → v.kind ≡ k → (o : Option ℕ) → IsKindNamed (concept_names all) k o → IsKindNumber setting layouts k o
      by Numeric f None n = tt
      by Numeric f (Some m) n = absurd n
      by (Of type) f None n = absurd n
      by (Of type) f (Some m) n = number_is i v name g e own_name type f m n

  -- its paths
  whole_paths : flat_map (item_paths (declared_paths (reverse s.before))) (items_behind (reverse s.before) c) ≡ declared_in all c
  whole_paths =
      let one = (bytes_eq-Decides c.name.text c.name.text).1 refl in
      ap (λ (t : Bool). if t then flat_map (item_paths (declared_paths (reverse s.before))) (items_behind (reverse s.before) c) else declared_paths (reverse s.before) c.name.text) (sym one)
      ∙ sym (paths_here all kept (length layouts) c s)

  ready : CanBeLaidOut setting (concept_names all) layouts
  ready = record {
    laid = record { scoped = (scoped_here all kept (length layouts) c s).0; lists = h.layouts; kinds = kind_numbers };
    sound = sound_earlier all kept (length layouts) c s;
    fit = (sound_here all kept (length layouts) c s).fit.0;
    once = names_stand_once all kept;
    known = stands_earlier all kept (length layouts) c s;
    typed = typed;
    complete = omega (arith, h.count);
    numbers = numbers;
    small = h.small;
    room = let few = are.few (length layouts) here c is in let e : length (flat_map (item_paths (declared_paths (reverse s.before))) (items_behind (reverse s.before) c)) ≡ length (declared_in all c) = ap length whole_paths in omega (arith, few, e);
  }
    where
      typed : AreTyped (concept_names all) (reverse s.before) layouts
      typed k l name g e =
          let d = is_named all k name e in
          let w = slice_get_within layouts k l g in
          let a = among_earlier all kept (length layouts) c s k d.concept d.is w in
          subst (λ (t : List ℕ). HaveKinds (concept_names all) (length layouts) (effective_items (reverse s.before) t) l) d.named
          (subst (λ (items : List ItemTree). HaveKinds (concept_names all) (length layouts) items l) (items_earlier all kept (length layouts) c s d.concept a)
          (subst (λ (t : List ℕ). HaveKinds (concept_names all) (length layouts) (effective_items (reverse all) t) l) (sym d.named) (h.typed k l name g e)))

  module _ (l : Lines) (lines : AreLineages all l) (line : List ℕ) (line_is : slice_get l.lines (length layouts) ≡ Some line) where
    line_items : items_behind (reverse s.before) c ≡ items_of_line all line
    line_items = sym own ∙ sym (line_is_whole all l (length layouts) c line lines is line_is)

    ready_named : CanBeLaidOut setting l.names layouts
    ready_named = subst (λ (ns : List (List ℕ)). CanBeLaidOut setting ns layouts) (sym lines.names) ready

    pub is_ready : AreReady l.names layouts (items_of_line all line)
    is_ready = record {
      setting = setting;
      ready = ready_named;
      are = line_items;
    }

    -- it is laid out
    pub reached_layout : (new : LaidOut) → CoversAll l.names layouts (items_of_line all line) new → HaveAllLayouts all (marked marks) (layouts ++ new ∷ [])
    reached_layout new covers =
        let reaches = covers setting ready_named line_items in
        let mine : Reaches setting (concept_names all) layouts (flat_map (item_paths (declared_paths (reverse s.before))) (items_behind (reverse s.before) c)) new =
        subst (λ (ns : List (List ℕ)). Reaches setting ns layouts (flat_map (item_paths (declared_paths (reverse s.before))) (items_behind (reverse s.before) c)) new) lines.names
        (subst (λ (items : List ItemTree). Reaches setting l.names layouts (flat_map (item_paths (declared_paths (reverse s.before))) items) new) (sym line_items) reaches) in
        let whole = whole_concept (reverse s.before) c h.lists new mine.covers in
        let ps = paths_here all kept (length layouts) c s in
        let size : length new.table ≡ length (declared_in all c) = whole.0.size ∙ ap length (sym ps) in
        let few = are.few (length layouts) here c is in
        one_more_layout all (marked marks) layouts h (slice_get_within all (length layouts) c is) new (declared_in all c)
        (subst (λ (qs : List PathNames). IsLayout h.lists qs new) (sym ps) whole.0)
        (λ d e.
        subst (λ (x : ConceptTree). HaveKinds (concept_names all) (length layouts) (effective_in all x) new) (same_Some c d (sym is ∙ e))
        (subst (λ (items : List ItemTree). HaveKinds (concept_names all) (length layouts) items new) (sym own) mine.kinds))
        (λ d r e. ap (declared_in all) (same_Some c d (sym is ∙ e)))
        (λ d r e.
        subst (λ (x : ConceptTree). IsTable (canonical_in all x) (declared_in all x) new.table) (same_Some c d (sym is ∙ e))
        (table_again (canonical_path (c ∷ reverse s.before) c.name.text) (canonical_in all c) (declared_paths (c ∷ reverse s.before) c.name.text) (declared_in all c) new.table
        (λ p. sym (canonical_here all kept (length layouts) c s p)) (sym ps) whole.1))
        (omega (arith, size, few))
        (whole_is_closed (reverse s.before) c h.lists new mine.covers)

-- where nothing is laid out yet
pub no_layouts : (all : List ConceptTree) (reached : List ℕ) → HaveAllLayouts all reached []
no_layouts all reached = record {
  lists = [];
  count = refl;
  layouts = λ k l e. absurd (none-some l e);
  paths = λ k c r w. absurd (omega (arith, w));
  tables = λ k c l r is e. absurd (none-some l e);
  typed = λ k l name e. absurd (none-some l e);
  small = λ k l e. absurd (none-some l e);
  closed = λ k l e. absurd (none-some l e);
}

pub next_within : (all : List ConceptTree) (last : ℕ) (marks : List Bool) (layouts : List LaidOut) → AreMarked all last marks → length layouts < length marks → length layouts < length all
next_within all last marks layouts are w = omega (arith, are.within, are.count, w)

-- what is so of a result where it is one
pub if_ok : {A E : Type 0} (r : Result A E) (P Q : A → Type 0) → IfOk r P → ((x : A) → P x → Q x) → IfOk r Q
if_ok (Ok x) P Q h k = k x h
if_ok (Err e) P Q h k = tt

-- where all that is reached is laid out
pub all_laid_out : (all : List ConceptTree) → concepts_fault [] all ≡ Ok tt → (last : ℕ) (marks : List Bool) → AreMarked all last marks → (layouts : List LaidOut) → HaveAllLayouts all (marked marks) layouts → length layouts ≡ length marks → AreLaidOut all last layouts
all_laid_out all kept last marks are layouts laid count = record {
  kept = kept;
  reached = marked marks;
  asked = is_among_marked marks last are.asked;
  inside = λ n m r h. is_among_marked marks m (are.inside n m (omega arith) (is_marked marks n r) h);
  earlier = λ n m r h. component_is_earlier all kept n m h;
  below = λ n r. let w = slice_get_within marks n true (is_marked marks n r) in omega (arith, w, count);
  laid = laid;
}
