-- What comes next in a concept, from what comes next before it.
use Rattle.std.proofs.Common.{◌≡◌, ℕ, suc, ◌+◌, ◌<◌, ◌≤◌, ◌^◌, List, [], ◌∷◌, ◌++◌, Option, Some, None, map, length, take, drop, get_or, refl, sym, ap, ◌∙◌, subst, ⊎_elim, append_assoc, append-nil, arith}
use Rattle.std.specs.Prelude.{reverse, slice_get, Contains, All, IfSome}
use Rattle.std.specs.List.{flat_map}
use Rattle.std.proofs.lemmas.Grind.{flat_map-append}
use Rattle.std.proofs.lemmas.List.Elements.{Contains-append_right}
use Rattle.priz_base.proofs.Members.{contains_here, contains_cases, contains_none}
use Rattle.utopist_syntax.specs.Named.{Named}
use Rattle.utopist_syntax.specs.declared.item.Bind.{Bind}
use Rattle.utopist_syntax.specs.declared.item.VarKind.{VarKind}
use Rattle.utopist_syntax.specs.declared.item.VarKind.TheVariants.{Numeric, Of}
use Rattle.utopist_syntax.specs.FileTree.{ItemTree, var}
use Rattle.canonical_paths.specs.PathNames.{PathNames}
use Rattle.canonical_paths.specs.DeclaredPaths.{variable_paths, declared_paths}
use Rattle.canonical_paths.specs.Limits.{max_declared}
use Rattle.canonical_paths.specs.LaidOut.{LaidOut}
use Rattle.canonical_paths.specs.steps.Layouts.{IsLayout, inner_paths, inner_table, with_variable}
use Rattle.canonical_paths.specs.steps.PathLists.{PathLists, HaveLayouts, ForEachLists, HasGrown}
use Rattle.canonical_paths.specs.steps.Fitting.{IsKnownKind}
use Rattle.canonical_paths.specs.steps.Kinds.{IsKindNamed, IsKindBelow, HaveKinds}
use Rattle.canonical_paths.specs.steps.Settings.{Setting, IsKindNumber, Declare, paths_of_items, paths_of_variables}
use Rattle.canonical_paths.specs.steps.Ready.{KindStands, HasNumber, CanBeLaidOut, Reaches, ItemsNext, AreVariables, paths_behind, TakesVariables, TakesItems, VariablesNext, BindsNext}
use Rattle.canonical_paths.proofs.OneVariable.{inner_size}
use Rattle.canonical_paths.proofs.Covering.{covers_one}
use Rattle.canonical_paths.proofs.TakingItems.{own_name}
use Rattle.canonical_paths.proofs.FittingItems.{known_in}
use Rattle.canonical_paths.proofs.NextVariable.{own, is_here, kind_number, is_new, has_kind, has_room, bindable, kinds_grow}

-- one more variable of an item
module _ (s : Setting) (names : List (List ℕ)) (layouts : List LaidOut) (ready : CanBeLaidOut s names layouts) (before : List ItemTree) (done : List Named) (n : Named) (concept : Option ℕ) (binds : List Bind) (are : AreVariables s names layouts before done (n ∷ []) concept binds) where
  one_name : (m : Named) → Contains (n ∷ []) m → m ≡ n
  one_name m h = ⊎_elim (λ e. sym e) (λ k. absurd (contains_none m k)) (contains_cases n [] m h)

  declares : Declare s names (n ∷ []) concept binds
  declares = record {
    before = before;
    item = var (done ++ n ∷ are.more) are.kind binds;
    rest = are.rest;
    items = are.are;
    kind = are.kind;
    is = refl;
    own = λ m h. own_name (done ++ n ∷ are.more) m (subst (Contains (done ++ n ∷ are.more)) (sym (one_name m h)) (Contains-append_right done (n ∷ are.more) n (contains_here n are.more)));
    number = are.number.named;
  }

  pub reaches_one : (old new : LaidOut) → Reaches s names layouts (paths_behind s before concept done) old → ForEachLists layouts old (λ w. HasGrown w layouts old new n.text concept binds) → Reaches s names layouts (paths_behind s before concept (done ++ n ∷ [])) new
  reaches_one old new h grown =
      let f : Named → List PathNames = λ m. variable_paths (inner_paths s.lists concept) m.text in
      let w : PathLists = record { concepts = s.lists; paths = paths_behind s before concept done } in
      let g = grown w (record { concepts = ready.laid.lists; so_far = h.covers.layout }) in
      let one : flat_map f (n ∷ []) ≡ f n = append-nil (f n) in
      let e : paths_behind s before concept done ++ f n ≡ paths_behind s before concept (done ++ n ∷ []) =
      append_assoc (paths_of_items s before) (flat_map f done) (f n)
      ∙ ap (λ (ps : List PathNames). paths_of_items s before ++ (flat_map f done ++ ps)) (sym one)
      ∙ ap (λ (ps : List PathNames). paths_of_items s before ++ ps) (sym (flat_map-append f done (n ∷ []))) in
      subst (λ (ps : List PathNames). Reaches s names layouts ps new) e
      (record {
        covers = covers_one s names layouts ready.laid (n ∷ []) concept binds declares are.number.below (paths_behind s before concept done) old new n (contains_here n []) h.covers grown;
        kinds =
            subst (HaveKinds names (length layouts) s.items) (sym g.more.is)
            (kinds_grow names (length layouts) s.items old n.text concept g.aliases (inner_table layouts concept) h.covers.layout.count h.kinds
            (has_kind s names layouts ready before done n are.more are.kind binds are.rest concept are.are are.number));
      })

-- one more variable, behind those that were taken
pub takes_variable : (layouts : List LaidOut) (old mid new : LaidOut) (ns : List Named) (n : Named) (concept : Option ℕ) (binds : List Bind) → TakesVariables layouts old mid ns concept binds → ForEachLists layouts mid (λ w. HasGrown w layouts mid new n.text concept binds) → TakesVariables layouts old new (ns ++ n ∷ []) concept binds
takes_variable layouts old mid new ns n concept binds taken grown s names before done ready are h =
    let first : AreVariables s names layouts before done ns concept binds = record {
      more = n ∷ are.more;
      kind = are.kind;
      rest = are.rest;
      are = subst (λ (ms : List Named). s.items ≡ before ++ var (done ++ ms) are.kind binds ∷ are.rest) (append_assoc ns (n ∷ []) are.more) are.are;
      number = are.number;
    } in
    let last : AreVariables s names layouts before (done ++ ns) (n ∷ []) concept binds = record {
      more = are.more;
      kind = are.kind;
      rest = are.rest;
      are = subst (λ (ms : List Named). s.items ≡ before ++ var ms are.kind binds ∷ are.rest) (sym (append_assoc done ns (n ∷ are.more))) first.are;
      number = are.number;
    } in
    subst (λ (ms : List Named). Reaches s names layouts (paths_behind s before concept ms) new) (append_assoc done ns (n ∷ []))
    (reaches_one s names layouts ready before (done ++ ns) n concept binds last mid new (taken s names before done ready first h) grown)

pub takes_none : (layouts : List LaidOut) (l : LaidOut) (concept : Option ℕ) (binds : List Bind) → TakesVariables layouts l l [] concept binds
takes_none layouts l concept binds s names before done ready are h =
    subst (λ (ms : List Named). Reaches s names layouts (paths_behind s before concept ms) l) (sym (append-nil done)) h

-- the next variable of an item
pub next_variable : (layouts : List LaidOut) (old mid : LaidOut) (variables ns more : List Named) (n : Named) (concept : Option ℕ) (binds : List Bind) → variables ≡ ns ++ n ∷ more → VariablesNext layouts old variables concept binds → TakesVariables layouts old mid ns concept binds → VariablesNext layouts mid (n ∷ []) concept binds
next_variable layouts old mid variables ns more n concept binds split next taken =
    let all : next.setting.items ≡ next.before ++ var (next.done ++ (ns ++ (n ∷ (more ++ next.are.more)))) next.are.kind binds ∷ next.are.rest =
    subst (λ (ms : List Named). next.setting.items ≡ next.before ++ var (next.done ++ ms) next.are.kind binds ∷ next.are.rest)
    (ap (λ (ms : List Named). ms ++ next.are.more) split ∙ append_assoc ns (n ∷ more) next.are.more) next.are.are in
    let first : AreVariables next.setting next.names layouts next.before next.done ns concept binds = record {
      more = n ∷ (more ++ next.are.more);
      kind = next.are.kind;
      rest = next.are.rest;
      are = all;
      number = next.are.number;
    } in
    record {
      names = next.names;
      setting = next.setting;
      ready = next.ready;
      before = next.before;
      done = next.done ++ ns;
      are = record {
        more = more ++ next.are.more;
        kind = next.are.kind;
        rest = next.are.rest;
        are = subst (λ (ms : List Named). next.setting.items ≡ next.before ++ var ms next.are.kind binds ∷ next.are.rest) (sym (append_assoc next.done ns (n ∷ (more ++ next.are.more)))) all;
        number = next.are.number;
      };
      reached = taken next.setting next.names next.before next.done next.ready first next.reached;
    }

-- one variable that comes next
module _ (layouts : List LaidOut) (so_far : LaidOut) (n : Named) (concept : Option ℕ) (binds : List Bind) (next : VariablesNext layouts so_far (n ∷ []) concept binds) where
  pub next_is_new : ¬ Contains so_far.names n.text
  next_is_new = is_new next.setting next.names layouts next.ready next.before next.done n next.are.more next.are.kind binds next.are.rest concept next.are.are next.are.number so_far next.reached.covers.layout

  abbrev pub next_lists : PathLists
  next_lists = record { concepts = next.setting.lists; paths = paths_behind next.setting next.before concept next.done }

  pub next_laid : HaveLayouts next_lists layouts so_far
  next_laid = record { concepts = next.ready.laid.lists; so_far = next.reached.covers.layout }

  pub next_room : length so_far.table + suc (length (inner_table layouts concept)) ≤ max_declared
  next_room =
      let room = has_room next.setting next.names layouts next.ready next.before next.done n next.are.more next.are.kind binds next.are.rest concept next.are.are next.are.number in
      let size = next.reached.covers.layout.size in
      let inner = inner_size next.setting.lists layouts concept next.ready.laid.lists next.are.number.below in
      omega (arith, room, size, inner)

-- the bindings of a component that comes next
pub next_binds : (layouts : List LaidOut) (so_far : LaidOut) (n : Named) (c : ℕ) (binds : List Bind) → VariablesNext layouts so_far (n ∷ []) (Some c) binds → BindsNext layouts so_far c binds
next_binds layouts so_far n c binds next = by next.are.kind next.are.are next.are.number
  where
    by : (kind : VarKind) → next.setting.items ≡ next.before ++ var (next.done ++ n ∷ next.are.more) kind binds ∷ next.are.rest → IsKindBelow next.names (length layouts) kind (Some c) → BindsNext layouts so_far c binds
    by Numeric e number = absurd number.named
    by (Of type) e number =
        let room = has_room next.setting next.names layouts next.ready next.before next.done n next.are.more (Of type) binds next.are.rest (Some c) e number in
        record {
          names = next.names;
          setting = next.setting;
          ready = next.ready;
          paths = paths_behind next.setting next.before (Some c) next.done;
          reached = next.reached;
          few = omega (arith, room);
          type = type;
          number = number.named;
          inside = (kind_number next.setting next.names layouts next.ready next.before next.done n next.are.more (Of type) binds next.are.rest (Some c) e number).paths;
          bindable = bindable next.setting next.names layouts next.ready next.before next.done n next.are.more (Of type) binds next.are.rest (Some c) e number;
        }

-- a known type stands among the names
pub kind_stands : (s : Setting) (names : List (List ℕ)) (layouts : List LaidOut) (kind : VarKind) → CanBeLaidOut s names layouts → IsKnownKind s.earlier kind → KindStands names (length layouts) kind
kind_stands s names layouts Numeric ready h = tt
kind_stands s names layouts (Of type) ready h = ready.known type.text h

module _ (names : List (List ℕ)) (layouts : List LaidOut) (so_far : LaidOut) (variables : List Named) (kind : VarKind) (binds : List Bind) (next : ItemsNext names layouts so_far (var variables kind binds ∷ [])) where
  item_known : IsKnownKind next.setting.earlier kind
  item_known =
      known_in next.setting.earlier [] next.setting.items next.ready.fit variables kind binds
      (subst (λ (is : List ItemTree). Contains is (var variables kind binds)) (sym next.are) (Contains-append_right next.before (var variables kind binds ∷ next.rest) (var variables kind binds) (contains_here (var variables kind binds) next.rest)))

  pub kind_has_number : HasNumber names kind
  kind_has_number = by kind (kind_stands next.setting names layouts kind next.ready item_known)
    where
      by : (k : VarKind) → KindStands names (length layouts) k → HasNumber names k
      by Numeric h = tt
      by (Of type) h = record { stands = record { number = h.number; is = h.is; below = omega (arith, h.below, next.ready.numbers) }; once = next.ready.once }

  pub next_variables : (concept : Option ℕ) → ((count : ℕ) → KindStands names count kind → IsKindBelow names count kind concept) → VariablesNext layouts so_far variables concept binds
  next_variables concept number = record {
    names = names;
    setting = next.setting;
    ready = next.ready;
    before = next.before;
    done = [];
    are = record {
      more = [];
      kind = kind;
      rest = next.rest;
      are = subst (λ (ns : List Named). next.setting.items ≡ next.before ++ var ns kind binds ∷ next.rest) (sym (append-nil variables)) next.are;
      number = number (length layouts) (kind_stands next.setting names layouts kind next.ready item_known);
    };
    reached = subst (λ (ps : List PathNames). Reaches next.setting names layouts ps so_far) (sym (append-nil (paths_of_items next.setting next.before))) next.reached;
  }

-- items in the middle of those that come next
pub next_items : (names : List (List ℕ)) (layouts : List LaidOut) (old mid : LaidOut) (items done now more : List ItemTree) → items ≡ done ++ (now ++ more) → ItemsNext names layouts old items → TakesItems names layouts old mid done → ItemsNext names layouts mid now
next_items names layouts old mid items done now more split next taken =
    let all : next.setting.items ≡ next.before ++ (done ++ ((now ++ more) ++ next.rest)) =
    next.are ∙ ap (λ (is : List ItemTree). next.before ++ (is ++ next.rest)) split ∙ ap (λ (is : List ItemTree). next.before ++ is) (append_assoc done (now ++ more) next.rest) in
    record {
      setting = next.setting;
      ready = next.ready;
      before = next.before ++ done;
      rest = more ++ next.rest;
      are = all ∙ sym (append_assoc next.before done ((now ++ more) ++ next.rest)) ∙ ap (λ (is : List ItemTree). (next.before ++ done) ++ is) (append_assoc now more next.rest);
      reached = taken next.setting next.before ((now ++ more) ++ next.rest) next.ready all next.reached;
    }
