use Rattle.std.proofs.Common.{rules, ⊎_elim, arith, ap, sym, subst, ◌∙◌, take, ◌≡◌, ◌<◌, ◌++◌, ◌∷◌, [], map, length, OnOk, ℕ, ◌+◌, ◌-◌, ◌*◌, ◌≤◌, ◌/◌, ◌%◌, Bool, true, false, nat_eq, nat_lt, List, slice_index_or, slice_set, bit_and, bit_or, Fits, w8, w32, w64, Bor, MutBor}
use Rattle.utopist_syntax.specs.declared.item.VarKind.{VarKind}
use Rattle.std.specs.Prelude.{Contains}
use Rattle.std.proofs.lemmas.List.{take_all, map-append}
use Rattle.std.proofs.lemmas.List.Elements.{Contains-append_right}
use Rattle.priz_base.proofs.Members.{contains_here}
use Rattle.utopist_syntax.specs.Named.{Named}
use Rattle.utopist_syntax.specs.declared.item.Item.{Item}
use Rattle.utopist_syntax.specs.declared.concept.Concept.{Concept}
use Rattle.utopist_syntax.specs.FileTree.{ItemTree, item_tree}
use Rattle.canonical_paths.specs.PathNames.{PathNames}
use Rattle.canonical_paths.proofs.Elements.{take_next, split_index}
use Rattle.canonical_paths.specs.steps.Settings.{items_of_line}
use Rattle.concept_walk.specs.Visits.{Visit, item_visits, variable_visits}
use Rattle.concept_walk.specs.steps.Trails.{trail_path}
use Rattle.concept_walk.proofs.Bringing.{bring_none, bring_part, next_part}
use Rattle.concept_walk.proofs.Parts.{one_of_items, IsMetOnce, equation_is_met, relation_is_met}
use Rattle.concept_walk.proofs.Places.{Finds, concept_there, is_found, number_is_small, number_in_table, own_entry, other_entry, its_number, has_concept, name_inside, place_inside, smaller, not_met, variable_met, component_met}
use Rattle.concept_walk.proofs.Inside.{path_named}
use Rattle.concept_walk.proofs.Variables.{are_variables, visits_at_variables}
use Rattle.concept_walk.proofs.Lines.{line_below, visits_are, are_items, next_of_line, bring_of_line}
use Rattle.concept_walk.specs.Walks.{concepts_of, concept_in, items_in, IsWalk, IsPlace, Stops}
use Rattle.concept_walk.specs.steps.Bringing.{inside, is_canonical, IsComponent, AreItems, AreVariablesOf, IsVariable, AreNext, Bring, component_visits, visits_at, visits_of}
use Rattle.concept_walk.proofs.walk.+walk.Goals as goal

-- src/walk.rt:52:13
pub walk_component-bounds-walk-which : goal.walk_component-bounds-walk-which
walk_component-bounds-walk-which t c =
    line_below c.args.walk.now c.requires.walk c.args.component.now.concept c.requires.component.known c.line_of-which-items.result.now c.line_of-which-items.ensures c.loop-which.which-index 0 c.loop-which-test.true

-- src/walk.rt:53:9
pub walk_component-walk_items-requires : goal.walk_component-walk_items-requires
walk_component-walk_items-requires t c =
    let e = c.as_slice.ensures ∙ ap (λ (x : Concept). x.items) (sym c.index-walk-which.is) in
    let at = trail_path c.args.component.now.trail.now in
    let own = are_items c.args.walk.now c.requires.walk c.args.component.now.concept c.requires.component.known c.line_of-which-items.result.now c.line_of-which-items.ensures c.loop-which.which-index 0 c.loop-which-test.true c.index-walk-which.result _ c.index-walk-which.is in
    let next = next_of_line c.args.walk.now c.requires.walk c.args.component.now.concept c.requires.component.known c.line_of-which-items.result.now c.line_of-which-items.ensures c.loop-which.which-index 0 c.loop-which-test.true c.index-walk-which.result _ c.index-walk-which.is at c.args.found.now c.loop-which.found c.requires.next c.loop-which.invariant in (
      omega (arith, c.decreases),
      (
        c.requires.walk,
        (
          c.requires.component,
          (
            subst (λ (is : List Item). AreItems c.args.walk.now c.args.component.now.concept (map item_tree is)) (sym e) own,
            subst (λ (is : List Item). AreNext c.args.walk.now (visits_at c.args.walk.now at (map item_tree is)) c.loop-which.found) (sym e) next,
          ),
        ),
      ),
    )

-- src/walk.rt:34:1
pub walk_component-returns-clause-visits : goal.walk_component-returns-clause-visits
walk_component-returns-clause-visits t c =
    let at = trail_path c.args.component.now.trail.now in
    subst (λ (vs : List Visit). Bring c.args.walk.now vs c.args.found.now c.loop-which.found)
    (sym (visits_are c.args.walk.now c.requires.walk c.args.component.now.concept c.requires.component.known c.line_of-which-items.result.now c.line_of-which-items.ensures at))
    (subst (λ (ns : List ℕ). Bring c.args.walk.now (visits_at c.args.walk.now at (items_of_line (concepts_of c.args.walk.now) ns)) c.args.found.now c.loop-which.found)
    (take_all c.loop-which.which-index c.line_of-which-items.result.now c.loop-which-test.false) c.loop-which.invariant)

-- src/walk.rt:104:13
pub walk_item-walk_variables-requires : goal.walk_item-walk_variables-requires
walk_item-walk_variables-requires t c =
    let w = c.args.walk.now in
    let at = trail_path c.args.component.now.trail.now in
    let e = ap item_tree c.in-Var.is in
    let there = subst (Contains (items_in w c.args.component.now.concept)) e (c.requires.own (item_tree c.args.item.now) (contains_here (item_tree c.args.item.now) [])) in (
      omega (arith, c.decreases),
      (
        c.requires.walk,
        (
          c.requires.component,
          (
            subst (λ (ns : List Named). AreVariablesOf w c.args.component.now.concept c.in-Var.kind ns) (sym c.as_slice.ensures) (are_variables w c.requires.walk c.args.component.now.concept c.in-Var.names c.in-Var.kind c.in-Var.binds there),
            subst (λ (ns : List Named). AreNext w (visits_of w at c.in-Var.kind ns) c.args.found.now) (sym c.as_slice.ensures)
                (subst (λ (vs : List Visit). AreNext w vs c.args.found.now) (visits_at_variables w c.requires.walk c.args.component.now.concept c.in-Var.names c.in-Var.kind c.in-Var.binds at (item_tree c.args.item.now) e) c.requires.next),
          ),
        ),
      ),
    )

-- src/walk.rt:83:1
pub walk_item-returns-in-Var-clause-visits : goal.walk_item-returns-in-Var-clause-visits
walk_item-returns-in-Var-clause-visits t c =
    let w = c.args.walk.now in
    let at = trail_path c.args.component.now.trail.now in
    let e = ap item_tree c.in-Var.is in
    subst (λ (vs : List Visit). OnOk c.walk_variables.result (Bring w vs c.args.found.now c.walk_variables.new.found))
    (ap (visits_of w at c.in-Var.kind) c.as_slice.ensures ∙ sym (visits_at_variables w c.requires.walk c.args.component.now.concept c.in-Var.names c.in-Var.kind c.in-Var.binds at (item_tree c.args.item.now) e))
    c.walk_variables.ensures.visits

-- src/walk.rt:83:1
pub walk_item-returns-in_ok-meet-in-Eq-clause-visits :
    goal.walk_item-returns-in_ok-meet-in-Eq-clause-visits
walk_item-returns-in_ok-meet-in-Eq-clause-visits t c =
    let w = c.args.walk.now in
    let at = trail_path c.args.component.now.trail.now in
    let i = item_tree c.args.item.now in
    let m : IsMetOnce w at i =
    ⊎_elim (λ h. equation_is_met w at i _ _ (ap item_tree h.2)) (λ h. relation_is_met w at i _ _ _ _ (ap item_tree h.4)) c.in-Eq.is in
    subst (λ (vs : List Visit). Bring w vs c.args.found.now c.meet.new.found) (sym m.is) (c.in_ok-meet-in-Eq.ensures m.visit m.seen)

-- src/walk.rt:78:9
pub walk_items-walk_item-requires : goal.walk_items-walk_item-requires
walk_items-walk_item-requires t c =
    let split = split_index c.args.items.now c.loop-item.item-index c.item-item.result _ c.loop-item-test.true c.item-item.is in (
      omega (arith, c.decreases),
      (
        c.requires.walk,
        (
          c.requires.component,
          (
            λ i h. c.requires.own i (one_of_items c.args.items.now (take c.loop-item.item-index c.args.items.now) split.0 c.item-item.result split.1 i h),
            next_part c.args.walk.now (item_visits (inside c.args.walk.now) (is_canonical c.args.walk.now) (trail_path c.args.component.now.trail.now)) (map item_tree c.args.items.now)
                (map item_tree (take c.loop-item.item-index c.args.items.now)) (item_tree c.item-item.result ∷ []) (map item_tree split.0) c.args.found.now c.loop-item.found
                (ap (map item_tree) split.1 ∙ map-append item_tree (take c.loop-item.item-index c.args.items.now) (c.item-item.result ∷ split.0))
                c.requires.next c.loop-item.invariant,
          ),
        ),
      ),
    )

-- src/walk.rt:58:1
pub walk_items-returns-clause-visits : goal.walk_items-returns-clause-visits
walk_items-returns-clause-visits t c =
    subst (λ (is : List Item). Bring c.args.walk.now (visits_at c.args.walk.now (trail_path c.args.component.now.trail.now) (map item_tree is)) c.args.found.now c.loop-item.found)
    (take_all c.loop-item.item-index c.args.items.now c.loop-item-test.false) c.loop-item.invariant

-- src/walk.rt:155:9
pub walk_variable-unwrap-slot-requires : goal.walk_variable-unwrap-slot-requires
walk_variable-unwrap-slot-requires t c =
    is_found c.args.walk.now c.args.component.now.concept c.args.component.now.start (trail_path c.args.component.now.trail.now) c.requires.component c.args.kind.now c.args.name.now.text c.requires.own c.variable.result (subst (λ (s : List ℕ). Finds c.args.walk.now c.args.component.now.concept s c.variable.result) c.text.ensures c.variable.ensures)

-- src/walk.rt:156:18
pub walk_variable-overflow_add-number : goal.walk_variable-overflow_add-number
walk_variable-overflow_add-number t c =
    let s = number_is_small c.args.walk.now c.requires.walk (c.args.component.now.start + c.unwrap-slot.result.at) ((trail_path c.args.component.now.trail.now) ++ c.args.name.now.text ∷ []) (its_number c.args.walk.now c.requires.walk c.args.component.now.concept c.args.component.now.start (trail_path c.args.component.now.trail.now) c.requires.component c.args.kind.now c.args.name.now.text c.requires.own c.unwrap-slot.result (subst (Finds c.args.walk.now c.args.component.now.concept c.args.name.now.text) c.unwrap-slot.ensures (subst (λ (s : List ℕ). Finds c.args.walk.now c.args.component.now.concept s c.variable.result) c.text.ensures c.variable.ensures))) in omega (arith, s)

-- src/walk.rt:157:8
pub walk_variable-bounds-table-number : goal.walk_variable-bounds-table-number
walk_variable-bounds-table-number t c =
    number_in_table c.args.walk.now c.requires.walk c.table.result.now (c.table.ensures (concepts_of c.args.walk.now) c.args.walk.now.asked c.requires.component.laid (concept_in c.args.walk.now c.args.walk.now.asked) c.requires.component.laid.asked (concept_there c.args.walk.now c.args.walk.now.asked c.requires.walk.asked)) (c.args.component.now.start + c.unwrap-slot.result.at) ((trail_path c.args.component.now.trail.now) ++ c.args.name.now.text ∷ []) (its_number c.args.walk.now c.requires.walk c.args.component.now.concept c.args.component.now.start (trail_path c.args.component.now.trail.now) c.requires.component c.args.kind.now c.args.name.now.text c.requires.own c.unwrap-slot.result (subst (Finds c.args.walk.now c.args.component.now.concept c.args.name.now.text) c.unwrap-slot.ensures (subst (λ (s : List ℕ). Finds c.args.walk.now c.args.component.now.concept s c.variable.result) c.text.ensures c.variable.ensures)))

-- src/walk.rt:158:9
pub walk_variable-returns-then-table-number-clause-visits :
    goal.walk_variable-returns-then-table-number-clause-visits
walk_variable-returns-then-table-number-clause-visits t c =
    subst (λ (vs : List Visit). Bring c.args.walk.now vs c.args.found.now c.args.found.now)
    (sym (not_met c.args.walk.now (trail_path c.args.component.now.trail.now) c.args.kind.now c.args.name.now (other_entry c.args.walk.now c.requires.walk c.table.result.now (c.table.ensures (concepts_of c.args.walk.now) c.args.walk.now.asked c.requires.component.laid (concept_in c.args.walk.now c.args.walk.now.asked) c.requires.component.laid.asked (concept_there c.args.walk.now c.args.walk.now.asked c.requires.walk.asked)) (c.args.component.now.start + c.unwrap-slot.result.at) ((trail_path c.args.component.now.trail.now) ++ c.args.name.now.text ∷ []) (its_number c.args.walk.now c.requires.walk c.args.component.now.concept c.args.component.now.start (trail_path c.args.component.now.trail.now) c.requires.component c.args.kind.now c.args.name.now.text c.requires.own c.unwrap-slot.result (subst (Finds c.args.walk.now c.args.component.now.concept c.args.name.now.text) c.unwrap-slot.ensures (subst (λ (s : List ℕ). Finds c.args.walk.now c.args.component.now.concept s c.variable.result) c.text.ensures c.variable.ensures))) c.if-table-number.true)))
    (bring_none c.args.walk.now c.args.found.now)

-- src/walk.rt:161:29
pub walk_variable-add_variable-requires-clause-number :
    goal.walk_variable-add_variable-requires-clause-number
walk_variable-add_variable-requires-clause-number t c =
    its_number c.args.walk.now c.requires.walk c.args.component.now.concept c.args.component.now.start (trail_path c.args.component.now.trail.now) c.requires.component c.args.kind.now c.args.name.now.text c.requires.own c.unwrap-slot.result (subst (Finds c.args.walk.now c.args.component.now.concept c.args.name.now.text) c.unwrap-slot.ensures (subst (λ (s : List ℕ). Finds c.args.walk.now c.args.component.now.concept s c.variable.result) c.text.ensures c.variable.ensures))

-- src/walk.rt:161:29
pub walk_variable-add_variable-requires-clause-next :
    goal.walk_variable-add_variable-requires-clause-next
walk_variable-add_variable-requires-clause-next t c =
    subst (λ (vs : List Visit). AreNext c.args.walk.now vs c.args.found.now)
    (variable_met c.args.walk.now (trail_path c.args.component.now.trail.now) c.args.kind.now c.args.name.now (own_entry c.args.walk.now c.requires.walk c.table.result.now (c.table.ensures (concepts_of c.args.walk.now) c.args.walk.now.asked c.requires.component.laid (concept_in c.args.walk.now c.args.walk.now.asked) c.requires.component.laid.asked (concept_there c.args.walk.now c.args.walk.now.asked c.requires.walk.asked)) (c.args.component.now.start + c.unwrap-slot.result.at) ((trail_path c.args.component.now.trail.now) ++ c.args.name.now.text ∷ []) (its_number c.args.walk.now c.requires.walk c.args.component.now.concept c.args.component.now.start (trail_path c.args.component.now.trail.now) c.requires.component c.args.kind.now c.args.name.now.text c.requires.own c.unwrap-slot.result (subst (Finds c.args.walk.now c.args.component.now.concept c.args.name.now.text) c.unwrap-slot.ensures (subst (λ (s : List ℕ). Finds c.args.walk.now c.args.component.now.concept s c.variable.result) c.text.ensures c.variable.ensures))) c.if-table-number.false) c.in-Numeric.is) c.requires.next

-- src/walk.rt:168:26
pub walk_variable-unwrap-requires : goal.walk_variable-unwrap-requires
walk_variable-unwrap-requires t c =
    has_concept c.args.walk.now c.requires.walk c.args.component.now.concept c.args.component.now.start (trail_path c.args.component.now.trail.now) c.requires.component c.args.kind.now c.args.name.now.text c.requires.own c.unwrap-slot.result (subst (Finds c.args.walk.now c.args.component.now.concept c.args.name.now.text) c.unwrap-slot.ensures (subst (λ (s : List ℕ). Finds c.args.walk.now c.args.component.now.concept s c.variable.result) c.text.ensures c.variable.ensures)) c.in-Of.field-0 c.in-Of.is

-- src/walk.rt:169:24
pub walk_variable-overflow_add-inside : goal.walk_variable-overflow_add-inside
walk_variable-overflow_add-inside t c =
    let s = number_is_small c.args.walk.now c.requires.walk (c.args.component.now.start + c.unwrap-slot.result.at) ((trail_path c.args.component.now.trail.now) ++ c.args.name.now.text ∷ []) (its_number c.args.walk.now c.requires.walk c.args.component.now.concept c.args.component.now.start (trail_path c.args.component.now.trail.now) c.requires.component c.args.kind.now c.args.name.now.text c.requires.own c.unwrap-slot.result (subst (Finds c.args.walk.now c.args.component.now.concept c.args.name.now.text) c.unwrap-slot.ensures (subst (λ (s : List ℕ). Finds c.args.walk.now c.args.component.now.concept s c.variable.result) c.text.ensures c.variable.ensures))) in omega (arith, s)

-- src/walk.rt:172:13
pub walk_variable-walk_component-requires : goal.walk_variable-walk_component-requires
walk_variable-walk_component-requires t c =
    let same = name_inside c.args.walk.now c.requires.walk c.args.component.now.concept c.args.component.now.start (trail_path c.args.component.now.trail.now) c.requires.component c.args.kind.now c.args.name.now.text c.requires.own c.unwrap-slot.result (subst (Finds c.args.walk.now c.args.component.now.concept c.args.name.now.text) c.unwrap-slot.ensures (subst (λ (s : List ℕ). Finds c.args.walk.now c.args.component.now.concept s c.variable.result) c.text.ensures c.variable.ensures)) c.in-Of.field-0 c.in-Of.is c.unwrap.result c.unwrap.ensures in
    let place = place_inside c.args.walk.now c.requires.walk c.args.component.now.concept c.args.component.now.start (trail_path c.args.component.now.trail.now) c.requires.component c.args.kind.now c.args.name.now.text c.requires.own c.unwrap-slot.result (subst (Finds c.args.walk.now c.args.component.now.concept c.args.name.now.text) c.unwrap-slot.ensures (subst (λ (s : List ℕ). Finds c.args.walk.now c.args.component.now.concept s c.variable.result) c.text.ensures c.variable.ensures)) c.in-Of.field-0 c.in-Of.is c.unwrap.result c.unwrap.ensures in
    let less = smaller c.args.walk.now c.requires.walk c.args.component.now.concept c.args.component.now.start (trail_path c.args.component.now.trail.now) c.requires.component c.args.kind.now c.args.name.now.text c.requires.own c.unwrap-slot.result (subst (Finds c.args.walk.now c.args.component.now.concept c.args.name.now.text) c.unwrap-slot.ensures (subst (λ (s : List ℕ). Finds c.args.walk.now c.args.component.now.concept s c.variable.result) c.text.ensures c.variable.ensures)) c.in-Of.field-0 c.in-Of.is c.unwrap.result c.unwrap.ensures in
    let path = path_named c.text-in-Of.result c.args.component.now.trail c.args.name.now.text c.text-in-Of.ensures in (
      omega (arith, less, c.decreases),
      (
        c.requires.walk,
        (
          subst (IsPlace c.args.walk.now c.unwrap.result (c.args.component.now.start + c.unwrap-slot.result.at + 1)) (sym path) place,
          subst (λ (p : PathNames). AreNext c.args.walk.now (component_visits c.args.walk.now c.unwrap.result p) c.args.found.now) (sym path)
              (subst (λ (vs : List Visit). AreNext c.args.walk.now vs c.args.found.now) (component_met c.args.walk.now (trail_path c.args.component.now.trail.now) c.args.kind.now c.args.name.now c.in-Of.field-0 c.unwrap.result (own_entry c.args.walk.now c.requires.walk c.table.result.now (c.table.ensures (concepts_of c.args.walk.now) c.args.walk.now.asked c.requires.component.laid (concept_in c.args.walk.now c.args.walk.now.asked) c.requires.component.laid.asked (concept_there c.args.walk.now c.args.walk.now.asked c.requires.walk.asked)) (c.args.component.now.start + c.unwrap-slot.result.at) ((trail_path c.args.component.now.trail.now) ++ c.args.name.now.text ∷ []) (its_number c.args.walk.now c.requires.walk c.args.component.now.concept c.args.component.now.start (trail_path c.args.component.now.trail.now) c.requires.component c.args.kind.now c.args.name.now.text c.requires.own c.unwrap-slot.result (subst (Finds c.args.walk.now c.args.component.now.concept c.args.name.now.text) c.unwrap-slot.ensures (subst (λ (s : List ℕ). Finds c.args.walk.now c.args.component.now.concept s c.variable.result) c.text.ensures c.variable.ensures))) c.if-table-number.false) c.in-Of.is (name_inside c.args.walk.now c.requires.walk c.args.component.now.concept c.args.component.now.start (trail_path c.args.component.now.trail.now) c.requires.component c.args.kind.now c.args.name.now.text c.requires.own c.unwrap-slot.result (subst (Finds c.args.walk.now c.args.component.now.concept c.args.name.now.text) c.unwrap-slot.ensures (subst (λ (s : List ℕ). Finds c.args.walk.now c.args.component.now.concept s c.variable.result) c.text.ensures c.variable.ensures)) c.in-Of.field-0 c.in-Of.is c.unwrap.result c.unwrap.ensures)) c.requires.next),
        ),
      ),
    )

-- src/walk.rt:135:1
pub walk_variable-returns-in-Numeric-clause-visits :
    goal.walk_variable-returns-in-Numeric-clause-visits
walk_variable-returns-in-Numeric-clause-visits t c =
    subst (λ (vs : List Visit). OnOk c.add_variable.result (Bring c.args.walk.now vs c.args.found.now c.add_variable.new.found))
    (sym (variable_met c.args.walk.now (trail_path c.args.component.now.trail.now) c.args.kind.now c.args.name.now (own_entry c.args.walk.now c.requires.walk c.table.result.now (c.table.ensures (concepts_of c.args.walk.now) c.args.walk.now.asked c.requires.component.laid (concept_in c.args.walk.now c.args.walk.now.asked) c.requires.component.laid.asked (concept_there c.args.walk.now c.args.walk.now.asked c.requires.walk.asked)) (c.args.component.now.start + c.unwrap-slot.result.at) ((trail_path c.args.component.now.trail.now) ++ c.args.name.now.text ∷ []) (its_number c.args.walk.now c.requires.walk c.args.component.now.concept c.args.component.now.start (trail_path c.args.component.now.trail.now) c.requires.component c.args.kind.now c.args.name.now.text c.requires.own c.unwrap-slot.result (subst (Finds c.args.walk.now c.args.component.now.concept c.args.name.now.text) c.unwrap-slot.ensures (subst (λ (s : List ℕ). Finds c.args.walk.now c.args.component.now.concept s c.variable.result) c.text.ensures c.variable.ensures))) c.if-table-number.false) c.in-Numeric.is)) c.add_variable.ensures.visits

-- src/walk.rt:135:1
pub walk_variable-returns-in-Of-clause-visits : goal.walk_variable-returns-in-Of-clause-visits
walk_variable-returns-in-Of-clause-visits t c =
    subst (λ (vs : List Visit). OnOk c.walk_component.result (Bring c.args.walk.now vs c.args.found.now c.walk_component.new.found))
    (sym (component_met c.args.walk.now (trail_path c.args.component.now.trail.now) c.args.kind.now c.args.name.now c.in-Of.field-0 c.unwrap.result (own_entry c.args.walk.now c.requires.walk c.table.result.now (c.table.ensures (concepts_of c.args.walk.now) c.args.walk.now.asked c.requires.component.laid (concept_in c.args.walk.now c.args.walk.now.asked) c.requires.component.laid.asked (concept_there c.args.walk.now c.args.walk.now.asked c.requires.walk.asked)) (c.args.component.now.start + c.unwrap-slot.result.at) ((trail_path c.args.component.now.trail.now) ++ c.args.name.now.text ∷ []) (its_number c.args.walk.now c.requires.walk c.args.component.now.concept c.args.component.now.start (trail_path c.args.component.now.trail.now) c.requires.component c.args.kind.now c.args.name.now.text c.requires.own c.unwrap-slot.result (subst (Finds c.args.walk.now c.args.component.now.concept c.args.name.now.text) c.unwrap-slot.ensures (subst (λ (s : List ℕ). Finds c.args.walk.now c.args.component.now.concept s c.variable.result) c.text.ensures c.variable.ensures))) c.if-table-number.false) c.in-Of.is (name_inside c.args.walk.now c.requires.walk c.args.component.now.concept c.args.component.now.start (trail_path c.args.component.now.trail.now) c.requires.component c.args.kind.now c.args.name.now.text c.requires.own c.unwrap-slot.result (subst (Finds c.args.walk.now c.args.component.now.concept c.args.name.now.text) c.unwrap-slot.ensures (subst (λ (s : List ℕ). Finds c.args.walk.now c.args.component.now.concept s c.variable.result) c.text.ensures c.variable.ensures)) c.in-Of.field-0 c.in-Of.is c.unwrap.result c.unwrap.ensures)))
    (subst (λ (p : PathNames). OnOk c.walk_component.result (Bring c.args.walk.now (component_visits c.args.walk.now c.unwrap.result p) c.args.found.now c.walk_component.new.found))
    (path_named c.text-in-Of.result c.args.component.now.trail c.args.name.now.text c.text-in-Of.ensures) c.walk_component.ensures.visits)

-- src/walk.rt:130:9
pub walk_variables-walk_variable-requires : goal.walk_variables-walk_variable-requires
walk_variables-walk_variable-requires t c =
    let split = split_index c.args.names.now c.loop-name.name-index c.name-item.result _ c.loop-name-test.true c.name-item.is in (
      omega (arith, c.decreases),
      (
        c.requires.walk,
        (
          c.requires.component,
          (
            c.requires.own c.name-item.result (subst (λ (ns : List Named). Contains ns c.name-item.result) (sym split.1) (Contains-append_right (take c.loop-name.name-index c.args.names.now) (c.name-item.result ∷ split.0) c.name-item.result (contains_here c.name-item.result split.0))),
            next_part c.args.walk.now (λ (n : Named). variable_visits (inside c.args.walk.now) (is_canonical c.args.walk.now) c.args.kind.now (trail_path c.args.component.now.trail.now ++ n.text ∷ [])) c.args.names.now
                (take c.loop-name.name-index c.args.names.now) (c.name-item.result ∷ []) split.0 c.args.found.now c.loop-name.found split.1
                c.requires.next c.loop-name.invariant,
          ),
        ),
      ),
    )

-- src/walk.rt:110:1
pub walk_variables-returns-clause-visits : goal.walk_variables-returns-clause-visits
walk_variables-returns-clause-visits t c =
    subst (λ (ns : List Named). Bring c.args.walk.now (visits_of c.args.walk.now (trail_path c.args.component.now.trail.now) c.args.kind.now ns) c.args.found.now c.loop-name.found)
    (take_all c.loop-name.name-index c.args.names.now c.loop-name-test.false) c.loop-name.invariant

pub walk_items-loop-item-init : goal.walk_items-loop-item-init
walk_items-loop-item-init t c = bring_none c.args.walk.now c.args.found.now

pub walk_items-loop-item-preserved : goal.walk_items-loop-item-preserved
walk_items-loop-item-preserved t c =
    subst (λ (is : List ItemTree). Bring c.args.walk.now (visits_at c.args.walk.now (trail_path c.args.component.now.trail.now) is) c.args.found.now c.walk_item.new.found)
    (sym (map-append item_tree (take c.loop-item.item-index c.args.items.now) (c.item-item.result ∷ []))
    ∙ ap (map item_tree) (sym (take_next c.args.items.now c.loop-item.item-index c.item-item.result _ c.loop-item-test.true c.item-item.is)))
    (bring_part c.args.walk.now (item_visits (inside c.args.walk.now) (is_canonical c.args.walk.now) (trail_path c.args.component.now.trail.now))
    (map item_tree (take c.loop-item.item-index c.args.items.now)) (item_tree c.item-item.result ∷ []) c.args.found.now c.loop-item.found c.walk_item.new.found
    c.loop-item.invariant c.in_ok-walk_item.ensures.visits)

pub walk_variables-loop-name-init : goal.walk_variables-loop-name-init
walk_variables-loop-name-init t c = bring_none c.args.walk.now c.args.found.now

pub walk_variables-loop-name-preserved : goal.walk_variables-loop-name-preserved
walk_variables-loop-name-preserved t c =
    subst (λ (ns : List Named). Bring c.args.walk.now (visits_of c.args.walk.now (trail_path c.args.component.now.trail.now) c.args.kind.now ns) c.args.found.now c.walk_variable.new.found)
    (sym (take_next c.args.names.now c.loop-name.name-index c.name-item.result _ c.loop-name-test.true c.name-item.is))
    (bring_part c.args.walk.now (λ (n : Named). variable_visits (inside c.args.walk.now) (is_canonical c.args.walk.now) c.args.kind.now (trail_path c.args.component.now.trail.now ++ n.text ∷ []))
    (take c.loop-name.name-index c.args.names.now) (c.name-item.result ∷ []) c.args.found.now c.loop-name.found c.walk_variable.new.found
    c.loop-name.invariant c.in_ok-walk_variable.ensures.visits)

pub walk_component-loop-which-init : goal.walk_component-loop-which-init
walk_component-loop-which-init t c = bring_none c.args.walk.now c.args.found.now

pub walk_component-loop-which-preserved : goal.walk_component-loop-which-preserved
walk_component-loop-which-preserved t c =
    bring_of_line c.args.walk.now c.requires.walk c.args.component.now.concept c.requires.component.known c.line_of-which-items.result.now c.line_of-which-items.ensures c.loop-which.which-index 0 c.loop-which-test.true c.index-walk-which.result _ c.index-walk-which.is (trail_path c.args.component.now.trail.now) c.args.found.now c.loop-which.found c.walk_items.new.found c.loop-which.invariant
    (subst (λ (is : List Item). Bring c.args.walk.now (visits_at c.args.walk.now (trail_path c.args.component.now.trail.now) (map item_tree is)) c.loop-which.found c.walk_items.new.found) (c.as_slice.ensures ∙ ap (λ (x : Concept). x.items) (sym c.index-walk-which.is)) c.in_ok-walk_items.ensures.visits)
