use Rattle.std.proofs.Common.{◌≡◌, ◌<◌, ◌+◌, ◌∷◌, [], ◌++◌, ◌∙◌, ℕ, List, map, length, sym, ap, subst, arith}
use Rattle.std.specs.Prelude.{All}
use Rattle.std.proofs.lemmas.List.{length-map}
use Rattle.utopist_syntax.specs.FileTree.{concept_tree}
use Rattle.canonical_paths.specs.LaidOut.{LaidOut}
use Rattle.canonical_paths.specs.steps.AllLayouts.{HaveAllLayouts}
use Rattle.canonical_paths.specs.steps.Marks.{marked}
use Rattle.canonical_paths.proofs.Elements.{there}
use Rattle.canonical_paths.proofs.MarkedConcepts.{mark_is, mark_isnt, is_marked, line_is_within}
use Rattle.canonical_paths.proofs.NextLayouts.{if_ok, next_within, is_ready, reached_layout, unreached_layout}
use Rattle.canonical_paths.proofs.layouts.next_layout.Goals as goal

pub line_of-requires : goal.line_of-requires
line_of-requires c =
    let w = next_within (map concept_tree c.args.concepts.now) c.requires.marks.0 c.args.marks.now c.args.layouts.now c.requires.marks.1 c.requires.next in
    omega (arith, w, c.requires.lineages.count)

pub lay_out-requires-clause-ready : goal.lay_out-requires-clause-ready
lay_out-requires-clause-ready c =
    let t = there (map concept_tree c.args.concepts.now) (length c.args.layouts.now) (next_within (map concept_tree c.args.concepts.now) c.requires.marks.0 c.args.marks.now c.args.layouts.now c.requires.marks.1 c.requires.next) in
    is_ready (map concept_tree c.args.concepts.now) c.requires.kept c.requires.marks.0 c.args.marks.now c.requires.marks.1 c.args.layouts.now c.requires.laid t.0 t.1
    (mark_is c.args.marks.now (length c.args.layouts.now) _ c.requires.next c.if-marks-layouts.true) (omega (arith, c.requires.next, c.requires.numbers))
    c.args.lineages.now c.requires.lineages c.line_of.result.now c.line_of.ensures

pub lay_out-requires-clause-line : goal.lay_out-requires-clause-line
lay_out-requires-clause-line c =
    subst (λ (m : ℕ). All (λ (k : ℕ). k < m) c.line_of.result.now) (length-map c.args.concepts.now concept_tree)
    (line_is_within (map concept_tree c.args.concepts.now) c.args.lineages.now (length c.args.layouts.now) c.line_of.result.now c.requires.lineages
    (next_within (map concept_tree c.args.concepts.now) c.requires.marks.0 c.args.marks.now c.args.layouts.now c.requires.marks.1 c.requires.next) c.line_of.ensures)

pub returns-then-marks-layouts : goal.returns-then-marks-layouts
returns-then-marks-layouts c =
    let t = there (map concept_tree c.args.concepts.now) (length c.args.layouts.now) (next_within (map concept_tree c.args.concepts.now) c.requires.marks.0 c.args.marks.now c.args.layouts.now c.requires.marks.1 c.requires.next) in
    if_ok c.lay_out.result _ _ c.lay_out.ensures
    (λ l covers.
    reached_layout (map concept_tree c.args.concepts.now) c.requires.kept c.requires.marks.0 c.args.marks.now c.requires.marks.1 c.args.layouts.now c.requires.laid t.0 t.1
    (mark_is c.args.marks.now (length c.args.layouts.now) _ c.requires.next c.if-marks-layouts.true) (omega (arith, c.requires.next, c.requires.numbers))
    c.args.lineages.now c.requires.lineages c.line_of.result.now c.line_of.ensures l covers)

pub returns-else-marks-layouts : goal.returns-else-marks-layouts
returns-else-marks-layouts c =
    subst (λ (l : LaidOut). HaveAllLayouts (map concept_tree c.args.concepts.now) (marked c.args.marks.now) (c.args.layouts.now ++ l ∷ [])) (sym c.new.ensures)
    (unreached_layout (map concept_tree c.args.concepts.now) (marked c.args.marks.now) c.args.layouts.now c.requires.laid
    (next_within (map concept_tree c.args.concepts.now) c.requires.marks.0 c.args.marks.now c.args.layouts.now c.requires.marks.1 c.requires.next)
    (λ r. mark_isnt c.args.marks.now (length c.args.layouts.now) _ c.requires.next c.if-marks-layouts.false (is_marked c.args.marks.now (length c.args.layouts.now) r)))
