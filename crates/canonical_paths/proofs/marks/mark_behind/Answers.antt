use Rattle.std.proofs.Common.{◌≡◌, ◌<◌, ◌∙◌, ℕ, Bool, List, [], map, length, sym, subst, arith}
use Rattle.std.specs.Prelude.{All}
use Rattle.std.proofs.lemmas.List.{length-map}
use Rattle.utopist_syntax.specs.FileTree.{concept_tree}
use Rattle.canonical_paths.specs.steps.Ready.{StandOnce}
use Rattle.canonical_paths.specs.steps.Marks.{IsMarked}
use Rattle.canonical_paths.proofs.ConceptNumbers.{names_stand_once}
use Rattle.canonical_paths.proofs.MarkedConcepts.{mark_is, mark_isnt, line_is_within, line_marked, unmarked_behind}
use Rattle.canonical_paths.proofs.marks.mark_behind.Goals as goal

pub mark_line-requires-clause-line : goal.mark_line-requires-clause-line
mark_line-requires-clause-line c =
    let n = length-map c.args.concepts.now concept_tree in
    subst (λ (m : ℕ). All (λ (k : ℕ). k < m) c.line_of.result.now) n
    (line_is_within (map concept_tree c.args.concepts.now) c.args.lineages.now c.args.at c.line_of.result.now c.requires.lineages (omega (arith, n, c.requires.at)) c.line_of.ensures)

pub mark_line-requires-clause-once : goal.mark_line-requires-clause-once
mark_line-requires-clause-once c =
    subst StandOnce (sym c.requires.lineages.names) (names_stand_once (map concept_tree c.args.concepts.now) c.requires.kept)

pub returns-then-as_slice-at : goal.returns-then-as_slice-at
returns-then-as_slice-at c =
    λ asked h.
    let n = length-map c.args.concepts.now concept_tree in
    line_marked (map concept_tree c.args.concepts.now) c.requires.kept c.args.lineages.now asked c.args.at c.line_of.result.now c.args.marks.now c.mark_line.new.marks
    c.requires.lineages (omega (arith, n, c.requires.at)) c.requires.marks c.line_of.ensures
    (subst (λ (ms : List Bool). IsMarked ms c.args.at) c.as_slice.ensures (mark_is c.as_slice.result.now c.args.at _ (subst (λ (ms : List Bool). c.args.at < length ms) (sym c.as_slice.ensures) c.requires.marks) c.if-as_slice-at.true))
    c.mark_line.ensures h

pub returns-else-as_slice-at : goal.returns-else-as_slice-at
returns-else-as_slice-at c =
    λ asked h. unmarked_behind (map concept_tree c.args.concepts.now) c.requires.kept asked c.args.at c.args.marks.now
    (λ m.
    mark_isnt c.as_slice.result.now c.args.at _ (subst (λ (ms : List Bool). c.args.at < length ms) (sym c.as_slice.ensures) c.requires.marks) c.if-as_slice-at.false
    (subst (λ (ms : List Bool). IsMarked ms c.args.at) (sym c.as_slice.ensures) m)) h
