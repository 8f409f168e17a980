use Rattle.std.proofs.Common.{◌≡◌, ◌<◌, ◌+◌, ◌^◌, ℕ, List, Some, subst, Fits, w32, arith}
use Rattle.utopist_syntax.specs.Named.{Named}
use Rattle.concept_walk.specs.Walks.{concepts_of, concept_in}
use Rattle.concept_walk.proofs.Places.{concept_there}
use Rattle.walk_variables.proofs.Looking.{FindsPath, path_found, path_is_small, path_in_table, canonical_in_numbers, variable_is, variable_below}
use Rattle.walk_variables.proofs.site.Site.var_of.Goals as goal

-- src/site.rt:32:13
pub unwrap-slot-requires : goal.unwrap-slot-requires
unwrap-slot-requires c =
    let s = c.args.self.now in
    let h = c.requires.site in
    let finds = subst (λ (ps : List Named). FindsPath s.walk.now s.concept ps c.find.result) c.as_slice.ensures c.find.ensures in
    path_found s.walk.now h.walk s.concept s.start h.at h.place c.args.path.now.parts c.requires.known c.find.result finds

-- src/site.rt:37:21
pub overflow_add-place : goal.overflow_add-place
overflow_add-place c =
    let s = c.args.self.now in
    let h = c.requires.site in
    let finds = subst (λ (ps : List Named). FindsPath s.walk.now s.concept ps c.find.result) c.as_slice.ensures c.find.ensures in
    let small = path_is_small s.walk.now h.walk s.concept s.start h.at h.place c.args.path.now.parts c.requires.known c.find.result finds c.unwrap-slot.result c.unwrap-slot.ensures in
    omega (arith, small)

-- src/site.rt:38:25
pub bounds-table-place : goal.bounds-table-place
bounds-table-place c =
    let s = c.args.self.now in
    let h = c.requires.site in
    let w = s.walk.now in
    let finds = subst (λ (ps : List Named). FindsPath s.walk.now s.concept ps c.find.result) c.as_slice.ensures c.find.ensures in
    let is = c.table.ensures (concepts_of w) w.asked h.walk.laid (concept_in w w.asked) h.walk.laid.asked (concept_there w w.asked h.walk.asked) in
    path_in_table w h.walk s.concept s.start h.at h.place c.args.path.now.parts c.requires.known c.find.result finds c.unwrap-slot.result c.unwrap-slot.ensures c.table.result.now is

-- src/site.rt:39:13
pub bounds-self-canonical : goal.bounds-self-canonical
bounds-self-canonical c =
    let s = c.args.self.now in
    let h = c.requires.site in
    let w = s.walk.now in
    let finds = subst (λ (ps : List Named). FindsPath s.walk.now s.concept ps c.find.result) c.as_slice.ensures c.find.ensures in
    let is = c.table.ensures (concepts_of w) w.asked h.walk.laid (concept_in w w.asked) h.walk.laid.asked (concept_there w w.asked h.walk.asked) in
    canonical_in_numbers w h.walk s.concept s.start h.at h.place c.args.path.now.parts c.requires.known c.find.result finds c.unwrap-slot.result c.unwrap-slot.ensures c.table.result.now is
    s.numbers.now h.numbers

-- src/site.rt:25:5
pub returns-clause-number : goal.returns-clause-number
returns-clause-number c = λ at place.
    let s = c.args.self.now in
    let h = c.requires.site in
    let w = s.walk.now in
    let finds = subst (λ (ps : List Named). FindsPath s.walk.now s.concept ps c.find.result) c.as_slice.ensures c.find.ensures in
    let is = c.table.ensures (concepts_of w) w.asked h.walk.laid (concept_in w w.asked) h.walk.laid.asked (concept_there w w.asked h.walk.asked) in
    variable_is w h.walk s.concept s.start at place c.args.path.now.parts c.requires.known c.find.result finds c.unwrap-slot.result c.unwrap-slot.ensures c.table.result.now is
    s.numbers.now h.numbers

-- src/site.rt:25:5
pub returns-clause-below : goal.returns-clause-below
returns-clause-below c =
    let s = c.args.self.now in
    let h = c.requires.site in
    let w = s.walk.now in
    let finds = subst (λ (ps : List Named). FindsPath s.walk.now s.concept ps c.find.result) c.as_slice.ensures c.find.ensures in
    let is = c.table.ensures (concepts_of w) w.asked h.walk.laid (concept_in w w.asked) h.walk.laid.asked (concept_there w w.asked h.walk.asked) in
    variable_below w h.walk s.concept s.start h.at h.place c.args.path.now.parts c.requires.known c.find.result finds c.unwrap-slot.result c.unwrap-slot.ensures c.table.result.now is
    s.numbers.now h.numbers
