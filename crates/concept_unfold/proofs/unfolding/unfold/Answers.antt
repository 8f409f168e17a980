use Rattle.std.proofs.Common.{◌≡◌, ℕ, List, [], map, Ok, Err, subst, sym, ap, ◌∙◌}
use Rattle.std.specs.Prelude.{All}
use Rattle.std.proofs.lemmas.Result.{err_from_is_err_and}
use Rattle.body_lang.proofs.Verdicts.{both_pass}
use Rattle.statement_set.specs.declared.statement.Statement.{Statement}
use Rattle.statement_set.specs.Problem.{Task}
use Rattle.utopist_syntax.specs.declared.compute.Compute.{Compute}
use Rattle.utopist_syntax.specs.FileTree.{ItemTree, item_tree, concept_tree, file_tree}
use Rattle.concept_rules.specs.Checks.{Checks}
use Rattle.concept_rules.specs.Limits.{max_computes}
use Rattle.concept_rules.specs.Paths.{given_paths}
use Rattle.concept_unfold.specs.Built.{IsBuiltItem}
use Rattle.concept_unfold.specs.Paths.{given_names}
use Rattle.concept_unfold.specs.Declarations.{all_variables, items_of}
use Rattle.concept_unfold.specs.UnfoldingRules.{limits_fault, once_fault, unfolding_fault}
use Rattle.concept_unfold.specs.Unfolded.{AreKnown, problem_from, problem_of}
use Rattle.concept_unfold.specs.steps.Plain.{ItemsFollow}
use Rattle.concept_unfold.proofs.PlainFiles.{file_follows, own_built}
use Rattle.concept_unfold.proofs.KeptLimits.{few_variables, few_nodes, few_statements}
use Rattle.concept_unfold.proofs.Asked.{it_asks, stands, same_items, limits_fail, once_fails, problem_is}
use Rattle.concept_unfold.proofs.Whole.{whole, plain}
use Rattle.concept_unfold.proofs.unfolding.unfold.Goals as goal

pub add_items-requires : goal.add_items-requires
add_items-requires c =
    let f = file_tree c.args.file.now in
    let w = c.index-as_slice-which.result in
    let items = map item_tree c.items_of-items.result.now in
    let same = same_items f.concepts (map concept_tree c.as_slice-2.result.now) w.name.text c.text.result.now items c.items_of-items.ensures (ap (map concept_tree) c.as_slice-2.ensures) c.text.ensures in
    let kept = sym c.in_ok-check_limits.ensures in
    record {
      empty = c.new-problem.ensures;
      rules = subst (ItemsFollow []) (sym same) ((file_follows max_computes f c.requires.built c.requires.rules).items w.name.text);
      built = subst (λ (is : List ItemTree). All IsBuiltItem is) (sym same) (own_built f.concepts w.name.text c.requires.built);
      names = few_variables w.name items kept;
      size = few_nodes w.name items kept;
      statements = few_statements w.name items kept;
    }

pub add_goal-requires : goal.add_goal-requires
add_goal-requires c =
    let f = file_tree c.args.file.now in
    let w = c.index-as_slice-which.result in
    let there = stands c.as_slice.result.now f.computes c.args.which w c.as_slice.ensures c.requires.which c.index-as_slice-which.is in
    let items = map item_tree c.items_of-items.result.now in
    let same = same_items f.concepts (map concept_tree c.as_slice-2.result.now) w.name.text c.text.result.now items c.items_of-items.ensures (ap (map concept_tree) c.as_slice-2.ensures) c.text.ensures in
    let names = ap (λ (p : Task). p.names) c.in_ok-add_items.ensures ∙ ap all_variables same in
    let follows = (file_follows max_computes f c.requires.built c.requires.rules).goals c.args.which w there in
    record {
      no_givens = ap (λ (p : Task). p.givens) c.in_ok-add_items.ensures;
      no_wants = ap (λ (p : Task). p.wants) c.in_ok-add_items.ensures;
      givens = subst (λ (vars : List (List ℕ)). AreKnown vars (given_paths w.givens)) (sym names) follows.0;
      wants = subst (λ (vars : List (List ℕ)). AreKnown vars w.wants) (sym names) follows.1;
    }

pub returns-in_err-check_limits-clause-problem : goal.returns-in_err-check_limits-clause-problem
returns-in_err-check_limits-clause-problem c = λ x at.
    let f = file_tree c.args.file.now in
    let w = c.index-as_slice-which.result in
    let e = c.in_err-check_limits.field-0.0 in
    let there = stands c.as_slice.result.now f.computes c.args.which w c.as_slice.ensures c.requires.which c.index-as_slice-which.is in
    let one : w ≡ x = cc in
    let same = same_items f.concepts (map concept_tree c.as_slice-2.result.now) w.name.text c.text.result.now (map item_tree c.items_of-items.result.now) c.items_of-items.ensures (ap (map concept_tree) c.as_slice-2.ensures) c.text.ensures in
    let p = err_from_is_err_and c.from_residual.result c.from_residual.ensures.1 in
    rw (p.1, p.2)
    (subst (λ (y : Compute). unfolding_fault f y ≡ Err e) one
    (limits_fail f w e (ap (limits_fault w.name) (sym same) ∙ sym c.in_err-check_limits.ensures)))

pub returns-in_err-add_goal-clause-problem : goal.returns-in_err-add_goal-clause-problem
returns-in_err-add_goal-clause-problem c = λ x at.
    let f = file_tree c.args.file.now in
    let w = c.index-as_slice-which.result in
    let e = c.in_err-add_goal.field-0.0 in
    let there = stands c.as_slice.result.now f.computes c.args.which w c.as_slice.ensures c.requires.which c.index-as_slice-which.is in
    let one : w ≡ x = cc in
    let same = same_items f.concepts (map concept_tree c.as_slice-2.result.now) w.name.text c.text.result.now (map item_tree c.items_of-items.result.now) c.items_of-items.ensures (ap (map concept_tree) c.as_slice-2.ensures) c.text.ensures in
    let kept = ap (limits_fault w.name) (sym same) ∙ sym c.in_ok-check_limits.ensures in
    let p = err_from_is_err_and c.from_residual-in_err-add_goal.result c.from_residual-in_err-add_goal.ensures.1 in
    rw (p.1, p.2)
    (subst (λ (y : Compute). Checks {X = Task} (unfolding_fault f y) (Err e)) one (once_fails f w e kept c.in_err-add_goal.ensures.once))

pub returns-clause-problem : goal.returns-clause-problem
returns-clause-problem c = λ x at.
    let f = file_tree c.args.file.now in
    let w = c.index-as_slice-which.result in
    let q = c.add_goal.new.problem in
    let there = stands c.as_slice.result.now f.computes c.args.which w c.as_slice.ensures c.requires.which c.index-as_slice-which.is in
    let one : w ≡ x = cc in
    let items = map item_tree c.items_of-items.result.now in
    let same = same_items f.concepts (map concept_tree c.as_slice-2.result.now) w.name.text c.text.result.now items c.items_of-items.ensures (ap (map concept_tree) c.as_slice-2.ensures) c.text.ensures in
    let kept = ap (limits_fault w.name) (sym same) ∙ sym c.in_ok-check_limits.ensures in
    let made = problem_is w items c.add_items.new.problem q c.in_ok-add_items.ensures c.in_ok-add_goal.ensures.added ∙ ap (λ (is : List ItemTree). problem_from is w) same in
    subst (λ (y : Compute). (unfolding_fault f y ≡ Ok tt) × (q ≡ problem_of f y)) one
    (both_pass (limits_fault w.name (items_of f.concepts w.name.text)) (once_fault [] (given_names w.givens)) kept c.in_ok-add_goal.ensures.once, made)

pub returns-clause-whole : goal.returns-clause-whole
returns-clause-whole c =
    let f = file_tree c.args.file.now in
    let w = c.index-as_slice-which.result in
    let there = stands c.as_slice.result.now f.computes c.args.which w c.as_slice.ensures c.requires.which c.index-as_slice-which.is in
    let items = map item_tree c.items_of-items.result.now in
    let same = same_items f.concepts (map concept_tree c.as_slice-2.result.now) w.name.text c.text.result.now items c.items_of-items.ensures (ap (map concept_tree) c.as_slice-2.ensures) c.text.ensures in
    let vars = c.add_items.new.problem.names in
    let names = ap (λ (p : Task). p.names) c.in_ok-add_items.ensures ∙ ap all_variables same in
    let added = c.in_ok-add_goal.ensures.added in
    let follows = (file_follows max_computes f c.requires.built c.requires.rules).goals c.args.which w there in
    whole c.add_goal.new.problem vars w.wants (ap (λ (p : Task). p.names) added) (ap (λ (p : Task). p.wants) added)
    (subst (λ (v : List (List ℕ)). AreKnown v w.wants) (sym names) follows.1) (it_asks f c.args.which w there c.requires.shape)

pub returns-clause-plain : goal.returns-clause-plain
returns-clause-plain c =
    let items = map item_tree c.items_of-items.result.now in
    let statements = ap (λ (p : Task). p.statements) c.in_ok-add_goal.ensures.added ∙ ap (λ (p : Task). p.statements) c.in_ok-add_items.ensures in
    subst (λ (ss : List Statement). All (λ (s : Statement). s.subs ≡ []) ss) (sym statements) (plain (all_variables items) items)
