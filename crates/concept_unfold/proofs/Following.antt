-- Items that are added to a problem one after another, where they follow one another.
use Rattle.std.proofs.Common.{◌≡◌, ℕ, ◌+◌, ◌<◌, List, [], ◌∷◌, ◌++◌, length, get_or, drop, map, refl, sym, ap, ◌∙◌, subst, append_assoc}
use Rattle.std.specs.Prelude.{Contains}
use Rattle.std.specs.List.{flat_map}
use Rattle.priz_base.proofs.More.{drop_at}
use Rattle.statement_set.specs.declared.statement.Statement.{Statement}
use Rattle.utopist_syntax.specs.Named.{Named}
use Rattle.utopist_syntax.specs.declared.item.Item.{Item}
use Rattle.utopist_syntax.specs.FileTree.{ItemTree, var, eq, rel, item_tree}
use Rattle.concept_unfold.specs.Paths.{inputs_of, input_names}
use Rattle.concept_unfold.specs.Bodies.{body_over}
use Rattle.concept_unfold.specs.Declarations.{variables, all_variables}
use Rattle.concept_unfold.specs.Unfolded.{var_number, statements_of}
use Rattle.concept_unfold.specs.steps.Plain.{AreFresh, ItemFollows, ItemsFollow}
use Rattle.concept_unfold.proofs.Places.{number_stable, numbers_stable}

statements_stable : (vars more : List (List ℕ)) (i : ItemTree) → ItemFollows vars i → statements_of (vars ++ more) i ≡ statements_of vars i
statements_stable vars more (var ns kind binds) h = refl
statements_stable vars more (eq left right) h = refl
statements_stable vars more (rel n parts output body) h =
    let statement : List ℕ → ℕ → List Statement = λ ins out. record { inputs = ins; subs = []; output = out; body = body_over (input_names parts) body } ∷ [] in
    ap (λ ins. statement ins (var_number (vars ++ more) output)) (numbers_stable vars more (inputs_of parts) h.0)
    ∙ ap (λ out. statement (map (var_number vars) (inputs_of parts)) out) (number_stable vars more output h.1)

module _ (items : List Item) (i : ℕ) (x : Item) (lt : i < length items) (is : x ≡ get_or items i x) where
  both_follow : (vars : List (List ℕ)) → ItemsFollow vars (map item_tree (drop i items)) → ItemFollows vars (item_tree x) × ItemsFollow (vars ++ variables (item_tree x)) (map item_tree (drop (i + 1) items))
  both_follow vars h = subst (λ (y : List Item). ItemsFollow vars (map item_tree y)) (drop_at items i x lt is) h

  pub here_follows : (vars : List (List ℕ)) → ItemsFollow vars (map item_tree (drop i items)) → ItemFollows vars (item_tree x)
  here_follows vars h = (both_follow vars h).0

  pub follows_more : (vars new : List (List ℕ)) → ItemsFollow vars (map item_tree (drop i items)) → new ≡ vars ++ variables (item_tree x) → ItemsFollow new (map item_tree (drop (i + 1) items))
  follows_more vars new h e = subst (λ (v : List (List ℕ)). ItemsFollow v (map item_tree (drop (i + 1) items))) (sym e) (both_follow vars h).1

  pub statements_more : (vars all : List (List ℕ)) (old new whole : List Statement) → vars ++ all_variables (map item_tree (drop i items)) ≡ all → ItemFollows vars (item_tree x) → old ++ flat_map (statements_of all) (map item_tree (drop i items)) ≡ whole → new ≡ old ++ statements_of vars (item_tree x) → new ++ flat_map (statements_of all) (map item_tree (drop (i + 1) items)) ≡ whole
  statements_more vars all old new whole split known h e =
      let same : statements_of all (item_tree x) ≡ statements_of vars (item_tree x) = subst (λ (v : List (List ℕ)). statements_of v (item_tree x) ≡ statements_of vars (item_tree x)) split (statements_stable vars (all_variables (map item_tree (drop i items))) (item_tree x) known) in
      ap (λ v. v ++ flat_map (statements_of all) (map item_tree (drop (i + 1) items))) (e ∙ ap (λ ss. old ++ ss) (sym same))
      ∙ append_assoc old (statements_of all (item_tree x)) (flat_map (statements_of all) (map item_tree (drop (i + 1) items)))
      ∙ sym (ap (λ (y : List Item). old ++ flat_map (statements_of all) (map item_tree y)) (drop_at items i x lt is)) ∙ h

-- the next name of an item is new, and so are those behind it
pub fresh_here : (vars : List (List ℕ)) (ns : List Named) (i : ℕ) (n : Named) → i < length ns → n ≡ get_or ns i n → AreFresh vars (drop i ns) → (¬ Contains vars n.text) × AreFresh (vars ++ n.text ∷ []) (drop (i + 1) ns)
fresh_here vars ns i n lt is h = subst (λ (ms : List Named). AreFresh vars ms) (drop_at ns i n lt is) h
