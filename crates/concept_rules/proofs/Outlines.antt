-- What an outline of a variable says of it.
use Rattle.std.proofs.Common.{◌≡◌, ◌≤◌, ℕ, false, ◌||◌, List, [], ◌∷◌, length, get_or, take, drop, ◌-◌, sym, arith, Option, None, Some, refl, ap, ◌∙◌}
use Rattle.std.specs.Prelude.{option_map, option_and_then}
use Rattle.std.specs.Option.{option_map_or}
use Rattle.std.proofs.lemmas.List.{take_all}
use Rattle.name_sets.specs.Paths.{texts}
use Rattle.utopist_syntax.specs.Named.{Named}
use Rattle.utopist_syntax.specs.declared.item.VarKind.{VarKind}
use Rattle.utopist_syntax.specs.FileTree.{ItemTree, ConceptTree}
use Rattle.concept_rules.specs.Declarations.{Variable, variable}
use Rattle.concept_rules.specs.Kinds.{variable_in, kind_along, kind_of_path}
use Rattle.concept_rules.specs.Overlap.{left_paths, clashes, is_bound_inside}
use Rattle.concept_rules.specs.steps.Variables.{Outline, outline}

module _ (concepts : List ConceptTree) (rest : List Named) where
  -- the type of a path behind a variable
  pub kind_next :
      (o : Option Variable) (p : Option Outline) → p ≡ option_map outline o
      → option_and_then (λ v. kind_along concepts v.kind rest) o
      ≡ option_and_then (λ k. kind_along concepts k rest) (option_map (λ (q : Outline). q.kind) p)
  kind_next None p e = rw e refl
  kind_next (Some v) p e = rw e refl

  -- whether a path behind a variable is bound
  pub bound_next :
      (o : Option Variable) (p : Option Outline) → p ≡ option_map outline o
      → option_map_or (λ (v : Variable). clashes (left_paths v.binds) (texts rest) || is_bound_inside concepts v.kind rest) o false
      ≡ (option_map_or (λ (q : Outline). clashes q.bound (texts rest)) p false || option_map_or (λ k. is_bound_inside concepts k rest) (option_map (λ (q : Outline). q.kind) p) false)
  bound_next None p e = rw e refl
  bound_next (Some v) p e = rw e refl

  module _ (s : Named) (text : List ℕ) (is : text ≡ s.text) where
    -- the same behind a type, if there is one
    pub kind_step :
        (k : Option VarKind) (p : Option Outline)
        → p ≡ option_map outline (option_and_then (λ k. variable_in concepts k text) k)
        → option_and_then (λ k. kind_along concepts k (s ∷ rest)) k
        ≡ option_and_then (λ k. kind_along concepts k rest) (option_map (λ (q : Outline). q.kind) p)
    kind_step None p e = rw e refl
    kind_step (Some k) p e =
        kind_next (variable_in concepts k s.text) p (e ∙ ap (λ (t : List ℕ). option_map outline (variable_in concepts k t)) is)

    pub bound_step :
        (k : Option VarKind) (p : Option Outline)
        → p ≡ option_map outline (option_and_then (λ k. variable_in concepts k text) k)
        → option_map_or (λ k. is_bound_inside concepts k (s ∷ rest)) k false
        ≡ (option_map_or (λ (q : Outline). clashes q.bound (texts rest)) p false || option_map_or (λ k. is_bound_inside concepts k rest) (option_map (λ (q : Outline). q.kind) p) false)
    bound_step None p e = rw e refl
    bound_step (Some k) p e =
        bound_next (variable_in concepts k s.text) p (e ∙ ap (λ (t : List ℕ). option_map outline (variable_in concepts k t)) is)

-- the type of a path by the outline of its first variable
pub path_kind :
    (concepts : List ConceptTree) (before : List ItemTree) (path : List Named) (x : Named)
    → 1 ≤ length path → x ≡ get_or path 0 x → (text : List ℕ) → text ≡ x.text → (p : Option Outline)
    → p ≡ option_map outline (variable before text) → kind_of_path concepts before path
    ≡ option_and_then (λ k. kind_along concepts k (take (length path - 1) (drop 1 path))) (option_map (λ (q : Outline). q.kind) p)
path_kind concepts before [] x le is text same p e = absurd (omega arith)
path_kind concepts before (y ∷ ys) x le is text same p e =
    kind_next concepts ys (variable before y.text) p (e ∙ ap (λ (t : List ℕ). option_map outline (variable before t)) (same ∙ ap (λ (n : Named). n.text) is))
    ∙ ap (λ (ns : List Named). option_and_then (λ k. kind_along concepts k ns) (option_map (λ (q : Outline). q.kind) p)) (sym (take_all (length (y ∷ ys) - 1) ys (omega arith)))
