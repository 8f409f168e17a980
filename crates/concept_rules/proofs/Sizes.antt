-- The sizes of subtasks, part by part.
use Rattle.std.specs.Prelude.{slice_get, pos, negsuc}
use Rattle.std.proofs.Common.{zero, suc, ℤ, ◌≡◌, ℕ, ◌+◌, ◌<◌, List, [], ◌∷◌, ◌++◌, length, get_or, drop, map, refl, sym, ap, ◌∙◌, append_assoc}
use Rattle.priz_base.proofs.More.{drop_at}
use Rattle.body_lang.specs.declared.arity.Arity.{Arity}
use Rattle.utopist_syntax.specs.declared.item.Part.{Part}
use Rattle.utopist_syntax.specs.declared.item.Part.TheVariants.{Input, Subtask}
use Rattle.concept_rules.specs.declared.calls.Sizes.{Sizes}
use Rattle.concept_rules.specs.BodyFault.{arity_of}
use Rattle.concept_rules.specs.ItemRules.{arities_of}
use Rattle.concept_rules.specs.steps.Arities.{arity_behind, arity_found, sizes_numbered}

one_part : (p : Part) (parts : List Part) → arities_of (p ∷ parts) ≡ arities_of (p ∷ []) ++ arities_of parts
one_part (Input p) parts = refl
one_part (Subtask inputs outputs) parts = refl

-- with one more part those that were gathered and those that are left are all again
pub more_sizes :
    (all old new : List Arity) (parts : List Part) (i : ℕ) (p : Part) → i < length parts
    → p ≡ get_or parts i p → all ≡ old ++ arities_of (drop i parts) → new ≡ old ++ arities_of (p ∷ [])
    → all ≡ new ++ arities_of (drop (i + 1) parts)
more_sizes all old new parts i p lt is so_far e =
    so_far ∙ ap (λ (ps : List Part). old ++ arities_of ps) (drop_at parts i p lt is)
    ∙ ap (λ (rest : List Arity). old ++ rest) (one_part p (drop (i + 1) parts))
    ∙ sym (append_assoc old (arities_of (p ∷ [])) (arities_of (drop (i + 1) parts)))
    ∙ ap (λ (extent : List Arity). extent ++ arities_of (drop (i + 1) parts)) (sym e)

found_at :
    (sizes : List Sizes) (k : ℕ)
    → arity_found (slice_get sizes k) ≡ slice_get (map arity_behind sizes) k
found_at [] k = refl
found_at (s ∷ sizes) zero = refl
found_at (s ∷ sizes) (suc k) = found_at sizes k

-- the sizes of a subtask by its number are what it takes and gives
pub numbered_is :
    (sizes : List Sizes) (k : ℤ)
    → arity_found (sizes_numbered sizes k) ≡ arity_of (map arity_behind sizes) k
numbered_is sizes (pos zero) = refl
numbered_is sizes (pos (suc k)) = found_at sizes k
numbered_is sizes (negsuc k) = refl
