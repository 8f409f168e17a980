-- The path of a component inside of another.
use Rattle.std.proofs.Common.{◌≡◌, ℕ, List, [], ◌∷◌, ◌++◌, sym, ap, ◌∙◌, subst, Bor}
use Rattle.canonical_paths.specs.PathNames.{PathNames}
use Rattle.concept_walk.specs.declared.trail.Trail.{Trail}
use Rattle.concept_walk.specs.declared.trail.Trail.TheVariants as variants
use Rattle.concept_walk.specs.declared.trail.Trail.TheViews as views
use Rattle.concept_walk.specs.declared.trail.Trail.TheOpen.{Trail-F}
use Rattle.concept_walk.specs.declared.trail.Trail.TheFolds.{fold-roll-Trail}
use Rattle.concept_walk.specs.steps.Trails.{trail_path, name_behind}

-- its name stands behind those around it
pub path_inside : (name : Bor (List ℕ)) (around : Bor Trail) → trail_path (variants.Inside name around) ≡ trail_path around.now ++ name.now ∷ []
path_inside name around =
    ap trail_path (sym (variants.rolls-Inside name around)) ∙ fold-roll-Trail PathNames name_behind (Trail-F.Inside name around)

-- the same, where the name is this one
pub path_named : (name : Bor (List ℕ)) (around : Bor Trail) (text : List ℕ) → name.now ≡ text → trail_path (views.Inside name around) ≡ trail_path around.now ++ text ∷ []
path_named name around text e = path_inside name around ∙ ap (λ (t : List ℕ). trail_path around.now ++ t ∷ []) e
