-- The asked concept itself, where a walk begins.
use Rattle.std.proofs.Common.{◌≡◌, ℕ, ◌+◌, List, [], ◌∷◌, ◌++◌, map, refl, sym, ap, ◌∙◌, subst, append-nil, arith}
use Rattle.std.specs.Prelude.{slice_get}
use Rattle.statement_set.specs.Problem.{empty_task}
use Rattle.canonical_paths.specs.PathNames.{PathNames}
use Rattle.concept_walk.specs.declared.walk.Walk.{Walk}
use Rattle.concept_walk.specs.declared.found.Met.{Met}
use Rattle.concept_walk.specs.declared.found.Walked.{Walked}
use Rattle.concept_walk.specs.declared.trail.Trail.TheVariants as variants
use Rattle.concept_walk.specs.declared.trail.Trail.TheBlock as block
use Rattle.concept_walk.specs.declared.trail.Trail.TheOpen.{Trail-F}
use Rattle.concept_walk.specs.declared.trail.Trail.TheFolds.{fold-roll-Trail}
use Rattle.concept_walk.specs.steps.Trails.{trail_path, name_behind}
use Rattle.concept_walk.specs.Walks.{IsWalk, IsPlace, AreAllMet, AreFound, concept_in, paths_in, whole_walk}
use Rattle.concept_walk.specs.steps.Bringing.{AreNext, Bring, component_visits}

-- it has no path
pub path_outermost : trail_path block.Outermost ≡ []
path_outermost = ap trail_path (sym variants.rolls-Outermost) ∙ fold-roll-Trail PathNames name_behind Trail-F.Outermost

module _ (w : Walk) (h : IsWalk w) where
  -- it is at its own place
  pub outermost_place : (at : PathNames) → at ≡ [] → IsPlace w w.asked 0 at
  outermost_place at e = subst (IsPlace w w.asked 0) (sym e) (record {
    laid = h.laid;
    reached = h.laid.asked;
    known = h.asked;
    leads = record { names = []; are = refl; type = (concept_in w w.asked).name; leads = refl; named = refl };
    stand = λ n q is. let e : 0 + n ≡ n = omega arith in ap (slice_get (paths_in w w.asked)) e ∙ is;
  })

  module _ (f : Walked) (problem : f.problem ≡ empty_task) (variables : f.variables ≡ []) (items : f.items ≡ []) where
    nothing_found : AreFound w [] f
    nothing_found = record {
      problem = problem;
      variables = ap (map (slice_get (paths_in w w.asked))) variables;
      items = subst (AreAllMet w []) (sym items) tt;
    }

    -- all of its visits come next
    pub outermost_next : (at : PathNames) → at ≡ [] → AreNext w (component_visits w w.asked at) f
    outermost_next at e = subst (λ (p : PathNames). AreNext w (component_visits w w.asked p) f) (sym e) (record {
      before = [];
      rest = [];
      are = sym (append-nil (whole_walk w));
      found = nothing_found;
    })

    -- and when they are brought, the whole walk is found
    pub outermost_found : (at : PathNames) → at ≡ [] → (new : Walked) → Bring w (component_visits w w.asked at) f new → AreFound w (whole_walk w) new
    outermost_found at e new brought =
        subst (λ (p : PathNames). Bring w (component_visits w w.asked p) f new) e brought [] [] (sym (append-nil (whole_walk w))) nothing_found
