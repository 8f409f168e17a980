-- What is found in a table.
use Rattle.std.proofs.Common.{◌≡◌, Bool, true, false, cond, List, [], ◌∷◌, Option, Some, refl, subst}
use Rattle.std.specs.List.{find}

find_step : {X : Type 0} (p : X → Bool) (y : X) (found : Option X) (x : X) (b : Bool) → (found ≡ Some x → p x ≡ true) → p y ≡ b → cond b (Some y) found ≡ Some x → p x ≡ true
find_step p y found x true ih py e = let same : y ≡ x = cc in subst (λ z. p z ≡ true) same py
find_step p y found x false ih py e = ih e

-- what is found passes
pub find_some : {X : Type 0} (p : X → Bool) (xs : List X) (x : X) → find p xs ≡ Some x → p x ≡ true
find_some p [] x e = absurd cc
find_some p (y ∷ ys) x e = find_step p y (find p ys) x (p y) (find_some p ys x) refl e
