-- The bodies of a block in which no step lacks one.
use Rattle.std.proofs.Common.{◌≡◌, ℕ, Bool, true, false, cond, List, [], ◌∷◌, ◌++◌, Option, Some, None, refl, sym, ◌∙◌}
use Rattle.std.specs.Prelude.{IsSome, IsSomeAnd, find, not, is_some, slice_get, unwrap_or}
use Rattle.std.specs.Option.{option_or}
use Rattle.std.proofs.lemmas.List.Folds.{find-append}
use Rattle.body_lang.specs.BodyTree.{BodyTree}
use Rattle.statement_set.specs.declared.statement.Statement.{Statement}
use Rattle.statement_set.specs.Problem.{Task}
use Rattle.proof_term.specs.Proof.{Steps, step, Subs}
use Rattle.proof_term.specs.Bodies.{statements_in, statements_in_all, lacks_body, first_without_body}

-- none is found where none is found at the front and none behind it
none_first : {X : Type 0} (f : X → Bool) (x : X) (xs : List X) → find f (x ∷ xs) ≡ None → (f x ≡ false) × (find f xs ≡ None)
none_first {X} f x xs h = by (f x) (find f xs) h where
  by : (b : Bool) (o : Option X) → cond b (Some x) o ≡ None → (b ≡ false) × (o ≡ None)
  by true o h = absurd (cc)
  by false o h = (refl, h)

none_behind : {X : Type 0} (f : X → Bool) (xs ys : List X) → find f (xs ++ ys) ≡ None → find f ys ≡ None
none_behind {X} f xs ys h = by (find f xs) (find f ys) (sym (find-append f xs ys) ∙ h) where
  by : (o q : Option X) → option_or o q ≡ None → q ≡ None
  by None q h = h
  by (Some x) q h = absurd (cc)

module _ (p : Task) where
  has_body : (n : ℕ) → lacks_body p n ≡ false → IsSomeAnd (slice_get p.statements n) (λ s. IsSome s.body)
  has_body n h = by (slice_get p.statements n) h where
    some : (o : Option BodyTree) → not (is_some o) ≡ false → IsSome o
    some None h = absurd (cc)
    some (Some b) h = refl

    by : (o : Option Statement) → not (is_some (unwrap_or o (record { inputs = []; subs = []; output = 0; body = None })).body) ≡ false → IsSomeAnd o (λ s. IsSome s.body)
    by None h = absurd (cc)
    by (Some s) h = some s.body h

  -- the first step has a body, and those behind it have
  pub bodies_of_step : (n : ℕ) (subs : Subs) (more : Steps) → first_without_body p (step n subs more) ≡ None → IsSomeAnd (slice_get p.statements n) (λ s. IsSome s.body) × (first_without_body p more ≡ None)
  bodies_of_step n subs more h =
      let here = none_first (lacks_body p) n (statements_in_all subs ++ statements_in more) h in
      (has_body n here.0, none_behind (lacks_body p) (statements_in_all subs) (statements_in more) here.1)
