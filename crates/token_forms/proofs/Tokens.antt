-- The laws of one symbol that is wanted, alone and before another step.
use Rattle.std.proofs.Common.{◌≡◌, ℕ, suc, List, [], ◌∷◌, length, Option, Some, None, Ok, Err, refl, ap, subst, ◌∙◌, arith}
use Rattle.token_forms.specs.Symbols.{Symbol}
use Rattle.token_forms.specs.steps.Steps.{Unexpected, Miss, Reading, token_value, token_at, picked, pick_at}
use Rattle.token_forms.proofs.StepLaws.{Form, Took, Blames, Laws, Aspect, again_only, all_laws, Keeps, failed_is, ok_is}
use Rattle.token_forms.proofs.Recast.{same_keeps}

-- a part that is one symbol
abbrev pub one_symbol : {X : Type 0} → (X → Symbol) → Form X
one_symbol sign = record { spell = λ x. sign x ∷ []; Fits = λ x M. Unit {0}; grows = λ x m M h f. f; Stops = λ x o. Unit {0}; Enters = λ o. Unit {0} }

module _ {X V : Type 0} (want : Symbol → Option V) (sign : X → Symbol) (see : X → V)
    (found : (x : X) → want (sign x) ≡ Some (see x))
    (finds : (c : Symbol) (v : V) → want c ≡ Some v → (x : X) × (c ≡ sign x) × (see x ≡ v)) (some_x : X) where
  token_take : (room : ℕ) (ts : List Symbol) (v : V × List Symbol) → token_at want room ts ≡ Ok v → Took (one_symbol sign) see room ts v
  token_take room [] v e = absurd cc
  token_take room (c ∷ cs) v e = go (want c) refl e where
    go : (o : Option V) → want c ≡ o → token_value o (c ∷ cs) cs ≡ Ok v → Took (one_symbol sign) see room (c ∷ cs) v
    go None w i = absurd cc
    go (Some u) w i =
        let x = finds c u w in
        let y = ok_is (u, cs) v i in
        record { part = x.0; seen = x.2 ∙ ap (λ (p : V × List Symbol). p.0) y; parts = ap (λ d. d ∷ cs) x.1 ∙ ap (λ (p : V × List Symbol). sign x.0 ∷ p.1) y; fits = tt; stops = tt }

  token_blames : (room : ℕ) (ts : List Symbol) (e : Miss) → token_at want room ts ≡ Err e → Blames (one_symbol sign) (token_at want) room ts e
  token_blames room [] e h = subst (λ q. Blames (one_symbol sign) (token_at want) room [] q) (failed_is V (Unexpected, 0) e h) (record { front = []; wrong = []; split = refl; size = refl; begun = some_x; more = sign some_x ∷ []; fits = tt; begins = refl; stuck = tt; further = tt })
  token_blames room (c ∷ cs) e h = go (want c) refl h where
    go : (o : Option V) → want c ≡ o → token_value o (c ∷ cs) cs ≡ Err e → Blames (one_symbol sign) (token_at want) room (c ∷ cs) e
    go None w i = subst (λ q. Blames (one_symbol sign) (token_at want) room (c ∷ cs) q) (failed_is V (Unexpected, length (c ∷ cs)) e i) (record {
      front = [];
      wrong = c ∷ cs;
      split = refl;
      size = refl;
      begun = some_x;
      more = sign some_x ∷ [];
      fits = tt;
      begins = refl;
      stuck = record { fails = λ M r more. rw w (ap (λ (k : ℕ). err_at V k) (let q : length (c ∷ more) ≡ suc (length more) = omega arith in q)) };
      further = tt;
    }) where
      err_at : (U : Type 0) → ℕ → Reading U
      err_at U k = Err (Unexpected, k)
    go (Some u) w i = absurd cc

  token_laws : (room : ℕ) → Laws (one_symbol sign) see (token_at want) room
  token_laws room = record { again = λ M. record { again = λ x h rest s. rw (found x) refl }; take = λ ts v n e. token_take room ts v e; blames = λ ts e n h. token_blames room ts e h }

  pub token_keeps : (m : Aspect) (room : ℕ) → Keeps m (one_symbol sign) see (token_at want) room
  token_keeps again_only room = (token_laws room).again room
  token_keeps all_laws room = token_laws room

-- ---- a symbol that is found by what it stands for

module _ {X V : Type 0} (find : Option Symbol → Option V) (sign : X → Symbol) (see : X → V) (nothing : find None ≡ None)
    (found : (x : X) → find (Some (sign x)) ≡ Some (see x))
    (finds : (c : Symbol) (v : V) → find (Some c) ≡ Some v → (x : X) × (c ≡ sign x) × (see x ≡ v)) (some_x : X) where
  abbrev wanted : Symbol → Option V
  wanted c = find (Some c)

  same_pick : (room : ℕ) (ts : List Symbol) → token_at wanted room ts ≡ pick_at find room ts
  same_pick room [] = rw nothing refl
  same_pick room (c ∷ cs) = go (find (Some c)) where
    go : (o : Option V) → token_value o (c ∷ cs) cs ≡ picked o (c ∷ cs)
    go None = refl
    go (Some v) = refl

  pub pick_keeps : (m : Aspect) (room : ℕ) → Keeps m (one_symbol sign) see (pick_at find) room
  pick_keeps m room = same_keeps (one_symbol sign) see (token_at wanted) (pick_at find) same_pick m room (token_keeps wanted sign see found finds some_x m room)
