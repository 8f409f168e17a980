-- Names that are looked up among the items of several concepts.
use Rattle.std.proofs.Common.{◌≡◌, ℕ, true, List, [], ◌∷◌, Option, Some, None, refl, sym, ap, ◌∙◌, subst, ⊎_elim}
use Rattle.std.specs.Prelude.{Contains, slice_get}
use Rattle.std.specs.Option.{option_or}
use Rattle.std.specs.List.{flat_map}
use Rattle.priz_base.proofs.Members.{contains_here, contains_there, contains_cases, contains_none}
use Rattle.utopist_syntax.specs.FileTree.{ItemTree}
use Rattle.concept_rules.specs.Declarations.{declaration, is_declared}
use Rattle.concept_rules.specs.steps.Extent.{item_place, IsApart}
use Rattle.concept_rules.proofs.Items.{place_is, place_none, declaration-append}

module _ (g : ℕ → List ItemTree) (name : List ℕ) where
  pub apart_rest : (m : ℕ) (line : List ℕ) → IsApart g (m ∷ line) → IsApart g line
  apart_rest m line h = λ text a b c d. h text a b (contains_there m line a c) (contains_there m line b d)

  declared_at : (n j : ℕ) → item_place (g n) name ≡ Some j → is_declared (g n) name ≡ true
  declared_at n j e = rw (place_is (g n) name j e).first refl

  here :
      (m : ℕ) (line : List ℕ) (j : ℕ) → item_place (g m) name ≡ Some j
      → declaration (flat_map g (m ∷ line)) name ≡ slice_get (g m) j
  here m line j e =
      let d = place_is (g m) name j e in
      declaration-append (g m) (flat_map g line) name
      ∙ ap (λ o. option_or o (declaration (flat_map g line) name)) d.first ∙ sym d.there

  behind :
      (m : ℕ) (line : List ℕ) → declaration (g m) name ≡ None
      → declaration (flat_map g (m ∷ line)) name ≡ declaration (flat_map g line) name
  behind m line e =
      declaration-append (g m) (flat_map g line) name
      ∙ ap (λ o. option_or o (declaration (flat_map g line) name)) e

  found_step :
      (m : ℕ) (line : List ℕ) (n j : ℕ) (o : Option ItemTree) → declaration (g m) name ≡ o
      → IsApart g (m ∷ line) → Contains (m ∷ line) n → item_place (g n) name ≡ Some j
      → (Contains line n → declaration (flat_map g line) name ≡ slice_get (g n) j)
      → declaration (flat_map g (m ∷ line)) name ≡ slice_get (g n) j
  found_step m line n j (Some i) o apart c e rest =
      let same : m ≡ n = apart name m n (contains_here m line) c (rw o refl) (declared_at n j e) in
      subst (λ k. declaration (flat_map g (m ∷ line)) name ≡ slice_get (g k) j) same (here m line j (subst (λ k. item_place (g k) name ≡ Some j) (sym same) e))
  found_step m line n j None o apart c e rest =
      let other : n ≡ m → ⊥ = λ s. let d = place_is (g n) name j e in let f : declaration (g m) name ≡ Some d.item = subst (λ k. declaration (g k) name ≡ Some d.item) s d.first in absurd (cc) in
      behind m line o
      ∙ rest (⊎_elim (λ s. absurd (other (sym s))) (λ d. d) (contains_cases m line n c))

  -- the item of one of these concepts is the one among all of them
  pub found_in :
      (line : List ℕ) (n j : ℕ) → IsApart g line → Contains line n → item_place (g n) name ≡ Some j
      → declaration (flat_map g line) name ≡ slice_get (g n) j
  found_in [] n j apart c e = absurd (contains_none n c)
  found_in (m ∷ line) n j apart c e =
      found_step m line n j (declaration (g m) name) refl apart c e (λ d. found_in line n j (apart_rest m line apart) d e)

  -- none of these concepts declares it
  pub missing_in :
      (line : List ℕ) → ((n : ℕ) → Contains line n → item_place (g n) name ≡ None)
      → declaration (flat_map g line) name ≡ None
  missing_in [] h = refl
  missing_in (m ∷ line) h =
      behind m line (place_none (g m) name (h m (contains_here m line)))
      ∙ missing_in line (λ n c. h n (contains_there m line n c))
