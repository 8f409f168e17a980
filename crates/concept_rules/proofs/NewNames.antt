-- Names of an item that has passed its rules: they are new, and differ.
use Rattle.std.proofs.Common.{◌≡◌, ◌≢◌, ℕ, zero, suc, Bool, true, false, ◌||◌, List, [], ◌∷◌, ◌++◌, get_or, Ok, refl, sym, ap, ◌∙◌, subst, AllPairs, arith}
use Rattle.std.specs.Str.{bytes_eq}
use Rattle.std.proofs.lemmas.Slice.Eq.{bytes_eq-Decides}
use Rattle.std.proofs.lemmas.List.Elements.{Contains-get_or}
use Rattle.body_lang.specs.Verdicts.{and_then}
use Rattle.body_lang.proofs.Verdicts.{first_passes, second_passes}
use Rattle.utopist_syntax.specs.Named.{Named}
use Rattle.utopist_syntax.specs.FileTree.{ItemTree, var, eq, rel, ConceptTree}
use Rattle.name_sets.specs.Paths.{texts}
use Rattle.concept_rules.specs.Declarations.{is_among, declared, is_declared}
use Rattle.concept_rules.specs.ItemRules.{new_name, new_names, item_fault}
use Rattle.concept_rules.proofs.Among.{among}
use Rattle.concept_rules.proofs.Sharing.{any_append}
use Rattle.concept_rules.proofs.Growing.{New}
use Rattle.concept_rules.proofs.Steps.{passes}

neither : (a b : Bool) → (a || b) ≡ false → (a ≡ false) × (b ≡ false)
neither true b h = absurd (cc)
neither false b h = (refl, h)

-- names that are new behind some others
record NewBehind (items : List ItemTree) (others names : List (List ℕ)) : Type 0 where
  pub new : (name : List ℕ) → is_among name names ≡ true → is_declared items name ≡ false
  pub apart : (name : List ℕ) → is_among name names ≡ true → is_among name others ≡ false
  pub once : AllPairs (λ a b. a ≢ b) names

no_names : (items : List ItemTree) (others : List (List ℕ)) → NewBehind items others []
no_names items others = record { new = λ name h. absurd (cc); apart = λ name h. absurd (cc); once = λ i j d l m. absurd (omega arith) }

one_name :
    (items : List ItemTree) (others : List (List ℕ)) (n : Named) → new_name items others n ≡ Ok tt
    → (is_declared items n.text ≡ false) × (is_among n.text others ≡ false)
one_name items others n h =
    neither (is_declared items n.text) (is_among n.text others) (passes (is_declared items n.text || is_among n.text others) _ h)

new_step :
    (items : List ItemTree) (n : List ℕ) (ns : List (List ℕ)) (name : List ℕ) (b : Bool)
    → bytes_eq name n ≡ b → is_among name (n ∷ ns) ≡ true → (p : List ℕ → Bool) → p n ≡ false
    → (is_among name ns ≡ true → p name ≡ false) → p name ≡ false
new_step items n ns name true e h p first rest =
    subst (λ m. p m ≡ false) (sym ((bytes_eq-Decides name n).0 e)) first
new_step items n ns name false e h p first rest = rest (rw e at h)

front_apart :
    (others : List (List ℕ)) (n name : List ℕ) → is_among name (others ++ n ∷ []) ≡ false
    → (is_among name others ≡ false) × (name ≢ n)
front_apart others n name h =
    let p = neither (is_among name others) (bytes_eq name n || false) (sym (any_append (bytes_eq name) others (n ∷ [])) ∙ h) in
    let q = neither (bytes_eq name n) false p.1 in
    (p.0, λ s. let t = (bytes_eq-Decides name n).1 s in let f = q.0 in absurd (cc))

once_step :
    (n : List ℕ) (ns : List (List ℕ)) → ((name : List ℕ) → is_among name ns ≡ true → name ≢ n)
    → AllPairs (λ a b. a ≢ b) ns → AllPairs (λ a b. a ≢ b) (n ∷ ns)
once_step n ns other rest zero zero d l m = absurd (omega arith)
once_step n ns other rest zero (suc j) d l m = λ s. other (get_or ns j d) (among (get_or ns j d) ns (Contains-get_or ns j d (omega arith))) (sym s)
once_step n ns other rest (suc i) zero d l m = absurd (omega arith)
once_step n ns other rest (suc i) (suc j) d l m = rest i j d (omega arith) (omega arith)

all_new :
    (items : List ItemTree) (others : List (List ℕ)) (names : List Named)
    → new_names items others names ≡ Ok tt → NewBehind items others (texts names)
all_new items others [] h = no_names items others
all_new items others (n ∷ ns) h =
    let first = one_name items others n (first_passes _ _ h) in
    let rest = all_new items (others ++ n.text ∷ []) ns (second_passes _ _ h) in
    record {
      new = λ name a. new_step items n.text (texts ns) name (bytes_eq name n.text) refl a (is_declared items) first.0 (rest.new name);
      apart = λ name a. new_step items n.text (texts ns) name (bytes_eq name n.text) refl a (λ m. is_among m others) first.1 (λ b. (front_apart others n.text name (rest.apart name b)).0);
      once =
          once_step n.text (texts ns) (λ name a. (front_apart others n.text name (rest.apart name a)).1) rest.once;
    }

-- the names that an item declares are new where it passes
pub item_new :
    (concepts : List ConceptTree) (items : List ItemTree) (item : ItemTree)
    → item_fault concepts items item ≡ Ok tt → New items (declared item)
item_new concepts items (var names kind binds) h = let r = all_new items [] names (first_passes _ _ h) in record { new = r.new; once = r.once }
item_new concepts items (eq left right) h = let r = no_names items [] in record { new = r.new; once = r.once }
item_new concepts items (rel n parts output body) h = let r = all_new items [] (n ∷ []) (ap (λ v. and_then v (Ok tt)) (first_passes _ _ h)) in record { new = r.new; once = r.once }
