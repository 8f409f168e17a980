-- The next item of the concept at hand.
use Rattle.std.proofs.Common.{◌≡◌, ℕ, zero, suc, ◌+◌, ◌<◌, ◌≤◌, Bool, true, false, List, [], ◌∷◌, ◌++◌, length, map, take, drop, get_or, Ok, Err, Some, None, Option, refl, sym, ap, ◌∙◌, subst, arith}
use Rattle.std.specs.Prelude.{is_some}
use Rattle.std.proofs.lemmas.List.{take_more, drop_more, drop_all, get_or-map, length-map, length-take}
use Rattle.std.proofs.lemmas.List.Elements.{Contains-get_or}
use Rattle.utopist_syntax.specs.declared.item.Item.{Item}
use Rattle.utopist_syntax.specs.declared.concept.Concept.{Concept}
use Rattle.utopist_syntax.specs.FileTree.{ItemTree, ConceptTree, item_tree, concept_tree}
use Rattle.concept_rules.specs.declared.fault.UnfoldFault.{UnfoldFault}
use Rattle.concept_rules.specs.Declarations.{is_among, declared, is_declared}
use Rattle.concept_rules.specs.Lineage.{all_items}
use Rattle.concept_rules.specs.ItemRules.{item_fault}
use Rattle.concept_rules.specs.ConceptRules.{items_fault}
use Rattle.concept_rules.specs.Checks.{Checks}
use Rattle.concept_rules.specs.steps.DeclaredNames.{Declared, AreNewNames, HasMore, Binds}
use Rattle.concept_rules.specs.steps.Variables.{bound_by}
use Rattle.concept_rules.specs.Lineages.{Lines}
use Rattle.concept_rules.specs.steps.Extent.{extent, own_items, checked_items, item_place, IsApart, IsLine, IsHere, Reached, IsAfter}
use Rattle.concept_rules.proofs.Among.{among}
use Rattle.concept_rules.proofs.Items.{place_is}
use Rattle.concept_rules.proofs.Lines.{seen_last}
use Rattle.concept_rules.proofs.Sharing.{declared_behind}
use Rattle.concept_rules.proofs.Growing.{New, index_more, apart_more}
use Rattle.concept_rules.proofs.Within.{items_here, verdict_next}
use Rattle.concept_rules.proofs.NewNames.{item_new}
use Rattle.concept_rules.proofs.Binding.{bound_more, names_kept}
use Rattle.concept_rules.proofs.Steps.{WithinItems, fails_first}

own_at :
    (concepts : List Concept) (n : ℕ) (c : Concept) → n < length concepts
    → own_items (map concept_tree concepts) n ≡ map item_tree (get_or concepts n c).items
own_at [] n c lt = absurd (omega arith)
own_at (x ∷ xs) zero c lt = refl
own_at (x ∷ xs) (suc n) c lt = own_at xs n c (omega arith)

-- the own items of a concept of the file
pub own_is :
    (all : List ConceptTree) (concepts : List Concept) (n : ℕ) (c : Concept) (items : List Item)
    → all ≡ map concept_tree concepts → n < length concepts → items ≡ (get_or concepts n c).items
    → own_items all n ≡ map item_tree items
own_is all concepts n c items same lt e =
    ap (λ (xs : List ConceptTree). own_items xs n) same ∙ own_at concepts n c lt
    ∙ ap (map item_tree) (sym e)

-- the item at a place of the own items
pub record AtPlace (own : List ItemTree) (i : ℕ) (item : ItemTree) : Type 0 where
  pub extent : take (i + 1) own ≡ take i own ++ item ∷ []
  pub rest : drop i own ≡ item ∷ drop (i + 1) own
  pub long : length (take i own) ≡ i

pub at_place :
    (own : List ItemTree) (items : List Item) (i : ℕ) (y : Item) → own ≡ map item_tree items
    → i < length items → y ≡ get_or items i y → AtPlace own i (item_tree y)
at_place own items i y same lt is =
    let long : length own ≡ length items = ap length same ∙ length-map items item_tree in
    let below : i < length own = omega (arith, long) in
    let there : get_or own i (item_tree y) ≡ item_tree y = ap (λ (xs : List ItemTree). get_or xs i (item_tree y)) same ∙ get_or-map item_tree items i y (item_tree y) lt ∙ ap item_tree (sym is) in
    let cut = length-take i own in
    record {
      extent =
          take_more own i (item_tree y) below ∙ ap (λ (x : ItemTree). take i own ++ x ∷ []) there;
      rest =
          drop_more own i (item_tree y) below ∙ ap (λ (x : ItemTree). x ∷ drop (i + 1) own) there;
      long = omega (arith, cut);
    }

absent_step :
    (items : List ItemTree) (name : List ℕ) (o : Option ℕ) → item_place items name ≡ o
    → is_declared items name ≡ false → item_place items name ≡ None
absent_step items name None e h = e
absent_step items name (Some j) e h =
    let d = place_is items name j e in
    let t : is_declared items name ≡ true = ap is_some d.first in
    absurd (cc)

place_absent :
    (items : List ItemTree) (name : List ℕ) → is_declared items name ≡ false
    → item_place items name ≡ None
place_absent items name h = absent_step items name (item_place items name) refl h

behind_absent :
    (xs ys : List ItemTree) (name : List ℕ) (b : Bool) → is_declared ys name ≡ b
    → is_declared (xs ++ ys) name ≡ false → is_declared ys name ≡ false
behind_absent xs ys name true e h = let t = declared_behind xs ys name e in absurd (cc)
behind_absent xs ys name false e h = e

module _ (all : List ConceptTree) (n : ℕ) (before : List ConceptTree) (here : List ℕ)
    (concepts : List Concept) (l : Lines) (old : Declared) (m : ℕ) (cs : List ConceptTree)
    (line : List ℕ) (is : IsLine all n line cs) (ends : here ≡ line ++ n ∷ [])
    (p : WithinItems all n before here concepts l old m cs) where
  pub point : IsHere (extent all n before m) here (all_items cs ++ take m (own_items all n))
  point = items_here all n before line cs is m here ends p.apart

  module _ (item : ItemTree) (there : AtPlace (own_items all n) m item) where
    new_here :
        (ok : item_fault before (all_items cs ++ take m (own_items all n)) item ≡ Ok tt)
        → New (all_items cs ++ take m (own_items all n)) (declared item)
    new_here ok = item_new before (all_items cs ++ take m (own_items all n)) item ok

    fresh :
        (ok : item_fault before (all_items cs ++ take m (own_items all n)) item ≡ Ok tt)
        (name : List ℕ) → is_among name (declared item) ≡ true
        → item_place (take m (own_items all n)) name ≡ None
    fresh ok name a =
        let none = (new_here ok).new name a in
        place_absent (take m (own_items all n)) name (behind_absent (all_items cs) (take m (own_items all n)) name (is_declared (take m (own_items all n)) name) refl none)

    -- its names may be declared
    pub may_declare :
        (ok : item_fault before (all_items cs ++ take m (own_items all n)) item ≡ Ok tt)
        → AreNewNames old n (declared item)
    may_declare ok = record {
      new = λ k d lt.
          let name = get_or (declared item) k d in
          p.found.index name n
          ∙ ap (λ (xs : List ItemTree). item_place xs name) (seen_last (extent all n before m))
          ∙ fresh ok name (among name (declared item) (Contains-get_or (declared item) k d lt));
      once = (new_here ok).once;
    }

    pub next_item :
        (mid new : Declared)
        → item_fault before (all_items cs ++ take m (own_items all n)) item ≡ Ok tt
        → (AreNewNames old n (declared item) → HasMore old mid n m (declared item))
        → mid.bound ≡ old.bound → (paths : List (List (List ℕ))) → paths ≡ bound_by item
        → Binds mid new (record { concept = n; item = m }) paths
        → WithinItems all n before here concepts l new (m + 1) cs
    next_item mid new ok more same paths are binds =
        let kept = names_kept all n before m item there.extent there.long old p.found.bound mid new same paths are binds (declared item) (more (may_declare ok)) in record {
          found = record {
            all = p.found.all;
            lines = p.found.lines;
            index =
                index_more all n before m item there.extent there.long old new p.found.index kept (fresh ok);
            bound =
                bound_more all n before m item there.extent there.long old p.found.bound mid new same paths are binds;
          };
          apart =
              apart_more all n before m item there.extent there.long here p.apart (λ name a. subst (λ (xs : List ItemTree). is_declared xs name ≡ false) point.items ((new_here ok).new name a));
          verdict =
              p.verdict ∙ verdict_next all n before line cs is m item there.extent there.rest ok;
        }

    pub item_fails :
        (e : UnfoldFault)
        → Checks {X = Unit {0}} (item_fault before (all_items cs ++ take m (own_items all n)) item) (Err e)
        → Checks {X = Unit {0}} (items_fault before (all_items cs) (own_items all n)) (Err e)
    item_fails e h =
        fails_first _ (items_fault before ((all_items cs ++ take m (own_items all n)) ++ item ∷ []) (drop (m + 1) (own_items all n))) _ e (p.verdict ∙ ap (items_fault before (all_items cs ++ take m (own_items all n))) there.rest) h

  -- behind the last item
  pub all_checked :
      length (own_items all n) ≤ m → items_fault before (all_items cs) (own_items all n) ≡ Ok tt
  all_checked le =
      p.verdict
      ∙ ap (items_fault before (all_items cs ++ take m (own_items all n))) (drop_all m (own_items all n) le)

  pub after_items : m ≡ length (own_items all n) → IsAfter all n before here concepts l old
  after_items e = record {
    now = subst (λ k. Reached (extent all n before k) concepts l old) e p.found;
    apart = subst (λ k. IsApart (checked_items (extent all n before k)) here) e p.apart;
  }
