-- What scoped items say of one of them.
use Rattle.std.proofs.Common.{◌≡◌, ℕ, List, [], ◌∷◌, ◌++◌, Bool, true, false, Some, refl, sym, ◌∙◌, subst, append_assoc}
use Rattle.std.proofs.lemmas.Bool.{both_ways}
use Rattle.utopist_syntax.specs.declared.item.Bind.{Bind}
use Rattle.utopist_syntax.specs.FileTree.{ItemTree}
use Rattle.concept_rules.specs.Declarations.{is_among, declared, is_declared, Variable, variable_of}
use Rattle.canonical_paths.specs.Scoped.{AllLeadTo, IsScoped, AreScoped}
use Rattle.canonical_paths.specs.steps.Growing.{AllLeadPast, IsAdded}
use Rattle.concept_rules.proofs.Sharing.{declared_behind}
use Rattle.canonical_paths.proofs.Scoping.{by_first, own_declared}

-- no later item declares a name again
not_later : (later tail : List ItemTree) (name : List ℕ) → AreScoped (later ++ tail) → is_declared tail name ≡ true → is_declared later name ≡ false
not_later [] tail name a h = refl
not_later (j ∷ later) tail name a h = by (is_among name (declared j)) refl (declared_behind later tail name h) (not_later later tail name a.1 h)
  where
    by : (t : Bool) → is_among name (declared j) ≡ t → is_declared (later ++ tail) name ≡ true → is_declared later name ≡ false → is_declared (j ∷ later) name ≡ false
    by true e k r = absurd (both_ways (is_declared (later ++ tail) name) (a.0.new name e) k)
    by false e k r = by_first j later name false e ∙ r

pub scoped_at : (later : List ItemTree) (i : ItemTree) (before : List ItemTree) → AreScoped (later ++ i ∷ before) → IsScoped i before
scoped_at [] i before a = a.0
scoped_at (j ∷ later) i before a = scoped_at later i before a.1

leads_past : (later before : List ItemTree) (binds : List Bind) → AreScoped (later ++ before) → AllLeadTo before binds → AllLeadPast later binds
leads_past later before [] a h = tt
leads_past later before (b ∷ binds) a h = (
  record { first = h.0.first; rest = h.0.rest; is = h.0.is; earlier = not_later later before h.0.first a h.0.known },
  leads_past later before binds a h.1,
)

-- a variable of an item is one more behind those before it
pub is_added : (later : List ItemTree) (i : ItemTree) (before : List ItemTree) (name : List ℕ) (v : Variable) → AreScoped (later ++ i ∷ before) → is_among name (declared i) ≡ true → variable_of i ≡ Some v → IsAdded later i name v
is_added later i before name v a d is = record {
  new = not_later later (i ∷ before) name a (own_declared i before name d);
  declared = d;
  is = is;
  lead =
      leads_past (later ++ i ∷ []) before v.binds (subst AreScoped (sym (append_assoc later (i ∷ []) before)) a)
      ((scoped_at later i before a).leads v is);
}
