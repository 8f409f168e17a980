-- One more variable, with what its bindings bind.
use Rattle.std.proofs.Common.{◌≡◌, ℕ, ◌+◌, ◌<◌, ◌≤◌, List, [], ◌∷◌, ◌++◌, Option, Some, None, map, length, take, get_or, refl, sym, ap, ◌∙◌, subst}
use Rattle.std.specs.Prelude.{slice_get, All, IfSome, OnOk, Result, Ok, Err}
use Rattle.std.proofs.lemmas.List.{take_all}
use Rattle.std.proofs.lemmas.List.Elements.{All-push}
use Rattle.std.proofs.lemmas.Option.{same_Some, none-some}
use Rattle.std.specs.Option.{option_map_or}
use Rattle.utopist_syntax.specs.declared.item.Bind.{Bind}
use Rattle.canonical_paths.specs.declared.tables.Alias.{Alias}
use Rattle.canonical_paths.specs.PathNames.{PathNames}
use Rattle.canonical_paths.specs.steps.Tables.{StandsFor, AllStand, IsAliasIn}
use Rattle.canonical_paths.specs.LaidOut.{LaidOut}
use Rattle.canonical_paths.specs.steps.Layouts.{AreLayouts, inner_paths, inner_table, HasOneMore}
use Rattle.canonical_paths.specs.steps.PathLists.{PathLists, HaveLayouts, AreClosed, IsAliasOf, AreAliasesOf, HasGrown}
use Rattle.canonical_paths.proofs.Elements.{there, take_next}

stand_push : (paths inside : List PathNames) (bs : List Bind) (us : List Alias) (b : Bind) (u : Alias) → AllStand paths inside bs us → StandsFor paths inside b u → AllStand paths inside (bs ++ b ∷ []) (us ++ u ∷ [])
stand_push paths inside [] [] b u h s = (s, tt)
stand_push paths inside [] (v ∷ us) b u h s = absurd h
stand_push paths inside (c ∷ bs) [] b u h s = absurd h
stand_push paths inside (c ∷ bs) (v ∷ us) b u h s = (h.0, stand_push paths inside bs us b u h.1 s)

pub more_aliases : (w : PathLists) (inside : List PathNames) (binds : List Bind) (i : ℕ) (b d : Bind) (aliases new : List Alias) (u : Alias) → i < length binds → b ≡ get_or binds i d → AreAliasesOf w inside (take i binds) aliases → IsAliasOf w inside b u → new ≡ aliases ++ u ∷ [] → AreAliasesOf w inside (take (i + 1) binds) new
more_aliases w inside binds i b d aliases new u h e a s n =
    subst (λ (bs : List Bind). AreAliasesOf w inside bs new) (sym (take_next binds i b d h e))
    (subst (λ (us : List Alias). AreAliasesOf w inside (take i binds ++ b ∷ []) us) (sym n)
    (record {
      stand = stand_push w.paths inside (take i binds) aliases b u a.stand s.stands;
      within = All-push (IsAliasIn (length inside) (length w.paths)) aliases u a.within s.within;
    }))

pub all_aliases : (w : PathLists) (inside : List PathNames) (binds : List Bind) (i : ℕ) (aliases : List Alias) → length binds ≤ i → AreAliasesOf w inside (take i binds) aliases → AreAliasesOf w inside binds aliases
all_aliases w inside binds i aliases h a = subst (λ (bs : List Bind). AreAliasesOf w inside bs aliases) (take_all i binds h) a

pub found : {A : Type 0} (o : Option A) (x : A) (P : A → Type 0) → IfSome o P → o ≡ Some x → P x
found (Some y) x P h e = subst P (same_Some y x e) h
found None x P h e = absurd (cc)

-- what is so where a call has done its work
pub on_ok : {A E : Type 0} (r : Result A E) (P Q : Type 0) → OnOk r P → (P → Q) → OnOk r Q
on_ok (Ok x) P Q h k = k h
on_ok (Err e) P Q h k = tt

-- the layout of the component
module _ (w : PathLists) (layouts : List LaidOut) (current l : LaidOut) (c : ℕ) (table : List ℕ) (lists : HaveLayouts w layouts current) (closed : AreClosed layouts) (here : slice_get layouts c ≡ Some l) (same : table ≡ l.table) where
  abbrev inside : List PathNames
  inside = inner_paths w.concepts (Some c)

  its_size : length table ≡ length inside
  its_size = ap length same ∙ (lists.concepts c l here).size

  pub entries_are : All (λ (n : ℕ). n < length table) table
  entries_are = subst (λ (t : List ℕ). All (λ (n : ℕ). n < length t) t) (sym same) (closed c l here)

  pub aliases_are : (binds : List Bind) (aliases us : List Alias) → us ≡ aliases → AreAliasesOf w inside binds aliases → All (IsAliasIn (length table) (length current.table)) us
  aliases_are binds aliases us e a =
      subst (λ (vs : List Alias). All (IsAliasIn (length table) (length current.table)) vs) (sym e)
      (subst (λ (n : ℕ). All (IsAliasIn n (length current.table)) aliases) (sym its_size)
      (subst (λ (n : ℕ). All (IsAliasIn (length inside) n) aliases) (sym lists.so_far.size) a.within))

  pub has_grown : (name : List ℕ) (binds : List Bind) (aliases us : List Alias) (new : LaidOut) → us ≡ aliases → AreAliasesOf w inside binds aliases → HasOneMore current new name (Some c) us table → HasGrown w layouts current new name (Some c) binds
  has_grown name binds aliases us new e a n =
      let t : inner_table layouts (Some c) ≡ table = ap (λ (o : Option LaidOut). option_map_or (λ v. v.table) o []) here ∙ sym same in
      record {
        aliases = aliases;
        stand = a.stand;
        more = subst (λ (ns : List ℕ). HasOneMore current new name (Some c) aliases ns) (sym t) (subst (λ (vs : List Alias). HasOneMore current new name (Some c) vs table) e n);
      }

-- a number has nothing inside that a binding could bind
abbrev nothing : List Bind → List Alias
nothing binds = map (λ b. record { left = 0; size = 0; right = 0 }) binds

nothing_stands : (paths : List PathNames) (binds : List Bind) → AllStand paths [] binds (nothing binds)
nothing_stands paths [] = tt
nothing_stands paths (b ∷ binds) = (record { within = λ n q e. absurd (none-some q e); right = λ n q e w. absurd (none-some q e) }, nothing_stands paths binds)

pub number_has_grown : (w : PathLists) (layouts : List LaidOut) (old new : LaidOut) (name : List ℕ) (binds : List Bind) → HasOneMore old new name None [] [] → HasGrown w layouts old new name None binds
number_has_grown w layouts old new name binds h = record {
  aliases = nothing binds;
  stand = nothing_stands w.paths binds;
  more = record { fresh = h.fresh; is = h.is };
}

-- a table of a type has as many entries as there are paths inside
pub inner_size : (concepts : List (List PathNames)) (layouts : List LaidOut) (concept : Option ℕ) → AreLayouts concepts layouts → IfSome concept (λ c. c < length layouts) → length (inner_table layouts concept) ≡ length (inner_paths concepts concept)
inner_size concepts layouts None all h = refl
inner_size concepts layouts (Some c) all h =
    let l = there layouts c h in
    ap (λ (o : Option LaidOut). length (option_map_or (λ v. v.table) o [])) l.1 ∙ (all c l.0 l.1).size
