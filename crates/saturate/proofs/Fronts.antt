-- The inputs that were seen to be known stay known.
use Rattle.std.proofs.Common.{◌≡◌, ◌<◌, ℕ, List, length, get_or, set, take, Option, Some, sym, subst, inr, ⊎_elim}
use Rattle.std.specs.Prelude.{Contains, slice_get}
use Rattle.std.proofs.lemmas.Bool.{cases_eq}
use Rattle.std.proofs.lemmas.Grind.{get_or-set_at}
use Rattle.std.proofs.lemmas.List.{get_or-set_other, length-set}
use Rattle.std.proofs.lemmas.List.Elements.{All-weaker}
use Rattle.std.proofs.lemmas.Option.{slice_get_within}
use Rattle.priz_base.specs.Sets.{IsWithin, Adds}
use Rattle.statement_set.specs.declared.statement.Statement.{Statement}
use Rattle.saturate.specs.Met.{AreMet}

same_value : {X : Type 0} (o : Option X) (x y : X) → o ≡ Some x → o ≡ Some y → x ≡ y
same_value o x y e f = cc

-- when more is known
pub met_after : (ss : List Statement) (old new met : List ℕ) (v : ℕ) → Adds old new v → AreMet ss old met → AreMet ss new met
met_after ss old new met v adds m = record {
  size = m.size;
  front = λ n s is. All-weaker (Contains old) (Contains new) (λ k c. (adds k).1 (inr c)) (take (get_or met n 0) s.inputs) (m.front n s is);
}

-- when the inputs of one statement were looked at
pub met_more : (ss : List Statement) (known met : List ℕ) (n : ℕ) (s : Statement) (k : ℕ) → AreMet ss known met → slice_get ss n ≡ Some s → IsWithin (take k s.inputs) known → AreMet ss known (set met n k)
met_more ss known met n s k m is h = record {
  size = subst (λ x. length (set met n k) ≡ x) m.size (length-set met n k);
  front = λ j t at. ⊎_elim
      (λ same. rw (get_or-set_at met n j k 0 same (subst (λ x. n < x) (sym m.size) (slice_get_within ss n s is))) (subst (λ x. IsWithin (take k x.inputs) known) (same_value (slice_get ss n) s t is (rw (same) at at)) h))
      (λ other. rw (get_or-set_other met n j k 0 other) (m.front j t at))
      (cases_eq j n);
}
