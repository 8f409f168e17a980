use Rattle.std.proofs.Common.{◌≡◌, ◌↔◌, ℕ, List, IsTrue, Bool, sym}
use Rattle.std.specs.Prelude.{Contains}
use Rattle.concept_rules.proofs.line.Line.has.Goals as goal

has_same :
    (order now members : List ℕ) (n : ℕ) (r : Bool) → now ≡ order → (IsTrue r ↔ Contains members n)
    → (Contains members n ↔ Contains order n) → IsTrue r ↔ Contains now n
has_same order now members n r is h same = rw is (λ t. same.0 (h.0 t), λ d. h.1 (same.1 d))

pub returns : goal.returns
returns c =
    has_same _ _ _ _ _ (sym c.self.view_is) c.has.ensures (c.self.invariant.0 c.args.concept)
