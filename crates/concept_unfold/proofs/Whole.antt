-- The problem of a file can be solved or refuted.
use Rattle.std.proofs.Common.{◌≡◌, ◌≢◌, ℕ, ◌≤◌, List, [], ◌∷◌, length, map, refl, sym, ◌∙◌, subst, arith}
use Rattle.std.specs.Prelude.{All}
use Rattle.std.specs.List.{flat_map}
use Rattle.std.proofs.lemmas.List.Elements.{All-append, All-cons, All-head, All-nil}
use Rattle.statement_set.specs.declared.statement.Statement.{Statement}
use Rattle.statement_set.specs.Problem.{Task, IsWhole}
use Rattle.utopist_syntax.specs.declared.path.Path.{Path}
use Rattle.utopist_syntax.specs.FileTree.{ItemTree, var, eq, rel}
use Rattle.concept_unfold.specs.Paths.{IsOneOf}
use Rattle.concept_unfold.specs.Unfolded.{AreKnown, var_number, plain_statement, statements_of}

some_want : (vars : List (List ℕ)) (ws : List Path) → AreKnown vars ws → ws ≢ [] → (1 ≤ length vars) × (map (var_number vars) ws ≢ [])
some_want vars [] known h = absurd (h refl)
some_want vars (w ∷ ws) known h =
    let c = (All-head (IsOneOf vars) w ws known).listed in
    let lt = c.1 in
    (omega arith, λ e. absurd (cc))

pub whole : (p : Task) (vars : List (List ℕ)) (ws : List Path) → p.names ≡ vars → p.wants ≡ map (var_number vars) ws → AreKnown vars ws → ws ≢ [] → IsWhole p
whole p vars ws names wants known h =
    let r = some_want vars ws known h in
    record {
      var = subst (λ (v : List (List ℕ)). 1 ≤ length v) (sym names) r.0;
      want = λ e. r.1 (sym wants ∙ e);
    }

item_plain : (vars : List (List ℕ)) (i : ItemTree) → All (λ (s : Statement). s.subs ≡ []) (statements_of vars i)
item_plain vars (var ns kind binds) = All-nil (λ (s : Statement). s.subs ≡ [])
item_plain vars (eq left right) = All-nil (λ (s : Statement). s.subs ≡ [])
item_plain vars (rel n parts output body) =
    All-cons (λ (s : Statement). s.subs ≡ []) (plain_statement vars parts output body) [] refl (All-nil (λ (s : Statement). s.subs ≡ []))

-- no statement has a subtask
pub plain : (vars : List (List ℕ)) (items : List ItemTree) → All (λ (s : Statement). s.subs ≡ []) (flat_map (statements_of vars) items)
plain vars [] = All-nil (λ (s : Statement). s.subs ≡ [])
plain vars (i ∷ items) = All-append (λ (s : Statement). s.subs ≡ []) (statements_of vars i) (flat_map (statements_of vars) items) (item_plain vars i) (plain vars items)
