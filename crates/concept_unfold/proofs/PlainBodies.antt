-- A body without a fault passes the check of bodies.
use Rattle.std.proofs.Common.{◌≡◌, ℕ, suc, ◌<◌, Bool, true, false, ◌||◌, List, [], ◌∷◌, length, map, Option, Some, None, Ok, refl, sym, ap, ◌∙◌, subst, arith}
use Rattle.std.specs.Prelude.{◌&&◌, IfSome, is_some}
use Rattle.std.specs.Str.{bytes_eq}
use Rattle.std.specs.List.{position_or_len, list_any}
use Rattle.std.specs.Cmp.Lexicographic.{pointwise}
use Rattle.name_sets.proofs.Firsts.{position_some}
use Rattle.std.proofs.lemmas.List.{length-map}
use Rattle.priz_base.proofs.More.{some_below}
use Rattle.body_lang.specs.BodyTree.{BodyTree}
use Rattle.body_lang.specs.declared.arity.Arity.{Arity}
use Rattle.body_lang.specs.declared.loop_kind.LoopKind.{LoopKind}
use Rattle.body_lang.specs.declared.loop_kind.LoopKind.TheVariants.{Sum, Prod, Iter}
use Rattle.body_lang.specs.declared.body_fault.BodyFault.TheVariants.{BadInput, BadLocal}
use Rattle.body_lang.specs.Verdicts.{fault_unless}
use Rattle.body_lang.specs.Checked as check
use Rattle.body_lang.proofs.ClosedBodies.{below_passes}
use Rattle.body_lang.proofs.Verdicts.{first_passes, second_passes, both_pass, test_passes}
use Rattle.statement_set.specs.declared.statement.Statement.{Statement}
use Rattle.statement_set.specs.declared.subtask.Subtask.{Subtask}
use Rattle.statement_set.specs.Problem.{IsBodyOver}
use Rattle.utopist_syntax.specs.Named.{Named}
use Rattle.utopist_syntax.specs.ExprTree.{ExprTree, num, path, neg, op, choice, loop, call}
use Rattle.utopist_syntax.specs.declared.path.Path.{Path}
use Rattle.utopist_syntax.specs.declared.item.Part.{Part}
use Rattle.name_sets.specs.Paths.{texts, path_position}
use Rattle.concept_rules.specs.declared.fault.Rule.TheVariants as rule
use Rattle.concept_rules.specs.Declarations.{is_among}
use Rattle.concept_rules.specs.Paths.{first_of}
use Rattle.concept_rules.specs.PathRules.{broken_at}
use Rattle.concept_rules.proofs.Among.{listed}
use Rattle.concept_rules.specs.BodyFault.{Point, is_local, expr_fault, in_bounds, in_round}
use Rattle.concept_unfold.specs.Built.{IsBuiltExpr, IsBuiltBody}
use Rattle.concept_unfold.specs.Paths.{first_name, inputs_of, input_names}
use Rattle.concept_unfold.specs.steps.Plain.{HasNoFault}
use Rattle.concept_unfold.specs.Bodies.{loop_number, loop_or_input, named, loop_body, expr_body, body_over}
use Rattle.concept_unfold.proofs.Places.{stands_there}

abbrev passes_check : ℕ → ℕ → BodyTree → Type 0
passes_check n loops b = check.checked n [] loops b ≡ Ok tt

number_here : (name x : List ℕ) (xs : List (List ℕ)) → bytes_eq name x ≡ true → loop_number name (x ∷ xs) ≡ Some (length xs)
number_here name x xs e = rw e refl

number_there : (name x : List ℕ) (xs : List (List ℕ)) → bytes_eq name x ≡ false → loop_number name (x ∷ xs) ≡ loop_number name xs
number_there name x xs e = rw e refl

below_at : (name x : List ℕ) (xs : List (List ℕ)) (j : ℕ) (b : Bool) → bytes_eq name x ≡ b → loop_number name (x ∷ xs) ≡ Some j → (loop_number name xs ≡ Some j → j < length xs) → j < length (x ∷ xs)
below_at name x xs j true e is rest =
    let same : length xs ≡ j = cc (number_here name x xs e) in omega arith
below_at name x xs j false e is rest =
    let lt = rest (sym (number_there name x xs e) ∙ is) in omega arith

-- the number of a loop is below their count
number_below : (name : List ℕ) (rounds : List (List ℕ)) (j : ℕ) → loop_number name rounds ≡ Some j → j < length rounds
number_below name [] j is = absurd (cc)
number_below name (x ∷ xs) j is = below_at name x xs j (bytes_eq name x) refl is (λ h. number_below name xs j h)

none_at : (name x : List ℕ) (xs : List (List ℕ)) (b : Bool) → bytes_eq name x ≡ b → loop_number name (x ∷ xs) ≡ None → (loop_number name xs ≡ None → is_among name xs ≡ false) → is_among name (x ∷ xs) ≡ false
none_at name x xs true e is rest = let some = number_here name x xs e in absurd (cc)
none_at name x xs false e is rest = ap (λ b. b || is_among name xs) e ∙ rest (sym (number_there name x xs e) ∙ is)

no_loop : (name : List ℕ) (rounds : List (List ℕ)) → loop_number name rounds ≡ None → is_among name rounds ≡ false
no_loop name [] is = refl
no_loop name (x ∷ xs) is = none_at name x xs (bytes_eq name x) refl is (λ h. no_loop name xs h)

left_true : (a b : Bool) → (a || b) ≡ true → b ≡ false → a ≡ true
left_true true b t e = refl
left_true false b t e = absurd (cc)

name_at : (inputs rounds : List (List ℕ)) (name : List ℕ) (o : Option ℕ) → loop_number name rounds ≡ o → (is_among name inputs || is_among name rounds) ≡ true → passes_check (length inputs) (length rounds) (loop_or_input o (position_or_len (bytes_eq name) inputs))
name_at inputs rounds name (Some j) is t =
    ap (λ b. fault_unless b BadLocal) (below_passes j (length rounds) (number_below name rounds j is))
name_at inputs rounds name None is t =
    let i = position_or_len (bytes_eq name) inputs in
    let there = listed name inputs (left_true (is_among name inputs) (is_among name rounds) t (no_loop name rounds is)) in
    ap (λ b. fault_unless b BadInput) (below_passes i (length inputs) (some_below inputs i name (stands_there inputs name there)))

-- paths of one name each
abbrev singles : List (List ℕ) → List (List (List ℕ))
singles inputs = map (λ n. n ∷ []) inputs

and_true : (b : Bool) → (b && true) ≡ b
and_true true = refl
and_true false = refl

and_false : (b : Bool) → (b && false) ≡ false
and_false true = refl
and_false false = refl

one_alike : (name : List ℕ) (inputs : List (List ℕ)) → list_any (pointwise bytes_eq (name ∷ [])) (singles inputs) ≡ is_among name inputs
one_alike name [] = refl
one_alike name (x ∷ xs) = ap (λ b. b || list_any (pointwise bytes_eq (name ∷ [])) (singles xs)) (and_true (bytes_eq name x)) ∙ ap (λ b. bytes_eq name x || b) (one_alike name xs)

-- a name is spelled as an input exactly where it is one of them
spelled : (name : List ℕ) (inputs : List (List ℕ)) → is_some (path_position (name ∷ []) (singles inputs)) ≡ is_among name inputs
spelled name inputs = position_some (pointwise bytes_eq (name ∷ [])) (singles inputs) ∙ one_alike name inputs

none_alike : (inputs : List (List ℕ)) → list_any (pointwise bytes_eq []) (singles inputs) ≡ false
none_alike [] = refl
none_alike (x ∷ xs) = none_alike xs

none_spelled : (inputs : List (List ℕ)) → is_some (path_position [] (singles inputs)) ≡ false
none_spelled inputs = position_some (pointwise bytes_eq []) (singles inputs) ∙ none_alike inputs

long_alike : (n m : List ℕ) (ns inputs : List (List ℕ)) → list_any (pointwise bytes_eq (n ∷ m ∷ ns)) (singles inputs) ≡ false
long_alike n m ns [] = refl
long_alike n m ns (x ∷ xs) = ap (λ b. b || list_any (pointwise bytes_eq (n ∷ m ∷ ns)) (singles xs)) (and_false (bytes_eq n x)) ∙ long_alike n m ns xs

long_spelled : (n m : List ℕ) (ns inputs : List (List ℕ)) → is_some (path_position (n ∷ m ∷ ns) (singles inputs)) ≡ false
long_spelled n m ns inputs = position_some (pointwise bytes_eq (n ∷ m ∷ ns)) (singles inputs) ∙ long_alike n m ns inputs

not_spelled : (b : Bool) → (b || false) ≡ true → b ≡ false → ⊥
not_spelled b t e = cc

path_passes : (inputs rounds : List (List ℕ)) (names : List Named) → (is_some (path_position (texts names) (singles inputs)) || is_local rounds (texts names)) ≡ true → passes_check (length inputs) (length rounds) (named inputs rounds (first_of names).text)
path_passes inputs rounds [] t = absurd (not_spelled (is_some (path_position [] (singles inputs))) t (none_spelled inputs))
path_passes inputs rounds (n ∷ []) t =
    name_at inputs rounds n.text (loop_number n.text rounds) refl (ap (λ b. b || is_among n.text rounds) (sym (spelled n.text inputs)) ∙ t)
path_passes inputs rounds (n ∷ m ∷ ns) t = absurd (not_spelled (is_some (path_position (texts (n ∷ m ∷ ns)) (singles inputs))) t (long_spelled n.text m.text (texts ns) inputs))

loop_passes : (n loops : ℕ) (kind : LoopKind) (a b e : BodyTree) → passes_check n loops a → passes_check n loops b → passes_check n (suc loops) e → passes_check n loops (loop_body kind a b e)
loop_passes n loops Sum a b e p q r = both_pass _ _ p (both_pass _ _ q r)
loop_passes n loops Prod a b e p q r = both_pass _ _ p (both_pass _ _ q r)
loop_passes n loops Iter a b e p q r = both_pass _ _ p (both_pass _ _ q r)

expr_passes : (inputs : List (List ℕ)) (pt : Point) (t : ExprTree) → pt.inputs ≡ singles inputs → IsBuiltExpr t → expr_fault pt t ≡ Ok tt → passes_check (length inputs) (length pt.rounds) (expr_body inputs pt.rounds t)
expr_passes inputs pt (num n) is built h = refl
expr_passes inputs pt (path names) is built h =
    path_passes inputs pt.rounds names
    (subst (λ (paths : List (List (List ℕ))). (is_some (path_position (texts names) paths) || is_local pt.rounds (texts names)) ≡ true) is (test_passes _ (broken_at (first_of names) rule.UnknownPath) h))
expr_passes inputs pt (neg a) is built h = expr_passes inputs pt a is built h
expr_passes inputs pt (op o a b) is built h = both_pass _ _ (expr_passes inputs pt a is built.0 (first_passes _ _ h)) (expr_passes inputs pt b is built.1 (second_passes _ _ h))
expr_passes inputs pt (choice c a b t e) is built h =
    let after = second_passes _ _ h in
    let branches = second_passes _ _ after in
    both_pass _ _ (expr_passes inputs pt a is built.0 (first_passes _ _ h))
    (both_pass _ _ (expr_passes inputs pt b is built.1.0 (first_passes _ _ after))
    (both_pass _ _ (expr_passes inputs pt t is built.1.1.0 (first_passes _ _ branches)) (expr_passes inputs pt e is built.1.1.1 (second_passes _ _ branches))))
expr_passes inputs pt (loop kind n a b e) is built h =
    let parts = second_passes _ _ h in
    let after = second_passes _ _ parts in
    loop_passes (length inputs) (length pt.rounds) kind (expr_body inputs pt.rounds a) (expr_body inputs pt.rounds b) (expr_body inputs (n.text ∷ pt.rounds) e)
    (expr_passes inputs (in_bounds n pt) a is built.0 (first_passes _ _ parts)) (expr_passes inputs (in_bounds n pt) b is built.1.0 (first_passes _ _ after))
    (expr_passes inputs (in_round n pt) e is built.1.1 (second_passes _ _ after))
expr_passes inputs pt (call k out place args) is built h = absurd built

abbrev arity_of : Subtask → Arity
arity_of u = record { inputs = length u.inputs; outputs = length u.outputs }

-- a statement without subtasks whose body takes its inputs
pub fits_statement : (s : Statement) (b : Option BodyTree) → s.subs ≡ [] → s.body ≡ b → IfSome b (λ x. check.checked (length s.inputs) [] 0 x ≡ Ok tt) → IsBodyOver s
fits_statement s b none is h =
    subst (λ (us : List Subtask). IfSome s.body (λ x. check.checked (length s.inputs) (map arity_of us) 0 x ≡ Ok tt)) (sym none)
    (subst (λ (o : Option BodyTree). IfSome o (λ x. check.checked (length s.inputs) [] 0 x ≡ Ok tt)) (sym is) h)

-- the body of a statement with so many inputs and no subtask
pub body_passes : (parts : List Part) (body : Option ExprTree) (n : ℕ) → IsBuiltBody body → HasNoFault (input_names parts) body → n ≡ length (inputs_of parts) → IfSome (body_over (input_names parts) body) (λ b. check.checked n [] 0 b ≡ Ok tt)
body_passes parts None n built good is = tt
body_passes parts (Some e) n built good is =
    let inputs = input_names parts in
    let same : length inputs ≡ n = length-map (inputs_of parts) (λ (p : Path). (first_name p).text) ∙ sym is in
    let passes = expr_passes inputs good.0 e good.1 built good.3 in
    subst (λ m. check.checked m [] 0 (expr_body inputs [] e) ≡ Ok tt) same
    (subst (λ (rounds : List (List ℕ)). passes_check (length inputs) (length rounds) (expr_body inputs rounds e)) good.2 passes)
