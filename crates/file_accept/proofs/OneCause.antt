-- A text is refused for one cause.
use Rattle.std.proofs.Common.{◌≡◌, ◌⊎◌, inl, inr, Ok, Err, ℕ, Bool, true, false, List, [], ◌∷◌, ◌++◌, refl, sym, ap, subst, ◌∙◌}
use Rattle.std.specs.Str.{chars}
use Rattle.priz_base.specs.declared.place.Place.{Place}
use Rattle.utopist_lexer.specs.Lexical.{Tok}
use Rattle.utopist_lexer.proofs.OneWay.{one_list}
use Rattle.utopist_syntax.specs.FileTree.{FileTree}
use Rattle.utopist_parser.specs.declared.parser.ParseFault.{ParseFault}
use Rattle.utopist_parser.specs.declared.parser.ParseFault.TheVariants as parsing
use Rattle.utopist_parser.specs.Forms.{ReadsAs, FailsAs}
use Rattle.utopist_parser.proofs.OneAnswer.{one_tree, one_failure, not_tree_and_fault}
use Rattle.concept_rules.specs.declared.fault.ModelFault.{ModelFault}
use Rattle.concept_unfold.specs.Built.{IsBuilt}
use Rattle.concept_unfold.specs.UnfoldingRules.{model_fault}
use Rattle.file_accept.specs.declared.unbuilt.Context.{Context}
use Rattle.file_accept.specs.declared.fault.FileFault.{FileFault}
use Rattle.file_accept.specs.declared.fault.FileFault.TheVariants as fault
use Rattle.file_accept.specs.steps.Faults.{parse_fault}
use Rattle.file_accept.specs.Accepted.{Accepts}
use Rattle.file_accept.specs.Refused.{IsUnbuilt, Refuses}
use Rattle.file_accept.specs.Unbuilt.{not_solved, opens, context_behind, at_start, behind_all, NoneOpens, kinds_of, FirstLeftOut}
use Rattle.file_accept.proofs.Steps.{found_is_unbuilt}

-- ---- the first token of a form that is not built

open_not_closed : (b : Bool) → b ≡ true → b ≡ false → ⊥
open_not_closed b e i = cc

-- a token that begins such a form behind tokens that don't is the same in each split of a list
same_opener : (c : Context) (xs ys : List Tok) (x y : Tok) (after later : List Tok) → NoneOpens not_solved c (kinds_of xs) → NoneOpens not_solved c (kinds_of ys)
    → opens not_solved (behind_all c (kinds_of xs)) x.kind ≡ true → opens not_solved (behind_all c (kinds_of ys)) y.kind ≡ true → xs ++ x ∷ after ≡ ys ++ y ∷ later → x ≡ y
same_opener c [] [] x y after later none closed opening opened e = cc
same_opener c [] (t ∷ ys) x y after later none closed opening opened e =
    let same : t ≡ x = cc in absurd (open_not_closed (opens not_solved c x.kind) opening (subst (λ (u : Tok). opens not_solved c u.kind ≡ false) same closed.0))
same_opener c (t ∷ xs) [] x y after later none closed opening opened e =
    let same : t ≡ y = cc in absurd (open_not_closed (opens not_solved c y.kind) opened (subst (λ (u : Tok). opens not_solved c u.kind ≡ false) same none.0))
same_opener c (t ∷ xs) (u ∷ ys) x y after later none closed opening opened e =
    let same : u ≡ t = cc in
    let context = ap (λ (v : Tok). context_behind c v.kind) same in
    same_opener (context_behind c t.kind) xs ys x y after later none.1 (subst (λ d. NoneOpens not_solved d (kinds_of ys)) context closed.1) opening (subst (λ d. opens not_solved (behind_all d (kinds_of ys)) y.kind ≡ true) context opened) cc

one_unbuilt : (ts : List Tok) (p q : Place) → FirstLeftOut not_solved ts p → FirstLeftOut not_solved ts q → p ≡ q
one_unbuilt ts p q u v =
    sym u.here ∙ ap (λ (t : Tok). t.place) (same_opener at_start u.before v.before u.next v.next u.after v.after u.none v.none u.opening v.opening (sym u.split ∙ v.split)) ∙ v.here

-- ---- causes

-- reading the text fails; or a form is not built; or the file breaks a rule
abbrev Cause : List ℕ → FileFault → Type 0
Cause text e =
    ((d : ParseFault) × (parse_fault d ≡ e) × FailsAs text d)
    ⊎ (((p : Place) × (fault.Expected p ≡ e) × IsUnbuilt text p)
    ⊎ ((m : ModelFault) × (fault.Model m ≡ e) × ((f : FileTree) × ReadsAs text f × IsBuilt f × (model_fault f ≡ Err m))))

cause_of : (text : List ℕ) (e : FileFault) → Refuses text e → Cause text e
cause_of text (fault.Lex f) h = inl (parsing.Lex f, refl, h)
cause_of text (fault.Expected p) (inl h) = inl (parsing.Expected p, refl, h)
cause_of text (fault.Expected p) (inr h) = inr (inl (p, refl, h))
cause_of text (fault.TooDeep p) h = inl (parsing.TooDeep p, refl, h)
cause_of text (fault.Model m) h = inr (inr (m, refl, h))
cause_of text fault.NoMem h = absurd h

one_model : (text : List ℕ) (f g : FileTree) (m l : ModelFault) → ReadsAs text f → ReadsAs text g → model_fault f ≡ Err m → model_fault g ≡ Err l → m ≡ l
one_model text f g m l s t h k =
    let same = subst (λ (x : FileTree). model_fault x ≡ Err l) (one_tree text g f t s) k in cc

-- a file with a form that is not built is none whose forms are built
unbuilt_not_built : (text : List ℕ) (p : Place) (f : FileTree) → IsUnbuilt text p → ReadsAs text f → IsBuilt f → ⊥
unbuilt_not_built text p f u s built =
    found_is_unbuilt text f s p (subst (λ (ts : List Tok). FirstLeftOut not_solved ts p) (one_list (chars text) u.tokens s.tokens u.read s.read) u.first) built

-- two causes are of one fault
same_cause : (text : List ℕ) (e d : FileFault) → Cause text e → Cause text d → e ≡ d
same_cause text e d (inl a) (inl b) = sym a.1 ∙ ap parse_fault (one_failure text a.0 b.0 a.2 b.2) ∙ b.1
same_cause text e d (inl a) (inr (inl b)) = absurd (not_tree_and_fault text b.2.file a.0 b.2.tree a.2)
same_cause text e d (inl a) (inr (inr b)) = absurd (not_tree_and_fault text b.2.0 a.0 b.2.1 a.2)
same_cause text e d (inr (inl a)) (inl b) = absurd (not_tree_and_fault text a.2.file b.0 a.2.tree b.2)
same_cause text e d (inr (inl a)) (inr (inl b)) =
    sym a.1 ∙ ap (λ (p : Place). fault.Expected p) (one_unbuilt b.2.tokens a.0 b.0 (subst (λ (ts : List Tok). FirstLeftOut not_solved ts a.0) (one_list (chars text) a.2.tokens b.2.tokens a.2.read b.2.read) a.2.first) b.2.first) ∙ b.1
same_cause text e d (inr (inl a)) (inr (inr b)) = absurd (unbuilt_not_built text a.0 b.2.0 a.2 b.2.1 b.2.2)
same_cause text e d (inr (inr a)) (inl b) = absurd (not_tree_and_fault text a.2.0 b.0 a.2.1 b.2)
same_cause text e d (inr (inr a)) (inr (inl b)) = absurd (unbuilt_not_built text b.0 a.2.0 b.2 a.2.1 a.2.2)
same_cause text e d (inr (inr a)) (inr (inr b)) = sym a.1 ∙ ap (λ (m : ModelFault). fault.Model m) (one_model text a.2.0 b.2.0 a.0 b.0 a.2.1 b.2.1 a.2.3 b.2.3) ∙ b.1

-- a text is refused for one cause
pub one_cause : (text : List ℕ) (e d : FileFault) → Refuses text e → Refuses text d → e ≡ d
one_cause text e d h k = same_cause text e d (cause_of text e h) (cause_of text d k)

-- and is accepted as no file then
pub accepted_not_refused : (text : List ℕ) (f : FileTree) (e : FileFault) → Accepts text f → Refuses text e → ⊥
accepted_not_refused text f e accepted h = by (cause_of text e h) where
  by : Cause text e → ⊥
  by (inl a) = not_tree_and_fault text f a.0 accepted.tree a.2
  by (inr (inl a)) = unbuilt_not_built text a.0 f a.2 accepted.tree accepted.built
  by (inr (inr a)) =
      let kept = subst (λ (x : FileTree). model_fault x ≡ Ok tt) (one_tree text f a.2.0 accepted.tree a.2.1) accepted.rules in
      let broken = a.2.3 in absurd (cc)

-- it is accepted as one file
pub one_file : (text : List ℕ) (f g : FileTree) → Accepts text f → Accepts text g → f ≡ g
one_file text f g a b = one_tree text f g a.tree b.tree
