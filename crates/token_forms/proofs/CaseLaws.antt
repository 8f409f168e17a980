-- Symbols begin a form, case by case, exactly where some symbols of the form go on with them.
use Rattle.std.proofs.Common.{◌≡◌, List, [], ◌∷◌, ◌++◌, refl, sym, ap, subst, ◌∙◌, append_assoc, inl, inr, ⊎_elim}
use Rattle.std.specs.Prelude.{◌⊎◌, pos, All}
use Rattle.std.proofs.lemmas.List.{append-nil}
use Rattle.std.proofs.lemmas.List.Elements.{All-nil, All-cons, All-head, All-tail, All-push}
use Rattle.utopist_lexer.specs.Places.{first_place}
use Rattle.utopist_lexer.proofs.Splits.{Splits, fronts_split}
use Rattle.token_forms.specs.Symbols.{Symbol, name, sub, number, fixed}
use Rattle.token_forms.specs.Forms.{Sort, a_name, a_number, a_divisor, a_subtask, this, IsOf, Form, never, nothing, one, then, either, many, joined, AreForm, BeginForm}
use Rattle.token_forms.proofs.Singles.{some_name}

-- some symbols go on with these to symbols of the form
abbrev GoesOn : Form → List Symbol → Type 0
GoesOn f ts = (more : List Symbol) × AreForm f (ts ++ more)

-- there is a token of each sort
some_symbol : (s : Sort) → (c : Symbol) × IsOf s c
some_symbol a_name = (name some_name, (some_name, refl))
some_symbol a_number = (number (pos 0), (0, refl))
some_symbol a_divisor = (number (pos 1), (0, refl))
some_symbol a_subtask = (sub (pos 0) (pos 0) first_place, ((0, 0), first_place, refl))
some_symbol (this k) = (fixed k, refl)

-- symbols that are of the form go on with none
whole : (f : Form) (ts : List Symbol) → AreForm f ts → GoesOn f ts
whole f ts a = ([], subst (AreForm f) (sym (append-nil ts)) a)

-- none go on with any symbols of the form
from_none : (f : Form) (ts more : List Symbol) → ts ≡ [] → AreForm f more → GoesOn f ts
from_none f ts more e a = (more, subst (λ (l : List Symbol). AreForm f (l ++ more)) (sym e) a)

-- one more part stands behind the others
joined-push : (ps : List (List Symbol)) (p : List Symbol) → joined (ps ++ p ∷ []) ≡ joined ps ++ p
joined-push [] p = append-nil p
joined-push (q ∷ ps) p = ap (λ (l : List Symbol). q ++ l) (joined-push ps p) ∙ sym (append_assoc q (joined ps) p)

-- ---- what begins goes on

-- what begins a form goes on to symbols of it, by the cases of the form
pub goes_on : (f : Form) (ts : List Symbol) → BeginForm f ts → GoesOn f ts
goes_on never ts b = absurd b
goes_on nothing ts e = whole nothing ts e
goes_on (one s) ts (inl e) = let c = some_symbol s in from_none (one s) ts (c.0 ∷ []) e (c.0, refl, c.1)
goes_on (one s) ts (inr a) = whole (one s) ts a
goes_on (then f g) ts (inl (b, y)) = let x = goes_on f ts b in (x.0 ++ y.0, (ts ++ x.0, y.0, sym (append_assoc ts x.0 y.0), x.1, y.1))
goes_on (then f g) ts (inr (xs, ys, e, a, b)) =
    let y = goes_on g ys b in (y.0, (xs, ys ++ y.0, ap (λ (l : List Symbol). l ++ y.0) e ∙ append_assoc xs ys y.0, a, y.1))
goes_on (either f g) ts (inl b) = let x = goes_on f ts b in (x.0, inl x.1)
goes_on (either f g) ts (inr b) = let x = goes_on g ts b in (x.0, inr x.1)
goes_on (many f) ts (parts, last, e, all, inl none) =
    whole (many f) ts (parts, e ∙ ap (λ (l : List Symbol). joined parts ++ l) none ∙ append-nil (joined parts), all)
goes_on (many f) ts (parts, last, e, all, inr b) =
    let x = goes_on f last b in
    (x.0, (parts ++ (last ++ x.0) ∷ [], ap (λ (l : List Symbol). l ++ x.0) e ∙ append_assoc (joined parts) last x.0 ∙ sym (joined-push parts (last ++ x.0)), All-push (AreForm f) parts (last ++ x.0) all x.1))

-- ---- what goes on begins

-- the front of no symbols has none
none_more : (xs ys : List Symbol) → xs ++ ys ≡ [] → xs ≡ []
none_more [] ys e = refl
none_more (x ∷ xs) ys e = absurd cc

-- the front of one symbol has none or is that symbol
one_more : (ts more : List Symbol) (c : Symbol) → ts ++ more ≡ c ∷ [] → (ts ≡ []) ⊎ (ts ≡ c ∷ [])
one_more [] more c e = inl refl
one_more (t ∷ ts) more c e =
    let head : t ≡ c = cc in
    let tail : ts ++ more ≡ [] = cc in
    inr (λ i. head i ∷ none_more ts more tail i)

-- the front of parts is some of them before the front of another
many_begin : (f : Form) → ((ts more : List Symbol) → AreForm f (ts ++ more) → BeginForm f ts) → (parts : List (List Symbol)) → All (AreForm f) parts → (ts more : List Symbol) → ts ++ more ≡ joined parts → BeginForm (many f) ts
many_begin f ih [] all ts more e = ([], ts, refl, All-nil (AreForm f), inl (none_more ts more e))
many_begin f ih (p ∷ ps) all ts more e =
    ⊎_elim
    (λ (s : Splits ts more p (joined ps)). ([], ts, refl, All-nil (AreForm f), inr (ih ts s.0 (subst (AreForm f) s.1 (All-head (AreForm f) p ps all)))))
    (λ (s : Splits p (joined ps) ts more).
    let r = many_begin f ih ps (All-tail (AreForm f) p ps all) s.0 more (sym s.2) in
    (p ∷ r.0, r.1, s.1 ∙ ap (λ (l : List Symbol). p ++ l) r.2 ∙ sym (append_assoc p (joined r.0) r.1), All-cons (AreForm f) p r.0 (All-head (AreForm f) p ps all) r.3, r.4))
    (fronts_split ts more p (joined ps) e)

-- a front of symbols of a form begins it, by the cases of the form
pub begins : (f : Form) (ts more : List Symbol) → AreForm f (ts ++ more) → BeginForm f ts
begins never ts more a = absurd a
begins nothing ts more e = none_more ts more e
begins (one s) ts more (c, e, i) = ⊎_elim (λ (x : ts ≡ []). inl x) (λ (x : ts ≡ c ∷ []). inr (c, x, i)) (one_more ts more c e)
begins (then f g) ts more (xs, ys, e, a, b) =
    ⊎_elim
    (λ (s : Splits ts more xs ys). inl (begins f ts s.0 (subst (AreForm f) s.1 a), (ys, b)))
    (λ (s : Splits xs ys ts more). inr (xs, s.0, s.1, a, begins g s.0 more (subst (AreForm g) s.2 b)))
    (fronts_split ts more xs ys e)
begins (either f g) ts more (inl a) = inl (begins f ts more a)
begins (either f g) ts more (inr a) = inr (begins g ts more a)
begins (many f) ts more (parts, e, all) = many_begin f (λ us vs a. begins f us vs a) parts all ts more e
