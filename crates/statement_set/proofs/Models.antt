-- What worlds force.
use Rattle.std.proofs.Common.{ℕ, ◌-◌, length, List, [], ◌∷◌, ⊎_elim, inl, inr}
use Rattle.std.specs.Prelude.{Contains, All, map}
use Rattle.std.proofs.lemmas.List.Elements.{All-nil, All-cons, All-head, All-tail, All-contains, All-weaker, All-append, All-map}
use Rattle.priz_base.specs.Sets.{IsWithin}
use Rattle.statement_set.specs.Formula.{Formula, atom, falsum, imp, and, or, chain, atoms, statement_formula}
use Rattle.statement_set.specs.Derivation.{Derivation, assume, imp_intro, imp_elim, and_intro, and_left, and_right, or_left, or_right, or_elim, from_false, derives, Follows}
use Rattle.statement_set.specs.Problem.{Task}
use Rattle.statement_set.specs.Goal.{IsDerivableFrom, hypotheses_from}
use Rattle.statement_set.specs.Forcing.{World, forces}
use Rattle.statement_set.specs.Countermodel.{IsCountermodelFrom}
use Rattle.statement_set.proofs.Lists.{contains_at}
use Rattle.priz_base.proofs.Members.{within_itself, within_trans}

-- what a world forces, each world above it forces
pub kept : (L : List World) (A : Formula) (w u : World) → IsWithin w u → forces L w A → forces L u A
kept L (atom v) w u i h = All-contains (Contains u) w v i h
kept L falsum w u i h = h
kept L (imp A B) w u i h = λ x c j f. h x c (within_trans w u x i j) f
kept L (and A B) w u i h = (kept L A w u i h.0, kept L B w u i h.1)
kept L (or A B) w u i h = ⊎_elim (λ a. inl (kept L A w u i a)) (λ b. inr (kept L B w u i b)) h

-- each formula of the list is forced
abbrev pub ForcesAll : List World → World → List Formula → Type 0
ForcesAll L w H = All (forces L w) H

pub kept_all : (L : List World) (H : List Formula) (w u : World) → IsWithin w u → ForcesAll L w H → ForcesAll L u H
kept_all L H w u i h = All-weaker (forces L w) (forces L u) (λ A f. kept L A w u i f) H h

-- a tree derives only what is forced where its hypotheses are
pub sound : (L : List World) (t : Derivation) (H : List Formula) (A : Formula) (w : World) → Contains L w → ForcesAll L w H → derives t H A → forces L w A
sound L assume H A w c h d = All-contains (forces L w) H A h d
sound L (imp_intro t) H (imp A B) w c h d = λ u k i f. sound L t (A ∷ H) B u k (All-cons (forces L u) A H f (kept_all L H w u i h)) d
sound L (imp_intro t) H _ w c h d = absurd d
sound L (imp_elim A t u) H B w c h d = sound L t H (imp A B) w c h d.0 w c (within_itself w) (sound L u H A w c h d.1)
sound L (and_intro t u) H (and A B) w c h d = (sound L t H A w c h d.0, sound L u H B w c h d.1)
sound L (and_intro t u) H _ w c h d = absurd d
sound L (and_left B t) H A w c h d = (sound L t H (and A B) w c h d).0
sound L (and_right A t) H B w c h d = (sound L t H (and A B) w c h d).1
sound L (or_left t) H (or A B) w c h d = inl (sound L t H A w c h d)
sound L (or_left t) H _ w c h d = absurd d
sound L (or_right t) H (or A B) w c h d = inr (sound L t H B w c h d)
sound L (or_right t) H _ w c h d = absurd d
sound L (or_elim A B t u v) H C w c h d =
    ⊎_elim
    (λ a. sound L u (A ∷ H) C w c (All-cons (forces L w) A H a h) d.1)
    (λ b. sound L v (B ∷ H) C w c (All-cons (forces L w) B H b h) d.2)
    (sound L t H (or A B) w c h d.0)
sound L (from_false t) H A w c h d = absurd (sound L t H falsum w c h d)

-- a countermodel refutes every derivation of the goal
pub refutes : (p : Task) (G : List ℕ) (L : List World) → IsCountermodelFrom p G L → IsDerivableFrom p G → ⊥
refutes p G L m d =
    let w = m.refuted.0 in
    let r = m.refuted.2 in
    let H = hypotheses_from p G in
    let c = contains_at L (length L - 1) w m.refuted.1 in
    let h : ForcesAll L w H = All-append (forces L w) (map statement_formula p.statements) (atoms G) (All-map (forces L w) statement_formula p.statements r.statements) (All-map (forces L w) atom G r.givens) in
    let v = r.lacks.1 in
    let f = All-contains (λ x. Follows H (atom x)) p.wants v d (r.lacks.0, r.lacks.2, r.lacks.3) in
    r.lacks.4 (sound L f.0 H (atom v) w c h f.1)

-- a chain is forced where each world above that forces its links forces its end
pub forces_chain : (L : List World) (As : List Formula) (B : Formula) (w : World) → ((u : World) → Contains L u → IsWithin w u → ForcesAll L u As → forces L u B) → Contains L w → forces L w (chain As B)
forces_chain L [] B w h c = h w c (within_itself w) (All-nil (forces L w))
forces_chain L (A ∷ As) B w h c = λ u k i f.
    forces_chain L As B u (λ x l j g. h x l (within_trans w u x i j) (All-cons (forces L x) A As (kept L A u x j f) g)) k

pub chain_forces : (L : List World) (As : List Formula) (B : Formula) (w u : World) → forces L w (chain As B) → Contains L u → IsWithin w u → ForcesAll L u As → forces L u B
chain_forces L [] B w u h c i g = kept L B w u i h
chain_forces L (A ∷ As) B w u h c i g =
    chain_forces L As B u u (h u c i (All-head (forces L u) A As g)) c (within_itself u) (All-tail (forces L u) A As g)
