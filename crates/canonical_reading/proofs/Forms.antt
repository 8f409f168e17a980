-- Texts with their pieces, put before what follows them.
use Rattle.std.proofs.Common.{◌≡◌, ℕ, Bool, true, false, List, [], ◌∷◌, ◌++◌, map, refl, sym, ap, subst, ◌∙◌, append_assoc}
use Rattle.std.specs.List.{AllByRecursion, flat_map, join_by}
use Rattle.std.specs.Str.{IsUtf8, IsAscii, chars}
use Rattle.std.proofs.lemmas.Str.{IsUtf8-append, chars-append, IsUtf8-from_ascii, chars-IsAscii}
use Rattle.utopist_lexer.specs.Characters.{is_continue}
use Rattle.utopist_lexer.specs.Gap.{past_gap}
use Rattle.utopist_lexer.specs.Lexical.{IsFree, IsToken}
use Rattle.utopist_lexer.specs.Cutting.{StopsAt}
use Rattle.canonical_reading.specs.Piece.{Piece}
use Rattle.canonical_reading.proofs.PrintableParts.{SomeAndAll}
use Rattle.canonical_reading.proofs.Classes.{free_stops}
use Rattle.canonical_reading.proofs.Follows.{Follows, opens}

-- ---- what stands next

-- what a text asks of what follows it, and offers to what stands before it: nothing, that no name goes on there, or that no number does either
pub data Next : Type 0 where
  anything : Next
  stops : Next
  free : Next

-- the front of a text is so
abbrev pub Holds : Next → List ℕ → Type 0
Holds anything cs = Unit {0}
Holds stops cs = StopsAt is_continue cs
Holds free cs = IsFree cs

-- what is asked is no more than what is offered
abbrev pub meets : Next → Next → Bool
meets anything anything = true
meets anything stops = true
meets anything free = true
meets stops anything = false
meets stops stops = true
meets stops free = true
meets free anything = false
meets free stops = false
meets free free = true

-- what is offered holds as it is asked
holds_met : (n o : Next) (cs : List ℕ) → meets n o ≡ true → Holds o cs → Holds n cs
holds_met anything o cs e h = tt
holds_met stops anything cs e h = absurd cc
holds_met stops stops cs e h = h
holds_met stops free cs e h = free_stops cs h
holds_met free anything cs e h = absurd cc
holds_met free stops cs e h = absurd cc
holds_met free free cs e h = h

-- anything will do
pub meets_anything : (o : Next) → meets anything o ≡ true
meets_anything anything = refl
meets_anything stops = refl
meets_anything free = refl

-- the same will do
meets_same : (n : Next) → meets n n ≡ true
meets_same anything = refl
meets_same stops = refl
meets_same free = refl

-- ---- forms

-- a text whose characters have these pieces, with a front as it is offered
pub record Laid (o : Next) (text : List ℕ) (ps : List Piece) : Type 0 where
  pub utf8 : IsUtf8 text
  pub follows : Follows (chars text) ps
  pub front : Holds o (chars text)

-- a text that puts its pieces before those of what follows it
pub record Form (n o : Next) (text : List ℕ) (ps : List Piece) : Type 0 where
  pub lays : (rest : List ℕ) (qs : List Piece) → Laid n rest qs → Laid o (text ++ rest) (ps ++ qs)

-- what is laid may offer less
weaker : (n o : Next) (text : List ℕ) (ps : List Piece) → meets n o ≡ true → Laid o text ps → Laid n text ps
weaker n o text ps e l = record { utf8 = l.utf8; follows = l.follows; front = holds_met n o (chars text) e l.front }

-- nothing
pub none_form : (n : Next) → Form n n [] []
none_form n = record { lays = λ rest qs l. l }

-- two texts, of which the second offers what the first asks
pub joins : {n o m q : Next} {text more : List ℕ} {ps qs : List Piece} → Form n o text ps → Form m q more qs → meets n q ≡ true → Form m o (text ++ more) (ps ++ qs)
joins {n} {o} {m} {q} {text} {more} {ps} {qs} a b e = record {
  lays = λ rest rs l.
      let behind = weaker n q (more ++ rest) (qs ++ rs) e (b.lays rest rs l) in
      let whole = a.lays (more ++ rest) (qs ++ rs) behind in
      subst (λ (t : List ℕ). Laid o t ((ps ++ qs) ++ rs)) (sym (append_assoc text more rest))
      (subst (λ (p : List Piece). Laid o (text ++ (more ++ rest)) p) (sym (append_assoc ps qs rs)) whole);
}

-- a form may ask for more
pub asks : {n o : Next} {text : List ℕ} {ps : List Piece} (m : Next) → Form n o text ps → meets n m ≡ true → Form m o text ps
asks {n} {o} m a e = record { lays = λ rest qs l. a.lays rest qs (weaker n m rest qs e l) }

-- and offer less
pub offers : {n o : Next} {text : List ℕ} {ps : List Piece} (q : Next) → Form n o text ps → meets q o ≡ true → Form n q text ps
offers {n} {o} {text} {ps} q a e = record { lays = λ rest qs l. weaker q o (text ++ rest) (ps ++ qs) e (a.lays rest qs l) }

-- ---- pieces and blanks

-- a piece before what is laid
pub piece_lays : (n o : Next) (p : Piece) (text rest : List ℕ) (qs : List Piece) → IsUtf8 text → chars text ≡ p.text → IsToken p.kind p.text (chars rest) → Holds o (p.text ++ chars rest) → Laid n rest qs → Laid o (text ++ rest) (p ∷ qs)
piece_lays n o p text rest qs u e t h l =
    let is : chars (text ++ rest) ≡ p.text ++ chars rest = chars-append text rest u ∙ ap (λ (x : List ℕ). x ++ chars rest) e in
    record {
      utf8 = IsUtf8-append text rest u l.utf8;
      follows = subst (λ (x : List ℕ). Follows x (p ∷ qs)) (sym is) (chars rest, opens p.kind p.text (chars rest) t.longest.spelled, t, l.follows);
      front = subst (Holds o) (sym is) h;
    }

-- tokens follow each other behind any gap
follows_past : (cs ds : List ℕ) (qs : List Piece) → past_gap false ds ≡ past_gap false cs → Follows cs qs → Follows ds qs
follows_past cs ds [] e f = e ∙ f
follows_past cs ds (q ∷ qs) e f = (f.0, e ∙ f.1, f.2, f.3)

-- blanks, which are free
pub blanks_form : (text : List ℕ) → IsAscii text → ((cs : List ℕ) → past_gap false (text ++ cs) ≡ past_gap false cs) → ((cs : List ℕ) → IsFree (text ++ cs)) → Form anything free text []
blanks_form text a past front = record {
  lays = λ rest qs l.
      let u = IsUtf8-from_ascii text a in
      let is : chars (text ++ rest) ≡ text ++ chars rest = chars-append text rest u ∙ ap (λ (x : List ℕ). x ++ chars rest) (chars-IsAscii text a) in
      record {
        utf8 = IsUtf8-append text rest u l.utf8;
        follows = subst (λ (x : List ℕ). Follows x qs) (sym is) (follows_past (chars rest) (text ++ chars rest) qs (past (chars rest)) l.follows);
        front = subst IsFree (sym is) (front (chars rest));
      };
}

-- blanks behind a form leave its pieces
pub then_blanks : {n o : Next} {text blanks : List ℕ} {ps : List Piece} → Form n o text ps → Form anything free blanks [] → meets n free ≡ true → Form anything o (text ++ blanks) ps
then_blanks {n} {o} {text} {blanks} {ps} a b e = record {
  lays = λ rest rs l.
      subst (λ (t : List ℕ). Laid o t (ps ++ rs)) (sym (append_assoc text blanks rest)) (a.lays (blanks ++ rest) rs (weaker n free (blanks ++ rest) rs e (b.lays rest rs l)));
}

-- ---- lists

module _ {X : Type 0} (P : X → Type 0) (f : X → List ℕ) (g : X → List Piece) where
  -- each element with its separator before it
  tail_form : (n q : Next) (between : List ℕ) (seps : List Piece) → ((x : X) → P x → Form n anything (f x) (g x)) → Form anything q between seps → meets n q ≡ true → (xs : List X) → AllByRecursion P xs → Form n n (flat_map (λ y. between ++ f y) xs) (flat_map (λ y. seps ++ g y) xs)
  tail_form n q between seps each sep e [] h = none_form n
  tail_form n q between seps each sep e (x ∷ xs) h = joins (joins (offers n sep e) (each x h.0) refl) (tail_form n q between seps each sep e xs h.1) (meets_same n)

  -- one or more elements joined
  pub join_form : (n q : Next) (between : List ℕ) (seps : List Piece) → ((x : X) → P x → Form n anything (f x) (g x)) → Form anything q between seps → meets n q ≡ true → (xs : List X) → SomeAndAll P xs → Form n anything (join_by f between xs) (join_by g seps xs)
  join_form n q between seps each sep e [] h = absurd h
  join_form n q between seps each sep e (x ∷ xs) h = joins (each x h.0) (tail_form n q between seps each sep e xs h.1) (meets_same n)

  -- elements in a row, of which each offers what is asked before it
  pub row_form : (n : Next) → ((x : X) → P x → Form n n (f x) (g x)) → (xs : List X) → AllByRecursion P xs → Form n n (flat_map f xs) (flat_map g xs)
  row_form n each [] h = none_form n
  row_form n each (x ∷ xs) h = joins (each x h.0) (row_form n each xs h.1) (meets_same n)

-- elements in a row, of which the pieces are those of their trees
pub trees_form : {X V : Type 0} (P : V → Type 0) (f : X → List ℕ) (g : V → List Piece) (tree : X → V) (n : Next) → ((x : X) → P (tree x) → Form n n (f x) (g (tree x))) → (xs : List X) → AllByRecursion P (map tree xs) → Form n n (flat_map f xs) (flat_map g (map tree xs))
trees_form P f g tree n each [] h = none_form n
trees_form P f g tree n each (x ∷ xs) h = joins (each x h.0) (trees_form P f g tree n each xs h.1) (meets_same n)
