-- Symbols that have given pieces, put together.
use Rattle.std.proofs.Common.{◌≡◌, Bool, true, false, List, [], ◌∷◌, ◌++◌, map, All, refl, sym, ap, ◌∙◌, append-nil}
use Rattle.std.specs.List.{flat_map, join_by}
use Rattle.std.proofs.lemmas.List.{map-append}
use Rattle.std.proofs.lemmas.List.Elements.{All-head, All-tail}
use Rattle.std.proofs.lemmas.List.Folds.{flat_map-map}
use Rattle.utopist_lexer.specs.declared.mark.Mark.{Mark}
use Rattle.utopist_lexer.specs.declared.mark.Mark.TheVariants as marks
use Rattle.token_forms.specs.Symbols as symbols
use Rattle.token_forms.specs.Symbols.{Symbol}
use Rattle.token_forms.specs.Lists.{OneOrMore, behind, separated, all_of}
use Rattle.canonical_reading.specs.Piece.{Piece, mark_piece}
use Rattle.canonical_reading.specs.ExprPieces.{round_pieces}
use Rattle.canonical_reading.proofs.SymbolPiece.{symbol_piece}

-- the symbols have just these pieces
pub record Spelt (xs : List Symbol) (ps : List Piece) : Type 0 where
  pub same : ps ≡ map symbol_piece xs

-- nothing
pub spelt-nil : Spelt [] []
spelt-nil = record { same = refl }

-- a symbol before others
pub spelt-cons : (x : Symbol) {xs : List Symbol} {ps : List Piece} → Spelt xs ps → Spelt (x ∷ xs) (symbol_piece x ∷ ps)
spelt-cons x a = record { same = ap (λ qs. symbol_piece x ∷ qs) a.same }

-- a symbol with a piece that is its own by an equation
pub spelt-cons_same : (x : Symbol) (p : Piece) {xs : List Symbol} {ps : List Piece} → p ≡ symbol_piece x → Spelt xs ps → Spelt (x ∷ xs) (p ∷ ps)
spelt-cons_same x p e a = let q = a.same in record { same = λ i. e i ∷ q i }

-- one after the other
pub spelt-append : {xs ys : List Symbol} {ps qs : List Piece} → Spelt xs ps → Spelt ys qs → Spelt (xs ++ ys) (ps ++ qs)
spelt-append {xs} {ys} a b = let p = a.same in let q = b.same in let e : _ = λ i. p i ++ q i in record { same = e ∙ sym (map-append symbol_piece xs ys) }

-- the same pieces, written otherwise
pub spelt-same : {xs : List Symbol} {ps qs : List Piece} → qs ≡ ps → Spelt xs ps → Spelt xs qs
spelt-same e a = record { same = e ∙ a.same }

-- ---- parentheses

-- none where they are not needed
pub spelt_plain : {xs : List Symbol} {ps : List Piece} (needed : Bool) → needed ≡ false → Spelt xs ps → Spelt xs (round_pieces needed ps)
spelt_plain {xs} {ps} needed e a = spelt-same (ap (λ (b : Bool). round_pieces b ps) e ∙ append-nil ps) a

-- both where they are
pub spelt_round : {xs : List Symbol} {ps : List Piece} (needed : Bool) → needed ≡ true → Spelt xs ps → Spelt (symbols.mark marks.OpenRound ∷ (xs ++ (symbols.mark marks.CloseRound ∷ []))) (round_pieces needed ps)
spelt_round {xs} {ps} needed e a =
    spelt-same (ap (λ (b : Bool). round_pieces b ps) e)
    (spelt-cons (symbols.mark marks.OpenRound) (spelt-append a (spelt-cons (symbols.mark marks.CloseRound) spelt-nil)))

-- ---- lists

module _ {X : Type 0} (spell : X → List Symbol) (show : X → List Piece) (each : (x : X) → Spelt (spell x) (show x)) where
  -- each with its separator before it
  spelt_behind : (m : Mark) (xs : List X) → Spelt (flat_map (behind m spell) xs) (flat_map (λ y. (mark_piece m ∷ []) ++ show y) xs)
  spelt_behind m [] = spelt-nil
  spelt_behind m (x ∷ xs) = let a = spelt-append (spelt-cons (symbols.mark m) (each x)) (spelt_behind m xs) in a

  -- one or more with separators
  pub spelt_joined : (m : Mark) (xs : OneOrMore X) → Spelt (separated m spell xs) (join_by show (mark_piece m ∷ []) (all_of xs))
  spelt_joined m xs = let a = spelt-append (each xs.first) (spelt_behind m xs.more) in a

-- elements in a row that are written and seen in their own ways, and of which P holds
pub spelt_row_of : {X Y V : Type 0} (P : X → Type 0) (spell : Y → List Symbol) (show : V → List Piece) (write : X → Y) (see : X → V) → ((x : X) → P x → Spelt (spell (write x)) (show (see x))) → (xs : List X) → All P xs → Spelt (flat_map spell (map write xs)) (flat_map show (map see xs))
spelt_row_of P spell show write see each [] h = spelt-nil
spelt_row_of P spell show write see each (x ∷ xs) h =
    spelt-append (each x (All-head P x xs h)) (spelt_row_of P spell show write see each xs (All-tail P x xs h))

-- one or more with separators, of which the pieces are those of what is seen
pub spelt_joined_as : {X V : Type 0} (spell : X → List Symbol) (show : V → List Piece) (see : X → V) → ((x : X) → Spelt (spell x) (show (see x))) → (m : Mark) (xs : OneOrMore X) → Spelt (separated m spell xs) (join_by show (mark_piece m ∷ []) (map see (all_of xs)))
spelt_joined_as spell show see each m xs =
    spelt-same (ap (λ ps. show (see xs.first) ++ ps) (flat_map-map (λ y. (mark_piece m ∷ []) ++ show y) see xs.more)) (spelt_joined spell (λ x. show (see x)) each m xs)

module _ {X Y V : Type 0} (spell : Y → List Symbol) (show : V → List Piece) (write : X → Y) (see : X → V) (each : (x : X) → Spelt (spell (write x)) (show (see x))) where
  -- elements in a row that are written and seen in their own ways
  pub spelt_row_seen : (xs : List X) → Spelt (flat_map spell (map write xs)) (flat_map show (map see xs))
  spelt_row_seen [] = spelt-nil
  spelt_row_seen (x ∷ xs) = spelt-append (each x) (spelt_row_seen xs)

  -- each with its separator before it
  spelt_behind_seen : (m : Mark) (xs : List X) → Spelt (flat_map (behind m spell) (map write xs)) (flat_map (λ y. (mark_piece m ∷ []) ++ show y) (map see xs))
  spelt_behind_seen m [] = spelt-nil
  spelt_behind_seen m (x ∷ xs) = let a = spelt-append (spelt-cons (symbols.mark m) (each x)) (spelt_behind_seen m xs) in a

  -- one or more with separators
  pub spelt_joined_seen : (m : Mark) (xs : OneOrMore X) → Spelt (separated m spell (record { first = write xs.first; more = map write xs.more })) (join_by show (mark_piece m ∷ []) (map see (all_of xs)))
  spelt_joined_seen m xs = let a = spelt-append (each xs.first) (spelt_behind_seen m xs.more) in a
