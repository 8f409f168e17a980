-- Pieces that are written one after another.
use Rattle.std.proofs.Common.{◌≡◌, ℕ, ◌+◌, ◌<◌, List, ◌++◌, Option, length, get_or, take, drop, sym, ap, ◌∙◌, subst, arith, length-append}
use Rattle.std.specs.Io.KnownBytes.{Appends}
use Rattle.std.proofs.KnownBytes.{Appends-trans}
use Rattle.std.proofs.Math.Seq.{take-append-add}
use Rattle.std.proofs.lemmas.List.{take-append-drop, take-append-le, drop_more}
use Rattle.std.proofs.lemmas.Grind.{flat_map-append}
use denote.Bor.{Bor}
use Rattle.priz_base.specs.Writing.{WritesPart, pieces_text}

-- what stands before a piece, the piece, and what follows
split_at : (pieces : List (Bor (List ℕ))) (i : ℕ) (d : Bor (List ℕ)) → i < length pieces → pieces_text pieces ≡ pieces_text (take i pieces) ++ ((get_or pieces i d).now ++ pieces_text (drop (i + 1) pieces))
split_at pieces i d lt =
    ap pieces_text (sym (take-append-drop i pieces)) ∙ flat_map-append (λ (p : Bor (List ℕ)). p.now) (take i pieces) (drop i pieces)
    ∙ ap (λ (ps : List (Bor (List ℕ))). pieces_text (take i pieces) ++ pieces_text ps) (drop_more pieces i d lt)

-- where a piece is written in part, so are all of them
pub part_of : (old mid new : Option (List ℕ)) (pieces : List (Bor (List ℕ))) (i : ℕ) (d : Bor (List ℕ)) → i < length pieces → Appends old mid (pieces_text (take i pieces)) → WritesPart mid new (get_or pieces i d).now → WritesPart old new (pieces_text pieces)
part_of old mid new pieces i d lt before (n, short, some) =
    let front = pieces_text (take i pieces) in
    let piece = (get_or pieces i d).now in
    let back = pieces_text (drop (i + 1) pieces) in
    let whole = split_at pieces i d lt in
    let written : take (length front + n) (pieces_text pieces) ≡ front ++ take n piece =
    ap (take (length front + n)) whole ∙ take-append-add front (piece ++ back) n ∙ ap (λ xs. front ++ xs) (take-append-le n piece back (omega arith)) in
    (length front + n, omega (arith, ap length whole, length-append front (piece ++ back), length-append piece back), subst (Appends old new) (sym written) (Appends-trans old mid new front (take n piece) before some))
