-- Worlds with the members of rows, a row at a time.
use Rattle.std.proofs.Common.{◌≡◌, ℕ, ◌+◌, ◌<◌, List, [], ◌∷◌, ◌++◌, length, get_or, take, map, refl, arith, length-take, Bor}
use Rattle.std.proofs.lemmas.List.{length-map, get_or_default}
use Rattle.priz_base.proofs.More.{map_more}
use Rattle.statement_set.specs.Forcing.{World}
use Rattle.worked_problems.specs.WorldRows.{HasJust, AreWorldsOf}

as_many : (ws : List World) (rs : List (List ℕ)) → AreWorldsOf ws rs → length ws ≡ length rs
as_many [] [] h = refl
as_many [] (r ∷ rs) h = absurd h
as_many (w ∷ ws) [] h = absurd h
as_many (w ∷ ws) (r ∷ rs) h = omega (arith, as_many ws rs h.1)

one_more : (ws : List World) (rs : List (List ℕ)) (w : World) (r : List ℕ) → AreWorldsOf ws rs → HasJust w r → AreWorldsOf (ws ++ w ∷ []) (rs ++ r ∷ [])
one_more [] [] w r h just = (just, tt)
one_more [] (s ∷ rs) w r h just = absurd h
one_more (v ∷ ws) [] w r h just = absurd h
one_more (v ∷ ws) (s ∷ rs) w r h just = (h.0, one_more ws rs w r h.1 just)

pub front_fits : (rows : List (Bor (List ℕ))) (i : ℕ) (ws : List World) → i < length rows → AreWorldsOf ws (map (λ r. r.now) (take i rows)) → length ws ≡ i
front_fits rows i ws lt h =
    let f : Bor (List ℕ) → List ℕ = λ r. r.now in
    omega (arith, as_many ws (map f (take i rows)) h, length-map (take i rows) f, length-take i rows)

pub worlds_more : (rows : List (Bor (List ℕ))) (i : ℕ) (d : Bor (List ℕ)) (ws new : List World) (w : World) → i < length rows → AreWorldsOf ws (map (λ r. r.now) (take i rows)) → HasJust w (get_or rows i d).now → new ≡ ws ++ w ∷ [] → AreWorldsOf new (map (λ r. r.now) (take (i + 1) rows))
worlds_more rows i d ws new w lt h just e =
    let f : Bor (List ℕ) → List ℕ = λ r. r.now in
    let r = get_or rows i d in
    rw (e, map_more f rows i r lt (get_or_default rows i d r lt)) (one_more ws (map f (take i rows)) w r.now h just)
