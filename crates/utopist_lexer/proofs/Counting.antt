-- Counting places.
use Rattle.std.proofs.Common.{◌≡◌, ℕ, ◌+◌, ◌≤◌, Bool, true, false, cond, eqb, List, [], ◌∷◌, ◌++◌, length, refl, sym, ap, ◌∙◌, arith, length-append}
use Rattle.std.specs.Char.{encode_utf8, len_utf8}
use Rattle.std.specs.Str.{encode_utf8_all}
use Rattle.std.proofs.lemmas.Str.{length-encode, len_utf8_bounds}
use Rattle.priz_base.specs.declared.place.Place.{Place}
use Rattle.utopist_lexer.specs.Places.{place_past, place_behind}
use Rattle.utopist_lexer.specs.Cutting.{HasRoom}

-- a first character takes its bytes
first_size : (rest after : List ℕ) (c : ℕ) → rest ≡ encode_utf8 c ++ after → length rest ≡ len_utf8 c + length after
first_size rest after c e = ap length e ∙ length-append (encode_utf8 c) after ∙ ap (λ (n : ℕ). n + length after) (length-encode c)

-- room for the rest is room for its first character
pub room_for : (p : Place) (rest after : List ℕ) (c : ℕ) → rest ≡ encode_utf8 c ++ after → HasRoom p (length rest) → HasRoom p (len_utf8 c)
room_for p rest after c e r =
    let size = first_size rest after c e in
    record { at = omega (arith, size, r.at); line = omega (arith, size, r.line); col = omega (arith, size, r.col) }

line_grows : (b : Bool) (n m : ℕ) → 1 ≤ m → cond b (n + 1) n ≤ n + m
line_grows true n m h = omega arith
line_grows false n m h = omega arith

col_grows : (b : Bool) (n m : ℕ) → 1 ≤ m → cond b 1 (n + 1) ≤ n + m
col_grows true n m h = omega arith
col_grows false n m h = omega arith

-- behind a character there is room for what follows
room_step : (p : Place) (c n k : ℕ) → HasRoom p n → n ≡ len_utf8 c + k → HasRoom (place_past p c) k
room_step p c n k r size =
    let some : 1 ≤ len_utf8 c = (len_utf8_bounds c).0 in
    record {
      at = omega (arith, size, r.at);
      line = omega (arith, size, r.line, some, line_grows (eqb c 10) p.line (len_utf8 c) some);
      col = omega (arith, size, r.col, some, col_grows (eqb c 10) p.col (len_utf8 c) some);
    }

pub room_past : (p : Place) (rest after : List ℕ) (c : ℕ) → rest ≡ encode_utf8 c ++ after → HasRoom p (length rest) → HasRoom (place_past p c) (length after)
room_past p rest after c e r = room_step p c (length rest) (length after) r (first_size rest after c e)

pub room_behind : (p : Place) (cs : List ℕ) (n k : ℕ) → HasRoom p n → n ≡ length (encode_utf8_all cs) + k → HasRoom (place_behind p cs) k
room_behind p [] n k r size = record { at = omega (arith, size, r.at); line = omega (arith, size, r.line); col = omega (arith, size, r.col) }
room_behind p (c ∷ cs) n k r size =
    let whole : length (encode_utf8_all (c ∷ cs)) ≡ len_utf8 c + length (encode_utf8_all cs) = first_size _ (encode_utf8_all cs) c refl in
    room_behind (place_past p c) cs (length (encode_utf8_all cs) + k) k (room_step p c n (length (encode_utf8_all cs) + k) r (omega (arith, size, whole))) refl

-- one step of the count
pub behind_step : (p q : Place) (rest after : List ℕ) (c : ℕ) → rest ≡ c ∷ after → q ≡ place_past p c → place_behind q after ≡ place_behind p rest
behind_step p q rest after c e step = ap (λ (x : Place). place_behind x after) step ∙ sym (ap (place_behind p) e)

pub behind_none : (p : Place) (rest : List ℕ) → rest ≡ [] → p ≡ place_behind p rest
behind_none p rest e = sym (ap (place_behind p) e)

pub behind-append : (p : Place) (xs ys : List ℕ) → place_behind p (xs ++ ys) ≡ place_behind (place_behind p xs) ys
behind-append p [] ys = refl
behind-append p (x ∷ xs) ys = behind-append (place_past p x) xs ys
