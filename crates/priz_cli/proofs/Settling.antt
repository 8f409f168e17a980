-- What is due for the words and the bytes follows from what an outcome says of them, whatever the modes are.
use Rattle.std.proofs.Common.{◌≡◌, ◌≢◌, ◌<◌, ◌≤◌, ℕ, ◌+◌, Bool, true, false, List, [], ◌++◌, length, Some, None, refl, sym, ap, subst, ◌∙◌, inl, inr, arith, length-append, append-nil}
use Rattle.std.specs.Prelude.{IfSome, IsTrue}
use Rattle.std.specs.declared.option.Option.{Option}
use Rattle.priz_base.specs.Reading.{max_input, TakesTooMany}
use Rattle.priz_cli.specs.declared.order.Order.{Order}
use Rattle.priz_cli.specs.declared.order.Mode.{Mode}
use Rattle.priz_cli.specs.declared.refusal.Refusal.{Refusal}
use Rattle.priz_cli.specs.declared.outcome.Outcome.{Outcome}
use Rattle.priz_cli.specs.declared.outcome.Outcome.TheVariants as outcome
use Rattle.priz_cli.specs.Modes.{reads, IsInputOf, IsRefusedFor}
use Rattle.priz_cli.specs.Ends.{SourceState, Streams, is_to_read, HasRead, Works, WasRefused, Leaves, EndsAs, bytes_to_read, IsWork, Settled, Settles}
use Rattle.priz_cli.proofs.Modes.{one_refusal, input_not_refused, done_on_input}

-- ---- what was read is what there was

same_bytes : (b : Bool) (s t : SourceState) (read bytes : List ℕ) → HasRead b read s t → bytes_to_read b s.left ≡ Some bytes → (read ≡ bytes) × (length bytes ≤ max_input)
same_bytes false s t read bytes h e =
    let same : [] ≡ bytes = cc in (h.0 ∙ same, subst (λ (l : List ℕ). length l ≤ max_input) same (omega arith))
same_bytes true s t read bytes h e = by s.left t.left h e where
  by : (left left' : Option (List ℕ)) → HasRead true read (record { left = left; faults = s.faults }) (record { left = left'; faults = t.faults }) → left ≡ Some bytes → (read ≡ bytes) × (length bytes ≤ max_input)
  by (Some xs) (Some ys) h e =
      let whole : xs ≡ read = h.0 ∙ ap (λ l. read ++ l) h.1 ∙ append-nil read in
      let same : xs ≡ bytes = cc in
      let is : read ≡ bytes = sym whole ∙ same in
      (is, subst (λ (l : List ℕ). length l ≤ max_input) is h.2)
  by (Some xs) None h e = absurd h.0
  by None left' h e = absurd (cc)

too_many : (left left' : Option (List ℕ)) (bytes : List ℕ) → TakesTooMany left left' → left ≡ Some bytes → max_input < length bytes
too_many None left' bytes h e = absurd (cc)
too_many (Some xs) None bytes h e = absurd h.2
too_many (Some xs) (Some more) bytes (taken, many, rest) e =
    let same : xs ≡ bytes = cc in
    let whole : length xs ≡ length taken + length more = subst (λ n. length xs ≡ n) (length-append taken more) (ap length rest) in
    subst (λ (l : List ℕ). max_input < length l) same (omega arith)

-- ---- the one law of all modes

some_same : (m w : Order) → Some m ≡ Some w → m ≡ w
some_same m w e = cc

no_order : (m : Order) → Some m ≡ None → ⊥
no_order m e = cc

if_some : {X : Type 0} (P : X → Type 0) (o : Option X) → ((x : X) → o ≡ Some x → P x) → IfSome o P
if_some P None h = tt
if_some P (Some x) h = h x refl

-- work is done on an input of which there are not too many bytes
worked : (order : Order) (s t : SourceState) (o : Outcome) (text bytes : List ℕ) → Works (Some order) s t o text → bytes_to_read (reads order.mode) s.left ≡ Some bytes → (length bytes ≤ max_input) × IsInputOf order.mode bytes
worked order s t o text bytes w e =
    let same : w.order.mode ≡ order.mode = ap (λ (x : Order). x.mode) (sym (some_same order w.order w.asks)) in
    let read : HasRead (reads order.mode) w.bytes s t = subst (λ (m : Mode). HasRead (reads m) w.bytes s t) same w.read in
    let is = same_bytes (reads order.mode) s t w.bytes bytes read e in
    (is.1, subst (IsInputOf order.mode) is.0 (subst (λ (m : Mode). IsInputOf m w.bytes) same (done_on_input w.order.mode w.order.effort w.bytes o text w.done)))

was_refused : (order : Order) (s t : SourceState) (r : Refusal) (bytes : List ℕ) → WasRefused (Some order) s t r → bytes_to_read (reads order.mode) s.left ≡ Some bytes → (length bytes ≤ max_input) × IsRefusedFor order.mode bytes r
was_refused order s t r bytes w e =
    let same : w.order.mode ≡ order.mode = ap (λ (x : Order). x.mode) (sym (some_same order w.order w.asks)) in
    let read : HasRead (reads order.mode) w.bytes s t = subst (λ (m : Mode). HasRead (reads m) w.bytes s t) same w.read in
    let is = same_bytes (reads order.mode) s t w.bytes bytes read e in
    (is.1, subst (λ (l : List ℕ). IsRefusedFor order.mode l r) is.0 (subst (λ (m : Mode). IsRefusedFor m w.bytes r) same w.cause))

by_work : (m : Mode) (o : Outcome) (bytes : List ℕ) → (length bytes ≤ max_input) × IsInputOf m bytes → IsWork o → Settled m o bytes
by_work m o bytes h work = record {
  long = λ many. absurd (let few = h.0 in omega arith);
  refused = λ r few is. absurd (input_not_refused m bytes r h.1 is);
  accepted = λ few input. work;
}

settled_at : (order : Order) (o : Outcome) (s t : Streams) → Leaves (Some order) o s t → o ≢ outcome.ReadFault → (bytes : List ℕ) → bytes_to_read (reads order.mode) s.source.left ≡ Some bytes → Settled order.mode o bytes
settled_at order (outcome.Solved answers) s t h read bytes e =
    by_work order.mode (outcome.Solved answers) bytes (worked order s.source t.source (outcome.Solved answers) h.0 bytes h.1 e) tt
settled_at order outcome.Usage s t h read bytes e = absurd (no_order order h.0)
settled_at order (outcome.Refused r) s t h read bytes e =
    let is = was_refused order s.source t.source r bytes h.0 e in record {
      long = λ many. absurd (let few = is.0 in omega arith);
      refused = λ q few k. inl (ap (λ (x : Refusal). outcome.Refused x) (one_refusal order.mode bytes r q is.1 k));
      accepted = λ few input. input_not_refused order.mode bytes r input is.1;
    }
settled_at order outcome.InputTooLong s t h read bytes e =
    let many = too_many s.source.left t.source.left bytes h.1 (subst (λ (b : Bool). bytes_to_read b s.source.left ≡ Some bytes) h.0 e) in record {
      long = λ more. inl refl;
      refused = λ q few k. absurd (omega arith);
      accepted = λ few input. absurd (omega arith);
    }
settled_at order outcome.ReadFault s t h read bytes e = absurd (read refl)
settled_at order outcome.WriteFault s t h read bytes e =
    by_work order.mode outcome.WriteFault bytes (worked order s.source t.source h.0 h.1 bytes h.2 e) tt
settled_at order outcome.NoMem s t h read bytes e = record { long = λ many. inr refl; refused = λ q few k. inr refl; accepted = λ few input. tt }

pub settling : (order : Order) (o : Outcome) (s t : Streams) → Leaves (Some order) o s t → Settles (Some order) o s.source.left
settling order o s t h = λ read. if_some (Settled order.mode o) (bytes_to_read (reads order.mode) s.source.left) (settled_at order o s t h read)

-- want of memory settles everything
pub memory_settles : (asked : Option Order) (left : Option (List ℕ)) → Settles asked outcome.NoMem left
memory_settles None left = inr refl
memory_settles (Some order) left = λ read.
    if_some (Settled order.mode outcome.NoMem) (bytes_to_read (reads order.mode) left) (λ bytes e. record { long = λ many. inr refl; refused = λ q few k. inr refl; accepted = λ few input. tt })
