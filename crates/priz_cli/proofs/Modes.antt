-- The laws of the modes: bytes are refused for one cause, and are no input then; work is done on an input.
use Rattle.std.proofs.Common.{◌≡◌, ◌<◌, ◌≤◌, ◌⊎◌, ⊎_elim, inl, inr, ℕ, List, length, refl, sym, ap, subst, ◌∙◌, arith}
use Rattle.std.specs.Str.{IsUtf8, IsValidUpTo}
use Rattle.std.proofs.lemmas.Bool.{cases_lt}
use Rattle.std.proofs.lemmas.List.{take_all}
use Rattle.answer_core.specs.declared.effort.Effort.{Effort}
use Rattle.file_accept.specs.declared.fault.FileFault.{FileFault}
use Rattle.file_accept.specs.declared.fault.FileFault.TheVariants as text
use Rattle.file_accept.specs.Refused.{Refuses}
use Rattle.file_accept.proofs.OneCause.{one_cause, accepted_not_refused}
use Rattle.priz_cli.specs.declared.fault.Fault.{Fault}
use Rattle.priz_cli.specs.declared.fault.Fault.TheVariants as fault
use Rattle.priz_cli.specs.declared.order.Mode.{Mode}
use Rattle.priz_cli.specs.declared.order.Mode.TheVariants as mode
use Rattle.priz_cli.specs.declared.outcome.Outcome.{Outcome}
use Rattle.priz_cli.specs.declared.outcome.Outcome.TheVariants as outcome
use Rattle.priz_cli.specs.declared.refusal.Refusal.{Refusal}
use Rattle.priz_cli.specs.declared.refusal.Refusal.TheVariants as refusal
use Rattle.priz_cli.specs.Modes.{IsInputOf, IsRefusedFor, IsDone}
use Rattle.priz_cli.specs.steps.Faults.{fault_of_file}

-- bytes whose longest front that is UTF-8 is shorter are not UTF-8
not_text : (bytes : List ℕ) (n : ℕ) → IsValidUpTo bytes n → IsUtf8 bytes → ⊥
not_text bytes n v utf8 = v.longest (length bytes) v.short (subst IsUtf8 (sym (take_all (length bytes) bytes (omega arith))) utf8)

-- the longest front that is UTF-8 is one
one_front : (bytes : List ℕ) (n m : ℕ) → IsValidUpTo bytes n → IsValidUpTo bytes m → n ≡ m
one_front bytes n m u v =
    ⊎_elim (λ lt. absurd (u.longest m lt v.front)) (λ le. ⊎_elim (λ lt. absurd (v.longest n lt u.front)) (λ ge. omega arith) (cases_lt m n)) (cases_lt n m)

-- ---- files

-- the bytes are not UTF-8, or their text is refused
abbrev Cause : List ℕ → Refusal → Type 0
Cause bytes r =
    ((n : ℕ) × (refusal.NotUtf8 n ≡ r) × IsValidUpTo bytes n)
    ⊎ ((e : FileFault) × (fault_of_file e ≡ fault.Refused r) × IsUtf8 bytes × Refuses bytes e)

file_cause : (bytes : List ℕ) (r : Refusal) → IsRefusedFor mode.Solve bytes r → Cause bytes r
file_cause bytes (refusal.NotUtf8 n) h = inl (n, refl, h)
file_cause bytes (refusal.Lex f) h = inr (text.Lex f, refl, h.0, h.1)
file_cause bytes (refusal.Expected p) h = inr (text.Expected p, refl, h.0, h.1)
file_cause bytes (refusal.TooDeep p) h = inr (text.TooDeep p, refl, h.0, h.1)
file_cause bytes (refusal.Model m) h = inr (text.Model m, refl, h.0, h.1)

refused_same : (r s : Refusal) → fault.Refused r ≡ fault.Refused s → r ≡ s
refused_same r s e = cc

same_cause : (bytes : List ℕ) (r s : Refusal) → Cause bytes r → Cause bytes s → r ≡ s
same_cause bytes r s (inl a) (inl b) = sym a.1 ∙ ap (λ n. refusal.NotUtf8 n) (one_front bytes a.0 b.0 a.2 b.2) ∙ b.1
same_cause bytes r s (inl a) (inr b) = absurd (not_text bytes a.0 a.2 b.2)
same_cause bytes r s (inr a) (inl b) = absurd (not_text bytes b.0 b.2 a.2)
same_cause bytes r s (inr a) (inr b) = refused_same r s (sym a.1 ∙ ap fault_of_file (one_cause bytes a.0 b.0 a.3 b.3) ∙ b.1)

-- a text that is refused is refused for its cause
pub refused_text : (bytes : List ℕ) (e : FileFault) (r : Refusal) → fault_of_file e ≡ fault.Refused r → IsUtf8 bytes → Refuses bytes e → IsRefusedFor mode.Solve bytes r
refused_text bytes (text.Lex f) r is utf8 h = subst (IsRefusedFor mode.Solve bytes) (refused_same (refusal.Lex f) r is) (utf8, h)
refused_text bytes (text.Expected p) r is utf8 h = subst (IsRefusedFor mode.Solve bytes) (refused_same (refusal.Expected p) r is) (utf8, h)
refused_text bytes (text.TooDeep p) r is utf8 h = subst (IsRefusedFor mode.Solve bytes) (refused_same (refusal.TooDeep p) r is) (utf8, h)
refused_text bytes (text.Model m) r is utf8 h = subst (IsRefusedFor mode.Solve bytes) (refused_same (refusal.Model m) r is) (utf8, h)
refused_text bytes text.NoMem r is utf8 h = absurd h

-- ---- a row for each mode

pub one_refusal : (m : Mode) (bytes : List ℕ) (r s : Refusal) → IsRefusedFor m bytes r → IsRefusedFor m bytes s → r ≡ s
one_refusal mode.Solve bytes r s h k = same_cause bytes r s (file_cause bytes r h) (file_cause bytes s k)

pub input_not_refused : (m : Mode) (bytes : List ℕ) (r : Refusal) → IsInputOf m bytes → IsRefusedFor m bytes r → ⊥
input_not_refused mode.Solve bytes r h k = by (file_cause bytes r k) where
  by : Cause bytes r → ⊥
  by (inl a) = not_text bytes a.0 a.2 h.0
  by (inr a) = accepted_not_refused bytes h.1.0 a.0 h.1.1 a.3

pub done_on_input : (m : Mode) (effort : Effort) (bytes : List ℕ) (o : Outcome) (text : List ℕ) → IsDone m effort bytes o text → IsInputOf m bytes
done_on_input mode.Solve effort bytes (outcome.Solved answers) text h = (h.0, (h.1.0, h.1.1))
done_on_input mode.Solve effort bytes outcome.Usage text h = absurd h
done_on_input mode.Solve effort bytes (outcome.Refused r) text h = absurd h
done_on_input mode.Solve effort bytes outcome.InputTooLong text h = absurd h
done_on_input mode.Solve effort bytes outcome.ReadFault text h = absurd h
done_on_input mode.Solve effort bytes outcome.WriteFault text h = absurd h
done_on_input mode.Solve effort bytes outcome.NoMem text h = absurd h
