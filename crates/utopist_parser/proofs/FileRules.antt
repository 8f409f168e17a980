-- The rule of the file.
use Rattle.std.proofs.Common.{ℕ, suc, ◌≤◌, List, [], ◌∷◌, ◌++◌, map, refl, arith}
use Rattle.std.specs.Prelude.{All}
use Rattle.std.proofs.lemmas.List.Elements.{All-nil, All-cons, All-head, All-tail}
use Rattle.utopist_lexer.specs.declared.word.Word.TheVariants as words
use Rattle.utopist_lexer.specs.declared.token.Kind.TheVariants as kinds
use Rattle.utopist_syntax.specs.FileTree.{FileTree}
use Rattle.token_forms.specs.Symbols.{Symbol}
use Rattle.token_forms.specs.steps.Steps.{next}
use Rattle.token_forms.specs.steps.Single.{is_word}
use Rattle.utopist_parser.specs.WrittenFile.{WrittenConcept, WrittenCompute, WrittenFile}
use Rattle.utopist_parser.specs.FileSymbols.{spell_file}
use Rattle.utopist_parser.specs.FileSeen.{see_concept, see_compute, see_file}
use Rattle.utopist_parser.specs.FileNesting.{IsConcept, IsFile}
use Rattle.utopist_parser.specs.steps.ReadingFile.{concepts_at, computes_at, file_at}
use Rattle.token_forms.proofs.StepLaws.{Form, Aspect}
use Rattle.token_forms.proofs.Sequence.{both}
use Rattle.token_forms.proofs.Recast.{recast, reform_keeps}
use Rattle.token_forms.proofs.Repeat.{FitsAll, repeated, last_stops}
use Rattle.token_forms.proofs.Singles.{after}
use Rattle.token_forms.proofs.Rules.{Rule, Any, fitting_by, after_end, done, done_rule, then_rule, repeat_rule, recast_rule}
use Rattle.utopist_parser.proofs.ConceptRules.{concept_form, concept_grows, concept_rule}
use Rattle.utopist_parser.proofs.ComputeRules.{compute_form, compute_rule, free_compute}

-- {concept}
abbrev concepts_form : Form (List WrittenConcept)
concepts_form = repeated concept_form (is_word words.Concept) Any

concepts_rule : {m : Aspect} {room : ℕ} → Rule m room concepts_form (map see_concept) concepts_at
unfolding concepts_at
concepts_rule = repeat_rule (is_word words.Concept) (λ c more. refl) (λ c o. tt) concept_rule

-- {compute}
abbrev computes_form : Form (List WrittenCompute)
computes_form = repeated compute_form (is_word words.Compute) Any

computes_rule : {m : Aspect} {room : ℕ} → Rule m room computes_form (map see_compute) computes_at
unfolding computes_at
computes_rule = repeat_rule (is_word words.Compute) (λ c more. refl) (λ c o. tt) compute_rule

-- file = {concept} {compute} End
abbrev Parts : Type 0
Parts = List WrittenConcept × (List WrittenCompute × Unit {0})

abbrev see_parts : Parts → FileTree
see_parts p = record { concepts = map see_concept p.0; computes = map see_compute p.1.0 }

abbrev parts_form : Form Parts
parts_form = both concepts_form (both computes_form (after kinds.End done))

-- neither a compute statement nor the end begins a concept
concepts_stop : (cs : List WrittenConcept) (ds : List WrittenCompute) (rest : List Symbol) → concepts_form.Stops cs (next ((both computes_form (after kinds.End done)).spell (ds, tt) ++ rest))
concepts_stop cs [] rest = (refl, last_stops concept_form Any _ (λ c. tt) cs tt)
concepts_stop cs (d ∷ ds) rest = (refl, last_stops concept_form Any _ (λ c. tt) cs tt)

parts_rule : {m : Aspect} {room : ℕ} → Rule m room parts_form see_parts file_at
unfolding file_at
parts_rule =
    then_rule (λ cs p. see_parts (cs, p)) _ concepts_rule
    (λ cs. then_rule (λ ds u. see_parts (cs, (ds, u))) _ computes_rule (λ ds. after_end (done_rule (see_parts (cs, (ds, tt))))) (λ ds u rest s. (refl, last_stops compute_form Any _ (λ d. tt) ds tt)))
    (λ cs p rest s. concepts_stop cs p.0 rest)

abbrev from_file : WrittenFile → Parts
from_file f = (f.concepts, (f.computes, tt))

to_all : (M : ℕ) (cs : List WrittenConcept) → FitsAll concept_form (is_word words.Concept) Any cs M → All (IsConcept (suc M)) cs
to_all M [] h = All-nil (IsConcept (suc M))
to_all M (c ∷ cs) h = All-cons (IsConcept (suc M)) c cs h.0 (to_all M cs h.1)

of_all : (M : ℕ) (cs : List WrittenConcept) → All (IsConcept (suc M)) cs → FitsAll concept_form (is_word words.Concept) Any cs M
of_all M [] h = tt
of_all M (c ∷ cs) h = (All-head (IsConcept (suc M)) c cs h, of_all M cs (All-tail (IsConcept (suc M)) c cs h))

computes_fit : (ds : List WrittenCompute) (M : ℕ) → FitsAll compute_form (is_word words.Compute) Any ds M
computes_fit [] M = tt
computes_fit (d ∷ ds) M = (free_compute.fits d M, computes_fit ds M)

pub file_grows : (f : WrittenFile) (m M : ℕ) → m ≤ M → IsFile m f → IsFile M f
file_grows f m M h i = at f.concepts i where
  at : (cs : List WrittenConcept) → All (IsConcept m) cs → All (IsConcept M) cs
  at [] a = All-nil (IsConcept M)
  at (c ∷ cs) a = All-cons (IsConcept M) c cs (concept_grows c m M h (All-head (IsConcept m) c cs a)) (at cs (All-tail (IsConcept m) c cs a))

pub file_grows_in : (f : WrittenFile) (m M : ℕ) → m ≤ M → IsFile (suc m) f → IsFile (suc M) f
file_grows_in f m M h i = file_grows f (suc m) (suc M) (omega (arith, h)) i

to_fits : (f : WrittenFile) (M : ℕ) → IsFile (suc M) f → parts_form.Fits (from_file f) M
to_fits f M h = (of_all M f.concepts h, (computes_fit f.computes M, (tt, tt)))

from_fits : (f : WrittenFile) (M : ℕ) → parts_form.Fits (from_file f) M → IsFile (suc M) f
from_fits f M h = to_all M f.concepts h.0

abbrev pub file_form : Form WrittenFile
file_form = record { spell = spell_file; Fits = λ f M. IsFile (suc M) f; grows = file_grows_in; Stops = λ f o. Unit {0}; Enters = λ o. Unit {0} }

pub file_rule : {m : Aspect} {room : ℕ} → Rule m room file_form see_file file_at
file_rule {m} {room} =
    let r = recast_rule {g = parts_form} {see = see_parts} spell_file see_file (λ p. record { concepts = p.0; computes = p.1.0 }) from_file (λ p. refl) (λ f. refl) (λ f. refl) parts_rule in
    record {
      keeps = reform_keeps (recast parts_form spell_file from_file) see_file (λ f M. IsFile (suc M) f) file_grows_in (λ f o. Unit {0}) to_fits from_fits (λ f o s. tt) (λ f o s. tt) r.enters m file_at room r.keeps;
      some = r.some;
      fits = fitting_by m (recast parts_form spell_file from_file) file_form r.some r.some room (from_fits r.some room) r.fits;
      enters = λ o. tt;
    }
