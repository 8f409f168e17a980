-- Steps from a text to its problems.
use Rattle.std.proofs.Common.{◌≡◌, ℕ, List, [], ◌∷◌, ◌++◌, Bool, true, false, Some, None, Ok, Err, inl, inr, map, append_assoc, refl, sym, ap, subst, ◌∙◌}
use Rattle.std.specs.Str.{chars, encode_utf8_all}
use Rattle.std.proofs.lemmas.List.{map-append}
use Rattle.utopist_lexer.specs.declared.token.Kind.{Kind}
use Rattle.utopist_lexer.specs.declared.token.Kind.TheVariants as kinds
use Rattle.utopist_parser.specs.FileSymbols.{spell_file}
use Rattle.priz_base.specs.declared.place.Place.{Place}
use Rattle.utopist_lexer.specs.Lexical.{Tok}
use Rattle.utopist_syntax.specs.declared.file.File.{File}
use Rattle.utopist_syntax.specs.FileTree.{FileTree, file_tree}
use Rattle.token_forms.specs.Symbols.{symbol_of, symbol_at, end}
use Rattle.token_forms.specs.steps.Single.{kind_of}
use Rattle.utopist_parser.specs.declared.parser.ParseFault.{ParseFault}
use Rattle.utopist_parser.specs.declared.parser.ParseFault.TheVariants as parsing
use Rattle.utopist_parser.specs.Forms.{ReadsAs, ParseOf}
use Rattle.statement_set.specs.Problem.{Task}
use Rattle.concept_rules.specs.declared.fault.UnfoldFault.{UnfoldFault}
use Rattle.concept_rules.specs.declared.fault.UnfoldFault.TheVariants as rules
use Rattle.concept_unfold.specs.Built.{IsBuilt}
use Rattle.concept_rules.specs.Checks.{Checks}
use Rattle.concept_unfold.specs.UnfoldingRules.{model_fault}
use Rattle.file_accept.specs.declared.fault.FileFault.{FileFault}
use Rattle.file_accept.specs.declared.fault.FileFault.TheVariants as fault
use Rattle.file_accept.specs.Unbuilt.{not_solved, opens, at_start, behind_all, NoneOpens, kinds_of, FirstLeftOut, LeftOutOf}
use Rattle.file_accept.specs.Problems.{problems_of, ProblemsOf}
use Rattle.file_accept.specs.steps.Faults.{parse_fault, unfold_fault}
use Rattle.file_accept.specs.steps.FormOf.{FormOf}
use Rattle.file_accept.proofs.UnbuiltTokens.{none-append, append-none}
use Rattle.file_accept.proofs.Watched.{kinds_in}
use Rattle.file_accept.proofs.BuiltForms.{built_passes, passing_is_built}

-- a text without a tree has no form
pub no_tree : (text : List ℕ) (e : ParseFault) → ParseOf text (Err e) → FormOf text (Err (parse_fault e))
no_tree text (parsing.Lex f) h = h.0
no_tree text (parsing.Expected p) h = inl h.0
no_tree text (parsing.TooDeep p) h = h.0
no_tree text parsing.NoMem h = tt

-- ---- forms that are not built

kind_at : (t : Tok) → kind_of (symbol_of t) ≡ t.kind
kind_at t = at t.kind where
  at : (k : Kind) → kind_of (symbol_at k (record { text = encode_utf8_all t.text; place = t.place })) ≡ k
  at kinds.Name = refl
  at (kinds.Word w) = refl
  at (kinds.Number i) = refl
  at (kinds.Sub i j) = refl
  at (kinds.Mark m) = refl
  at kinds.End = refl

kinds_are : (ts : List Tok) → kinds_in (map symbol_of ts) ≡ kinds_of ts
kinds_are [] = refl
kinds_are (t ∷ ts) = λ i. kind_at t i ∷ kinds_are ts i

-- the kinds of what is written are those of the tokens, and the end
written_kinds : (text : List ℕ) (f : FileTree) (r : ReadsAs text f) → kinds_in (spell_file r.written) ≡ kinds_of r.tokens ++ kinds.End ∷ []
written_kinds text f r =
    sym (ap kinds_in r.grammar) ∙ map-append kind_of (map symbol_of r.tokens) (end ∷ []) ∙ ap (λ (ks : List Kind). ks ++ kinds.End ∷ []) (kinds_are r.tokens)

-- where none of the tokens begins such a form the file is built
none_is_built : (text : List ℕ) (f : FileTree) (r : ReadsAs text f) → NoneOpens not_solved at_start (kinds_of r.tokens) → IsBuilt f
none_is_built text f r none =
    subst IsBuilt r.tree (passing_is_built r.written (subst (NoneOpens not_solved at_start) (sym (written_kinds text f r)) (none-append not_solved at_start (kinds_of r.tokens) (kinds.End ∷ []) none (refl, tt))))

-- where one does it is not
pub found_is_unbuilt : (text : List ℕ) (f : FileTree) (r : ReadsAs text f) (p : Place) → FirstLeftOut not_solved r.tokens p → ¬ IsBuilt f
found_is_unbuilt text f r p u built =
    let none : NoneOpens not_solved at_start (kinds_of r.tokens ++ kinds.End ∷ []) = subst (NoneOpens not_solved at_start) (written_kinds text f r) (built_passes r.written (subst IsBuilt (sym r.tree) built)) in
    let split : kinds_of r.tokens ++ kinds.End ∷ [] ≡ kinds_of u.before ++ (u.next.kind ∷ (kinds_of u.after ++ kinds.End ∷ [])) =
    ap (λ (l : List Tok). kinds_of l ++ kinds.End ∷ []) u.split ∙ ap (λ (ks : List Kind). ks ++ kinds.End ∷ []) (map-append (λ (t : Tok). t.kind) u.before (u.next ∷ u.after)) ∙ append_assoc (kinds_of u.before) (u.next.kind ∷ kinds_of u.after) (kinds.End ∷ []) in
    let here = append-none not_solved at_start (kinds_of u.before) (u.next.kind ∷ (kinds_of u.after ++ kinds.End ∷ [])) (subst (NoneOpens not_solved at_start) split none) in
    closed_or_open (opens not_solved (behind_all at_start (kinds_of u.before)) u.next.kind) u.opening here.0 where
      closed_or_open : (b : Bool) → b ≡ true → b ≡ false → ⊥
      closed_or_open b e i = cc

-- a file that has a form that is not built is refused at its first token
pub unbuilt_form : (text : List ℕ) (f : File) (p : Place) → ParseOf text (Ok f) → LeftOutOf not_solved (chars text) (Some p) → FormOf text (Err (fault.Expected p))
unbuilt_form text f p h found = inr (record { file = file_tree f; tree = h.0; tokens = h.0.tokens; read = h.0.read; first = found h.0.tokens h.0.read })

-- where no form is left out the file is built
pub built_form : (text : List ℕ) (f : File) → ParseOf text (Ok f) → LeftOutOf not_solved (chars text) None → FormOf text (Ok f)
built_form text f h found = (h.0, none_is_built text (file_tree f) h.0 (found h.0.tokens h.0.read))

-- ---- the whole

-- a text without a form has no problems
pub no_form : (text : List ℕ) (e : FileFault) → FormOf text (Err e) → ProblemsOf text (Err e)
no_form text (fault.Lex f) h = h
no_form text (fault.Expected p) h = h
no_form text (fault.TooDeep p) h = h
no_form text (fault.Model m) h = h
no_form text fault.NoMem h = tt

-- nor has one whose file breaks a rule
pub breaks_rule : (text : List ℕ) (f : File) (e : UnfoldFault) → FormOf text (Ok f) → Checks {X = List Task} (model_fault (file_tree f)) (Err e) → ProblemsOf text (Err (unfold_fault e))
breaks_rule text f (rules.Model m) form h = (file_tree f, form.0, form.1, h)
breaks_rule text f rules.NoMem form h = tt

-- where it breaks none it is accepted
pub breaks_none : (text : List ℕ) (f : File) (ps : List Task) → FormOf text (Ok f) → Checks (model_fault (file_tree f)) (Ok ps) → ps ≡ problems_of (file_tree f) → ProblemsOf text (Ok ps)
breaks_none text f ps form h e = (file_tree f, record { tree = form.0; built = form.1; rules = h }, e)
