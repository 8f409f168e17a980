-- A file has only forms that are built exactly where none of its tokens begins another.
use Rattle.std.proofs.Common.{◌≡◌, ℕ, suc, Bool, true, false, List, [], ◌∷◌, ◌++◌, map, Option, Some, None, refl, ap}
use Rattle.std.specs.Prelude.{pos, All}
use Rattle.std.specs.List.{flat_map}
use Rattle.std.proofs.lemmas.List.Elements.{All-nil}
use Rattle.utopist_lexer.specs.declared.word.Word.TheVariants as words
use Rattle.utopist_lexer.specs.declared.mark.Mark.TheVariants as marks
use Rattle.utopist_syntax.specs.declared.item.VarKind.TheVariants as var_kinds
use Rattle.utopist_syntax.specs.Named.{Named}
use Rattle.token_forms.specs.Symbols.{Symbol, word, mark, end}
use Rattle.token_forms.specs.Lists.{OneOrMore, behind as next_of, spell_option}
use Rattle.utopist_parser.specs.WrittenFile.{numeric, component, WrittenPart, input, subtask, WrittenItem, var, eq, rel, WrittenConcept, WrittenGiven, WrittenNumber, WrittenCompute, WrittenFile}
use Rattle.utopist_parser.specs.ExprSymbols.{spell_name, spell_path}
use Rattle.utopist_parser.specs.FileSymbols.{spell_kind, spell_part, spell_parts, spell_item, spell_parents, spell_concept, spell_below, spell_minus, spell_value, spell_given, spell_givens, spell_compute, spell_file}
use Rattle.utopist_parser.specs.FileSeen.{all_if_any, see_part, see_item, see_concept, see_file}
use Rattle.concept_unfold.specs.Built.{IsInput, IsBuiltItem, IsBuiltConcept, IsBuilt}
use Rattle.file_accept.specs.declared.unbuilt.Context.{Context}
use Rattle.file_accept.specs.Unbuilt.{not_solved, at_start, behind_all, NoneOpens}
use Rattle.file_accept.proofs.Watched.{kinds_in, Watched, recast, nothing, a_word, a_mark, a_number, a_name, true_false, an_opener, both, after, before, many, parted, many_free, parted_free, path_watched}
use Rattle.file_accept.proofs.BodyForms.{body_watched}

-- ---- variables

-- in the names of a variable's item
abbrev in_names : Context
in_names = record { in_var = true; behind_colon = false }

-- none of the names begins such a form, and they leave the place as it is
module _ (cs : List Symbol) where
  into_more : (ns : List Named) → NoneOpens not_solved in_names (kinds_in cs) → NoneOpens not_solved in_names (kinds_in (flat_map (next_of marks.Comma spell_name) ns ++ cs))
  into_more [] h = h
  into_more (n ∷ ns) h = (refl, (refl, into_more ns h))

  out_of_more : (ns : List Named) → NoneOpens not_solved in_names (kinds_in (flat_map (next_of marks.Comma spell_name) ns ++ cs)) → NoneOpens not_solved in_names (kinds_in cs)
  out_of_more [] h = h
  out_of_more (n ∷ ns) h = out_of_more ns h.1.1

  behind_more : (ns : List Named) → behind_all in_names (kinds_in (flat_map (next_of marks.Comma spell_name) ns ++ cs)) ≡ behind_all in_names (kinds_in cs)
  behind_more [] = refl
  behind_more (n ∷ ns) = behind_more ns

of_numeric : (n : Named) → var_kinds.Of n ≡ var_kinds.Numeric → ⊥
of_numeric n e = cc

-- ---- items

part_watched : (p : WrittenPart) → Watched (IsInput (see_part p)) (spell_part p)
part_watched (input p) = path_watched p
part_watched (subtask inputs outputs) = an_opener (mark marks.OpenSquare) (λ c. refl) (λ b. b)

parts_watched : (o : Option (OneOrMore WrittenPart)) → Watched (All IsInput (map see_part (all_if_any o))) (spell_option spell_parts o)
parts_watched None = recast {A = Unit {0}} (λ u. All-nil IsInput) (λ a. tt) nothing
parts_watched (Some ps) = parted marks.Comma refl spell_part see_part IsInput part_watched ps

item_watched : (i : WrittenItem) → Watched (IsBuiltItem (see_item i)) (spell_item i)
item_watched (var ns numeric) = record {
  on = λ b c calm. (refl, (refl, into_more (mark marks.Colon ∷ word words.Numeric ∷ mark marks.Semicolon ∷ []) ns.more (refl, (refl, (refl, tt)))));
  back = λ c calm h. ((refl, refl), ap (λ (d : Context). d.in_var) (behind_more (mark marks.Colon ∷ word words.Numeric ∷ mark marks.Semicolon ∷ []) ns.more));
}
item_watched (var ns (component n binds)) = record {
  on = λ b. absurd (of_numeric n b.0);
  back = λ c calm h. absurd (true_false (out_of_more (mark marks.Colon ∷ (spell_kind (component n binds) ++ (mark marks.Semicolon ∷ []))) ns.more h.1.1).1.0);
}
item_watched (eq left right) = an_opener (word words.Eq) (λ c. refl) (λ b. b)
item_watched (rel n parts output body) =
    a_word words.Rel refl refl
    (a_name n
    (a_mark marks.Colon refl (both (parts_watched parts) (a_mark marks.Arrow refl (after (path_watched output) (before (body_watched body) (a_mark marks.Semicolon refl nothing)))))))

-- ---- concepts

some_none : (n : Named) (ns : List Named) → n ∷ ns ≡ [] → ⊥
some_none n ns e = cc

parents_watched : (o : Option (OneOrMore Named)) → Watched (all_if_any o ≡ []) (spell_option spell_parents o)
parents_watched None = recast {A = Unit {0}} (λ u. refl) (λ e. tt) nothing
parents_watched (Some ns) = an_opener (word words.Is) (λ c. refl) (some_none ns.first ns.more)

concept_watched : (c : WrittenConcept) → Watched (IsBuiltConcept (see_concept c)) (spell_concept c)
concept_watched c =
    a_word words.Concept refl refl
    (a_name c.name
    (both (parents_watched c.parents)
    (a_mark marks.Colon refl (a_mark marks.OpenRound refl (before (many spell_item see_item IsBuiltItem item_watched c.items) (a_mark marks.CloseRound refl (a_mark marks.Semicolon refl nothing)))))))

-- ---- compute statements

minus_watched : (negative : Bool) → Watched (Unit {0}) (spell_minus negative)
minus_watched true = a_mark marks.Minus refl nothing
minus_watched false = nothing

below_watched : (o : Option ℕ) → Watched (Unit {0}) (spell_option spell_below o)
below_watched None = nothing
below_watched (Some d) = a_mark marks.Slash refl (a_number (pos (suc d)) nothing)

value_watched : (o : Option WrittenNumber) → Watched (Unit {0}) (spell_option spell_value o)
value_watched None = nothing
value_watched (Some x) = a_mark marks.Equal refl (after (minus_watched x.negative) (a_number (pos x.above) (below_watched x.below)))

given_watched : (g : WrittenGiven) → Watched (Unit {0}) (spell_given g)
given_watched g = after (path_watched g.path) (value_watched g.value)

givens_watched : (o : Option (OneOrMore WrittenGiven)) → Watched (Unit {0}) (spell_option spell_givens o)
givens_watched None = nothing
givens_watched (Some gs) = a_word words.Given refl refl (after (parted_free marks.Comma refl spell_given given_watched gs) (a_mark marks.Semicolon refl nothing))

compute_watched : (c : WrittenCompute) → Watched (Unit {0}) (spell_compute c)
compute_watched c =
    a_word words.Compute refl refl
    (a_name c.name
    (a_mark marks.Colon refl
    (a_mark marks.OpenRound refl
    (after (givens_watched c.givens)
    (a_word words.Find refl refl (after (parted_free marks.Comma refl spell_path path_watched c.wants) (a_mark marks.CloseRound refl (a_mark marks.Semicolon refl nothing))))))))

-- ---- files

end_watched : Watched (Unit {0}) (end ∷ [])
end_watched = record { on = λ u c calm. (refl, tt); back = λ c calm h. (tt, calm) }

file_watched : (w : WrittenFile) → Watched (IsBuilt (see_file w)) (spell_file w)
file_watched w = before (many spell_concept see_concept IsBuiltConcept concept_watched w.concepts) (after (many_free spell_compute compute_watched w.computes) end_watched)

-- where a file is built, none of its tokens begins another form
pub built_passes : (w : WrittenFile) → IsBuilt (see_file w) → NoneOpens not_solved at_start (kinds_in (spell_file w))
built_passes w built = (file_watched w).on built at_start refl

-- and where none does, it is built
pub passing_is_built : (w : WrittenFile) → NoneOpens not_solved at_start (kinds_in (spell_file w)) → IsBuilt (see_file w)
passing_is_built w h = ((file_watched w).back at_start refl h).0
