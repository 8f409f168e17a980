-- The rule of the concept.
use Rattle.std.proofs.Common.{◌≡◌, ℕ, suc, ◌≤◌, List, [], ◌∷◌, map, Option, Some, None, refl, arith}
use Rattle.std.specs.Prelude.{All}
use Rattle.std.proofs.lemmas.List.Elements.{All-nil, All-cons, All-head, All-tail}
use Rattle.utopist_lexer.specs.declared.word.Word.TheVariants as words
use Rattle.utopist_lexer.specs.declared.mark.Mark.TheVariants as marks
use Rattle.utopist_lexer.specs.declared.token.Kind.TheVariants as kinds
use Rattle.utopist_syntax.specs.Named.{Named}
use Rattle.utopist_syntax.specs.FileTree.{ConceptTree}
use Rattle.token_forms.specs.Symbols.{mark}
use Rattle.token_forms.specs.steps.Single.{is_word}
use Rattle.token_forms.specs.Lists.{OneOrMore}
use Rattle.utopist_parser.specs.WrittenFile.{WrittenItem, WrittenConcept}
use Rattle.token_forms.specs.Lists.{all_of}
use Rattle.utopist_parser.specs.FileSymbols.{spell_concept}
use Rattle.utopist_parser.specs.FileSeen.{see_item, see_concept}
use Rattle.utopist_parser.specs.FileNesting.{IsItem, IsConcept}
use Rattle.utopist_parser.specs.steps.ReadingFile.{some_parents_at, parents_at, begins_item, items_at, concept_at}
use Rattle.token_forms.proofs.StepLaws.{Form, Aspect}
use Rattle.token_forms.proofs.Sequence.{both}
use Rattle.token_forms.proofs.Recast.{recast, reform_keeps}
use Rattle.token_forms.proofs.Repeat.{FitsAll, repeated, last_stops}
use Rattle.token_forms.proofs.Singles.{after, name_form}
use Rattle.token_forms.proofs.Rules.{Rule, Any, fitting_by, name_rule, after_word, after_mark, stop, stop_rule, then_rule, repeat_rule, recast_rule, see_optional, optional, optional_rule}
use Rattle.utopist_parser.proofs.PathRules.{names_form, names_rule}
use Rattle.utopist_parser.proofs.Free.{Free, free_after, free_optional}
use Rattle.utopist_parser.proofs.ItemRules.{free_names, names_stop, item_form, item_grows, item_rule, item_begins}

-- ---- parents

-- "is" Name {"," Name}
abbrev some_parents_form : Form (OneOrMore Named)
some_parents_form = after (kinds.Word words.Is) names_form

some_parents_rule : {m : Aspect} {room : ℕ} → Rule m room some_parents_form all_of some_parents_at
unfolding some_parents_at
some_parents_rule = after_word words.Is names_rule

-- ["is" Name {"," Name}]
abbrev parents_form : Form (Option (OneOrMore Named))
parents_form = optional some_parents_form (is_word words.Is)

parents_rule : {m : Aspect} {room : ℕ} → Rule m room parents_form (see_optional all_of []) parents_at
unfolding parents_at
parents_rule = optional_rule (is_word words.Is) [] (λ ns rest. refl) some_parents_rule

-- a colon ends the parents
parents_stop : (o : Option (OneOrMore Named)) → parents_form.Stops o (Some (mark marks.Colon))
parents_stop None = refl
parents_stop (Some ns) = names_stop ns _ refl

free_parents : Free parents_form
free_parents = free_optional (is_word words.Is) (free_after (kinds.Word words.Is) free_names)

-- ---- items

-- "(" {item}
abbrev items_form : Form (List WrittenItem)
items_form = after (kinds.Mark marks.OpenRound) (repeated item_form begins_item Any)

items_rule : {m : Aspect} {room : ℕ} → Rule m room items_form (map see_item) items_at
unfolding items_at
items_rule = after_mark marks.OpenRound (repeat_rule begins_item item_begins (λ i o. tt) item_rule)

to_all : (M : ℕ) (is : List WrittenItem) → FitsAll item_form begins_item Any is M → All (IsItem (suc M)) is
to_all M [] h = All-nil (IsItem (suc M))
to_all M (i ∷ is) h = All-cons (IsItem (suc M)) i is h.0 (to_all M is h.1)

of_all : (M : ℕ) (is : List WrittenItem) → All (IsItem (suc M)) is → FitsAll item_form begins_item Any is M
of_all M [] h = tt
of_all M (i ∷ is) h = (All-head (IsItem (suc M)) i is h, of_all M is (All-tail (IsItem (suc M)) i is h))

-- ---- the concept

abbrev Parts : Type 0
Parts = Named × (Option (OneOrMore Named) × (List WrittenItem × Unit {0}))

abbrev see_parts : Parts → ConceptTree
see_parts p = record { name = p.0; parents = see_optional all_of [] p.1.0; items = map see_item p.1.1.0 }

abbrev parts_form : Form Parts
parts_form =
    after (kinds.Word words.Concept)
    (both name_form (both parents_form (after (kinds.Mark marks.Colon) (both items_form (after (kinds.Mark marks.CloseRound) (stop marks.Semicolon))))))

parts_rule : {m : Aspect} {room : ℕ} → Rule m room parts_form see_parts concept_at
unfolding concept_at
parts_rule =
    after_word words.Concept
    (then_rule (λ n p. see_parts (n, p)) _ name_rule
    (λ n. then_rule (λ ps p. see_parts (n, (ps, p))) _ parents_rule
    (λ ps. after_mark marks.Colon
    (then_rule (λ is u. see_parts (n, (ps, (is, u)))) _ items_rule (λ is. after_mark marks.CloseRound (stop_rule marks.Semicolon (see_parts (n, (ps, (is, tt)))))) (λ is u rest s. (refl, last_stops item_form Any _ (λ i. tt) is tt))))
    (λ ps p rest s. parents_stop ps))
    (λ n p rest s. tt))

abbrev from_concept : WrittenConcept → Parts
from_concept c = (c.name, (c.parents, (c.items, tt)))

concept_seen : (c : WrittenConcept) → see_parts (from_concept c) ≡ see_concept c
concept_seen c =
    elim c.parents as (λ ns. see_parts (c.name, (ns, (c.items, tt))) ≡ see_concept (record { name = c.name; parents = ns; items = c.items })) [ None ↦ refl | Some ns ↦ refl ]

pub concept_grows : (c : WrittenConcept) (m M : ℕ) → m ≤ M → IsConcept m c → IsConcept M c
concept_grows c m M h i = at c.items i where
  at : (is : List WrittenItem) → All (IsItem m) is → All (IsItem M) is
  at [] a = All-nil (IsItem M)
  at (i ∷ is) a = All-cons (IsItem M) i is (item_grows i m M h (All-head (IsItem m) i is a)) (at is (All-tail (IsItem m) i is a))

pub concept_grows_in : (c : WrittenConcept) (m M : ℕ) → m ≤ M → IsConcept (suc m) c → IsConcept (suc M) c
concept_grows_in c m M h i = concept_grows c (suc m) (suc M) (omega (arith, h)) i

to_fits : (c : WrittenConcept) (M : ℕ) → IsConcept (suc M) c → parts_form.Fits (from_concept c) M
to_fits c M h = (tt, (tt, (free_parents.fits c.parents M, (tt, ((tt, of_all M c.items h), (tt, (tt, tt)))))))

from_fits : (c : WrittenConcept) (M : ℕ) → parts_form.Fits (from_concept c) M → IsConcept (suc M) c
from_fits c M h = to_all M c.items h.1.1.1.1.0.1

abbrev pub concept_form : Form WrittenConcept
concept_form = record { spell = spell_concept; Fits = λ c M. IsConcept (suc M) c; grows = concept_grows_in; Stops = λ c o. Unit {0}; Enters = λ o. Unit {0} }

pub concept_rule : {m : Aspect} {room : ℕ} → Rule m room concept_form see_concept concept_at
concept_rule {m} {room} =
    let r = recast_rule {g = parts_form} {see = see_parts} spell_concept see_concept (λ p. record { name = p.0; parents = p.1.0; items = p.1.1.0 }) from_concept (λ p. refl) (λ c. refl) concept_seen parts_rule in
    record {
      keeps = reform_keeps (recast parts_form spell_concept from_concept) see_concept (λ c M. IsConcept (suc M) c) concept_grows_in (λ c o. Unit {0}) to_fits from_fits (λ c o s. tt) (λ c o s. tt) r.enters m concept_at room r.keeps;
      some = r.some;
      fits = fitting_by m (recast parts_form spell_concept from_concept) concept_form r.some r.some room (from_fits r.some room) r.fits;
      enters = λ o. tt;
    }
