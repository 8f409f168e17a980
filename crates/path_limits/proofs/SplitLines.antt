-- Extents that stand at the numbers of a line, one more at a time.
use Rattle.std.proofs.Common.{◌≡◌, ℕ, ◌<◌, List, [], ◌∷◌, ◌++◌, Option, Some, map, length, get_or, refl, sym, ap, ◌∙◌, subst, append-nil}
use Rattle.std.specs.Prelude.{slice_get}
use Rattle.std.specs.List.{flat_map}
use Rattle.std.proofs.lemmas.Grind.{flat_map-append}
use Rattle.std.proofs.lemmas.Option.{slice_get-get_or, same_Some}
use Rattle.utopist_syntax.specs.FileTree.{ConceptTree}
use Rattle.canonical_paths.specs.PathNames.{PathNames}
use Rattle.canonical_paths.proofs.Elements.{heads, tails}
use Rattle.path_limits.specs.declared.extent.PathExtent.{PathExtent}
use Rattle.path_limits.specs.Extents.{extent_of}
use Rattle.path_limits.specs.steps.Measured.{AreOf}

module _ (paths : ConceptTree → List PathNames) (own : List PathExtent) where
  -- no number has no concept
  pub no_parts : (cs : List ConceptTree) → AreOf paths own [] cs → cs ≡ []
  no_parts [] e = refl
  no_parts (d ∷ cs) e = absurd (cc)

  -- concepts of a line, and of one more number
  pub record AreSplit (front : List ℕ) (m : ℕ) (cs : List ConceptTree) : Type 0 where
    pub before : List ConceptTree
    pub last : ConceptTree
    pub is : cs ≡ before ++ last ∷ []
    pub parts : AreOf paths own front before
    pub at : slice_get own m ≡ Some (extent_of (paths last))

  pub split_parts : (front : List ℕ) (m : ℕ) (cs : List ConceptTree) → AreOf paths own (front ++ m ∷ []) cs → AreSplit front m cs
  split_parts [] m [] e = absurd (cc)
  split_parts [] m (d ∷ cs) e =
      let rest = no_parts cs (tails (slice_get own m) (Some (extent_of (paths d))) [] (map (λ c. Some (extent_of (paths c))) cs) e) in
      record {
        before = [];
        last = d;
        is = ap (λ (ds : List ConceptTree). d ∷ ds) rest;
        parts = refl;
        at = heads (slice_get own m) (Some (extent_of (paths d))) [] (map (λ c. Some (extent_of (paths c))) cs) e;
      }
  split_parts (n ∷ front) m [] e = absurd (cc)
  split_parts (n ∷ front) m (d ∷ cs) e =
      let first = heads (slice_get own n) (Some (extent_of (paths d))) (map (slice_get own) (front ++ m ∷ [])) (map (λ c. Some (extent_of (paths c))) cs) e in
      let r = split_parts front m cs (tails (slice_get own n) (Some (extent_of (paths d))) (map (slice_get own) (front ++ m ∷ [])) (map (λ c. Some (extent_of (paths c))) cs) e) in
      record {
        before = d ∷ r.before;
        last = r.last;
        is = ap (λ (ds : List ConceptTree). d ∷ ds) r.is;
        parts =
            ap (λ (o : Option PathExtent). o ∷ map (slice_get own) front) first
            ∙ ap (λ (os : List (Option PathExtent)). Some (extent_of (paths d)) ∷ os) r.parts;
        at = r.at;
      }

  -- what an index reads
  pub read_part : (m : ℕ) (d : PathExtent) (c : ConceptTree) → m < length own → slice_get own m ≡ Some (extent_of (paths c)) → get_or own m d ≡ extent_of (paths c)
  read_part m d c within at = same_Some (get_or own m d) (extent_of (paths c)) (sym (slice_get-get_or own m d within) ∙ at)

  -- the paths of one more concept
  pub more_paths : (cs before : List ConceptTree) (last : ConceptTree) → cs ≡ before ++ last ∷ [] → flat_map paths before ++ paths last ≡ flat_map paths cs
  more_paths cs before last is =
      ap (λ (ps : List PathNames). flat_map paths before ++ ps) (sym (append-nil (paths last)))
      ∙ sym (flat_map-append paths before (last ∷ []))
      ∙ ap (flat_map paths) (sym is)
