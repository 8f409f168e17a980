-- The canonical text of a tree that was read is read as the same tree but for places.
use Rattle.std.proofs.Common.{◌≡◌, ℕ, List, [], ◌∷◌, ◌++◌, map, refl, sym, ap, subst, ◌∙◌}
use Rattle.std.specs.Str.{IsUtf8}
use Rattle.std.proofs.lemmas.List.{map-append}
use Rattle.utopist_lexer.specs.declared.token.Kind.TheVariants as kinds
use Rattle.utopist_lexer.specs.Lexical.{Tok}
use Rattle.utopist_lexer.specs.Places.{first_place}
use Rattle.utopist_syntax.specs.declared.file.File.{File}
use Rattle.utopist_syntax.specs.FileTree.{file_tree}
use Rattle.token_forms.specs.Symbols.{Symbol, symbol_of, end}
use Rattle.utopist_parser.specs.FileSymbols.{spell_file}
use Rattle.utopist_parser.specs.FileSeen.{see_file}
use Rattle.utopist_parser.specs.Begins.{max_nesting}
use Rattle.utopist_parser.specs.Forms.{ReadsAs}
use Rattle.canonical_reading.specs.Piece.{Piece, piece_of}
use Rattle.canonical_reading.proofs.SymbolPiece.{symbol_piece}
use Rattle.canonical_reading.specs.FilePieces.{file_pieces}
use Rattle.canonical_reading.proofs.PrintableParts.{PrintableFile}
use Rattle.canonical_reading.proofs.CanonicalForm.{canonical_file}
use Rattle.canonical_reading.specs.Unplaced.{unplaced}
use Rattle.canonical_reading.proofs.Likeness.{AreLike}
use Rattle.canonical_reading.specs.RoundTrip.{IsReadBack}
use Rattle.canonical_reading.proofs.FileForms.{file_has_pieces}
use Rattle.canonical_reading.proofs.CanonicalSeen.{canonical_file_seen}
use Rattle.canonical_reading.proofs.CanonicalWithin.{canonical_file_within}
use Rattle.canonical_reading.proofs.CanonicalPieces.{canonical_pieces}
use Rattle.canonical_reading.proofs.Replaced.{replaced_file}
use Rattle.canonical_reading.proofs.Readable.{readable_prints}
use Rattle.canonical_reading.proofs.ToldExpr.{Told, told_like}
use Rattle.canonical_reading.proofs.Told.{file_told}

-- the end of a text as a token
abbrev end_token : Tok
end_token = record { kind = kinds.End; text = []; place = first_place }

-- tokens that have the pieces of told symbols, but for the end, have symbols like them with the end behind
like_with_end : (cs : List Symbol) (ts : List Tok) (ps : List Piece) → Told cs → map piece_of ts ≡ ps → ps ++ (symbol_piece end ∷ []) ≡ map symbol_piece cs
    → AreLike (map symbol_of ts ++ (end ∷ [])) cs
like_with_end cs ts ps told have are =
    subst (λ (us : List Symbol). AreLike us cs) (map-append symbol_of ts (end_token ∷ []))
    (told_like cs (ts ++ (end_token ∷ [])) told (map-append piece_of ts (end_token ∷ []) ∙ ap (λ (qs : List Piece). qs ++ (symbol_piece end ∷ [])) have ∙ are))

-- the canonical text of a tree that was read reads as the same tree but for places
pub read_back : (text : List ℕ) → IsUtf8 text → (f : File) → ReadsAs text (file_tree f) → IsReadBack f
read_back text u f r =
    let w = canonical_file r.written in
    let same : see_file w ≡ file_tree f = canonical_file_seen r.written ∙ r.tree in
    let printable = readable_prints text u (file_tree f) r in
    let told = file_told w (subst PrintableFile (sym same) printable) in
    let p = file_has_pieces f printable in
    let like = like_with_end (spell_file w) p.0 _ told (p.2 ∙ ap file_pieces (sym r.tree)) (canonical_pieces max_nesting r.written r.within) in
    let y = replaced_file w (map symbol_of p.0 ++ (end ∷ [])) like in (
      see_file y.0,
      record {
        tokens = p.0;
        read = p.1;
        written = y.0;
        within = y.3 max_nesting (canonical_file_within max_nesting r.written r.within);
        grammar = sym y.1;
        tree = refl;
      },
      y.2 ∙ ap unplaced same,
    )
