-- A text is at least as long as its lines are many, and a line as its words are.
use Rattle.verify_commands.proofs.Common.{ℕ, ◌+◌, ◌≤◌, List, [], ◌∷◌, ◌++◌, length, length-append, map, ap, arith, length-map, decimal, flat_map, PeakedMoves, face_words, places_words, word_words, labels_head_words, lines_behind_faces, denial_text, move_words, list_lines, list_text}
use Rattle.labellings.specs.declared.denial.Denial.{Denial}
use Rattle.std.proofs.lemmas.Grind.{flat_map-append}
use Rattle.std.specs.List.{join_with_byte}
use Rattle.text_scan.specs.Plain.{line_of}

-- words with a byte between each two
joined : (words : List (List ℕ)) → length words ≤ length (join_with_byte 32 words) + 1
joined [] = omega arith
joined (word ∷ []) = omega arith
joined (word ∷ next ∷ words) =
    omega (arith, joined (next ∷ words), length-append word (32 ∷ join_with_byte 32 (next ∷ words)))

line_long : (words : List (List ℕ)) → length words ≤ length (line_of words)
line_long words = omega (arith, joined words, length-append (join_with_byte 32 words) (10 ∷ []))

lines_long : (lines : List (List (List ℕ))) → length lines ≤ length (flat_map line_of lines)
lines_long [] = omega arith
lines_long (words ∷ lines) =
    omega (
      arith,
      lines_long lines,
      length-append (line_of words) (flat_map line_of lines),
      length-append (join_with_byte 32 words) (10 ∷ []),
    )

-- the moves of a list are no more than the bytes of its text
pub moves_below : (list : PeakedMoves) → length list.moves ≤ length (list_text list)
moves_below list = omega (arith, lines_long (list_lines list), length-map list.moves move_words)

-- and the places of a denial than those of its
pub places_below : (denial : Denial) → length denial.labelling.places ≤ length (denial_text denial)
places_below denial =
    let places : List ℕ = denial.labelling.places in
    let head : List (List ℕ) = labels_head_words denial.labelling.degree in
    let faces : List (List (List ℕ)) = map face_words denial.labelling.faces in
    let words : List (List (List ℕ)) = word_words denial.first ∷ word_words denial.second ∷ [] in
    let behind : List (List (List ℕ)) = lines_behind_faces denial in
    omega (
      arith,
      length-append (line_of head) (flat_map line_of (faces ++ behind)),
      ap (length {A = ℕ}) (flat_map-append line_of faces behind),
      length-append (flat_map line_of faces) (flat_map line_of behind),
      length-append (line_of (places_words places)) (flat_map line_of words),
      line_long (places_words places),
      length-map places decimal,
    )
