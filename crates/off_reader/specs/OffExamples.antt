-- The definitions at work. Each line is proved by computing.
use Rattle.std.specs.Prelude.{◌≡◌, ℕ, ◌-◌, List, [], ◌∷◌, ◌++◌, map, take, Some, None, Result, Ok, Err, codes, flat_map, refl}
use Rattle.text_scan.specs.Lines.{unmarked, cut_lines, words, lines_from}
use Rattle.text_scan.specs.Numbers.{is_natural, value_of, is_number_text}
use Rattle.surf_model.specs.FaceLists.{FaceList}
use Rattle.surf_model.specs.declared.limits.TheConstants.{MOST_SIDES}
use Rattle.off_reader.specs.OffTexts.{ring_fault, keyword_of, are_pieces, counts_at, header_of, taken, corners_of, has_equal_neighbours, mesh_of, meaning_of}
use Rattle.off_reader.specs.declared.off_fault.OffFault.{OffFault}
use Rattle.off_reader.specs.declared.off_fault.OffFault.TheVariants.{NoCounts, BadCounts, UnreadForm, BadVertex, Ended, BadFace, IndexRange, EqualNeighbours, TooMany}

-- a text from its lines, each with this ending
abbrev lines_with : List ℕ → List (List ℕ) → List ℕ
lines_with ending = flat_map (λ line. line ++ ending)

abbrev text : List (List ℕ) → List ℕ
text = lines_with (10 ∷ [])

-- a text of one line
abbrev one_line : List ℕ → List ℕ
one_line line = text (line ∷ [])

-- a title, counts, three vertices and these lines
abbrev three_points : List ℕ → List (List ℕ) → List ℕ
three_points counts faces = text (codes "OFF" ∷ counts ∷ codes "0 0 0" ∷ codes "1 0 0" ∷ codes "0 1 0" ∷ faces)

abbrev triangle : Result FaceList OffFault
triangle = Ok (record { count = 3; faces = (0 ∷ 1 ∷ 2 ∷ []) ∷ [] })

-- The keyword's pieces stand before OFF in any order; what stands behind OFF may be a count.
prefixed : keyword_of (codes "STCN4nOFF12") ≡ Some (record { pieces = codes "STCN4n"; rest = codes "12" })
unfolding keyword_of are_pieces
prefixed = refl

no_keywords : map keyword_of (codes "off" ∷ codes "TOFF" ∷ codes "SOFF" ∷ codes "OF" ∷ codes "xOFF" ∷ codes "12" ∷ [])
    ≡ None ∷ None ∷ None ∷ None ∷ None ∷ None ∷ []
unfolding keyword_of are_pieces
no_keywords = refl

-- One mesh in two spellings: the second with a byte-order mark, carriage returns, colours, a comment, the counts on the
-- keyword's line, blank lines and a line behind the end.
plain : meaning_of (three_points (codes "3 1 3") (codes "3 0 1 2" ∷ [])) ≡ triangle
unfolding unmarked cut_lines words lines_from is_natural value_of is_number_text keyword_of are_pieces
    counts_at header_of taken corners_of has_equal_neighbours mesh_of
plain = refl

decorated :
    meaning_of
    (239 ∷ 187 ∷ 191 ∷ lines_with (13 ∷ 10 ∷ [])
    (codes "# a triangle" ∷ codes "COFF3 1 0# counts" ∷ [] ∷ codes "0 0 0 255" ∷ codes "1e0 0 0"
    ∷ codes "   " ∷ codes " 0 1. -.5E+1" ∷ codes "3 0 1 2 0.5" ∷ codes "more" ∷ []))
    ≡ triangle
unfolding unmarked cut_lines words lines_from is_natural value_of is_number_text keyword_of are_pieces
    counts_at header_of taken corners_of has_equal_neighbours mesh_of
decorated = refl

-- The counts: behind the keyword in its line, in the next line, or without a keyword; a fault is that of their line.
nothing : meaning_of [] ≡ Err NoCounts
unfolding unmarked cut_lines words lines_from header_of mesh_of
nothing = refl

only_a_keyword : meaning_of (one_line (codes "OFF")) ≡ Err NoCounts
unfolding unmarked cut_lines words lines_from keyword_of are_pieces counts_at header_of mesh_of
only_a_keyword = refl

binary : map meaning_of (one_line (codes "COFF BINARY") ∷ one_line (codes "nOFF3 1 0") ∷ []) ≡ Err (UnreadForm 1) ∷ Err (UnreadForm 1) ∷ []
unfolding unmarked cut_lines words lines_from keyword_of are_pieces counts_at header_of mesh_of
binary = refl

no_binary : map meaning_of (one_line (codes "OFFBINARY") ∷ one_line (codes "OFF4 BINARY") ∷ text (codes "OFF" ∷ codes "BINARY" ∷ []) ∷ [])
    ≡ Err (BadCounts 1) ∷ Err (BadCounts 1) ∷ Err (BadCounts 2) ∷ []
unfolding unmarked cut_lines words lines_from is_natural keyword_of are_pieces counts_at header_of mesh_of
no_binary = refl

bad_counts :
    map meaning_of
    (text (codes "OFF" ∷ codes "4 x" ∷ []) ∷ one_line (codes "4") ∷ one_line (codes "99999999999999999999999999 -1") ∷ [])
    ≡ Err (BadCounts 2) ∷ Err (BadCounts 1) ∷ Err (BadCounts 1) ∷ []
unfolding unmarked cut_lines words lines_from is_natural value_of keyword_of are_pieces counts_at header_of mesh_of
bad_counts = refl

many_counts :
    map meaning_of
    (text (codes "OFF" ∷ codes "1000001 4 0" ∷ []) ∷ one_line (codes "99999999999999999999999999 0") ∷ one_line (codes "0 1333334 x")
    ∷ one_line (codes "0 1333333 x") ∷ [])
    ≡ Err (TooMany 2) ∷ Err (TooMany 1) ∷ Err (TooMany 1) ∷ Err (Ended 2) ∷ []
unfolding unmarked cut_lines words lines_from is_natural value_of keyword_of are_pieces counts_at header_of taken mesh_of
many_counts = refl

no_faces : meaning_of (one_line (codes "0 0 0")) ≡ Ok (record { count = 0; faces = [] })
unfolding unmarked cut_lines words lines_from is_natural value_of keyword_of are_pieces counts_at header_of taken mesh_of
no_faces = refl

-- Vertices: three number texts, or four with the piece 4.
two_coordinates : meaning_of (text (codes "OFF" ∷ codes "1 0 0" ∷ codes "0 0" ∷ [])) ≡ Err (BadVertex 3)
unfolding unmarked cut_lines words lines_from is_natural value_of is_number_text keyword_of are_pieces counts_at header_of taken mesh_of
two_coordinates = refl

three_of_four : meaning_of (text (codes "4OFF" ∷ codes "1 0 0" ∷ codes "0 0 0" ∷ [])) ≡ Err (BadVertex 3)
unfolding unmarked cut_lines words lines_from is_natural value_of is_number_text keyword_of are_pieces counts_at header_of taken mesh_of
three_of_four = refl

no_number : meaning_of (text (codes "OFF" ∷ codes "1 0 0" ∷ codes "0 0 1e" ∷ [])) ≡ Err (BadVertex 3)
unfolding unmarked cut_lines words lines_from is_natural value_of is_number_text keyword_of are_pieces counts_at header_of taken mesh_of
no_number = refl

-- Faces, in the order in which they are looked at.
abbrev with_face : List ℕ → Result FaceList OffFault
with_face face = meaning_of (three_points (codes "3 1 3") (face ∷ []))

faulty_faces :
    map with_face
    (codes "3 1 2" ∷ codes "2 1 2" ∷ codes "3 0 1 x" ∷ codes "3 9 9 -1" ∷ codes "x" ∷ codes "99999999999999999999999999 0 1 2" ∷ [])
    ≡ Err (BadFace 6) ∷ Err (BadFace 6) ∷ Err (BadFace 6) ∷ Err (BadFace 6) ∷ Err (BadFace 6) ∷ Err (BadFace 6) ∷ []
unfolding unmarked cut_lines words lines_from is_natural value_of is_number_text keyword_of are_pieces
    counts_at header_of taken corners_of has_equal_neighbours mesh_of
faulty_faces = refl

no_such_vertex : map with_face (codes "3 0 0 3" ∷ codes "3 0 1 99999999999999999999999999" ∷ [])
    ≡ Err (IndexRange 6) ∷ Err (IndexRange 6) ∷ []
unfolding unmarked cut_lines words lines_from is_natural value_of is_number_text keyword_of are_pieces
    counts_at header_of taken corners_of has_equal_neighbours mesh_of
no_such_vertex = refl

-- The sides of all faces are counted before the corners are looked at.
many_before_index :
    map (λ before. ring_fault 3 before 7 (Some (0 ∷ 1 ∷ 9 ∷ []))) ((MOST_SIDES - 2) ∷ (MOST_SIDES - 3) ∷ [])
    ≡ Some (TooMany 7) ∷ Some (IndexRange 7) ∷ []
unfolding has_equal_neighbours
many_before_index = refl

equal_neighbours : map with_face (codes "3 0 0 1" ∷ codes "3 0 1 0" ∷ []) ≡ Err (EqualNeighbours 6) ∷ Err (EqualNeighbours 6) ∷ []
unfolding unmarked cut_lines words lines_from is_natural value_of is_number_text keyword_of are_pieces
    counts_at header_of taken corners_of has_equal_neighbours mesh_of
equal_neighbours = refl

-- A face may name a vertex more than once, and words behind its corners are not looked at.
twice : with_face (codes "4 0 1 2 1 red") ≡ Ok (record { count = 3; faces = (0 ∷ 1 ∷ 2 ∷ 1 ∷ []) ∷ [] })
unfolding unmarked cut_lines words lines_from is_natural value_of is_number_text keyword_of are_pieces
    counts_at header_of taken corners_of has_equal_neighbours mesh_of
twice = refl

-- Cut off after some of its bytes, a text has the fault of its first faulty line, or ends there.
abbrev cut_off : ℕ → Result FaceList OffFault
cut_off n = meaning_of (take n (three_points (codes "3 1 3") (codes "3 0 1 2" ∷ [])))

cut_short : map cut_off (4 ∷ 9 ∷ 13 ∷ 26 ∷ 28 ∷ 30 ∷ 34 ∷ 35 ∷ [])
    ≡ Err NoCounts ∷ Err (Ended 3) ∷ Err (BadVertex 3) ∷ Err (BadVertex 5) ∷ Err (Ended 6)
    ∷ Err (BadFace 6) ∷ Err (BadFace 6) ∷ triangle ∷ []
unfolding unmarked cut_lines words lines_from is_natural value_of is_number_text keyword_of are_pieces
    counts_at header_of taken corners_of has_equal_neighbours mesh_of
cut_short = refl
