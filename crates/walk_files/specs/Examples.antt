-- The definitions at work. Each line is proved by computing.
use Rattle.std.specs.Prelude.{◌≡◌, ℕ, true, false, List, [], ◌∷◌, ◌++◌, flat_map, map, Some, None, Result, Ok, Err, codes, refl}
use Rattle.std.specs.Fmt.{digits}
use Rattle.text_scan.specs.Lines.{unmarked, cut_lines, words, lines_from}
use Rattle.text_scan.specs.Numbers.{is_natural, value_of}
use Rattle.surf_model.specs.declared.moves.Move.TheVariants.{Insert, Remove, Across}
use Rattle.surf_model.specs.FaceLists.{FaceList, all_sides, is_edge, is_used}
use Rattle.walk_files.specs.Pairs.{pair_fault}
use Rattle.walk_files.specs.declared.pair.PairFault.{PairFault}
use Rattle.walk_files.specs.declared.pair.PairFault.TheVariants.{NotTwo, NoVertex, NoEdge, EndsDiffer}
use Rattle.walk_files.specs.NumberTexts.{words_of}
use Rattle.walk_files.specs.WalkTexts.{walks_of}
use Rattle.walk_files.specs.Certificates.{list_of_text}
use Rattle.walk_files.specs.MoveTexts.{list_text}
use Rattle.walk_files.specs.declared.fault.WalkFault.{WalkFault}
use Rattle.walk_files.specs.declared.fault.WalkFault.TheVariants.{BadNumber}
use Rattle.walk_files.specs.declared.fault.CertFault.{CertFault}
use Rattle.walk_files.specs.declared.fault.CertFault.TheVariants.{NoHead, Bad, Ended, Extra, Peak}

-- a text of these lines
abbrev pub text : List (List ℕ) → List ℕ
text = flat_map (λ line. line ++ 10 ∷ [])

-- One list of walks in three spellings: the second with a byte-order mark, the third with blanks that are seldom seen.
abbrev two_walks : Result (List (List ℕ)) WalkFault
two_walks = Ok ((0 ∷ 1 ∷ 2 ∷ []) ∷ (0 ∷ 2 ∷ []) ∷ [])

spellings :
    map walks_of
    (text (codes "0 01 2" ∷ codes "# the other" ∷ codes " 0  2 # direct" ∷ [])
    ∷ (239 ∷ 187 ∷ 191 ∷ text ((codes "# two walks" ++ 13 ∷ []) ∷ (13 ∷ []) ∷ (codes "0" ++ 9 ∷ codes "01  2") ∷ codes "000 2" ∷ []))
    ∷ text ([] ∷ (12 ∷ codes "0 1 2") ∷ (11 ∷ codes "0 2#") ∷ codes "#" ∷ []) ∷ [])
    ≡ two_walks ∷ two_walks ∷ two_walks ∷ []
unfolding unmarked cut_lines words lines_from is_natural value_of
spellings = refl

no_walks : walks_of [] ≡ Ok []
unfolding unmarked cut_lines words lines_from
no_walks = refl

-- What is wrong with a text of walks.
faulty_walks :
    map walks_of (text (codes "0 1" ∷ [] ∷ codes "0 x" ∷ codes "y" ∷ []) ∷ codes "4294967295 4294967296" ∷ codes "empty" ∷ [])
    ≡ Err (BadNumber 3) ∷ Err (BadNumber 1) ∷ Err (BadNumber 1) ∷ []
unfolding unmarked cut_lines words lines_from is_natural value_of
faulty_walks = refl

-- The word `empty` stands for no entries, where it stands alone.
turn_words :
    words_of (text ([] ∷ codes "7 1" ∷ codes " empty # none" ∷ codes "4294967295" ∷ []))
    ≡ Ok
    (record { line = 2; numbers = 7 ∷ 1 ∷ [] } ∷ record { line = 3; numbers = [] }
    ∷ record { line = 4; numbers = 4294967295 ∷ [] } ∷ [])
unfolding unmarked cut_lines words lines_from is_natural value_of
turn_words = refl

faulty_words : map words_of (codes "empty empty" ∷ codes "0 empty" ∷ text ([] ∷ codes "4294967296" ∷ []) ∷ [])
    ≡ Err (BadNumber 1) ∷ Err (BadNumber 1) ∷ Err (BadNumber 2) ∷ []
unfolding unmarked cut_lines words lines_from is_natural value_of
faulty_words = refl

one_move :
    list_of_text (text (codes "homotopic" ∷ codes "MOVES 1 2" ∷ codes "f 0 0 0 - 2" ∷ []))
    ≡ Some (Ok (record { moves = Across 0 (record { 0 = 0 }) 0 false 2 ∷ []; peak = 2 }))
unfolding unmarked cut_lines words lines_from is_natural value_of
one_move = refl

no_moves : list_of_text (codes "MOVES 0 2") ≡ Some (Ok (record { moves = []; peak = 2 }))
unfolding unmarked cut_lines words lines_from is_natural value_of
no_moves = refl

two_spurs :
    list_of_text (text (codes "MOVES 2 9" ∷ codes "+ 0 1" ∷ codes "- 0 1" ∷ []))
    ≡ Some (Ok (record { moves = Insert 0 (record { 0 = 1 }) ∷ Remove 0 (record { 0 = 1 }) ∷ []; peak = 9 }))
unfolding unmarked cut_lines words lines_from is_natural value_of
two_spurs = refl

-- What is wrong with a certificate. A lone answer ends too early; a count has 64 bits, and that lines are missing is seen at the end; the
-- least peak that is refused, and the least that is no number.
abbrev faulty : List (List (List ℕ) × CertFault)
faulty =
    (codes "# nothing" ∷ [], NoHead)
    ∷ (codes "homotopic" ∷ [], Ended 2)
    ∷ (codes "MOVES 2 2" ∷ codes "f 0 0 0 + 2" ∷ [], Ended 3)
    ∷ (codes "MOVES 18446744073709551615 2" ∷ [], Ended 2)
    ∷ (codes "MOVES 18446744073709551616 2" ∷ [], Bad 1)
    ∷ (codes "MOVES 0 16000001" ∷ [], Peak 1)
    ∷ (codes "MOVES 0 4294967296" ∷ [], Bad 1)
    ∷ (codes "different" ∷ codes "MOVES 0 16000001" ∷ [], Bad 2)
    ∷ (codes "homotopic" ∷ codes "#" ∷ codes "LABELS 8" ∷ [], Bad 3)
    ∷ (codes "homotopic MOVES 0 2" ∷ [], Bad 1)
    ∷ (codes "MOVES 1 2" ∷ [] ∷ codes "+ 0 1 2" ∷ [], Bad 3)
    ∷ (codes "MOVES 1 2" ∷ codes "f 0 0 0 + 4294967296" ∷ [], Bad 2)
    ∷ (codes "MOVES 1 2" ∷ codes "+ 0 1" ∷ codes "#" ∷ codes "x" ∷ [], Extra 4)
    ∷ []

faulty_read : map (λ p. list_of_text (text p.0)) faulty ≡ map (λ p. Some (Err p.1)) faulty
unfolding unmarked cut_lines words lines_from is_natural value_of
faulty_read = refl

labels : list_of_text (text (codes "different" ∷ codes "LABELS 8" ∷ codes "x" ∷ [])) ≡ None
unfolding unmarked cut_lines words lines_from is_natural value_of
labels = refl

-- What is written.
written :
    list_text (record { moves = Across 0 (record { 0 = 1 }) 2 true 3 ∷ Insert 4 (record { 0 = 5 }) ∷ []; peak = 16 })
    ≡ text (codes "MOVES 2 16" ∷ codes "f 0 1 2 + 3" ∷ codes "+ 4 5" ∷ [])
unfolding digits
written = refl

-- Two triangles with one edge in common, among five vertices; vertex 4 is in no face.
abbrev triangles : FaceList
triangles = record { count = 5; faces = (0 ∷ 1 ∷ 2 ∷ []) ∷ (0 ∷ 3 ∷ 1 ∷ []) ∷ [] }

-- What is wrong with a list of walks that is no pair: all entries come before any edge, and the starts before the ends.
abbrev no_pairs : List (List (List ℕ) × PairFault)
no_pairs =
    ((0 ∷ 1 ∷ []) ∷ [], NotTwo 1)
    ∷ ((0 ∷ 4 ∷ 0 ∷ []) ∷ (0 ∷ []) ∷ [], NoVertex 1 1)
    ∷ ((2 ∷ 3 ∷ []) ∷ (0 ∷ 1 ∷ 4 ∷ []) ∷ [], NoVertex 2 2)
    ∷ ((0 ∷ 1 ∷ 0 ∷ []) ∷ (1 ∷ 2 ∷ 3 ∷ []) ∷ [], NoEdge 2 1)
    ∷ ((2 ∷ 3 ∷ []) ∷ (0 ∷ 0 ∷ []) ∷ [], NoEdge 1 0)
    ∷ ((1 ∷ 0 ∷ []) ∷ (2 ∷ 0 ∷ []) ∷ [], EndsDiffer true)
    ∷ ((0 ∷ 1 ∷ []) ∷ (0 ∷ 2 ∷ []) ∷ [], EndsDiffer false)
    ∷ ((1 ∷ 0 ∷ []) ∷ (2 ∷ 1 ∷ []) ∷ [], EndsDiffer true)
    ∷ []

no_pair : map (λ p. pair_fault triangles p.0) no_pairs ≡ map (λ p. Some p.1) no_pairs
unfolding all_sides is_edge is_used
no_pair = refl

two_pairs :
    map (pair_fault triangles) (((0 ∷ 1 ∷ 2 ∷ []) ∷ (0 ∷ 2 ∷ []) ∷ []) ∷ ((2 ∷ []) ∷ (2 ∷ 1 ∷ 2 ∷ []) ∷ []) ∷ []) ≡ None ∷ None ∷ []
unfolding all_sides is_edge is_used
two_pairs = refl
