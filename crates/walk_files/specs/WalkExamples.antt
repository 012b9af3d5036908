-- Walk texts of version 2, and pairs. Each line is proved by computing.
use Rattle.std.specs.Prelude.{◌≡◌, ℕ, true, false, List, [], ◌∷◌, ◌++◌, flat_map, map, Some, None, Ok, Err, codes, refl}
use Rattle.text_scan.specs.Lines.{Line, unmarked, cut_lines, words, lines_from}
use Rattle.text_scan.specs.Numbers.{is_natural, value_of}
use Rattle.surf_model.specs.FaceLists.{FaceList, all_sides, is_edge, is_used}
use Rattle.walk_files.specs.PairLists.{pairs_fault}
use Rattle.walk_files.specs.WalkTexts.{walk_of_line, walk_text_of}
use Rattle.walk_files.specs.declared.fault.WalkFault.{WalkFault}
use Rattle.walk_files.specs.declared.fault.WalkFault.TheVariants.{BadNumber, TooLong, TooMany, BadGroup}
use Rattle.walk_files.specs.declared.limits.TheConstants.{MOST_LINES, MOST_DARTS}
use Rattle.walk_files.specs.declared.pairs.PairsFault.{PairsFault}
use Rattle.walk_files.specs.declared.pairs.PairsFault.TheVariants.{NotPairs, NoVertex, NoEdge, EndsDiffer}

-- a text of these lines
abbrev pub text : List (List ℕ) → List ℕ
text = flat_map (λ line. line ++ 10 ∷ [])

-- A group stands as often as its power says, and not at all where that is 0.
groups :
    walk_text_of (text (codes "# pairs" ∷ codes " WALKS  2" ∷ codes "0 ( 1 2 0 ) 2 3" ∷ [] ∷ codes "0 ( 1 0 ) 0 ( 0 ) 1 4" ∷ []))
    ≡ Ok (record { version = 2; walks = (0 ∷ 1 ∷ 2 ∷ 0 ∷ 1 ∷ 2 ∷ 0 ∷ 3 ∷ []) ∷ (0 ∷ 0 ∷ 4 ∷ []) ∷ [] })
unfolding unmarked cut_lines words lines_from is_natural value_of
groups = refl

header_alone : walk_text_of (codes "WALKS 2") ≡ Ok (record { version = 2; walks = [] })
unfolding unmarked cut_lines words lines_from is_natural value_of
header_alone = refl

plain_walks : walk_text_of (text (codes "0 1" ∷ codes "2" ∷ [])) ≡ Ok (record { version = 1; walks = (0 ∷ 1 ∷ []) ∷ (2 ∷ []) ∷ [] })
unfolding unmarked cut_lines words lines_from is_natural value_of
plain_walks = refl

-- No other line is the header, and none but the first.
other_headers :
    map (λ line. walk_text_of (text (line ∷ codes "0" ∷ [])))
    (codes "WALKS 3" ∷ codes "WALKS 02" ∷ codes "WALKS 2 x" ∷ codes "walks 2" ∷ codes "WALKS" ∷ [])
    ≡ Err (BadNumber 1) ∷ Err (BadNumber 1) ∷ Err (BadNumber 1) ∷ Err (BadNumber 1) ∷ Err (BadNumber 1) ∷ []
unfolding unmarked cut_lines words lines_from is_natural value_of
other_headers = refl

-- What is wrong with a line behind the header. A word that is no token comes before all else, wherever it stands.
abbrev faulty : List (List ℕ × WalkFault)
faulty =
    (codes "WALKS 2", BadNumber 2)
    ∷ (codes "0 ( 1 2 ) 2", BadGroup 2)
    ∷ (codes "( 0 ) 1", BadGroup 2)
    ∷ (codes "0 ( ) 1", BadGroup 2)
    ∷ (codes "0 ( 0 )", BadGroup 2)
    ∷ (codes "0 ( 0", BadGroup 2)
    ∷ (codes "0 ) 0", BadGroup 2)
    ∷ (codes "0 ( ( 0 ) 1 ) 1", BadGroup 2)
    ∷ (codes "0 ( 1 2 ) 0", BadGroup 2)
    ∷ (codes "0 ( 0 ) 1000001", BadGroup 2)
    ∷ (codes "0 ( 0 ) 4294967296", BadNumber 2)
    ∷ (codes "0 ) 0 -1", BadNumber 2)
    ∷ (codes "0 (1 0 ) 1", BadNumber 2)
    ∷ []

faulty_lines : map (λ p. walk_text_of (text (codes "WALKS 2" ∷ p.0 ∷ []))) faulty ≡ map (λ p. Err p.1) faulty
unfolding unmarked cut_lines words lines_from is_natural value_of
faulty_lines = refl

-- a line of two darts
abbrev two_darts : Line
two_darts = record { number = 7; words = codes "0" ∷ codes "1" ∷ codes "2" ∷ [] }

-- The limits: the number of walk lines before comes first, and the number of darts last.
limits :
    (walk_of_line 999999 15999998 two_darts ≡ Ok (0 ∷ 1 ∷ 2 ∷ [])) × (walk_of_line 999999 15999999 two_darts ≡ Err (TooLong 7))
    × (walk_of_line MOST_LINES 15999999 (record { number = 7; words = codes "x" ∷ [] }) ≡ Err (TooMany 7))
    × (walk_of_line 0 MOST_DARTS (record { number = 7; words = codes "0" ∷ codes "1" ∷ codes ")" ∷ [] }) ≡ Err (BadGroup 7))
unfolding is_natural value_of
limits = (refl, refl, refl, refl)

-- Two triangles with one edge in common.
abbrev triangles : FaceList
triangles = record { count = 5; faces = (0 ∷ 1 ∷ 2 ∷ []) ∷ (0 ∷ 3 ∷ 1 ∷ []) ∷ [] }

-- What is wrong with walks that should come in pairs: their number, any vertex, any edge, and then the ends, pair after pair.
abbrev no_pairs : List (ℕ × List (List ℕ) × PairsFault)
no_pairs =
    (1, (0 ∷ []) ∷ (0 ∷ []) ∷ (0 ∷ []) ∷ (0 ∷ []) ∷ [], NotPairs 4)
    ∷ (2, [], NotPairs 0)
    ∷ (2, (4 ∷ []) ∷ (0 ∷ []) ∷ (0 ∷ []) ∷ [], NotPairs 3)
    ∷ (2, (0 ∷ 0 ∷ []) ∷ (1 ∷ []) ∷ (0 ∷ []) ∷ (0 ∷ 4 ∷ []) ∷ [], NoVertex 4 1)
    ∷ (2, (0 ∷ []) ∷ (1 ∷ []) ∷ (2 ∷ 3 ∷ []) ∷ (0 ∷ []) ∷ [], NoEdge 3 0)
    ∷ (2, (0 ∷ 1 ∷ []) ∷ (0 ∷ 2 ∷ 1 ∷ []) ∷ (0 ∷ 1 ∷ []) ∷ (0 ∷ 2 ∷ []) ∷ [], EndsDiffer 2 false)
    ∷ (2, (0 ∷ 1 ∷ []) ∷ (0 ∷ 2 ∷ []) ∷ (0 ∷ []) ∷ (1 ∷ []) ∷ [], EndsDiffer 1 false)
    ∷ (2, (0 ∷ 1 ∷ []) ∷ (1 ∷ 2 ∷ []) ∷ [], EndsDiffer 1 true)
    ∷ []

no_pair : map (λ p. pairs_fault triangles (record { version = p.0; walks = p.1 })) no_pairs ≡ map (λ p. Some p.2) no_pairs
unfolding all_sides is_edge is_used
no_pair = refl

pairs : pairs_fault triangles (record { version = 2; walks = (0 ∷ 1 ∷ []) ∷ (0 ∷ 2 ∷ 1 ∷ []) ∷ (3 ∷ []) ∷ (3 ∷ []) ∷ [] }) ≡ None
unfolding all_sides is_edge is_used
pairs = refl
