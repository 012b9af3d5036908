-- What an OFF text means: the mesh, or its first fault with the line.
use Rattle.std.specs.Prelude.{ℕ, zero, suc, ◌+◌, Bool, true, not, ◌==◌, ◌&&◌, ◌||◌, nat_lt, nat_le, if◌then◌else◌, List, [], ◌∷◌, ◌++◌, length, take, drop, map, filter_map, sum_by, slice_index, bytes_eq, codes, Option, Some, None, option_and_then, Result, Ok, Err}
use Rattle.std.specs.List.{list_any, list_all, before_first, range_with_len}
use Rattle.text_scan.specs.Lines.{Line, is_filled, full_lines, end_line}
use Rattle.text_scan.specs.Numbers.{is_natural, value_of, natural_of, is_number_text}
use Rattle.surf_model.specs.FaceLists.{FaceList, next_corner}
use Rattle.off_reader.specs.declared.off_fault.OffFault.{OffFault}
use Rattle.off_reader.specs.declared.off_fault.OffFault.TheVariants.{NoCounts, BadCounts, UnreadForm, BadVertex, Ended, BadFace, IndexRange, EqualNeighbours, TooMany}
use Rattle.surf_model.specs.declared.limits.TheConstants.{MOST_VERTICES, MOST_SIDES}
use Rattle.off_reader.specs.declared.header.TheConstants.{MOST_FACES}

-- one reading after the other, up to the first fault
infixl 10 ◌>>=◌
abbrev pub ◌>>=◌ : {A B : Type 0} → Result A OffFault → (A → Result B OffFault) → Result B OffFault
Ok x >>= next = next x
Err fault >>= next = Err fault

-- ---- the keyword

-- a word that is a keyword: the pieces before OFF, and what stands behind it
pub record Keyword : Type 0 where
  pub pieces : List ℕ
  pub rest : List ℕ

-- the pieces of one byte: C, N, 4 and n
abbrev pub is_single_piece : ℕ → Bool
is_single_piece byte = byte == 67 || byte == 78 || byte == 52 || byte == 110

-- any number of pieces in any order: those of one byte, and ST
unfoldable pub are_pieces : List ℕ → Bool
are_pieces [] = true
are_pieces (a ∷ []) = is_single_piece a
are_pieces (a ∷ b ∷ rest) = (is_single_piece a && are_pieces (b ∷ rest)) || (bytes_eq (a ∷ b ∷ []) (codes "ST") && are_pieces rest)

-- the keyword that a word is, if it is one; no piece has an O, so that the first O is that of OFF
unfoldable pub keyword_of : List ℕ → Option Keyword
keyword_of word =
    let pieces = before_first (λ byte. byte == 79) word in
    let behind = drop (length pieces) word in
    if are_pieces pieces && bytes_eq (take 3 behind) (codes "OFF") then Some (record { pieces = pieces; rest = drop 3 behind }) else None

-- whether a piece of one byte stands before OFF
abbrev pub has_piece : ℕ → Keyword → Bool
has_piece piece keyword = list_any (λ byte. byte == piece) keyword.pieces

-- how many coordinates a vertex has: four with the piece 4, else three
abbrev pub coordinates_of : Keyword → ℕ
coordinates_of keyword = if has_piece 52 keyword then 4 else 3

-- ---- the counts

-- what the header of a text says, and the lines behind it
pub record Header : Type 0 where
  pub coordinates : ℕ
  pub vertices : ℕ
  pub faces : ℕ
  pub lines : List Line

-- the first two words, if both are naturals
abbrev pub two_naturals : List (List ℕ) → Option (ℕ × ℕ)
two_naturals [] = None
two_naturals (word ∷ []) = None
two_naturals (word ∷ other ∷ others) = if is_natural word && is_natural other then Some (value_of word, value_of other) else None

-- the counts where the first of the lines has the count words
abbrev pub counted : ℕ → Line → List Line → Option (ℕ × ℕ) → Result Header OffFault
counted coordinates line lines None = Err (BadCounts line.number)
counted coordinates line lines (Some counts) =
    if nat_le counts.0 MOST_VERTICES && nat_le counts.1 MOST_FACES
    then Ok (record { coordinates = coordinates; vertices = counts.0; faces = counts.1; lines = lines })
    else Err (TooMany line.number)

unfoldable pub counts_at : ℕ → List Line → Result Header OffFault
counts_at coordinates [] = Err NoCounts
counts_at coordinates (line ∷ lines) = counted coordinates line lines (two_naturals line.words)

-- a line before others, if it has words
abbrev pub line_before : Line → List Line → List Line
line_before line lines = if is_filled line.words then line ∷ lines else lines

-- the counts behind a keyword with nothing behind OFF, where the line has these other words
abbrev pub bare_counts : ℕ → Line → List Line → Result Header OffFault
bare_counts coordinates line lines =
    if list_any (λ word. bytes_eq word (codes "BINARY")) (take 1 line.words) then Err (UnreadForm line.number)
    else counts_at coordinates (line_before line lines)

-- the counts behind a keyword, where the line has these other words
abbrev pub counts_behind : Keyword → Line → List Line → Result Header OffFault
counts_behind keyword line lines =
    if has_piece 110 keyword then Err (UnreadForm line.number)
    else if is_filled keyword.rest then counts_at (coordinates_of keyword) (record line { words = keyword.rest ∷ line.words } ∷ lines)
    else bare_counts (coordinates_of keyword) line lines

-- the keyword that the first of some words is
abbrev pub keyword_in : List (List ℕ) → Option Keyword
keyword_in [] = None
keyword_in (word ∷ others) = keyword_of word

-- the counts of a text with these lines; without a keyword they stand in the first
unfoldable pub header_of : List Line → Result Header OffFault
header_of [] = Err NoCounts
header_of (line ∷ lines) = by_keyword (keyword_in line.words)
  where
    by_keyword : Option Keyword → Result Header OffFault
    by_keyword None = counts_at 3 (line ∷ lines)
    by_keyword (Some keyword) = counts_behind keyword (record line { words = drop 1 line.words }) lines

-- ---- lines of vertices and of faces

-- so many lines, each looked at with those before it: these lines and the lines behind them, or the first fault
unfoldable pub taken : (List Line → Line → Option OffFault) → ℕ → List Line → ℕ → List Line → Result (List Line × List Line) OffFault
taken fault end before zero lines = Ok (before, lines)
taken fault end before (suc n) [] = Err (Ended end)
taken fault end before (suc n) (line ∷ lines) = unless (fault before line) (taken fault end (before ++ line ∷ []) n lines)
  where
    unless : Option OffFault → Result (List Line × List Line) OffFault → Result (List Line × List Line) OffFault
    unless None others = others
    unless (Some f) others = Err f

-- the line of a vertex begins with so many number texts
abbrev pub point_fault : ℕ → List Line → Line → Option OffFault
point_fault coordinates before line =
    if nat_le coordinates (length line.words) && list_all is_number_text (take coordinates line.words) then None
    else Some (BadVertex line.number)

-- the corners in a line of a face: as many naturals as its first word says, three at least
abbrev pub corners_among : List (List ℕ) → ℕ → Option (List ℕ)
corners_among words sides =
    if nat_le 3 sides && nat_le sides (length words) && list_all is_natural (take sides words) then Some (map value_of (take sides words))
    else None

unfoldable pub corners_of : List (List ℕ) → Option (List ℕ)
corners_of [] = None
corners_of (word ∷ words) = option_and_then (corners_among words) (natural_of word)

-- the faces that lines name
abbrev pub rings_named : List Line → List (List ℕ)
rings_named = filter_map (λ line. corners_of line.words)

-- whether two neighbours round the face are one vertex
unfoldable pub has_equal_neighbours : List ℕ → Bool
has_equal_neighbours ring =
    list_any (λ t. slice_index ring t == slice_index ring (next_corner true (length ring) t)) (range_with_len 0 (length ring))

-- the fault of corners, in the order in which they are looked at, where the faces before have `sides` sides
abbrev pub ring_fault : ℕ → ℕ → ℕ → Option (List ℕ) → Option OffFault
ring_fault vertices sides number None = Some (BadFace number)
ring_fault vertices sides number (Some ring) =
    if nat_lt MOST_SIDES (sides + length ring) then Some (TooMany number)
    else if not (list_all (λ v. nat_lt v vertices) ring) then Some (IndexRange number)
    else if has_equal_neighbours ring then Some (EqualNeighbours number)
    else None

abbrev pub face_fault : ℕ → List Line → Line → Option OffFault
face_fault vertices before line = ring_fault vertices (sum_by length (rings_named before)) line.number (corners_of line.words)

-- ---- the whole text

-- the mesh of these lines, in a text that ends at line `end`; lines behind the last face are not looked at
unfoldable pub mesh_of : ℕ → List Line → Result FaceList OffFault
mesh_of end lines = do
  header ← header_of lines
  points ← taken (point_fault header.coordinates) end [] header.vertices header.lines
  faces ← taken (face_fault header.vertices) end [] header.faces points.1
  Ok (record { count = header.vertices; faces = rings_named faces.0 })

-- what a text means
abbrev pub meaning_of : List ℕ → Result FaceList OffFault
meaning_of text = mesh_of (end_line text) (full_lines text)
