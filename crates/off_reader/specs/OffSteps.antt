-- What the private functions of the reader do.
use Rattle.std.specs.Prelude.{◌≡◌, ℕ, ◌⊎◌, Bool, true, nat_lt, List, [], take, map, Some, None, Result, Ok, Err}
use Rattle.std.specs.List.{list_all}
use Rattle.text_scan.specs.Lines.{Line}
use Rattle.text_scan.specs.Numbers.{value_of}
use Rattle.text_scan.specs.Unread.{Unread}
use Rattle.surf_model.specs.FaceLists.{FaceList}
use Rattle.off_reader.specs.OffTexts.{Keyword, Header, taken, point_fault, face_fault, corners_among, rings_named}
use Rattle.off_reader.specs.declared.header.Header.{Header as Counts}
use Rattle.off_reader.specs.declared.keyword.Keyword.{Keyword as KeywordParts}
use Rattle.off_reader.specs.declared.off_fault.OffFault.{OffFault}
use Rattle.off_reader.specs.declared.off_fault.OffFault.TheVariants.{BadFace, OutOfMemory}

-- the present line, with the words left in it
abbrev pub present_line : Unread → Line
present_line unread = record { number = unread.line; words = unread.words }

-- what a keyword holds
abbrev pub keyword_seen : KeywordParts → Keyword
keyword_seen keyword = record { pieces = keyword.pieces.now; rest = keyword.rest.now }

-- further on in the same line
pub record IsSameLine (old new : Unread) : Type 0 where
  pub line : new.line ≡ old.line
  pub lines : new.lines ≡ old.lines
  pub end_line : new.end_line ≡ old.end_line

-- the header was read up to here, or its fault
abbrev pub SaysHeader : Result Header OffFault → Result Counts OffFault → Unread → Type 0
SaysHeader header (Ok counts) after =
    header ≡ Ok (record { coordinates = counts.coordinates; vertices = counts.vertices; faces = counts.faces; lines = after.lines })
SaysHeader header (Err fault) after = header ≡ Err fault

-- so many corners were read: they are these where they are in range
abbrev pub ReadsCorners : ℕ → ℕ → Unread → Result Bool OffFault → List ℕ → Type 0
ReadsCorners vertices sides old (Ok in_range) ring =
    (corners_among old.words sides ≡ Some (map value_of (take sides old.words)))
    × (in_range ≡ list_all (λ v. nat_lt v vertices) (map value_of (take sides old.words)))
    × (in_range ≡ true → ring ≡ map value_of (take sides old.words))
ReadsCorners vertices sides old (Err fault) ring =
    (fault ≡ OutOfMemory) ⊎ ((fault ≡ BadFace old.line) × (corners_among old.words sides ≡ None))

-- the lines of the vertices were taken up to here, or the fault of one
abbrev pub TakesPoints : ℕ → ℕ → Unread → Result (Unit {0}) OffFault → Unread → Type 0
TakesPoints coordinates vertices old (Ok done) new =
    (points : List Line) × (taken (point_fault coordinates) old.end_line [] vertices old.lines ≡ Ok (points, new.lines))
TakesPoints coordinates vertices old (Err fault) new = taken (point_fault coordinates) old.end_line [] vertices old.lines ≡ Err fault

-- the lines of the faces were taken, or the fault of one
abbrev pub TakesFaces : ℕ → ℕ → Unread → Result FaceList OffFault → Type 0
TakesFaces vertices count old (Ok mesh) =
    (lines : List Line) × (behind : List Line) × (taken (face_fault vertices) old.end_line [] count old.lines ≡ Ok (lines, behind))
    × (mesh ≡ record { count = vertices; faces = rings_named lines })
TakesFaces vertices count old (Err fault) =
    (fault ≡ OutOfMemory) ⊎ (taken (face_fault vertices) old.end_line [] count old.lines ≡ Err fault)
