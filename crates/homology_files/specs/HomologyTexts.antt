-- Certificates of homology as texts: the head, and the numbers of faces or of edges behind it.
use Rattle.std.specs.Prelude.{ℕ, ℤ, ◌-◌, Bool, true, false, ◌==◌, ◌&&◌, ◌||◌, nat_lt, nat_le, if◌then◌else◌, List, [], ◌∷◌, ◌++◌, drop, codes, Option, Some, None, Result, Ok, Err, is_some, option_and_then, unsigned_abs}
use Rattle.std.specs.List.{list_all}
use Rattle.std.specs.Option.{ok_or}
use Rattle.std.specs.Str.{bytes_eq}
use Rattle.text_scan.specs.Lines.{Line, full_lines, end_line}
use Rattle.text_scan.specs.Numbers.{number_of, integer_of}
use Rattle.text_scan.specs.Each.{◌>>=◌}
use Rattle.text_scan.specs.Unread.{are_words}
use Rattle.homology.specs.declared.certificate.FaceNumber.{FaceNumber}
use Rattle.homology.specs.declared.certificate.EdgeNumber.{EdgeNumber}
use Rattle.homology.specs.declared.certificate.HomologyCert.{HomologyCert}
use Rattle.homology.specs.declared.certificate.HomologyCert.TheVariants.{Chain, Cocycle}
use Rattle.homology.specs.declared.certificate.TheConstants.{MOST_NUMBER}
use Rattle.homology_files.specs.declared.fault.HomologyFault.{HomologyFault}
use Rattle.homology_files.specs.declared.fault.HomologyFault.TheVariants.{NoHead, Bad, Ended, Extra}
use Rattle.homology_files.specs.declared.head.Kind.{Kind}
use Rattle.homology_files.specs.declared.head.Kind.TheVariants.{OfFaces, OfEdges}
use Rattle.homology_files.specs.declared.head.Head.{Head}

-- the kind that the keyword of a head is
abbrev pub keyword_kind : List ℕ → Option Kind
keyword_kind word =
    if bytes_eq word (codes "CHAIN") then Some OfFaces
    else if bytes_eq word (codes "COCYCLE") then Some OfEdges
    else None

-- the head that the words of a line are: its keyword, and how many lines follow
abbrev pub homology_head_of : List (List ℕ) → Option Head
homology_head_of (keyword ∷ count ∷ []) = do
  kind ← keyword_kind keyword
  n ← number_of count
  Some (record { kind = kind; count = n })
homology_head_of words = None

-- the line of an answer: that a chain follows, or a cocycle
abbrev pub answer_words : Kind → List (List ℕ)
answer_words OfFaces = codes "homologous" ∷ []
answer_words OfEdges = codes "not" ∷ codes "homologous" ∷ []

-- the kind whose answer a line is
abbrev pub kind_answered : List (List ℕ) → Option Kind
kind_answered words =
    if are_words words (answer_words OfFaces) then Some OfFaces
    else if are_words words (answer_words OfEdges) then Some OfEdges
    else None

-- whether the two are of one kind
abbrev pub are_alike : Kind → Kind → Bool
are_alike OfFaces OfFaces = true
are_alike OfFaces OfEdges = false
are_alike OfEdges OfFaces = false
are_alike OfEdges OfEdges = true

-- whether a head may stand behind an answer, if there is one
abbrev pub fits_kind : Option Kind → Head → Bool
fits_kind None head = true
fits_kind (Some kind) head = are_alike kind head.kind

-- a head, where it may stand behind the answer
abbrev pub fitting : Option Kind → Head → Option Head
fitting answer head = if fits_kind answer head then Some head else None

-- the head that a line is, behind an answer or not
abbrev pub homology_head_in : Option Kind → Line → Result Head HomologyFault
homology_head_in answer line = ok_or (option_and_then (fitting answer) (homology_head_of line.words)) (Bad line.number)

-- the head on the first of these lines; `end` is the line where the text ends
abbrev pub first_homology_head : Option Kind → ℕ → List Line → Result Head HomologyFault
first_homology_head answer end [] = Err (Ended end)
first_homology_head answer end (line ∷ lines) = homology_head_in answer line

-- the head of a text of these lines: it stands first, or behind a line that is an answer
abbrev pub homology_head_among : ℕ → List Line → Result Head HomologyFault
homology_head_among end [] = Err NoHead
homology_head_among end (line ∷ lines) =
    if is_some (kind_answered line.words) then first_homology_head (kind_answered line.words) end lines else homology_head_in None line

-- the lines behind the head
abbrev pub behind_homology_head : List Line → List Line
behind_homology_head [] = []
behind_homology_head (line ∷ lines) = if is_some (kind_answered line.words) then drop 1 lines else lines

-- the number of a face or an edge that a word is
abbrev pub bounded_number_of : List ℕ → Option ℤ
bounded_number_of word = option_and_then (λ z. if nat_le (unsigned_abs z) MOST_NUMBER then Some z else None) (integer_of word)

-- the same of the next word
abbrev pub next_size : List (List ℕ) → Option ℤ
next_size [] = None
next_size (word ∷ words) = bounded_number_of word

-- the number of a face that the words of a line are
abbrev pub face_number_of : List (List ℕ) → Option FaceNumber
face_number_of (face ∷ number ∷ []) = do
  f ← number_of face
  x ← bounded_number_of number
  Some (record { face = record { 0 = f }; number = x })
face_number_of words = None

-- the number of an edge that the words of a line are: its lower vertex stands first
abbrev pub edge_number_of : List (List ℕ) → Option EdgeNumber
edge_number_of (low ∷ high ∷ number ∷ []) = do
  u ← number_of low
  v ← number_of high
  x ← bounded_number_of number
  if nat_lt u v then Some (record { low = record { 0 = u }; high = record { 0 = v }; number = x }) else None
edge_number_of words = None

-- whether a face is above those of other lines
abbrev pub is_face_above : List FaceNumber → FaceNumber → Bool
is_face_above lines line = list_all (λ (other : FaceNumber). nat_lt other.face.0 line.face.0) lines

-- whether an edge comes before another, by its lower and then its higher vertex
abbrev pub is_edge_before : EdgeNumber → EdgeNumber → Bool
is_edge_before one other = nat_lt one.low.0 other.low.0 || (one.low.0 == other.low.0 && nat_lt one.high.0 other.high.0)

-- whether an edge is above those of other lines
abbrev pub is_edge_above : List EdgeNumber → EdgeNumber → Bool
is_edge_above lines line = list_all (λ other. is_edge_before other line) lines

-- the lines so far, and one more; none where it is not above them
abbrev pub and_one : {X : Type 0} → (List X → X → Bool) → List X → X → Option (List X)
and_one is_above so_far line = if is_above so_far line then Some (so_far ++ line ∷ []) else None

-- what is read, and then something else of it
abbrev pub homology_then : {A B : Type 0} → Result A HomologyFault → (A → Result B HomologyFault) → Result B HomologyFault
homology_then (Err fault) next = Err fault
homology_then (Ok x) next = next x

-- The numbers that lines are, behind those so far, where `left` are still to come. Each line has to be one, above all before it.
abbrev pub numbers_in : {X : Type 0} → (List (List ℕ) → Option X) → (List X → X → Bool) → ℕ → ℕ → List X → List Line
    → Result (List X) HomologyFault
numbers_in read is_above end left so_far [] = if left == 0 then Ok so_far else Err (Ended end)
numbers_in read is_above end left so_far (line ∷ lines) =
    if left == 0 then Err (Extra line.number)
    else homology_then (ok_or (option_and_then (and_one is_above so_far) (read line.words)) (Bad line.number))
    (λ more. numbers_in read is_above end (left - 1) more lines)

-- the certificate behind a head
abbrev pub cert_in : Kind → ℕ → ℕ → List Line → Result HomologyCert HomologyFault
cert_in OfFaces end count lines =
    homology_then (numbers_in face_number_of is_face_above end count [] lines) (λ numbers. Ok (Chain numbers))
cert_in OfEdges end count lines =
    homology_then (numbers_in edge_number_of is_edge_above end count [] lines) (λ numbers. Ok (Cocycle numbers))

-- the certificate that a text is, or its first fault
abbrev pub cert_of_text : List ℕ → Result HomologyCert HomologyFault
cert_of_text text =
    homology_then (homology_head_among (end_line text) (full_lines text))
    (λ head. cert_in head.kind (end_line text) head.count (behind_homology_head (full_lines text)))
