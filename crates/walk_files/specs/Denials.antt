-- Denials: what the lines behind a head of labels mean.
use Rattle.std.specs.Prelude.{ℕ, ◌==◌, ◌^◌, ◌<◌, Bool, true, false, if◌then◌else◌, List, [], ◌∷◌, ◌++◌, length, drop, All, codes, Option, Some, None, option_map, Result, Ok, Err}
use Rattle.std.specs.Option.{ok_or}
use Rattle.std.specs.Str.{bytes_eq}
use Rattle.text_scan.specs.Lines.{Line, full_lines, end_line}
use Rattle.text_scan.specs.Numbers.{number_of, integer_of}
use Rattle.text_scan.specs.Each.{each_some, ◌>>=◌}
use Rattle.turn_words.specs.declared.word.Word.{Word}
use Rattle.turn_words.specs.declared.word.Word.TheVariants.{Turns, Flat}
use Rattle.labellings.specs.Labellings.{FaceLabels, LabellingView}
use Rattle.labellings.specs.declared.denial.Denial.{Denial}
use Rattle.walk_files.specs.NumberTexts.{entries_of}
use Rattle.walk_files.specs.Certificates.{behind_head, head_of_text}
use Rattle.walk_files.specs.declared.fault.CertFault.{CertFault}
use Rattle.walk_files.specs.declared.fault.CertFault.TheVariants.{Bad, Ended, Extra}
use Rattle.walk_files.specs.declared.certificate.CertHead.{CertHead}
use Rattle.walk_files.specs.declared.certificate.CertHead.TheVariants.{Moves, Labels}

-- the sign that a word is: whether the face is flipped
abbrev pub sign_of : List ℕ → Option Bool
sign_of word = if bytes_eq word (codes "+") then Some false else if bytes_eq word (codes "-") then Some true else None

-- the face that the words of a line are: its sign, and then a label for each corner, of which there may be any number
abbrev pub face_labels_of : List (List ℕ) → Option FaceLabels
face_labels_of [] = None
face_labels_of (word ∷ words) = do
  flipped ← sign_of word
  labels ← each_some number_of words
  Some (record { flipped = flipped; labels = labels })

-- whether a line is that of the places, by its first word
abbrev pub is_places : List (List ℕ) → Bool
is_places [] = false
is_places (word ∷ words) = bytes_eq word (codes "places")

-- the places that the words of such a line are
abbrev pub places_of : List (List ℕ) → Option (List ℕ)
places_of [] = None
places_of (word ∷ words) = each_some number_of words

-- the point that the words of a line are, which are exactly two integers
abbrev pub point_of : List (List ℕ) → Option Word
point_of (right ∷ up ∷ []) = do
  x ← integer_of right
  y ← integer_of up
  Some (Flat x y)
point_of words = None

-- the word of a walk that the words of a line are: a point over the degree 4, and a turn word over every other
abbrev pub word_of : ℕ → List (List ℕ) → Option Word
word_of degree words = if degree == 4 then point_of words else option_map Turns (entries_of words)

-- what is read, and then something else of it
abbrev pub ok_then : {A B : Type 0} → Result A CertFault → (A → Result B CertFault) → Result B CertFault
ok_then (Err fault) next = Err fault
ok_then (Ok x) next = next x

-- the word of a walk on the first of these lines; `end` is the line where the text ends
abbrev pub word_on : ℕ → ℕ → List Line → Result Word CertFault
word_on end degree [] = Err (Ended end)
word_on end degree (line ∷ lines) = ok_or (word_of degree line.words) (Bad line.number)

-- the denial, where no line is left
abbrev pub denial_alone : Denial → List Line → Result Denial CertFault
denial_alone denial [] = Ok denial
denial_alone denial (line ∷ lines) = Err (Extra line.number)

-- the denial with this labelling, whose words stand on the first two of these lines, and no line behind them
abbrev pub words_in : ℕ → LabellingView → List Line → Result Denial CertFault
words_in end labelling lines =
    ok_then (word_on end labelling.degree lines)
    (λ first. ok_then (word_on end labelling.degree (drop 1 lines))
    (λ second. denial_alone (record { labelling = labelling; first = first; second = second }) (drop 1 (drop 1 lines))))

-- The denial that lines are, behind the faces that the labelling has already. The line of the places ends the faces, and the two words
-- come behind it.
abbrev pub denial_in : ℕ → LabellingView → List Line → Result Denial CertFault
denial_in end labelling [] = Err (Ended end)
denial_in end labelling (line ∷ lines) =
    if is_places line.words
    then ok_then (ok_or (places_of line.words) (Bad line.number)) (λ places. words_in end (record labelling { places = places }) lines)
    else ok_then (ok_or (face_labels_of line.words) (Bad line.number))
    (λ face. denial_in end (record labelling { faces = labelling.faces ++ face ∷ [] }) lines)

-- a labelling of no faces
abbrev pub unlabelled : ℕ → LabellingView
unlabelled degree = record { degree = degree; faces = []; places = [] }

-- the denial behind the head of a text, or the first fault of the lines there
abbrev pub denial_of_lines : ℕ → List ℕ → Result Denial CertFault
denial_of_lines degree text = denial_in (end_line text) (unlabelled degree) (behind_head (full_lines text))

-- the denial behind a head; nothing behind the head of a list of moves
abbrev pub denial_behind : Result CertHead CertFault → List ℕ → Option (Result Denial CertFault)
denial_behind (Err fault) text = Some (Err fault)
denial_behind (Ok (Moves count peak)) text = None
denial_behind (Ok (Labels degree)) text = Some (denial_of_lines degree text)

-- the denial that a text is, or its first fault; nothing where it has the head of a list of moves
abbrev pub denial_of_text : List ℕ → Option (Result Denial CertFault)
denial_of_text text = denial_behind (head_of_text text) text

-- fewer lines than 2^32, each with fewer words: so many a text of fewer bytes has
pub record AreFew (lines : List Line) : Type 0 where
  pub count : length lines < 2 ^ 32
  pub words : All (λ line. length line.words < 2 ^ 32) lines
