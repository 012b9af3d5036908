-- How a denial is written.
use Rattle.std.specs.Prelude.{◌≡◌, ℕ, ◌<◌, ◌^◌, Bool, true, if◌then◌else◌, List, [], ◌∷◌, ◌++◌, map, codes, decimal, flat_map, All}
use Rattle.std.specs.Fmt.{signed_decimal}
use Rattle.text_scan.specs.Plain.{line_of}
use Rattle.text_scan.specs.Numbers.{fits_i64}
use Rattle.turn_words.specs.declared.word.Word.{Word}
use Rattle.turn_words.specs.declared.word.Word.TheVariants.{Turns, Flat}
use Rattle.labellings.specs.Labellings.{FaceLabels, LabellingView}
use Rattle.labellings.specs.declared.denial.Denial.{Denial}

-- how the sign of a face is written
abbrev pub sign_word : Bool → List ℕ
sign_word flipped = if flipped then codes "-" else codes "+"

-- the words of a face: its sign, and the label of each corner
abbrev pub face_words : FaceLabels → List (List ℕ)
face_words face = sign_word face.flipped ∷ map decimal face.labels

-- the words of the places
abbrev pub places_words : List ℕ → List (List ℕ)
places_words places = codes "places" ∷ map decimal places

-- the words of a turn word: its entries, or `empty`
abbrev pub entry_words : List ℕ → List (List ℕ)
entry_words [] = codes "empty" ∷ []
entry_words (entry ∷ entries) = map decimal (entry ∷ entries)

-- the words of the word of a walk
abbrev pub word_words : Word → List (List ℕ)
word_words (Turns entries) = entry_words entries
word_words (Flat x y) = signed_decimal x ∷ signed_decimal y ∷ []

-- the words of the head: the degree
abbrev pub labels_head_words : ℕ → List (List ℕ)
labels_head_words degree = codes "LABELS" ∷ decimal degree ∷ []

-- the lines behind those of the faces
abbrev pub lines_behind_faces : Denial → List (List (List ℕ))
lines_behind_faces denial = places_words denial.labelling.places ∷ word_words denial.first ∷ word_words denial.second ∷ []

-- the lines of a denial: the head, one for each face, the places, and the two words
abbrev pub denial_lines : Denial → List (List (List ℕ))
denial_lines denial = labels_head_words denial.labelling.degree ∷ (map face_words denial.labelling.faces ++ lines_behind_faces denial)

-- the text of a denial
abbrev pub denial_text : Denial → List ℕ
denial_text denial = flat_map line_of (denial_lines denial)

-- the lines up to the places: the text of a labelling, which private contracts cite alone
abbrev pub labelling_text : LabellingView → List ℕ
labelling_text labelling =
    line_of (labels_head_words labelling.degree)
    ++ (flat_map (λ face. line_of (face_words face)) labelling.faces ++ line_of (places_words labelling.places))

-- ---- denials that read back

-- numbers that the program has, of 32 bits
abbrev pub AreNumbers : List ℕ → Type 0
AreNumbers numbers = All (λ n. n < 2 ^ 32) numbers

-- a word over the degree: a point of integers of 64 bits where the degree is 4, and a turn word where it is not
abbrev pub FitsDegree : ℕ → Word → Type 0
FitsDegree degree (Turns entries) = (degree ≡ 4 → ⊥) × AreNumbers entries
FitsDegree degree (Flat x y) = (degree ≡ 4) × (fits_i64 x ≡ true) × (fits_i64 y ≡ true)

-- the numbers of a labelling are those of the program
pub record HasNumbers (labelling : LabellingView) : Type 0 where
  pub degree : labelling.degree < 2 ^ 32
  pub labels : All (λ face. AreNumbers face.labels) labelling.faces
  pub places : AreNumbers labelling.places

-- so are those of a word: integers of 64 bits in a point
abbrev pub AreWordNumbers : Word → Type 0
AreWordNumbers (Turns entries) = AreNumbers entries
AreWordNumbers (Flat x y) = (fits_i64 x ≡ true) × (fits_i64 y ≡ true)

-- a word is a point exactly where the degree is 4
abbrev pub HasForm : ℕ → Word → Type 0
HasForm degree (Turns entries) = degree ≡ 4 → ⊥
HasForm degree (Flat x y) = degree ≡ 4

-- each word of a denial is a point exactly where its degree is 4
pub record HasForms (denial : Denial) : Type 0 where
  pub first : HasForm denial.labelling.degree denial.first
  pub second : HasForm denial.labelling.degree denial.second

-- the words of a denial are points exactly where its degree is 4, and its numbers are those of the program
pub record ReadsBack (denial : Denial) : Type 0 where
  pub degree : denial.labelling.degree < 2 ^ 32
  pub labels : All (λ face. AreNumbers face.labels) denial.labelling.faces
  pub places : AreNumbers denial.labelling.places
  pub first : FitsDegree denial.labelling.degree denial.first
  pub second : FitsDegree denial.labelling.degree denial.second
