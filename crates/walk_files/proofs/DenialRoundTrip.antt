-- A denial that was written is read again.
use Rattle.walk_files.proofs.Common.{FaceLabels, Denial, ◌≡◌, ℕ, ◌+◌, ◌^◌, ◌<◌, ◌==◌, Bool, true, false, List, [], ◌∷◌, ◌++◌, map, refl, ap, sym, subst, ◌∙◌, arith, append_assoc, and_parts, ne_eqb, append-nil, All-head, All-tail, All-cons, All-nil, All-append, All-map, All-weaker, list_all, Some, None, Ok, Result, decimal, codes, cond, All, bytes_eq, IsWritable, IsLine, decimal_is, numbered, lines_from-written, number-writable, number-read, decimals-writable, numbers-read, integer-writable, integer-read, each_some, unmarked, lines_from, full_lines, end_line, is_digit, number_of, line_of, Word, Turns, Flat, cert_head_of, head_among, behind_head, head_of_text, fitting_head, sign_word, face_words, places_words, entry_words, word_words, labels_head_words, lines_behind_faces, denial_lines, denial_text, AreNumbers, FitsDegree, ReadsBack, sign_of, face_labels_of, is_places, word_of, denial_in, unlabelled, denial_behind, denial_of_text, entries_of, Different, Labels, CertFault}
use Rattle.std.specs.Fmt.{signed_decimal}

-- ---- the words that are written

sign-writable : (flipped : Bool) → IsWritable (sign_word flipped)
sign-writable true = record { filled = refl; inside = refl }
sign-writable false = record { filled = refl; inside = refl }

face-line : (face : FaceLabels) → AreNumbers face.labels → IsLine (face_words face)
face-line face small = record {
  filled = refl;
  writable = All-cons IsWritable (sign_word face.flipped) (map decimal face.labels) (sign-writable face.flipped)
      (decimals-writable face.labels small);
}

places-line : (places : List ℕ) → AreNumbers places → IsLine (places_words places)
places-line places small = record {
  filled = refl;
  writable = All-cons IsWritable (codes "places") (map decimal places) (record { filled = refl; inside = refl })
      (decimals-writable places small);
}

word-line : (degree : ℕ) (word : Word) → FitsDegree degree word → IsLine (word_words word)
word-line degree (Turns []) fits =
    record {
      filled = refl;
      writable = All-cons IsWritable (codes "empty") [] (record { filled = refl; inside = refl }) (All-nil IsWritable);
    }
word-line degree (Turns (entry ∷ entries)) fits = record { filled = refl; writable = decimals-writable (entry ∷ entries) fits.1 }
word-line degree (Flat x y) fits = record {
  filled = refl;
  writable =
      All-cons IsWritable (signed_decimal x) (signed_decimal y ∷ []) (integer-writable x fits.1)
      (All-cons IsWritable (signed_decimal y) [] (integer-writable y fits.2) (All-nil IsWritable));
}

-- ---- what is read of them

sign-read : (flipped : Bool) → sign_of (sign_word flipped) ≡ Some flipped
sign-read true = refl
sign-read false = refl

face-read : (face : FaceLabels) → AreNumbers face.labels → face_labels_of (face_words face) ≡ Some face
face-read face small = rw (sign-read face.flipped, numbers-read face.labels small) refl

no_places : (face : FaceLabels) → is_places (face_words face) ≡ false
no_places face = by_sign face.flipped
  where
    by_sign : (flipped : Bool) → bytes_eq (sign_word flipped) (codes "places") ≡ false
    by_sign true = refl
    by_sign false = refl

-- digits are not the word `empty`
digits-no_empty : (word : List ℕ) → list_all is_digit word ≡ true → bytes_eq word (codes "empty") ≡ false
digits-no_empty [] digits = refl
digits-no_empty (byte ∷ word) digits =
    let first = (and_parts (is_digit byte) (list_all is_digit word) digits).0 in
    not_e byte first
  where
    not_e : (byte : ℕ) → is_digit byte ≡ true → bytes_eq (byte ∷ word) (codes "empty") ≡ false
    not_e byte digit = let other : (byte == 101) ≡ false = grind (arith, digit) in rw other refl

entries-read : (entries : List ℕ) → AreNumbers entries → entries_of (entry_words entries) ≡ Some entries
entries-read [] small = refl
entries-read (entry ∷ []) small =
    let fits : entry < 2 ^ 32 = All-head (λ m. m < 2 ^ 32) entry [] small in
    let digits = (decimal_is entry (omega (arith, fits))).all in
    ap (λ b. cond b (Some []) (each_some number_of (decimal entry ∷ []))) (digits-no_empty (decimal entry) digits)
    ∙ numbers-read (entry ∷ []) small
entries-read (entry ∷ next ∷ entries) small = numbers-read (entry ∷ next ∷ entries) small

word-read : (degree : ℕ) (word : Word) → FitsDegree degree word → word_of degree (word_words word) ≡ Some word
word-read degree (Turns entries) fits = rw (ne_eqb degree 4 fits.0, entries-read entries fits.1) refl
word-read degree (Flat x y) fits = subst (λ d. word_of d (word_words (Flat x y)) ≡ Some (Flat x y)) (sym fits.0)
    (rw (integer-read x fits.1, integer-read y fits.2) refl)

-- ---- the lines

words-read : (end n degree : ℕ) (denial : Denial) (faces : List FaceLabels) → ReadsBack denial → faces ≡ denial.labelling.faces
    → denial_in end (record { degree = denial.labelling.degree; faces = faces; places = [] }) (numbered n (lines_behind_faces denial))
    ≡ Ok denial
words-read end n degree denial faces back same =
    rw (
      numbers-read denial.labelling.places back.places,
      word-read denial.labelling.degree denial.first back.first,
      word-read denial.labelling.degree denial.second back.second,
      same,
    ) refl

faces-read : (end n : ℕ) (denial : Denial) (done faces : List FaceLabels) → ReadsBack denial → All (λ face. AreNumbers face.labels) faces
    → done ++ faces ≡ denial.labelling.faces
    → denial_in end (record { degree = denial.labelling.degree; faces = done; places = [] })
    (numbered n (map face_words faces ++ lines_behind_faces denial))
    ≡ Ok denial
faces-read end n denial done [] back small whole = words-read end n denial.labelling.degree denial done back (sym (append-nil done) ∙ whole)
faces-read end n denial done (face ∷ faces) back small whole =
    let here : AreNumbers face.labels = All-head (λ (f : FaceLabels). AreNumbers f.labels) face faces small in
    rw (no_places face, face-read face here)
    (faces-read end (n + 1) denial (done ++ face ∷ []) faces back (All-tail (λ (f : FaceLabels). AreNumbers f.labels) face faces small)
    (append_assoc done (face ∷ []) faces ∙ whole))

-- ---- the whole text

faces-lines : (denial : Denial) → ReadsBack denial → All IsLine (map face_words denial.labelling.faces ++ lines_behind_faces denial)
faces-lines denial back =
    let faces : List FaceLabels = denial.labelling.faces in
    All-append IsLine (map face_words faces) (lines_behind_faces denial)
    (All-map IsLine face_words faces
    (All-weaker (λ (face : FaceLabels). AreNumbers face.labels) (λ (face : FaceLabels). IsLine (face_words face)) face-line faces
    back.labels))
    (All-cons IsLine (places_words denial.labelling.places) (word_words denial.first ∷ word_words denial.second ∷ [])
    (places-line denial.labelling.places back.places)
    (All-cons IsLine (word_words denial.first) (word_words denial.second ∷ []) (word-line denial.labelling.degree denial.first back.first)
    (All-cons IsLine (word_words denial.second) [] (word-line denial.labelling.degree denial.second back.second) (All-nil IsLine))))

head-line : (degree : ℕ) → degree < 2 ^ 32 → IsLine (labels_head_words degree)
head-line degree fits = record {
  filled = refl;
  writable =
      All-cons IsWritable (codes "LABELS") (decimal degree ∷ []) (record { filled = refl; inside = refl })
      (All-cons IsWritable (decimal degree) [] (number-writable degree fits) (All-nil IsWritable));
}

head-read : (degree : ℕ) → degree < 2 ^ 32 → cert_head_of (labels_head_words degree) ≡ Some (Labels degree)
head-read degree fits = rw (number-read degree fits) refl

unmarked-denial_text : (denial : Denial) → unmarked (denial_text denial) ≡ denial_text denial
unfolding unmarked
unmarked-denial_text denial = refl

full_lines-denial_text : (denial : Denial) → ReadsBack denial
    → full_lines (denial_text denial)
    ≡ record { number = 1; words = labels_head_words denial.labelling.degree }
    ∷ numbered 2 (map face_words denial.labelling.faces ++ lines_behind_faces denial)
full_lines-denial_text denial back =
    ap (lines_from 1) (unmarked-denial_text denial)
    ∙ lines_from-written 1 (denial_lines denial)
    (All-cons IsLine (labels_head_words denial.labelling.degree) (map face_words denial.labelling.faces ++ lines_behind_faces denial)
    (head-line denial.labelling.degree back.degree) (faces-lines denial back))

pub denial_of_text-denial_text : (denial : Denial) → ReadsBack denial → denial_of_text (denial_text denial) ≡ Some (Ok denial)
denial_of_text-denial_text denial back =
    let lines = full_lines-denial_text denial back in
    let end = end_line (denial_text denial) in
    let degree = denial.labelling.degree in
    let head : head_of_text (denial_text denial) ≡ Ok (Labels degree) =
    ap (head_among end) lines ∙ ap (fitting_head None 1) (head-read degree back.degree) in
    ap (λ h. denial_behind h (denial_text denial)) head
    ∙ ap (λ ls. Some (denial_in end (unlabelled degree) (behind_head ls))) lines
    ∙ ap (λ (r : Result Denial CertFault). Some r) (faces-read end 2 denial [] denial.labelling.faces back back.labels refl)

-- ---- and behind the line of its answer

-- that line, which has one word
abbrev answer_words : List (List ℕ)
answer_words = codes "different" ∷ []

answer-line : IsLine answer_words
answer-line = record {
  filled = refl;
  writable = All-cons IsWritable (codes "different") [] (record { filled = refl; inside = refl })
      (All-nil IsWritable);
}

abbrev answered_text : Denial → List ℕ
answered_text denial = line_of answer_words ++ denial_text denial

unmarked-answered : (denial : Denial) → unmarked (answered_text denial) ≡ answered_text denial
unfolding unmarked
unmarked-answered denial = refl

full_lines-answered : (denial : Denial) → ReadsBack denial
    → full_lines (answered_text denial)
    ≡ record { number = 1; words = answer_words } ∷ record { number = 2; words = labels_head_words denial.labelling.degree }
    ∷ numbered 3 (map face_words denial.labelling.faces ++ lines_behind_faces denial)
full_lines-answered denial back =
    let behind = map face_words denial.labelling.faces ++ lines_behind_faces denial in
    ap (lines_from 1) (unmarked-answered denial)
    ∙ lines_from-written 1 (answer_words ∷ denial_lines denial)
    (All-cons IsLine answer_words (denial_lines denial) answer-line
    (All-cons IsLine (labels_head_words denial.labelling.degree) behind (head-line denial.labelling.degree back.degree)
    (faces-lines denial back)))

pub denial_of_text-answered : (denial : Denial) → ReadsBack denial → denial_of_text (answered_text denial) ≡ Some (Ok denial)
denial_of_text-answered denial back =
    let lines = full_lines-answered denial back in
    let end = end_line (answered_text denial) in
    let degree = denial.labelling.degree in
    let head : head_of_text (answered_text denial) ≡ Ok (Labels degree) =
    ap (head_among end) lines ∙ ap (fitting_head (Some Different) 2) (head-read degree back.degree) in
    ap (λ h. denial_behind h (answered_text denial)) head
    ∙ ap (λ ls. Some (denial_in end (unlabelled degree) (behind_head ls))) lines
    ∙ ap (λ (r : Result Denial CertFault). Some r) (faces-read end 3 denial [] denial.labelling.faces back back.labels refl)
