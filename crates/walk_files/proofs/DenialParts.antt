-- The parts of a denial that are written one after another.
use Rattle.walk_files.proofs.Common.{FaceLabels, LabellingView, labels_at, signs_of, Denial, ◌≡◌, ℕ, zero, suc, ◌+◌, ◌-◌, ◌^◌, ◌<◌, ◌≤◌, false, get_or, List, [], ◌∷◌, ◌++◌, length, drop, refl, sym, ap, ◌∙◌, append_assoc, inl, inr, arith, eq-or-lt_of_le, append-nil, All-cons, All-nil, flat_map-map, slice_get-get_or, Some, flat_map, slice_get, slice_index, decimal, line_of-numbers, spaced_number, is_flipped, line_of, Word, Turns, Flat, entry_words, face_words, places_words, word_words, labels_head_words, lines_behind_faces, labelling_text, denial_text, AreNumbers, HasNumbers, AreWordNumbers, HasForm, HasForms, FitsDegree, ReadsBack}
use Rattle.std.proofs.lemmas.List.Concat.{flat_map-append}
use Rattle.std.specs.Prelude.{map}

-- entry k of a turn word, behind the first
pub later_entry : (word : List ℕ) (k : ℕ) → 1 ≤ k → k < length word → slice_get (drop 1 word) (k - 1) ≡ Some (slice_index word k)
later_entry [] k later within = absurd (omega (arith, within))
later_entry (x ∷ word) k later within = at word (k - 1) k (omega (arith, later)) (omega (arith, within, later))
  where
    at : (word : List ℕ) (j k : ℕ) → k ≡ suc j → j < length word → slice_get word j ≡ Some (slice_index (x ∷ word) k)
    at word j k next within = slice_get-get_or word j 0 within ∙ ap (λ i. Some (slice_index (x ∷ word) i)) (sym next)

-- a word that has entries, as they are written: the first, and then the others
pub first_and_later : (word : List ℕ) → (word ≡ [] → ⊥)
    → decimal (slice_index word 0) ++ (flat_map spaced_number (drop 1 word) ++ 10 ∷ []) ≡ line_of (entry_words word)
first_and_later [] some = absurd (some refl)
first_and_later (entry ∷ entries) some = line_of-numbers (decimal entry) entries

-- face k of a labelling
pub face_of_labelling : (labelling : LabellingView) (k : ℕ) → k < length labelling.faces
    → slice_get labelling.faces k ≡ Some (record { flipped = is_flipped (signs_of labelling) k; labels = labels_at labelling k })
face_of_labelling labelling k within =
    let none : FaceLabels = record { flipped = false; labels = [] } in
    slice_get-get_or labelling.faces k none within
    ∙ ap (λ b. Some (record { flipped = b; labels = labels_at labelling k })) (sym (sign labelling.faces k))
  where
    sign : (faces : List FaceLabels) (k : ℕ)
        → get_or (map (λ (face : FaceLabels). face.flipped) faces) k false
        ≡ (get_or faces k (record { flipped = false; labels = [] })).flipped
    sign [] zero = refl
    sign [] (suc k) = refl
    sign (face ∷ faces) zero = refl
    sign (face ∷ faces) (suc k) = sign faces k

-- the text of a denial is that of its parts
pub denial_text-parts : (denial : Denial)
    → labelling_text denial.labelling ++ (line_of (word_words denial.first) ++ line_of (word_words denial.second)) ≡ denial_text denial
denial_text-parts denial =
    let head = line_of (labels_head_words denial.labelling.degree) in
    let faces = flat_map (λ (face : FaceLabels). line_of (face_words face)) denial.labelling.faces in
    let places = line_of (places_words denial.labelling.places) in
    let first = line_of (word_words denial.first) in
    let second = line_of (word_words denial.second) in
    append_assoc head (faces ++ places) (first ++ second)
    ∙ ap (λ t. head ++ t)
    (append_assoc faces places (first ++ second) ∙ ap (λ t. faces ++ (places ++ (first ++ t))) (sym (append-nil second))
    ∙ ap (λ t. t ++ (places ++ (first ++ (second ++ [])))) (sym (flat_map-map line_of face_words denial.labelling.faces))
    ∙ sym (flat_map-append line_of (map face_words denial.labelling.faces) (lines_behind_faces denial)))

-- ---- numbers

-- a word of the program's numbers that is a point exactly where the degree is 4
fits_degree : (degree : ℕ) (word : Word) → AreWordNumbers word → HasForm degree word → FitsDegree degree word
fits_degree degree (Turns entries) numbers form = (form, numbers)
fits_degree degree (Flat x y) numbers form = (form, numbers.0, numbers.1)

pub reads_back : (denial : Denial) → HasNumbers denial.labelling × AreWordNumbers denial.first × AreWordNumbers denial.second
    → HasForms denial
    → ReadsBack denial
reads_back denial numbers forms = record {
  degree = numbers.0.degree;
  labels = numbers.0.labels;
  places = numbers.0.places;
  first = fits_degree denial.labelling.degree denial.first numbers.1 forms.first;
  second = fits_degree denial.labelling.degree denial.second numbers.2 forms.second;
}

-- numbers that are small at each place
pub small_at_each : (numbers : List ℕ) → ((j : ℕ) → j < length numbers → slice_index numbers j < 2 ^ 32) → AreNumbers numbers
small_at_each [] small = All-nil (λ n. n < 2 ^ 32)
small_at_each (n ∷ numbers) small =
    All-cons (λ m. m < 2 ^ 32) n numbers (small 0 (omega arith)) (small_at_each numbers (λ j less. small (suc j) (omega (arith, less))))

-- one entry more is small
pub below_next : (word : List ℕ) (k n : ℕ) → ((j : ℕ) → 0 < j → j < k → slice_index word j < 2 ^ 32) → n ≡ slice_index word k → n < 2 ^ 32
    → (j : ℕ) → 0 < j → j < k + 1 → slice_index word j < 2 ^ 32
below_next word k n before is small j some less =
    let up_to : j ≤ k = omega (arith, less) in
    elim (eq-or-lt_of_le up_to) [
      | inl same ↦ rw same (omega (arith, is, small))
      | inr lower ↦ before j some lower
    ]

-- so are all, with the first
pub small_with_first : (word : List ℕ) (n : ℕ) → n ≡ slice_index word 0 → n < 2 ^ 32
    → ((j : ℕ) → 0 < j → j < length word → slice_index word j < 2 ^ 32) → AreNumbers word
small_with_first word n is small later = small_at_each word at
  where
    at : (j : ℕ) → j < length word → slice_index word j < 2 ^ 32
    at zero less = omega (arith, is, small)
    at (suc j) less = later (suc j) (omega arith) less
