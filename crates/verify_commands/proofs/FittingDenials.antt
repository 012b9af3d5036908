-- The numbers of a denial that holds are those of the program, and its words are points exactly where its degree is 4.
use Rattle.verify_commands.proofs.Common.{DenialHolds, IsGood, FaceLabels, LabellingView, tail_label, head_label, ◌≡◌, inl, inr, ℕ, ◌+◌, ◌^◌, ◌<◌, ◌≤◌, ◌&&◌, eqb, lit≤, true, false, List, [], ◌∷◌, length, length-append, get_or, refl, ap, subst, ◌∙◌, arith, ℤ, pos, negsuc, ◌+ℤ◌, ◌-ℤ◌, cases_Bool, lt-ltb, get_or_default, All, Option, Some, None, side_name, FaceList, FaceSide, AreNumbers, FitsDegree, ReadsBack, denial_text}
use Rattle.flat_forms.specs.Lemmas.StepsInThePlane.{right_one, up_one, left_one, down_one, is-unit}
use Rattle.flat_forms.specs.Pairs.{sum_of_pairs}
use Rattle.flat_forms.specs.Vectors.{unit_step}
use Rattle.labellings.specs.QuadPaths.{quad_path, side_from, spokes, spokes_by_labels, spokes_of_sides}
use Rattle.labellings.specs.WalkWords.{in_pairs, IsWordOf}
use Rattle.labellings.specs.declared.denial.Denial.{Denial}
use Rattle.std.proofs.lemmas.Int.{ints}
use Rattle.text_scan.specs.Numbers.{fits_i64}
use Rattle.turn_words.specs.declared.word.Word.{Word}
use Rattle.turn_words.specs.declared.word.Word.TheVariants.{Turns, Flat}
use Rattle.verify_commands.proofs.TextLengths.{places_below}

-- ---- how far some steps lead

-- an integer that so many ones up and so many down give
record IsWithin (most : ℕ) (z : ℤ) : Type 0 where
  up : ℕ
  down : ℕ
  is : z ≡ pos up -ℤ pos down
  few_up : up ≤ most
  few_down : down ≤ most

within : (most up down : ℕ) (z : ℤ) → z ≡ pos up -ℤ pos down → up ≤ most → down ≤ most → IsWithin most z
within most up down z is few_up few_down = record { up = up; down = down; is = is; few_up = few_up; few_down = few_down }

-- both numbers of a step
unit_within : (spoke : ℕ) → IsWithin 1 (unit_step spoke).x × IsWithin 1 (unit_step spoke).y
unit_within spoke = elim (is-unit spoke) [
  | right_one a b ↦ (within 1 1 0 _ a (lit≤ tt) (lit≤ tt), within 1 0 0 _ b (lit≤ tt) (lit≤ tt))
  | up_one a b ↦ (within 1 0 0 _ a (lit≤ tt) (lit≤ tt), within 1 1 0 _ b (lit≤ tt) (lit≤ tt))
  | left_one a b ↦ (within 1 0 1 _ a (lit≤ tt) (lit≤ tt), within 1 0 0 _ b (lit≤ tt) (lit≤ tt))
  | down_one a b ↦ (within 1 0 0 _ a (lit≤ tt) (lit≤ tt), within 1 0 1 _ b (lit≤ tt) (lit≤ tt))
]

pair_within : (most : ℕ) (a b s : ℤ) → IsWithin 1 a → IsWithin 1 b → IsWithin most s → IsWithin (most + 2) ((a -ℤ b) +ℤ s)
pair_within most a b s h k l =
    within (most + 2) (h.up + k.down + l.up) (h.down + k.up + l.down) _ (omega (arith, ints, h.is, k.is, l.is))
    (omega (arith, h.few_up, k.few_down, l.few_up)) (omega (arith, h.few_down, k.few_up, l.few_down))

sum_within : (pairs : List (ℕ × ℕ))
    → IsWithin (length pairs + length pairs) (sum_of_pairs pairs).x × IsWithin (length pairs + length pairs) (sum_of_pairs pairs).y
sum_within [] = (within 0 0 0 (pos 0) refl (lit≤ tt) (lit≤ tt), within 0 0 0 (pos 0) refl (lit≤ tt) (lit≤ tt))
sum_within (pair ∷ pairs) =
    let most : ℕ = length pairs + length pairs in
    let more : most + 2 ≡ length (pair ∷ pairs) + length (pair ∷ pairs) = omega arith in
    let one = unit_within pair.0 in
    let other = unit_within pair.1 in
    let rest = sum_within pairs in (
      subst (λ (n : ℕ). IsWithin n (sum_of_pairs (pair ∷ pairs)).x) more
          (pair_within most (unit_step pair.0).x (unit_step pair.1).x (sum_of_pairs pairs).x one.0 other.0 rest.0),
      subst (λ (n : ℕ). IsWithin n (sum_of_pairs (pair ∷ pairs)).y) more
          (pair_within most (unit_step pair.0).y (unit_step pair.1).y (sum_of_pairs pairs).y one.1 other.1 rest.1),
    )

fits_within : (most : ℕ) (z : ℤ) → IsWithin most z → most < 2 ^ 63 → fits_i64 z ≡ true
fits_within most (pos n) h few =
    let below : n ≤ h.up = omega (arith, ints, h.is) in
    lt-ltb n (2 ^ 63) (omega (arith, below, h.few_up, few))
fits_within most (negsuc n) h few =
    let below : n + 1 ≤ h.down = omega (arith, ints, h.is) in
    lt-ltb n (2 ^ 63) (omega (arith, below, h.few_down, few))

-- ---- how many spokes a walk has

labels_few : (a b c d : ℕ) → length (spokes_by_labels a b c d) ≤ 2
labels_few a b c d = elim (cases_Bool (eqb a b && eqb c d)) [
  | inl tree ↦ rw tree (lit≤ tt)
  | inr other ↦ rw other (lit≤ tt)
]

spokes_few : (mesh : FaceList) (labelling : LabellingView) (side other : Option FaceSide)
    → length (spokes_of_sides mesh labelling side other) ≤ 2
spokes_few mesh labelling None other = lit≤ tt
spokes_few mesh labelling (Some x) None = lit≤ tt
spokes_few mesh labelling (Some x) (Some y) =
    labels_few (tail_label mesh labelling (side_name x)) (head_label mesh labelling (side_name x)) (tail_label mesh labelling (side_name y))
    (head_label mesh labelling (side_name y))

path_few : (mesh : FaceList) (labelling : LabellingView) (walk : List ℕ)
    → length (quad_path mesh labelling walk) ≤ length walk + length walk
path_few mesh labelling [] = omega arith
path_few mesh labelling (u ∷ []) = omega arith
path_few mesh labelling (u ∷ v ∷ walk) =
    omega (
      arith,
      path_few mesh labelling (v ∷ walk),
      spokes_few mesh labelling (side_from mesh labelling u v) (side_from mesh labelling v u),
      length-append (spokes mesh labelling u v) (quad_path mesh labelling (v ∷ walk)),
    )

pairs_few : (spokes : List ℕ) → length (in_pairs spokes) ≤ length spokes
pairs_few [] = omega arith
pairs_few (spoke ∷ []) = omega arith
pairs_few (spoke ∷ other ∷ spokes) = omega (arith, pairs_few spokes)

-- ---- the word of a walk

word_fits : (mesh : FaceList) (labelling : LabellingView) (walk : List ℕ) (word : Word) → IsWordOf mesh labelling walk word
    → labelling.degree < 2 ^ 32 → length walk < 2 ^ 32 → FitsDegree labelling.degree word
word_fits mesh labelling walk (Turns entries) is small short =
    (λ four. omega (arith, is.0, four), λ i d l. omega (arith, small, is.1.is_canonical.in_range i d l))
word_fits mesh labelling walk (Flat x y) is small short =
    let pairs : List (ℕ × ℕ) = in_pairs (quad_path mesh labelling walk) in
    let both = sum_within pairs in
    let few : length pairs + length pairs < 2 ^ 63 =
    omega (arith, pairs_few (quad_path mesh labelling walk), path_few mesh labelling walk, short) in (
      is.0,
      ap fits_i64 (ap (λ v. v.x) is.1) ∙ fits_within (length pairs + length pairs) (sum_of_pairs pairs).x both.0 few,
      ap fits_i64 (ap (λ v. v.y) is.1) ∙ fits_within (length pairs + length pairs) (sum_of_pairs pairs).y both.1 few,
    )

-- ---- the labelling

labels_fit : (mesh : FaceList) (labelling : LabellingView) → IsGood mesh labelling → labelling.degree < 2 ^ 32
    → All (λ (face : FaceLabels). AreNumbers face.labels) labelling.faces
labels_fit mesh labelling good small i d l =
    let none : FaceLabels = record { flipped = false; labels = [] } in
    let below = good.shape.labels_below i (omega (arith, l, good.shape.each_face)) in
    let here : AreNumbers (get_or labelling.faces i none).labels = λ j e k. omega (arith, small, below j e k) in
    subst (λ (face : FaceLabels). AreNumbers face.labels) (get_or_default labelling.faces i none d l) here

pub denial_fits : (mesh : FaceList) (first second : List ℕ) (denial : Denial) → DenialHolds mesh first second denial
    → length (denial_text denial) < 2 ^ 32 → length first < 2 ^ 32 → length second < 2 ^ 32 → ReadsBack denial
denial_fits mesh first second denial h short few_first few_second =
    let shape = h.good.shape in
    let small : denial.labelling.degree < 2 ^ 32 = omega (arith, short, places_below denial, shape.each_spoke) in
    record {
      degree = small;
      labels = labels_fit mesh denial.labelling h.good small;
      places = λ i d l. omega (arith, small, shape.places_below i d l);
      first = word_fits mesh denial.labelling first denial.first h.first_word small few_first;
      second = word_fits mesh denial.labelling second denial.second h.second_word small few_second;
    }
