-- The laws of the form for the degree 4.
use Rattle.std.proofs.Common.{◌≡◌, ℕ, ◌<◌, inl, inr, arith, refl, sym, ◌∙◌, ap, ap₂, List, slice_index, ℤ}
use Rattle.std.proofs.lemmas.Bool.{cases_eq}
use Rattle.std.proofs.lemmas.Int.{ints}
use Rattle.turn_words.specs.Modulo.{add, minus}
use Rattle.turn_words.specs.FormLaws.{IsQuad, StartsWell, StaysWell, ThereAndBack, AcrossQuads}
use Rattle.turn_words.specs.Lemmas.Sums.{add-cases, add-lt}
use Rattle.flat_forms.specs.Vectors.{Vector, origin, plus, less, unit_step}
use Rattle.flat_forms.specs.FlatStates.{parity, IsEvenPoint, IsFlatWheel, flat_next, size_of}
use Rattle.flat_forms.specs.Lemmas.StepsInThePlane.{is-unit, parity-less, less-plus, plus-less, size-plus, size-less, next-even, next-odd, next-next, vertex-again}

pub flat_starts : StartsWell IsFlatWheel (λ places _. IsFlatWheel places) IsEvenPoint size_of origin
flat_starts = record { belongs = λ places own. own; at_vertex = refl; size_zero = refl }

pub flat_stays : StaysWell (λ places _. IsFlatWheel places) IsEvenPoint size_of flat_next
flat_stays = record {
  belongs = λ places s i own below. own;
  at_vertex = λ places s i j own even i_below j_below. rw (next-next places s i j even) (vertex-again s i j even);
  size_grows = λ places s i own below. elim (cases_eq (parity s) 0) [
    | inl even ↦ rw (next-even places s i even) (size-plus s (unit_step i) (is-unit i))
    | inr odd ↦ rw (next-odd places s i odd) (size-less s (unit_step i) (is-unit i))
  ];
}

pub flat_there_and_back : ThereAndBack (λ places _. IsFlatWheel places) flat_next
flat_there_and_back places s i own below = elim (cases_eq (parity s) 0) [
  | inl even ↦ next-next places s i i even ∙ less-plus s (unit_step i)
  | inr odd ↦
      let turned = parity-less s (unit_step i) (is-unit i) in
      let even : IsEvenPoint (less s (unit_step i)) = omega arith in
      ap (λ z. flat_next places z i) (next-odd places s i odd) ∙ next-even places (less s (unit_step i)) i even ∙ plus-less s (unit_step i)
]

-- the second spoke of a quad is the one across
across-is : (places : List ℕ) (a c : ℕ) → IsFlatWheel places → IsQuad places a c → c ≡ add 4 (add 4 a 1) 1
unfolding minus
across-is places a c w q =
    let a_below : a < 4 = rw (w.four) at q.a_below in
    let c_below : c < 4 = rw (w.four) at q.c_below in
    let next_below : add 4 a 1 < 4 = add-lt 4 a 1 a_below (omega arith) in
    let far_below : add 4 (add 4 a 1) 1 < 4 = add-lt 4 (add 4 a 1) 1 next_below (omega arith) in
    let side : slice_index places (add 4 c 1) ≡ add 4 (slice_index places a) 3 = rw (w.four) at q.a_place in
    let up_c = w.rises c c_below in
    let up_a = w.rises a a_below in
    let up_far = w.rises (add 4 a 1) next_below in
    let p_a : slice_index places a < 4 = rw (w.four) at (w.wheel.inside a q.a_below) in
    let p_c : slice_index places c < 4 = rw (w.four) at (w.wheel.inside c q.c_below) in
    let same : slice_index places c ≡ slice_index places (add 4 (add 4 a 1) 1) = omega (
      arith,
      add-cases 4 (slice_index places c) 1,
      add-cases 4 (slice_index places a) 1,
      add-cases 4 (slice_index places a) 3,
      add-cases 4 (slice_index places (add 4 a 1)) 1,
    ) in
    w.wheel.once c (add 4 (add 4 a 1) 1) q.c_below (omega (arith, w.four)) same

abbrev vector : ℤ → ℤ → Vector
vector x y = record { x = x; y = y }

-- the two sides of each of the four quads
module _ (s : Vector) where
  round-right : less (plus s (unit_step 0)) (unit_step 1) ≡ less (plus s (unit_step 3)) (unit_step 2)
  round-right = ap₂ vector (omega (arith, ints)) (omega (arith, ints))

  round-up : less (plus s (unit_step 1)) (unit_step 2) ≡ less (plus s (unit_step 0)) (unit_step 3)
  round-up = ap₂ vector (omega (arith, ints)) (omega (arith, ints))

  round-left : less (plus s (unit_step 2)) (unit_step 3) ≡ less (plus s (unit_step 1)) (unit_step 0)
  round-left = ap₂ vector (omega (arith, ints)) (omega (arith, ints))

  round-down : less (plus s (unit_step 3)) (unit_step 0) ≡ less (plus s (unit_step 2)) (unit_step 1)
  round-down = ap₂ vector (omega (arith, ints)) (omega (arith, ints))

  round : (a c : ℕ) → a < 4 → c ≡ add 4 (add 4 a 1) 1 →
      less (plus s (unit_step a)) (unit_step (add 4 a 1)) ≡ less (plus s (unit_step (add 4 c 1))) (unit_step c)
  unfolding add
  round a c below e = elim (cases_eq a 0) [
    | inl is ↦ rw (e, is) round-right
    | inr not_zero ↦ elim (cases_eq a 1) [
      | inl is ↦ rw (e, is) round-up
      | inr not_one ↦ elim (cases_eq a 2) [
        | inl is ↦ rw (e, is) round-left
        | inr not_two ↦ let is : a ≡ 3 = omega arith in rw (e, is) round-down
      ]
    ]
  ]

pub flat_across : AcrossQuads (λ places _. IsFlatWheel places) IsEvenPoint flat_next
flat_across places s a c own even quad =
    let a_below : a < 4 = rw (own.four) at quad.a_below in
    rw (own.four) (
    next-next places s a (add 4 a 1) even ∙ round s a c a_below (across-is places a c own quad)
    ∙ sym (next-next places s (add 4 c 1) c even)
    )
