-- Sums along walks: of parts, of a part put in another's place, and of the ways round a face.
use Rattle.homology.proofs.Common.{along, round, ◌≡◌, inl, inr, ℕ, zero, suc, ◌+◌, ◌-◌, ◌<◌, ◌≤◌, Bool, true, false, List, [], ◌∷◌, ◌++◌, length, get_or, refl, ap, sym, ◌∙◌, arith, ℤ, pos, ◌+ℤ◌, ◌-ℤ◌, cases_lt, nat_tests, ints, neg_ℤ, AreAlike, at_first, at_last, next_corner, corners_from}

-- up to an entry, and from there on
pub along-join : (number : ℕ → ℕ → ℤ) (front rest : List ℕ) (x : ℕ)
    → along number (front ++ (x ∷ rest)) ≡ along number (front ++ x ∷ []) +ℤ along number (x ∷ rest)
along-join number [] rest x = omega (arith, ints)
along-join number (a ∷ []) rest x = omega (arith, ints)
along-join number (a ∷ b ∷ front) rest x =
    let more = along-join number (b ∷ front) rest x in
    omega (arith, ints, more)

-- a part put in the place of one with the same ends changes the sum by what the two differ by
pub along-part : (number : ℕ → ℕ → ℤ) (before part other after : List ℕ) → AreAlike part other
    → along number (before ++ part ++ after) -ℤ along number (before ++ other ++ after) ≡ along number part -ℤ along number other
along-part number before part other after a =
    let whole : (piece rest front : List ℕ) → piece ≡ a.first ∷ rest → piece ≡ front ++ a.last ∷ []
    → along number (before ++ piece ++ after)
    ≡ along number (before ++ a.first ∷ []) +ℤ (along number piece +ℤ along number (a.last ∷ after)) =
    λ piece rest front begins ends.
    ap (along number) (at_first before piece after rest a.first begins)
    ∙ along-join number before (rest ++ after) a.first
    ∙ ap (λ z. along number (before ++ a.first ∷ []) +ℤ z)
    (ap (along number) (sym (at_first [] piece after rest a.first begins) ∙ at_last [] piece after front a.last ends)
    ∙ along-join number front after a.last
    ∙ ap (λ (w : List ℕ). along number w +ℤ along number (a.last ∷ after)) (sym ends)) in
    let one = whole part a.part_rest a.part_front a.part_begins a.part_ends in
    let two = whole other a.other_rest a.other_front a.other_begins a.other_ends in
    omega (arith, ints, one, two)

-- the number of a dart back is the opposite
pub record IsOpposite (number : ℕ → ℕ → ℤ) : Type 0 where
  pub back : (u v : ℕ) → number v u ≡ neg_ℤ (number u v)

module _ (number : ℕ → ℕ → ℤ) (ring : List ℕ) where
  -- the number of side t of the ring
  abbrev pub side_number_at : ℕ → ℤ
  side_number_at t = number (get_or ring t 0) (get_or ring (next_corner true (length ring) t) 0)

  -- the sum of the first sides
  abbrev pub first_sides : ℕ → ℤ
  first_sides zero = pos 0
  first_sides (suc t) = first_sides t +ℤ side_number_at t

  at_place : (s t : ℕ) → s ≡ t → first_sides s ≡ first_sides t
  at_place s t e = ap first_sides e

  more_sides : (t : ℕ) → first_sides (suc t) ≡ first_sides t +ℤ side_number_at t
  more_sides t = refl

  -- one step, and then the others
  step : (a t k : ℕ) (rising : Bool)
      → along number (a ∷ corners_from ring rising t k) ≡ number a (get_or ring t 0) +ℤ along number (corners_from ring rising t k)
  step a t zero rising = refl
  step a t (suc k) rising = refl

  -- from a corner on, to one that is not yet round
  pub up : (c k : ℕ) → c < length ring → c + k ≤ length ring
      → along number (corners_from ring true c k) ≡ first_sides (c + k) -ℤ first_sides c
  up c zero l h = grind arith
  up c (suc zero) l h = grind arith
  up c (suc (suc k)) l h =
      let next : next_corner true (length ring) c ≡ suc c = grind (arith, nat_tests) in
      let more : along number (corners_from ring true (suc c) (suc k)) ≡ first_sides (suc c + suc k) -ℤ first_sides (suc c) =
      up (suc c) (suc k) (omega arith) (omega arith) in
      let here = step (get_or ring c 0) (next_corner true (length ring) c) (suc k) true in
      let there : along number (corners_from ring true (next_corner true (length ring) c) (suc k))
      ≡ along number (corners_from ring true (suc c) (suc k)) = ap (λ t. along number (corners_from ring true t (suc k))) next in
      let same : first_sides (suc c + suc k) ≡ first_sides (c + suc (suc k)) = at_place (suc c + suc k) (c + suc (suc k)) (omega arith) in
      here ∙ omega (arith, ints, there, more, same, more_sides c)

  -- to one that is past the last corner
  pub around : (c k : ℕ) → c < length ring → k ≤ length ring → length ring ≤ c + k
      → along number (corners_from ring true c k) ≡ first_sides (length ring) -ℤ first_sides c +ℤ first_sides (c + k - length ring)
  around c zero l h past = absurd (omega arith)
  around c (suc k) l h past = elim (cases_lt (suc c) (length ring)) [
    | inl within ↦
        let next : next_corner true (length ring) c ≡ suc c = grind (arith, nat_tests) in
        let more : along number (corners_from ring true (suc c) k)
        ≡ first_sides (length ring) -ℤ first_sides (suc c) +ℤ first_sides (suc c + k - length ring) =
        around (suc c) k within (omega arith) (omega arith) in
        let here = step (get_or ring c 0) (next_corner true (length ring) c) k true in
        let there : along number (corners_from ring true (next_corner true (length ring) c) k)
        ≡ along number (corners_from ring true (suc c) k) = ap (λ t. along number (corners_from ring true t k)) next in
        let same : first_sides (suc c + k - length ring) ≡ first_sides (c + suc k - length ring) =
        at_place (suc c + k - length ring) (c + suc k - length ring) (omega arith) in
        here ∙ omega (arith, ints, there, more, same, more_sides c)
    | inr last ↦
        let next : next_corner true (length ring) c ≡ 0 = grind (arith, nat_tests) in
        let more : along number (corners_from ring true 0 k) ≡ first_sides (0 + k) -ℤ first_sides 0 =
        up 0 k (omega arith) (omega arith) in
        let here = step (get_or ring c 0) (next_corner true (length ring) c) k true in
        let there : along number (corners_from ring true (next_corner true (length ring) c) k)
        ≡ along number (corners_from ring true 0 k) = ap (λ t. along number (corners_from ring true t k)) next in
        let same : first_sides (0 + k) ≡ first_sides (c + suc k - length ring) = at_place (0 + k) (c + suc k - length ring) (omega arith) in
        let all : first_sides (suc c) ≡ first_sides (length ring) = at_place (suc c) (length ring) (omega arith) in
        here ∙ omega (arith, ints, there, more, same, all, more_sides c)
  ]

  module _ (opposite : IsOpposite number) where
    -- the dart back along a side
    back : (c d : ℕ) → next_corner true (length ring) d ≡ c
        → number (get_or ring c 0) (get_or ring d 0) ≡ neg_ℤ (side_number_at d)
    back c d e = grind arith

    -- the other way round, to a corner before the first, or to one past it
    pub down : (c k : ℕ) → c < length ring → k ≤ c
        → along number (corners_from ring false c k) ≡ first_sides (c - k) -ℤ first_sides c
    down c zero l h = grind arith
    down zero (suc k) l h = absurd (omega arith)
    down (suc c) (suc k) l h =
        let next : next_corner false (length ring) (suc c) ≡ c = grind (arith, nat_tests) in
        let again : next_corner true (length ring) c ≡ suc c = grind (arith, nat_tests) in
        let more : along number (corners_from ring false c k) ≡ first_sides (c - k) -ℤ first_sides c =
        down c k (omega arith) (omega arith) in
        let here = step (get_or ring (suc c) 0) (next_corner false (length ring) (suc c)) k false in
        let there : number (get_or ring (suc c) 0) (get_or ring (next_corner false (length ring) (suc c)) 0)
        +ℤ along number (corners_from ring false (next_corner false (length ring) (suc c)) k)
        ≡ number (get_or ring (suc c) 0) (get_or ring c 0) +ℤ along number (corners_from ring false c k) = grind (arith, along) in
        let same : first_sides (suc c - suc k) ≡ first_sides (c - k) = at_place (suc c - suc k) (c - k) (omega arith) in
        here ∙ there ∙ omega (arith, ints, more, same, back (suc c) c again, more_sides c)

    pub down_past : (c k : ℕ) → c < length ring → k ≤ length ring → c < k
        → along number (corners_from ring false c k) ≡ first_sides (c + length ring - k) -ℤ first_sides c -ℤ first_sides (length ring)
    down_past c zero l h past = absurd (omega arith)
    down_past zero (suc k) l h past =
        let last : ℕ = length ring - 1 in
        let again : next_corner true (length ring) last ≡ 0 = grind (arith, nat_tests) in
        let more : along number (corners_from ring false last k) ≡ first_sides (last - k) -ℤ first_sides last =
        down last k (omega arith) (omega arith) in
        let here = step (get_or ring 0 0) (next_corner false (length ring) 0) k false in
        let there : number (get_or ring 0 0) (get_or ring (next_corner false (length ring) 0) 0)
        +ℤ along number (corners_from ring false (next_corner false (length ring) 0) k)
        ≡ number (get_or ring 0 0) (get_or ring last 0) +ℤ along number (corners_from ring false last k) = grind (arith, along) in
        let same : first_sides (last - k) ≡ first_sides (0 + length ring - suc k) =
        at_place (last - k) (0 + length ring - suc k) (omega arith) in
        let all : first_sides (suc last) ≡ first_sides (length ring) = at_place (suc last) (length ring) (omega arith) in
        here ∙ there ∙ omega (arith, ints, more, same, all, back 0 last again, more_sides last)
    down_past (suc c) (suc k) l h past =
        let next : next_corner false (length ring) (suc c) ≡ c = grind (arith, nat_tests) in
        let again : next_corner true (length ring) c ≡ suc c = grind (arith, nat_tests) in
        let more : along number (corners_from ring false c k)
        ≡ first_sides (c + length ring - k) -ℤ first_sides c -ℤ first_sides (length ring) =
        down_past c k (omega arith) (omega arith) (omega arith) in
        let here = step (get_or ring (suc c) 0) (next_corner false (length ring) (suc c)) k false in
        let there : number (get_or ring (suc c) 0) (get_or ring (next_corner false (length ring) (suc c)) 0)
        +ℤ along number (corners_from ring false (next_corner false (length ring) (suc c)) k)
        ≡ number (get_or ring (suc c) 0) (get_or ring c 0) +ℤ along number (corners_from ring false c k) =
        ap (λ t. number (get_or ring (suc c) 0) (get_or ring t 0) +ℤ along number (corners_from ring false t k)) next in
        let same : first_sides (c + length ring - k) ≡ first_sides (suc c + length ring - suc k) =
        at_place (c + length ring - k) (suc c + length ring - suc k) (omega arith) in
        here ∙ there ∙ omega (arith, ints, more, same, back (suc c) c again, more_sides c)

    -- one way round a face and the other way differ by once round it
    pub two_ways : (c k : ℕ) → c < length ring → k ≤ length ring
        → along number (corners_from ring true c k) -ℤ along number (corners_from ring false c (length ring - k))
        ≡ first_sides (length ring)
    two_ways c k l h = elim (cases_lt (c + k) (length ring)) [
      | inl within ↦
          let same : first_sides (c + length ring - (length ring - k)) ≡ first_sides (c + k) = grind arith in
          omega (arith, ints, same, up c k l (omega arith), down_past c (length ring - k) l (omega arith) (omega arith))
      | inr past ↦
          let same : first_sides (c - (length ring - k)) ≡ first_sides (c + k - length ring) =
          at_place (c - (length ring - k)) (c + k - length ring) (omega arith) in
          omega (arith, ints, same, around c k l h past, down c (length ring - k) l (omega arith))
    ]

  -- once round
  pub round-sides : along number (round ring) ≡ first_sides (length ring)
  round-sides = elim (cases_lt 0 (length ring)) [
    | inl some ↦
        let same : first_sides (0 + length ring) ≡ first_sides (length ring) = at_place (0 + length ring) (length ring) (omega arith) in
        omega (arith, ints, same, up 0 (length ring) some (omega arith))
    | inr none ↦ grind (arith, along)
  ]
