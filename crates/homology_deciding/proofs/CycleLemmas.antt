-- A closed way across faces gives a cocycle.
use Rattle.homology_deciding.proofs.Common.{edge_has_ends, rotation_system, darts_of, face_of, edge_of, origin_of, twin_of, OrientedMesh, size-sum, size-opposite, count_difference, IsCocycle, dart_number, separation, share, along, round, AreTableNumbers, cycle_share, face_across, IsTreeOfFaces, IsWayUp, dart_share, way_share, signed_dart_count, way_count, ◌≡◌, ◌≢◌, inl, inr, ℕ, ◌+◌, ◌<◌, ◌≤◌, List, [], ◌∷◌, length, refl, ap, ap₂, sym, ◌∙◌, subst, arith, ℤ, pos, negsuc, ◌+ℤ◌, ◌-ℤ◌, cases_order, nat_tests, ints, neg_ℤ, unsigned_abs, face_at, darts, DartName, SplitView}
use Rattle.homology.proofs.CocycleVerdictLemmas.{dart_is}
use Rattle.homology_deciding.proofs.BoundaryLemmas.{sign_at, round_dart}
use Rattle.homology_deciding.proofs.WayLemmas.{way_small}

-- ---- sums along walks

along-sum : (one other : ℕ → ℕ → ℤ) (walk : List ℕ) → along (λ u v. one u v +ℤ other u v) walk ≡ along one walk +ℤ along other walk
along-sum one other [] = refl
along-sum one other (u ∷ []) = refl
along-sum one other (u ∷ v ∷ walk) =
    let more = along-sum one other (v ∷ walk) in
    omega (arith, ints, more)

along-none : (walk : List ℕ) → along (λ u v. pos 0) walk ≡ pos 0
along-none [] = refl
along-none (u ∷ []) = refl
along-none (u ∷ v ∷ walk) =
    let more = along-none (v ∷ walk) in
    omega (arith, ints, more)

along-same : (one other : ℕ → ℕ → ℤ) (walk : List ℕ) → ((u v : ℕ) → one u v ≡ other u v) → along one walk ≡ along other walk
along-same one other [] h = refl
along-same one other (u ∷ []) h = refl
along-same one other (u ∷ v ∷ walk) h = ap₂ (λ x y. x +ℤ y) (h u v) (along-same one other (v ∷ walk) h)

pub along-back : (one other : ℕ → ℕ → ℤ) (walk : List ℕ) → ((u v : ℕ) → one u v ≡ neg_ℤ (other u v))
    → along one walk ≡ neg_ℤ (along other walk)
along-back one other [] h = refl
along-back one other (u ∷ []) h = refl
along-back one other (u ∷ v ∷ walk) h =
    let more = along-back one other (v ∷ walk) h in
    let here = h u v in
    omega (arith, ints, more, here)

-- no more than the walk has darts, where no dart has more than 1
pub along_darts : (number : ℕ → ℕ → ℤ) (walk : List ℕ) → ((u v : ℕ) → unsigned_abs (number u v) ≤ 1)
    → unsigned_abs (along number walk) ≤ darts walk
along_darts number [] h = omega arith
along_darts number (u ∷ []) h = omega arith
along_darts number (u ∷ v ∷ walk) h =
    let more : unsigned_abs (along number (v ∷ walk)) ≤ length walk = omega (arith, along_darts number (v ∷ walk) h) in
    let sum = size-sum (number u v) (along number (v ∷ walk)) 1 (length walk) (h u v) more in
    omega (arith, sum)

-- ---- a way round a face

share-minus : (a b u v : ℕ) → share (negsuc 0) a b u v ≡ neg_ℤ (share (pos 1) a b u v)
share-minus a b u v = grind (arith, nat_tests)

way_share-minus : (s : OrientedMesh) (way : List DartName) (u v : ℕ) → way_share s (negsuc 0) way u v ≡ neg_ℤ (way_share s (pos 1) way u v)
way_share-minus s [] u v = refl
way_share-minus s (dart ∷ way) u v =
    let more = way_share-minus s way u v in
    let here = share-minus (origin_of s dart.0) (origin_of s (twin_of s dart.0)) u v in
    omega (arith, ints, more, here)

module _ (s : OrientedMesh) (split : SplitView) (h : IsTreeOfFaces s split) where
  round_way : (k : ℕ) → k < length s.mesh.faces → (f : ℕ) (way : List DartName) (g : ℕ) → IsWayUp s split f way g
      → along (way_share s (pos 1) way) (round (face_at s.mesh k)) ≡ sign_at s k f -ℤ sign_at s k g
  round_way k l f [] g w =
      let none = along-none (round (face_at s.mesh k)) in
      let same : sign_at s k f ≡ sign_at s k g = ap (sign_at s k) w in
      omega (arith, ints, none, same)
  round_way k l f (dart ∷ way) g w =
      let more = round_way k l (face_across s dart.0) way g w.1 in
      let sum = along-sum (dart_share s (pos 1) dart.0) (way_share s (pos 1) way) (round (face_at s.mesh k)) in
      let here = round_dart s h.valid k dart.0 l w.0.within in
      let same : sign_at s k (face_of s dart.0) ≡ sign_at s k f = ap (sign_at s k) w.0.inside in
      omega (arith, ints, more, sum, here, same)

  -- ---- the closed way

  module _ (d : ℕ) (up down : List DartName) (l : d < darts_of s) (goes : IsWayUp s split (face_across s d) up split.root_face)
      (comes : IsWayUp s split (face_of s d) down split.root_face) where
    along_cycle : (walk : List ℕ) → along (cycle_share s d up down) walk
        ≡ along (dart_share s (pos 1) d) walk +ℤ along (way_share s (pos 1) up) walk -ℤ along (way_share s (pos 1) down) walk
    along_cycle walk =
        let one = along-sum (λ u v. dart_share s (pos 1) d u v +ℤ way_share s (pos 1) up u v) (way_share s (negsuc 0) down) walk in
        let two = along-sum (dart_share s (pos 1) d) (way_share s (pos 1) up) walk in
        let minus = along-back (way_share s (negsuc 0) down) (way_share s (pos 1) down) walk (way_share-minus s down) in
        omega (arith, ints, one, two, minus)

    round_cycle : (k : ℕ) → k < length s.mesh.faces → along (cycle_share s d up down) (round (face_at s.mesh k)) ≡ pos 0
    round_cycle k m =
        let all = along_cycle (round (face_at s.mesh k)) in
        let here = round_dart s h.valid k d m l in
        let there = round_way k m (face_across s d) up split.root_face goes in
        let again = round_way k m (face_of s d) down split.root_face comes in
        omega (arith, ints, all, here, there, again)

    -- ---- read as numbers of edges

    share-turned : (amount : ℤ) (a b u v : ℕ) → a ≢ b → share amount a b v u ≡ neg_ℤ (share amount a b u v)
    share-turned amount a b u v apart = grind (arith, nat_tests, ints)

    dart_share-turned : (amount : ℤ) (e u v : ℕ) → e < darts_of s → dart_share s amount e v u ≡ neg_ℤ (dart_share s amount e u v)
    dart_share-turned amount e u v le =
        share-turned amount (origin_of s e) (origin_of s (twin_of s e)) u v
        (λ q. (rotation_system s h.valid).no_loop e le (sym q))

    way_share-turned : (amount : ℤ) (f : ℕ) (way : List DartName) (g u v : ℕ) → IsWayUp s split f way g
        → way_share s amount way v u ≡ neg_ℤ (way_share s amount way u v)
    way_share-turned amount f [] g u v w = refl
    way_share-turned amount f (dart ∷ way) g u v w =
        let more = way_share-turned amount (face_across s dart.0) way g u v w.1 in
        let here = dart_share-turned amount dart.0 u v w.0.within in
        omega (arith, ints, more, here)

    cycle-turned : (u v : ℕ) → cycle_share s d up down v u ≡ neg_ℤ (cycle_share s d up down u v)
    cycle-turned u v =
        let a = dart_share-turned (pos 1) d u v l in
        let b = way_share-turned (pos 1) (face_across s d) up split.root_face u v goes in
        let c = way_share-turned (negsuc 0) (face_of s d) down split.root_face u v comes in
        omega (arith, ints, a, b, c)

    pub as_number : (u v : ℕ) → dart_number (cycle_share s d up down) u v ≡ cycle_share s d up down u v
    as_number u v = elim (cases_order u v) [
      | inl same ↦
          let twice = cycle-turned u u in
          let zero_here : cycle_share s d up down u u ≡ pos 0 = omega (arith, ints, twice) in
          let none : dart_number (cycle_share s d up down) u v ≡ pos 0 = grind (arith, nat_tests, same) in
          none ∙ sym zero_here ∙ ap (cycle_share s d up down u) same
      | inr apart ↦ elim apart [
        | inl less ↦ grind (arith, nat_tests, less)
        | inr more ↦
            let back : dart_number (cycle_share s d up down) u v ≡ neg_ℤ (cycle_share s d up down v u) = grind (arith, nat_tests, more) in
            let turn = cycle-turned u v in
            omega (arith, ints, back, turn)
      ]
    ]

    pub is_cocycle : IsCocycle s.mesh (cycle_share s d up down)
    is_cocycle = record {
      closed = λ k m.
          along-same (dart_number (cycle_share s d up down)) (cycle_share s d up down) (round (face_at s.mesh k)) as_number
          ∙ round_cycle k m;
    }

    pub separation_is : (first second : List ℕ) → separation (cycle_share s d up down) first second
        ≡ (along (dart_share s (pos 1) d) first -ℤ along (dart_share s (pos 1) d) second)
        +ℤ (along (way_share s (pos 1) up) first -ℤ along (way_share s (pos 1) up) second)
        -ℤ (along (way_share s (pos 1) down) first -ℤ along (way_share s (pos 1) down) second)
    separation_is first second =
        let one = along-same (dart_number (cycle_share s d up down)) (cycle_share s d up down) first as_number in
        let two = along-same (dart_number (cycle_share s d up down)) (cycle_share s d up down) second as_number in
        omega (arith, ints, one, two, along_cycle first, along_cycle second)

  -- ---- heights

  module _ (counts : List ℤ) (first second : List ℕ) (are : AreTableNumbers s.table counts (count_difference first second)) where
    -- what is counted at a dart is how much more the first walk crosses there
    turn-number : (u v a b : ℕ) → a ≢ b → share (pos 1) b a u v ≡ neg_ℤ (share (pos 1) a b u v)
    turn-number u v a b apart = grind (arith, nat_tests, ints)

    difference_number : (a b : ℕ) → a ≢ b → dart_number (count_difference first second) a b
        ≡ along (share (pos 1) a b) first -ℤ along (share (pos 1) a b) second
    difference_number a b apart = elim (cases_order a b) [
      | inl same ↦ absurd (apart same)
      | inr other ↦ elim other [
        | inl less ↦ grind (arith, nat_tests, less)
        | inr more ↦
            let turned_is : dart_number (count_difference first second) a b ≡ neg_ℤ (count_difference first second b a) =
            grind (arith, nat_tests, more) in
            let one = along-back (share (pos 1) b a) (share (pos 1) a b) first (λ u v. turn-number u v a b apart) in
            let two = along-back (share (pos 1) b a) (share (pos 1) a b) second (λ u v. turn-number u v a b apart) in
            omega (arith, ints, turned_is, one, two)
      ]
    ]

    dart_count_is : (e : ℕ) → e < darts_of s
        → signed_dart_count s counts e ≡ along (dart_share s (pos 1) e) first -ℤ along (dart_share s (pos 1) e) second
    dart_count_is e l =
        let ends = edge_has_ends s h.valid e l in
        dart_is s.mesh s.table counts (count_difference first second) (edge_of s e) (origin_of s e) (origin_of s (twin_of s e))
        (signed_dart_count s counts e) h.valid.table are ends.within ends.ends refl
        ∙ difference_number (origin_of s e) (origin_of s (twin_of s e))
        (λ q. (rotation_system s h.valid).no_loop e l (sym q))

    pub way_count_is : (f : ℕ) (way : List DartName) (g : ℕ) → IsWayUp s split f way g
        → way_count s counts way ≡ along (way_share s (pos 1) way) first -ℤ along (way_share s (pos 1) way) second
    way_count_is f [] g w =
        let one = along-none first in
        let two = along-none second in
        omega (arith, ints, one, two)
    way_count_is f (dart ∷ way) g w =
        let more = way_count_is (face_across s dart.0) way g w.1 in
        let here = dart_count_is dart.0 w.0.within in
        let one = along-sum (dart_share s (pos 1) dart.0) (way_share s (pos 1) way) first in
        let two = along-sum (dart_share s (pos 1) dart.0) (way_share s (pos 1) way) second in
        omega (arith, ints, more, here, one, two)

    -- so no height passes the number of darts
    pub height_small : (f : ℕ) (way : List DartName) (g : ℕ) → IsWayUp s split f way g
        → unsigned_abs (way_count s counts way) ≤ darts first + darts second
    height_small f way g w =
        let small : (u v : ℕ) → unsigned_abs (way_share s (pos 1) way u v) ≤ 1 =
        λ u v. way_small s split h (pos 1) f way g u v (omega arith) w in
        let one = along_darts (way_share s (pos 1) way) first small in
        let two = along_darts (way_share s (pos 1) way) second small in
        let minus : way_count s counts way
        ≡ along (way_share s (pos 1) way) first +ℤ neg_ℤ (along (way_share s (pos 1) way) second) =
        omega (arith, ints, way_count_is f way g w) in
        subst (λ z. unsigned_abs z ≤ darts first + darts second) (sym minus)
        (size-sum (along (way_share s (pos 1) way) first) (neg_ℤ (along (way_share s (pos 1) way) second)) (darts first) (darts second) one
        (omega (arith, size-opposite (along (way_share s (pos 1) way) second), two)))
