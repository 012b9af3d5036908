-- The boundary of numbered faces at the edge of a dart: the number of its face less that of the face across.
use Rattle.homology_deciding.proofs.Common.{dart_joins, darts_of, side_of, face_of, origin_of, target_of, twin_of, OrientedMesh, IsOrientedSurface, boundary, total, share, along as along_walk, round, face_across, dart_share, listed, ◌≡◌, ◌≢◌, inl, inr, ℕ, zero, suc, ◌<◌, true, false, List, [], ◌∷◌, length, get_or, refl, ap, sym, ◌∙◌, subst, arith, ℤ, pos, ◌+ℤ◌, ◌-ℤ◌, cases_Bool, nat_tests, ints, neg_ℤ, map, if◌then◌else◌, FaceSide, all_sides, joins, face_at, is_flipped}
use Rattle.halfedge_map.proofs.TwinLemmas.{joins_both, along, two_darts, side_is, twin_within, twin_other, origin-twin, target-twin, no_loop}
use Rattle.homology.proofs.BoundaryLemmas.{only_at, one_face, boundary_is}
use Rattle.homology.proofs.EdgeSumLemmas.{total_one}
use Rattle.homology.proofs.RingLemmas.{one-times}
use Rattle.surf_model.proofs.NumberLemmas.{length-all_sides}

-- ---- sums of which two terms count

total_two : {X : Type 0} (g : X → ℤ) (xs : List X) (x : X) (i j : ℕ) → i < length xs → j < length xs → i ≢ j
    → ((k : ℕ) → k < length xs → k ≢ i → k ≢ j → g (get_or xs k x) ≡ pos 0)
    → total (map g xs) ≡ g (get_or xs i x) +ℤ g (get_or xs j x)
total_two g [] x i j l m apart h = absurd (omega arith)
total_two g (y ∷ xs) x zero zero l m apart h = absurd (apart refl)
total_two g (y ∷ xs) x zero (suc j) l m apart h =
    let more = total_one g xs x j (omega arith) (λ k lk other. h (suc k) (omega arith) (λ e. omega (arith, e))
    (λ e. other (omega (arith, e)))) in
    omega (arith, ints, more)
total_two g (y ∷ xs) x (suc i) zero l m apart h =
    let more = total_one g xs x i (omega arith) (λ k lk other. h (suc k) (omega arith) (λ e. other (omega (arith, e)))
    (λ e. omega (arith, e))) in
    omega (arith, ints, more)
total_two g (y ∷ xs) x (suc i) (suc j) l m apart h =
    let here = h 0 (omega arith) (λ e. omega (arith, e)) (λ e. omega (arith, e)) in
    let more = total_two g xs x i j (omega arith) (omega arith) (λ e. apart (ap suc e))
    (λ k lk a b. h (suc k) (omega arith) (λ e. a (omega (arith, e))) (λ e. b (omega (arith, e)))) in
    omega (arith, ints, here, more)

-- ---- the sides of an edge

-- what a side gives to an ordered pair of vertices: nothing where it does not join them
off : (amount : ℤ) (u v : ℕ) (side : FaceSide) → joins u v side ≡ false → share amount u v side.tail side.head ≡ pos 0
off amount u v side h = grind (arith, nat_tests)

forward : (amount : ℤ) (u v a b : ℕ) → a ≡ u → b ≡ v → share amount u v a b ≡ amount
forward amount u v a b e f = grind (arith, nat_tests)

back : (amount : ℤ) (u v a b : ℕ) → u ≢ v → a ≡ v → b ≡ u → share amount u v a b ≡ neg_ℤ amount
back amount u v a b apart e f = grind (arith, nat_tests)

-- the two ends of the side of a dart, by the sign of its face
kept_side : (s : OrientedMesh) (d : ℕ) → is_flipped s.signs (face_of s d) ≡ false
    → ((side_of s d).tail ≡ origin_of s d) × ((side_of s d).head ≡ target_of s d)
unfolding origin_of target_of face_of
kept_side s d e = (rw e refl, rw e refl)

flipped_side : (s : OrientedMesh) (d : ℕ) → is_flipped s.signs (face_of s d) ≡ true
    → ((side_of s d).tail ≡ target_of s d) × ((side_of s d).head ≡ origin_of s d)
unfolding origin_of target_of face_of
flipped_side s d e = (rw e refl, rw e refl)

face_side : (s : OrientedMesh) (d : ℕ) → (side_of s d).face ≡ face_of s d
unfolding face_of
face_side s d = refl

is_along : (s : OrientedMesh) (d k : ℕ) → joins (side_of s d).tail (side_of s d).head (side_of s k) ≡ true → along s d k ≡ true
unfolding along
is_along s d k j = j

module _ (s : OrientedMesh) (o : IsOrientedSurface s) (number : ℕ → ℤ) where
  -- what a side gives to an ordered pair of vertices, with the number of its face
  abbrev given : ℕ → ℕ → FaceSide → ℤ
  given u v side = share (number side.face) u v side.tail side.head

  own : (d u v : ℕ) → d < darts_of s → origin_of s d ≡ u → target_of s d ≡ v
      → given u v (side_of s d) ≡ listed s (face_of s d) (number (face_of s d))
  own d u v l starts ends =
      let apart : u ≢ v = λ e. no_loop s o d l (ends ∙ sym e ∙ sym starts) in
      ap (λ f. share (number f) u v (side_of s d).tail (side_of s d).head) (face_side s d)
      ∙ elim (cases_Bool (is_flipped s.signs (face_of s d))) [
        | inl turned ↦
            let ends_of = flipped_side s d turned in
            back (number (face_of s d)) u v (side_of s d).tail (side_of s d).head apart (ends_of.0 ∙ ends) (ends_of.1 ∙ starts)
            ∙ sym (ap (λ b. if b then neg_ℤ (number (face_of s d)) else number (face_of s d)) turned)
        | inr kept ↦
            let ends_of = kept_side s d kept in
            forward (number (face_of s d)) u v (side_of s d).tail (side_of s d).head (ends_of.0 ∙ starts) (ends_of.1 ∙ ends)
            ∙ sym (ap (λ b. if b then neg_ℤ (number (face_of s d)) else number (face_of s d)) kept)
      ]

  -- the dart the other way
  turned_back : (amount : ℤ) (u v a b : ℕ) → u ≢ v → share amount u v a b ≡ neg_ℤ (share amount v u a b)
  turned_back amount u v a b apart = grind (arith, nat_tests, ints)

  pub boundary_at : (d : ℕ) → d < darts_of s
      → boundary s.mesh number (origin_of s d) (origin_of s (twin_of s d))
      ≡ listed s (face_of s d) (number (face_of s d)) -ℤ listed s (face_across s d) (number (face_across s d))
  boundary_at d l =
      let u : ℕ = origin_of s d in
      let v : ℕ = origin_of s (twin_of s d) in
      let e : ℕ = twin_of s d in
      let le : e < darts_of s = twin_within s o d l in
      let starts : target_of s d ≡ v = sym (origin-twin s o d l) in
      let apart : u ≢ v = λ q. no_loop s o d l (starts ∙ sym q) in
      let long = length-all_sides s.mesh in
      let others : (k : ℕ) → k < length (all_sides s.mesh) → k ≢ d → k ≢ e → given u v (get_or (all_sides s.mesh) k (side_of s d)) ≡ pos 0 =
      λ k lk not_d not_e.
      let kd : k < darts_of s = omega (arith, lk, long) in
      ap (given u v) (side_is s k (side_of s d) kd)
      ∙ elim (cases_Bool (joins u v (side_of s k))) [
        | inl on ↦
            absurd (not_e ((two_darts s o d l).only k kd
            (is_along s d k
            (joins_both u v (side_of s d) (side_of s k) (subst (λ x. joins u x (side_of s d) ≡ true) starts (dart_joins s d)) on)) not_d))
        | inr apart_from ↦ off (number (side_of s k).face) u v (side_of s k) apart_from
      ] in
      let two = total_two (given u v) (all_sides s.mesh) (side_of s d) d e (omega (arith, l, long)) (omega (arith, le, long))
      (λ q. twin_other s o d l (sym q)) others in
      let mine : given u v (get_or (all_sides s.mesh) d (side_of s d)) ≡ listed s (face_of s d) (number (face_of s d)) =
      ap (given u v) (side_is s d (side_of s d) l) ∙ own d u v l refl starts in
      let other : given u v (get_or (all_sides s.mesh) e (side_of s d)) ≡ neg_ℤ (listed s (face_across s d) (number (face_across s d))) =
      ap (given u v) (side_is s e (side_of s d) le)
      ∙ turned_back (number (side_of s e).face) u v (side_of s e).tail (side_of s e).head apart
      ∙ ap neg_ℤ (own e v u le refl (target-twin s o d l)) in
      omega (arith, ints, two, mine, other)

-- once round a face a dart gives what the two faces of its edge say
abbrev pub sign_at : OrientedMesh → ℕ → ℕ → ℤ
sign_at s k f = listed s f (only_at k (pos 1) f)

pub round_dart : (s : OrientedMesh) → IsOrientedSurface s → (k d : ℕ) → k < length s.mesh.faces → d < darts_of s
    → along_walk (dart_share s (pos 1) d) (round (face_at s.mesh k)) ≡ sign_at s k (face_of s d) -ℤ sign_at s k (face_across s d)
round_dart s o k d l m =
    let u : ℕ = origin_of s d in
    let v : ℕ = origin_of s (twin_of s d) in
    let alone = one_face k (pos 1) (share (pos 1) u v) s.mesh l in
    let same = boundary_is s.mesh (only_at k (pos 1)) u v in
    let there = boundary_at s o (only_at k (pos 1)) d m in
    let once = one-times (along_walk (share (pos 1) u v) (round (face_at s.mesh k))) in
    omega (arith, ints, alone, same, there, once)
