-- A chain on some faces of a mesh is one on the whole mesh, with the number 0 for all other faces.
use Rattle.homology_commands.proofs.Common.{boundary_agrees, IsChain, boundary, count_of, total, along, round, share, ◌≡◌, ◌⊎◌, inl, inr, ℕ, suc, ◌+◌, ◌<◌, Bool, true, false, List, [], ◌∷◌, length, get_or, refl, ap, ap₂, sym, ◌∙◌, arith, ℤ, pos, ◌+ℤ◌, cases_Bool, cond-true, cond-false, or_parts, nat_tests, ints, list_any, range_with_len, ◌*ℤ◌, filter, map, edge_swap, Linked, FaceList, FaceSide, all_sides, face_at, is_edge, joins}
use Rattle.homology.proofs.BoundaryLemmas.{face_parts, by_faces, boundary_is}
use Rattle.std.proofs.Math.IntN.{zero-*ℤ}
use Rattle.surf_model.specs.Submeshes.{submesh}

-- ---- sums over faces by their names

module _ (number : ℕ → ℕ → ℤ) (ring : ℕ → List ℕ) (wide : ℕ → ℤ) where
  -- what a face gives
  abbrev term : ℕ → ℤ
  term f = wide f *ℤ along number (round (ring f))

  -- over faces that are numbered from n on: those that a test drops have the number 0
  kept : (test : ℕ → Bool) (n : ℕ) (faces : List (List ℕ)) → ((k : ℕ) → k < length faces → ring (n + k) ≡ get_or faces k [])
      → ((k : ℕ) → k < length faces → test (n + k) ≡ false → wide (n + k) ≡ pos 0)
      → face_parts wide number n faces ≡ total (map term (filter test (range_with_len n (length faces))))
  kept test n [] rings dropped = refl
  kept test n (face ∷ faces) rings dropped =
      let rest : List ℕ = range_with_len (n + 1) (length faces) in
      let next : (k : ℕ) → n + 1 + k ≡ n + suc k = λ k. omega arith in
      let more : face_parts wide number (n + 1) faces ≡ total (map term (filter test rest)) =
      kept test (n + 1) faces (λ k l. ap ring (next k) ∙ rings (suc k) (omega arith))
      (λ k l off. ap wide (next k) ∙ dropped (suc k) (omega arith) (ap test (sym (next k)) ∙ off)) in
      let first : n + 0 ≡ n = omega arith in
      elim (cases_Bool (test n)) [
        | inl on ↦
            let here : ring n ≡ face = ap ring (sym first) ∙ rings 0 (omega arith) in
            let is : filter test (n ∷ rest) ≡ n ∷ filter test rest = cond-true (test n) (n ∷ filter test rest) (filter test rest) on in
            ap₂ (λ x y. x +ℤ y) (ap (λ (r : List ℕ). wide n *ℤ along number (round r)) (sym here)) more
            ∙ sym (ap (λ (names : List ℕ). total (map term names)) is)
        | inr off ↦
            let none : wide n ≡ pos 0 = ap wide (sym first) ∙ dropped 0 (omega arith) (ap test first ∙ off) in
            let here : wide n *ℤ along number (round face) ≡ pos 0 =
            ap (λ z. z *ℤ along number (round face)) none ∙ zero-*ℤ (along number (round face)) in
            let sum : face_parts wide number n (face ∷ faces) ≡ total (map term (filter test rest)) = omega (arith, ints, here, more) in
            sum
            ∙ sym (ap (λ (names : List ℕ). total (map term names))
            (cond-false (test n) (n ∷ filter test rest) (filter test rest) off))
      ]

  -- over the faces with these names, in this order
  named : (narrow : ℕ → ℤ) (m : ℕ) (names : List ℕ) → ((k : ℕ) → k < length names → narrow (m + k) ≡ wide (get_or names k 0))
      → face_parts narrow number m (map ring names) ≡ total (map term names)
  named narrow m [] agree = refl
  named narrow m (f ∷ names) agree =
      let first : m ≡ m + 0 = omega arith in
      let next : (k : ℕ) → m + 1 + k ≡ m + suc k = λ k. omega arith in
      ap₂ (λ x y. x +ℤ y) (ap (λ z. z *ℤ along number (round (ring f))) (ap narrow first ∙ agree 0 (omega arith)))
      (named narrow (m + 1) names (λ k l. ap narrow (next k) ∙ agree (suc k) (omega arith)))

module _ (mesh : FaceList) (names : List ℕ) (test : ℕ → Bool) (names_are : names ≡ filter test (range_with_len 0 (length mesh.faces)))
    (wide narrow : ℕ → ℤ) (dropped : (f : ℕ) → f < length mesh.faces → test f ≡ false → wide f ≡ pos 0)
    (agree : (k : ℕ) → k < length names → narrow k ≡ wide (get_or names k 0)) where
  -- the boundary is the same
  boundary_alone : (low high : ℕ) → boundary mesh wide low high ≡ boundary (submesh mesh names) narrow low high
  boundary_alone low high =
      let number : ℕ → ℕ → ℤ = share (pos 1) low high in
      let same : (k : ℕ) → 0 + k ≡ k = λ k. omega arith in
      boundary_is mesh wide low high ∙ by_faces wide number mesh
      ∙ kept number (face_at mesh) wide test 0 mesh.faces (λ k l. ap (face_at mesh) (same k))
      (λ k l off. ap wide (same k) ∙ dropped k l (ap test (sym (same k)) ∙ off))
      ∙ ap (λ (ns : List ℕ). total (map (term number (face_at mesh) wide) ns)) (sym names_are)
      ∙ sym (named number (face_at mesh) wide narrow 0 names (λ k l. ap narrow (same k) ∙ agree k l))
      ∙ sym (by_faces narrow number (submesh mesh names)) ∙ sym (boundary_is (submesh mesh names) narrow low high)

-- ---- what is no edge

share_off : (amount : ℤ) (low high : ℕ) (side : FaceSide) → joins low high side ≡ false
    → share amount low high side.tail side.head ≡ pos 0
share_off amount low high side h = grind (arith, nat_tests)

joined_ends : (low high : ℕ) (side : FaceSide) → joins low high side ≡ true
    → ((side.tail ≡ low) × (side.head ≡ high)) ⊎ ((side.tail ≡ high) × (side.head ≡ low))
joined_ends low high side h = grind (arith, nat_tests)

sides_off : (of_face : ℕ → ℤ) (low high : ℕ) (sides : List FaceSide) → list_any (joins low high) sides ≡ false
    → total (map (λ (side : FaceSide). share (of_face side.face) low high side.tail side.head) sides) ≡ pos 0
sides_off of_face low high [] h = refl
sides_off of_face low high (side ∷ sides) h =
    let none = or_parts (joins low high side) (list_any (joins low high) sides) h in
    let here = share_off (of_face side.face) low high side none.0 in
    let more = sides_off of_face low high sides none.1 in
    omega (arith, ints, here, more)

boundary_off : (mesh : FaceList) (of_face : ℕ → ℤ) (low high : ℕ) → is_edge mesh low high ≡ false
    → boundary mesh of_face low high ≡ pos 0
unfolding is_edge
boundary_off mesh of_face low high off = sides_off of_face low high (all_sides mesh) off

dart_off : (mesh : FaceList) (u v low high : ℕ) → is_edge mesh u v ≡ true → is_edge mesh low high ≡ false
    → share (pos 1) low high u v ≡ pos 0
dart_off mesh u v low high on off =
    let dart : FaceSide = record { face = 0; at = 0; tail = u; head = v } in
    elim (cases_Bool (joins low high dart)) [
      | inr other ↦ share_off (pos 1) low high dart other
      | inl same ↦ elim (joined_ends low high dart same) [
        | inl e ↦
            let clash : true ≡ false = sym on ∙ ap₂ (λ x y. is_edge mesh x y) e.0 e.1 ∙ off in
            cc
        | inr e ↦
            let clash : true ≡ false = sym on ∙ ap₂ (λ x y. is_edge mesh x y) e.0 e.1 ∙ edge_swap mesh high low ∙ off in
            cc
      ]
    ]

count_off : (mesh : FaceList) (walk : List ℕ) (low high : ℕ) → Linked mesh walk → is_edge mesh low high ≡ false
    → count_of walk low high ≡ pos 0
count_off mesh [] low high h off = refl
count_off mesh (u ∷ []) low high h off = refl
count_off mesh (u ∷ v ∷ walk) low high h off =
    let here = dart_off mesh u v low high h.0 off in
    let more = count_off mesh (v ∷ walk) low high h.1 off in
    omega (arith, ints, here, more)

-- ---- a chain

-- a chain for walks along the edges of these faces
pub chain_widened : (mesh : FaceList) (names : List ℕ) (test : ℕ → Bool) → names ≡ filter test (range_with_len 0 (length mesh.faces))
    → (wide narrow : ℕ → ℤ) → ((f : ℕ) → f < length mesh.faces → test f ≡ false → wide f ≡ pos 0)
    → ((k : ℕ) → k < length names → narrow k ≡ wide (get_or names k 0)) → (first second : List ℕ) → Linked (submesh mesh names) first
    → Linked (submesh mesh names) second → IsChain (submesh mesh names) narrow first second → IsChain mesh wide first second
chain_widened mesh names test names_are wide narrow dropped agree first second one two chain = record {
  balanced = λ low high up edge.
      let same = boundary_alone mesh names test names_are wide narrow dropped agree low high in
      elim (cases_Bool (is_edge (submesh mesh names) low high)) [
        | inl there ↦ chain.balanced low high up there ∙ sym same
        | inr off ↦
            let none = boundary_off (submesh mesh names) narrow low high off in
            omega (
              arith,
              ints,
              same,
              none,
              count_off (submesh mesh names) first low high one off,
              count_off (submesh mesh names) second low high two off,
            )
      ];
}

-- a chain with the same numbers
pub chain_alike : (mesh : FaceList) (wide narrow : ℕ → ℤ) (first second : List ℕ) → ((f : ℕ) → wide f ≡ narrow f)
    → IsChain mesh narrow first second → IsChain mesh wide first second
chain_alike mesh wide narrow first second agree chain = record {
  balanced = λ low high up edge. chain.balanced low high up edge ∙ sym (boundary_agrees mesh wide narrow low high agree);
}
