-- A cocycle on a component of a mesh is one on the whole mesh, with the number 0 for all other edges.
use Rattle.homology_commands.proofs.Common.{IsCocycle, Separates, dart_number, face_sum, along, round, IsOfComponent, face_same_place, piece_of_parts, HasPlaceAmong, IsPiece, face-submesh, length-submesh, used_up, ◌≡◌, inl, inr, ℕ, zero, suc, ◌<◌, true, false, List, [], ◌∷◌, length, get_or, refl, ap, ap₂, sym, ◌∙◌, arith, ℤ, pos, ◌+ℤ◌, cases_Bool, cases_eq, cases_lt, cases_order, nat_tests, ints, neg_ℤ, edge_swap, step_within, tail_used, Linked, round_linked, PartsView, AreParts, component_at, component_mesh, FaceList, corners_from, face_at, is_edge, next_corner}
use Rattle.homology.proofs.AlongLemmas.{first_sides, round-sides}

-- no neighbours form an edge
abbrev Unlinked : FaceList → List ℕ → Type 0
Unlinked mesh [] = Unit {0}
Unlinked mesh (x ∷ []) = Unit {0}
Unlinked mesh (x ∷ y ∷ rest) = (is_edge mesh x y ≡ false) × Unlinked mesh (y ∷ rest)

-- the numbers of the edges of these faces, and 0 for all other pairs
pub record IsWidened (alone : FaceList) (wide narrow : ℕ → ℕ → ℤ) : Type 0 where
  pub agree : (u v : ℕ) → u < v → is_edge alone u v ≡ true → wide u v ≡ narrow u v
  pub off : (u v : ℕ) → is_edge alone u v ≡ false → wide u v ≡ pos 0

rising : (number : ℕ → ℕ → ℤ) (u v : ℕ) → u < v → dart_number number u v ≡ number u v
rising number u v l = grind (arith, nat_tests)

falling : (number : ℕ → ℕ → ℤ) (u v : ℕ) → v < u → dart_number number u v ≡ neg_ℤ (number v u)
falling number u v l = grind (arith, nat_tests)

lying : (number : ℕ → ℕ → ℤ) (u v : ℕ) → u ≡ v → dart_number number u v ≡ pos 0
lying number u v e = grind (arith, nat_tests)

module _ (alone : FaceList) (wide narrow : ℕ → ℕ → ℤ) (h : IsWidened alone wide narrow) where
  dart_agrees : (u v : ℕ) → is_edge alone u v ≡ true → dart_number wide u v ≡ dart_number narrow u v
  dart_agrees u v edge = elim (cases_order u v) [
    | inl e ↦ lying wide u v e ∙ sym (lying narrow u v e)
    | inr other ↦ elim other [
      | inl less ↦ rising wide u v less ∙ h.agree u v less edge ∙ sym (rising narrow u v less)
      | inr more ↦
          falling wide u v more ∙ ap neg_ℤ (h.agree v u more (edge_swap alone v u ∙ edge)) ∙ sym (falling narrow u v more)
    ]
  ]

  dart_off : (u v : ℕ) → is_edge alone u v ≡ false → dart_number wide u v ≡ pos 0
  dart_off u v edge = elim (cases_order u v) [
    | inl e ↦ lying wide u v e
    | inr other ↦ elim other [
      | inl less ↦ rising wide u v less ∙ h.off u v edge
      | inr more ↦ falling wide u v more ∙ ap neg_ℤ (h.off v u (edge_swap alone v u ∙ edge))
    ]
  ]

  -- along a walk on these faces the sums are the same
  pub along_agrees : (walk : List ℕ) → Linked alone walk → along (dart_number wide) walk ≡ along (dart_number narrow) walk
  along_agrees [] w = refl
  along_agrees (u ∷ []) w = refl
  along_agrees (u ∷ v ∷ walk) w = ap₂ (λ x y. x +ℤ y) (dart_agrees u v w.0) (along_agrees (v ∷ walk) w.1)

  -- and off them there is nothing
  along_off : (walk : List ℕ) → Unlinked alone walk → along (dart_number wide) walk ≡ pos 0
  along_off [] w = refl
  along_off (u ∷ []) w = refl
  along_off (u ∷ v ∷ walk) w =
      let here = dart_off u v w.0 in
      let more = along_off (v ∷ walk) w.1 in
      omega (arith, ints, here, more)

  -- round a face the sums are the same
  face_agrees : (f : ℕ) → f < length alone.faces → face_sum alone wide f ≡ face_sum alone narrow f
  face_agrees f l =
      let ring : List ℕ = face_at alone f in
      elim (cases_lt 0 (length ring)) [
        | inl some ↦ along_agrees (round ring) (round_linked alone f true 0 (length ring) l some)
        | inr none ↦
            let empty : length ring ≡ 0 = omega arith in
            round-sides (dart_number wide) ring ∙ ap (first_sides (dart_number wide) ring) empty
            ∙ sym (round-sides (dart_number narrow) ring ∙ ap (first_sides (dart_number narrow) ring) empty)
      ]

  pub cocycle_alike : IsCocycle alone narrow → IsCocycle alone wide
  cocycle_alike cocycle = record { closed = λ f l. face_agrees f l ∙ cocycle.closed f l }

  pub separates_widened : (first second : List ℕ) → Linked alone first → Linked alone second → Separates narrow first second
      → Separates wide first second
  separates_widened first second one two apart e =
      let first_same = along_agrees first one in
      let second_same = along_agrees second two in
      apart (omega (arith, ints, first_same, second_same, e))

-- ---- round a face

module _ (mesh : FaceList) (parts : PartsView) (part : ℕ) (h : AreParts mesh parts) (l : part < length parts.components)
    (wide narrow : ℕ → ℕ → ℤ) (is : IsWidened (component_mesh mesh parts part) wide narrow) where
  abbrev alone : FaceList
  alone = component_mesh mesh parts part

  abbrev IsOff : ℕ → Type 0
  IsOff v = get_or parts.places v 0 ≡ part → ⊥

  -- an edge with an end outside is none of the component
  edge_off : (u v : ℕ) → IsOff u → is_edge alone u v ≡ false
  edge_off u v outside = elim (cases_Bool (is_edge alone u v)) [
    | inr off ↦ off
    | inl on ↦ absurd (outside (used_up mesh (IsOfComponent parts.places part) (component_at parts part) u
        (piece_of_parts mesh parts part h l) (tail_used alone u v on)).1)
  ]

  unlinked_from : (ring : List ℕ) (t k : ℕ) → t < length ring → ((j : ℕ) → j < length ring → IsOff (get_or ring j 0))
      → Unlinked alone (corners_from ring true t k)
  unlinked_from ring t zero b outside = tt
  unlinked_from ring t (suc zero) b outside =
      (edge_off (get_or ring t 0) (get_or ring (next_corner true (length ring) t) 0) (outside t b), tt)
  unlinked_from ring t (suc (suc k)) b outside = (
    edge_off (get_or ring t 0) (get_or ring (next_corner true (length ring) t) 0) (outside t b),
    unlinked_from ring (next_corner true (length ring) t) (suc k) (step_within true (length ring) t b) outside,
  )

  -- round a face of the component the sum is what it was there
  inside_sum : (f : ℕ) → HasPlaceAmong (component_at parts part) f → IsCocycle alone narrow → face_sum mesh wide f ≡ pos 0
  inside_sum f found cocycle =
      let names : List ℕ = component_at parts part in
      let same : face_at alone found.place ≡ face_at mesh f =
      face-submesh mesh names found.place found.within ∙ ap (face_at mesh) found.named in
      ap (λ (r : List ℕ). along (dart_number wide) (round r)) (sym same)
      ∙ (cocycle_alike alone wide narrow is cocycle).closed found.place (omega (arith, found.within, length-submesh mesh names))

  pub cocycle_widened : IsCocycle alone narrow → IsCocycle mesh wide
  cocycle_widened cocycle = record {
    closed = λ f in_mesh.
        let ring : List ℕ = face_at mesh f in
        elim (cases_lt 0 (length ring)) [
          | inr none ↦
              let empty : length ring ≡ 0 = omega arith in
              round-sides (dart_number wide) ring ∙ ap (first_sides (dart_number wide) ring) empty
          | inl some ↦ elim (cases_eq (get_or parts.places (get_or ring 0 0) 0) part) [
            | inl inside ↦
                let piece : IsPiece mesh (IsOfComponent parts.places part) (component_at parts part) =
                piece_of_parts mesh parts part h l in
                inside_sum f (piece.all f 0 in_mesh some inside) cocycle
            | inr outside ↦
                let same : (j : ℕ) → j < length ring
                → get_or parts.places (get_or ring j 0) 0 ≡ get_or parts.places (get_or ring 0 0) 0 =
                λ j lj.
                face_same_place mesh (length parts.components) parts.places f j h.places in_mesh lj
                ∙ sym (face_same_place mesh (length parts.components) parts.places f 0 h.places in_mesh some) in
                along_off alone wide narrow is (round ring)
                (unlinked_from ring 0 (length ring) some (λ j lj e. outside (sym (same j lj) ∙ e)))
          ]
        ];
  }
