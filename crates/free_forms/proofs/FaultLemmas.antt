-- First faults exclude each other, and an open surface.
use Rattle.free_forms.proofs.Common.{equal, equal_pairs, one_pinch, same_name, NoEdgeHasThreeSides, IsLeastUsed, AreLeastApart, IsFirstOpenFault, IsLeastCrowdedEdge, IsOpenSurface, OpenFault, NoFace, EdgeSides, NoBoundary, Pinched, Apart, OutOfMemory, ◌≡◌, ℕ, refl, arith, FaceList}

not_few : {mesh : FaceList} {low high sides : ℕ} → IsLeastCrowdedEdge mesh low high sides → NoEdgeHasThreeSides mesh → ⊥
not_few {low} {high} h few = omega (arith, h.number, h.crowded, few low high)

one_edge : {mesh : FaceList} {a b s c d t : ℕ} → IsLeastCrowdedEdge mesh a b s → IsLeastCrowdedEdge mesh c d t → (a ≡ c) × (b ≡ d) × (s ≡ t)
one_edge {mesh} {a} {b} {c} {d} h k = grind (arith, equal_pairs)

one_least : {mesh : FaceList} {v w : ℕ} → IsLeastUsed mesh v → IsLeastUsed mesh w → v ≡ w
one_least {v} {w} h k = equal v w (λ less. k.least v less h.used) (λ more. h.least w more k.used)

one_apart : {mesh : FaceList} {u v w : ℕ} → AreLeastApart mesh u v → AreLeastApart mesh u w → v ≡ w
one_apart {v} {w} h k = equal v w (λ less. h.apart (k.least v less h.used)) (λ more. k.apart (h.least w more k.used))

-- there is at most one first fault
pub one_fault : (mesh : FaceList) (fault other : OpenFault) → IsFirstOpenFault mesh fault → IsFirstOpenFault mesh other → fault ≡ other
one_fault mesh OutOfMemory other h k = absurd h
one_fault mesh fault OutOfMemory h k = absurd k
one_fault mesh NoFace NoFace h k = refl
one_fault mesh NoFace (EdgeSides low high sides) h k = absurd (omega (arith, k.some_face))
one_fault mesh NoFace NoBoundary h k = absurd (omega (arith, k.some_face))
one_fault mesh NoFace (Pinched vertex) h k = absurd (omega (arith, k.some_face))
one_fault mesh NoFace (Apart vertex another) h k = absurd (omega (arith, k.some_face))
one_fault mesh (EdgeSides low high sides) NoFace h k = absurd (omega (arith, h.some_face))
one_fault mesh (EdgeSides a b s) (EdgeSides c d t) h k = grind (arith, one_edge, same_name)
one_fault mesh (EdgeSides low high sides) NoBoundary h k = absurd (not_few h.edge k.few_sides)
one_fault mesh (EdgeSides low high sides) (Pinched vertex) h k = absurd (not_few h.edge k.few_sides)
one_fault mesh (EdgeSides low high sides) (Apart vertex another) h k = absurd (not_few h.edge k.few_sides)
one_fault mesh NoBoundary NoFace h k = absurd (omega (arith, h.some_face))
one_fault mesh NoBoundary (EdgeSides low high sides) h k = absurd (not_few k.edge h.few_sides)
one_fault mesh NoBoundary NoBoundary h k = refl
one_fault mesh NoBoundary (Pinched vertex) h k = absurd (h.none k.boundary)
one_fault mesh NoBoundary (Apart vertex another) h k = absurd (h.none k.boundary)
one_fault mesh (Pinched vertex) NoFace h k = absurd (omega (arith, h.some_face))
one_fault mesh (Pinched vertex) (EdgeSides low high sides) h k = absurd (not_few k.edge h.few_sides)
one_fault mesh (Pinched vertex) NoBoundary h k = absurd (k.none h.boundary)
one_fault mesh (Pinched vertex) (Pinched another) h k = grind (arith, same_name, one_pinch)
one_fault mesh (Pinched vertex) (Apart first second) h k = absurd (h.vertex.pinched (k.one_fan vertex.0 h.vertex.used))
one_fault mesh (Apart first second) NoFace h k = absurd (omega (arith, h.some_face))
one_fault mesh (Apart first second) (EdgeSides low high sides) h k = absurd (not_few k.edge h.few_sides)
one_fault mesh (Apart first second) NoBoundary h k = absurd (k.none h.boundary)
one_fault mesh (Apart first second) (Pinched vertex) h k = absurd (k.vertex.pinched (h.one_fan vertex.0 k.vertex.used))
one_fault mesh (Apart u v) (Apart x y) h k = grind (arith, one_least, same_name, one_apart)

-- an open surface has none
pub no_fault : (mesh : FaceList) (fault : OpenFault) → IsOpenSurface mesh → IsFirstOpenFault mesh fault → ⊥
no_fault mesh NoFace surface h = omega (arith, surface.some_face)
no_fault mesh (EdgeSides low high sides) surface h = not_few h.edge surface.few_sides
no_fault mesh NoBoundary surface h = h.none surface.boundary
no_fault mesh (Pinched vertex) surface h = h.vertex.pinched (surface.one_fan vertex.0 h.vertex.used)
no_fault mesh (Apart vertex other) surface h = grind arith
no_fault mesh OutOfMemory surface h = h
