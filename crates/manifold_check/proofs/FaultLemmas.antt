-- First faults exclude each other, and a closed manifold.
use Rattle.manifold_check.proofs.Common.{same_name, equal_pairs, one_pinch, IsFirstFault, IsLeastUnevenEdge, SurfaceFault, NoFace, EdgeSides, Pinched, OutOfMemory, ◌≡◌, ℕ, refl, ap, ◌∙◌, arith, FaceList, IsClosedManifold, sides_between}

uneven_not_two : (mesh : FaceList) (low high sides : ℕ) → IsLeastUnevenEdge mesh low high sides → sides_between mesh low high ≡ 2 → ⊥
uneven_not_two mesh low high sides h two = h.uneven (h.number ∙ two)

pub one_edge : (mesh : FaceList) (a b s c d t : ℕ) → IsLeastUnevenEdge mesh a b s → IsLeastUnevenEdge mesh c d t → (a ≡ c) × (b ≡ d)
    × (s ≡ t)
one_edge mesh a b s c d t h k = grind (arith, equal_pairs, uneven_not_two)

-- there is at most one first fault
pub one_fault : (mesh : FaceList) (fault other : SurfaceFault) → IsFirstFault mesh fault → IsFirstFault mesh other → fault ≡ other
one_fault mesh OutOfMemory other h k = absurd h
one_fault mesh fault OutOfMemory h k = absurd k
one_fault mesh NoFace NoFace h k = refl
one_fault mesh NoFace (EdgeSides low high sides) h k = absurd (omega (arith, k.some_face))
one_fault mesh NoFace (Pinched vertex) h k = absurd (omega (arith, k.some_face))
one_fault mesh (EdgeSides low high sides) NoFace h k = absurd (omega (arith, h.some_face))
one_fault mesh (EdgeSides a b s) (EdgeSides c d t) h k = grind (arith, one_edge, same_name)
one_fault mesh (EdgeSides low high sides) (Pinched vertex) h k = grind (arith, uneven_not_two)
one_fault mesh (Pinched vertex) NoFace h k = absurd (omega (arith, h.some_face))
one_fault mesh (Pinched vertex) (EdgeSides low high sides) h k = grind (arith, uneven_not_two)
one_fault mesh (Pinched vertex) (Pinched another) h k =
    ap Pinched (same_name vertex another (one_pinch mesh vertex.0 another.0 h.vertex k.vertex))

-- a closed manifold has none
pub no_fault : (mesh : FaceList) (fault : SurfaceFault) → IsClosedManifold mesh → IsFirstFault mesh fault → ⊥
no_fault mesh NoFace closed h = omega (arith, closed.some_face)
no_fault mesh (EdgeSides low high sides) closed h = grind (arith, uneven_not_two)
no_fault mesh (Pinched vertex) closed h = h.vertex.pinched (closed.one_ring vertex.0 h.vertex.used)
no_fault mesh OutOfMemory closed h = h
