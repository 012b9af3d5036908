-- First faults exclude each other.
use Rattle.compact_surfaces.proofs.Common.{IsClosedFor, IsCompactSurface, IsConditionFault, IsCoverBeyond, IsFirstCompactFault, IsLimitFault, CompactFault, NoFace, EdgeSides, Pinched, Double, Cover, OutOfMemory, not_too_large, one_limit, one_ways, cover_by, ◌≡◌, ℕ, Bool, List, refl, ap, sym, ◌∙◌, subst, inl, inr, arith, cases_order, FaceList, HasFileSize}
use Rattle.connectivity.specs.Joined.{IsLeastPinch}
use Rattle.doubling.specs.DoubleFaults.{IsTooLarge}
use Rattle.doubling.specs.declared.fault.DoubleFault.{DoubleFault}
use Rattle.free_forms.specs.declared.fault.OpenFault.{OpenFault}
use Rattle.surf_model.specs.declared.names.VertexName.{VertexName}
use Rattle.free_forms.proofs.FaultLemmas as open_faults
use Rattle.free_forms.specs.declared.fault.OpenFault.TheVariants as opened

-- ---- what answers for a surface

closed_is_one : (mesh closed other : FaceList) → IsClosedFor mesh closed → IsClosedFor mesh other → closed ≡ other
closed_is_one mesh closed other h k =
    elim h [
      | inl double ↦ elim k [ inl too ↦ double.1 ∙ sym too.1 | inr none ↦ absurd (none.0 double.0) ]
      | inr none ↦ elim k [ inl double ↦ absurd (none.0 double.0) | inr too ↦ none.1 ∙ sym too.1 ]
    ]

one_cover_limit : (closed : FaceList) (a b : DoubleFault) → IsCoverBeyond closed a → IsCoverBeyond closed b → a ≡ b
one_cover_limit closed a b h k =
    one_limit (cover_by closed h.bits) a b h.beyond
    (subst (λ (bits : List Bool). IsTooLarge (cover_by closed bits) b) (one_ways closed k.bits h.bits k.ways h.ways) k.beyond)

-- ---- the conditions

one_pinch : (mesh : FaceList) (v w : ℕ) → IsLeastPinch mesh v → IsLeastPinch mesh w → v ≡ w
one_pinch mesh v w h k =
    elim (cases_order v w) [
      | inl same ↦ same
      | inr apart ↦ elim apart [
        | inl less ↦ absurd (h.pinched (k.least v less h.used))
        | inr more ↦ absurd (k.pinched (h.least w more k.used))
      ]
    ]

abbrev of_open : OpenFault → CompactFault
of_open (opened.EdgeSides low high sides) = EdgeSides low high sides
of_open (opened.Pinched vertex) = Pinched vertex
of_open opened.NoFace = NoFace
of_open opened.NoBoundary = OutOfMemory
of_open (opened.Apart vertex other) = OutOfMemory
of_open opened.OutOfMemory = OutOfMemory

one_condition : (mesh : FaceList) (fault other : CompactFault) → IsConditionFault mesh fault → IsConditionFault mesh other → fault ≡ other
one_condition mesh OutOfMemory other h k = absurd h
one_condition mesh (Double limit) other h k = absurd h
one_condition mesh (Cover limit) other h k = absurd h
one_condition mesh fault OutOfMemory h k = absurd k
one_condition mesh fault (Double limit) h k = absurd k
one_condition mesh fault (Cover limit) h k = absurd k
one_condition mesh NoFace NoFace h k = refl
one_condition mesh NoFace (EdgeSides low high sides) h k = absurd (omega (arith, h, k.some_face))
one_condition mesh NoFace (Pinched vertex) h k = absurd (omega (arith, h, k.some_face))
one_condition mesh (EdgeSides low high sides) NoFace h k = absurd (omega (arith, k, h.some_face))
one_condition mesh (EdgeSides a b s) (EdgeSides c d t) h k =
    ap of_open (open_faults.one_fault mesh (opened.EdgeSides a b s) (opened.EdgeSides c d t) h k)
one_condition mesh (EdgeSides low high sides) (Pinched vertex) h k =
    absurd (omega (arith, h.edge.number, h.edge.crowded, k.few_sides low.0 high.0))
one_condition mesh (Pinched vertex) NoFace h k = absurd (omega (arith, k, h.some_face))
one_condition mesh (Pinched vertex) (EdgeSides low high sides) h k =
    absurd (omega (arith, k.edge.number, k.edge.crowded, h.few_sides low.0 high.0))
one_condition mesh (Pinched vertex) (Pinched other) h k =
    let name : ℕ → VertexName = λ v. record { 0 = v } in
    ap (λ v. Pinched (name v)) (one_pinch mesh vertex.0 other.0 h.vertex k.vertex)

no_condition : (mesh : FaceList) (fault : CompactFault) → IsCompactSurface mesh → IsConditionFault mesh fault → ⊥
no_condition mesh NoFace is h = omega (arith, h, is.some_face)
no_condition mesh (EdgeSides low high sides) is h = omega (arith, h.edge.number, h.edge.crowded, is.few_sides low.0 high.0)
no_condition mesh (Pinched vertex) is h = h.vertex.pinched (is.one_ring vertex.0 h.vertex.used)
no_condition mesh (Double limit) is h = h
no_condition mesh (Cover limit) is h = h
no_condition mesh OutOfMemory is h = h

-- ---- the limits

is_compact : (mesh : FaceList) (fault : CompactFault) → IsLimitFault mesh fault → IsCompactSurface mesh
is_compact mesh (Double limit) h = h.compact
is_compact mesh (Cover limit) h = h.compact
is_compact mesh NoFace h = absurd h
is_compact mesh (EdgeSides low high sides) h = absurd h
is_compact mesh (Pinched vertex) h = absurd h
is_compact mesh OutOfMemory h = absurd h

-- where what answers for a surface fits, so that it is no double beyond a limit, and its cover fits
no_limit : (mesh closed : FaceList) (fault : CompactFault) → IsClosedFor mesh closed → HasFileSize closed
    → ((limit : DoubleFault) → IsCoverBeyond closed limit → ⊥) → IsLimitFault mesh fault → ⊥
no_limit mesh closed (Double limit) answers small fits h =
    let same = closed_is_one mesh closed _ answers (inl (h.boundary, refl)) in
    not_too_large _ limit (subst HasFileSize same small) h.beyond
no_limit mesh closed (Cover limit) answers small fits h =
    fits limit (subst (λ (m : FaceList). IsCoverBeyond m limit) (closed_is_one mesh h.closed closed h.answers answers) h.cover)
no_limit mesh closed NoFace answers small fits h = h
no_limit mesh closed (EdgeSides low high sides) answers small fits h = h
no_limit mesh closed (Pinched vertex) answers small fits h = h
no_limit mesh closed OutOfMemory answers small fits h = h

one_beyond : (mesh : FaceList) (fault other : CompactFault) → IsLimitFault mesh fault → IsLimitFault mesh other → fault ≡ other
one_beyond mesh (Double a) (Double b) h k = ap Double (one_limit _ a b h.beyond k.beyond)
one_beyond mesh (Double a) (Cover b) h k =
    let same = closed_is_one mesh k.closed _ k.answers (inl (h.boundary, refl)) in
    absurd (not_too_large _ a (subst HasFileSize same k.fits) h.beyond)
one_beyond mesh (Cover a) (Double b) h k =
    let same = closed_is_one mesh h.closed _ h.answers (inl (k.boundary, refl)) in
    absurd (not_too_large _ b (subst HasFileSize same h.fits) k.beyond)
one_beyond mesh (Cover a) (Cover b) h k =
    let same = closed_is_one mesh k.closed h.closed k.answers h.answers in
    ap Cover (one_cover_limit h.closed a b h.cover (subst (λ (m : FaceList). IsCoverBeyond m b) same k.cover))
one_beyond mesh NoFace other h k = absurd h
one_beyond mesh (EdgeSides low high sides) other h k = absurd h
one_beyond mesh (Pinched vertex) other h k = absurd h
one_beyond mesh OutOfMemory other h k = absurd h
one_beyond mesh fault NoFace h k = absurd k
one_beyond mesh fault (EdgeSides low high sides) h k = absurd k
one_beyond mesh fault (Pinched vertex) h k = absurd k
one_beyond mesh fault OutOfMemory h k = absurd k

-- ---- all faults

pub one_first : (mesh : FaceList) (fault other : CompactFault) → IsFirstCompactFault mesh fault → IsFirstCompactFault mesh other
    → fault ≡ other
one_first mesh fault other h k =
    elim h [
      | inl one ↦ elim k [
        | inl two ↦ one_condition mesh fault other one two
        | inr limit ↦ absurd (no_condition mesh fault (is_compact mesh other limit) one)
      ]
      | inr limit ↦ elim k [
        | inl one ↦ absurd (no_condition mesh other (is_compact mesh fault limit) one)
        | inr two ↦ one_beyond mesh fault other limit two
      ]
    ]

pub no_first : (mesh closed : FaceList) (fault : CompactFault) → IsCompactSurface mesh → IsClosedFor mesh closed → HasFileSize closed
    → ((limit : DoubleFault) → IsCoverBeyond closed limit → ⊥) → IsFirstCompactFault mesh fault → ⊥
no_first mesh closed fault is answers small fits h =
    elim h [
      | inl one ↦ no_condition mesh fault is one
      | inr limit ↦ no_limit mesh closed fault answers small fits limit
    ]
