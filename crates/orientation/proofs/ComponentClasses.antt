-- The classes of faces of a closed manifold are its components.
use Rattle.orientation.proofs.Common.{after_in_mesh, corner_used, joined_refl, joined_step, joined_trans, joined_sym, IsFaceStep, AreOfOneClass, ◌≡◌, inl, inr, ℕ, zero, suc, ◌<◌, true, List, [], ◌∷◌, length, get_or, refl, ap, sym, subst, arith, nat_tests, ◌↔◌, step_edge, IsSide, side_after, tail_of, FaceList, IsFaceList, face_at, next_corner, is_edge, IsPath, AreJoined, ArePartners, IsCornerAt, IsCornerOfSide, IsStepAround, HasOneRing, AreJoinedByWalk, IsClosedManifold, Side}
use Rattle.connectivity.proofs.EdgeLemmas.{HasSideBetween, side_between, edge_swap}
use Rattle.connectivity.proofs.WalkLemmas.{joined_from_walk, walk_from_joined}
use Rattle.connectivity.specs.Partitions.{IsEdgeStep}

-- ---- from the vertices to the faces

corner_face : (mesh : FaceList) (v : ℕ) (side corner : Side) → IsCornerOfSide mesh v side corner → side.face.0 ≡ corner.face.0
corner_face mesh v side corner (inl h) = ap (λ (s : Side). s.face.0) (sym h.1)
corner_face mesh v side corner (inr h) = ap (λ (s : Side). s.face.0) (sym h.1)

around_step : {mesh : FaceList} {v : ℕ} {corner other : Side} → IsStepAround mesh v corner other
    → IsFaceStep mesh corner.face.0 other.face.0
around_step {mesh} {v} {corner} {other} h = record {
  side = h.side;
  partner = h.partner;
  partners = h.partners;
  from = corner_face mesh v h.side corner h.from;
  to = corner_face mesh v h.partner other h.to;
}

around_path : (mesh : FaceList) (v : ℕ) (corner : Side) (path : List Side) (other : Side) → IsPath (IsStepAround mesh v) corner path other
    → AreOfOneClass mesh corner.face.0 other.face.0
around_path mesh v corner [] other h = joined_refl (IsFaceStep mesh) _ _ (ap (λ (s : Side). s.face.0) h)
around_path mesh v corner (next ∷ path) other h =
    joined_trans (IsFaceStep mesh) corner.face.0 next.face.0 other.face.0
    (joined_step (IsFaceStep mesh) corner.face.0 next.face.0 (around_step h.0)) (around_path mesh v next path other h.1)

-- the faces of two corners at a vertex
at_vertex : {mesh : FaceList} {v : ℕ} {corner other : Side} → IsClosedManifold mesh → IsCornerAt mesh v corner → IsCornerAt mesh v other
    → AreOfOneClass mesh corner.face.0 other.face.0
at_vertex {mesh} {v} {corner} {other} closed first second =
    let ring : HasOneRing mesh v = closed.one_ring v (corner_used mesh v corner first) in
    let joined : AreJoined (IsStepAround mesh v) corner other = ring corner other first second in
    around_path mesh v corner joined.0 other joined.1

-- the two corners of a side, at the ends of its edge
record HasCorners (mesh : FaceList) (u v : ℕ) : Type 0 where
  pub first : Side
  pub second : Side
  pub at_first : IsCornerAt mesh u first
  pub at_second : IsCornerAt mesh v second
  pub one_face : first.face.0 ≡ second.face.0

corners_between : (mesh : FaceList) (u v : ℕ) → is_edge mesh u v ≡ true → HasCorners mesh u v
corners_between mesh u v is =
    let found : HasSideBetween mesh u v = side_between mesh u v is in
    let after = after_in_mesh mesh found.side found.in_mesh in
    elim found.ends [
      | inl e ↦ record {
        first = found.side;
        second = side_after mesh found.side;
        at_first = record { side = found.in_mesh; vertex = e.0 };
        at_second = record { side = after; vertex = e.1 };
        one_face = refl;
      }
      | inr e ↦ record {
        first = side_after mesh found.side;
        second = found.side;
        at_first = record { side = after; vertex = e.1 };
        at_second = record { side = found.in_mesh; vertex = e.0 };
        one_face = refl;
      }
    ]

along_path : (mesh : FaceList) (u : ℕ) (path : List ℕ) (v : ℕ) (corner other : Side) → IsClosedManifold mesh
    → IsPath (IsEdgeStep mesh) u path v → IsCornerAt mesh u corner → IsCornerAt mesh v other
    → AreOfOneClass mesh corner.face.0 other.face.0
along_path mesh u [] v corner other closed h first second = at_vertex closed (subst (λ w. IsCornerAt mesh w corner) h first) second
along_path mesh u (w ∷ path) v corner other closed h first second =
    let between : HasCorners mesh u w = corners_between mesh u w h.0 in
    joined_trans (IsFaceStep mesh) corner.face.0 between.first.face.0 other.face.0 (at_vertex closed first between.at_first)
    (subst (λ f. AreOfOneClass mesh f other.face.0) (sym between.one_face)
    (along_path mesh w path v between.second other closed h.1 between.at_second second))

-- ---- from the faces to the vertices

next_is : (m t : ℕ) → suc t < m → next_corner true m t ≡ suc t
next_is m t l = grind (arith, nat_tests)

-- the corners of a face are joined by its sides
face_joined : (mesh : FaceList) (f t : ℕ) → f < length mesh.faces → t < length (face_at mesh f)
    → AreJoined (IsEdgeStep mesh) (get_or (face_at mesh f) 0 0) (get_or (face_at mesh f) t 0)
face_joined mesh f zero l b = joined_refl (IsEdgeStep mesh) _ _ refl
face_joined mesh f (suc t) l b =
    let ring : List ℕ = face_at mesh f in
    let few : t < length ring = omega arith in
    let step : IsEdgeStep mesh (get_or ring t 0) (get_or ring (next_corner true (length ring) t) 0) = step_edge mesh f true t l few in
    joined_trans (IsEdgeStep mesh) (get_or ring 0 0) (get_or ring t 0) (get_or ring (suc t) 0) (face_joined mesh f t l few)
    (joined_step (IsEdgeStep mesh) (get_or ring t 0) (get_or ring (suc t) 0)
    (subst (λ n. IsEdgeStep mesh (get_or ring t 0) (get_or ring n 0)) (next_is (length ring) t b) step))

abbrev first_of : FaceList → ℕ → ℕ
first_of mesh f = get_or (face_at mesh f) 0 0

side_joined : {mesh : FaceList} {side : Side} → IsSide mesh side
    → AreJoined (IsEdgeStep mesh) (first_of mesh side.face.0) (tail_of mesh side)
side_joined {mesh} {side} h = face_joined mesh side.face.0 side.at h.face h.place

partners_joined : {mesh : FaceList} {side partner : Side} → ArePartners mesh side partner
    → AreJoined (IsEdgeStep mesh) (first_of mesh side.face.0) (first_of mesh partner.face.0)
partners_joined {mesh} {side} {partner} h =
    let there = side_joined h.first in
    let back : (corner : Side) → IsSide mesh corner → tail_of mesh side ≡ tail_of mesh corner
    → AreJoined (IsEdgeStep mesh) (first_of mesh side.face.0) (first_of mesh corner.face.0) =
    λ corner in_mesh same. joined_trans (IsEdgeStep mesh) (first_of mesh side.face.0) (tail_of mesh side) (first_of mesh corner.face.0)
    there (subst (λ v. AreJoined (IsEdgeStep mesh) v (first_of mesh corner.face.0)) (sym same)
    (joined_sym (IsEdgeStep mesh) (edge_swap mesh) (first_of mesh corner.face.0) (tail_of mesh corner) (side_joined in_mesh))) in
    elim h.one_edge [
      | inl e ↦ back partner h.second e.0
      | inr e ↦ back (side_after mesh partner) (after_in_mesh mesh partner h.second) e.0
    ]

class_path : (mesh : FaceList) (f : ℕ) (path : List ℕ) (g : ℕ) → IsPath (IsFaceStep mesh) f path g
    → AreJoined (IsEdgeStep mesh) (first_of mesh f) (first_of mesh g)
class_path mesh f [] g h = joined_refl (IsEdgeStep mesh) _ _ (ap (first_of mesh) h)
class_path mesh f (next ∷ path) g h =
    joined_trans (IsEdgeStep mesh) (first_of mesh f) (first_of mesh next) (first_of mesh g)
    (subst (λ a. AreJoined (IsEdgeStep mesh) (first_of mesh a) (first_of mesh next)) h.0.from
    (subst (λ b. AreJoined (IsEdgeStep mesh) (first_of mesh h.0.side.face.0) (first_of mesh b)) h.0.to (partners_joined h.0.partners)))
    (class_path mesh next path g h.1)

-- ---- both ways

corner_of_face : {mesh : FaceList} (f : ℕ) → IsFaceList mesh → f < length mesh.faces
    → IsCornerAt mesh (first_of mesh f) (record { face = record { 0 = f }; at = 0 })
corner_of_face f valid l =
    let is_face = valid.faces f [] l in
    record { side = record { face = l; place = omega (arith, is_face.polygon) }; vertex = refl }

pub classes_are_components : (mesh : FaceList) (f g : ℕ) → IsFaceList mesh → IsClosedManifold mesh → f < length mesh.faces
    → g < length mesh.faces → AreOfOneClass mesh f g ↔ AreJoinedByWalk mesh (first_of mesh f) (first_of mesh g)
classes_are_components mesh f g valid closed lf lg = (there, back)
  where
    there : AreOfOneClass mesh f g → AreJoinedByWalk mesh (first_of mesh f) (first_of mesh g)
    there h =
        let corner = corner_of_face f valid lf in
        walk_from_joined mesh (first_of mesh f) (first_of mesh g) (corner_used mesh (first_of mesh f) _ corner)
        (class_path mesh f h.0 g h.1)

    back : AreJoinedByWalk mesh (first_of mesh f) (first_of mesh g) → AreOfOneClass mesh f g
    back h =
        let joined = joined_from_walk mesh (first_of mesh f) (first_of mesh g) h in
        along_path mesh (first_of mesh f) joined.0 (first_of mesh g) _ _ closed joined.1 (corner_of_face f valid lf)
        (corner_of_face g valid lg)
