-- Each component of a mesh is a part that no edge joins to the rest.
use Rattle.manifold_check.proofs.Common.{used_corner, walk_from_joined, IsEdgeStep, ◌≡◌, ℕ, zero, suc, ◌+◌, ◌<◌, ◌≤◌, true, eqb, List, [], length, get_or, refl, ap, sym, ◌∙◌, subst, arith, add-one, eq-eqb, eqb-true, nat_tests, get_or_default, All, step_edge, tail_used, head_used, PartsView, AreParts, component_at, component_mesh, ArePlacesOfComponents, HasLeastVertex, EachTwoAreJoined, place_of_face, faces_of_component, FaceList, IsFace, IsFaceList, face_at, next_corner, is_edge, submesh, AreJoinedByWalk, IsWalkBetween, IsClosedManifold, IsClosed, IsWalk}
use Rattle.connectivity.proofs.Joining.{joined_step}
use Rattle.surf_model.proofs.EdgeLemmas.{corner_used}
use Rattle.manifold_check.proofs.PieceLemmas.{IsPiece, HasPlaceAmong, piece_by_test, walk_down, walk_up, used_up}
use Rattle.manifold_check.proofs.PieceSurfaces.{manifold_alone}

-- the vertices of component k
abbrev pub IsOfComponent : List ℕ → ℕ → ℕ → Type 0
IsOfComponent places k v = get_or places v 0 ≡ k

-- an edge joins vertices of one component
pub edge_same_place : (mesh : FaceList) (count : ℕ) (places : List ℕ) (u v : ℕ) → ArePlacesOfComponents mesh count places
    → is_edge mesh u v ≡ true → get_or places u 0 ≡ get_or places v 0
edge_same_place mesh count places u v h is =
    (h.joined u v (tail_used mesh u v is) (head_used mesh u v is)).1
    (walk_from_joined mesh u v (tail_used mesh u v is) (joined_step (IsEdgeStep mesh) u v is))

next_is : (m t : ℕ) → t + 1 < m → next_corner true m t ≡ suc t
next_is m t l = grind (arith, nat_tests)

-- the corners of a face are of one component
pub face_same_place : (mesh : FaceList) (count : ℕ) (places : List ℕ) (f t : ℕ) → ArePlacesOfComponents mesh count places
    → f < length mesh.faces → t < length (face_at mesh f) → get_or places (get_or (face_at mesh f) t 0) 0 ≡ place_of_face mesh places f
face_same_place mesh count places f zero h l b = refl
face_same_place mesh count places f (suc t) h l b =
    let ring : List ℕ = face_at mesh f in
    let few : t < length ring = omega arith in
    let step : get_or places (get_or ring t 0) 0 ≡ get_or places (get_or ring (next_corner true (length ring) t) 0) 0 =
    edge_same_place mesh count places (get_or ring t 0) (get_or ring (next_corner true (length ring) t) 0) h
    (step_edge mesh f true t l few) in
    ap (λ n. get_or places (get_or ring n 0) 0) (sym (next_is (length ring) t (omega arith))) ∙ sym step
    ∙ face_same_place mesh count places f t h l few

component_piece : (mesh : FaceList) (count : ℕ) (places : List ℕ) (k : ℕ) → ArePlacesOfComponents mesh count places
    → IsPiece mesh (IsOfComponent places k) (faces_of_component mesh places k)
component_piece mesh count places k h =
    piece_by_test mesh (IsOfComponent places k) (λ f. eqb (place_of_face mesh places f) k)
    (λ f t l passes b. face_same_place mesh count places f t h l b ∙ eqb-true (place_of_face mesh places f) k passes)
    (λ f t l b inside. eq-eqb (place_of_face mesh places f) k (sym (face_same_place mesh count places f t h l b) ∙ inside))

pub piece_of_parts : (mesh : FaceList) (parts : PartsView) (k : ℕ) → AreParts mesh parts → k < length parts.components
    → IsPiece mesh (IsOfComponent parts.places k) (component_at parts k)
piece_of_parts mesh parts k h l =
    subst (IsPiece mesh (IsOfComponent parts.places k)) (sym (h.faces k l))
    (component_piece mesh (length parts.components) parts.places k h.places)

-- each component has a face
pub some_face_of : (mesh : FaceList) (parts : PartsView) (k : ℕ) → AreParts mesh parts → k < length parts.components
    → 0 < length (component_at parts k)
some_face_of mesh parts k h l =
    let piece : IsPiece mesh (IsOfComponent parts.places k) (component_at parts k) = piece_of_parts mesh parts k h l in
    let least : HasLeastVertex mesh parts.places k = h.places.each_place k l in
    let corner = used_corner mesh least.vertex least.least.used in
    let found : HasPlaceAmong (component_at parts k) corner.0.face.0 = grind arith in
    omega (arith, found.within)

-- the vertices of a component are joined by walks along its own faces
connected_alone : (mesh : FaceList) (parts : PartsView) (k : ℕ) → AreParts mesh parts → k < length parts.components
    → EachTwoAreJoined (component_mesh mesh parts k)
connected_alone mesh parts k h l u v used_u used_v =
    let names : List ℕ = component_at parts k in
    let piece : IsPiece mesh (IsOfComponent parts.places k) names = piece_of_parts mesh parts k h l in
    let at_u = used_up mesh (IsOfComponent parts.places k) names u piece used_u in
    let at_v = used_up mesh (IsOfComponent parts.places k) names v piece used_v in
    let walk : AreJoinedByWalk mesh u v = (h.places.joined u v at_u.0 at_v.0).0 (at_u.1 ∙ sym at_v.1) in
    let is : IsWalkBetween mesh u v walk.0 = walk.1 in (
      walk.0,
      record {
        walk_of = walk_down mesh (IsOfComponent parts.places k) names walk.0 piece is.walk_of
            (subst (IsOfComponent parts.places k) (sym is.starts) at_u.1);
        starts = is.starts;
        ends = is.ends;
      },
    )

-- each component of a closed manifold is a connected closed surface
pub closed_alone : (mesh : FaceList) (parts : PartsView) (k : ℕ) → AreParts mesh parts → k < length parts.components
    → IsClosedManifold mesh → IsClosed (component_mesh mesh parts k)
closed_alone mesh parts k h l closed =
    let names : List ℕ = component_at parts k in
    let alone : IsClosedManifold (submesh mesh names) =
    manifold_alone mesh (IsOfComponent parts.places k) names (piece_of_parts mesh parts k h l) (some_face_of mesh parts k h l) closed in
    record {
      some_face = alone.some_face;
      two_sides = alone.two_sides;
      one_ring = alone.one_ring;
      connected = connected_alone mesh parts k h l;
    }

-- a mesh of one component at most is connected, and a connected one has no more
pub few_joined : (mesh : FaceList) (parts : PartsView) → AreParts mesh parts → length parts.components ≤ 1 → EachTwoAreJoined mesh
few_joined mesh parts h few u v used_u used_v = grind arith

pub joined_few : (mesh : FaceList) (parts : PartsView) → AreParts mesh parts → EachTwoAreJoined mesh → length parts.components ≤ 1
joined_few mesh parts h joined = grind arith

pub one_component : (mesh : FaceList) (parts : PartsView) → AreParts mesh parts → length parts.components ≡ 1 → EachTwoAreJoined mesh
one_component mesh parts h one = few_joined mesh parts h (omega (arith, one))

-- a mesh with a face has a component, so a connected one has just one
pub joined_one : (mesh : FaceList) (parts : PartsView) → IsFaceList mesh → AreParts mesh parts → 0 < length mesh.faces
    → EachTwoAreJoined mesh → length parts.components ≡ 1
joined_one mesh parts valid h some joined =
    let face : IsFace mesh.count (face_at mesh 0) = valid.faces 0 [] some in
    let below = h.places.below (get_or (face_at mesh 0) 0 0) (corner_used mesh 0 0 some (omega (arith, face.polygon))) in
    omega (arith, below, joined_few mesh parts h joined)

-- a walk stays in the component of its first vertex
pub walk_same_place : (mesh : FaceList) (parts : PartsView) (walk : List ℕ) (k : ℕ) → AreParts mesh parts → IsWalk mesh walk
    → k < length walk → get_or parts.places (get_or walk k 0) 0 ≡ get_or parts.places (get_or walk 0 0) 0
walk_same_place mesh parts walk zero h w l = refl
walk_same_place mesh parts walk (suc k) h w l =
    let step : is_edge mesh (get_or walk k 0) (get_or walk (suc k) 0) ≡ true = grind (arith, add-one) in
    sym (edge_same_place mesh (length parts.components) parts.places (get_or walk k 0) (get_or walk (suc k) 0) h.places step)
    ∙ walk_same_place mesh parts walk k h w (omega arith)

pub walk_alone : (mesh : FaceList) (parts : PartsView) (k : ℕ) (walk : List ℕ) → AreParts mesh parts → k < length parts.components
    → IsWalk mesh walk → get_or parts.places (get_or walk 0 0) 0 ≡ k → IsWalk (component_mesh mesh parts k) walk
walk_alone mesh parts k walk h l w start =
    walk_down mesh (IsOfComponent parts.places k) (component_at parts k) walk (piece_of_parts mesh parts k h l) w start

pub walk_whole : (mesh : FaceList) (parts : PartsView) (k : ℕ) (walk : List ℕ) → AreParts mesh parts → k < length parts.components
    → IsWalk (component_mesh mesh parts k) walk → IsWalk mesh walk × (get_or parts.places (get_or walk 0 0) 0 ≡ k)
walk_whole mesh parts k walk h l w =
    let piece : IsPiece mesh (IsOfComponent parts.places k) (component_at parts k) = piece_of_parts mesh parts k h l in (
      walk_up mesh (IsOfComponent parts.places k) (component_at parts k) walk piece w,
      (used_up mesh (IsOfComponent parts.places k) (component_at parts k) (get_or walk 0 0) piece (w.used 0 0 w.starts)).1,
    )

-- the faces of a component are faces of the mesh
pub names_within : (mesh : FaceList) (parts : PartsView) (k : ℕ) → AreParts mesh parts → k < length parts.components
    → All (λ f. f < length mesh.faces) (component_at parts k)
names_within mesh parts k h l i d few =
    let names : List ℕ = component_at parts k in
    subst (λ f. f < length mesh.faces) (get_or_default names i 0 d few) ((piece_of_parts mesh parts k h l).each i few)
