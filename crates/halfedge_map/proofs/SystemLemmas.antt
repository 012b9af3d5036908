-- The darts of a surface make a rotation system.
use Rattle.halfedge_map.proofs.Common.{darts_of, face_of, origin_of, next_of, start_corner_of, dart_at_corner, StartsAtCorner, OrientedMesh, IsOrientedSurface, rotations_of, IsRotationSystem, HasSomeDart, NamesAll, ℕ, ◌<◌, [], length, sym, ◌∙◌, subst, arith, IsFaceList, IsFace, face_at}
use Rattle.halfedge_map.proofs.NumberLemmas.{HasPlace, placed}
use Rattle.halfedge_map.proofs.OrbitLemmas.{reached_keeps}
use Rattle.halfedge_map.proofs.DartLemmas.{next_within, next_injective, next_permutes, face-next, face_reached, origin-next, origin_at}
use Rattle.halfedge_map.proofs.DartLemmas.{face_at_number, corners, start_corner_within, dart_starts}
use Rattle.halfedge_map.proofs.TwinLemmas.{twin_within, twin_other, twin-twin, origin-twin, no_loop}
use Rattle.halfedge_map.proofs.VertexLemmas.{turned, turns_permute, origin-turned, origin_used, vertex_reached, vertex_has_dart}
use Rattle.halfedge_map.proofs.EdgeLemmas.{edge_darts, one_dart, dart_has_edge, edge_has_dart}
use Rattle.halfedge_map.proofs.WalkLemmas.{vertices_joined}

pub rotation_system : (s : OrientedMesh) → IsOrientedSurface s → IsRotationSystem (rotations_of s)
rotation_system s h =
    record {
      next_within = next_within s;
      twin_within = twin_within s h;
      next_injective = next_injective s;
      twin_back = twin-twin s h;
      twin_other = twin_other s h;
      follows = λ d l. origin-next s d l ∙ sym (origin-twin s h d l);
      no_loop = λ d l e. no_loop s h d l (sym (origin-twin s h d l) ∙ e);
      faces = λ d e l k. (
        face_reached s d e l k,
        λ reached. sym (reached_keeps (darts_of s) (next_of s) (face_of s) (next_permutes s) (face-next s) d e l reached),
      );
      edges = edge_darts s h;
      vertices = λ d e l k. (
        vertex_reached s h d e l k,
        λ reached. sym (reached_keeps (darts_of s) (turned s) (origin_of s) (turns_permute s h) (origin-turned s h) d e l reached),
      );
      one_dart = one_dart s h;
      connected = λ d e l k. vertices_joined s h (origin_of s d) (origin_of s e) (origin_used s d l) (origin_used s e k);
    }

origin_below : (s : OrientedMesh) → IsFaceList s.mesh → (d : ℕ) → d < darts_of s → origin_of s d < s.mesh.count
origin_below s h d l =
    let p : HasPlace s.mesh d = placed s.mesh d l in
    let c : ℕ = start_corner_of s d in
    let c_in : c < corners s p.face = start_corner_within s p.face p.place d p.numbered in
    let is_face : IsFace s.mesh.count (face_at s.mesh p.face) = h.faces p.face [] p.numbered.face in
    subst (λ v. v < s.mesh.count) (sym (origin_at s p.face p.place d p.numbered)) (is_face.in_range c 0 c_in)

face_below : (s : OrientedMesh) (d : ℕ) → d < darts_of s → face_of s d < length s.mesh.faces
face_below s d l =
    let p : HasPlace s.mesh d = placed s.mesh d l in
    subst (λ f. f < length s.mesh.faces) (sym (face_at_number s p.face p.place d p.numbered)) p.numbered.face

face_has_dart : (s : OrientedMesh) → IsFaceList s.mesh → (f : ℕ) → f < length s.mesh.faces → HasSomeDart s (face_of s) f
face_has_dart s h f l =
    let is_face : IsFace s.mesh.count (face_at s.mesh f) = h.faces f [] l in
    let first : StartsAtCorner s f 0 (dart_at_corner s f 0) = dart_starts s f 0 l (omega (arith, is_face.polygon)) in
    (dart_at_corner s f 0, first.within, first.face)

pub names_all : (s : OrientedMesh) → IsOrientedSurface s → NamesAll s
names_all s h = grind (arith, origin_below, origin_used, face_below, dart_has_edge, vertex_has_dart, face_has_dart, edge_has_dart)
