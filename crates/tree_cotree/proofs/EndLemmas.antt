-- The nodes at an edge, as the table tells them: its two vertices, and the faces of its two sides.
use Rattle.tree_cotree.proofs.Common.{numbered, face_at_number, names_all, face_of, origin_of, twin_of, OrientedMesh, IsOrientedSurface, rotations_of, ◌≡◌, ◌≢◌, inl, inr, ℕ, ◌<◌, List, length, get_or, ap, sym, ◌∙◌, arith, Some, slice_get, edge_in, AreEnds}
use Rattle.halfedge_map.proofs.EdgeLemmas.{IsSideInTable, side_got, between_is, edge-twin, twin_is, two_sides}
use Rattle.halfedge_map.proofs.TwinLemmas.{twin_within, twin-twin, origin-twin}
use Rattle.std.proofs.lemmas.Option.{get_or_from_slice_get}
use Rattle.surf_model.proofs.PartnerLemmas.{table_edge, edge_sides_rise}
use Rattle.surf_model.specs.Darts.{side_number}
use Rattle.surf_model.specs.declared.edges.Side.{Side}

pub vertices_at : {s : OrientedMesh} → IsOrientedSurface s → (k low high : ℕ) → k < length s.table → low ≡ (edge_in s.table k).low
    → high ≡ (edge_in s.table k).high → AreEnds (rotations_of s) (origin_of s) k low high
vertices_at {s} o k low high l is_low is_high =
    let there = (names_all s o).each_edge k l in
    let d : ℕ = there.0 in
    elim (between_is s o low high k d l (inl (sym is_low, sym is_high)) there.1 there.2) [
      | inl on ↦ grind (arith, origin-twin)
      | inr back ↦ record {
        dart = twin_of s d;
        within = twin_within s o d there.1;
        on_edge = edge-twin s o d there.1 ∙ there.2;
        starts = origin-twin s o d there.1 ∙ back.1;
        ends = ap (origin_of s) (twin-twin s o d there.1) ∙ back.0;
      }
    ]

-- the sides of an edge are two
pub second_side : {s : OrientedMesh} → IsOrientedSurface s → (k : ℕ) → k < length s.table → 1 < length (edge_in s.table k).sides
second_side {s} o k l = omega (arith, two_sides s o k l)

pub faces_at : {s : OrientedMesh} → IsOrientedSurface s → (k : ℕ) (side other : Side) → k < length s.table
    → slice_get (edge_in s.table k).sides 0 ≡ Some side → slice_get (edge_in s.table k).sides 1 ≡ Some other
    → AreEnds (rotations_of s) (face_of s) k side.face.0 other.face.0
faces_at {s} o k side other l first second =
    let here : IsSideInTable s k side = side_got s o k 0 side l first in
    let there : IsSideInTable s k other = side_got s o k 1 other l second in
    let sides : List Side = (edge_in s.table k).sides in
    let d : ℕ = side_number s.mesh side in
    let e : ℕ = side_number s.mesh other in
    let rises : side_number s.mesh (get_or sides 0 side) < side_number s.mesh (get_or sides 1 side) =
    edge_sides_rise s.mesh (edge_in s.table k) (table_edge s.mesh s.table k o.table l) 0 1 side (omega arith) (second_side o k l) in
    let is_d : side_number s.mesh (get_or sides 0 side) ≡ d = ap (side_number s.mesh) (get_or_from_slice_get sides 0 side side first) in
    let is_e : side_number s.mesh (get_or sides 1 side) ≡ e = ap (side_number s.mesh) (get_or_from_slice_get sides 1 other side second) in
    let apart : e ≢ d = λ same. omega (arith, rises, is_d, is_e, same) in
    let twin : e ≡ twin_of s d = twin_is s o d e here.within there.within (sym here.edge ∙ there.edge) apart in
    record {
      dart = d;
      within = here.within;
      on_edge = sym here.edge;
      starts = face_at_number s side.face.0 side.at d (numbered s side here.in_mesh);
      ends = ap (face_of s) (sym twin) ∙ face_at_number s other.face.0 other.at e (numbered s other there.in_mesh);
    }
