-- A double cover of a closed manifold is one, and that by ways round the vertices is orientable.
use Rattle.closed_covers.proofs.Common.{all_faces, lead_home, cover_orientable, AreTurns, cover_of, ℕ, Bool, List, arith, EachTwoAreJoined, FaceList, IsFaceList, IsClosed, IsClosedManifold, IsOrientable, IsSurface}
use Rattle.orientation_cover.proofs.CoverLemmas.{turning}
use Rattle.orientation_cover.proofs.TurnLemmas.{ways_turn}
use Rattle.orientation_cover.specs.Turns.{cover_by}
use Rattle.orientation_cover.specs.Ways.{told_by, AreWays}
use Rattle.surf_model.specs.OrientableSurfaces.{IsOrientableSurface}
use Rattle.closed_covers.proofs.CoverEdges.{cover_two_sides}
use Rattle.closed_covers.proofs.CoverRings.{cover_rings}
use Rattle.closed_covers.proofs.JoinedCovers.{cover_joined}

pub cover_manifold : (mesh : FaceList) (turns : ℕ → ℕ → Bool) → IsFaceList mesh → AreTurns mesh turns → IsClosedManifold mesh
    → IsClosedManifold (cover_of mesh turns)
cover_manifold mesh turns valid are is = record {
  some_face = omega (arith, is.some_face, all_faces mesh turns);
  two_sides = cover_two_sides mesh turns valid are is.two_sides;
  one_ring = cover_rings mesh turns are valid is.one_ring;
}

pub turns_home : (mesh : FaceList) (bits : List Bool) → IsFaceList mesh → AreWays mesh bits → AreTurns mesh (turning mesh bits)
turns_home mesh bits valid are =
    lead_home mesh (told_by mesh bits) (turning mesh bits) (ways_turn mesh (told_by mesh bits) valid are.ways)

pub cover_surface : (mesh : FaceList) (bits : List Bool) → IsFaceList mesh → AreWays mesh bits → IsClosedManifold mesh
    → IsOrientableSurface (cover_by mesh bits)
cover_surface mesh bits valid are is = record {
  manifold = cover_manifold mesh (turning mesh bits) valid (turns_home mesh bits valid are) is;
  orientable =
      cover_orientable mesh (told_by mesh bits) (turning mesh bits) valid are.ways (ways_turn mesh (told_by mesh bits) valid are.ways);
}

pub orientation_cover_joined : (mesh : FaceList) (bits : List Bool) → IsFaceList mesh → AreWays mesh bits → EachTwoAreJoined mesh
    → (IsOrientable mesh → ⊥) → EachTwoAreJoined (cover_by mesh bits)
orientation_cover_joined mesh bits valid are =
    cover_joined mesh (told_by mesh bits) (turning mesh bits) valid are.ways (ways_turn mesh (told_by mesh bits) valid are.ways)

pub cover_connected : (mesh : FaceList) (bits : List Bool) → IsFaceList mesh → AreWays mesh bits → IsClosed mesh
    → (IsOrientable mesh → ⊥) → IsSurface (cover_by mesh bits)
cover_connected mesh bits valid are is twisted =
    let manifold : IsClosedManifold mesh = record { some_face = is.some_face; two_sides = is.two_sides; one_ring = is.one_ring } in
    let surface : IsOrientableSurface (cover_by mesh bits) = cover_surface mesh bits valid are manifold in
    record {
      closed = record {
        some_face = surface.manifold.some_face;
        two_sides = surface.manifold.two_sides;
        one_ring = surface.manifold.one_ring;
        connected = orientation_cover_joined mesh bits valid are is.connected twisted;
      };
      orientable = surface.orientable;
    }
