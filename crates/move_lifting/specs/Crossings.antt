-- Steps round a face, and the face below an edge of the cotree.
use Rattle.std.specs.Prelude.{◌≡◌, ◌≢◌, ◌⊎◌, ℕ, ◌+◌, ◌-◌, ◌<◌, Bool, true, false, not, if◌then◌else◌, max, List, [], ◌∷◌, ◌++◌, length, slice_index, Some}
use Rattle.surf_model.specs.FaceLists.{FaceList, face_at, next_corner}
use Rattle.surf_model.specs.Darts.{tail_of}
use Rattle.surf_model.specs.Surfaces.{is_flipped}
use Rattle.surf_model.specs.Walks.{darts}
use Rattle.surf_model.specs.declared.edges.Side.{Side}
use Rattle.surf_model.specs.declared.moves.Move.TheVariants.{Across}
use Rattle.surf_model.proofs.RoundLemmas.{corners_before}
use Rattle.halfedge_map.specs.OrientedMeshes.{OrientedMesh}
use Rattle.halfedge_map.specs.DartMaps.{darts_of, edge_of, face_of, start_corner_of, twin_of}
use Rattle.halfedge_map.specs.RotationSystems.{rotations_of, IsDartFrom}
use Rattle.tree_cotree.specs.Splits.{SplitView, below_edge}
use Rattle.move_lifting.specs.Tracks.{TrackView}
use Rattle.move_lifting.specs.declared.crossing.FaceStep.{FaceStep}

-- the step is one from a corner of a face of the mesh
pub record IsStepOf (mesh : FaceList) (step : FaceStep) : Type 0 where
  pub face : step.face.0 < length mesh.faces
  pub corner : step.corner < length (face_at mesh step.face.0)

-- the step goes along the side: as the face lists it if it starts at the vertex, and else the other way
pub record GoesAlong (mesh : FaceList) (side : Side) (from : ℕ) (step : FaceStep) : Type 0 where
  pub face : step.face ≡ side.face
  pub way : ((tail_of mesh side ≡ from) × (step.corner ≡ side.at) × (step.forward ≡ true))
      ⊎ ((tail_of mesh side ≢ from) × (step.corner ≡ next_corner true (length (face_at mesh side.face.0)) side.at) × (step.forward ≡ false))

-- the step begins where the dart starts in its face, and goes along it, or if `back` the other way round the face
pub record IsStepFrom (surface : OrientedMesh) (dart : ℕ) (back : Bool) (step : FaceStep) : Type 0 where
  pub face : step.face.0 ≡ face_of surface dart
  pub corner : step.corner ≡ start_corner_of surface dart
  pub way : step.forward
      ≡ (if back then is_flipped surface.signs (face_of surface dart) else not (is_flipped surface.signs (face_of surface dart)))

-- of a dart and its twin, the dart itself if it lies in the face, and else the twin
pub record IsOneIn (surface : OrientedMesh) (dart face chosen : ℕ) : Type 0 where
  pub within : chosen < darts_of surface
  pub either : ((face_of surface dart ≡ face) × (chosen ≡ dart)) ⊎ ((face_of surface dart ≢ face) × (chosen ≡ twin_of surface dart))

-- the face of the step is the one below the edge from u to v, and the step goes from u to v
pub record IsFaceBelow (surface : OrientedMesh) (split : SplitView) (u v : ℕ) (step : FaceStep) : Type 0 where
  pub dart : ℕ
  pub from : IsDartFrom (rotations_of surface) u v dart
  pub below : below_edge split (edge_of surface dart) ≡ Some step.face.0
  pub is_step : IsStepOf surface.mesh step
  pub starts : slice_index (face_at surface.mesh step.face.0) step.corner ≡ u
  pub ends :
      slice_index (face_at surface.mesh step.face.0) (next_corner step.forward (length (face_at surface.mesh step.face.0)) step.corner)
      ≡ v

-- the vertices of the face beyond the start of the step, all round in its direction
abbrev pub beyond : FaceList → FaceStep → List ℕ
beyond mesh step =
    let face = face_at mesh step.face.0 in
    corners_before face step.forward (next_corner step.forward (length face) step.corner) (length face - 1)

-- the rest of the face comes to what is pending, and the move is noted
pub record IsCrossed (mesh : FaceList) (step : FaceStep) (behind : ℕ) (old : TrackView) (pending : List ℕ) (new : TrackView)
    (left : List ℕ) : Type 0 where
  pub walk : new.walk ≡ old.walk
  pub comes : left ≡ pending ++ beyond mesh step
  pub list : new.list
      ≡ record {
        moves = old.list.moves ++ Across (darts old.walk) step.face step.corner step.forward 1 ∷ [];
        peak = max old.list.peak (darts old.walk + (length left + behind));
      }
