-- The labelling that a polygon gives: the corner of a face has the label of the face's dart that starts there.
use Rattle.std.specs.Prelude.{◌≡◌, ℕ, ◌<◌, Bool, if◌then◌else◌, List, [], ◌∷◌, length, map}
use Rattle.std.specs.List.{enumerate_from, range_with_len, slice_rotate_right}
use Rattle.surf_model.specs.FaceLists.{FaceList}
use Rattle.surf_model.specs.Darts.{IsSide}
use Rattle.surf_model.specs.Surfaces.{ArePartners, is_flipped}
use Rattle.surf_model.specs.declared.edges.Side.{Side}
use Rattle.halfedge_map.specs.OrientedMeshes.{OrientedMesh}
use Rattle.halfedge_map.specs.DartMaps.{dart_at_corner}
use Rattle.polygon_cut.specs.Polygons.{PolygonView, label_of}
use Rattle.labellings.specs.Labellings.{FaceLabels, LabellingView, tail_label, head_label}
use Rattle.labellings.specs.GoodLabellings.{MeetsLeftoverRule}

-- the labels of the darts of a face in the order of their numbers, put at the corners where the darts start: in a flipped face a dart
-- starts at the corner after the one with its number
abbrev pub at_corners : Bool → List ℕ → List ℕ
at_corners flipped labels = if flipped then slice_rotate_right labels 1 else labels

-- the sign of face f, which has so many corners, and their labels
abbrev pub face_labels : OrientedMesh → PolygonView → ℕ → ℕ → FaceLabels
face_labels surface polygon f corners =
    record {
      flipped = is_flipped surface.signs f;
      labels = map (λ t. label_of polygon (dart_at_corner surface f t)) (range_with_len 0 corners);
    }

abbrev pub labelling_from : OrientedMesh → PolygonView → LabellingView
labelling_from surface polygon =
    record {
      degree = polygon.degree;
      faces = map (λ p. face_labels surface polygon p.0 (length p.1)) (enumerate_from 0 surface.mesh.faces);
      places = polygon.places;
    }

-- a polygon of which only the labels of its darts and the places of its spokes are told, all that its labelling asks for
abbrev pub numbers_alone : ℕ → List ℕ → List ℕ → PolygonView
numbers_alone degree labels places = record { degree = degree; sides = []; labels = labels; places = places }

-- the edge of a side meets the leftover rule
abbrev pub IsLeftoverSide : FaceList → LabellingView → Side → Type 0
IsLeftoverSide mesh labelling side =
    (other : Side) × ArePartners mesh side other
    × MeetsLeftoverRule labelling.places (tail_label mesh labelling side) (head_label mesh labelling side) (tail_label mesh labelling other)
    (head_label mesh labelling other)

-- just one side of a leftover edge has the label i at its tail
pub record HasOneSide (mesh : FaceList) (labelling : LabellingView) (i : ℕ) : Type 0 where
  pub side : Side
  pub side_of : IsSide mesh side
  pub leftover : IsLeftoverSide mesh labelling side
  pub label : tail_label mesh labelling side ≡ i
  pub alone : (other : Side) → IsSide mesh other → IsLeftoverSide mesh labelling other → tail_label mesh labelling other ≡ i → other ≡ side

-- A full labelling covers the polygon: for each number below the degree just one side of the leftover edges has it at its tail.
-- This is no part of good.
abbrev pub IsFull : FaceList → LabellingView → Type 0
IsFull mesh labelling = (i : ℕ) → i < labelling.degree → HasOneSide mesh labelling i

-- Such a good labelling: the label 0 at each corner, under five spokes. It tells nothing of a walk.
abbrev pub all_zero : OrientedMesh → LabellingView
all_zero surface =
    record {
      degree = 5;
      faces =
          map (λ p. record { flipped = is_flipped surface.signs p.0; labels = map (λ _. 0) p.1 }) (enumerate_from 0 surface.mesh.faces);
      places = 0 ∷ 1 ∷ 2 ∷ 3 ∷ 4 ∷ [];
    }
