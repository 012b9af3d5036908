-- Edges that turn, by ways round the vertices; the cover along them, and the lifts of walks to it.
use Rattle.std.specs.Prelude.{◌≡◌, ◌⊎◌, ℕ, Bool, false, not, ◌&&◌, if◌then◌else◌, List}
use Rattle.std.specs.List.{list_any}
use Rattle.surf_model.specs.FaceLists.{FaceList, all_sides, joins}
use Rattle.surf_model.specs.Edges.{side_name}
use Rattle.surf_model.specs.Darts.{IsSide, side_after, tail_of, head_of}
use Rattle.surf_model.specs.declared.edges.Side.{Side}
use Rattle.double_covers.specs.Covers.{cover_of, lifted}
use Rattle.orientation_cover.specs.Ways.{told_by}

-- whether the ways round the two ends of a side do not agree along it: its face goes against one of the two, and with the other
abbrev pub turns_along : FaceList → (Side → Bool) → Side → Bool
turns_along mesh against side = if against side then not (against (side_after mesh side)) else against (side_after mesh side)

-- whether two vertices form an edge along which the ways round them do not agree
unfoldable pub turns_by : FaceList → (Side → Bool) → ℕ → ℕ → Bool
turns_by mesh against u v = list_any (λ side. joins u v side && turns_along mesh against (side_name side)) (all_sides mesh)

-- a side between two vertices, in either direction
pub record IsSideBetween (mesh : FaceList) (u v : ℕ) (side : Side) : Type 0 where
  pub in_mesh : IsSide mesh side
  pub ends : ((tail_of mesh side ≡ u) × (head_of mesh side ≡ v)) ⊎ ((tail_of mesh side ≡ v) × (head_of mesh side ≡ u))

-- the cover by ways round the vertices: along each edge that turns by them it leads to the other sheet
abbrev pub cover_by : FaceList → List Bool → FaceList
cover_by mesh bits = cover_of mesh (turns_by mesh (told_by mesh bits))

-- the lift of a walk that begins on the lower sheet of that cover
abbrev pub lift_by : FaceList → List Bool → List ℕ → List ℕ
lift_by mesh bits walk = lifted (turns_by mesh (told_by mesh bits)) mesh.count false walk
