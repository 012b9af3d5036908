-- What is kept of a compact surface.
use Rattle.std.specs.Prelude.{◌≡◌, ◌⊎◌, ◌↔◌, ℕ, Bool, true, List, take, Option, MatchOption}
use Rattle.surf_model.specs.Edges.{Edge, IsTableOf}
use Rattle.surf_model.specs.FaceLists.{FaceList, IsFaceList}
use Rattle.surf_model.specs.Surfaces.{IsOrientable}
use Rattle.doubling.specs.Doubles.{double_of}
use Rattle.orientation_cover.specs.Turns.{cover_by}
use Rattle.orientation_cover.specs.Ways.{AreWays}
use Rattle.compact_surfaces.specs.CompactSurfaces.{IsCompactSurface}

-- a mesh, its table, ways round its vertices, and the mesh of which words are asked: the cover by these ways
pub record IsCoverKept (mesh : FaceList) (table : List Edge) (bits : List Bool) (cover : FaceList) : Type 0 where
  pub is_table : IsTableOf mesh table
  pub ways : AreWays mesh bits
  pub is_cover : cover ≡ cover_by mesh bits

-- the first faces of a closed manifold, over its first vertices
abbrev pub first_faces : ℕ → ℕ → FaceList → FaceList
first_faces vertices faces closed = record { count = vertices; faces = take faces closed.faces }

-- the closed manifold is the compact surface or its double, of which the surface has a table of its own; and whether it is orientable
pub record IsKeptClosed (mesh : FaceList) (own : Option (List Edge)) (closed : FaceList) (signed : Bool) : Type 0 where
  pub valid : IsFaceList mesh
  pub compact : IsCompactSurface mesh
  pub answers : (closed ≡ mesh) ⊎ (closed ≡ double_of mesh)
  pub table : MatchOption own (closed ≡ mesh) (IsTableOf mesh)
  pub signs : (signed ≡ true) ↔ IsOrientable mesh
