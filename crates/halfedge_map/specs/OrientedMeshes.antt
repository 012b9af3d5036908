-- What a surface is made from: a mesh, the table of its edges, and a sign for each face.
use Rattle.std.specs.Prelude.{Bool, List}
use Rattle.surf_model.specs.FaceLists.{FaceList, IsFaceList}
use Rattle.surf_model.specs.Edges.{Edge, IsTableOf}
use Rattle.surf_model.specs.Surfaces.{IsClosed, IsCoherent}

pub record OrientedMesh : Type 0 where
  pub mesh : FaceList
  pub table : List Edge
  pub signs : List Bool

-- a connected closed surface with its edges and with signs under which the two sides of each edge run oppositely
pub record IsOrientedSurface (surface : OrientedMesh) : Type 0 where
  pub faces : IsFaceList surface.mesh
  pub table : IsTableOf surface.mesh surface.table
  pub closed : IsClosed surface.mesh
  pub coherent : IsCoherent surface.mesh surface.signs
