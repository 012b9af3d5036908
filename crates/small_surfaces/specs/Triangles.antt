-- Triangles that make a surface.
use Rattle.std.specs.Prelude.{ℕ, List, All}
use Rattle.surf_model.specs.FaceLists.{IsFace}
use Rattle.surf_model.specs.Surfaces.{IsSurface}

-- each triangle is a face over so many vertices, and together they are a connected orientable closed surface
pub record IsTriangleSurface (count : ℕ) (triangles : List (List ℕ)) : Type 0 where
  pub faces : All (IsFace count) triangles
  pub surface : IsSurface (record { count = count; faces = triangles })
