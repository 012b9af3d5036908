-- How the numbers of a double come from those of the mesh.
use Rattle.std.specs.Prelude.{◌≡◌, ℕ, ◌+◌, length, filter, ◌+ℤ◌}
use Rattle.surf_model.specs.FaceLists.{FaceList, all_sides}
use Rattle.surf_model.specs.declared.numbers.SurfaceNumbers.{SurfaceNumbers}
use Rattle.doubling.specs.Doubles.{is_rim}

-- how many edges of the mesh have one side alone: as many as sides are on the boundary
abbrev pub boundary_size : FaceList → ℕ
boundary_size mesh = length (filter (is_rim mesh) (all_sides mesh))

-- twice the vertices; twice the edges and twice the faces, and one of either for each edge on the boundary; and twice the Euler
-- characteristic
pub record AreDoubled (mesh : FaceList) (numbers others : SurfaceNumbers) : Type 0 where
  pub vertices : others.vertices ≡ numbers.vertices + numbers.vertices
  pub edges : others.edges ≡ numbers.edges + numbers.edges + boundary_size mesh
  pub faces : others.faces ≡ numbers.faces + numbers.faces + boundary_size mesh
  pub euler : others.euler ≡ numbers.euler +ℤ numbers.euler
