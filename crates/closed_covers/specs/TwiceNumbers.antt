-- How the numbers of a cover come from those of the mesh.
use Rattle.std.specs.Prelude.{◌≡◌, ◌+◌, ◌+ℤ◌}
use Rattle.surf_model.specs.declared.numbers.SurfaceNumbers.{SurfaceNumbers}

-- each is twice the one of the mesh
pub record AreTwice (numbers others : SurfaceNumbers) : Type 0 where
  pub vertices : others.vertices ≡ numbers.vertices + numbers.vertices
  pub edges : others.edges ≡ numbers.edges + numbers.edges
  pub faces : others.faces ≡ numbers.faces + numbers.faces
  pub euler : others.euler ≡ numbers.euler +ℤ numbers.euler
