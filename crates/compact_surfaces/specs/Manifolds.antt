-- Closed manifolds of which walks may be asked.
use Rattle.std.specs.Prelude.{Bool, true, false}
use Rattle.component_deciding.specs.WordFinders.{mesh_of_finder}
use Rattle.surf_model.specs.FaceLists.{FaceList}
use Rattle.compact_surfaces.specs.declared.manifold.ClosedManifold.{ClosedManifold}
use Rattle.compact_surfaces.specs.declared.manifold.ClosedManifold.TheVariants.{Orientable, Covered}

-- the mesh of one
abbrev pub mesh_of_manifold : ClosedManifold → FaceList
mesh_of_manifold (Orientable finder) = mesh_of_finder finder
mesh_of_manifold (Covered mesh) = mesh

-- whether it has coherent signs
abbrev pub has_signs : ClosedManifold → Bool
has_signs (Orientable finder) = true
has_signs (Covered mesh) = false
