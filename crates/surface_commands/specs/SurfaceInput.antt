-- The check of the surface that a file spells: a mesh that is no orientable closed surface is refused by the first condition of one that
-- fails, with the least element at which it does, or with an odd chain.
use Rattle.std.specs.Prelude.{◌≡◌, ℕ, ◌<◌, ◌≤◌, List, Option}
use Rattle.surf_io.specs.Files.{Files}
use Rattle.surf_model.specs.FaceLists.{FaceList}
use Rattle.surf_model.specs.Surfaces.{IsClosedManifold}
use Rattle.manifold_check.specs.Faults.{IsFirstFault}
use Rattle.manifold_check.specs.declared.fault.SurfaceFault.{SurfaceFault}
use Rattle.commands.specs.Checks.{Check, End, Refuse, Pass, without_files, ◌>>=◌}
use Rattle.surf_model.specs.OrientableSurfaces.{HasComponents}
use Rattle.commands.specs.Inputs.{mesh_in, orientable}
use Rattle.surface_commands.specs.SurfaceRefusals.{surface_line, components_line}

-- a closed manifold passes, and any other mesh is refused for its first fault
abbrev pub closed_alone : FaceList → Check FaceList
closed_alone mesh = without_files ends
  where
    ends : End FaceList → Type 0
    ends (Refuse texts) = (fault : SurfaceFault) × IsFirstFault mesh fault × (texts ≡ surface_line fault)
    ends (Pass surface) = IsClosedManifold mesh × (surface ≡ mesh)

-- an orientable closed surface passes
abbrev pub as_surface : FaceList → Check FaceList
as_surface mesh = do
  surface ← closed_alone mesh
  orientable surface

-- the orientable closed surface that the file spells
abbrev pub surface_in : Option Files → List ℕ → Check FaceList
surface_in held name = do
  mesh ← mesh_in held name
  as_surface mesh

-- a mesh of so many components at most passes, and any other is refused with their number
abbrev pub of_few_components : ℕ → FaceList → Check FaceList
of_few_components most mesh = without_files ends
  where
    ends : End FaceList → Type 0
    ends (Refuse texts) = (count : ℕ) × HasComponents mesh count × (most < count) × (texts ≡ components_line count)
    ends (Pass surface) = (count : ℕ) × HasComponents mesh count × (count ≤ most) × (surface ≡ mesh)
