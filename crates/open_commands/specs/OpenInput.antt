-- The check of the surface with boundary that a file spells: a mesh that is no orientable open surface is refused by the first condition of
-- one that fails, with the least element at which it does, or with an odd chain.
use Rattle.std.specs.Prelude.{◌≡◌, ℕ, List, [], ◌∷◌, codes, decimal, Option}
use Rattle.surf_io.specs.Files.{Files}
use Rattle.surf_model.specs.FaceLists.{FaceList}
use Rattle.free_forms.specs.OpenFaults.{IsFirstOpenFault}
use Rattle.free_forms.specs.OpenSurfaces.{IsOpenSurface}
use Rattle.free_forms.specs.declared.fault.OpenFault.{OpenFault}
use Rattle.free_forms.specs.declared.fault.OpenFault.TheVariants as faults
use Rattle.commands.specs.Answers.{Texts, NoText}
use Rattle.commands.specs.Checks.{Check, End, Refuse, Pass, without_files, ◌>>=◌}
use Rattle.commands.specs.Inputs.{mesh_in, orientable}
use Rattle.commands.specs.Refusals.{told}

-- the first condition of an open surface that fails, with its least element
abbrev pub open_line : OpenFault → Texts
open_line faults.NoFace = told (codes "no face" ∷ [])
open_line (faults.EdgeSides low high sides) =
    told (codes "edge" ∷ decimal low.0 ∷ decimal high.0 ∷ codes "sides" ∷ decimal sides ∷ [])
open_line faults.NoBoundary = told (codes "no boundary" ∷ [])
open_line (faults.Pinched vertex) = told (codes "vertex" ∷ decimal vertex.0 ∷ codes "pinched" ∷ [])
open_line (faults.Apart vertex other) = told (codes "vertices" ∷ decimal vertex.0 ∷ decimal other.0 ∷ codes "apart" ∷ [])
open_line faults.OutOfMemory = NoText

-- an open surface passes, and any other mesh is refused for its first fault
abbrev pub open_surface : FaceList → Check FaceList
open_surface mesh = without_files ends
  where
    ends : End FaceList → Type 0
    ends (Refuse texts) = (fault : OpenFault) × IsFirstOpenFault mesh fault × (texts ≡ open_line fault)
    ends (Pass surface) = IsOpenSurface mesh × (surface ≡ mesh)

-- an orientable open surface passes
abbrev pub as_open_surface : FaceList → Check FaceList
as_open_surface mesh = do
  surface ← open_surface mesh
  orientable surface

-- the orientable open surface that the file spells
abbrev pub open_surface_in : Option Files → List ℕ → Check FaceList
open_surface_in held name = do
  mesh ← mesh_in held name
  as_open_surface mesh
