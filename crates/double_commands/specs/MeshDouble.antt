-- What the program `mesh_double` looks at, in order, and what it prints.
use Rattle.std.specs.Prelude.{◌≡◌, ℕ, List, [], ◌∷◌, codes, Option}
use Rattle.surf_io.specs.Files.{Files}
use Rattle.surf_model.specs.FaceLists.{FaceList, HasFileSize}
use Rattle.off_writer.specs.WrittenMeshes.{off_text}
use Rattle.doubling.specs.DoubleFaults.{IsBeyond}
use Rattle.doubling.specs.Doubles.{double_of}
use Rattle.doubling.specs.declared.fault.DoubleFault.{DoubleFault}
use Rattle.doubling.specs.declared.fault.DoubleFault.TheVariants as faults
use Rattle.commands.specs.Answers.{Answer, Texts, NoText, yes_with}
use Rattle.commands.specs.Checks.{Check, End, Refuse, Pass, pass, without_files, ◌>>=◌}
use Rattle.commands.specs.Inputs.{mesh_in}
use Rattle.commands.specs.Refusals.{told}
use Rattle.open_commands.specs.OpenInput.{open_surface}

-- the limit that the double is beyond
abbrev pub double_line : DoubleFault → Texts
double_line faults.TooManyVertices = told (codes "double vertices" ∷ [])
double_line faults.TooManySides = told (codes "double sides" ∷ [])
double_line faults.OutOfMemory = NoText

-- the double of a mesh passes, where it is no larger than a mesh may be
abbrev pub doubled : FaceList → Check FaceList
doubled mesh = without_files ends
  where
    ends : End FaceList → Type 0
    ends (Refuse texts) = (fault : DoubleFault) × IsBeyond mesh fault × (texts ≡ double_line fault)
    ends (Pass double) = HasFileSize (double_of mesh) × (double ≡ double_of mesh)

-- the double of a surface with boundary; it need not be orientable
abbrev pub surface_doubled : FaceList → Check FaceList
surface_doubled mesh = do
  surface ← open_surface mesh
  doubled surface

-- the double of the surface with boundary that the file spells
abbrev pub double_in : Option Files → List ℕ → Check FaceList
double_in held name = do
  mesh ← mesh_in held name
  surface_doubled mesh

-- its text is the answer
abbrev pub mesh_double : Option Files → List ℕ → Check Answer
mesh_double held name = do
  double ← double_in held name
  pass (yes_with (off_text double))
