-- Why there is no double: it would be larger than a mesh may be.
use Rattle.std.specs.Prelude.{◌<◌, ◌≤◌}
use Rattle.surf_model.specs.FaceLists.{FaceList, total_sides}
use Rattle.surf_model.specs.declared.limits.TheConstants.{MOST_VERTICES, MOST_SIDES}
use Rattle.doubling.specs.Doubles.{double_of}
use Rattle.doubling.specs.declared.fault.DoubleFault.{DoubleFault}
use Rattle.doubling.specs.declared.fault.DoubleFault.TheVariants.{TooManyVertices, TooManySides, OutOfMemory}

-- few enough vertices, and too many sides
pub record HasTooManySides (made : FaceList) : Type 0 where
  pub few_vertices : made.count ≤ MOST_VERTICES
  pub many_sides : MOST_SIDES < total_sides made

-- the limit that what was to be made is beyond, vertices first; want of memory is no fault of a mesh
abbrev pub IsTooLarge : FaceList → DoubleFault → Type 0
IsTooLarge made TooManyVertices = MOST_VERTICES < made.count
IsTooLarge made TooManySides = HasTooManySides made
IsTooLarge made OutOfMemory = ⊥

-- the limit that the double is beyond
abbrev pub IsBeyond : FaceList → DoubleFault → Type 0
IsBeyond mesh fault = IsTooLarge (double_of mesh) fault
