-- What the program `mesh_cover` looks at, in order, and what it prints.
use Rattle.std.specs.Prelude.{◌≡◌, ◌⊎◌, ◌≤◌, ℕ, length, ◌==◌, Bool, if◌then◌else◌, List, [], ◌∷◌, ◌++◌, map, codes, decimal, slice_index, Option}
use Rattle.surf_io.specs.Files.{Files}
use Rattle.surf_model.specs.Edges.{IsTableOf}
use Rattle.surf_model.specs.FaceLists.{FaceList, HasFileSize}
use Rattle.surf_model.specs.Moves.{Homotopic}
use Rattle.surf_model.specs.Walks.{darts, AreWalkPair, walk_at}
use Rattle.surf_model.specs.declared.decisions.Answer.TheVariants.{Different}
use Rattle.text_scan.specs.Plain.{line_of}
use Rattle.walk_files.specs.PairLists.{WalkPair}
use Rattle.walk_files.specs.declared.limits.TheConstants.{MOST_WALK_VERTICES}
use Rattle.off_writer.specs.WrittenMeshes.{off_text}
use Rattle.doubling.specs.DoubleFaults.{IsTooLarge}
use Rattle.doubling.specs.declared.fault.DoubleFault.{DoubleFault}
use Rattle.doubling.specs.declared.fault.DoubleFault.TheVariants as faults
use Rattle.orientation_cover.specs.Turns.{cover_by, lift_by}
use Rattle.orientation_cover.specs.Ways.{AreWays}
use Rattle.commands.specs.Answers.{Answer, Texts, NoText, Exactly, yes_with}
use Rattle.commands.specs.Certificates.{decision_line}
use Rattle.commands.specs.Checks.{Check, End, Refuse, Pass, pass, without_files, ◌>>=◌}
use Rattle.commands.specs.Inputs.{mesh_in, pair_in, SpellsPair}
use Rattle.commands.specs.Refusals.{told}
use Rattle.commands.specs.declared.status.Status.{Status}
use Rattle.commands.specs.declared.status.Status.TheVariants.{Yes, No}
use Rattle.surface_commands.specs.SurfaceInput.{closed_alone}
use Rattle.cover_commands.specs.declared.reading.MeshWithWays.{MeshWithWays}
use Rattle.cover_commands.specs.declared.lifting.Lifts.{Lifts}

-- ---- a mesh and ways round its vertices

pub record WithWays : Type 0 where
  pub mesh : FaceList
  pub bits : List Bool

-- ways round the vertices pass; a closed manifold has them
abbrev pub ways_of : FaceList → Check (List Bool)
ways_of mesh = without_files ends
  where
    ends : End (List Bool) → Type 0
    ends (Refuse texts) = ⊥
    ends (Pass bits) = AreWays mesh bits

-- a closed manifold, and ways round its vertices; it need be neither connected nor orientable
abbrev pub with_ways : FaceList → Check WithWays
with_ways mesh = do
  surface ← closed_alone mesh
  bits ← ways_of surface
  pass (record { mesh = surface; bits = bits })

-- those of the mesh that the file spells
abbrev pub ways_in : Option Files → List ℕ → Check WithWays
ways_in held name = do
  mesh ← mesh_in held name
  with_ways mesh

-- what was read, seen so
abbrev pub seen : MeshWithWays → WithWays
seen on = record { mesh = on.faces; bits = on.ways }

pub record IsWithWays (on : MeshWithWays) : Type 0 where
  pub table : IsTableOf on.faces on.sides
  pub ways : AreWays on.faces on.ways

-- ---- the cover

-- the limit that the cover is beyond
abbrev pub cover_line : DoubleFault → Texts
cover_line faults.TooManyVertices = told (codes "cover vertices" ∷ [])
cover_line faults.TooManySides = told (codes "cover sides" ∷ [])
cover_line faults.OutOfMemory = NoText

-- the cover passes, where it is no larger than a mesh may be
abbrev pub covered : WithWays → Check FaceList
covered on = without_files ends
  where
    ends : End FaceList → Type 0
    ends (Refuse texts) = (fault : DoubleFault) × IsTooLarge (cover_by on.mesh on.bits) fault × (texts ≡ cover_line fault)
    ends (Pass cover) = HasFileSize (cover_by on.mesh on.bits) × (cover ≡ cover_by on.mesh on.bits)

-- the cover of the closed manifold that the file spells
abbrev pub cover_in : Option Files → List ℕ → Check FaceList
cover_in held name = do
  on ← ways_in held name
  covered on

-- of one file the cover is the answer, as the text of a mesh
abbrev pub mesh_cover : Option Files → List ℕ → Check Answer
mesh_cover held name = do
  cover ← cover_in held name
  pass (yes_with (off_text cover))

-- ---- lifts

-- the lifts of two walks that begin on the lower sheet
abbrev pub lifts_on : WithWays → List (List ℕ) → WalkPair
lifts_on on pair =
    record { first = lift_by on.mesh on.bits (walk_at pair 0); second = lift_by on.mesh on.bits (walk_at pair 1) }

-- the lifts of the two walks of a mesh with common ends that the file spells
abbrev pub lifts_behind : Option Files → (walks : List ℕ) → WithWays → Check WalkPair
lifts_behind held walks on = do
  pair ← pair_in held walks on.mesh
  pass (lifts_on on pair)

-- the mesh is looked at first, and then the walks
abbrev pub lifts_in : Option Files → (mesh walks : List ℕ) → Check WalkPair
lifts_in held mesh walks = do
  on ← ways_in held mesh
  lifts_behind held walks on

-- what was made, seen so
abbrev pub seen_lifts : Lifts → WalkPair
seen_lifts lifts = record { first = lifts.first; second = lifts.second }

-- whether two walks end at one vertex
abbrev pub do_meet : WalkPair → Bool
do_meet lifts = slice_index lifts.first (darts lifts.first) == slice_index lifts.second (darts lifts.second)

-- the line of a walk
abbrev pub walk_line : List ℕ → List ℕ
walk_line walk = line_of (map decimal walk)

-- the text of two walks
abbrev pub walk_lines : WalkPair → List ℕ
walk_lines lifts = walk_line lifts.first ++ walk_line lifts.second

-- lifts that end at one vertex are the answer, as a walk file; where they do not, the walks are different
abbrev pub lifts_status : WalkPair → Status
lifts_status lifts = if do_meet lifts then Yes else No

abbrev pub lifts_text : WalkPair → List ℕ
lifts_text lifts = if do_meet lifts then walk_lines lifts else decision_line Different

abbrev pub lifts_answer : WalkPair → Answer
lifts_answer lifts = record { status = lifts_status lifts; texts = Exactly (lifts_text lifts) }

abbrev pub lifted_walks : Option Files → (mesh walks : List ℕ) → Check Answer
lifted_walks held mesh walks = do
  lifts ← lifts_in held mesh walks
  pass (lifts_answer lifts)

-- a walk file of version 1 may have the walk
abbrev pub FitsWalkFile : List ℕ → Type 0
FitsWalkFile walk = length walk ≤ MOST_WALK_VERTICES

-- What is printed of two walks with common ends: with status 0 their lifts, which are two walks of the cover with common ends, as a walk
-- file where they are not too long for one; and with status 1 the line `different`, and no list of moves leads from the first walk to the
-- second.
abbrev pub AreLiftsTold : FaceList → List Bool → (first second : List ℕ) → Status → List ℕ → Type 0
AreLiftsTold mesh bits first second status text =
    let one = lift_by mesh bits first in
    let two = lift_by mesh bits second in
    ((status ≡ Yes) × AreWalkPair (cover_by mesh bits) one two × (text ≡ walk_line one ++ walk_line two)
    × (FitsWalkFile first → FitsWalkFile second → SpellsPair (cover_by mesh bits) one two text))
    ⊎ ((status ≡ No) × (text ≡ decision_line Different) × (Homotopic mesh first second → ⊥))
