-- The command `loops`.
use Rattle.std.specs.Prelude.{◌≡◌, ℕ, ◌↔◌, ◌⊎◌, List, [], ◌∷◌, codes, decimal, Option, Ok}
use Rattle.surf_io.specs.Files.{Files}
use Rattle.surf_model.specs.FaceLists.{FaceList}
use Rattle.closed_walks.specs.FreeHomotopy.{IsClosedWalk, FreelyHomotopic}
use Rattle.walk_files.specs.ClosedPairs.{loops_fault}
use Rattle.walk_files.specs.WalkTexts.{walks_of}
use Rattle.walk_files.specs.declared.loops.LoopFault.{LoopFault}
use Rattle.walk_files.specs.declared.loops.LoopFault.TheVariants.{NotTwo, NoVertex, NoEdge, NotClosed}
use Rattle.free_loops.specs.declared.deciding.FreeAnswer.{FreeAnswer}
use Rattle.free_loops.specs.declared.deciding.FreeAnswer.TheVariants.{Freely, NotFreely}
use Rattle.commands.specs.Answers.{Answer, Texts, Exactly}
use Rattle.commands.specs.Checks.{Check, decided_by, ◌>>=◌}
use Rattle.commands.specs.Inputs.{IsInputOnSurface, walks_unless}
use Rattle.surf_model.specs.Walks.{walk_at}
use Rattle.commands.specs.Lines.{line}
use Rattle.commands.specs.Refusals.{told, told_at_place}
use Rattle.surface_commands.specs.SurfaceInput.{surface_in}
use Rattle.commands.specs.declared.status.Status.{Status}
use Rattle.commands.specs.declared.status.Status.TheVariants.{Yes, No}

-- the bytes spell two closed walks of the mesh
pub record SpellsLoops (mesh : FaceList) (first second bytes : List ℕ) : Type 0 where
  pub text : walks_of bytes ≡ Ok (first ∷ second ∷ [])
  pub first_closed : IsClosedWalk mesh first
  pub second_closed : IsClosedWalk mesh second

-- The words are those of `loops`, and the two files that they name are told and stand for an orientable closed surface and two closed
-- walks of it.
abbrev pub IsLoopsInput : Option Files → (words : List (List ℕ)) → FaceList → (first second : List ℕ) → Type 0
IsLoopsInput held words mesh first second = IsInputOnSurface (codes "loops") (SpellsLoops mesh first second) held words mesh

-- yes where the walks are freely homotopic
abbrev pub free_status : FreeAnswer → Status
free_status Freely = Yes
free_status NotFreely = No

-- the phrase of an answer, and its line
abbrev pub free_phrase : FreeAnswer → List ℕ
free_phrase Freely = codes "freely homotopic"
free_phrase NotFreely = codes "not freely homotopic"

abbrev pub free_line : FreeAnswer → List ℕ
free_line answer = line (free_phrase answer) []

-- What `loops` answers of such an input: `freely homotopic`, with status 0, exactly where moves and changes of the starting vertex
-- lead from the first walk to the second; and else `not freely homotopic`, with status 1.
pub record IsLoopsAnswered (held : Option Files) (words : List (List ℕ)) (status : Status) (text : List ℕ) : Type 0 where
  pub answered : (mesh : FaceList) (first second : List ℕ) → IsLoopsInput held words mesh first second
      → ((status ≡ Yes) × (text ≡ free_line Freely)) ⊎ ((status ≡ No) × (text ≡ free_line NotFreely))
  pub exactly : (mesh : FaceList) (first second : List ℕ) → IsLoopsInput held words mesh first second
      → (status ≡ Yes) ↔ FreelyHomotopic mesh first second

-- the answer of the program
abbrev pub free_answer : FreeAnswer → Answer
free_answer answer = record { status = free_status answer; texts = Exactly (free_line answer) }

-- why walks are not two closed walks of the mesh
abbrev pub loops_line : LoopFault → Texts
loops_line (NotTwo count) = told (codes "walks count" ∷ decimal count ∷ [])
loops_line (NoVertex walk place) = told_at_place walk place (codes "vertex")
loops_line (NoEdge walk place) = told_at_place walk place (codes "edge")
loops_line (NotClosed walk) = told (codes "walk" ∷ decimal walk ∷ codes "open" ∷ [])

-- the walks that the file spells, which are two closed walks of the mesh
abbrev pub loops_in : Option Files → List ℕ → FaceList → Check (List (List ℕ))
loops_in held name mesh = walks_unless loops_line (loops_fault mesh) held name

-- the answer on two closed walks of a mesh
abbrev pub freely_decided : FaceList → List ℕ → List ℕ → Check Answer
freely_decided mesh first second = decided_by Freely free_answer (FreelyHomotopic mesh first second)

-- what is looked at, in order, and then the answer
abbrev pub loops : Option Files → (mesh walks : List ℕ) → Check Answer
loops held mesh walks = do
  surface ← surface_in held mesh
  pair ← loops_in held walks surface
  freely_decided surface (walk_at pair 0) (walk_at pair 1)
