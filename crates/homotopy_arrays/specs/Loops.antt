-- Pairs of closed walks that lie in arrays, and what is answered of them.
use Rattle.std.specs.Prelude.{◌≡◌, ℕ, ◌≤◌, List, [], ◌∷◌, length, Option, Some, option_map}
use Rattle.std.specs.Option.{option_or}
use Rattle.surf_model.specs.FaceLists.{FaceList}
use Rattle.closed_walks.specs.FreeHomotopy.{FreelyHomotopic, IsClosedWalk}
use Rattle.walk_files.specs.ClosedPairs.{loops_fault}
use Rattle.compact_surfaces.specs.CompactSurfaces.{IsOrientableCompactSurface}
use Rattle.homotopy_arrays.specs.Decisions.{AreAnsweredOn}
use Rattle.homotopy_arrays.specs.Pairs.{length_fault}
use Rattle.homotopy_arrays.specs.declared.loops.LoopAnswer.{LoopAnswer}
use Rattle.homotopy_arrays.specs.declared.loops.LoopAnswer.TheVariants.{Freely, NotFreely, Faulty}
use Rattle.homotopy_arrays.specs.declared.pair.TheConstants.{MOST_WALK}
use Rattle.homotopy_arrays.specs.declared.pair.WalkFault.{WalkFault}
use Rattle.homotopy_arrays.specs.declared.pair.WalkFault.TheVariants.{Loops}

-- two closed walks of the mesh, neither of which has too many vertices
pub record AreLoops (mesh : FaceList) (first second : List ℕ) : Type 0 where
  pub first_closed : IsClosedWalk mesh first
  pub second_closed : IsClosedWalk mesh second
  pub few : (length first ≤ MOST_WALK) × (length second ≤ MOST_WALK)

-- the lengths of both are looked at, and then what the command `loops` looks at: their entries, their edges and their ends
abbrev pub closed_fault : FaceList → (first second : List ℕ) → Option WalkFault
closed_fault mesh first second =
    option_or (length_fault 1 first) (option_or (length_fault 2 second) (option_map Loops (loops_fault mesh (first ∷ second ∷ []))))

-- The walks are freely homotopic, or they are two closed walks that are not; or this is first wrong with them.
abbrev pub IsLoopAnswer : FaceList → (first second : List ℕ) → LoopAnswer → Type 0
IsLoopAnswer mesh first second Freely = AreLoops mesh first second × FreelyHomotopic mesh first second
IsLoopAnswer mesh first second NotFreely = AreLoops mesh first second × (FreelyHomotopic mesh first second → ⊥)
IsLoopAnswer mesh first second (Faulty fault) = (closed_fault mesh first second ≡ Some fault) × (AreLoops mesh first second → ⊥)

-- whether the closed walks of each pair are freely homotopic on an orientable compact surface
abbrev pub AreLoopsDecided : (walk_sizes walk_vertices : List ℕ) → FaceList → List LoopAnswer → Type 0
AreLoopsDecided walk_sizes walk_vertices mesh given =
    AreAnsweredOn IsOrientableCompactSurface IsLoopAnswer walk_sizes walk_vertices mesh given
