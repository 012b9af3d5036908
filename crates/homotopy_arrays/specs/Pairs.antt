-- Pairs of walks that lie in arrays, and what is answered of them.
use Rattle.std.specs.Prelude.{◌≡◌, ℕ, ◌+◌, ◌*◌, ◌%◌, ◌<◌, ◌≤◌, ◌==◌, ◌&&◌, nat_lt, if◌then◌else◌, List, [], ◌∷◌, length, take, drop, sum, slice_index, slice_index_or, Bool, Option, Some, None, option_map}
use Rattle.std.specs.Option.{option_or}
use Rattle.surf_model.specs.FaceLists.{FaceList}
use Rattle.surf_model.specs.Moves as moves
use Rattle.surf_model.specs.Walks.{IsWalk, HaveCommonEnds}
use Rattle.walk_files.specs.Pairs.{pair_fault}
use Rattle.homotopy_arrays.specs.declared.pair.WalkFault.{WalkFault}
use Rattle.homotopy_arrays.specs.declared.pair.WalkFault.TheVariants.{Empty, Long, Pair}
use Rattle.homotopy_arrays.specs.declared.pair.TheConstants.{MOST_WALK}
use Rattle.homotopy_arrays.specs.declared.decide.PairAnswer.{PairAnswer}
use Rattle.homotopy_arrays.specs.declared.decide.PairAnswer.TheVariants.{Homotopic, Different, Faulty}

-- two walks of the mesh with common ends, neither of which has too many vertices
pub record AreWalks (mesh : FaceList) (first second : List ℕ) : Type 0 where
  pub first_walk : IsWalk mesh first
  pub second_walk : IsWalk mesh second
  pub ends : HaveCommonEnds first second
  pub few : (length first ≤ MOST_WALK) × (length second ≤ MOST_WALK)

-- ---- what is first wrong with two walks

-- a walk that has no vertex, or too many
abbrev pub length_fault : (walk : ℕ) (vertices : List ℕ) → Option WalkFault
length_fault walk vertices =
    if length vertices == 0 then Some (Empty walk)
    else if nat_lt MOST_WALK (length vertices) then Some (Long walk)
    else None

-- the lengths of both are looked at, and then their entries, their edges and their ends
abbrev pub two_walks_fault : FaceList → (first second : List ℕ) → Option WalkFault
two_walks_fault mesh first second =
    option_or (length_fault 1 first) (option_or (length_fault 2 second) (option_map Pair (pair_fault mesh (first ∷ second ∷ []))))

-- ---- the answer on a pair

-- The walks are homotopic, or they are two walks with common ends that are not; or this is first wrong with them.
abbrev pub IsAnswer : FaceList → (first second : List ℕ) → PairAnswer → Type 0
IsAnswer mesh first second Homotopic = AreWalks mesh first second × moves.Homotopic mesh first second
IsAnswer mesh first second Different = AreWalks mesh first second × (moves.Homotopic mesh first second → ⊥)
IsAnswer mesh first second (Faulty fault) = (two_walks_fault mesh first second ≡ Some fault) × (AreWalks mesh first second → ⊥)

-- ---- many walks, one after another

-- walk k, counted from 0, where walks have these sizes and these vertices, walk after walk
abbrev pub walk_in_arrays : (sizes vertices : List ℕ) → ℕ → List ℕ
walk_in_arrays sizes vertices k = take (slice_index sizes k) (drop (sum (take k sizes)) vertices)

-- the sizes are those of two walks for each pair, and together are the number of the vertices
abbrev pub are_pairs : (sizes vertices : List ℕ) → Bool
are_pairs sizes vertices = sum sizes == length vertices && length sizes % 2 == 0

-- an answer for each pair; `Is` says of which walks one is the answer
pub record AreAnswers {A : Type 0} (Is : (first second : List ℕ) → A → Type 0) (sizes vertices : List ℕ) (answers : List A) : Type 0 where
  pub each_pair : 2 * length answers ≡ length sizes
  pub answer : (k : ℕ) (none : A) → k < length answers
      → Is (walk_in_arrays sizes vertices (2 * k)) (walk_in_arrays sizes vertices (2 * k + 1)) (slice_index_or answers k none)
