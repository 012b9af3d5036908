-- Two closed walks of a mesh, and what is first wrong with a list of walks that is no such pair.
use Rattle.std.specs.Prelude.{◌≡◌, ℕ, ◌==◌, not, if◌then◌else◌, List, [], ◌∷◌, slice_index, Option, Some, None}
use Rattle.surf_model.specs.FaceLists.{FaceList}
use Rattle.surf_model.specs.Walks.{darts}
use Rattle.closed_walks.specs.FreeHomotopy.{IsClosedWalk}
use Rattle.walk_files.specs.TwoWalks.{two_fault}
use Rattle.walk_files.specs.declared.entries.EntryFault.{EntryFault}
use Rattle.walk_files.specs.declared.entries.EntryFault.TheVariants as entry
use Rattle.walk_files.specs.declared.loops.LoopFault.{LoopFault}
use Rattle.walk_files.specs.declared.loops.LoopFault.TheVariants.{NotTwo, NoVertex, NoEdge, NotClosed}

-- two closed walks of the mesh
pub record IsClosedPair (mesh : FaceList) (walks : List (List ℕ)) : Type 0 where
  pub first : List ℕ
  pub second : List ℕ
  pub two : walks ≡ first ∷ second ∷ []
  pub first_closed : IsClosedWalk mesh first
  pub second_closed : IsClosedWalk mesh second

-- the same fault, as one of a pair of closed walks
abbrev pub of_entry : EntryFault → LoopFault
of_entry (entry.NoVertex walk place) = NoVertex walk place
of_entry (entry.NoEdge walk place) = NoEdge walk place

-- the first walk of the two that does not end where it starts
abbrev pub open_fault : List ℕ → List ℕ → Option LoopFault
open_fault first second =
    if not (slice_index first (darts first) == slice_index first 0) then Some (NotClosed 1)
    else if not (slice_index second (darts second) == slice_index second 0) then Some (NotClosed 2)
    else None

-- what is first wrong with these walks
abbrev pub loops_fault : FaceList → List (List ℕ) → Option LoopFault
loops_fault mesh walks = two_fault NotTwo of_entry open_fault mesh walks
