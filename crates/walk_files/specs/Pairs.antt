-- Two walks of a mesh with common ends, and what is first wrong with a list of walks that is no such pair.
use Rattle.std.specs.Prelude.{◌≡◌, ℕ, ◌==◌, not, true, false, if◌then◌else◌, List, [], ◌∷◌, slice_index, Option, Some, None}
use Rattle.surf_model.specs.FaceLists.{FaceList}
use Rattle.surf_model.specs.Walks.{darts, AreWalkPair}
use Rattle.walk_files.specs.TwoWalks.{two_fault}
use Rattle.walk_files.specs.declared.entries.EntryFault.{EntryFault}
use Rattle.walk_files.specs.declared.entries.EntryFault.TheVariants as entry
use Rattle.walk_files.specs.declared.pair.PairFault.{PairFault}
use Rattle.walk_files.specs.declared.pair.PairFault.TheVariants.{NotTwo, NoVertex, NoEdge, EndsDiffer}

-- two walks of the mesh with common ends
pub record IsPair (mesh : FaceList) (walks : List (List ℕ)) : Type 0 where
  pub first : List ℕ
  pub second : List ℕ
  pub two : walks ≡ first ∷ second ∷ []
  pub are : AreWalkPair mesh first second

-- the same fault, as one of a pair
abbrev pub of_entry : EntryFault → PairFault
of_entry (entry.NoVertex walk place) = NoVertex walk place
of_entry (entry.NoEdge walk place) = NoEdge walk place

-- whether the starts differ, or else the ends
abbrev pub ends_fault : List ℕ → List ℕ → Option PairFault
ends_fault first second =
    if not (slice_index first 0 == slice_index second 0) then Some (EndsDiffer true)
    else if not (slice_index first (darts first) == slice_index second (darts second)) then Some (EndsDiffer false)
    else None

-- what is first wrong with these walks
abbrev pub pair_fault : FaceList → List (List ℕ) → Option PairFault
pair_fault mesh walks = two_fault NotTwo of_entry ends_fault mesh walks
