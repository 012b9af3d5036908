-- Walks that come in pairs, each two walks of a mesh with common ends, and what is first wrong with a list of walks that does not.
use Rattle.std.specs.Prelude.{ℕ, ◌+◌, ◌%◌, ◌==◌, ◌&&◌, nat_lt, not, Bool, true, false, if◌then◌else◌, List, [], ◌∷◌, length, slice_index, Option, Some, None, option_map, All, IsTrue}
use Rattle.std.specs.Option.{option_or}
use Rattle.surf_model.specs.FaceLists.{FaceList}
use Rattle.surf_model.specs.Walks.{darts, IsWalk, HaveCommonEnds}
use Rattle.walk_files.specs.Entries.{walks_fault}
use Rattle.walk_files.specs.WalkLists.{WalkText}
use Rattle.walk_files.specs.declared.entries.EntryFault.{EntryFault}
use Rattle.walk_files.specs.declared.entries.EntryFault.TheVariants as entry
use Rattle.walk_files.specs.declared.pairs.PairsFault.{PairsFault}
use Rattle.walk_files.specs.declared.pairs.PairsFault.TheVariants.{NotPairs, NoVertex, NoEdge, EndsDiffer}

-- two walks
pub record WalkPair : Type 0 where
  pub first : List ℕ
  pub second : List ℕ

-- the walks in twos, in order; a last one alone is left out
abbrev pub walks_in_pairs : List (List ℕ) → List WalkPair
walks_in_pairs (first ∷ second ∷ walks) = record { first = first; second = second } ∷ walks_in_pairs walks
walks_in_pairs walks = []

-- a text of version 1 has one pair, and one of version 2 one or more
abbrev pub are_paired : ℕ → ℕ → Bool
are_paired version count = if version == 2 then nat_lt 0 count && count % 2 == 0 else count == 2

-- the walks of a text are walks of the mesh, and come in pairs with common ends
pub record ArePairs (mesh : FaceList) (text : WalkText) : Type 0 where
  pub paired : IsTrue (are_paired text.version (length text.walks))
  pub walks : All (IsWalk mesh) text.walks
  pub ends : All (λ pair. HaveCommonEnds pair.first pair.second) (walks_in_pairs text.walks)

-- the same fault, as one of pairs
abbrev pub of_entry : EntryFault → PairsFault
of_entry (entry.NoVertex walk place) = NoVertex walk place
of_entry (entry.NoEdge walk place) = NoEdge walk place

-- whether the starts of the pair with that number differ, or else the ends
abbrev pub ends_fault : ℕ → WalkPair → Option PairsFault
ends_fault number pair =
    if not (slice_index pair.first 0 == slice_index pair.second 0) then Some (EndsDiffer number true)
    else if not (slice_index pair.first (darts pair.first) == slice_index pair.second (darts pair.second))
    then Some (EndsDiffer number false)
    else None

-- the fault of the first pair whose ends differ, of pairs that are numbered from `number` on
abbrev pub pairs_ends_fault : ℕ → List WalkPair → Option PairsFault
pairs_ends_fault number [] = None
pairs_ends_fault number (pair ∷ pairs) = option_or (ends_fault number pair) (pairs_ends_fault (number + 1) pairs)

-- what is first wrong with the walks of a text: their number, then any entry, then any edge, then the ends of a pair
abbrev pub pairs_fault : FaceList → WalkText → Option PairsFault
pairs_fault mesh text =
    if are_paired text.version (length text.walks)
    then option_or (option_map of_entry (walks_fault mesh text.walks)) (pairs_ends_fault 1 (walks_in_pairs text.walks))
    else Some (NotPairs (length text.walks))
