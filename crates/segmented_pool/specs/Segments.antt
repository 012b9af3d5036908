-- A row of chains in one pool, the segments of one list.
use Rattle.std.specs.Prelude.{◌≡◌, ◌≢◌, ℕ, ◌+◌, ◌<◌, ◌≤◌, ◌^◌, List, [], ◌∷◌, length, take, slice_index_or, map, Option, Some}
use Rattle.std.specs.List.{concat}
use Rattle.chain_pool.specs.Chains.{under, list_under}
use Rattle.segmented_pool.specs.declared.segments.Segment.{Segment}
use Rattle.segmented_pool.specs.declared.segments.Mark.{Mark}

-- the lists of the segments in order, and the number of cells that can be taken with no memory
pub record Parts : Type 0 where
  pub parts : List (List ℕ)
  pub spare : ℕ

-- the list of a segment
abbrev pub part : List (List ℕ) → ℕ → List ℕ
part parts index = slice_index_or parts index []

-- the lists under the names of segments
abbrev pub lists_of : List (Option (List ℕ)) → List Segment → List (List ℕ)
lists_of lists segments = map (λ segment. list_under lists segment.chain.0) segments

-- a segment has this list, and knows how long it is
pub record IsSegment (lists : List (Option (List ℕ))) (segment : Segment) (list : List ℕ) : Type 0 where
  pub has : under lists segment.chain.0 ≡ Some list
  pub counted : segment.len ≡ length list

-- the name is that of none of these segments
abbrev pub IsNameApart : ℕ → List Segment → Type 0
IsNameApart name [] = Unit {0}
IsNameApart name (segment ∷ segments) = (name ≢ segment.chain.0) × IsNameApart name segments

-- the segments have these lists, and no two of them are one chain
abbrev pub AreSegments : List (Option (List ℕ)) → List Segment → List (List ℕ) → Type 0
AreSegments lists [] [] = Unit {0}
AreSegments lists [] (list ∷ rest) = ⊥
AreSegments lists (segment ∷ segments) [] = ⊥
AreSegments lists (segment ∷ segments) (list ∷ rest) =
    IsSegment lists segment list × IsNameApart segment.chain.0 segments × AreSegments lists segments rest

-- a segment, and the number of entries that lie before it
pub record IsMark (parts : List (List ℕ)) (mark : Mark) : Type 0 where
  pub within : mark.index < length parts
  pub start : mark.start ≡ length (concat (take mark.index parts))

-- the place is in the segment, or behind its last entry where that is the last one of all
pub record IsInSegment (parts : List (List ℕ)) (mark : Mark) (place : ℕ) : Type 0 where
  pub from : mark.start ≤ place
  pub to : place ≤ mark.start + length (part parts mark.index)
  pub below : place < length (concat parts) → place < mark.start + length (part parts mark.index)

-- what holds of a chain in segments: a marked one of them, the number of entries, and the cells that entries may take
pub record IsKeptInSegments (row : Parts) (mark : Mark) (len spare : ℕ) : Type 0 where
  pub marked : IsMark row.parts mark
  pub counted : len ≡ length (concat row.parts)
  pub kept_back : spare ≤ row.spare
  pub fits : len + spare < 2 ^ 32
