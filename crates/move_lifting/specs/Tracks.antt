-- A walk that is laid vertex by vertex, with the moves that led to it.
use Rattle.std.specs.Prelude.{◌≡◌, ◌⊎◌, ℕ, ◌+◌, ◌-◌, ◌<◌, ◌≤◌, max, List, [], ◌∷◌, ◌++◌, length, take, drop, slice_index}
use Rattle.surf_model.specs.FaceLists.{FaceList}
use Rattle.surf_model.specs.FreeWalks.{HasNoSpur}
use Rattle.surf_model.specs.Moves.{PeakedMoves}
use Rattle.surf_model.specs.declared.moves.Move.TheVariants.{Remove}
use Rattle.surf_model.specs.declared.names.VertexName.{VertexName}
use Rattle.move_lifting.specs.Lifts.{LeadsAtPeak, MoreRemove}

-- the walk that is laid, the moves that led to it, and how many more vertices can be laid with no memory for them
pub record TrackView : Type 0 where
  pub walk : List ℕ
  pub list : PeakedMoves
  pub spare : ℕ

-- What is done at the end of a walk may be done wherever so many entries stand behind: if the moves before lead to the first walk with
-- them behind it, the moves after lead to the second walk with them behind it.
abbrev pub GoesOn : FaceList → ℕ → List ℕ → PeakedMoves → List ℕ → PeakedMoves → Type 0
GoesOn mesh behind walk list next more =
    (first rest : List ℕ) → length rest ≡ behind → LeadsAtPeak mesh first list (walk ++ rest) → LeadsAtPeak mesh first more (next ++ rest)

-- the last entry goes, by a removal at the entry before it
pub record IsStepBack (behind : ℕ) (old new : TrackView) : Type 0 where
  pub via : VertexName
  pub walk : old.walk ≡ new.walk ++ via.0 ∷ []
  pub list : new.list
      ≡ record { moves = old.list.moves ++ Remove (length old.walk - 2) via ∷ []; peak = max old.list.peak (length old.walk - 2 + behind) }

-- the last entry of a walk
abbrev pub last_of : List ℕ → ℕ
last_of walk = slice_index walk (length walk - 1)

-- one entry comes, or the last one goes
abbrev pub GrowsOrShrinks : List ℕ → List ℕ → ℕ → Type 0
GrowsOrShrinks old new next = (new ≡ old ++ next ∷ []) ⊎ ((via : ℕ) × (old ≡ new ++ via ∷ []))

-- The first `front` entries of a walk go on to the next one, with so many entries behind the walk: it comes to them, or, where it leads
-- straight back, the last of them goes. So many are in front `now`, without spurs, and what stands behind the next one stays.
pub record IsNextPut (behind : ℕ) (old : TrackView) (front : ℕ) (new : TrackView) (now : ℕ) : Type 0 where
  pub within : now ≤ length new.walk
  pub rest : drop now new.walk ≡ drop (front + 1) old.walk
  pub leads : (mesh : FaceList) → GoesOn mesh (length old.walk - front - 1 + behind)
      (take front old.walk ++ slice_index old.walk front ∷ []) old.list (take now new.walk) new.list
  pub some : 0 < now
  pub no_spur : HasNoSpur (take now new.walk)
  pub last : last_of (take now new.walk) ≡ slice_index old.walk front
  pub long : now ≤ front + 1
  pub peak : new.list.peak ≤ max old.list.peak (length old.walk - 1 + behind)
  pub removals : MoreRemove old.list.moves new.list.moves
  pub shape : GrowsOrShrinks (take front old.walk) (take now new.walk) (slice_index old.walk front)
