-- The verdict on a list of moves between two walks.
use Rattle.std.specs.Prelude.{◌≡◌, ◌≢◌, ℕ, ◌+◌, ◌-◌, ◌<◌, ◌≤◌, nat_le, if◌then◌else◌, List, [], ◌∷◌, take, slice_get, Some, Result, Ok, Err}
use Rattle.surf_model.specs.FaceLists.{FaceList}
use Rattle.surf_model.specs.Walks.{darts}
use Rattle.surf_model.specs.Moves.{PeakedMoves, Leads, greatest_darts, same_walk}
use Rattle.surf_model.specs.declared.moves.Move.{Move}
use Rattle.move_checker.specs.Refusals.{step_of}
use Rattle.move_checker.specs.declared.fault.MoveFault.{MoveFault}
use Rattle.move_checker.specs.declared.judge.Verdict.{Verdict}
use Rattle.move_checker.specs.declared.judge.Verdict.TheVariants.{Accepted, Peak, AtMove, End}

-- the verdict on the moves from move `number` on, with the walk that the moves before it gave
unfoldable pub verdict_from : FaceList → ℕ → List ℕ → ℕ → List ℕ → List Move → Verdict
verdict_from mesh peak second number walk [] = if same_walk walk second then Accepted else End
verdict_from mesh peak second number walk (move ∷ moves) =
    after (step_of mesh peak walk move) (λ next. verdict_from mesh peak second (number + 1) next moves)
  where
    after : Result (List ℕ) MoveFault → (List ℕ → Verdict) → Verdict
    after (Ok next) rest = rest next
    after (Err fault) rest = AtMove number fault

-- the first of these that holds: the first walk passes the peak, a move is refused, the end is another walk
unfoldable pub verdict_of : FaceList → List ℕ → List ℕ → PeakedMoves → Verdict
verdict_of mesh first second list =
    if nat_le (darts first) list.peak then verdict_from mesh list.peak second 1 first list.moves else Peak

-- the moves lead from the first walk to another, and no walk on the way has more darts than the peak
pub record LeadsWithin (mesh : FaceList) (peak : ℕ) (first : List ℕ) (moves : List Move) (walk : List ℕ) : Type 0 where
  pub leads : Leads mesh first moves walk
  pub within : greatest_darts mesh first moves ≤ peak

-- the moves before one, counted from 1, lead within the peak to a walk at which that move is refused
pub record IsRefusedAt (mesh : FaceList) (first : List ℕ) (list : PeakedMoves) (number : ℕ) (fault : MoveFault) : Type 0 where
  pub move : Move
  pub walk : List ℕ
  pub counted : 0 < number
  pub here : slice_get list.moves (number - 1) ≡ Some move
  pub before : LeadsWithin mesh list.peak first (take (number - 1) list.moves) walk
  pub refused : step_of mesh list.peak walk move ≡ Err fault

-- all moves lead within the peak to a walk that is not the second one
pub record EndsElsewhere (mesh : FaceList) (first second : List ℕ) (list : PeakedMoves) : Type 0 where
  pub walk : List ℕ
  pub before : LeadsWithin mesh list.peak first list.moves walk
  pub other : walk ≢ second
