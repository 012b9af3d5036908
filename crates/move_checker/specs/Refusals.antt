-- When a step is refused, and why; and what a step gives.
use Rattle.std.specs.Prelude.{ℕ, ◌+◌, Bool, ◌==◌, ◌&&◌, nat_lt, nat_le, if◌then◌else◌, List, length, take, drop, slice_index, Option, Some, None, Result, Ok, Err}
use Rattle.surf_model.specs.FaceLists.{FaceList, face_at, corners_from, is_edge}
use Rattle.surf_model.specs.Walks.{darts}
use Rattle.surf_model.specs.Moves.{apply, same_walk}
use Rattle.surf_model.specs.declared.moves.Move.{Move}
use Rattle.surf_model.specs.declared.moves.Move.TheVariants.{Insert, Remove, Across}
use Rattle.move_checker.specs.declared.fault.MoveFault.{MoveFault}
use Rattle.move_checker.specs.declared.fault.MoveFault.TheVariants.{Place, NoEdge, NotSpur, NotOnFace, OverPeak}

-- the fault unless the condition holds, and then what the next conditions say
abbrev pub need : Bool → MoveFault → Option MoveFault → Option MoveFault
need holds fault next = if holds then next else Some fault

-- the first reason why the table of moves does not allow a move; nothing where it does
unfoldable pub refusal : FaceList → List ℕ → Move → Option MoveFault
refusal mesh walk (Insert at via) =
    need (nat_le at (darts walk)) Place
    (need (is_edge mesh (slice_index walk at) via.0) NoEdge None)
refusal mesh walk (Remove at via) =
    need (nat_le (at + 2) (darts walk)) Place
    (need (slice_index walk at == slice_index walk (at + 2) && slice_index walk (at + 1) == via.0) NotSpur None)
refusal mesh walk (Across at face corner forward taken) =
    let ring = face_at mesh face.0 in
    let sides = length ring in
    need (nat_le (at + taken) (darts walk)) Place
    (need (nat_lt face.0 (length mesh.faces) && nat_lt corner sides && nat_le taken sides) NotOnFace
    (need (same_walk (take (taken + 1) (drop at walk)) (corners_from ring forward corner taken)) NotOnFace None))

-- the walk after a step under a peak, or the fault for which the step is refused
unfoldable pub step_of : FaceList → ℕ → List ℕ → Move → Result (List ℕ) MoveFault
step_of mesh peak walk move = judged (refusal mesh walk move) (apply mesh walk move)
  where
    judged : Option MoveFault → Option (List ℕ) → Result (List ℕ) MoveFault
    judged (Some fault) next = Err fault
    judged None (Some next) = if nat_le (darts next) peak then Ok next else Err OverPeak
    -- nothing is refused without a reason
    judged None None = Err OverPeak
