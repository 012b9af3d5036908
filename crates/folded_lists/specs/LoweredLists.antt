-- Lists of moves on a mesh that lead where lists on a double cover of it do.
-- The move below one on a cover, of which the clause of an inner function speaks.
pub use Rattle.double_covers.proofs.LowerMoves.{lower_move}
use Rattle.std.specs.Prelude.{ℕ, ◌<◌, Bool, List, length, map}
use Rattle.surf_model.specs.FaceLists.{FaceList}
use Rattle.surf_model.specs.Moves.{PeakedMoves}
use Rattle.surf_model.specs.PeakedLists.{LeadsAtPeak}
use Rattle.surf_model.specs.Walks.{IsWalk}
use Rattle.double_covers.specs.Covers.{cover_of, under}
use Rattle.orientation_cover.specs.Turns.{cover_by, lift_by}

-- Wherever the list leads on a double cover at its peak, the one below leads on the mesh at its own, between the walks below.
abbrev pub LeadsBelow : FaceList → PeakedMoves → PeakedMoves → Type 0
LeadsBelow mesh list below =
    (turns : ℕ → ℕ → Bool) (first second : List ℕ) → 0 < length first → LeadsAtPeak (cover_of mesh turns) first list second
    → LeadsAtPeak mesh (map (under mesh.count) first) below (map (under mesh.count) second)

-- Where the list leads between the lifts of two walks to the orientation cover, the one below leads between the walks.
abbrev pub LeadsBelowLifts : FaceList → PeakedMoves → PeakedMoves → Type 0
LeadsBelowLifts mesh list below =
    (bits : List Bool) (first second : List ℕ) → IsWalk mesh first → IsWalk mesh second
    → LeadsAtPeak (cover_by mesh bits) (lift_by mesh bits first) list (lift_by mesh bits second) → LeadsAtPeak mesh first below second
