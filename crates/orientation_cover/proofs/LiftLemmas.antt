-- Lifts to the cover by ways round the vertices.
use Rattle.orientation_cover.proofs.Common.{walk_lifted, homotopy_kept, lead_home, AreTurns, cover_by, lift_by, told_by, AreWays, ℕ, Bool, false, List, ◌↔◌, FaceList, IsFaceList}
use Rattle.surf_model.specs.Moves.{Homotopic}
use Rattle.surf_model.specs.Walks.{IsWalk}
use Rattle.orientation_cover.proofs.CoverLemmas.{turning}
use Rattle.orientation_cover.proofs.TurnLemmas.{ways_turn}

turns_home : (mesh : FaceList) (bits : List Bool) → IsFaceList mesh → AreWays mesh bits → AreTurns mesh (turning mesh bits)
turns_home mesh bits valid are =
    lead_home mesh (told_by mesh bits) (turning mesh bits) (ways_turn mesh (told_by mesh bits) valid are.ways)

pub lift_is_walk : (mesh : FaceList) (bits : List Bool) (walk : List ℕ) → IsFaceList mesh → AreWays mesh bits → IsWalk mesh walk
    → IsWalk (cover_by mesh bits) (lift_by mesh bits walk)
lift_is_walk mesh bits walk valid are w = walk_lifted mesh (turning mesh bits) (turns_home mesh bits valid are) false walk w

pub lifts_homotopic : (mesh : FaceList) (bits : List Bool) (first second : List ℕ) → IsFaceList mesh → AreWays mesh bits
    → IsWalk mesh first → IsWalk mesh second
    → Homotopic (cover_by mesh bits) (lift_by mesh bits first) (lift_by mesh bits second) ↔ Homotopic mesh first second
lifts_homotopic mesh bits first second valid are w v =
    homotopy_kept mesh (turning mesh bits) false first second valid (turns_home mesh bits valid are) w v
