use Rattle.orientation.proofs.Common.{tree_place_of, ◌+◌}
use Rattle.orientation.proofs.ClimbLemmas.{IsClimb}
use Rattle.orientation.proofs.climb.chain_round.Given as goal

abbrev pub invariant-loop-face : goal.invariant-loop-face
invariant-loop-face l = IsClimb l.faces l.trees l.fn.tear.other.face.0 l.chain l.down.items l.face.0 l.other.0

abbrev pub decreases-loop-face : goal.decreases-loop-face
decreases-loop-face l = (tree_place_of l.trees l.face.0).depth + (tree_place_of l.trees l.other.0).depth
