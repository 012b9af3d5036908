use Rattle.joined_loops.proofs.RoundsKept.{put-leaves}
use Rattle.joined_loops.proofs.laws.put_leaves_what_stands_before_such_a_turn.Goals as goal

pub returns : goal.returns
returns c = put-leaves
