use Rattle.move_lifting.proofs.Common.{◌≡◌, ◌+◌, length, numbers}
use Rattle.move_lifting.proofs.PassLemmas.{ArePutSoFar}
use Rattle.move_lifting.proofs.passing.put_pending.Given as goal

abbrev pub invariant-loop-next : goal.invariant-loop-next
invariant-loop-next l = record {
  so_far : ArePutSoFar l.behind l.initial.track (numbers l.initial.pending.items) l.track l.pending.items;
  cells : length l.track.walk + l.track.spare ≡ length l.initial.track.walk + l.initial.track.spare;
}

-- one vertex is taken from what is pending
abbrev pub decreases-loop-next : goal.decreases-loop-next
decreases-loop-next l = length l.pending.items
