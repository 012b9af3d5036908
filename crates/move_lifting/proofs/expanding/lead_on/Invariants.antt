use Rattle.move_lifting.proofs.Common.{darts_of, ◌+◌, ◌≤◌, length, numbers}
use Rattle.move_lifting.proofs.ExpandLemmas.{IsUnderWay}
use Rattle.move_lifting.proofs.expanding.lead_on.Given as goal

abbrev pub invariant-loop-step : goal.invariant-loop-step
invariant-loop-step l = record {
  under : IsUnderWay l.on.surface.now l.on.split.now l.behind l.fn.to.0 l.fn.track l.track (numbers l.pending.items) l._step;
  cells : length l.fn.track.walk + darts_of l.on.surface.now ≤ length l.track.walk + l.track.spare;
}
