use Rattle.polygon_cut.proofs.Common.{without_ways}
use Rattle.polygon_cut.proofs.RingWalkLemmas.{IsWalking}
use Rattle.polygon_cut.proofs.ring.label_ring.Given as goal

abbrev pub invariant-loop-step : goal.invariant-loop-step
invariant-loop-step l = IsWalking l.surface (without_ways l.colouring) l.fn.last.0 l._step l.sides.items l.labels.items l.dart.0
