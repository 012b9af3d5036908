use Rattle.move_lifting.proofs.Common.{darts_of, ◌≡◌, ◌<◌, length, All, DartName}
use Rattle.move_lifting.proofs.depths.find_below.Given as goal

abbrev pub invariant-loop-side : goal.invariant-loop-side
invariant-loop-side l = record {
  depths : length l.depths.items ≡ length l.initial.depths.items;
  found : All (λ (d : DartName). d.0 < darts_of l.on.surface.now) l.found.items;
  side : l.side.0 < darts_of l.on.surface.now;
}
