use Rattle.connectivity.proofs.Common.{AreLinksUpTo}
use Rattle.connectivity.proofs.corners.links.Given as goal

abbrev pub invariant-loop-corner : goal.invariant-loop-corner
invariant-loop-corner l = AreLinksUpTo l.faces l.rings l.corner l.links.items
