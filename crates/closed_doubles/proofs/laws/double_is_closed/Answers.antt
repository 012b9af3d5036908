use Rattle.closed_doubles.proofs.TwoSides.{double_two_sides}
use Rattle.closed_doubles.proofs.DoubleRings.{double_rings}
use Rattle.closed_doubles.proofs.JoinedDoubles.{double_joined}
use Rattle.closed_doubles.proofs.ClosedDoubles.{double_closed}
use Rattle.closed_doubles.proofs.laws.double_is_closed.Goals as goal

pub returns-clause-two_sides : goal.returns-clause-two_sides
returns-clause-two_sides c = double_two_sides

pub returns-clause-one_ring : goal.returns-clause-one_ring
returns-clause-one_ring c = double_rings

pub returns-clause-joined : goal.returns-clause-joined
returns-clause-joined c = double_joined

pub returns-clause-closed : goal.returns-clause-closed
returns-clause-closed c = double_closed
