use Rattle.closed_doubles.proofs.DoubleSigns.{double_orientable, orientable_there}
use Rattle.closed_doubles.proofs.ClosedDoubles.{double_surface}
use Rattle.closed_doubles.proofs.laws.double_is_orientable.Goals as goal

pub returns-clause-signs : goal.returns-clause-signs
returns-clause-signs c = λ mesh valid few ring. (orientable_there mesh, double_orientable mesh valid few ring)

pub returns-clause-surface : goal.returns-clause-surface
returns-clause-surface c = double_surface
