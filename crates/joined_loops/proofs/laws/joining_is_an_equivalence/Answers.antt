use Rattle.joined_loops.proofs.Joining.{joined-itself, joined-back, joined-on}
use Rattle.joined_loops.proofs.laws.joining_is_an_equivalence.Goals as goal

pub returns : goal.returns
returns c = record { itself = joined-itself; back = joined-back; on = joined-on }
