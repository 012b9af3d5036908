use Rattle.doubling.proofs.ValidDoubles.{double_valid}
use Rattle.doubling.proofs.laws.double_is_a_mesh.Goals as goal

pub returns : goal.returns
returns c = double_valid
