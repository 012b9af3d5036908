use Rattle.double_covers.proofs.LiftedMoves.{cover_valid}
use Rattle.double_covers.proofs.laws.cover_is_a_mesh.Goals as goal

pub returns : goal.returns
returns c = λ mesh turns valid are. cover_valid mesh turns valid
