use Rattle.double_covers.proofs.LiftedMoves.{homotopy_kept}
use Rattle.double_covers.proofs.laws.cover_keeps_homotopy.Goals as goal

pub returns : goal.returns
returns c = homotopy_kept
