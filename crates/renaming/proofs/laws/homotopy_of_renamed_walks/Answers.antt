use Rattle.renaming.proofs.RenamedMoves.{homotopic_renamed}
use Rattle.renaming.proofs.laws.homotopy_of_renamed_walks.Goals as goal

pub returns : goal.returns
returns c = homotopic_renamed
