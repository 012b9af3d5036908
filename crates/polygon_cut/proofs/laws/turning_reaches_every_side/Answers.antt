use Rattle.polygon_cut.proofs.LawLemmas.{every_side}
use Rattle.polygon_cut.proofs.laws.turning_reaches_every_side.Goals as goal

pub returns : goal.returns
returns c = every_side
