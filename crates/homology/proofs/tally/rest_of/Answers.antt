use Rattle.homology.proofs.Common.{number_at, arith, common_steps}
use Rattle.homology.proofs.ChainVerdictLemmas.{left_over, within_more}
use Rattle.homology.proofs.tally.rest_of.Goals as goal

pub take_faces-requires : goal.take_faces-requires
take_faces-requires c = grind (arith, within_more)

pub returns : goal.returns
returns c = grind (arith, common_steps, number_at, left_over)
