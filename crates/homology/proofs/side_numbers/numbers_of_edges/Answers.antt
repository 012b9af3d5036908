use Rattle.homology.proofs.Common.{arith}
use Rattle.homology.proofs.SizeLemmas.{sent}
use Rattle.homology.proofs.SideNumberLemmas.{number_pushed, within_pushed}
use Rattle.homology.proofs.side_numbers.numbers_of_edges.Goals as goal

pub loop-edge-preserved : goal.loop-edge-preserved
loop-edge-preserved c = grind (arith, sent, within_pushed, number_pushed)
