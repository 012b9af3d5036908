use Rattle.homology.proofs.Common.{arith}
use Rattle.homology.proofs.PairingLemmas.{refuted}
use Rattle.homology.proofs.laws.no_chain_where_a_cocycle_separates.Goals as goal

pub returns : goal.returns
returns c = grind (arith, refuted)
