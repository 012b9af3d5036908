use Rattle.homology.proofs.Common.{number_at, arith}
use Rattle.homology.proofs.PairingLemmas.{refuted}
use Rattle.homology.proofs.laws.arrays_show_what_holds.Goals as goal

pub returns-clause-chain : goal.returns-clause-chain
returns-clause-chain c = λ mesh first second numbers are. (number_at numbers, are.chain)

pub returns-clause-cocycle : goal.returns-clause-cocycle
returns-clause-cocycle c = grind (arith, refuted)
