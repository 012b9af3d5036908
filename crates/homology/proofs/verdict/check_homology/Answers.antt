use Rattle.homology.proofs.Common.{arith}
use Rattle.homology.proofs.VerdictLemmas.{exactly}
use Rattle.homology.proofs.verdict.check_homology.Goals as goal

pub returns-in-Chain-clause-exact : goal.returns-in-Chain-clause-exact
returns-in-Chain-clause-exact c = grind (arith, exactly)

pub returns-in-Cocycle-clause-exact : goal.returns-in-Cocycle-clause-exact
returns-in-Cocycle-clause-exact c = grind (arith, exactly)
