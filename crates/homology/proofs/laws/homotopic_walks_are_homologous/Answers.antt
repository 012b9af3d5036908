use Rattle.homology.proofs.Common.{arith}
use Rattle.homology.proofs.MoveLemmas.{chain_of_moves}
use Rattle.homology.proofs.laws.homotopic_walks_are_homologous.Goals as goal

pub returns-clause-chain : goal.returns-clause-chain
returns-clause-chain c = chain_of_moves

pub returns-clause-walks : goal.returns-clause-walks
returns-clause-walks c = grind (arith, chain_of_moves)
