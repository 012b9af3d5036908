use Rattle.homology.proofs.ArrayVerdictLemmas.{chain_accepted, cocycle_accepted}
use Rattle.homology.proofs.laws.arrays_are_accepted_where_they_hold.Goals as goal

pub returns-clause-chain : goal.returns-clause-chain
returns-clause-chain c = chain_accepted

pub returns-clause-cocycle : goal.returns-clause-cocycle
returns-clause-cocycle c = cocycle_accepted
