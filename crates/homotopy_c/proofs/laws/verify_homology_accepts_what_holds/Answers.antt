use Rattle.homotopy_c.proofs.NumberTellings.{chain_holds, chain_told, cocycle_holds, cocycle_told, unknown_told}
use Rattle.homotopy_c.proofs.laws.verify_homology_accepts_what_holds.Goals as goal

pub returns-clause-chain : goal.returns-clause-chain
returns-clause-chain c = chain_holds

pub returns-clause-cocycle : goal.returns-clause-cocycle
returns-clause-cocycle c = cocycle_holds

pub returns-clause-chains : goal.returns-clause-chains
returns-clause-chains c = chain_told

pub returns-clause-cocycles : goal.returns-clause-cocycles
returns-clause-cocycles c = cocycle_told

pub returns-clause-else_none : goal.returns-clause-else_none
returns-clause-else_none c = unknown_told
