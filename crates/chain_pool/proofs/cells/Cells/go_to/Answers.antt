use Rattle.chain_pool.proofs.Common.{arith}
use Rattle.chain_pool.proofs.Places.{SameLists-refl, SameLists-done}
use Rattle.chain_pool.proofs.cells.Cells.go_to.Goals as goal

-- the chain is at its place
pub returns-else-place-clause-chain : goal.returns-else-place-clause-chain
returns-else-place-clause-chain c = grind (arith, SameLists-done, SameLists-refl)
