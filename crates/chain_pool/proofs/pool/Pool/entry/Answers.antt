use Rattle.chain_pool.proofs.Common.{arith, common_steps}
use Rattle.chain_pool.proofs.Lists.{IsCutTo, IsCutTo-none, IsCutTo-nothing}
use Rattle.chain_pool.proofs.Soundness.{parted_under-is}
use Rattle.chain_pool.proofs.pool.Pool.entry.Goals as goal
use Rattle.chain_pool.proofs.pool.Pool.entry.Goals.{After-go_to}

-- the chain is at the place
there : (c : After-go_to) → IsCutTo c.args.self.now c.go_to.new.self c.args.chain.0 c.args.place c.args.place
there c = grind (arith, common_steps, IsCutTo-none)

pub returns-clause-value : goal.returns-clause-value
returns-clause-value c = grind (arith, common_steps, parted_under-is, there)

pub returns-clause-same : goal.returns-clause-same
returns-clause-same c = grind (arith, IsCutTo-nothing, there)
