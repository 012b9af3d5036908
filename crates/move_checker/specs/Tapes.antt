-- A walk that steps change in place, and how it lies in a pool of cells.
use Rattle.std.specs.Prelude.{◌≡◌, ℕ, ◌+◌, ◌<◌, ◌≤◌, List, length}
use Rattle.chain_pool.specs.Chains.{Chains, IsLive, list_of}
use Rattle.chain_pool.specs.declared.cells.CellName.{CellName}
use Rattle.surf_model.specs.declared.limits.TheConstants.{MOST_PEAK}

-- a walk, with the greatest number of darts that it may ever have, and the pool and the chain that keep it
pub record PeakedWalk : Type 0 where
  pub walk : List ℕ
  pub peak : ℕ
  pub pool : Chains
  pub chain : CellName

-- what holds of the pool that keeps such a walk: it has the chain, there is an entry, and as many cells can be taken
-- as the walk may still grow by
pub record HasRoom (pool : Chains) (chain : CellName) (peak : ℕ) : Type 0 where
  pub live : IsLive pool chain.0
  pub starts : 0 < length (list_of pool chain.0)
  pub room : length (list_of pool chain.0) + pool.spare ≡ peak + 1
  pub few : peak ≤ MOST_PEAK
