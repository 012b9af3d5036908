-- A walk as the list of a chain of pooled cells.
use Rattle.std.specs.Prelude.{◌≡◌, ℕ, ◌+◌, ◌<◌, ◌^◌, List, ◌++◌, length, Some}
use Rattle.chain_pool.specs.Chains.{Chains, IsEdit, IsLive, list_of, cells_in}
use Rattle.chain_pool.specs.declared.cells.CellName.{CellName}

-- the walk, and how many more entries can come with no memory
pub record Pooled : Type 0 where
  pub walk : List ℕ
  pub spare : ℕ

-- what holds of the pool that keeps the walk: the walk's chain is live and has an entry, there is no other chain, and all cells can be told
-- apart by 32 bits
pub record IsAlone (pool : Chains) (chain : CellName) : Type 0 where
  pub live : IsLive pool chain.0
  pub starts : 0 < length (list_of pool chain.0)
  pub cells : cells_in pool.lists ≡ length (list_of pool chain.0) + 1
  pub fits : length (list_of pool chain.0) + 1 + pool.spare < 2 ^ 32

-- a chain has these entries more at its end, which took as many cells, and all other chains stay
pub record IsPushed (old new : Chains) (chain : CellName) (more : List ℕ) : Type 0 where
  pub list : IsEdit old.lists new.lists chain.0 (Some (list_of old chain.0 ++ more))
  pub spare : new.spare + length more ≡ old.spare
