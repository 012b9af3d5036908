-- How large chains of tori are.
use Rattle.std.specs.Prelude.{ℕ, ◌≤◌}
use Rattle.surf_gen.specs.declared.limits.TheConstants.{MOST_GENUS, LEAST_GRID, MOST_GRID}

-- so many tori, each of so many rows and columns, are a chain that is made
pub record IsChainSize (genus grid : ℕ) : Type 0 where
  pub some_tori : 1 ≤ genus
  pub few_tori : genus ≤ MOST_GENUS
  pub some_points : LEAST_GRID ≤ grid
  pub few_points : grid ≤ MOST_GRID
