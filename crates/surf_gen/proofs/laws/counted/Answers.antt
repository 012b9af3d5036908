use Rattle.surf_gen.proofs.NumberLemmas.{vertex_count}
use Rattle.surf_gen.proofs.CellLemmas.{cell_count}
use Rattle.surf_gen.proofs.laws.counted.Goals as goal

pub returns-clause-vertices : goal.returns-clause-vertices
returns-clause-vertices c genus grid chain = vertex_count genus grid chain.some_tori chain.some_points

pub returns-clause-cells : goal.returns-clause-cells
returns-clause-cells c genus grid chain = cell_count genus grid chain.some_tori chain.some_points
