use Rattle.free_loops.proofs.LawLemmas.{sphere}
use Rattle.free_loops.proofs.laws.closed_walks_on_a_sphere_are_freely_homotopic.Goals as goal

pub returns : goal.returns
returns c = sphere
