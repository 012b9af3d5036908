use Rattle.polygon_cut.proofs.GenusLemmas.{homotopic_at_genus_0}
use Rattle.polygon_cut.proofs.laws.walks_on_a_surface_of_genus_0_are_homotopic.Goals as goal

pub returns : goal.returns
returns c = homotopic_at_genus_0
