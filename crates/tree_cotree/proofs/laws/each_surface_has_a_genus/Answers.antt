use Rattle.tree_cotree.proofs.GenusLemmas.{table_and_genus}
use Rattle.tree_cotree.proofs.laws.each_surface_has_a_genus.Goals as goal

pub returns : goal.returns
returns c = table_and_genus
