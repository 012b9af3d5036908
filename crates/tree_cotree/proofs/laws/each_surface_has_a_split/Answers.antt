use Rattle.tree_cotree.proofs.GenusLemmas.{some_split}
use Rattle.tree_cotree.proofs.laws.each_surface_has_a_split.Goals as goal

pub returns : goal.returns
returns c = some_split
