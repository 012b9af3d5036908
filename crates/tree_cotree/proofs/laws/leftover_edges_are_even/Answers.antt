use Rattle.tree_cotree.proofs.LawLemmas.{even}
use Rattle.tree_cotree.proofs.laws.leftover_edges_are_even.Goals as goal

pub returns : goal.returns
returns c = even
