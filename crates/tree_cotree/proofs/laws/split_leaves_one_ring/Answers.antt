use Rattle.tree_cotree.proofs.Common.{arith}
use Rattle.tree_cotree.proofs.LawLemmas.{tree_has_ring, rest_has_ring}
use Rattle.tree_cotree.proofs.laws.split_leaves_one_ring.Goals as goal

pub returns : goal.returns
returns c = grind (arith, tree_has_ring, rest_has_ring)
