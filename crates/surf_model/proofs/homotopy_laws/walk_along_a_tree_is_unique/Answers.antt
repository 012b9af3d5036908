use Rattle.surf_model.proofs.TreeWalkLemmas.{one_tree_walk}
use Rattle.surf_model.proofs.homotopy_laws.walk_along_a_tree_is_unique.Goals as goal

pub returns : goal.returns
returns c = λ parent rank first second falls. one_tree_walk parent rank falls first second
