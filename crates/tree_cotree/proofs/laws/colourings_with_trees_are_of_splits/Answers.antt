use Rattle.tree_cotree.proofs.ColourLemmas.{coloured_trees_are_of_a_split, colourings_have_trees}
use Rattle.tree_cotree.proofs.laws.colourings_with_trees_are_of_splits.Goals as goal

pub returns : goal.returns
returns c = λ surface colouring o. (coloured_trees_are_of_a_split o, colourings_have_trees surface colouring)
