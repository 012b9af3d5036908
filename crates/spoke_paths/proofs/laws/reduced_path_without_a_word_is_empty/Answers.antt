use Rattle.spoke_paths.proofs.ReducedTurns.{hyper-empty}
use Rattle.spoke_paths.proofs.laws.reduced_path_without_a_word_is_empty.Goals as goal

pub returns : goal.returns
returns c = hyper-empty
