use Rattle.joined_loops.proofs.Numbers.{one-state}
use Rattle.joined_loops.proofs.laws.number_belongs_to_the_word.Goals as goal

pub returns : goal.returns
returns c = one-state
