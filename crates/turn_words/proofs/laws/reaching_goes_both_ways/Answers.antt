use Rattle.turn_words.proofs.Backward.{both-ways}
use Rattle.turn_words.proofs.laws.reaching_goes_both_ways.Goals as goal

pub returns : goal.returns
returns c = both-ways
