use Rattle.turn_words.proofs.Unique.{shared}
use Rattle.turn_words.proofs.laws.reached_word_shares_it.Goals as goal

pub returns : goal.returns
returns c = shared
