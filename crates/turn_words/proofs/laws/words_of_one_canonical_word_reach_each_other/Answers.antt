use Rattle.turn_words.proofs.Unique.{reach_each_other}
use Rattle.turn_words.proofs.laws.words_of_one_canonical_word_reach_each_other.Goals as goal

pub returns : goal.returns
returns c = reach_each_other
