use Rattle.turn_words.proofs.Unique.{left, left-is-canonical}
use Rattle.turn_words.proofs.laws.canonical_word_is_there.Goals as goal

pub returns : goal.returns
returns c = λ degree word turns. (left degree word, left-is-canonical degree word turns)
