use Rattle.turn_words.proofs.Unique.{unique}
use Rattle.turn_words.proofs.laws.canonical_word_is_unique.Goals as goal

pub returns : goal.returns
returns c = unique
