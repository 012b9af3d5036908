use Rattle.turn_words.proofs.Unique.{kept}
use Rattle.turn_words.proofs.laws.canonical_word_is_kept.Goals as goal

pub returns : goal.returns
returns c = kept
