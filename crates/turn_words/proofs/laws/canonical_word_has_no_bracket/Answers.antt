use Rattle.turn_words.proofs.Places.{by_places}
use Rattle.turn_words.proofs.laws.canonical_word_has_no_bracket.Goals as goal

pub returns : goal.returns
returns c = by_places
