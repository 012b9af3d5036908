use Rattle.quad_system.proofs.EqualWordLemmas.{one_word}
use Rattle.quad_system.proofs.laws.homotopic_where_the_words_are_one.Goals as goal

pub returns : goal.returns
returns c = one_word
