use Rattle.turn_words.proofs.Common.{arith, ◌-◌, common_steps}
use Rattle.turn_words.proofs.RunLists.{ends-otherwise}
use Rattle.turn_words.proofs.RunWords.{reverse-some, taken-off, word-length}
use Rattle.turn_words.proofs.run_word.RunWord.take_run.Goals as goal

pub returns-clause-whole : goal.returns-clause-whole
returns-clause-whole g c = grind (arith, common_steps, word-length, taken-off, reverse-some, ends-otherwise)
