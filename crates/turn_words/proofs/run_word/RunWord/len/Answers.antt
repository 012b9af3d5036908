use Rattle.turn_words.proofs.Common.{arith}
use Rattle.turn_words.proofs.RunWords.{runs-few, word-length}
use Rattle.turn_words.proofs.run_word.RunWord.len.Goals as goal

pub returns-clause-runs : goal.returns-clause-runs
returns-clause-runs c = grind (arith, runs-few, word-length)
