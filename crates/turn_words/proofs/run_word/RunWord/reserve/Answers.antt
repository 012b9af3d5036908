use Rattle.turn_words.proofs.Common.{arith}
use Rattle.turn_words.proofs.RunWords.{runs-few}
use Rattle.turn_words.proofs.run_word.RunWord.reserve.Goals as goal

pub overflow_sub-runs : goal.overflow_sub-runs
overflow_sub-runs c = omega (arith, runs-few c.self.inside.len c.self.inside.runs.runs c.self.invariant c.len.ensures.filled)
