use Rattle.turn_words.proofs.Common.{arith}
use Rattle.std.proofs.lemmas.Slice.Eq.{slice_eq-Decides}
use Rattle.turn_words.proofs.RunWords.{pair-decides, same-words, same-runs}
use Rattle.turn_words.proofs.run_word.RunWord.same.Goals as goal

pub returns-then-self-other-2 : goal.returns-then-self-other-2
returns-then-self-other-2 c = grind (arith, slice_eq-Decides, pair-decides, same-words, same-runs)
