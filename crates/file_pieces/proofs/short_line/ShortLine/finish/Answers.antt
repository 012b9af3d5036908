use Rattle.file_pieces.proofs.Common.{arith, rules}
use Rattle.file_pieces.proofs.ShortLemmas.{finish_closed, finish_word}
use Rattle.file_pieces.proofs.short_line.ShortLine.finish.Goals as goal

pub returns-then-not-self-clause-words : goal.returns-then-not-self-clause-words
returns-then-not-self-clause-words c = grind (arith, finish_word)

pub returns-else-not-self-clause-words : goal.returns-else-not-self-clause-words
returns-else-not-self-clause-words c = λ bytes stands. finish_closed c.args.self.now bytes (search rules) stands
