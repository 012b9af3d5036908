use Rattle.labellings.proofs.Common.{arith, led}
use Rattle.labellings.proofs.WordLemmas.{turns_word}
use Rattle.labellings.proofs.word.canonical_word.Goals as goal

pub fold-requires-clause-room : goal.fold-requires-clause-room
fold-requires-clause-room c = grind arith

pub returns : goal.returns
returns c = grind (arith, led, turns_word)
