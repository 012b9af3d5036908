use Rattle.free_loops.proofs.DecidingLemmas.{free_words_decide}
use Rattle.free_loops.proofs.word.free_word.Goals as goal

pub returns-in-None-clause-decide : goal.returns-in-None-clause-decide
returns-in-None-clause-decide c = free_words_decide c.args.surface.now c.args.labels.now c.faces.ensures.valid c.requires.labels

pub returns-in-Some-clause-decide : goal.returns-in-Some-clause-decide
returns-in-Some-clause-decide c = free_words_decide c.args.surface.now c.args.labels.now c.faces.ensures.valid c.requires.labels
