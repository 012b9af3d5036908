use Rattle.labellings.proofs.VerdictLemmas.{is_word}
use Rattle.labellings.proofs.verdict.has_word.Goals as goal

pub returns : goal.returns
returns c =
    is_word c.args.on.now.faces.now c.args.on.now.good.now c.args.walk.now c.in_ok-own.own c.args.word.now c.are_same_words.result
    c.len.ensures.valid c.requires.good c.requires.walk
    c.in_ok-own.ensures c.are_same_words.ensures
