use Rattle.commands.proofs.Common.{word_line, EachPut}
use Rattle.commands.proofs.word_lines.put_words.Given as goal

-- the lines of the words so far were put
abbrev pub invariant-loop-word : goal.invariant-loop-word
invariant-loop-word g l =
    EachPut g.K.Sink.written g.K.Sink.settled g.K.Sink.faults l.initial.out l.out l.initial.piece l.piece word_line l.words.items
    l.word-index
