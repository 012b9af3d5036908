use Rattle.commands.proofs.Common.{EachPut}
use Rattle.commands.proofs.GatheredLines.{link_text}
use Rattle.commands.proofs.odd_chain_line.put_links.Given as goal

-- the links so far were put
abbrev pub invariant-loop-k : goal.invariant-loop-k
invariant-loop-k g l =
    EachPut g.K.Sink.written g.K.Sink.settled g.K.Sink.faults l.initial.out l.out l.initial.piece l.piece link_text l.chain l.k
