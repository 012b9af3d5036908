use Rattle.cover_commands.proofs.Common.{drop, EachPut, spaced_number}
use Rattle.cover_commands.proofs.walk_writing.put_rest.Given as goal

-- the vertices so far were put
abbrev pub invariant-loop-place : goal.invariant-loop-place
invariant-loop-place g l =
    EachPut g.K.Sink.written g.K.Sink.settled g.K.Sink.faults l.initial.sink l.sink l.initial.piece l.piece spaced_number (drop 1 l.walk)
    l.place
