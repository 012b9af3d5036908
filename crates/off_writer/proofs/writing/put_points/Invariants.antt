use Rattle.off_writer.proofs.Common.{point_words, replicate, EachPut, line_of}
use Rattle.off_writer.proofs.writing.put_points.Given as goal

-- the points so far were put
abbrev pub invariant-loop : goal.invariant-loop
invariant-loop g l =
    EachPut g.K.Sink.written g.K.Sink.settled g.K.Sink.faults l.initial.sink l.sink l.initial.piece l.piece line_of
    (replicate l.count point_words) l.counter
