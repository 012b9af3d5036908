use Rattle.off_writer.proofs.Common.{EachPut}
use Rattle.off_writer.proofs.RowLemmas.{corner_put}
use Rattle.off_writer.proofs.writing.put_corners.Given as goal

-- the corners so far were put
abbrev pub invariant-loop-corner : goal.invariant-loop-corner
invariant-loop-corner g l =
    EachPut g.K.Sink.written g.K.Sink.settled g.K.Sink.faults l.initial.sink l.sink l.initial.piece l.piece corner_put l.ring l.corner-index
