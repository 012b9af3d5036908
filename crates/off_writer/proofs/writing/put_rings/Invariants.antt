use Rattle.off_writer.proofs.Common.{EachPut}
use Rattle.off_writer.proofs.RowLemmas.{ring_put}
use Rattle.off_writer.proofs.writing.put_rings.Given as goal

-- the lines of the faces so far were put
abbrev pub invariant-loop-face : goal.invariant-loop-face
invariant-loop-face g l =
    EachPut g.K.Sink.written g.K.Sink.settled g.K.Sink.faults l.initial.sink l.sink l.initial.piece l.piece ring_put l.faces.faces l.face
