use Rattle.homology_files.proofs.Common.{EdgeFits, take, All, EachPut}
use Rattle.homology_files.proofs.WritingLemmas.{edge_line}
use Rattle.homology_files.proofs.writing.put_cocycle.Given as goal

-- the lines so far were put behind the head, and their names fit
abbrev pub invariant-loop-k : goal.invariant-loop-k
invariant-loop-k g l =
    EachPut g.K.Sink.written g.K.Sink.settled g.K.Sink.faults l.initial.sink l.sink l.initial.piece l.piece edge_line l.numbers l.k
    × All EdgeFits (take l.k l.numbers)
