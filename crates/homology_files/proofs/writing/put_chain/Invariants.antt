use Rattle.homology_files.proofs.Common.{FaceFits, take, All, EachPut}
use Rattle.homology_files.proofs.WritingLemmas.{face_line}
use Rattle.homology_files.proofs.writing.put_chain.Given as goal

-- the lines so far were put behind the head, and their names fit
abbrev pub invariant-loop-k : goal.invariant-loop-k
invariant-loop-k g l =
    EachPut g.K.Sink.written g.K.Sink.settled g.K.Sink.faults l.initial.sink l.sink l.initial.piece l.piece face_line l.numbers l.k
    × All FaceFits (take l.k l.numbers)
