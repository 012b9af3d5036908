use Rattle.walk_files.proofs.Common.{take, All, EachPut, line_of, face_words, AreNumbers}
use Rattle.walk_files.proofs.denial_writing.put_faces.Given as goal

-- the lines of the faces so far were put
abbrev pub invariant-loop-k : goal.invariant-loop-k
invariant-loop-k g l =
    EachPut g.K.Sink.written g.K.Sink.settled g.K.Sink.faults l.initial.sink l.sink l.initial.piece l.piece
    (λ face. line_of (face_words face)) l.labelling.faces l.k
    × All (λ face. AreNumbers face.labels) (take l.k l.labelling.faces)
