use Rattle.walk_files.proofs.Common.{ℕ, ◌-◌, ◌<◌, ◌^◌, drop, slice_index, EachPut, spaced_number}
use Rattle.walk_files.proofs.denial_writing.put_later_entries.Given as goal

-- the entries so far, behind the first, were put
abbrev pub invariant-loop-k : goal.invariant-loop-k
invariant-loop-k g l =
    EachPut g.K.Sink.written g.K.Sink.settled g.K.Sink.faults l.initial.sink l.sink l.initial.piece l.piece spaced_number (drop 1 l.word)
    (l.k - 1)
    × ((j : ℕ) → 0 < j → j < l.k → slice_index l.word j < 2 ^ 32)
