use Rattle.off_reader.proofs.Common.{are_pieces, ◌≡◌, length}
use Rattle.off_reader.proofs.keyword.are_pieces.Given as goal

abbrev pub invariant-loop-rest : goal.invariant-loop-rest
invariant-loop-rest l = are_pieces l.pieces ≡ are_pieces l.rest

abbrev pub decreases-loop-rest : goal.decreases-loop-rest
decreases-loop-rest l = length l.rest
