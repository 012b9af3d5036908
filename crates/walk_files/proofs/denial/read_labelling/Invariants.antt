use Rattle.walk_files.proofs.Common.{length, lines_left}
use Rattle.walk_files.proofs.DenialLines.{SoFar}
use Rattle.walk_files.proofs.denial.read_labelling.Given as goal

-- the lines left, behind the faces so far, mean what all lines do
abbrev pub invariant-loop-cursor : goal.invariant-loop-cursor
invariant-loop-cursor l = SoFar l.fn.cursor l.fn.labelling l.cursor l.labelling

abbrev pub decreases-loop-cursor : goal.decreases-loop-cursor
decreases-loop-cursor l = length (lines_left l.cursor)
