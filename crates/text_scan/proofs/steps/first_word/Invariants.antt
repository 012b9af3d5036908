use Rattle.text_scan.proofs.Common.{◌≡◌, ◌+◌, ◌≤◌, length, lines_from}
use Rattle.text_scan.proofs.steps.first_word.Given as goal

abbrev pub invariant-loop-rest : goal.invariant-loop-rest
invariant-loop-rest l = (lines_from l.start l.bytes ≡ lines_from l.line l.rest) × (l.line + length l.rest ≤ l.start + length l.bytes)
    × (l.start ≤ l.line)

abbrev pub decreases-loop-rest : goal.decreases-loop-rest
decreases-loop-rest l = length l.rest
