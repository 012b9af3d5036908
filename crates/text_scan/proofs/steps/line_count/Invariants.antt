use Rattle.text_scan.proofs.Common.{◌≡◌, ◌≤◌, ◌+◌, length, cut_lines}
use Rattle.text_scan.proofs.steps.line_count.Given as goal

abbrev pub invariant-loop-rest : goal.invariant-loop-rest
invariant-loop-rest l = (l.count + length (cut_lines l.rest) ≡ length (cut_lines l.text)) × (l.count + length l.rest ≤ length l.text)

abbrev pub decreases-loop-rest : goal.decreases-loop-rest
decreases-loop-rest l = length l.rest
