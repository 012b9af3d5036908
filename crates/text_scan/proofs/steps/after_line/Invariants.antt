use Rattle.text_scan.proofs.Common.{◌≡◌, ◌≤◌, length, behind}
use Rattle.text_scan.proofs.steps.after_line.Given as goal

abbrev pub invariant-loop-rest : goal.invariant-loop-rest
invariant-loop-rest l = (behind l.rest ≡ behind l.bytes) × (length l.rest ≤ length l.bytes)

abbrev pub decreases-loop-rest : goal.decreases-loop-rest
decreases-loop-rest l = length l.rest
