use Rattle.spoke_rings.proofs.Common.{◌+◌, ◌-◌, ◌*◌}
use Rattle.spoke_rings.proofs.LeastStarts.{Leads}
use Rattle.spoke_rings.proofs.rotation.least_start.Given as goal

abbrev pub invariant-loop-rival : goal.invariant-loop-rival
invariant-loop-rival l = Leads l.spokes l.start l.rival l.same

-- each look moves the starts and the place together on
abbrev pub decreases-loop-rival : goal.decreases-loop-rival
decreases-loop-rival l = 3 * l.len - (l.start + l.rival + l.same)
