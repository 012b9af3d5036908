use Rattle.orientation_cover.proofs.CoverLemmas.{LiftsUpTo}
use Rattle.orientation_cover.proofs.lifting.lift.Given as goal

abbrev pub invariant-loop-place : goal.invariant-loop-place
invariant-loop-place l = LiftsUpTo l.faces l.ways l.walk l.lift l.upper l.place
