use Rattle.compact_surfaces.proofs.Common.{◌<◌, ℕ, get_or}
use Rattle.compact_surfaces.proofs.surface.lies_below.Given as goal

abbrev pub invariant-loop-place : goal.invariant-loop-place
invariant-loop-place l = (k : ℕ) → k < l.place → get_or l.walk k 0 < l.count
