use Rattle.compact_surfaces.proofs.Common.{◌<◌, ℕ, All, walk_at}
use Rattle.compact_surfaces.proofs.surface.count_below.Given as goal

-- the walks so far lie below the number
abbrev pub invariant-loop-place : goal.invariant-loop-place
invariant-loop-place l = (k : ℕ) → k < l.place → All (λ (v : ℕ). v < l.count) (walk_at l.walks k)
