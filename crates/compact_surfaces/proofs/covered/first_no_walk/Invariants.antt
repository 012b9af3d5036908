use Rattle.compact_surfaces.proofs.Common.{◌<◌, ℕ, IsWalk, walk_at}
use Rattle.compact_surfaces.proofs.covered.first_no_walk.Given as goal

-- the lists so far are walks
abbrev pub invariant-loop-place : goal.invariant-loop-place
invariant-loop-place l = (i : ℕ) → i < l.place → IsWalk l.faces (walk_at l.walks i)
