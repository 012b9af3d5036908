use Rattle.walk_files.proofs.Common.{◌≡◌, ℕ, ◌+◌, ◌<◌, true, slice_index, IsTableOf, FaceList, is_edge}
use Rattle.walk_files.proofs.entries.check_edges.Given as goal

abbrev pub invariant-loop-place : goal.invariant-loop-place
invariant-loop-place l = (mesh : FaceList) → IsTableOf mesh l.sides → (k : ℕ) → k < l.place
    → is_edge mesh (slice_index l.walk k) (slice_index l.walk (k + 1)) ≡ true
