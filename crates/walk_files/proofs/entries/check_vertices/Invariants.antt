use Rattle.walk_files.proofs.Common.{◌≡◌, ℕ, ◌<◌, true, slice_index, IsTableOf, FaceList, is_used}
use Rattle.walk_files.proofs.entries.check_vertices.Given as goal

abbrev pub invariant-loop-place : goal.invariant-loop-place
invariant-loop-place l = (mesh : FaceList) → IsTableOf mesh l.sides → (k : ℕ) → k < l.place → is_used mesh (slice_index l.walk k) ≡ true
