use Rattle.walk_files.proofs.Common.{◌≡◌, ◌+◌, ◌*◌, drop, None, IsTableOf, FaceList, walks_fault, walks_in_pairs, pairs_ends_fault}
use Rattle.walk_files.proofs.pairs.check_pairs.Given as goal

-- the first fault is that of the pairs that are left
abbrev pub invariant-loop-k : goal.invariant-loop-k
invariant-loop-k l =
    (mesh : FaceList) → IsTableOf mesh l.sides
    → (None ≡ walks_fault mesh l.walks.walks)
    × (pairs_ends_fault 1 (walks_in_pairs l.walks.walks) ≡ pairs_ends_fault (l.k + 1) (walks_in_pairs (drop (2 * l.k) l.walks.walks)))
