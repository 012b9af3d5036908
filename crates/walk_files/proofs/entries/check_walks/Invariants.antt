use Rattle.walk_files.proofs.Common.{◌≡◌, ◌+◌, drop, None, IsTableOf, FaceList, vertex_fault, edge_fault, first_fault}
use Rattle.walk_files.proofs.entries.check_walks.Given as goal

-- the first fault is that of the walks that are left
abbrev pub invariant-loop-k : goal.invariant-loop-k
invariant-loop-k l =
    (mesh : FaceList) → IsTableOf mesh l.sides
    → first_fault (vertex_fault mesh) 1 l.walks.walks ≡ first_fault (vertex_fault mesh) (l.k + 1) (drop l.k l.walks.walks)

-- no walk has an entry at fault
abbrev pub invariant-loop-k-2 : goal.invariant-loop-k-2
invariant-loop-k-2 l =
    (mesh : FaceList) → IsTableOf mesh l.sides
    → (first_fault (vertex_fault mesh) 1 l.walks.walks ≡ None)
    × (first_fault (edge_fault mesh) 1 l.walks.walks ≡ first_fault (edge_fault mesh) (l.k + 1) (drop l.k l.walks.walks))
