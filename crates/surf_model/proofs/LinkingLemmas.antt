-- A side is linked to its edge and to the next side of that edge.
use Rattle.surf_model.proofs.Common.{arith, ◌≡◌, ◌≢◌, ℕ, ◌<◌, true, List, length, get_or, set, common_steps, DartEdge, dart_edge_in, next_corner, edge_at, dart_at, IsLinked, SideEntry, DartName}

abbrev none : SideEntry
none = record { key = 0; dart = record { 0 = 0 } }

-- the link to this edge and this side
abbrev pub link_to : ℕ → DartName → SideEntry
link_to edge next = record { key = edge; dart = next }

linked_at : (edges : List DartEdge) (links : List SideEntry) (edge k n : ℕ) → edge_at links n ≡ edge → edge < length edges
    → k < length (dart_edge_in edges edge).darts → get_or (dart_edge_in edges edge).darts k 0 ≡ n
    → get_or (dart_edge_in edges edge).darts (next_corner true (length (dart_edge_in edges edge).darts) k) 0 ≡ dart_at links n
    → IsLinked edges links n
linked_at edges links edge k n is l few here next = grind arith

-- the side that is written is linked
pub linked_written : (edges : List DartEdge) (links : List SideEntry) (edge k : ℕ) (next : DartName) → edge < length edges
    → k < length (dart_edge_in edges edge).darts
    → get_or (dart_edge_in edges edge).darts (next_corner true (length (dart_edge_in edges edge).darts) k) 0 ≡ next.0
    → get_or (dart_edge_in edges edge).darts k 0 < length links
    → IsLinked edges (set links (get_or (dart_edge_in edges edge).darts k 0) (link_to edge next))
    (get_or (dart_edge_in edges edge).darts k 0)
linked_written edges links edge k next l few is below = grind (arith, common_steps, none, linked_at)

-- the other sides stay linked
linked_other : (edges : List DartEdge) (links : List SideEntry) (n m : ℕ) (link : SideEntry) → n ≢ m → IsLinked edges links n
    → IsLinked edges (set links m link) n
linked_other edges links n m link apart h = grind (arith, common_steps, none, linked_at)

-- what is linked stays so where a side is written as it stands in an edge
pub linked_still : (edges : List DartEdge) (links : List SideEntry) (n m : ℕ) (link : SideEntry)
    → IsLinked edges (set links m link) m → IsLinked edges links n → IsLinked edges (set links m link) n
linked_still edges links n m link written h = grind (arith, linked_other)
