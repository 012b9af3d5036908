use Rattle.homology_commands.proofs.Common.{number_at, ListsEdges}
use Rattle.homology_commands.proofs.listing.list_edges.Given as goal

-- the numbers of the edges so far are listed
abbrev pub invariant-loop-edge : goal.invariant-loop-edge
invariant-loop-edge l = ListsEdges l.surface.table (number_at l.numbers) l.edge l.lines
