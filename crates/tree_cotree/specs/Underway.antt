-- A search that is underway, by the darts of its order and those that wait.
use Rattle.std.specs.Prelude.{ℕ, List}
use Rattle.tree_cotree.specs.RingViews.{dart_numbers}
use Rattle.tree_cotree.specs.Waiting.{waiting_darts}
use Rattle.tree_cotree.specs.Graphs.{maps_of, node_in, crosses}
use Rattle.tree_cotree.specs.Searches.{IsFound, IsOrder, AreAdded}
use Rattle.tree_cotree.specs.declared.search.Graph.{Graph}
use Rattle.tree_cotree.specs.declared.search.Search.{Search}

-- the darts by which nodes were found
abbrev pub found_by : Search → List ℕ
found_by search = dart_numbers search.order.items

-- the darts that wait
abbrev pub waiting_in : Search → List ℕ
waiting_in search = waiting_darts search.waiting.far.items search.waiting.near.items

-- the node was found
abbrev pub HasFound : Graph → Search → ℕ → Type 0
HasFound graph search node = IsFound (node_in graph) (found_by search) node

-- what was found is an order from the root, over nodes below the bound
abbrev pub IsOrdered : Graph → ℕ → ℕ → Search → Type 0
IsOrdered graph bound root search =
    IsOrder (maps_of graph) (node_in graph) (crosses graph) bound root (found_by search) search.from.items

-- one search comes of another by darts that are put last
abbrev pub SearchGoesOn : Search → Search → Type 0
SearchGoesOn old new = AreAdded (found_by old) (waiting_in old) (found_by new) (waiting_in new)
