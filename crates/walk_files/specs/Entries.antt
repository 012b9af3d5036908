-- Walks of a mesh, any number of them, and what is first wrong with a list of walks.
use Rattle.std.specs.Prelude.{ℕ, ◌+◌, not, List, [], ◌∷◌, length, slice_index, Option, None, option_map}
use Rattle.std.specs.Option.{option_or}
use Rattle.surf_model.specs.FaceLists.{FaceList, is_edge, is_used}
use Rattle.surf_model.specs.Numbers.{first_below}
use Rattle.surf_model.specs.Walks.{darts}
use Rattle.walk_files.specs.declared.entries.EntryFault.{EntryFault}
use Rattle.walk_files.specs.declared.entries.EntryFault.TheVariants.{NoVertex, NoEdge}

-- the least place of the walk whose entry is not used; walks are counted from 1, places from 0
abbrev pub vertex_fault : FaceList → ℕ → List ℕ → Option EntryFault
vertex_fault mesh number walk = option_map (NoVertex number) (first_below (λ k. not (is_used mesh (slice_index walk k))) (length walk))

-- the least place of the walk whose entry forms no edge with the next one
abbrev pub edge_fault : FaceList → ℕ → List ℕ → Option EntryFault
edge_fault mesh number walk =
    option_map (NoEdge number) (first_below (λ k. not (is_edge mesh (slice_index walk k) (slice_index walk (k + 1)))) (darts walk))

-- the fault of the first walk that has one, of walks that are numbered from `number` on
abbrev pub first_fault : (ℕ → List ℕ → Option EntryFault) → ℕ → List (List ℕ) → Option EntryFault
first_fault fault number [] = None
first_fault fault number (walk ∷ walks) = option_or (fault number walk) (first_fault fault (number + 1) walks)

-- what is first wrong with these walks: all entries of all walks are looked at before any edge
abbrev pub walks_fault : FaceList → List (List ℕ) → Option EntryFault
walks_fault mesh walks = option_or (first_fault (vertex_fault mesh) 1 walks) (first_fault (edge_fault mesh) 1 walks)
