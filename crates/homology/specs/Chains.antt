-- Homologous walks: some numbers of the faces, a chain, tell their counts at every edge apart.
use Rattle.std.specs.Prelude.{◌≡◌, ℕ, ◌<◌, ◌==◌, if◌then◌else◌, List, [], ◌∷◌, map, IsTrue, ℤ, pos, negsuc, ◌+ℤ◌, ◌-ℤ◌}
use Rattle.surf_model.specs.FaceLists.{FaceList, FaceSide, all_sides, is_edge}
use Rattle.surf_model.specs.declared.moves.Move.{Move}
use Rattle.surf_model.specs.declared.moves.Move.TheVariants.{Insert, Remove, Across}
use Rattle.homology.specs.Sums.{total, along, share}

-- how often the walk runs along the edge from low to high, less how often from high to low
abbrev pub count_of : List ℕ → ℕ → ℕ → ℤ
count_of walk low high = along (share (pos 1) low high) walk

-- how much more the first walk counts there than the second
abbrev pub count_difference : List ℕ → List ℕ → ℕ → ℕ → ℤ
count_difference first second low high = count_of first low high -ℤ count_of second low high

-- the boundary of numbered faces, at an edge: the sum over its sides, of plus the face's number where the side runs from low to high as
-- the file lists it, and minus that number where it runs from high to low
abbrev pub boundary : FaceList → (ℕ → ℤ) → ℕ → ℕ → ℤ
boundary mesh of_face low high =
    total (map (λ (side : FaceSide). share (of_face side.face) low high side.tail side.head) (all_sides mesh))

-- a chain for two walks: a number for each face such that, at every edge, the count of the first walk less that of the second is the
-- boundary
pub record IsChain (mesh : FaceList) (of_face : ℕ → ℤ) (first second : List ℕ) : Type 0 where
  pub balanced : (low high : ℕ) → low < high → IsTrue (is_edge mesh low high)
      → count_difference first second low high ≡ boundary mesh of_face low high

-- two walks are homologous where there is a chain for them
abbrev pub AreHomologous : FaceList → List ℕ → List ℕ → Type 0
AreHomologous mesh first second = (of_face : ℕ → ℤ) × IsChain mesh of_face first second

-- how a move crosses a face: once forward, once backward (`negsuc 0` is -1), or not at all
abbrev pub crossing : Move → ℕ → ℤ
crossing (Insert at via) f = pos 0
crossing (Remove at via) f = pos 0
crossing (Across at face corner forward taken) f = if face.0 == f then (if forward then pos 1 else negsuc 0) else pos 0

-- how often a list of moves crosses a face forward, less how often backward
abbrev pub net_crossings : List Move → ℕ → ℤ
net_crossings [] f = pos 0
net_crossings (move ∷ moves) f = crossing move f +ℤ net_crossings moves f
