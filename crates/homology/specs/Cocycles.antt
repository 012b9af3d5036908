-- Cocycles: numbers of the edges that add up to 0 round every face. Where they add up to different sums along two walks, the walks are
-- not homologous.
use Rattle.std.specs.Prelude.{◌≡◌, ◌≢◌, ℕ, ◌<◌, nat_lt, if◌then◌else◌, List, length, map, ℤ, pos, ◌-ℤ◌, ◌*ℤ◌, neg_ℤ}
use Rattle.surf_model.specs.FaceLists.{FaceList, face_at}
use Rattle.surf_model.specs.Edges.{Edge}
use Rattle.homology.specs.Sums.{total, along, round}
use Rattle.homology.specs.Chains.{count_difference}

-- the number of a dart, where each edge has one: that of the edge, with a minus sign from the higher vertex to the lower
abbrev pub dart_number : (ℕ → ℕ → ℤ) → ℕ → ℕ → ℤ
dart_number of_edge u v =
    if nat_lt u v then of_edge u v
    else if nat_lt v u then neg_ℤ (of_edge v u)
    else pos 0

-- the sum round a face
abbrev pub face_sum : FaceList → (ℕ → ℕ → ℤ) → ℕ → ℤ
face_sum mesh of_edge f = along (dart_number of_edge) (round (face_at mesh f))

-- a cocycle: a number for each edge such that the sum round every face is 0
pub record IsCocycle (mesh : FaceList) (of_edge : ℕ → ℕ → ℤ) : Type 0 where
  pub closed : (f : ℕ) → f < length mesh.faces → face_sum mesh of_edge f ≡ pos 0

-- how much more a cocycle adds up to along the first walk than along the second
abbrev pub separation : (ℕ → ℕ → ℤ) → List ℕ → List ℕ → ℤ
separation of_edge first second = along (dart_number of_edge) first -ℤ along (dart_number of_edge) second

-- the same as a sum over all edges, those of a table of the mesh: of the number of the edge times how much more the first walk counts
-- there than the second
abbrev pub edge_sum : List Edge → (ℕ → ℕ → ℤ) → List ℕ → List ℕ → ℤ
edge_sum table of_edge first second =
    total (map (λ (edge : Edge). of_edge edge.low edge.high *ℤ count_difference first second edge.low edge.high) table)

-- the cocycle separates the walks
abbrev pub Separates : (ℕ → ℕ → ℤ) → List ℕ → List ℕ → Type 0
Separates of_edge first second = separation of_edge first second ≢ pos 0
