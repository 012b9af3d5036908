-- A tally has a number for each edge of a table.
use Rattle.std.specs.Prelude.{◌≡◌, ℕ, ◌<◌, ◌≤◌, ◌==◌, if◌then◌else◌, List, length, slice_index_or, ℤ, pos, ◌+ℤ◌, ◌-ℤ◌, neg_ℤ, unsigned_abs, map}
use Rattle.surf_model.specs.Edges.{Edge, edge_in}
use Rattle.surf_model.specs.FaceLists.{FaceList, FaceSide, face_at, sides_of_face}
use Rattle.homology.specs.Sums.{total, share}
use Rattle.homology.specs.Chains.{count_difference, boundary}

-- number k of some numbers; 0 where there is none
abbrev pub number_at : List ℤ → ℕ → ℤ
number_at numbers k = slice_index_or numbers k (pos 0)

-- the amount, with a minus sign for a dart that does not start at the lower vertex of its edge
abbrev pub signed_from : ℤ → Edge → ℕ → ℤ
signed_from amount edge from = if from == edge.low then amount else neg_ℤ amount

-- the number of each edge grew by what is given to that edge
pub record GrewBy (table : List Edge) (given : ℕ → ℕ → ℤ) (old new : List ℤ) : Type 0 where
  pub long : length new ≡ length old
  pub each : (k : ℕ) → k < length table → number_at new k ≡ number_at old k +ℤ given (edge_in table k).low (edge_in table k).high

-- no number is larger than this in size
pub record AreNumbersWithin (bound : ℕ) (numbers : List ℤ) : Type 0 where
  pub each : (k : ℕ) → unsigned_abs (number_at numbers k) ≤ bound

-- what the sides of a face give to an edge
abbrev pub face_share : FaceList → ℤ → ℕ → ℕ → ℕ → ℤ
face_share mesh amount f low high =
    total (map (λ (side : FaceSide). share amount low high side.tail side.head) (sides_of_face f (face_at mesh f)))

-- the numbers of the edges of a table, where an edge of two vertices, the lower first, has this number
pub record AreTableNumbers (table : List Edge) (numbers : List ℤ) (of_edge : ℕ → ℕ → ℤ) : Type 0 where
  pub long : length numbers ≡ length table
  pub each : (k : ℕ) → k < length table → number_at numbers k ≡ of_edge (edge_in table k).low (edge_in table k).high

-- what is left at each edge: the count of the first walk, less that of the second, less the boundary of the numbered faces
pub record IsLeft (mesh : FaceList) (table : List Edge) (of_face : ℕ → ℤ) (first second : List ℕ) (rest : List ℤ) : Type 0 where
  pub long : length rest ≡ length table
  pub each : (k : ℕ) → k < length table → number_at rest k
      ≡ count_difference first second (edge_in table k).low (edge_in table k).high
      -ℤ boundary mesh of_face (edge_in table k).low (edge_in table k).high
