-- A chain of square tori. Each torus is a square grid whose rows and columns close up: behind the last one comes the
-- first. From each torus but the last the cell at (2, 2) is cut out, and from the next one the cell at (0, 0), and the two
-- tori are glued along the rims.
use Rattle.std.specs.Prelude.{ℕ, ◌+◌, ◌-◌, ◌*◌, ◌%◌, Bool, not, ◌==◌, ◌&&◌, ◌||◌, nat_lt, if◌then◌else◌, List, [], ◌∷◌, length, map, filter, flat_map}
use Rattle.std.specs.List.{range_with_len}
use Rattle.surf_model.specs.FaceLists.{FaceList}
use Rattle.surf_gen.specs.declared.points.Point.{Point}

-- the point of a torus in a row and a column
abbrev pub point : ℕ → ℕ → ℕ → Point
point torus row column = record { torus = torus; row = row; column = column }

-- all points, by rising torus, row and column; a cell is named by the one of its corners that it begins at
abbrev pub points : ℕ → ℕ → List Point
points genus grid =
    flat_map (λ t. flat_map (λ r. map (point t r) (range_with_len 0 grid)) (range_with_len 0 grid)) (range_with_len 0 genus)

-- ---- vertices

-- whether a point is glued to one of the torus before: those round the cell at (0, 0) are
abbrev pub is_glued : Point → Bool
is_glued p = nat_lt 0 p.torus && nat_lt p.row 2 && nat_lt p.column 2

-- the point round the cell at (2, 2) of the torus before that such a point is glued to; seen through the glue, rows and
-- columns change places
abbrev pub partner : Point → Point
partner p = point (p.torus - 1) (2 + p.column) (2 + p.row)

-- the points that are vertices, in order: a glued one is the vertex that its partner is
abbrev pub vertices : ℕ → ℕ → List Point
vertices genus grid = filter (λ p. not (is_glued p)) (points genus grid)

-- how many of the points before this one are glued, where it is not: four of each torus between, and of its own torus
-- two behind it in row 0, and four in later rows
abbrev pub glued_before : Point → ℕ
glued_before p = if p.torus == 0 then 0 else 4 * (p.torus - 1) + (if p.row == 0 then 2 else 4)

-- the number of a vertex: how many vertices come before it
abbrev pub vertex_number : ℕ → Point → ℕ
vertex_number grid p = (p.torus * grid + p.row) * grid + p.column - glued_before p

-- the number of the vertex that a point is
abbrev pub number : ℕ → Point → ℕ
number grid p = if is_glued p then vertex_number grid (partner p) else vertex_number grid p

-- ---- cells

-- whether a cell is cut out: at (2, 2) the next torus is glued in, and at (0, 0) the torus before
abbrev pub is_cut_out : ℕ → Point → Bool
is_cut_out genus p = (nat_lt (p.torus + 1) genus && p.row == 2 && p.column == 2) || (nat_lt 0 p.torus && p.row == 0 && p.column == 0)

-- the cells that are left, in order
abbrev pub cells : ℕ → ℕ → List Point
cells genus grid = filter (λ p. not (is_cut_out genus p)) (points genus grid)

-- the row or column behind one, where the first follows the last
abbrev pub next_in_ring : ℕ → ℕ → ℕ
next_in_ring grid k = (k + 1) % grid

-- the corners of a cell, in order round it
abbrev pub corners : ℕ → Point → List Point
corners grid p =
    p ∷ point p.torus p.row (next_in_ring grid p.column) ∷ point p.torus (next_in_ring grid p.row) (next_in_ring grid p.column)
    ∷ point p.torus (next_in_ring grid p.row) p.column ∷ []

-- the face that a cell is
abbrev pub face : ℕ → Point → List ℕ
face grid p = map (number grid) (corners grid p)

-- the mesh: its faces are the cells that are left
abbrev pub chain_mesh : ℕ → ℕ → FaceList
chain_mesh genus grid = record { count = length (vertices genus grid); faces = map (face grid) (cells genus grid) }
