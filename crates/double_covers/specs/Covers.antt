-- A double cover of a mesh: two sheets over it, and a step along some of its edges leads from the one sheet to the other.
use Rattle.std.specs.Prelude.{◌≡◌, ℕ, ◌+◌, ◌-◌, ◌<◌, nat_lt, Bool, true, false, not, if◌then◌else◌, List, [], ◌∷◌, ◌++◌, length, map, take}
use Rattle.surf_model.specs.FaceLists.{FaceList, face_at}
use Rattle.walk_actions.specs.Actions.{walked}

-- the sheet that a dart leads to, upper or not: the other one where its edge turns
abbrev pub sheet_behind : (ℕ → ℕ → Bool) → Bool → ℕ → ℕ → Bool
sheet_behind turns upper u v = if turns u v then not upper else upper

-- the vertex over v on a sheet, where the mesh has so many vertices
abbrev pub over : ℕ → Bool → ℕ → ℕ
over count upper v = if upper then v + count else v

-- the lift of the vertices that come behind u, which is on this sheet
abbrev pub lifted_behind : (ℕ → ℕ → Bool) → ℕ → Bool → ℕ → List ℕ → List ℕ
lifted_behind turns count upper u [] = []
lifted_behind turns count upper u (v ∷ rest) =
    over count (sheet_behind turns upper u v) v ∷ lifted_behind turns count (sheet_behind turns upper u v) v rest

-- the lift of a walk, or of the corners of a face, that begins on this sheet
abbrev pub lifted : (ℕ → ℕ → Bool) → ℕ → Bool → List ℕ → List ℕ
lifted turns count upper [] = []
lifted turns count upper (u ∷ rest) = over count upper u ∷ lifted_behind turns count upper u rest

-- Edges may turn so: each alike in both directions, and evenly many on the outline of a face, so that once round leads home to the sheet.
pub record AreTurns (mesh : FaceList) (turns : ℕ → ℕ → Bool) : Type 0 where
  pub turned : (u v : ℕ) → turns u v ≡ turns v u
  pub round : (f : ℕ) (upper : Bool) → f < length mesh.faces
      → walked (sheet_behind turns) upper (face_at mesh f ++ take 1 (face_at mesh f)) ≡ upper

-- The cover: over each face the one that begins on the lower sheet, under its number, and behind these all that begin on the upper one.
abbrev pub cover_of : FaceList → (ℕ → ℕ → Bool) → FaceList
cover_of mesh turns =
    record {
      count = mesh.count + mesh.count;
      faces = map (lifted turns mesh.count false) mesh.faces ++ map (lifted turns mesh.count true) mesh.faces;
    }

-- the vertex of the mesh under one of the cover
abbrev pub under : ℕ → ℕ → ℕ
under count v = if nat_lt v count then v else v - count
