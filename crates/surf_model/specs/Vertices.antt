-- Lists of vertex names, seen as lists of numbers.
use Rattle.std.specs.Prelude.{ℕ, List, map}
use Rattle.surf_model.specs.declared.names.VertexName.{VertexName}

-- the numbers of the vertices
abbrev pub numbers : List VertexName → List ℕ
numbers vertices = map (λ v. v.0) vertices
