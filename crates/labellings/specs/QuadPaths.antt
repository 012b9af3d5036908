-- The spokes of a walk under a labelling: a table over its darts, with no reduction.
use Rattle.std.specs.Prelude.{ℕ, ◌==◌, ◌&&◌, if◌then◌else◌, List, [], ◌∷◌, ◌++◌, Option, Some, None, find}
use Rattle.surf_model.specs.FaceLists.{FaceList, FaceSide, all_sides}
use Rattle.surf_model.specs.Edges.{side_name}
use Rattle.surf_model.specs.Surfaces.{start_under, end_under}
use Rattle.labellings.specs.Labellings.{LabellingView, signs_of, tail_label, head_label}

-- the first side that runs from u to v, once its face is turned round as its sign says
unfoldable pub side_from : FaceList → LabellingView → ℕ → ℕ → Option FaceSide
side_from mesh labelling u v =
    find
    (λ side. start_under mesh (signs_of labelling) (side_name side) == u && end_under mesh (signs_of labelling) (side_name side) == v)
    (all_sides mesh)

-- the spokes of a dart whose side has the labels a, b at its tail and head, and whose edge has c, d on the other side: none by the
-- tree rule, and else the two labels; the first spoke leads from the vertex to the middle of the polygon, the second leads back
abbrev pub spokes_by_labels : ℕ → ℕ → ℕ → ℕ → List ℕ
spokes_by_labels a b c d = if a == b && c == d then [] else a ∷ b ∷ []

-- the spokes of a dart, from the side that runs along it and the one that runs against it
abbrev pub spokes_of_sides : FaceList → LabellingView → Option FaceSide → Option FaceSide → List ℕ
spokes_of_sides mesh labelling None other = []
spokes_of_sides mesh labelling (Some side) None = []
spokes_of_sides mesh labelling (Some side) (Some other) =
    spokes_by_labels
    (tail_label mesh labelling (side_name side))
    (head_label mesh labelling (side_name side))
    (tail_label mesh labelling (side_name other))
    (head_label mesh labelling (side_name other))

-- the spokes of the dart from u to v
abbrev pub spokes : FaceList → LabellingView → ℕ → ℕ → List ℕ
spokes mesh labelling u v = spokes_of_sides mesh labelling (side_from mesh labelling u v) (side_from mesh labelling v u)

-- the quad path of a walk: the spokes of its darts in order
abbrev pub quad_path : FaceList → LabellingView → List ℕ → List ℕ
quad_path mesh labelling [] = []
quad_path mesh labelling (u ∷ []) = []
quad_path mesh labelling (u ∷ v ∷ walk) = spokes mesh labelling u v ++ quad_path mesh labelling (v ∷ walk)
