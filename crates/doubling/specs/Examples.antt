-- Doubles and folds at work, on one triangle and on a strip of two. Each line is proved by computing.
use Rattle.std.specs.Prelude.{◌≡◌, true, [], ◌∷◌, Some, refl}
use Rattle.surf_model.specs.FaceLists.{FaceList, all_sides}
use Rattle.surf_model.specs.Moves.{apply_all, apply}
use Rattle.surf_model.specs.declared.moves.Move.TheVariants.{Across}
use Rattle.doubling.specs.Doubles.{double_of}
use Rattle.doubling.specs.Folds.{folded}

abbrev pub triangle : FaceList
triangle = record { count = 3; faces = (0 ∷ 1 ∷ 2 ∷ []) ∷ [] }

-- a prism: the triangle, its mirror, and a quad for each of its three sides
double_triangle :
    double_of triangle
    ≡ record {
      count = 6;
      faces =
          (0 ∷ 1 ∷ 2 ∷ []) ∷ (5 ∷ 4 ∷ 3 ∷ []) ∷ (1 ∷ 0 ∷ 3 ∷ 4 ∷ []) ∷ (2 ∷ 1 ∷ 4 ∷ 5 ∷ []) ∷ (0 ∷ 2 ∷ 5 ∷ 3 ∷ []) ∷ [];
    }
unfolding all_sides
double_triangle = refl

-- two triangles that share the edge of 1 and 2, whose two ends are on the boundary; that edge gets no quad
abbrev pub strip : FaceList
strip = record { count = 4; faces = (0 ∷ 1 ∷ 2 ∷ []) ∷ (3 ∷ 2 ∷ 1 ∷ []) ∷ [] }

double_strip :
    double_of strip
    ≡ record {
      count = 8;
      faces =
          (0 ∷ 1 ∷ 2 ∷ []) ∷ (3 ∷ 2 ∷ 1 ∷ []) ∷ (6 ∷ 5 ∷ 4 ∷ []) ∷ (5 ∷ 6 ∷ 7 ∷ [])
          ∷ (1 ∷ 0 ∷ 4 ∷ 5 ∷ []) ∷ (0 ∷ 2 ∷ 6 ∷ 4 ∷ []) ∷ (2 ∷ 3 ∷ 7 ∷ 6 ∷ []) ∷ (3 ∷ 1 ∷ 5 ∷ 7 ∷ []) ∷ [];
    }
unfolding all_sides
double_strip = refl

-- The walk from 0 over to its mirror, round the mirror of face 0, and home is folded to the walk round face 0 the other way.
fold_of_walk : folded 4 (0 ∷ 4 ∷ 6 ∷ 5 ∷ 1 ∷ 0 ∷ []) ≡ 0 ∷ 2 ∷ 1 ∷ 0 ∷ []
fold_of_walk = refl

-- Across a quad, the mirror of face 0, and two quads more the walk from 1 to 0 becomes the way along the other sides of face 0.
over_the_mirror :
    apply_all (double_of strip) (1 ∷ 0 ∷ [])
    (Across 0 (record { 0 = 4 }) 0 true 1 ∷ Across 1 (record { 0 = 2 }) 1 true 1 ∷ Across 2 (record { 0 = 5 }) 2 true 2 ∷ [])
    ≡ Some (1 ∷ 5 ∷ 6 ∷ 2 ∷ 0 ∷ [])
unfolding apply all_sides
over_the_mirror = refl
