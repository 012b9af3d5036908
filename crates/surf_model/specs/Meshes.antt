-- Small meshes, for the examples of every crate.
use Rattle.std.specs.Prelude.{[], ◌∷◌}
use Rattle.surf_model.specs.FaceLists.{FaceList}

abbrev pub tetrahedron : FaceList
tetrahedron = record { count = 4; faces = (0 ∷ 1 ∷ 2 ∷ []) ∷ (0 ∷ 3 ∷ 1 ∷ []) ∷ (0 ∷ 2 ∷ 3 ∷ []) ∷ (1 ∷ 3 ∷ 2 ∷ []) ∷ [] }

abbrev pub cube : FaceList
cube =
    record {
      count = 8;
      faces =
          (0 ∷ 3 ∷ 2 ∷ 1 ∷ []) ∷ (4 ∷ 5 ∷ 6 ∷ 7 ∷ []) ∷ (0 ∷ 1 ∷ 5 ∷ 4 ∷ []) ∷ (1 ∷ 2 ∷ 6 ∷ 5 ∷ [])
          ∷ (2 ∷ 3 ∷ 7 ∷ 6 ∷ []) ∷ (3 ∷ 0 ∷ 4 ∷ 7 ∷ []) ∷ [];
    }

-- the torus of seven vertices
abbrev pub torus : FaceList
torus =
    record {
      count = 7;
      faces =
          (0 ∷ 1 ∷ 3 ∷ []) ∷ (1 ∷ 2 ∷ 4 ∷ []) ∷ (2 ∷ 3 ∷ 5 ∷ []) ∷ (3 ∷ 4 ∷ 6 ∷ []) ∷ (4 ∷ 5 ∷ 0 ∷ []) ∷ (5 ∷ 6 ∷ 1 ∷ []) ∷ (6 ∷ 0 ∷ 2 ∷ [])
          ∷ (0 ∷ 3 ∷ 2 ∷ []) ∷ (1 ∷ 4 ∷ 3 ∷ []) ∷ (2 ∷ 5 ∷ 4 ∷ []) ∷ (3 ∷ 6 ∷ 5 ∷ [])
          ∷ (4 ∷ 0 ∷ 6 ∷ []) ∷ (5 ∷ 1 ∷ 0 ∷ []) ∷ (6 ∷ 2 ∷ 1 ∷ []) ∷ [];
    }

-- the projective plane of six vertices
abbrev pub projective_plane : FaceList
projective_plane =
    record {
      count = 6;
      faces =
          (0 ∷ 1 ∷ 2 ∷ []) ∷ (0 ∷ 2 ∷ 3 ∷ []) ∷ (0 ∷ 3 ∷ 4 ∷ []) ∷ (0 ∷ 4 ∷ 5 ∷ []) ∷ (0 ∷ 5 ∷ 1 ∷ [])
          ∷ (1 ∷ 2 ∷ 4 ∷ []) ∷ (2 ∷ 3 ∷ 5 ∷ []) ∷ (3 ∷ 4 ∷ 1 ∷ []) ∷ (4 ∷ 5 ∷ 2 ∷ []) ∷ (5 ∷ 1 ∷ 3 ∷ []) ∷ [];
    }

-- the Moebius band of five triangles, each with two edges in the band and one at its rim
abbrev pub moebius_band : FaceList
moebius_band =
    record { count = 5; faces = (0 ∷ 1 ∷ 2 ∷ []) ∷ (1 ∷ 2 ∷ 3 ∷ []) ∷ (2 ∷ 3 ∷ 4 ∷ []) ∷ (3 ∷ 4 ∷ 0 ∷ []) ∷ (4 ∷ 0 ∷ 1 ∷ []) ∷ [] }
