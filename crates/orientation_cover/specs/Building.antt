-- How far a mesh is built: its first faces stand, and no face is begun.
use Rattle.std.specs.Prelude.{ℕ, [], take}
use Rattle.surf_model.specs.FaceLists.{FaceList, PendingFace}

abbrev pub first_made_faces : FaceList → ℕ → PendingFace
first_made_faces made n = record { mesh = record { count = made.count; faces = take n made.faces }; pending = [] }
