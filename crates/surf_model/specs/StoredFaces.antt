-- How a face list lies in memory: all corners one after another, and the place where each face ends.
use Rattle.std.specs.Prelude.{ℕ, ◌*◌, ◌≤◌, List, length, take, drop}
use Rattle.surf_model.specs.Parts.{parts, last_end, EndsRise}
use Rattle.surf_model.specs.Vertices.{numbers}
use Rattle.surf_model.specs.FaceLists.{FaceList, PendingFace, IsFaceList, HasFileSize}
use Rattle.surf_model.specs.declared.names.VertexName.{VertexName}
use Rattle.surf_model.specs.declared.limits.TheConstants.{MOST_SIDES}

-- the face list that lies so
abbrev pub stored_mesh : ℕ → List ℕ → List VertexName → FaceList
stored_mesh count ends corners = record { count = count; faces = parts 0 ends (numbers corners) }

pub record IsStored (count : ℕ) (ends : List ℕ) (corners : List VertexName) : Type 0 where
  pub mesh : IsFaceList (stored_mesh count ends corners)
  pub small : HasFileSize (stored_mesh count ends corners)
  pub rising : EndsRise 0 ends (length corners)
  pub few_corners : length corners ≤ MOST_SIDES
  pub few_faces : 3 * length ends ≤ length corners

-- the face list that lies so, and behind its last corner those of a face that is not yet in it
abbrev pub stored_pending : ℕ → List ℕ → List VertexName → PendingFace
stored_pending count ends corners =
    record { mesh = stored_mesh count ends (take (last_end ends) corners); pending = numbers (drop (last_end ends) corners) }

pub record IsStoredPending (count : ℕ) (ends : List ℕ) (corners : List VertexName) : Type 0 where
  pub stored : IsStored count ends (take (last_end ends) corners)
  pub within : last_end ends ≤ length corners
