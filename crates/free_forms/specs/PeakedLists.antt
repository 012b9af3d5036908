-- Lists of moves that lead from a walk to a walk, with their peaks; lists that are no longer than so much, and moves that fit a mesh.
pub use Rattle.surf_model.specs.PeakedLists.{LeadsAtPeak}
use Rattle.std.specs.Prelude.{ℕ, ◌<◌, ◌≤◌, length}
use Rattle.surf_model.specs.FaceLists.{FaceList, face_at}
use Rattle.surf_model.specs.Moves.{PeakedMoves}
use Rattle.surf_model.specs.declared.moves.Move.{Move}
use Rattle.surf_model.specs.declared.moves.Move.TheVariants.{Insert, Remove, Across}

-- the moves are no more than n, and neither is the peak
pub record IsListWithin (n : ℕ) (list : PeakedMoves) : Type 0 where
  pub moves : length list.moves ≤ n
  pub peak : list.peak ≤ n

-- a move may be one of the mesh: its face is there, and it takes no more sides than that has
abbrev pub IsMoveOf : FaceList → Move → Type 0
IsMoveOf mesh (Insert at via) = Unit {0}
IsMoveOf mesh (Remove at via) = Unit {0}
IsMoveOf mesh (Across at face corner forward taken) = (face.0 < length mesh.faces) × (taken ≤ length (face_at mesh face.0))
