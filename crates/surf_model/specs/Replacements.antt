-- What a move does to a walk: a part of the walk goes, and another part comes in its place.
use Rattle.std.specs.Prelude.{◌≡◌, ℕ, ◌-◌, ◌<◌, ◌≤◌, not, List, [], ◌∷◌, ◌++◌, length, IsTrue}
use Rattle.surf_model.specs.FaceLists.{FaceList, face_at, corners_from, is_edge}
use Rattle.surf_model.specs.declared.moves.Move.{Move}
use Rattle.surf_model.specs.declared.moves.Move.TheVariants.{Insert, Remove, Across}

-- the place of the walk at which a move acts
abbrev pub place_of_move : Move → ℕ
place_of_move (Insert at via) = at
place_of_move (Remove at via) = at
place_of_move (Across at face corner forward taken) = at

-- the move replaces the first part by the second
abbrev pub Replaces : FaceList → Move → List ℕ → List ℕ → Type 0
-- a vertex by a spur: along an edge to `via`, and straight back
Replaces mesh (Insert at via) part other =
    (here : ℕ) × IsTrue (is_edge mesh here via.0) × (part ≡ here ∷ []) × (other ≡ here ∷ via.0 ∷ here ∷ [])
-- a spur by its vertex
Replaces mesh (Remove at via) part other = (here : ℕ) × (part ≡ here ∷ via.0 ∷ here ∷ []) × (other ≡ here ∷ [])
-- the way along `taken` sides of a face from a corner on, by the way along the other sides
Replaces mesh (Across at face corner forward taken) part other =
    let ring = face_at mesh face.0 in
    (face.0 < length mesh.faces) × (corner < length ring) × (taken ≤ length ring)
    × (part ≡ corners_from ring forward corner taken)
    × (other ≡ corners_from ring (not forward) corner (length ring - taken))

-- the second walk is the first one with a part replaced as the move says, at the place of the move
pub record IsReplacement (mesh : FaceList) (move : Move) (walk next : List ℕ) : Type 0 where
  pub before : List ℕ
  pub part : List ℕ
  pub other : List ℕ
  pub after : List ℕ
  pub walk_is : walk ≡ before ++ part ++ after
  pub next_is : next ≡ before ++ other ++ after
  pub place : length before ≡ place_of_move move
  pub replaces : Replaces mesh move part other
