-- Darts that act on states, and what the darts of a walk make of a state, one after the other.
use Rattle.std.specs.Prelude.{ℕ, zero, suc, ◌<◌, Bool, List, [], ◌∷◌, length, slice_index, IsTrue}
use Rattle.surf_model.specs.FaceLists.{FaceList, face_at, next_corner, corners_from, is_edge}
use Rattle.surf_model.specs.declared.moves.Move.{Move}
use Rattle.surf_model.specs.declared.moves.Move.TheVariants.{Insert, Remove, Across}

-- what the darts make of a state that lead from u along a list of vertices
abbrev pub run : {State : Type 0} → (State → ℕ → ℕ → State) → State → ℕ → List ℕ → State
run act s u [] = s
run act s u (v ∷ vs) = run act (act s u v) v vs

-- what the darts of a walk make of a state
abbrev pub walked : {State : Type 0} → (State → ℕ → ℕ → State) → State → List ℕ → State
walked act s [] = s
walked act s (u ∷ us) = run act s u us

-- what holds of each dart from u on along a list of vertices
abbrev pub EachDart : (ℕ → ℕ → Type 0) → ℕ → List ℕ → Type 0
EachDart P u [] = Unit {0}
EachDart P u (v ∷ vs) = P u v × EachDart P v vs

-- and of each dart of a walk
abbrev pub EachDartOf : (ℕ → ℕ → Type 0) → List ℕ → Type 0
EachDartOf P [] = Unit {0}
EachDartOf P (u ∷ us) = EachDart P u us

-- the vertices that k steps round a face from corner t lead to
abbrev pub vertices_beyond : List ℕ → Bool → ℕ → ℕ → List ℕ
vertices_beyond ring rising t zero = []
vertices_beyond ring rising t (suc k) =
    slice_index ring (next_corner rising (length ring) t) ∷ vertices_beyond ring rising (next_corner rising (length ring) t) k

-- An action on states, each of which is at a vertex, up to states that are the same, an equivalence of those at one vertex: a dart leads
-- states at its first vertex to states at its second, and the same to the same; and there and back changes nothing.
pub record ActsAlong {State : Type 0} (IsDart : ℕ → ℕ → Type 0) (Same : State → State → Type 0) (act : State → ℕ → ℕ → State)
    (IsAt : ℕ → State → Type 0) : Type 0
  where
    pub itself : (u : ℕ) (s : State) → IsAt u s → Same s s
    pub turned : (u : ℕ) (s t : State) → IsAt u s → IsAt u t → Same s t → Same t s
    pub joined : (u : ℕ) (r s t : State) → IsAt u r → IsAt u s → IsAt u t → Same r s → Same s t → Same r t
    pub stays : (u v : ℕ) (s : State) → IsDart u v → IsAt u s → IsAt v (act s u v)
    pub keeps : (u v : ℕ) (s t : State) → IsDart u v → IsAt u s → IsAt u t → Same s t → Same (act s u v) (act t u v)
    pub back : (u v : ℕ) (s : State) → IsDart u v → IsAt u s → Same (act (act s u v) v u) s

-- the two vertices form an edge
abbrev pub IsEdge : FaceList → ℕ → ℕ → Type 0
IsEdge mesh u v = IsTrue (is_edge mesh u v)

-- an action of the darts of a mesh
abbrev pub Acts : {State : Type 0} → FaceList → (State → State → Type 0) → (State → ℕ → ℕ → State) → (ℕ → State → Type 0) → Type 0
Acts mesh Same act IsAt = ActsAlong (IsEdge mesh) Same act IsAt

-- pairs of vertices that are taken for darts: the edges at least, and with each pair the turned one
pub record AreDarts (mesh : FaceList) (IsDart : ℕ → ℕ → Type 0) : Type 0 where
  pub edges : (u v : ℕ) → IsEdge mesh u v → IsDart u v
  pub turned : (u v : ℕ) → IsDart u v → IsDart v u

-- once round a ring from a corner, by rising places or by falling ones, changes no state there
abbrev pub RoundIsNothing : {State : Type 0} → (State → State → Type 0) → (State → ℕ → ℕ → State) → (ℕ → State → Type 0) → List ℕ → Bool
    → ℕ → Type 0
RoundIsNothing {State} Same act IsAt ring rising corner =
    (s : State) → IsAt (slice_index ring corner) s → Same (walked act s (corners_from ring rising corner (length ring))) s

-- once round each face that may be crossed, from one of its corners and in one direction, changes nothing
pub record FacesActAsNothing {State : Type 0} (mesh : FaceList) (Same : State → State → Type 0) (act : State → ℕ → ℕ → State)
    (IsAt : ℕ → State → Type 0) (May : ℕ → Type 0) : Type 0
  where
    pub round : (f : ℕ) → f < length mesh.faces → May f
        → (rising : Bool) × (corner : ℕ) × (corner < length (face_at mesh f))
        × RoundIsNothing Same act IsAt (face_at mesh f) rising corner

-- a move that crosses no face but those that may be crossed
abbrev pub CrossesOnly : (ℕ → Type 0) → Move → Type 0
CrossesOnly May (Insert at via) = Unit {0}
CrossesOnly May (Remove at via) = Unit {0}
CrossesOnly May (Across at face corner forward taken) = May face.0
