-- A walk on its way to its normal walk: a part that is normal, and the vertices that are still to come.
use Rattle.std.specs.Prelude.{◌≡◌, ◌≢◌, ◌⊎◌, ℕ, ◌+◌, ◌-◌, ◌<◌, ◌≤◌, Bool, true, false, max, List, [], ◌∷◌, ◌++◌, length, slice_index, reverse}
use Rattle.surf_model.specs.FaceLists.{face_at, next_corner}
use Rattle.surf_model.specs.Darts.{tail_of}
use Rattle.surf_model.specs.Moves.{PeakedMoves}
use Rattle.surf_model.specs.Vertices.{numbers}
use Rattle.surf_model.specs.declared.edges.Side.{Side}
use Rattle.surf_model.specs.declared.limits.TheConstants.{MOST_PEAK}
use Rattle.surf_model.specs.declared.moves.Move.TheVariants.{Remove, Across}
use Rattle.free_forms.specs.Parents.{OpenView, Joins, IsParentEdge, parent_of, expansion}
use Rattle.free_forms.specs.declared.reduction.Reduction.{Reduction}

-- the normal part is the front and the last vertex; then the vertices to come; and the moves so far
pub record ReductionView : Type 0 where
  pub front : List ℕ
  pub last : ℕ
  pub coming : List ℕ
  pub list : PeakedMoves

-- how a reduction lies in memory
abbrev pub state_of : Reduction → ReductionView
state_of reduction = record {
  front = numbers reduction.earlier.items;
  last = reduction.last.0;
  coming = reverse (numbers reduction.pending.items);
  list = reduction.moves;
}

-- the normal part, and the whole walk
abbrev pub settled : ReductionView → List ℕ
settled state = state.front ++ state.last ∷ []

abbrev pub whole : ReductionView → List ℕ
whole state = state.front ++ state.last ∷ state.coming

-- how many darts the walk has
abbrev pub darts_in : ReductionView → ℕ
darts_in state = length state.front + length state.coming

-- the next vertex is taken from those to come
abbrev pub IsTaken : ReductionView → ℕ → ReductionView → Type 0
IsTaken old next new = old ≡ record new { coming = next ∷ new.coming }

-- the next vertex leads back to the one before the last, and the spur goes out
pub record StepsBack (old : ReductionView) (next : ℕ) (new : ReductionView) : Type 0 where
  pub last : new.last ≡ next
  pub front : old.front ≡ new.front ++ next ∷ []
  pub coming : new.coming ≡ old.coming
  pub list : new.list
      ≡ record {
        moves = old.list.moves ++ Remove (length new.front) (record { 0 = old.last }) ∷ [];
        peak = max old.list.peak (length new.front + length new.coming);
      }

-- the vertices to come lead to the next vertex and straight back, and the spur goes out
pub record SkipsSpur (old : ReductionView) (next : ℕ) (new : ReductionView) : Type 0 where
  pub front : new.front ≡ old.front
  pub last : new.last ≡ old.last
  pub coming : old.coming ≡ old.last ∷ new.coming
  pub list : new.list
      ≡ record {
        moves = old.list.moves ++ Remove (length new.front) (record { 0 = next }) ∷ [];
        peak = max old.list.peak (length new.front + length new.coming);
      }

-- the next vertex is put on: it makes no spur, and the edge is no parent edge
pub record StepsOn (surface : OpenView) (old : ReductionView) (next : ℕ) (new : ReductionView) : Type 0 where
  pub no_parent : IsParentEdge surface old.last next → ⊥
  pub no_spur : 0 < length old.front → slice_index old.front (length old.front - 1) ≢ next
  pub new_is : new ≡ record { front = old.front ++ old.last ∷ []; last = next; coming = old.coming; list = old.list }

-- the way along a side of a face from its end u: from its own corner, rising; or from the corner behind, falling
abbrev pub IsWayAlong : OpenView → Side → ℕ → ℕ → Bool → Type 0
IsWayAlong surface side u corner forward =
    ((tail_of surface.mesh side ≡ u) × (corner ≡ side.at) × (forward ≡ true))
    ⊎ ((tail_of surface.mesh side ≢ u) × (corner ≡ next_corner true (length (face_at surface.mesh side.face.0)) side.at)
    × (forward ≡ false))

-- the edge to the next vertex is the parent edge of a face, and its expansion comes in its place
pub record Expands (surface : OpenView) (old : ReductionView) (next : ℕ) (new : ReductionView) : Type 0 where
  pub face : ℕ
  pub corner : ℕ
  pub forward : Bool
  pub within : face < length surface.mesh.faces
  pub joined : Joins surface.mesh (parent_of surface face) old.last next
  pub way : IsWayAlong surface (parent_of surface face) old.last corner forward
  pub front : new.front ≡ old.front
  pub last : new.last ≡ old.last
  pub coming : new.coming ≡ expansion surface.mesh (parent_of surface face) old.last ++ old.coming
  pub list : new.list
      ≡ record {
        moves = old.list.moves ++ Across (length old.front) (record { 0 = face }) corner forward 1 ∷ [];
        peak = max old.list.peak (length new.front + length new.coming);
      }

-- there is room for the face of a parent edge that the next step goes along
abbrev pub HasFaceRoom : OpenView → ReductionView → ℕ → Type 0
HasFaceRoom surface state next =
    (f : ℕ) → f < length surface.mesh.faces → Joins surface.mesh (parent_of surface f) state.last next
    → darts_in state + length (face_at surface.mesh f) ≤ MOST_PEAK

-- one of the four
abbrev pub IsStep : OpenView → ReductionView → ℕ → ReductionView → Type 0
IsStep surface old next new =
    StepsBack old next new ⊎ (StepsOn surface old next new ⊎ (Expands surface old next new ⊎ SkipsSpur old next new))
