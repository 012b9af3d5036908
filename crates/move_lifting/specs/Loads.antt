-- Weights of darts, and what a walk weighs that is led off the cotree.
use Rattle.std.specs.Prelude.{◌≡◌, ℕ, ◌+◌, ◌<◌, ◌≤◌, max, List, [], ◌∷◌, length, reverse}
use Rattle.surf_model.specs.Moves.{PeakedMoves}
use Rattle.halfedge_map.specs.OrientedMeshes.{OrientedMesh}
use Rattle.tree_cotree.specs.Splits.{SplitView}
use Rattle.move_lifting.specs.Crossings.{IsFaceBelow, beyond}
use Rattle.move_lifting.specs.Lifts.{MoreLeaveCotree}
use Rattle.move_lifting.specs.Tracks.{GoesOn, last_of}
use Rattle.move_lifting.specs.declared.crossing.FaceStep.{FaceStep}

-- what the darts of a walk weigh together, each told by the vertices where it starts and ends
abbrev pub load_of : (ℕ → ℕ → ℕ) → List ℕ → ℕ
load_of weight [] = 0
load_of weight (u ∷ []) = 0
load_of weight (u ∷ v ∷ rest) = weight u v + load_of weight (v ∷ rest)

-- Each dart weighs something, and the rest of the face below a cotree edge weighs less than the dart on the edge, whose place it takes.
pub record AreWeights (surface : OrientedMesh) (split : SplitView) (weight : ℕ → ℕ → ℕ) : Type 0 where
  pub some : (u v : ℕ) → 0 < weight u v
  pub falls : (u v : ℕ) (step : FaceStep) → IsFaceBelow surface split u v step
      → load_of weight (u ∷ reverse (beyond surface.mesh step)) < weight u v

-- Whatever the darts weigh so, the next walk weighs no more than the walk, and the peak of its list is no greater than that of the list
-- before, or than what the walk weighs with so many entries behind it. Each move on the way makes the walk lighter.
abbrev pub StaysWithin : OrientedMesh → SplitView → ℕ → List ℕ → PeakedMoves → List ℕ → PeakedMoves → Type 0
StaysWithin surface split behind walk list next more =
    (weight : ℕ → ℕ → ℕ) → AreWeights surface split weight
    → (load_of weight next ≤ load_of weight walk) × (more.peak ≤ max list.peak (load_of weight walk + behind))
    × (length more.moves + load_of weight next ≤ length list.moves + load_of weight walk)

-- A walk with so many entries behind it is led on to the next one, which ends where it does: by moves that put spurs in, take them out or
-- go round faces below cotree edges, and within what the walk weighs.
pub record IsLedOn (surface : OrientedMesh) (split : SplitView) (behind : ℕ) (walk : List ℕ) (list : PeakedMoves) (next : List ℕ)
    (more : PeakedMoves) : Type 0 where
  pub some : 0 < length next
  pub last : last_of next ≡ last_of walk
  pub goes : GoesOn surface.mesh behind walk list next more
  pub leaves : MoreLeaveCotree surface split list.moves more.moves
  pub within : StaysWithin surface split behind walk list next more
