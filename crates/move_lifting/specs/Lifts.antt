-- Lists of moves that lead from a walk to a walk, with their peaks.
pub use Rattle.surf_model.specs.PeakedLists.{LeadsAtPeak}
use Rattle.std.specs.Prelude.{◌≡◌, ℕ, ◌+◌, ◌*◌, ◌≤◌, List, ◌++◌, length, All}
use Rattle.surf_model.specs.Moves.{PeakedMoves}
use Rattle.surf_model.specs.declared.moves.Move.{Move}
use Rattle.halfedge_map.specs.OrientedMeshes.{OrientedMesh}
use Rattle.tree_cotree.specs.Splits.{SplitView}
use Rattle.polygon_cut.specs.SpokeLoops.{LeavesCotree}
use Rattle.surf_model.specs.declared.moves.Move.TheVariants.{Insert, Remove, Across}

-- the move takes a spur out
abbrev pub IsRemoval : Move → Type 0
IsRemoval (Insert at via) = ⊥
IsRemoval (Remove at via) = Unit {0}
IsRemoval (Across at face corner forward taken) = ⊥

-- more moves come, and each is such
abbrev pub ComeMore : (Move → Type 0) → List Move → List Move → Type 0
ComeMore IsSuch old new = (more : List Move) × (new ≡ old ++ more) × All IsSuch more

-- more removals come
abbrev pub MoreRemove : List Move → List Move → Type 0
MoreRemove old new = ComeMore IsRemoval old new

-- more moves come, and each puts a spur in, takes one out, or goes round the face below a cotree edge in place of that edge
abbrev pub MoreLeaveCotree : OrientedMesh → SplitView → List Move → List Move → Type 0
MoreLeaveCotree surface split old new = ComeMore (LeavesCotree surface split) old new

-- The peak is low, for so many sides of a surface and so many darts of two walks together: twice the peak is no more than three times the
-- darts and seven, for each side.
abbrev pub HasLowPeak : ℕ → ℕ → PeakedMoves → Type 0
HasLowPeak sides darts list = 2 * list.peak ≤ (3 * darts + 7) * sides

-- The list is short, for so many sides of a surface and so many darts of two walks together: for each of the darts it has at most a move
-- for each side, and one more.
abbrev pub IsShortList : ℕ → ℕ → PeakedMoves → Type 0
IsShortList sides darts list = length list.moves ≤ darts * (sides + 1)
