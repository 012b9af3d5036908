-- Moves that come to a list of moves: removals, and moves that lead off the cotree.
use Rattle.move_lifting.proofs.Common.{OrientedMesh, IsFaceBelow, IsCrossed, ComeMore, IsRemoval, MoreRemove, MoreLeaveCotree, TrackView, FaceStep, LeavesCotree, arith, ℕ, List, [], sym, common_steps, append-nil, All-nil, Move, Insert, Remove, Across, SplitView}

-- more moves, and others behind these
pub more_on : (IsSuch : Move → Type 0) (a b c : List Move) → ComeMore IsSuch a b → ComeMore IsSuch b c → ComeMore IsSuch a c
more_on IsSuch a b c one two = grind (arith, common_steps)

pub none_more : (IsSuch : Move → Type 0) (moves : List Move) → ComeMore IsSuch moves moves
none_more IsSuch moves = ([], sym (append-nil moves), All-nil IsSuch)

-- a removal is a move that leads off the cotree
removal_leaves : (s : OrientedMesh) (split : SplitView) (move : Move) → IsRemoval move → LeavesCotree s split move
removal_leaves s split (Insert at via) h = absurd h
removal_leaves s split (Remove at via) h = tt
removal_leaves s split (Across at face corner forward taken) h = absurd h

pub removed_leave : (s : OrientedMesh) (split : SplitView) (a b : List Move) → MoreRemove a b → MoreLeaveCotree s split a b
removed_leave s split a b more = (more.0, more.1, λ k d l. removal_leaves s split _ (more.2 k d l))

-- and so is a step across the face below an edge
pub step_leaves : (s : OrientedMesh) (split : SplitView) (u v at : ℕ) (step : FaceStep) → IsFaceBelow s split u v step
    → LeavesCotree s split (Across at step.face step.corner step.forward 1)
step_leaves s split u v at step under = grind arith

pub crossed_leaves : {s : OrientedMesh} {split : SplitView} {u v behind : ℕ} {step : FaceStep} {old new : TrackView} {pending left : List ℕ}
    → IsFaceBelow s split u v step → IsCrossed s.mesh step behind old pending new left
    → MoreLeaveCotree s split old.list.moves new.list.moves
crossed_leaves {s} {split} {u} {v} {step} {old} under crossed = grind (arith, step_leaves)
