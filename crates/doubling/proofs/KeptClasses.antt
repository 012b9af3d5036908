-- Walks of the mesh are of one class in the double exactly where they are in the mesh: homotopic, freely homotopic, homologous.
use Rattle.doubling.proofs.Common.{IsClosedWalk, FreelyHomotopic, double_of, AreHomologous, subst, List, ℕ, ◌↔◌, FaceList, IsFaceList, Homotopic, IsWalk}
use Rattle.doubling.proofs.KeptMoves.{kept_moves, kept_walk}
use Rattle.doubling.proofs.FoldedMoves.{moves_fold, walk_folds}
use Rattle.doubling.proofs.FoldedFreeSteps.{steps_fold, kept_steps, kept_closed}
use Rattle.doubling.proofs.FoldedChains.{chain_folds, chain_kept}

pub keeps_homotopy : (mesh : FaceList) (first second : List ℕ) → IsFaceList mesh → IsWalk mesh first → IsWalk mesh second
    → Homotopic (double_of mesh) first second ↔ Homotopic mesh first second
keeps_homotopy mesh first second valid w v = (
  λ h.
      subst (λ (l : List ℕ). Homotopic mesh l second) (walk_folds mesh first valid w)
      (subst (Homotopic mesh _) (walk_folds mesh second valid v) (moves_fold mesh h.0 first second valid (kept_walk mesh first w) h.1)),
  λ h. (h.0, kept_moves mesh h.0 first second w.starts h.1),
)

pub keeps_free_homotopy : (mesh : FaceList) (first second : List ℕ) → IsFaceList mesh → IsClosedWalk mesh first → IsClosedWalk mesh second
    → FreelyHomotopic (double_of mesh) first second ↔ FreelyHomotopic mesh first second
keeps_free_homotopy mesh first second valid w v = (
  λ h.
      subst (λ (l : List ℕ). FreelyHomotopic mesh l second) (walk_folds mesh first valid w.is_walk)
      (subst (FreelyHomotopic mesh _) (walk_folds mesh second valid v.is_walk)
      (steps_fold mesh h.0 first second valid (kept_closed mesh first w) h.1)),
  λ h. (h.0, kept_steps mesh h.0 first second w h.1),
)

pub keeps_homology : (mesh : FaceList) (first second : List ℕ) → IsFaceList mesh → IsWalk mesh first → IsWalk mesh second
    → AreHomologous (double_of mesh) first second ↔ AreHomologous mesh first second
keeps_homology mesh first second valid w v = (
  λ h. (_, chain_folds mesh h.0 first second valid w v h.1),
  λ h. (_, chain_kept mesh h.0 first second w v h.1),
)
