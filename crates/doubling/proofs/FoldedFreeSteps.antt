-- Free steps of the double, folded: a closed walk that starts later is folded to one that starts later, or at the same place.
use Rattle.doubling.proofs.Common.{IsClosedWalk, FreeStep, Moved, Rotated, after_free, after_all_free, FreelyLeads, FreelyHomotopic, double_of, fold, steps_behind, folded, arith, ◌≡◌, inl, inr, ℕ, true, false, List, [], ◌∷◌, ◌++◌, map, refl, ap, ap₂, sym, ◌∙◌, subst, cases_eq, eq-eqb, ne_eqb, Some, ◌==◌, first_answer, FaceList, IsFaceList, end_from, run-append}
use Rattle.closed_walks.proofs.FreeStepLemmas.{on, closes, step_keeps}
use Rattle.closed_walks.proofs.MovedSteps.{freely}
use Rattle.doubling.proofs.FoldedMoves.{step, puts_fold, moves_fold}
use Rattle.doubling.proofs.KeptMoves.{kept_walk, kept_move}

starts_later : (mesh : FaceList) (u v : ℕ) (rest : List ℕ) → end_from v rest ≡ u
    → FreelyHomotopic mesh (folded mesh.count (u ∷ v ∷ rest)) (folded mesh.count (v ∷ (rest ++ v ∷ [])))
starts_later mesh u v rest closed =
    let F : ℕ → ℕ = fold mesh.count in
    let later : folded mesh.count (v ∷ (rest ++ v ∷ [])) ≡ step mesh (folded mesh.count (v ∷ rest)) u v =
    sym (puts_fold mesh (F v ∷ []) v (rest ++ v ∷ []))
    ∙ run-append (step mesh) (F v ∷ []) v rest (v ∷ [])
    ∙ ap₂ (λ (l : List ℕ) (x : ℕ). step mesh l x v) (puts_fold mesh (F v ∷ []) v rest) closed in
    rw later
    (elim (cases_eq (F v) (F u)) [
      | inl same ↦
          (let test : (F v == F u) ≡ true = eq-eqb (F v) (F u) same in
          rw test ([], ap (λ x. Some (x ∷ steps_behind x (map F rest))) (sym same)))
      | inr other ↦
          (let test : (F v == F u) ≡ false = ne_eqb (F v) (F u) other in
          rw test (Rotated ∷ [], refl))
    ])

step_folds : (mesh : FaceList) (free : FreeStep) (walk next : List ℕ) → IsFaceList mesh → IsClosedWalk (double_of mesh) walk
    → after_free (double_of mesh) walk free ≡ Some next → FreelyHomotopic mesh (folded mesh.count walk) (folded mesh.count next)
step_folds mesh (Moved move) walk next valid h e =
    freely mesh (folded mesh.count walk) (folded mesh.count next)
    (moves_fold mesh (move ∷ []) walk next valid h.is_walk (rw e refl))
step_folds mesh Rotated [] next valid h e = cc
step_folds mesh Rotated (u ∷ []) next valid h e = cc
step_folds mesh Rotated (u ∷ v ∷ rest) next valid h e =
    let is : v ∷ (rest ++ v ∷ []) ≡ next = cc in
    subst (λ (l : List ℕ). FreelyHomotopic mesh (folded mesh.count (u ∷ v ∷ rest)) (folded mesh.count l)) is
    (starts_later mesh u v rest (closes (double_of mesh) u (v ∷ rest) h))

pub steps_fold : (mesh : FaceList) (steps : List FreeStep) (walk next : List ℕ) → IsFaceList mesh → IsClosedWalk (double_of mesh) walk
    → FreelyLeads (double_of mesh) walk steps next → FreelyHomotopic mesh (folded mesh.count walk) (folded mesh.count next)
steps_fold mesh [] walk next valid h e = grind arith
steps_fold mesh (free ∷ steps) walk next valid h e =
    let told = first_answer (λ x. after_all_free (double_of mesh) x steps) (after_free (double_of mesh) walk free) next e in
    on mesh (folded mesh.count walk) (folded mesh.count told.0) (folded mesh.count next) (step_folds mesh free walk told.0 valid h told.1)
    (steps_fold mesh steps told.0 next valid (step_keeps (double_of mesh) free walk told.0 h told.1) told.2)

pub kept_closed : (mesh : FaceList) (walk : List ℕ) → IsClosedWalk mesh walk → IsClosedWalk (double_of mesh) walk
kept_closed mesh walk h = record { is_walk = kept_walk mesh walk h.is_walk; closed = h.closed }

kept_step : (mesh : FaceList) (free : FreeStep) (walk next : List ℕ) → IsClosedWalk mesh walk → after_free mesh walk free ≡ Some next
    → after_free (double_of mesh) walk free ≡ Some next
kept_step mesh (Moved move) walk next h e = kept_move mesh walk next move h.is_walk.starts e
kept_step mesh Rotated walk next h e = e

-- free steps of the mesh lead in the double to the same walk
pub kept_steps : (mesh : FaceList) (steps : List FreeStep) (walk next : List ℕ) → IsClosedWalk mesh walk → FreelyLeads mesh walk steps next
    → FreelyLeads (double_of mesh) walk steps next
kept_steps mesh [] walk next h e = e
kept_steps mesh (free ∷ steps) walk next h e =
    let told = first_answer (λ x. after_all_free mesh x steps) (after_free mesh walk free) next e in
    rw (kept_step mesh free walk told.0 h told.1) (kept_steps mesh steps told.0 next (step_keeps mesh free walk told.0 h told.1) told.2)
