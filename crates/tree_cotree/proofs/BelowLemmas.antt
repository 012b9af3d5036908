-- The face below each edge, by the darts that are kept for the faces.
use Rattle.tree_cotree.proofs.Common.{Rotations, ◌≡◌, ◌≢◌, inl, inr, ℕ, zero, suc, ◌+◌, ◌<◌, List, length, refl, ap, sym, ◌∙◌, subst, arith, set, cases_eq, common_steps, length-replicate, length-set, get_or-set_same, get_or-set_other, Option, Some, None, is_some, replicate, AreBelowEdges, AreDartsApart, kept_at}
use Rattle.tree_cotree.proofs.SetLemmas.{with_one, with_itself, with_other}
use Rattle.tree_cotree.proofs.SearchLemmas.{not_both}
use Rattle.tree_cotree.proofs.TreeLemmas.{marked_none, marked_skip, marked_more}

below_none : (maps : Rotations) (from : List (Option ℕ)) (edges : ℕ) → AreBelowEdges maps from edges (λ e. None) 0
below_none maps from edges = grind (arith, marked_none)

below_skip : {maps : Rotations} {from : List (Option ℕ)} {edges n : ℕ} {below : ℕ → Option ℕ}
    → AreBelowEdges maps from edges below n → kept_at from n ≡ None
    → AreBelowEdges maps from edges below (n + 1)
below_skip {from} {n} h none = grind (arith, marked_skip, not_both)

below_more : {maps : Rotations} {from : List (Option ℕ)} {edges n : ℕ} (x : ℕ) {below : ℕ → Option ℕ} (more : ℕ → Option ℕ)
    → AreDartsApart maps from → AreBelowEdges maps from edges below n
    → kept_at from n ≡ Some x → maps.edge x < edges → more (maps.edge x) ≡ Some n → ((e : ℕ) → e ≢ maps.edge x → more e ≡ below e)
    → AreBelowEdges maps from edges more (n + 1)
below_more {maps} {from} {n} x {below} more apart h some l here other =
    let i : ℕ = maps.edge x in
    record {
      sets = marked_more x (λ e. is_some (more e)) h.sets some l refl (λ v y ne e. apart.apart v n y x e some ne)
          (λ e. elim (cases_eq e i) [
            | inl same ↦ ap (λ k. is_some (more k)) same ∙ ap is_some here
                ∙ sym (ap (with_one (λ k. is_some (below k)) i) same ∙ with_itself (λ k. is_some (below k)) i)
            | inr ne ↦ ap is_some (other e ne) ∙ sym (with_other (λ k. is_some (below k)) i e ne)
          ]);
      faces = λ e f k. grind arith;
      keeps = λ f y b e. grind arith;
    }

-- kept in a list: none at first, then face by face
pub faces_none : (maps : Rotations) (from : List (Option ℕ)) (edges : ℕ)
    → AreBelowEdges maps from edges (kept_at (replicate edges None)) 0
faces_none maps from edges = grind (arith, common_steps, below_none)

pub faces_skip : {maps : Rotations} {from : List (Option ℕ)} {edges n : ℕ} (faces : List (Option ℕ))
    → AreBelowEdges maps from edges (kept_at faces) n → kept_at from n ≡ None
    → AreBelowEdges maps from edges (kept_at faces) (n + 1)
faces_skip faces h none = below_skip h none

pub faces_more : {maps : Rotations} {from : List (Option ℕ)} {edges n : ℕ} (x : ℕ) (faces : List (Option ℕ))
    → AreDartsApart maps from → length faces ≡ edges → AreBelowEdges maps from edges (kept_at faces) n
    → kept_at from n ≡ Some x → maps.edge x < edges
    → AreBelowEdges maps from edges (kept_at (set faces (maps.edge x) (Some n))) (n + 1)
faces_more {maps} {n} x faces apart long h some l =
    below_more x (kept_at (set faces (maps.edge x) (Some n))) apart h some l
    (get_or-set_same faces (maps.edge x) (Some n) None (omega (arith, l, long)))
    (λ e ne. get_or-set_other faces (maps.edge x) e (Some n) None ne)

-- such a list is there
faces_next : {maps : Rotations} {from : List (Option ℕ)} {edges n : ℕ} → AreDartsApart maps from
    → ((v x : ℕ) → kept_at from v ≡ Some x → maps.edge x < edges)
    → (faces : List (Option ℕ)) → length faces ≡ edges → AreBelowEdges maps from edges (kept_at faces) n
    → (o : Option ℕ) → kept_at from n ≡ o
    → (more : List (Option ℕ)) × (length more ≡ edges) × AreBelowEdges maps from edges (kept_at more) (n + 1)
faces_next apart within faces long h None is = (faces, long, faces_skip faces h is)
faces_next {maps} {n} apart within faces long h (Some x) is = (
  set faces (maps.edge x) (Some n),
  length-set faces (maps.edge x) (Some n) ∙ long,
  faces_more x faces apart long h is (within n x is),
)

pub faces_there : {maps : Rotations} {from : List (Option ℕ)} (edges : ℕ) → AreDartsApart maps from
    → ((v x : ℕ) → kept_at from v ≡ Some x → maps.edge x < edges) → (n : ℕ)
    → (faces : List (Option ℕ)) × (length faces ≡ edges) × AreBelowEdges maps from edges (kept_at faces) n
faces_there {maps} {from} edges apart within zero =
    let no_face : Option ℕ = None in
    (replicate edges no_face, length-replicate edges no_face, faces_none maps from edges)
faces_there {maps} {from} edges apart within (suc n) =
    let before = faces_there edges apart within n in
    let more = faces_next apart within before.0 before.1 before.2 (kept_at from n) refl in
    let next : n + 1 ≡ suc n = omega arith in
    (more.0, more.1, subst (AreBelowEdges maps from edges (kept_at more.0)) next more.2)
