-- What is found on the double is found on the mesh, and what is found of lifts is found of the walks below.
use Rattle.compact_surfaces.proofs.Common.{IsKeptClosed, keeps_homotopy, kept_walk, double_of, lift_is_walk, lifts_homotopic, cover_by, lift_by, AreWays, ◌≡◌, ◌↔◌, ℕ, ◌+◌, ◌<◌, Bool, true, List, get_or, sym, ◌∙◌, subst, inl, inr, arith, All, Option, Some, None, list_keeps_ends, Edge, FaceList, IsFaceList, is_edge, is_used, Homotopic, AreWalkPair, IsWalk, Different, IsFoundOn}
use Rattle.closed_doubles.proofs.JoinedDoubles.{fold_used}
use Rattle.connectivity.proofs.EdgeLemmas.{edge_differs, used_below}
use Rattle.doubling.proofs.FoldedSides.{edge_folds}
use Rattle.doubling.proofs.RepeatLemmas.{fold_kept}
use Rattle.doubling.proofs.ValidDoubles.{double_valid}
use Rattle.doubling.specs.Folds.{fold}
use Rattle.surf_model.specs.declared.decisions.Answer.{Answer}

-- ---- the double

abbrev pub LiesBelow : ℕ → List ℕ → Type 0
LiesBelow count walk = All (λ (v : ℕ). v < count) walk

pub walk_lies_below : (mesh : FaceList) (walk : List ℕ) → IsFaceList mesh → IsWalk mesh walk → LiesBelow mesh.count walk
walk_lies_below mesh walk valid w = λ k d l. used_below mesh (get_or walk k d) valid (w.used k d l)

edge_below : (mesh : FaceList) (u v : ℕ) → IsFaceList mesh → u < mesh.count → v < mesh.count → is_edge (double_of mesh) u v ≡ true
    → is_edge mesh u v ≡ true
edge_below mesh u v valid lu lv is =
    let one : fold mesh.count u ≡ u = fold_kept mesh.count u lu in
    let other : fold mesh.count v ≡ v = fold_kept mesh.count v lv in
    elim (edge_folds mesh u v valid is) [
      | inl same ↦ absurd (edge_differs (double_of mesh) u v (double_valid mesh valid) is (sym one ∙ same ∙ other))
      | inr edge ↦ subst (λ x. is_edge mesh x v ≡ true) one (subst (λ y. is_edge mesh (fold mesh.count u) y ≡ true) other edge)
    ]

-- a walk of the double that lies in none of the mirrors is one of the mesh
pub walk_below : (mesh : FaceList) (walk : List ℕ) → IsFaceList mesh → LiesBelow mesh.count walk → IsWalk (double_of mesh) walk
    → IsWalk mesh walk
walk_below mesh walk valid below w = record {
  starts = w.starts;
  used = λ k d l.
      subst (λ v. is_used mesh v ≡ true) (fold_kept mesh.count (get_or walk k d) (below k d l))
      (fold_used mesh (get_or walk k d) valid (w.used k d l));
  edges = λ k l.
      edge_below mesh (get_or walk k 0) (get_or walk (k + 1) 0) valid (below k 0 (omega (arith, l))) (below (k + 1) 0 (omega (arith, l)))
      (w.edges k l);
}

found_below : (mesh : FaceList) (first second : List ℕ) (found : Option Answer) → IsFaceList mesh → LiesBelow mesh.count first
    → LiesBelow mesh.count second → IsFoundOn (double_of mesh) first second found → IsFoundOn mesh first second found
found_below mesh first second None valid lf ls none =
    λ are.
    none (record {
      first_walk = kept_walk mesh first are.first_walk;
      second_walk = kept_walk mesh second are.second_walk;
      ends = are.ends;
    })
found_below mesh first second (Some answer) valid lf ls told =
    let one : IsWalk mesh first = walk_below mesh first valid lf told.0.first_walk in
    let other : IsWalk mesh second = walk_below mesh second valid ls told.0.second_walk in
    let same : Homotopic (double_of mesh) first second ↔ Homotopic mesh first second =
    keeps_homotopy mesh first second valid one other in (
      record { first_walk = one; second_walk = other; ends = told.0.ends },
      ((λ e. same.0 (told.1.0 e)), (λ leads. told.1.1 (same.1 leads))),
    )

pub found_on_mesh : (mesh closed : FaceList) (own : Option (List Edge)) (signed : Bool) (first second : List ℕ) (found : Option Answer)
    → IsKeptClosed mesh own closed signed → LiesBelow mesh.count first → LiesBelow mesh.count second → IsFoundOn closed first second found
    → IsFoundOn mesh first second found
found_on_mesh mesh closed own signed first second found kept lf ls told =
    elim kept.answers [
      | inl same ↦ subst (λ (m : FaceList). IsFoundOn m first second found) same told
      | inr double ↦
          found_below mesh first second found kept.valid lf ls (subst (λ (m : FaceList). IsFoundOn m first second found) double told)
    ]

-- ---- the cover

-- the mesh is covered by `cover`, and over two of its walks with common ends lie `one` and `two`
pub record IsLift (mesh cover : FaceList) (bits : List Bool) (first second one two : List ℕ) : Type 0 where
  pub valid : IsFaceList mesh
  pub ways : AreWays mesh bits
  pub pair : AreWalkPair mesh first second
  pub is_cover : cover ≡ cover_by mesh bits
  pub is_one : one ≡ lift_by mesh bits first
  pub is_two : two ≡ lift_by mesh bits second

module _ (mesh cover : FaceList) (bits : List Bool) (first second one two : List ℕ) (h : IsLift mesh cover bits first second one two) where
  same : Homotopic cover one two ↔ Homotopic mesh first second
  same =
      subst (λ (c : FaceList). Homotopic c one two ↔ Homotopic mesh first second) (sym h.is_cover)
      (subst (λ (w : List ℕ). Homotopic (cover_by mesh bits) w two ↔ Homotopic mesh first second) (sym h.is_one)
      (subst (λ (w : List ℕ). Homotopic (cover_by mesh bits) (lift_by mesh bits first) w ↔ Homotopic mesh first second) (sym h.is_two)
      (lifts_homotopic mesh bits first second h.valid h.ways h.pair.first_walk h.pair.second_walk)))

  walk_above : (walk lift : List ℕ) → IsWalk mesh walk → lift ≡ lift_by mesh bits walk → IsWalk cover lift
  walk_above walk lift w e =
      subst (λ (c : FaceList). IsWalk c lift) (sym h.is_cover)
      (subst (IsWalk (cover_by mesh bits)) (sym e) (lift_is_walk mesh bits walk h.valid h.ways w))

  -- what is found of lifts that end together
  pub lifts_tell : (answer : Answer) → IsFoundOn cover one two (Some answer) → IsFoundOn mesh first second (Some answer)
  lifts_tell answer told = (h.pair, ((λ e. same.0 (told.1.0 e)), (λ leads. told.1.1 (same.1 leads))))

  -- lifts of homotopic walks end together
  pub lifts_part : IsFoundOn cover one two None → IsFoundOn mesh first second (Some Different)
  lifts_part none =
      let walk : IsWalk cover one = walk_above first one h.pair.first_walk h.is_one in (
        h.pair,
        (
          (λ e. absurd cc),
          (λ leads.
              let above : Homotopic cover one two = same.1 leads in
              absurd
              (none (record {
                first_walk = walk;
                second_walk = walk_above second two h.pair.second_walk h.is_two;
                ends = list_keeps_ends cover above.0 one two walk.starts above.1;
              }))),
        ),
      )
