-- A list of moves of the double, folded move by move.
use Rattle.folded_lists.proofs.Common.{greatest_darts-more, greatest_darts-none, number_kinds, walk_folds, double_of, fold, folded, IsMoveBelow, along_edge, ◌≡◌, ◌⊎◌, inl, inr, ℕ, ◌+◌, ◌<◌, ◌≤◌, Bool, List, [], ◌∷◌, length, get_or, refl, ap, sym, ◌∙◌, subst, arith, cases_eq, length-append, Some, first_answer, stays_walk, FaceList, IsFaceList, face_at, PeakedMoves, apply, apply_all, greatest_darts, LeadsAtPeak, Replaces, IsWalk, Move, Insert, Remove, Across, VertexName}
use Rattle.folded_lists.proofs.FoldedParts.{front_ends, length-folded}
use Rattle.folded_lists.proofs.PartedMoves.{IsParted, fold_goes, fold_stays, parted_by}
use Rattle.folded_lists.proofs.MovesBelow.{across_kept, across_mirror, insert_flat, insert_high, quad_flat, quad_in, quad_out, remove_flat, remove_high}
use Rattle.folded_lists.proofs.QuadLemmas.{opposite}

-- ---- one move

-- both parts have one fold, or a move of the mesh leads from the one fold to the other
abbrev FoldsAt : FaceList → ℕ → List ℕ → List ℕ → Type 0
FoldsAt mesh place part other =
    (folded mesh.count part ≡ folded mesh.count other) ⊎ ((low : Move) × IsMoveBelow mesh place part other low)

across_folds : (mesh : FaceList) (at place f corner : ℕ) (forward : Bool) (taken : ℕ) (part other : List ℕ) → IsFaceList mesh
    → Replaces (double_of mesh) (Across at (record { 0 = f }) corner forward taken) part other → FoldsAt mesh place part other
across_folds mesh at place f corner forward taken part other valid h =
    elim (number_kinds mesh f h.0) [
      | inl less ↦ inr (_, across_kept mesh at place f corner forward taken part other valid less h)
      | inr others ↦ elim others [
        | inl is ↦
            inr (
              _,
              across_mirror mesh at place is.face corner forward taken part other valid is.in_list
                  (subst (λ (n : ℕ). Replaces (double_of mesh) (Across at (record { 0 = n }) corner forward taken) part other) is.number h),
            )
        | inr is ↦ quads (omega (arith, is.number))
      ]
    ]
  where
    low : VertexName
    low = record { 0 = fold mesh.count (get_or (face_at (double_of mesh) f) (opposite corner) 0) }

    quads : length mesh.faces + length mesh.faces ≤ f → FoldsAt mesh place part other
    quads more =
        elim (cases_eq (along_edge corner forward taken) 0) [
          | inl none ↦ inr (_, quad_in mesh at place f corner forward taken part other valid more h low refl none)
          | inr some ↦ elim (cases_eq (along_edge corner forward taken) 1) [
            | inl one ↦ inl (quad_flat mesh at place f corner forward taken part other valid more h one)
            | inr many ↦ inr (_, quad_out mesh at place f corner forward taken part other valid more h low refl some many)
          ]
        ]

part_folds : (mesh : FaceList) (place v : ℕ) (rest others : List ℕ) (move : Move) → IsFaceList mesh
    → Replaces (double_of mesh) move (v ∷ rest) (v ∷ others) → FoldsAt mesh place (v ∷ rest) (v ∷ others)
part_folds mesh place v rest others (Insert at via) valid h =
    elim (cases_eq (fold mesh.count via.0) (fold mesh.count v)) [
      | inl same ↦ inl (insert_flat mesh at v via rest others same h)
      | inr other ↦ inr (_, insert_high mesh at place v via (record { 0 = fold mesh.count via.0 }) rest others valid refl other h)
    ]
part_folds mesh place v rest others (Remove at via) valid h =
    elim (cases_eq (fold mesh.count via.0) (fold mesh.count v)) [
      | inl same ↦ inl (remove_flat mesh at v via rest others same h)
      | inr other ↦ inr (_, remove_high mesh at place v via (record { 0 = fold mesh.count via.0 }) rest others refl other h)
    ]
part_folds mesh place v rest others (Across at face corner forward taken) valid h =
    across_folds mesh at place face.0 corner forward taken (v ∷ rest) (v ∷ others) valid h

abbrev OneFolds : FaceList → List ℕ → List ℕ → Type 0
OneFolds mesh walk next =
    (folded mesh.count next ≡ folded mesh.count walk)
    ⊎ ((low : Move) × (apply mesh (folded mesh.count walk) low ≡ Some (folded mesh.count next)))

one_folds : (mesh : FaceList) (walk next : List ℕ) (move : Move) → IsFaceList mesh → 0 < length walk
    → apply (double_of mesh) walk move ≡ Some next → OneFolds mesh walk next
one_folds mesh walk next move valid some e =
    let p : IsParted (double_of mesh) move walk next = parted_by (double_of mesh) walk next move some e in
    let entry = front_ends mesh.count p.before p.here in
    elim (part_folds mesh (length entry.0) p.here p.rest p.others move valid p.replaces) [
      | inl same ↦ inl (fold_stays mesh (double_of mesh) walk next move p same)
      | inr low ↦
          inr (
            low.0,
            fold_goes mesh (double_of mesh) walk next move low.0 p (length entry.0)
                (omega (arith, ap length entry.1, length-append entry.0 (fold mesh.count p.here ∷ []))) low.1,
          )
    ]

-- ---- all moves

record AllFold (mesh : FaceList) (walk next : List ℕ) (moves : List Move) : Type 0 where
  pub below : List Move
  pub leads : apply_all mesh (folded mesh.count walk) below ≡ Some (folded mesh.count next)
  pub few : length below ≤ length moves
  pub low : greatest_darts mesh (folded mesh.count walk) below ≤ greatest_darts (double_of mesh) walk moves

all_fold : (mesh : FaceList) (moves : List Move) (walk next : List ℕ) → IsFaceList mesh → 0 < length walk
    → apply_all (double_of mesh) walk moves ≡ Some next → AllFold mesh walk next moves
all_fold mesh [] walk next valid some e =
    let same : walk ≡ next = cc in
    record {
      below = [];
      leads = ap (λ (l : List ℕ). Some (folded mesh.count l)) same;
      few = omega arith;
      low =
          omega (
            arith,
            greatest_darts-none mesh (folded mesh.count walk),
            greatest_darts-none (double_of mesh) walk,
            length-folded mesh.count walk,
          );
    }
all_fold mesh (move ∷ moves) walk next valid some e =
    let told = first_answer (λ x. apply_all (double_of mesh) x moves) (apply (double_of mesh) walk move) next e in
    let rest : AllFold mesh told.0 next moves =
    all_fold mesh moves told.0 next valid (stays_walk (double_of mesh) walk told.0 move some told.1) told.2 in
    let more = greatest_darts-more (double_of mesh) walk told.0 move moves told.1 in
    elim (one_folds mesh walk told.0 move valid some told.1) [
      | inl same ↦
          record {
            below = rest.below;
            leads = ap (λ (l : List ℕ). apply_all mesh l rest.below) (sym same) ∙ rest.leads;
            few = omega (arith, rest.few);
            low = omega (arith, rest.low, more, ap (λ (l : List ℕ). greatest_darts mesh l rest.below) same);
          }
      | inr low ↦
          record {
            below = low.0 ∷ rest.below;
            leads = rw low.1 rest.leads;
            few = omega (arith, rest.few);
            low =
                omega (
                  arith,
                  rest.low,
                  more,
                  greatest_darts-more mesh (folded mesh.count walk) (folded mesh.count told.0) low.0 rest.below low.1,
                  length-folded mesh.count walk,
                );
          }
    ]

pub list_folds : (mesh : FaceList) (first second : List ℕ) (list : PeakedMoves) → IsFaceList mesh → IsWalk mesh first → IsWalk mesh second
    → LeadsAtPeak (double_of mesh) first list second
    → (below : PeakedMoves) × LeadsAtPeak mesh first below second × (length below.moves ≤ length list.moves)
    × (below.peak ≤ list.peak)
list_folds mesh first second list valid w v h =
    let all : AllFold mesh first second list.moves = all_fold mesh list.moves first second valid w.starts h.leads in
    let start : folded mesh.count first ≡ first = walk_folds mesh first valid w in
    let end : folded mesh.count second ≡ second = walk_folds mesh second valid v in (
      record { moves = all.below; peak = greatest_darts mesh first all.below },
      record {
        leads =
            ap (λ (l : List ℕ). apply_all mesh l all.below) (sym start) ∙ all.leads ∙ ap (λ (l : List ℕ). Some l) end;
        peak = refl;
      },
      all.few,
      omega (arith, all.low, h.peak, ap (λ (l : List ℕ). greatest_darts mesh l all.below) start),
    )
