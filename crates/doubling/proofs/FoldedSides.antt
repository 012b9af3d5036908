-- The fold of each edge of the double is an edge of the mesh, or one vertex.
use Rattle.doubling.proofs.Common.{HasSideBetween, side_between, mirror_face, double_of, fold, ◌≡◌, ◌⊎◌, inl, inr, ℕ, zero, suc, ◌-◌, ◌<◌, true, List, length, get_or, ap, sym, ◌∙◌, subst, arith, edge_swap, step_edge, tail_used, head_used, used_below, IsSide, tail_of, head_of, FaceList, IsFaceList, is_edge, Side}
use Rattle.doubling.proofs.DoubleFaces.{rims, mirror_corner}
use Rattle.doubling.proofs.DoubleSides.{kept_tail, kept_head, over_side_tail, over_head, rim_side, quad_side, rim_in_mesh, first_tail, second_tail, third_tail, fourth_tail, first_head, second_head, third_head, fourth_head, side_kinds}
use Rattle.doubling.proofs.RepeatLemmas.{fold_kept, fold_mirror}

-- two vertices have one fold, or their folds form an edge of the mesh
abbrev pub FoldsToEdge : FaceList → ℕ → ℕ → Type 0
FoldsToEdge mesh u v = (fold mesh.count u ≡ fold mesh.count v) ⊎ (is_edge mesh (fold mesh.count u) (fold mesh.count v) ≡ true)

-- an edge whose ends are those of the mesh, or mirrors of them
over_edge : (mesh : FaceList) (u v a b : ℕ) → fold mesh.count u ≡ a → fold mesh.count v ≡ b → is_edge mesh a b ≡ true → FoldsToEdge mesh u v
over_edge mesh u v a b fu fv is = grind arith

-- a corner of a mirror is folded to the corner under it
pub mirror_folds : (count : ℕ) (face : List ℕ) (t : ℕ) → t < length face
    → fold count (get_or (mirror_face count face) t 0) ≡ get_or face (length face - 1 - t) 0
mirror_folds count face t l = grind (arith, mirror_corner, fold_mirror)

-- the ends of a side of the mesh
module _ (mesh : FaceList) (side : Side) (valid : IsFaceList mesh) (is : IsSide mesh side) where
  side_edge : is_edge mesh (tail_of mesh side) (head_of mesh side) ≡ true
  side_edge = step_edge mesh side.face.0 true side.at is.face is.place

  edge_back : is_edge mesh (head_of mesh side) (tail_of mesh side) ≡ true
  edge_back = edge_swap mesh (head_of mesh side) (tail_of mesh side) ∙ side_edge

  tail_kept : fold mesh.count (tail_of mesh side) ≡ tail_of mesh side
  tail_kept = fold_kept mesh.count (tail_of mesh side) (used_below mesh (tail_of mesh side) valid (tail_used mesh _ _ side_edge))

  head_kept : fold mesh.count (head_of mesh side) ≡ head_of mesh side
  head_kept = fold_kept mesh.count (head_of mesh side) (used_below mesh (head_of mesh side) valid (head_used mesh _ _ side_edge))

abbrev SideFolds : FaceList → Side → Type 0
SideFolds mesh side = FoldsToEdge mesh (tail_of (double_of mesh) side) (head_of (double_of mesh) side)

quad_folds : (mesh : FaceList) (k i : ℕ) → IsFaceList mesh → k < length (rims mesh) → i < 4 → SideFolds mesh (quad_side mesh k i)
quad_folds mesh k i valid l b = folds i b
  where
    F : ℕ → ℕ
    F = fold mesh.count

    rim : Side
    rim = rim_side mesh k

    low : F (tail_of mesh rim) ≡ tail_of mesh rim
    low = tail_kept mesh rim valid (rim_in_mesh mesh k l)

    high : F (head_of mesh rim) ≡ head_of mesh rim
    high = head_kept mesh rim valid (rim_in_mesh mesh k l)

    folds : (i : ℕ) → i < 4 → SideFolds mesh (quad_side mesh k i)
    folds zero b =
        over_edge mesh _ _ (head_of mesh rim) (tail_of mesh rim) (ap F (first_tail mesh k l) ∙ high) (ap F (first_head mesh k l) ∙ low)
        (edge_back mesh rim valid (rim_in_mesh mesh k l))
    folds (suc zero) b =
        inl (ap F (second_tail mesh k l) ∙ low ∙ sym (ap F (second_head mesh k l) ∙ fold_mirror mesh.count (tail_of mesh rim)))
    folds (suc (suc zero)) b =
        over_edge mesh _ _ (tail_of mesh rim) (head_of mesh rim) (ap F (third_tail mesh k l) ∙ fold_mirror mesh.count (tail_of mesh rim))
        (ap F (third_head mesh k l) ∙ fold_mirror mesh.count (head_of mesh rim)) (side_edge mesh rim valid (rim_in_mesh mesh k l))
    folds (suc (suc (suc zero))) b =
        inl (ap F (fourth_tail mesh k l) ∙ fold_mirror mesh.count (head_of mesh rim) ∙ sym (ap F (fourth_head mesh k l) ∙ high))
    folds (suc (suc (suc (suc j)))) b = absurd (omega arith)

side_folds : (mesh : FaceList) (side : Side) → IsFaceList mesh → IsSide (double_of mesh) side → SideFolds mesh side
side_folds mesh side valid h =
    let F : ℕ → ℕ = fold mesh.count in
    elim (side_kinds mesh side h) [
      | inl is ↦
          over_edge mesh _ _ (tail_of mesh side) (head_of mesh side) (ap F (kept_tail mesh side is) ∙ tail_kept mesh side valid is)
          (ap F (kept_head mesh side is) ∙ head_kept mesh side valid is) (side_edge mesh side valid is)
      | inr others ↦ elim others [
        | inl over ↦
            subst (SideFolds mesh) (sym over.is)
            (over_edge mesh _ _ (head_of mesh over.under) (tail_of mesh over.under)
            (ap F (over_side_tail mesh over.under over.in_mesh) ∙ fold_mirror mesh.count (head_of mesh over.under))
            (ap F (over_head mesh over.under over.in_mesh) ∙ fold_mirror mesh.count (tail_of mesh over.under))
            (edge_back mesh over.under valid over.in_mesh))
        | inr quad ↦ subst (SideFolds mesh) (sym quad.is) (quad_folds mesh quad.quad quad.at valid quad.in_list quad.in_quad)
      ]
    ]

folds_back : (mesh : FaceList) (u v : ℕ) → FoldsToEdge mesh u v → FoldsToEdge mesh v u
folds_back mesh u v h = grind (arith, edge_swap)

pub edge_folds : (mesh : FaceList) (u v : ℕ) → IsFaceList mesh → is_edge (double_of mesh) u v ≡ true → FoldsToEdge mesh u v
edge_folds mesh u v valid is =
    let found : HasSideBetween (double_of mesh) u v = side_between (double_of mesh) u v is in
    let folds : FoldsToEdge mesh (tail_of (double_of mesh) found.side) (head_of (double_of mesh) found.side) =
    side_folds mesh found.side valid found.in_mesh in
    elim found.ends [
      | inl e ↦ subst (λ a. FoldsToEdge mesh a v) e.0 (subst (λ b. FoldsToEdge mesh (tail_of (double_of mesh) found.side) b) e.1 folds)
      | inr e ↦
          folds_back mesh v u
          (subst (λ a. FoldsToEdge mesh a u) e.0 (subst (λ b. FoldsToEdge mesh (tail_of (double_of mesh) found.side) b) e.1 folds))
    ]
