-- The double of a mesh in one piece with a boundary is in one piece: each vertex is joined to one on the boundary, or to the mirror of it.
use Rattle.closed_doubles.proofs.Common.{used_corner, edge_swap, edge_differs, joined_refl, joined_step, joined_trans, joined_sym, kept_edge, fold_kept, double_valid, double_of, HasBoundary, ◌≡◌, ◌≢◌, ◌⊎◌, inl, inr, ℕ, zero, suc, ◌+◌, ◌<◌, ◌≤◌, true, List, [], ◌∷◌, length, get_or, ap, subst, arith, cases_lt, nat_tests, step_edge, tail_used, head_used, used_below, FaceList, IsFaceList, face_at, next_corner, is_edge, is_used, IsPath, AreJoined, sides_between}
use Rattle.connectivity.proofs.EdgeCounts.{no_edge_no_side}
use Rattle.connectivity.proofs.WalkLemmas.{walk_from_joined, joined_from_walk}
use Rattle.connectivity.specs.Partitions.{IsEdgeStep}
use Rattle.doubling.proofs.FoldedSides.{edge_folds}
use Rattle.doubling.specs.Folds.{fold}
use Rattle.surf_model.specs.Components.{EachTwoAreJoined}
use Rattle.closed_doubles.proofs.SideSums.{below}
use Rattle.closed_doubles.proofs.DoubleEdges.{rim_count, rim_part, double_high, double_across}
use Rattle.closed_doubles.proofs.RimParity.{rims_by_edges}
use Rattle.closed_doubles.proofs.SidePlaces.{some_side}

-- steps that are led to steps
pub joined_map : {X Y : Type 0} (step : X → X → Type 0) (other : Y → Y → Type 0) (f : X → Y) → ((x y : X) → step x y → other (f x) (f y))
    → (x : X) (path : List X) (y : X) → IsPath step x path y → AreJoined other (f x) (f y)
joined_map step other f leads x [] y p = joined_refl other (f x) (f y) (ap f p)
joined_map step other f leads x (z ∷ path) y p =
    joined_trans other (f x) (f z) (f y) (joined_step other (f x) (f z) (leads x z p.0)) (joined_map step other f leads z path y p.1)

edge_of_sides : (mesh : FaceList) (u v : ℕ) → 0 < sides_between mesh u v → is_edge mesh u v ≡ true
edge_of_sides mesh u v some = grind (arith, no_edge_no_side)

pub mirror_edge : (mesh : FaceList) (u v : ℕ) → IsFaceList mesh → is_edge mesh u v ≡ true
    → is_edge (double_of mesh) (u + mesh.count) (v + mesh.count) ≡ true
mirror_edge mesh u v valid is = grind (arith, edge_of_sides, double_high, some_side)

-- ---- vertices on the boundary

below_some : (f : ℕ → ℕ) (n : ℕ) → 0 < below f n → (k : ℕ) × (k < n) × (0 < f k)
below_some f zero some = absurd (omega arith)
below_some f (suc n) some =
    elim (cases_lt 0 (f n)) [
      | inl here ↦ (n, omega arith, here)
      | inr none ↦
          (let before = below_some f n (omega (arith, some, none)) in
          (before.0, omega (arith, before.1), before.2))
    ]

below_has : (f : ℕ → ℕ) (n k : ℕ) → k < n → f k ≤ below f n
below_has f zero k l = absurd (omega arith)
below_has f (suc n) k l =
    elim (cases_lt k n) [
      | inl less ↦ omega (arith, below_has f n k less)
      | inr more ↦
          (let last : f k ≡ f n = ap f (omega (arith, l, more)) in
          omega (arith, last))
    ]

some_part : (n : ℕ) → 0 < rim_part n → 0 < n
some_part n some = grind (arith, nat_tests)

rim_used : (mesh : FaceList) (a : ℕ) → IsFaceList mesh → 0 < rim_count mesh a → is_used mesh a ≡ true
rim_used mesh a valid some =
    let found = below_some (λ w. rim_part (sides_between mesh a w)) mesh.count (omega (arith, some, rims_by_edges mesh a valid)) in
    tail_used mesh a found.0 (edge_of_sides mesh a found.0 (some_part (sides_between mesh a found.0) found.2))

boundary_rims : (mesh : FaceList) (boundary : HasBoundary mesh) → IsFaceList mesh → 0 < rim_count mesh boundary.0
boundary_rims mesh (u, v, one) valid =
    let is : is_edge mesh u v ≡ true = edge_of_sides mesh u v (omega (arith, one)) in
    let here : rim_part (sides_between mesh u v) ≡ 1 = ap rim_part one in
    omega (
      arith,
      rims_by_edges mesh u valid,
      here,
      below_has (λ w. rim_part (sides_between mesh u w)) mesh.count v (used_below mesh v valid (head_used mesh u v is)),
    )

-- between a vertex on the boundary and its mirror
up : (mesh : FaceList) (a : ℕ) → IsFaceList mesh → a < mesh.count → sides_between (double_of mesh) a (a + mesh.count) ≡ rim_count mesh a
up mesh a valid l = grind (arith, double_across)

-- ---- what is used

both_folds : (count x y : ℕ) → fold count x ≡ fold count y → x ≢ y
    → ((x ≡ fold count x) × (y ≡ fold count x + count) × (fold count x < count))
    ⊎ ((y ≡ fold count x) × (x ≡ fold count x + count) × (fold count x < count))
both_folds count x y same apart = grind (arith, nat_tests)

fold_of_edge : (mesh : FaceList) (x y : ℕ) → IsFaceList mesh → is_edge (double_of mesh) x y ≡ true → is_used mesh (fold mesh.count x) ≡ true
fold_of_edge mesh x y valid is =
    elim (edge_folds mesh x y valid is) [
      | inr edge ↦ tail_used mesh (fold mesh.count x) (fold mesh.count y) edge
      | inl same ↦
          (let a : ℕ = fold mesh.count x in
          elim (both_folds mesh.count x y same (edge_differs (double_of mesh) x y (double_valid mesh valid) is)) [
            | inl e ↦
                (let edge : is_edge (double_of mesh) a (a + mesh.count) ≡ true = grind arith in
                rim_used mesh a valid (omega (arith, up mesh a valid e.2, some_side (double_of mesh) a (a + mesh.count) edge)))
            | inr e ↦
                (let back : is_edge (double_of mesh) y x ≡ true = edge_swap (double_of mesh) x y is in
                let edge : is_edge (double_of mesh) a (a + mesh.count) ≡ true =
                subst (λ z. is_edge (double_of mesh) a z ≡ true) e.1 (subst (λ z. is_edge (double_of mesh) z x ≡ true) e.0 back) in
                rim_used mesh a valid (omega (arith, up mesh a valid e.2, some_side (double_of mesh) a (a + mesh.count) edge)))
          ])
    ]

pub fold_used : (mesh : FaceList) (x : ℕ) → IsFaceList mesh → is_used (double_of mesh) x ≡ true → is_used mesh (fold mesh.count x) ≡ true
fold_used mesh x valid is =
    let found = used_corner (double_of mesh) x is in
    let ring : List ℕ = face_at (double_of mesh) found.0.face.0 in
    let edge : is_edge (double_of mesh) (get_or ring found.0.at 0) (get_or ring (next_corner true (length ring) found.0.at) 0) ≡ true =
    step_edge (double_of mesh) found.0.face.0 true found.0.at found.1.side.face found.1.side.place in
    fold_of_edge mesh x (get_or ring (next_corner true (length ring) found.0.at) 0) valid
    (subst (λ z. is_edge (double_of mesh) z (get_or ring (next_corner true (length ring) found.0.at) 0) ≡ true) found.1.vertex edge)

-- ---- one piece

to_boundary : (mesh : FaceList) (b x : ℕ) → IsFaceList mesh → EachTwoAreJoined mesh → 0 < rim_count mesh b
    → is_used (double_of mesh) x ≡ true → AreJoined (IsEdgeStep (double_of mesh)) x b
to_boundary mesh b x valid joined some used =
    let n : ℕ = mesh.count in
    let b_used : is_used mesh b ≡ true = rim_used mesh b valid some in
    let under : is_used mesh (fold n x) ≡ true = fold_used mesh x valid used in
    let here : AreJoined (IsEdgeStep mesh) (fold n x) b = joined_from_walk mesh (fold n x) b (joined (fold n x) b under b_used) in
    elim (cases_lt x n) [
      | inl low ↦
          subst (λ z. AreJoined (IsEdgeStep (double_of mesh)) z b) (fold_kept n x low)
          (joined_map (IsEdgeStep mesh) (IsEdgeStep (double_of mesh)) (λ z. z) (λ u v is. kept_edge mesh u v is) (fold n x) here.0 b here.1)
      | inr high ↦
          (let over : fold n x + n ≡ x = grind (arith, nat_tests) in
          let lb : b < n = used_below mesh b valid b_used in
          let mirrored : AreJoined (IsEdgeStep (double_of mesh)) (fold n x + n) (b + n) =
          joined_map (IsEdgeStep mesh) (IsEdgeStep (double_of mesh)) (λ z. z + n) (λ u v is. mirror_edge mesh u v valid is) (fold n x)
          here.0 b here.1 in
          let edge : is_edge (double_of mesh) b (b + n) ≡ true =
          edge_of_sides (double_of mesh) b (b + n) (omega (arith, up mesh b valid lb, some)) in
          joined_trans (IsEdgeStep (double_of mesh)) x (b + n) b
          (subst (λ z. AreJoined (IsEdgeStep (double_of mesh)) z (b + n)) over mirrored)
          (joined_step (IsEdgeStep (double_of mesh)) (b + n) b (edge_swap (double_of mesh) b (b + n) edge)))
    ]

pub double_joined : (mesh : FaceList) → IsFaceList mesh → HasBoundary mesh → EachTwoAreJoined mesh → EachTwoAreJoined (double_of mesh)
double_joined mesh valid boundary joined u v used_u used_v =
    let b : ℕ = boundary.0 in
    let some : 0 < rim_count mesh b = boundary_rims mesh boundary valid in
    walk_from_joined (double_of mesh) u v used_u
    (joined_trans (IsEdgeStep (double_of mesh)) u b v (to_boundary mesh b u valid joined some used_u)
    (joined_sym (IsEdgeStep (double_of mesh)) (edge_swap (double_of mesh)) v b (to_boundary mesh b v valid joined some used_v)))
