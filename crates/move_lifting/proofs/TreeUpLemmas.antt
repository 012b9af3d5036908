-- Ways up the tree: how they go on, and how long they are at most.
use Rattle.move_lifting.proofs.Common.{rotation_system, names_all, darts_of, origin_of, twin_of, OrientedMesh, IsOrientedSurface, rotations_of, root_is, up, up_path, one_path, AreWaysUp, ◌≡◌, ℕ, ◌<◌, ◌≤◌, true, List, [], ◌∷◌, ◌++◌, length, refl, ap, sym, ◌∙◌, subst, arith, append_assoc, length-append, Some, None, is_used, IsPath, numbers, VertexName, root_below, parents_upward, SplitView, IsSplit, StepsToParent, parent_dart}
use Rattle.tree_cotree.proofs.UpwardLemmas.{few_steps}
use Rattle.move_lifting.proofs.ExpandLemmas.{length-numbers}

-- a way up as names: it is not empty, and ends at the root
pub way_some : (s : OrientedMesh) (split : SplitView) → (t : IsSplit s split) → (v : ℕ) (names : List VertexName)
    → ((root : ℕ) (ways : ℕ → List ℕ) → AreWaysUp s split root ways → numbers names ≡ v ∷ ways v) → 0 < length names
way_some s split t v names is =
    let whole : numbers names ≡ v ∷ up s split t v = is t.parents.root (up s split t) (λ x used. up_path s split t x used) in
    omega (arith, ap (λ (l : List ℕ). length l) whole, length-numbers names)

-- where a dart starts is a used vertex
pub origin_used : (s : OrientedMesh) → IsOrientedSurface s → (d v : ℕ) → d < darts_of s → v ≡ origin_of s d → is_used s.mesh v ≡ true
origin_used s o d v l is = subst (λ (x : ℕ). is_used s.mesh x ≡ true) (sym is) ((names_all s o).vertex_used d l)

module _ {s : OrientedMesh} {split : SplitView} (o : IsOrientedSurface s) (t : IsSplit s split) where
  -- the dart to the parent leads to a vertex that is used, from which the way up goes on
  pub used_parent : (v d : ℕ) → parent_dart split v ≡ Some d → is_used s.mesh (origin_of s (twin_of s d)) ≡ true
  used_parent v d is = (names_all s o).vertex_used (twin_of s d) ((rotation_system s o).twin_within d (t.parents.within v d is))

  pub used_below : (v : ℕ) → is_used s.mesh v ≡ true → v < length split.parents
  used_below v used =
      let dart = (names_all s o).each_vertex v used in
      let below : v < s.mesh.count = subst (λ (x : ℕ). x < s.mesh.count) dart.2 ((names_all s o).vertex_below dart.0 dart.1) in
      omega (arith, below, t.parents.each_vertex)

  pub own_ways : (root : ℕ) (ways : ℕ → List ℕ) → AreWaysUp s split root ways → AreWaysUp s split t.parents.root ways
  own_ways root ways h = subst (λ (x : ℕ). AreWaysUp s split x ways) (sym (root_is s split o t root ways h)) h

  pub goes_up : (root : ℕ) (ways : ℕ → List ℕ) → AreWaysUp s split root ways
      → (v d : ℕ) → is_used s.mesh v ≡ true → parent_dart split v ≡ Some d
      → ways v ≡ origin_of s (twin_of s d) ∷ ways (origin_of s (twin_of s d))
  goes_up root ways h v d used is =
      let w : ℕ = origin_of s (twin_of s d) in
      let own : AreWaysUp s split t.parents.root ways = own_ways root ways h in
      one_path s split o t v (ways v) (w ∷ ways w) (own v used)
      ((d, record { is_parent = is; ends = refl }), own w (used_parent v d is))

  -- without a parent there is no way further
  pub ends_up : (root : ℕ) (ways : ℕ → List ℕ) → AreWaysUp s split root ways
      → (v : ℕ) → is_used s.mesh v ≡ true → parent_dart split v ≡ None → ways v ≡ []
  ends_up root ways h v used none = by (ways v) (h v used)
    where
      by : (path : List ℕ) → IsPath (StepsToParent (rotations_of s) split) v path root → path ≡ []
      by [] p = refl
      by (w ∷ path) p = (let both : None ≡ Some p.0.0 = sym none ∙ p.0.1.is_parent in cc)

  -- one step up
  pub one_up_more : (root : ℕ) (ways : ℕ → List ℕ) → AreWaysUp s split root ways
      → (v d : ℕ) (whole laid more : List ℕ) → is_used s.mesh v ≡ true → parent_dart split v ≡ Some d → more ≡ laid ++ v ∷ []
      → whole ≡ laid ++ (v ∷ ways v) → whole ≡ more ++ (origin_of s (twin_of s d) ∷ ways (origin_of s (twin_of s d)))
  one_up_more root ways h v d whole laid more used is pushed so_far =
      let w : ℕ = origin_of s (twin_of s d) in
      so_far ∙ ap (λ (l : List ℕ). laid ++ (v ∷ l)) (goes_up root ways h v d used is)
      ∙ sym (append_assoc laid (v ∷ []) (w ∷ ways w))
      ∙ ap (λ (l : List ℕ). l ++ (w ∷ ways w)) (sym pushed)

  -- a way up passes no vertex twice, so it is short
  way_short : (v : ℕ) → is_used s.mesh v ≡ true → length (v ∷ up s split t v) ≤ s.mesh.count
  way_short v used =
      let few : length (up s split t v) < s.mesh.count =
      few_steps (StepsToParent (rotations_of s) split) t.parents.root s.mesh.count (parents_upward s split o t) (root_below s split o t)
      (λ x y step. subst (λ z. z < s.mesh.count) (t.parents.starts x step.0 step.1.is_parent)
      ((names_all s o).vertex_below step.0 (t.parents.within x step.0 step.1.is_parent)))
      v (up s split t v) (up_path s split t v used) in
      omega arith

  -- the same of any ways up
  pub way_ends : (v last n : ℕ) (laid : List ℕ) → is_used s.mesh v ≡ true
      → length laid ≡ n → s.mesh.count ≤ n → ((root : ℕ) (ways : ℕ → List ℕ) → AreWaysUp s split root ways
      → v ∷ ways v ≡ laid ++ (last ∷ ways last)) → ⊥
  way_ends v last n laid used long all so_far =
      let whole : v ∷ up s split t v ≡ laid ++ (last ∷ up s split t last) =
      so_far t.parents.root (up s split t) (λ x x_used. up_path s split t x x_used) in
      omega (
        arith,
        way_short v used,
        ap (λ (l : List ℕ). length l) whole,
        length-append laid (last ∷ up s split t last),
      )
