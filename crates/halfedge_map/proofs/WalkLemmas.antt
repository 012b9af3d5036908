-- Walks as darts, one after another.
use Rattle.halfedge_map.proofs.Common.{OrientedMesh, IsOrientedSurface, rotations_of, IsDartStep, ◌≡◌, ℕ, suc, ◌+◌, ◌-◌, ◌<◌, true, List, [], ◌∷◌, length, get_or, refl, ap, sym, ◌∙◌, subst, arith, is_edge, is_used, IsPath, AreJoined, IsWalkBetween}
use Rattle.halfedge_map.proofs.EdgeLemmas.{dart_between}

-- vertices of which neighbours form edges are a path of darts
along_edges : (s : OrientedMesh) → IsOrientedSurface s → (x : ℕ) (xs : List ℕ)
    → ((k : ℕ) → k < length xs → is_edge s.mesh (get_or (x ∷ xs) k 0) (get_or (x ∷ xs) (k + 1) 0) ≡ true)
    → IsPath (IsDartStep (rotations_of s)) x xs (get_or (x ∷ xs) (length xs) 0)
along_edges s h x [] edges = refl
along_edges s h x (y ∷ ys) edges = (
  dart_between s h x y (edges 0 (omega arith)),
  along_edges s h y ys
      (λ k l. subst (λ j. is_edge s.mesh (get_or (y ∷ ys) k 0) (get_or (x ∷ y ∷ ys) j 0) ≡ true)
      (let e : suc k + 1 ≡ suc (k + 1) = omega arith in e)
      (edges (suc k) (omega arith))),
)

walk_joins : (s : OrientedMesh) → IsOrientedSurface s → (u v : ℕ) (walk : List ℕ) → IsWalkBetween s.mesh u v walk
    → AreJoined (IsDartStep (rotations_of s)) u v
walk_joins s h u v [] w = absurd (omega (arith, w.walk_of.starts))
walk_joins s h u v (x ∷ xs) w =
    let long : length (x ∷ xs) - 1 ≡ length xs = omega arith in
    let end : get_or (x ∷ xs) (length xs) 0 ≡ v = ap (λ k. get_or (x ∷ xs) k 0) (sym long) ∙ w.ends in
    let path : IsPath (IsDartStep (rotations_of s)) x xs (get_or (x ∷ xs) (length xs) 0) = grind (arith, along_edges) in
    (xs, subst (λ b. IsPath (IsDartStep (rotations_of s)) b xs v) w.starts (subst (IsPath (IsDartStep (rotations_of s)) x xs) end path))

pub vertices_joined : (s : OrientedMesh) → IsOrientedSurface s → (u v : ℕ) → is_used s.mesh u ≡ true → is_used s.mesh v ≡ true
    → AreJoined (IsDartStep (rotations_of s)) u v
vertices_joined s h u v used also = let found = h.closed.connected u v used also in walk_joins s h u v found.0 found.1
