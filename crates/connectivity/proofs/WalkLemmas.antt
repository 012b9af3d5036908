-- Walks along edges, and vertices that are joined by them.
use Rattle.connectivity.proofs.Common.{IsLeastUsed, AreLeastApart, IsEdgeStep, AreComponents, IsLeastElsewhere, ◌≡◌, ℕ, zero, suc, ◌+◌, ◌<◌, true, List, [], ◌∷◌, length, get_or, refl, ap, sym, ◌∙◌, subst, arith, add-one, All, FaceList, IsFaceList, is_edge, is_used, IsPath, AreJoined, IsWalkBetween, AreJoinedByWalk}
use Rattle.surf_model.specs.Components.{EachTwoAreJoined}
use Rattle.surf_model.specs.Walks.{IsWalk, darts}
use Rattle.connectivity.proofs.EdgeLemmas.{edge_swap, edge_used, used_below}
use Rattle.connectivity.proofs.Joining.{joined_refl, joined_step, joined_trans, joined_sym, joined_keep}

-- the walk that goes along an edge first
walk_more : {mesh : FaceList} (u v : ℕ) (walk : List ℕ) → is_used mesh u ≡ true → is_edge mesh u v ≡ true → IsWalk mesh (v ∷ walk)
    → IsWalk mesh (u ∷ v ∷ walk)
walk_more {mesh} u v walk used edge h = record {
  starts = omega arith;
  used = used_all;
  edges = edges_all;
}
  where
    used_all : All (λ w. is_used mesh w ≡ true) (u ∷ v ∷ walk)
    used_all zero d l = used
    used_all (suc k) d l = h.used k d (omega arith)

    edges_all : (k : ℕ) → k < darts (u ∷ v ∷ walk) → is_edge mesh (get_or (u ∷ v ∷ walk) k 0) (get_or (u ∷ v ∷ walk) (k + 1) 0) ≡ true
    edges_all zero l = edge
    edges_all (suc k) l =
        let next : suc k + 1 ≡ suc (k + 1) = omega arith in
        subst (λ j. is_edge mesh (get_or (v ∷ walk) k 0) (get_or (u ∷ v ∷ walk) j 0) ≡ true) (sym next) (h.edges k (omega arith))

walk_along : (mesh : FaceList) (u v : ℕ) (path : List ℕ) → is_used mesh u ≡ true → IsPath (IsEdgeStep mesh) u path v
    → IsWalk mesh (u ∷ path)
walk_along mesh u v [] used p = record {
  starts = omega arith;
  used = one;
  edges = λ k l. absurd (omega arith);
}
  where
    one : All (λ w. is_used mesh w ≡ true) (u ∷ [])
    one zero d l = used
    one (suc k) d l = absurd (omega arith)
walk_along mesh u v (w ∷ path) used p = walk_more u w path used p.0 (walk_along mesh w v path (edge_used mesh u w p.0) p.1)

path_end : (mesh : FaceList) (u v : ℕ) (path : List ℕ) → IsPath (IsEdgeStep mesh) u path v → get_or (u ∷ path) (length path) 0 ≡ v
path_end mesh u v [] p = p
path_end mesh u v (w ∷ path) p = path_end mesh w v path p.1

pub walk_from_joined : (mesh : FaceList) (u v : ℕ) → is_used mesh u ≡ true → AreJoined (IsEdgeStep mesh) u v → AreJoinedByWalk mesh u v
walk_from_joined mesh u v used joined =
    let path : List ℕ = joined.0 in
    let size : darts (u ∷ path) ≡ length path = omega arith in (
      u ∷ path,
      record {
        walk_of = walk_along mesh u v path used joined.1;
        starts = refl;
        ends = ap (λ k. get_or (u ∷ path) k 0) size ∙ path_end mesh u v path joined.1;
      },
    )

joined_along : {mesh : FaceList} {walk : List ℕ} (k : ℕ) → IsWalk mesh walk → k < length walk
    → AreJoined (IsEdgeStep mesh) (get_or walk 0 0) (get_or walk k 0)
joined_along {mesh} zero w l = joined_refl (IsEdgeStep mesh) _ _ refl
joined_along {mesh} {walk} (suc k) w l =
    let step : IsEdgeStep mesh (get_or walk k 0) (get_or walk (k + 1) 0) = w.edges k (omega arith) in
    joined_trans (IsEdgeStep mesh) (get_or walk 0 0) (get_or walk k 0) (get_or walk (suc k) 0) (joined_along k w (omega arith))
    (joined_step (IsEdgeStep mesh) (get_or walk k 0) (get_or walk (suc k) 0)
    (subst (λ j. IsEdgeStep mesh (get_or walk k 0) (get_or walk j 0)) (add-one k) step))

pub joined_from_walk : (mesh : FaceList) (u v : ℕ) → AreJoinedByWalk mesh u v → AreJoined (IsEdgeStep mesh) u v
joined_from_walk mesh u v walk =
    let is : IsWalkBetween mesh u v walk.0 = walk.1 in
    subst (λ x. AreJoined (IsEdgeStep mesh) x v) is.starts (subst (AreJoined (IsEdgeStep mesh) (get_or walk.0 0 0)) is.ends
    (joined_along (darts walk.0) is.walk_of (omega (arith, is.walk_of.starts))))

-- two walks from one vertex make a walk between their ends
pub walk_between_ends : (mesh : FaceList) (u v w : ℕ) → is_used mesh v ≡ true → AreJoinedByWalk mesh u v → AreJoinedByWalk mesh u w
    → AreJoinedByWalk mesh v w
walk_between_ends mesh u v w used to_v to_w =
    walk_from_joined mesh v w used
    (joined_trans (IsEdgeStep mesh) v u w (joined_sym (IsEdgeStep mesh) (edge_swap mesh) u v (joined_from_walk mesh u v to_v))
    (joined_from_walk mesh u w to_w))

-- a walk leads only between vertices with one entry
pub same_from_walk : (mesh : FaceList) (least : List ℕ) (u v : ℕ) → AreComponents mesh least → AreJoinedByWalk mesh u v
    → get_or least u 0 ≡ get_or least v 0
same_from_walk mesh least u v h walk =
    let joined : AreJoined (IsEdgeStep mesh) u v = joined_from_walk mesh u v walk in
    joined_keep (IsEdgeStep mesh) (λ x. get_or least x 0) h.steps u joined.0 v joined.1

pub walk_from_same : (mesh : FaceList) (least : List ℕ) (u v : ℕ) → IsFaceList mesh → AreComponents mesh least
    → is_used mesh u ≡ true → is_used mesh v ≡ true → get_or least u 0 ≡ get_or least v 0 → AreJoinedByWalk mesh u v
walk_from_same mesh least u v valid parts used_u used_v same =
    walk_from_joined mesh u v used_u (parts.joined u v (used_below mesh u valid used_u) (used_below mesh v valid used_v) same)

pub least_apart : {mesh : FaceList} {least : List ℕ} {u v : ℕ} → IsFaceList mesh → AreComponents mesh least
    → IsLeastUsed mesh u → IsLeastElsewhere mesh least u v → AreLeastApart mesh u v
least_apart {mesh} {least} {u} {v} valid parts first other = record {
  vertex = first;
  used = other.used;
  apart = λ walk. other.elsewhere (sym (same_from_walk mesh least u v parts walk));
  least = λ w less used. walk_from_same mesh least u w valid parts first.used used (sym (other.first w less used));
}

pub all_joined : {mesh : FaceList} (least : List ℕ) (u : ℕ) → IsFaceList mesh → AreComponents mesh least
    → ((v : ℕ) → v < mesh.count → is_used mesh v ≡ true → get_or least v 0 ≡ get_or least u 0) → EachTwoAreJoined mesh
all_joined {mesh} least u valid parts same v w used_v used_w =
    walk_from_same mesh least v w valid parts used_v used_w (same v (used_below mesh v valid used_v) used_v
    ∙ sym (same w (used_below mesh w valid used_w) used_w))
