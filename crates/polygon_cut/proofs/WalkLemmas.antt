-- Walks as ways: two walks with common ends are ways from one vertex to one vertex.
use Rattle.polygon_cut.proofs.Common.{◌≡◌, ℕ, suc, List, [], ◌∷◌, length, refl, sym, subst, arith, All, IsTrue, slice_index, Linked, links, FaceList, is_used, IsWalk, HaveCommonEnds, darts}
use Rattle.polygon_cut.proofs.WayLemmas.{IsWay}

-- a walk is a way to its last entry
way_from : (mesh : FaceList) (u : ℕ) (rest : List ℕ) → Linked mesh (u ∷ rest) → All (λ v. IsTrue (is_used mesh v)) (u ∷ rest)
    → IsWay mesh u (slice_index (u ∷ rest) (length rest)) rest
way_from mesh u [] h k = (refl, k 0 u (omega arith))
way_from mesh u (x ∷ rest) h k = (h.0, way_from mesh x rest h.1 (λ i d l. k (suc i) d (omega arith)))

pub walk_way : (mesh : FaceList) (u : ℕ) (rest : List ℕ) → IsWalk mesh (u ∷ rest) → IsWay mesh u (slice_index (u ∷ rest) (length rest)) rest
walk_way mesh u rest w = way_from mesh u rest (links mesh (u ∷ rest) w) w.used

-- so is another walk with the same ends
pub other_way : (mesh : FaceList) (u v : ℕ) (rest others : List ℕ) → IsWalk mesh (v ∷ others) → HaveCommonEnds (u ∷ rest) (v ∷ others)
    → IsWay mesh u (slice_index (u ∷ rest) (length rest)) others
other_way mesh u v rest others w ends =
    let last : length rest ≡ darts (u ∷ rest) = omega arith in
    let other_last : length others ≡ darts (v ∷ others) = omega arith in
    let same_end : slice_index (u ∷ rest) (length rest) ≡ slice_index (v ∷ others) (length others) = grind arith in
    subst (λ x. IsWay mesh x (slice_index (u ∷ rest) (length rest)) others) (sym ends.starts)
    (subst (λ x. IsWay mesh v x others) (sym same_end) (walk_way mesh v others w))
