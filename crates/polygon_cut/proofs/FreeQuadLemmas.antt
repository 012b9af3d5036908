-- The quads of a polygon's sides, up to spurs alone: each side has the value of its spoke and the one after it, counted on without going
-- round, so that all quads hold but the one of the last side, which costs the loop of the last side.
use Rattle.polygon_cut.proofs.Common.{edge-twin, rotation_system, darts_of, twin_of, edge_of, OrientedMesh, IsOrientedSurface, rotations_of, PolygonView, IsCutFrom, side_at, across, ◌≡◌, ℕ, suc, ◌-◌, ◌<◌, true, false, not, [], ◌∷◌, refl, sym, subst, arith, after_dart, SplitView, IsSplit, in_cotree, is_left}
use Rattle.polygon_cut.proofs.GroupWordLemmas.{Var, One, Mul, Inv, by_relation}
use Rattle.polygon_cut.proofs.RelatorLemmas.{spoke_product, relator, CostlyPushes, costly_pushes}
use Rattle.polygon_cut.proofs.WayLemmas.{loop_mul, loop_inv}
use Rattle.polygon_cut.proofs.FreeLoopLemmas.{SameFreely, free_equality}
use Rattle.polygon_cut.proofs.PolygonLemmas.{is_own_side}
use Rattle.polygon_cut.proofs.DartLoopLemmas.{Loops, one_of, value, spoke, value_of_twin}
use Rattle.polygon_cut.proofs.FreeSpokeLemmas.{free_group}

-- the side across is that of the twin
pub side_across : {s : OrientedMesh} {split : SplitView} {polygon : PolygonView} → IsOrientedSurface s → IsCutFrom s split polygon → (a : ℕ)
    → a < polygon.degree
    → side_at polygon (across (rotations_of s) polygon a) ≡ twin_of s (side_at polygon a)
side_across {s} {split} {polygon} o c a l =
    let some : 0 < polygon.degree = omega arith in
    let is_side = (c.labels some).side_is_left a l in
    let twin_in : twin_of s (side_at polygon a) < darts_of s = (rotation_system s o).twin_within (side_at polygon a) is_side.0 in
    let twin_left : is_left split (edge_of s (twin_of s (side_at polygon a))) ≡ true = grind (arith, edge-twin, side_at) in
    is_own_side (rotations_of s) (after_dart (rotations_of s) (λ e. not (in_cotree split e))) (is_left split) polygon (c.labels some)
    (twin_of s (side_at polygon a)) twin_in twin_left

-- it has the inverse value
pub value_across : {s : OrientedMesh} {split : SplitView} (o : IsOrientedSurface s) (t : IsSplit s split) {polygon : PolygonView}
    → IsCutFrom s split polygon → (a : ℕ) → a < polygon.degree
    → SameFreely (value s split o t (side_at polygon (across (rotations_of s) polygon a)))
    (loop_inv (value s split o t (side_at polygon a)))
value_across {s} {split} o t {polygon} c a l =
    subst (λ d. SameFreely (value s split o t d) (loop_inv (value s split o t (side_at polygon a)))) (sym (side_across o c a l))
    (value_of_twin (free_equality s.mesh) split o t (side_at polygon a) ((c.labels (omega arith)).side_is_left a l).0)

-- the spokes of a side and of the one across, in turn round the middle and round the vertex
pub record FreeQuads {X : Type 0} (Same : X → X → Type 0) (mul : X → X → X) (inv : X → X) (one : X) (spoke : ℕ
    → X) (degree : ℕ) (partner : ℕ → ℕ) : Type 0 where
  pub round_middle : (a : ℕ) → a < degree
      → Same (spoke_product mul inv one spoke true (a ∷ suc a ∷ []))
      (spoke_product mul inv one spoke true (suc (partner a) ∷ partner a ∷ []))
  pub round_vertex : (a : ℕ) → a < degree
      → Same (spoke_product mul inv one spoke false (suc (partner a) ∷ a ∷ []))
      (spoke_product mul inv one spoke false (partner a ∷ suc a ∷ []))

pub free_quads : (s : OrientedMesh) (split : SplitView) (o : IsOrientedSurface s) (t : IsSplit s split) (polygon : PolygonView)
    → IsCutFrom s split polygon
    → FreeQuads {X = Loops s split t} SameFreely loop_mul loop_inv (one_of s split t) (spoke s split o t polygon) polygon.degree
    (across (rotations_of s) polygon)
unfolding spoke
free_quads s split o t polygon c = record {
  round_middle = λ a l.
      by_relation SameFreely loop_mul loop_inv (one_of s split t) (free_group s split t) (v (k a)) (v a ∷ S (k a) ∷ S a ∷ []) (Inv (Var 1))
      (Mul (Var 3) (Mul (Inv (Mul (Inv (Var 1)) (Var 3))) One)) (Mul (Mul (Inv (Var 0)) (Var 2)) (Mul (Inv (Var 2)) One))
      (value_across o t c a l) refl;
  round_vertex = λ a l.
      by_relation SameFreely loop_mul loop_inv (one_of s split t) (free_group s split t) (v (k a)) (v a ∷ S (k a) ∷ S a ∷ []) (Inv (Var 1))
      (Mul (Inv (Mul (Inv (Var 0)) (Var 2))) (Mul (Var 3) One)) (Mul (Inv (Var 2)) (Mul (Mul (Inv (Var 1)) (Var 3)) One))
      (value_across o t c a l) refl;
}
  where
    S : ℕ → Loops s split t
    S = spoke s split o t polygon

    v : ℕ → Loops s split t
    v a = value s split o t (side_at polygon a)

    k : ℕ → ℕ
    k a = across (rotations_of s) polygon a

-- the loop of the last side: along it, and back by its two spokes
abbrev pub last_loop : (s : OrientedMesh) (split : SplitView) → IsOrientedSurface s → (t : IsSplit s split) → PolygonView → Loops s split t
last_loop s split o t polygon =
    relator loop_mul loop_inv (value s split o t (side_at polygon (polygon.degree - 1))) (spoke s split o t polygon 0)
    (spoke s split o t polygon (polygon.degree - 1))

-- the spoke at the head of the side across from a side is that side and the spoke at its tail
pub spoke_across : {s : OrientedMesh} {split : SplitView} (o : IsOrientedSurface s) (t : IsSplit s split) {polygon : PolygonView}
    → IsCutFrom s split polygon → (a : ℕ) → a < polygon.degree
    → SameFreely (spoke s split o t polygon (suc (across (rotations_of s) polygon a)))
    (loop_mul (value s split o t (side_at polygon a)) (spoke s split o t polygon (across (rotations_of s) polygon a)))
unfolding spoke
spoke_across {s} {split} o t {polygon} c a l =
    let k : ℕ = across (rotations_of s) polygon a in
    by_relation SameFreely loop_mul loop_inv (one_of s split t) (free_group s split t) (value s split o t (side_at polygon k))
    (value s split o t (side_at polygon a) ∷ spoke s split o t polygon k ∷ [])
    (Inv (Var 1)) (Mul (Inv (Var 0)) (Var 2)) (Mul (Var 1) (Var 2)) (value_across o t c a l) refl

-- the pushes across the quad of the last side
pub last_pushes : (s : OrientedMesh) (split : SplitView) (o : IsOrientedSurface s) (t : IsSplit s split) (polygon : PolygonView)
    → IsCutFrom s split polygon → 0 < polygon.degree
    → CostlyPushes {X = Loops s split t} SameFreely loop_mul loop_inv (one_of s split t) (spoke s split o t polygon)
    (last_loop s split o t polygon)
    (polygon.degree - 1) (across (rotations_of s) polygon (polygon.degree - 1))
last_pushes s split o t polygon c some =
    let z : ℕ = polygon.degree - 1 in
    let z_in : z < polygon.degree = omega arith in
    costly_pushes SameFreely loop_mul loop_inv (one_of s split t) (free_group s split t) (spoke s split o t polygon)
    (value s split o t (side_at polygon z)) z (across (rotations_of s) polygon z) (spoke_across o t c z z_in)
