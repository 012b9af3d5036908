-- The loops of a surface's darts, up to any congruence of walks: down the tree to the dart, along it, and up again. Twins have inverse
-- loops, tree darts have none, and a leftover dart but the last side has the loops of two spokes.
use Rattle.polygon_cut.proofs.Common.{edge_of_dart, step_first, rotation_system, names_all, darts_of, next_of, twin_of, origin_of, edge_of, after_steps, OrientedMesh, IsOrientedSurface, rotations_of, IsRotationSystem, IsDartFrom, PolygonView, IsCutFrom, side_at, label_of, one_up, ◌≡◌, ◌≢◌, ◌⊎◌, inl, inr, ℕ, zero, suc, ◌+◌, ◌-◌, ◌<◌, ◌≤◌, List, true, not, [], ◌∷◌, ◌++◌, refl, ap, sym, ◌∙◌, subst, arith, cases_lt, nat_tests, IsTrue, is_edge, after_dart, SplitView, IsSplit, in_tree, in_cotree, is_left}
use Rattle.polygon_cut.proofs.GroupLemmas.{IsGroup, quotient, one_step}
use Rattle.polygon_cut.proofs.WayLemmas.{IsWay, back, way_home, Loop, loop_mul, loop_inv, loop_one, HasWays, loop_of}
use Rattle.polygon_cut.proofs.CongruenceLemmas.{IsWalkCongruence, SameLoops, loops_are_a_group, no_dart, first_dart, dart_back, dart_up}
use Rattle.polygon_cut.proofs.PolygonLemmas.{is_own_side}
use Rattle.polygon_cut.proofs.LawLemmas.{labels_ride}
use Rattle.polygon_cut.proofs.TreeWayLemmas.{up, tree_ways, tree_dart}
use Rattle.polygon_cut.proofs.FaceRoundLemmas.{vertices_on}
use Rattle.polygon_cut.proofs.ValueLemmas.{round, by_labels}

-- the loops of a surface, at the tree's root
abbrev pub Loops : (s : OrientedMesh) (split : SplitView) → IsSplit s split → Type 0
Loops s split t = Loop s.mesh t.parents.root

abbrev pub one_of : (s : OrientedMesh) (split : SplitView) (t : IsSplit s split) → Loops s split t
one_of s split t = loop_one s.mesh t.parents.root t.parents.root_used

-- a dart as a way
pub dart_way : {s : OrientedMesh} → IsOrientedSurface s → (d : ℕ) → d < darts_of s
    → IsWay s.mesh (origin_of s d) (origin_of s (twin_of s d)) (origin_of s (twin_of s d) ∷ [])
dart_way {s} o d l = (
  edge_of_dart s o (origin_of s d) (origin_of s (twin_of s d)) d (record { within = l; starts = refl; ends = refl }),
  (refl, (names_all s o).vertex_used (twin_of s d) ((rotation_system s o).twin_within d l)),
)

-- k darts round a face, as a way
pub ends_on : {s : OrientedMesh} → IsOrientedSurface s → (k d : ℕ) → d < darts_of s
    → IsWay s.mesh (origin_of s d) (origin_of s (after_steps (next_of s) k d)) (vertices_on s k d)
ends_on {s} o zero d l = (refl, (names_all s o).vertex_used d l)
ends_on {s} o (suc k) d l =
    let r : IsRotationSystem (rotations_of s) = rotation_system s o in
    let on : ℕ = next_of s d in
    let rest : IsWay s.mesh (origin_of s on) (origin_of s (after_steps (next_of s) k on)) (vertices_on s k on) =
    ends_on o k on (r.next_within d l) in
    let edge : IsTrue (is_edge s.mesh (origin_of s d) (origin_of s on)) =
    edge_of_dart s o (origin_of s d) (origin_of s on) d (record { within = l; starts = refl; ends = sym (r.follows d l) }) in
    (edge, subst (λ x. IsWay s.mesh (origin_of s on) (origin_of s x) (vertices_on s k on)) (step_first (next_of s) k d) rest)

-- the value of a dart: its loop
unfoldable pub pick_value : (s : OrientedMesh) (split : SplitView) → IsOrientedSurface s → (t : IsSplit s split) → (d : ℕ)
    → (d < darts_of s) ⊎ (darts_of s ≤ d) → Loops s split t
pick_value s split o t d (inl l) =
    loop_of s.mesh t.parents.root (up s split t) (tree_ways s split o t) (origin_of s d) (origin_of s (twin_of s d))
    (origin_of s (twin_of s d) ∷ []) (dart_way o d l)
pick_value s split o t d (inr _) = one_of s split t

abbrev pub value : (s : OrientedMesh) (split : SplitView) → IsOrientedSurface s → (t : IsSplit s split) → ℕ → Loops s split t
value s split o t d = pick_value s split o t d (cases_lt d (darts_of s))

-- the spokes: from one to the next along the sides of the polygon

unfoldable pub spoke : (s : OrientedMesh) (split : SplitView) → IsOrientedSurface s → (t : IsSplit s split) → PolygonView → ℕ
    → Loops s split t
spoke s split o t polygon zero = one_of s split t
spoke s split o t polygon (suc i) = loop_mul (loop_inv (value s split o t (side_at polygon i))) (spoke s split o t polygon i)

pub up_plain : (degree i : ℕ) → i + 1 ≢ degree → one_up degree i ≡ i + 1
up_plain degree i ne = grind (arith, nat_tests)

module _ {s : OrientedMesh} {Same : List ℕ → List ℕ → Type 0} (congruence : IsWalkCongruence s.mesh Same) (split : SplitView)
    (o : IsOrientedSurface s) (t : IsSplit s split) where
  abbrev pub dart_group : IsGroup {X = Loops s split t} (SameLoops Same) loop_mul loop_inv (one_of s split t)
  dart_group = loops_are_a_group congruence t.parents.root t.parents.root_used

  -- the value of a dart from u to w
  pub value_along : (u w d : ℕ) → IsDartFrom (rotations_of s) u w d → (way : IsWay s.mesh u w (w ∷ []))
      → SameLoops Same (value s split o t d) (loop_of s.mesh t.parents.root (up s split t) (tree_ways s split o t) u w (w ∷ []) way)
  unfolding pick_value
  value_along u w d is way = go (cases_lt d (darts_of s))
    where
      go : (c : (d < darts_of s) ⊎ (darts_of s ≤ d))
          → Same (t.parents.root ∷ (pick_value s split o t d c).rest) (t.parents.root ∷ (back u (up s split t u) ++ (w ∷ up s split t w)))
      go (inl k) =
          subst (λ x. Same (t.parents.root ∷ (pick_value s split o t d (inl k)).rest)
          (t.parents.root ∷ (back x (up s split t x) ++ (w ∷ up s split t w)))) is.starts
          (subst (λ x. Same (t.parents.root ∷ (pick_value s split o t d (inl k)).rest)
          (t.parents.root ∷ (back (origin_of s d) (up s split t (origin_of s d)) ++ (x ∷ up s split t x)))) is.ends (congruence.itself _))
      go (inr k) = absurd (omega (arith, is.within))

  -- twins have inverse values
  pub value_of_twin : (d : ℕ) → d < darts_of s → SameLoops Same (value s split o t (twin_of s d)) (loop_inv (value s split o t d))
  value_of_twin d l =
      let r : IsRotationSystem (rotations_of s) = rotation_system s o in
      let ways : HasWays s.mesh t.parents.root (up s split t) = tree_ways s split o t in
      let u : ℕ = origin_of s d in
      let w : ℕ = origin_of s (twin_of s d) in
      let twin : IsDartFrom (rotations_of s) w u (twin_of s d) = grind arith in
      let there : IsWay s.mesh u w (w ∷ []) = dart_way o d l in
      let home : IsWay s.mesh w u (u ∷ []) = way_home s.mesh u w (w ∷ []) there in
      let along : Loops s split t = loop_of s.mesh t.parents.root (up s split t) ways u w (w ∷ []) there in
      let is : SameLoops Same (value s split o t d) along = value_along u w d (record { within = l; starts = refl; ends = refl }) there in
      congruence.on _ _ _ (value_along w u (twin_of s d) twin home) (congruence.on _ _ _ (dart_back congruence ways u w there home)
      (dart_group.inv_same along (value s split o t d) (dart_group.turn (value s split o t d) along is)))

  -- tree darts have none
  pub value_of_tree : (d : ℕ) → d < darts_of s → in_tree split (edge_of s d) ≡ true
      → SameLoops Same (value s split o t d) (one_of s split t)
  value_of_tree d l is =
      let ways : HasWays s.mesh t.parents.root (up s split t) = tree_ways s split o t in
      let u : ℕ = origin_of s d in
      let w : ℕ = origin_of s (twin_of s d) in
      let there : IsWay s.mesh u w (w ∷ []) = dart_way o d l in
      let home : IsWay s.mesh w u (u ∷ []) = way_home s.mesh u w (w ∷ []) there in
      let along : Loops s split t = loop_of s.mesh t.parents.root (up s split t) ways u w (w ∷ []) there in
      let first : SameLoops Same (value s split o t d) along =
      value_along u w d (record { within = l; starts = refl; ends = refl }) there in
      elim (tree_dart o t d l is) [
        | inl down ↦ congruence.on _ _ _ first (dart_up congruence ways u w there down)
        | inr other ↦
            let back_along : Loops s split t = loop_of s.mesh t.parents.root (up s split t) ways w u (u ∷ []) home in
            congruence.on _ _ _ first (congruence.on _ _ _ (dart_back congruence ways w u home there)
            (dart_group.inv_same back_along (one_of s split t) (dart_up congruence ways w u home other)))
      ]

  -- k darts round a face are the product of their values
  pub round_is : (k d : ℕ) → d < darts_of s → (v : ℕ) (way : IsWay s.mesh (origin_of s d) v (vertices_on s k d))
      → SameLoops Same (loop_of s.mesh t.parents.root (up s split t) (tree_ways s split o t) (origin_of s d) v (vertices_on s k d) way)
      (round loop_mul (one_of s split t) (value s split o t) (next_of s) k d)
  round_is zero d l v way = no_dart congruence (tree_ways s split o t) (origin_of s d) v way
  round_is (suc k) d l v way =
      let r : IsRotationSystem (rotations_of s) = rotation_system s o in
      let ways : HasWays s.mesh t.parents.root (up s split t) = tree_ways s split o t in
      let u : ℕ = origin_of s d in
      let w : ℕ = origin_of s (next_of s d) in
      let on_in : next_of s d < darts_of s = r.next_within d l in
      let one : IsWay s.mesh u w (w ∷ []) = (way.0, (refl, (names_all s o).vertex_used (next_of s d) on_in)) in
      let x : Loops s split t = loop_of s.mesh t.parents.root (up s split t) ways u w (w ∷ []) one in
      let rest : Loops s split t = loop_of s.mesh t.parents.root (up s split t) ways w v (vertices_on s k (next_of s d)) way.1 in
      let is : SameLoops Same (value s split o t d) x = value_along u w d (record { within = l; starts = refl; ends = sym (r.follows d l) })
      one in
      congruence.on _ _ _ (first_dart congruence ways u w v (vertices_on s k (next_of s d)) way one way.1)
      (dart_group.mul_same x (value s split o t d) rest (round loop_mul (one_of s split t) (value s split o t) (next_of s) k (next_of s d))
      (dart_group.turn (value s split o t d) x is) (round_is k (next_of s d) on_in v way.1))

  -- a leftover dart but the last side is its two spokes
  pub left_dart : (polygon : PolygonView) → IsCutFrom s split polygon → 0 < polygon.degree → (d : ℕ) → d < darts_of s
      → is_left split (edge_of s d) ≡ true → d ≢ side_at polygon (polygon.degree - 1)
      → SameLoops Same (value s split o t d) (by_labels loop_mul loop_inv (spoke s split o t polygon) (label_of polygon) (next_of s) d)
  unfolding spoke
  left_dart polygon c some d l is other =
      let S : ℕ → Loops s split t = spoke s split o t polygon in
      let i : ℕ = label_of polygon d in
      let i_in : i < polygon.degree = (c.labels some).label_below d l in
      let own : side_at polygon i ≡ d =
      is_own_side (rotations_of s) (after_dart (rotations_of s) (λ e. not (in_cotree split e))) (is_left split) polygon (c.labels some) d l
      is in
      let not_last : i + 1 ≢ polygon.degree =
      λ e. other (sym own ∙ ap (side_at polygon) (let last : i ≡ polygon.degree - 1 = omega arith in last)) in
      let next_label : label_of polygon (next_of s d) ≡ suc i =
      (labels_ride s split polygon d o t c some l).of_left is ∙ up_plain polygon.degree i not_last ∙ omega arith in
      let here : Loops s split t = quotient loop_mul loop_inv (S i) (S (suc i)) in
      let side : SameLoops Same (value s split o t (side_at polygon i)) here = dart_group.turn here (value s split o t (side_at polygon i))
      (one_step dart_group (value s split o t (side_at polygon i)) (S i)) in
      let at_dart : SameLoops Same (value s split o t d) here = subst (λ x. SameLoops Same (value s split o t x) here) own side in
      subst (λ x. SameLoops Same (value s split o t d) (quotient loop_mul loop_inv (S i) (S x))) (sym next_label) at_dart
