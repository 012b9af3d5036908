-- Arcs of the ring of tree and leftover edges: the walk along one, past no last side, is worth the loops of two spokes, there along the
-- one and back along the other; and of any two sides there is one from the one to the other, with fewer darts than the surface has sides.
use Rattle.polygon_cut.proofs.Common.{IsPermutationBelow, steps_add, steps_within, rotation_system, names_all, darts_of, next_of, twin_of, origin_of, edge_of, after_steps, OrientedMesh, IsOrientedSurface, rotations_of, IsRotationSystem, PolygonView, IsCutFrom, outer_ring, side_at, label_of, AreWaysUp, by_loop, last_side, path_loop, ◌≡◌, ◌≢◌, ◌⊎◌, inl, inr, ℕ, zero, suc, ◌+◌, ◌-◌, ◌<◌, ◌≤◌, true, false, not, List, [], ◌∷◌, ◌++◌, length, refl, ap, sym, ◌∙◌, subst, arith, length-append, cases_Bool, cases_lt, append-nil, if◌then◌else◌, AreFreelyEqual, after_permutes, go_on, turn, rest_has_ring, SplitView, IsSplit, in_cotree}
use Rattle.polygon_cut.specs.RingWalks.{ring_walk, IsRingArc}
use Rattle.polygon_cut.proofs.GroupLemmas.{quotient, middle, inverse_of_quotient}
use Rattle.polygon_cut.proofs.RoundLemmas.{GoesRound, round_reaches, round_apart}
use Rattle.polygon_cut.proofs.RelatorLemmas.{spoke_product}
use Rattle.polygon_cut.proofs.WayLemmas.{IsWay, start_used, end_used, back, way_on, way_home, HasWays, loop_mul, loop_inv, loop_of}
use Rattle.polygon_cut.proofs.CongruenceLemmas.{no_dart}
use Rattle.polygon_cut.proofs.FreeLoopLemmas.{SameFreely, free_equality}
use Rattle.polygon_cut.proofs.LawLemmas.{labels_ride}
use Rattle.polygon_cut.proofs.TreeWayLemmas.{up, tree_ways}
use Rattle.polygon_cut.proofs.DartLoopLemmas.{Loops, dart_way, value, value_along, spoke, one_of}
use Rattle.polygon_cut.proofs.FreeSpokeLemmas.{free_group, of_other_dart, free_is_two_spokes}
use Rattle.polygon_cut.proofs.FreeWayLemmas.{loop_on, loop_home}
use Rattle.polygon_cut.proofs.FreeLawLemmas.{root_is, side_in, path_list, by_own_loop, by_loop_is}

-- the ring behind a dart leads along all darts
ring_from : {s : OrientedMesh} {split : SplitView} → IsOrientedSurface s → IsSplit s split → (d : ℕ) → d < darts_of s
    → GoesRound (darts_of s) (outer_ring s split) d
ring_from {s} {split} o t d l = record {
  permutes = after_permutes (rotations_of s) (rotation_system s o) (λ e. not (in_cotree split e));
  start = l;
  all = λ j b. rest_has_ring s split o t.trees d j l b;
}

-- as many steps back
steps_once : {n : ℕ} {f : ℕ → ℕ} → IsPermutationBelow n f → (k x y : ℕ) → x < n → y < n → after_steps f k x ≡ after_steps f k y → x ≡ y
steps_once p zero x y l m e = e
steps_once {n} {f} p (suc k) x y l m e =
    steps_once p k x y l m (p.injective (after_steps f k x) (after_steps f k y) (steps_within n f p k x l) (steps_within n f p k y m) e)

-- the walk between two vertices is worth the loop
abbrev pub IsWorth : (s : OrientedMesh) (split : SplitView) (t : IsSplit s split) → ℕ → ℕ → List ℕ → Loops s split t → Type 0
IsWorth s split t u v rest loop =
    AreFreelyEqual s.mesh (t.parents.root ∷ (back u (up s split t u) ++ (rest ++ up s split t v))) (t.parents.root ∷ loop.rest)

-- there along the one spoke, and back along the other
abbrev pub two_spokes : (s : OrientedMesh) (split : SplitView) (o : IsOrientedSurface s) (t : IsSplit s split) → PolygonView → ℕ → ℕ
    → Loops s split t
two_spokes s split o t polygon a b = quotient loop_mul loop_inv (spoke s split o t polygon a) (spoke s split o t polygon b)

-- a walk of so many darts at most from where one dart starts to where another does, worth the spokes of their labels
record IsArc (s : OrientedMesh) (split : SplitView) (o : IsOrientedSurface s) (t : IsSplit s split) (polygon : PolygonView)
    (d e k : ℕ) (rest : List ℕ) : Type 0 where
  few : length rest ≤ k
  way : IsWay s.mesh (origin_of s d) (origin_of s e) rest
  worth : IsWorth s split t (origin_of s d) (origin_of s e) rest
      (two_spokes s split o t polygon (label_of polygon d) (label_of polygon e))

-- no dart
no_arc : {s : OrientedMesh} {split : SplitView} (o : IsOrientedSurface s) (t : IsSplit s split) (polygon : PolygonView) (d : ℕ)
    → d < darts_of s → IsArc s split o t polygon d d 0 []
no_arc {s} {split} o t polygon d l =
    let g = free_group s split t in
    let ways : HasWays s.mesh t.parents.root (up s split t) = tree_ways s split o t in
    let u : ℕ = origin_of s d in
    let stay : IsWay s.mesh u u [] = (refl, (names_all s o).vertex_used d l) in
    let still : Loops s split t = loop_of s.mesh t.parents.root (up s split t) ways u u [] stay in
    let x : Loops s split t = spoke s split o t polygon (label_of polygon d) in
    record {
      few = omega arith;
      way = stay;
      worth = g.on still (one_of s split t) (quotient loop_mul loop_inv x x) (no_dart (free_equality s.mesh) ways u u stay)
          (g.turn (quotient loop_mul loop_inv x x) (one_of s split t) (g.cancels x));
    }

-- the same to another dart at that vertex with that label
arc_turned : {s : OrientedMesh} {split : SplitView} {o : IsOrientedSurface s} {t : IsSplit s split} {polygon : PolygonView} {d e : ℕ}
    (f : ℕ) {k : ℕ} (m : ℕ)
    {rest : List ℕ} → k ≤ m → origin_of s f ≡ origin_of s e → label_of polygon f ≡ label_of polygon e
    → IsArc s split o t polygon d e k rest → IsArc s split o t polygon d f m rest
arc_turned {s} {split} {o} {t} {polygon} {d} {e} f m {rest} more at label a = grind arith

-- one dart more
arc_longer : (s : OrientedMesh) (split : SplitView) (o : IsOrientedSurface s) (t : IsSplit s split) (polygon : PolygonView)
    → IsCutFrom s split polygon → 0 < polygon.degree → (d e k : ℕ) (rest : List ℕ) → e < darts_of s → e ≢ last_side polygon
    → in_cotree split (edge_of s e) ≡ false → IsArc s split o t polygon d e k rest
    → IsArc s split o t polygon d (next_of s e) (suc k) (rest ++ origin_of s (twin_of s e) ∷ [])
arc_longer s split o t polygon c some d e k rest l other off a =
    let r : IsRotationSystem (rotations_of s) = rotation_system s o in
    let g = free_group s split t in
    let ways : HasWays s.mesh t.parents.root (up s split t) = tree_ways s split o t in
    let u : ℕ = origin_of s d in
    let v : ℕ = origin_of s e in
    let w : ℕ = origin_of s (twin_of s e) in
    let one : IsWay s.mesh v w (w ∷ []) = dart_way o e l in
    let whole : IsWay s.mesh u w (rest ++ w ∷ []) = way_on s.mesh u v w rest (w ∷ []) a.way one in
    let before : Loops s split t = loop_of s.mesh t.parents.root (up s split t) ways u v rest a.way in
    let dart : Loops s split t = loop_of s.mesh t.parents.root (up s split t) ways v w (w ∷ []) one in
    let all : Loops s split t = loop_of s.mesh t.parents.root (up s split t) ways u w (rest ++ w ∷ []) whole in
    let i : ℕ = label_of polygon d in
    let j : ℕ = label_of polygon e in
    let n : ℕ = label_of polygon (next_of s e) in
    let S : ℕ → Loops s split t = spoke s split o t polygon in
    let along : SameFreely (value s split o t e) dart =
    value_along (free_equality s.mesh) split o t v w e (record { within = l; starts = refl; ends = refl }) one in
    let val_is : SameFreely (value s split o t e) (two_spokes s split o t polygon j n) =
    subst (λ x. SameFreely x (two_spokes s split o t polygon j n)) (of_other_dart o t polygon e off)
    (free_is_two_spokes o t c some e l other) in
    let dart_is : SameFreely dart (two_spokes s split o t polygon j n) =
    g.on dart (value s split o t e) (two_spokes s split o t polygon j n) (g.turn (value s split o t e) dart along) val_is in
    let joined : SameFreely all (loop_mul before dart) =
    loop_on s.mesh t.parents.root (up s split t) ways u v w rest (w ∷ []) a.way one whole in
    let product : SameFreely (loop_mul before dart) (loop_mul (two_spokes s split o t polygon i j) (two_spokes s split o t polygon j n)) =
    g.mul_same before (two_spokes s split o t polygon i j) dart (two_spokes s split o t polygon j n) a.worth dart_is in
    let worth : SameFreely all (two_spokes s split o t polygon i n) =
    g.on all (loop_mul before dart) (two_spokes s split o t polygon i n) joined
    (g.on (loop_mul before dart) (loop_mul (two_spokes s split o t polygon i j) (two_spokes s split o t polygon j n))
    (two_spokes s split o t polygon i n) product (middle g (S i) (S j) (S n))) in
    let at : origin_of s (next_of s e) ≡ w = r.follows e l in
    record {
      few = omega (arith, a.few, length-append rest (w ∷ []));
      way = subst (λ x. IsWay s.mesh u x (rest ++ w ∷ [])) (sym at) whole;
      worth = subst (λ x. IsWorth s split t u x (rest ++ w ∷ []) (two_spokes s split o t polygon i n)) (sym at) worth;
    }

-- one dart
dart_arc : {s : OrientedMesh} {split : SplitView} (o : IsOrientedSurface s) (t : IsSplit s split) {polygon : PolygonView}
    → IsCutFrom s split polygon → 0 < polygon.degree → (d : ℕ) → d < darts_of s → d ≢ last_side polygon
    → in_cotree split (edge_of s d) ≡ false → IsArc s split o t polygon d (next_of s d) 1 (origin_of s (twin_of s d) ∷ [])
dart_arc {s} {split} o t {polygon} c some d l other off =
    arc_longer s split o t polygon c some d d 0 [] l other off (no_arc o t polygon d l)

-- so many steps along the ring
arc : {s : OrientedMesh} {split : SplitView} (o : IsOrientedSurface s) (t : IsSplit s split) {polygon : PolygonView}
    → IsCutFrom s split polygon → 0 < polygon.degree → (d : ℕ) → d < darts_of s → (k : ℕ)
    → ((j : ℕ) → j < k → after_steps (outer_ring s split) j d ≢ last_side polygon)
    → IsArc s split o t polygon d (after_steps (outer_ring s split) k d) k (ring_walk s split k d)
arc o t {polygon} c some d l zero other = no_arc o t polygon d l
arc {s} {split} o t {polygon} c some d l (suc k) other =
    let r : IsRotationSystem (rotations_of s) = rotation_system s o in
    let inside = λ (e : ℕ). not (in_cotree split e) in
    let e : ℕ = after_steps (outer_ring s split) k d in
    let w : ℕ = origin_of s (twin_of s e) in
    let walk : List ℕ = ring_walk s split k d in
    let e_in : e < darts_of s = steps_within (darts_of s) (outer_ring s split) (after_permutes (rotations_of s) r inside) k d l in
    let before : IsArc s split o t polygon d e k walk = arc o t c some d l k (λ j less. other j (omega arith)) in
    elim (cases_Bool (in_cotree split (edge_of s e))) [
      | inl crossed ↦
          let on : outer_ring s split e ≡ next_of s (twin_of s e) = turn (rotations_of s) inside e (ap not crossed) in
          let at : origin_of s (next_of s (twin_of s e)) ≡ origin_of s e =
          r.follows (twin_of s e) (r.twin_within e e_in) ∙ ap (origin_of s) (r.twin_back e e_in) in
          let label : label_of polygon (next_of s (twin_of s e)) ≡ label_of polygon e =
          (labels_ride s split polygon e o t c some e_in).of_cotree crossed in
          let stays : walk ≡ ring_walk s split (suc k) d =
          sym (append-nil walk) ∙ ap (λ b. walk ++ (if b then [] else w ∷ [])) (sym crossed) in
          subst (IsArc s split o t polygon d (outer_ring s split e) (suc k)) stays
          (arc_turned (outer_ring s split e) (suc k) (omega arith) (ap (origin_of s) on ∙ at) (ap (label_of polygon) on ∙ label) before)
      | inr off ↦
          let goes : walk ++ w ∷ [] ≡ ring_walk s split (suc k) d = ap (λ b. walk ++ (if b then [] else w ∷ [])) (sym off) in
          subst (IsArc s split o t polygon d (outer_ring s split e) (suc k)) goes
          (subst (λ f. IsArc s split o t polygon d f (suc k) (walk ++ w ∷ [])) (sym (go_on (rotations_of s) inside e (ap not off)))
          (arc_longer s split o t polygon c some d e k walk e_in (other k (omega arith)) off before))
    ]

-- how far it is along the ring to the last side
record IsBefore (s : OrientedMesh) (split : SplitView) (polygon : PolygonView) (d : ℕ) : Type 0 where
  steps : ℕ
  few : steps < darts_of s
  leads : IsRingArc s split polygon d (last_side polygon) steps

how_far : {s : OrientedMesh} {split : SplitView} → IsOrientedSurface s → IsSplit s split → {polygon : PolygonView}
    → IsCutFrom s split polygon → 0 < polygon.degree → (d : ℕ) → d < darts_of s → IsBefore s split polygon d
how_far {s} {split} o t {polygon} c some d l =
    let round = ring_from o t d l in
    let there = round_reaches round (last_side polygon) (side_in s split polygon c some (polygon.degree - 1)) in
    record {
      steps = there.0;
      few = there.1;
      leads = grind (arith, round_apart);
    }

-- from the one of two darts that is further from the last side to the other
between : {s : OrientedMesh} {split : SplitView} → IsOrientedSurface s → IsSplit s split → {polygon : PolygonView} {d e : ℕ}
    → d < darts_of s → e < darts_of s → (x : IsBefore s split polygon d) (y : IsBefore s split polygon e) → y.steps ≤ x.steps
    → IsRingArc s split polygon d e (x.steps - y.steps)
between {s} {split} o t {d} {e} d_in e_in x y less =
    let ring : ℕ → ℕ = outer_ring s split in
    let p : IsPermutationBelow (darts_of s) ring = (ring_from o t d d_in).permutes in
    let k : ℕ = x.steps - y.steps in
    let sum : y.steps + k ≡ x.steps = omega (arith, less) in
    record {
      leads = grind (arith, steps_once, steps_within, steps_add);
      before_last = λ j m. x.leads.before_last j (omega (arith, m));
    }

-- of any two darts the ring leads from the one to the other before it passes the last side
pub darts_joined : (s : OrientedMesh) (split : SplitView) (polygon : PolygonView) (d e : ℕ) → IsOrientedSurface s → IsSplit s split
    → IsCutFrom s split polygon → 0 < polygon.degree → d < darts_of s → e < darts_of s
    → (steps : ℕ) × (steps < darts_of s) × (IsRingArc s split polygon d e steps ⊎ IsRingArc s split polygon e d steps)
darts_joined s split polygon d e o t c some d_in e_in =
    let x = how_far o t c some d d_in in
    let y = how_far o t c some e e_in in
    elim (cases_lt x.steps y.steps) [
      | inl less ↦
          (y.steps - x.steps, omega (arith, y.few), inr (between o t e_in d_in y x (omega (arith, less))))
      | inr more ↦ (x.steps - y.steps, omega (arith, x.few), inl (between o t d_in e_in x y more))
    ]

-- a walk from where the one side starts to where the other does, worth the two spokes
pub record IsSideArc (s : OrientedMesh) (split : SplitView) (o : IsOrientedSurface s) (t : IsSplit s split) (polygon : PolygonView)
    (a b : ℕ) : Type 0 where
  pub rest : List ℕ
  pub few : length rest < darts_of s
  pub way : IsWay s.mesh (origin_of s (side_at polygon a)) (origin_of s (side_at polygon b)) rest
  pub worth : IsWorth s split t (origin_of s (side_at polygon a)) (origin_of s (side_at polygon b)) rest
      (two_spokes s split o t polygon a b)

-- along an arc of the ring
forward : {s : OrientedMesh} {split : SplitView} (o : IsOrientedSurface s) (t : IsSplit s split) {polygon : PolygonView}
    → IsCutFrom s split polygon → 0 < polygon.degree → (a b : ℕ) {steps : ℕ} → a < polygon.degree → b < polygon.degree → steps < darts_of s
    → IsRingArc s split polygon (side_at polygon a) (side_at polygon b) steps → IsSideArc s split o t polygon a b
forward {s} {split} o t {polygon} c some a b {steps} a_in b_in few r =
    let d : ℕ = side_at polygon a in
    let e : ℕ = side_at polygon b in
    let walk : List ℕ = ring_walk s split steps d in
    let along : IsArc s split o t polygon d e steps walk = subst (λ z. IsArc s split o t polygon d z steps walk) r.leads
    (arc o t c some d (side_in s split polygon c some a) steps r.before_last) in
    let own_a : label_of polygon d ≡ a = (c.labels some).own_number a a_in in
    let own_b : label_of polygon e ≡ b = (c.labels some).own_number b b_in in
    record {
      rest = walk;
      few = omega (arith, along.few, few);
      way = along.way;
      worth =
          subst (λ i. IsWorth s split t (origin_of s d) (origin_of s e) walk (two_spokes s split o t polygon i b)) own_a
          (subst (λ i. IsWorth s split t (origin_of s d) (origin_of s e) walk
          (two_spokes s split o t polygon (label_of polygon d) i)) own_b along.worth);
    }

pub back-length : (u : ℕ) (rest : List ℕ) → length (back u rest) ≡ length rest
back-length u [] = refl
back-length u (v ∷ rest) = length-append (back v rest) (u ∷ []) ∙ omega (arith, back-length v rest)

turned : {s : OrientedMesh} {split : SplitView} {o : IsOrientedSurface s} {t : IsSplit s split} {polygon : PolygonView} {a b : ℕ}
    → IsSideArc s split o t polygon b a → IsSideArc s split o t polygon a b
turned {s} {split} {o} {t} {polygon} {a} {b} h =
    let g = free_group s split t in
    let ways : HasWays s.mesh t.parents.root (up s split t) = tree_ways s split o t in
    let S : ℕ → Loops s split t = spoke s split o t polygon in
    let u : ℕ = origin_of s (side_at polygon b) in
    let v : ℕ = origin_of s (side_at polygon a) in
    let home : IsWay s.mesh v u (back u h.rest) = way_home s.mesh u v h.rest h.way in
    let there_loop : Loops s split t = loop_of s.mesh t.parents.root (up s split t) ways u v h.rest h.way in
    let home_loop : Loops s split t = loop_of s.mesh t.parents.root (up s split t) ways v u (back u h.rest) home in
    let worth : SameFreely home_loop (two_spokes s split o t polygon a b) =
    g.on home_loop (loop_inv there_loop) (two_spokes s split o t polygon a b)
    (loop_home s.mesh t.parents.root (up s split t) ways u v h.rest h.way home)
    (g.on (loop_inv there_loop) (loop_inv (two_spokes s split o t polygon b a)) (two_spokes s split o t polygon a b)
    (g.inv_same there_loop (two_spokes s split o t polygon b a) h.worth)
    (inverse_of_quotient SameFreely loop_mul loop_inv (one_of s split t) g (S b) (S a))) in
    record { rest = back u h.rest; few = omega (arith, h.few, back-length u h.rest); way = home; worth = worth }

pub side_arc : {s : OrientedMesh} {split : SplitView} (o : IsOrientedSurface s) (t : IsSplit s split) {polygon : PolygonView}
    → IsCutFrom s split polygon → 0 < polygon.degree → (a b : ℕ) → a < polygon.degree → b < polygon.degree
    → IsSideArc s split o t polygon a b
side_arc {s} {split} o t {polygon} c some a b a_in b_in =
    let joined = darts_joined s split polygon (side_at polygon a) (side_at polygon b) o t c some (side_in s split polygon c some a)
    (side_in s split polygon c some b) in
    elim joined.2 [
      | inl there ↦ forward o t c some a b a_in b_in joined.1 there
      | inr home ↦ turned (forward o t c some b a b_in a_in joined.1 home)
    ]

-- The same in the words of the laws.

-- a walk that is worth a loop is that loop, with the way up the tree before it and the way down behind it
pub worth_by_loop : {s : OrientedMesh} {split : SplitView} (o : IsOrientedSurface s) (t : IsSplit s split) (ups : ℕ → List ℕ)
    → AreWaysUp s split t.parents.root ups → (u v : ℕ) (rest : List ℕ) (loop : Loops s split t) → IsWay s.mesh u v rest
    → IsWorth s split t u v rest loop → AreFreelyEqual s.mesh (u ∷ rest) (by_loop ups u v loop.rest)
worth_by_loop {s} {split} o t ups h u v rest loop way worth =
    subst (AreFreelyEqual s.mesh (u ∷ rest))
    (sym (by_loop_is s split o t ups h u v loop.rest (start_used s.mesh u v rest way) (end_used s.mesh u v rest way)))
    (by_own_loop s.mesh t.parents.root (up s split t) (tree_ways s split o t) u v rest way loop worth)

-- and an arc is so the loop of the spokes of its two labels
arc_by_loop : {s : OrientedMesh} {split : SplitView} {polygon : PolygonView} (root : ℕ) (ups : ℕ → List ℕ) {o : IsOrientedSurface s}
    {t : IsSplit s split} → IsCutFrom s split polygon → 0 < polygon.degree → AreWaysUp s split root ups → {d e k : ℕ} {rest : List ℕ}
    → IsArc s split o t polygon d e k rest
    → AreFreelyEqual s.mesh (origin_of s d ∷ rest) (by_loop ups (origin_of s d) (origin_of s e)
    (path_loop s polygon root ups true (label_of polygon d ∷ label_of polygon e ∷ [])))
arc_by_loop {s} {split} {polygon} root ups {o} {t} c some h {d} {e} {rest} a =
    let g = free_group s split t in
    let u : ℕ = origin_of s d in
    let v : ℕ = origin_of s e in
    let path : List ℕ = label_of polygon d ∷ label_of polygon e ∷ [] in
    let own_ways : AreWaysUp s split t.parents.root ups = subst (λ x. AreWaysUp s split x ups) (sym (root_is s split o t root ups h)) h in
    let none : Loops s split t = one_of s split t in
    let first : Loops s split t = spoke s split o t polygon (label_of polygon d) in
    let second : Loops s split t = loop_inv (spoke s split o t polygon (label_of polygon e)) in
    let product : Loops s split t = spoke_product loop_mul loop_inv none (spoke s split o t polygon) true path in
    let same : SameFreely (loop_mul first second) product =
    g.mul_same first first second (loop_mul second none) (g.itself first) (g.turn (loop_mul second none) second (g.one_right second)) in
    let worth : IsWorth s split t u v rest product =
    (free_equality s.mesh).on (t.parents.root ∷ (back u (up s split t u) ++ (rest ++ up s split t v)))
    (t.parents.root ∷ (loop_mul first second).rest) (t.parents.root ∷ product.rest) a.worth same in
    subst (λ x. AreFreelyEqual s.mesh (u ∷ rest) (by_loop ups u v (path_loop s polygon x ups true path))) (root_is s split o t root ups h)
    (subst (λ (l : List ℕ). AreFreelyEqual s.mesh (u ∷ rest) (by_loop ups u v l))
    (sym (path_list s split o t polygon c some ups own_ways true path)) (worth_by_loop o t ups own_ways u v rest product a.way worth))

pub walk_by_loop : (s : OrientedMesh) (split : SplitView) (polygon : PolygonView) (root : ℕ) (ups : ℕ → List ℕ) (from to steps : ℕ)
    → IsOrientedSurface s → IsSplit s split → IsCutFrom s split polygon → 0 < polygon.degree → AreWaysUp s split root ups
    → from < darts_of s → IsRingArc s split polygon from to steps
    → AreFreelyEqual s.mesh (origin_of s from ∷ ring_walk s split steps from) (by_loop ups (origin_of s from) (origin_of s to)
    (path_loop s polygon root ups true (label_of polygon from ∷ label_of polygon to ∷ [])))
walk_by_loop s split polygon root ups from to steps o t c some h l r =
    let walk : List ℕ = ring_walk s split steps from in
    arc_by_loop root ups c some h
    (subst (λ e. IsArc s split o t polygon from e steps walk) r.leads (arc o t c some from l steps r.before_last))

pub dart_by_loop : (s : OrientedMesh) (split : SplitView) (polygon : PolygonView) (root : ℕ) (ups : ℕ → List ℕ) (dart : ℕ)
    → IsOrientedSurface s → IsSplit s split → IsCutFrom s split polygon → 0 < polygon.degree → AreWaysUp s split root ups
    → dart < darts_of s → in_cotree split (edge_of s dart) ≡ false → dart ≢ last_side polygon
    → AreFreelyEqual s.mesh (origin_of s dart ∷ origin_of s (twin_of s dart) ∷ [])
    (by_loop ups (origin_of s dart) (origin_of s (twin_of s dart))
    (path_loop s polygon root ups true (label_of polygon dart ∷ label_of polygon (next_of s dart) ∷ [])))
dart_by_loop s split polygon root ups dart o t c some h l off other =
    let w : ℕ = origin_of s (twin_of s dart) in
    subst (λ v. AreFreelyEqual s.mesh (origin_of s dart ∷ w ∷ []) (by_loop ups (origin_of s dart) v
    (path_loop s polygon root ups true (label_of polygon dart ∷ label_of polygon (next_of s dart) ∷ []))))
    ((rotation_system s o).follows dart l) (arc_by_loop root ups c some h (dart_arc o t c some dart l other off))
