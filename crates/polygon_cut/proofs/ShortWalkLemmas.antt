-- Short walks for lists of spokes: for each two spokes one walk along the tree and one arc of the ring, and at the end one more along the
-- tree.
use Rattle.polygon_cut.proofs.Common.{names_all, darts_of, origin_of, OrientedMesh, IsOrientedSurface, PolygonView, IsCutFrom, side_at, IsFreelyShort, AreWaysUp, by_loop, path_loop, ◌≡◌, ℕ, zero, suc, ◌+◌, ◌*◌, ◌<◌, ◌≤◌, true, List, [], ◌∷◌, ◌++◌, length, ap, sym, ◌∙◌, subst, arith, length-append, All, is_used, SplitView, IsSplit}
use Rattle.polygon_cut.proofs.FreeProductLemmas.{inverse_of_one}
use Rattle.polygon_cut.proofs.RelatorLemmas.{spoke_product}
use Rattle.polygon_cut.proofs.WayLemmas.{IsWay, way_walk, way_on, HasWays, loop_mul, loop_inv, loop_of}
use Rattle.polygon_cut.proofs.FreeLoopLemmas.{SameFreely, free_equality}
use Rattle.polygon_cut.proofs.TreeWayLemmas.{up, tree_ways}
use Rattle.polygon_cut.proofs.DartLoopLemmas.{Loops, spoke, one_of}
use Rattle.polygon_cut.proofs.FreeSpokeLemmas.{free_group}
use Rattle.polygon_cut.proofs.FreeWayLemmas.{loop_on}
use Rattle.polygon_cut.proofs.FreeLawLemmas.{side_in, root_is, path_list}
use Rattle.polygon_cut.proofs.RingArcLemmas.{IsWorth, two_spokes, IsSideArc, side_arc, worth_by_loop}
use Rattle.polygon_cut.proofs.TreePathLemmas.{IsTreeWalk, tree_walk, few_vertices}

-- one walk after another is worth the product
pub worth_on : {s : OrientedMesh} {split : SplitView} → IsOrientedSurface s → (t : IsSplit s split) → (u v w : ℕ) (rest more : List ℕ)
    (a b : Loops s split t) → IsWay s.mesh u v rest → IsWay s.mesh v w more → IsWorth s split t u v rest a → IsWorth s split t v w more b
    → IsWorth s split t u w (rest ++ more) (loop_mul a b)
worth_on {s} {split} o t u v w rest more a b h k x y =
    let g = free_group s split t in
    let ways : HasWays s.mesh t.parents.root (up s split t) = tree_ways s split o t in
    let root : ℕ = t.parents.root in
    let whole : IsWay s.mesh u w (rest ++ more) = way_on s.mesh u v w rest more h k in
    let first : Loops s split t = loop_of s.mesh root (up s split t) ways u v rest h in
    let second : Loops s split t = loop_of s.mesh root (up s split t) ways v w more k in
    let all : Loops s split t = loop_of s.mesh root (up s split t) ways u w (rest ++ more) whole in
    g.on all (loop_mul first second) (loop_mul a b) (loop_on s.mesh root (up s split t) ways u v w rest more h k whole)
    (g.mul_same first a second b x y)

-- a walk that is worth a loop and has at most one and a half times as many darts as there are sides for each pair, and half as many more
pub record IsPairsWalk (s : OrientedMesh) (split : SplitView) (t : IsSplit s split) (u v pairs : ℕ) (loop : Loops s split t) : Type 0 where
  pub rest : List ℕ
  pub few : 2 * length rest + 6 * pairs + 4 ≤ 3 * (pairs * darts_of s) + darts_of s
  pub way : IsWay s.mesh u v rest
  pub worth : IsWorth s split t u v rest loop

-- the same loop, and more pairs
walk_as : (s : OrientedMesh) (split : SplitView) (t : IsSplit s split) (u v pairs : ℕ) (a b : Loops s split t) → SameFreely a b
    → IsPairsWalk s split t u v pairs a → IsPairsWalk s split t u v pairs b
walk_as s split t u v pairs a b same h =
    record {
      rest = h.rest;
      few = h.few;
      way = h.way;
      worth = (free_equality s.mesh).on (t.parents.root ∷ _) (t.parents.root ∷ a.rest) (t.parents.root ∷ b.rest) h.worth same;
    }

one_pair_more : (pairs n : ℕ) → suc pairs * n ≡ n + pairs * n
one_pair_more pairs n = omega arith

more_pairs : {s : OrientedMesh} {split : SplitView} {t : IsSplit s split} {u v pairs : ℕ} {a : Loops s split t} → 2 ≤ darts_of s
    → IsPairsWalk s split t u v pairs a → IsPairsWalk s split t u v (suc pairs) a
more_pairs {s} {pairs} some h = grind (arith, one_pair_more)

-- two spokes, and then a walk from where the second side starts
pair_first : {s : OrientedMesh} {split : SplitView} (o : IsOrientedSurface s) {t : IsSplit s split} {polygon : PolygonView}
    → IsCutFrom s split polygon → 0 < polygon.degree → (u : ℕ) {v pairs : ℕ} (a b : ℕ) {loop : Loops s split t} → is_used s.mesh u ≡ true
    → a < polygon.degree → b < polygon.degree → IsPairsWalk s split t (origin_of s (side_at polygon b)) v pairs loop
    → IsPairsWalk s split t u v (suc pairs) (loop_mul (two_spokes s split o t polygon a b) loop)
pair_first {s} {split} o {t} {polygon} c some u {v} {pairs} a b {loop} used a_in b_in h =
    let g = free_group s split t in
    let x : ℕ = origin_of s (side_at polygon a) in
    let y : ℕ = origin_of s (side_at polygon b) in
    let x_used : is_used s.mesh x ≡ true = (names_all s o).vertex_used (side_at polygon a) (side_in s split polygon c some a) in
    let there : IsTreeWalk s split t u x = tree_walk o t c some u x used x_used in
    let arc : IsSideArc s split o t polygon a b = side_arc o t c some a b a_in b_in in
    let two : Loops s split t = two_spokes s split o t polygon a b in
    let none : Loops s split t = one_of s split t in
    let more : IsWay s.mesh x v (arc.rest ++ h.rest) = way_on s.mesh x y v arc.rest h.rest arc.way h.way in
    let more_worth : IsWorth s split t x v (arc.rest ++ h.rest) (loop_mul two loop) =
    worth_on o t x y v arc.rest h.rest two loop arc.way h.way arc.worth h.worth in
    let worth : IsWorth s split t u v (there.rest ++ (arc.rest ++ h.rest)) (loop_mul none (loop_mul two loop)) =
    worth_on o t u x v there.rest (arc.rest ++ h.rest) none (loop_mul two loop) there.way more there.worth more_worth in
    let long : length (there.rest ++ (arc.rest ++ h.rest)) ≡ length there.rest + (length arc.rest + length h.rest) =
    length-append there.rest (arc.rest ++ h.rest) ∙ ap (λ n. length there.rest + n) (length-append arc.rest h.rest) in
    walk_as s split t u v (suc pairs) (loop_mul none (loop_mul two loop)) (loop_mul two loop) (g.one_left (loop_mul two loop)) (record {
      rest = there.rest ++ (arc.rest ++ h.rest);
      few = omega (arith, long, there.few, arc.few, h.few, one_pair_more pairs (darts_of s));
      way = way_on s.mesh u x v there.rest (arc.rest ++ h.rest) there.way more;
      worth = worth;
    })

-- the loop of a list of spokes
abbrev pub product_of : (s : OrientedMesh) (split : SplitView) (o : IsOrientedSurface s) (t : IsSplit s split) → PolygonView → List ℕ
    → Loops s split t
product_of s split o t polygon path = spoke_product loop_mul loop_inv (one_of s split t) (spoke s split o t polygon) true path

-- No more than twice so many spokes have such a walk.
pub pairs_walk : {s : OrientedMesh} {split : SplitView} (o : IsOrientedSurface s) (t : IsSplit s split) {polygon : PolygonView}
    → IsCutFrom s split polygon → 0 < polygon.degree → (pairs : ℕ) (path : List ℕ) (u v : ℕ) → is_used s.mesh u ≡ true
    → is_used s.mesh v ≡ true → All (λ spoke. spoke < polygon.degree) path → length path ≤ 2 * pairs
    → IsPairsWalk s split t u v pairs (product_of s split o t polygon path)
unfolding spoke
pairs_walk {s} {split} o t c some zero [] u v used v_used below few =
    let h : IsTreeWalk s split t u v = tree_walk o t c some u v used v_used in
    record { rest = h.rest; few = omega (arith, h.few); way = h.way; worth = h.worth }
pairs_walk o t c some zero (a ∷ path) u v used v_used below few = absurd (omega arith)
pairs_walk {s} {split} o t {polygon} c some (suc pairs) [] u v used v_used below few =
    more_pairs (omega (arith, few_vertices s split polygon o t c some))
    (pairs_walk o t c some pairs [] u v used v_used below (omega arith))
pairs_walk {s} {split} o t {polygon} c some (suc pairs) (a ∷ []) u v used v_used below few =
    let g = free_group s split t in
    let none : Loops s split t = one_of s split t in
    let S : ℕ → Loops s split t = spoke s split o t polygon in
    let y : ℕ = origin_of s (side_at polygon 0) in
    let y_used : is_used s.mesh y ≡ true = (names_all s o).vertex_used (side_at polygon 0) (side_in s split polygon c some 0) in
    let rest : IsPairsWalk s split t y v pairs none = pairs_walk o t c some pairs [] y v y_used v_used
    (λ k d l. absurd (omega arith)) (omega arith) in
    let two : Loops s split t = two_spokes s split o t polygon a 0 in
    let single : SameFreely (loop_mul two none) (loop_mul (S a) none) = g.mul_same two (S a) none none
    (g.on two (loop_mul (S a) none) (S a) (g.mul_same (S a) (S a) (loop_inv (S 0)) none (g.itself (S a))
    (g.turn none (loop_inv none) (inverse_of_one g))) (g.one_right (S a))) (g.itself none) in
    walk_as s split t u v (suc pairs) (loop_mul two none) (loop_mul (S a) none) single
    (pair_first o c some u a 0 used (below 0 0 (omega arith)) some rest)
pairs_walk {s} {split} o t {polygon} c some (suc pairs) (a ∷ b ∷ path) u v used v_used below few =
    let g = free_group s split t in
    let S : ℕ → Loops s split t = spoke s split o t polygon in
    let y : ℕ = origin_of s (side_at polygon b) in
    let y_used : is_used s.mesh y ≡ true = (names_all s o).vertex_used (side_at polygon b) (side_in s split polygon c some b) in
    let others : Loops s split t = product_of s split o t polygon path in
    let rest : IsPairsWalk s split t y v pairs others =
    pairs_walk o t c some pairs path y v y_used v_used (λ k d l. below (suc (suc k)) d (omega arith)) (omega arith) in
    walk_as s split t u v (suc pairs) (loop_mul (two_spokes s split o t polygon a b) others)
    (loop_mul (S a) (loop_mul (loop_inv (S b)) others)) (g.associates (S a) (loop_inv (S b)) others)
    (pair_first o c some u a b used (below 0 0 (omega arith)) (below 1 0 (omega arith)) rest)

-- the same in the words of the laws
pub by_short : {s : OrientedMesh} {split : SplitView} (o : IsOrientedSurface s) (t : IsSplit s split) (ups : ℕ → List ℕ)
    → AreWaysUp s split t.parents.root ups → (u v pairs : ℕ) (loop : Loops s split t) (rest : List ℕ) → IsWay s.mesh u v rest
    → IsWorth s split t u v rest loop → 2 * length rest + 6 * pairs + 2 ≤ 3 * (pairs * darts_of s) + darts_of s
    → IsFreelyShort s pairs (by_loop ups u v loop.rest)
by_short {s} o t ups h u v pairs loop rest way worth few =
    record {
      short = u ∷ rest;
      freely =
          (free_equality s.mesh).turn (u ∷ rest) (by_loop ups u v loop.rest) (way_walk s.mesh u v rest way)
          (worth_by_loop o t ups h u v rest loop way worth);
      few = omega (arith, few);
    }

pub spokes_short : (s : OrientedMesh) (split : SplitView) (polygon : PolygonView) (root : ℕ) (ups : ℕ → List ℕ) (u v pairs : ℕ)
    (path : List ℕ) → IsOrientedSurface s → IsSplit s split → IsCutFrom s split polygon → 0 < polygon.degree
    → AreWaysUp s split root ups → is_used s.mesh u ≡ true → is_used s.mesh v ≡ true → All (λ spoke. spoke < polygon.degree) path
    → length path ≤ 2 * pairs → IsFreelyShort s pairs (by_loop ups u v (path_loop s polygon root ups true path))
spokes_short s split polygon root ups u v pairs path o t c some h used v_used below few =
    let own_ways : AreWaysUp s split t.parents.root ups = subst (λ x. AreWaysUp s split x ups) (sym (root_is s split o t root ups h)) h in
    let w = pairs_walk o t c some pairs path u v used v_used below few in
    subst (λ x. IsFreelyShort s pairs (by_loop ups u v (path_loop s polygon x ups true path))) (root_is s split o t root ups h)
    (subst (λ (l : List ℕ). IsFreelyShort s pairs (by_loop ups u v l)) (sym (path_list s split o t polygon c some ups own_ways true path))
    (by_short o t ups own_ways u v pairs (product_of s split o t polygon path) w.rest w.way w.worth (omega (arith, w.few))))
