-- How high the peak rises where the loop of the last side is put in: the approach and the way back and on have no spur, so they are no
-- longer than the short walks that they are up to spurs.
use Rattle.move_lifting.proofs.Common.{darts_of, OrientedMesh, IsCutSurface, IsFreelyPath, last_of, RisesWithTurn, KeepsBound, MOST_LIFTED_SIDES, MOST_LIFTED_DARTS, by_own_loop, backward_is, SameFreely, loops_make_a_free_group, free_equality, loop_on, loop_home, up, up_path, IsWay, HasWays, Loop, loop_mul, loop_inv, loop_of, back, way_home, way_on, way_walk, PolygonView, IsFreelyShort, AreShortAround, AreWaysUp, backward, by_loop, path_loop, ◌≡◌, ℕ, zero, suc, ◌+◌, ◌*◌, ◌-◌, ◌<◌, ◌≤◌, true, List, ◌∷◌, ◌++◌, length, drop, get_or, ap, sym, ◌∙◌, subst, arith, mul-le-mul_right, All, list_keeps_walk, FaceList, AreFreelyEqual, HasNoSpur, IsWalk, darts, SplitView}
use Rattle.polygon_cut.proofs.ShortWalkLemmas.{spokes_short}
use Rattle.polygon_cut.proofs.TreePathLemmas.{few_vertices}
use Rattle.move_lifting.proofs.ApproachLemmas.{GoesFrom, goes_end, goes_walk, has_ways, path_way, walk_goes}
use Rattle.move_lifting.proofs.LoopInLemmas.{approach_free, approach_goes, loop_by, whole_way, IsByTree}
use Rattle.move_lifting.proofs.ShortestLemmas.{reduced_is_shortest}

-- a walk without spurs that is a short one up to spurs is short
pub shortest : (s : OrientedMesh) (pairs : ℕ) (walk reduced : List ℕ) → IsWalk s.mesh walk → AreFreelyEqual s.mesh walk reduced
    → HasNoSpur reduced → IsFreelyShort s pairs walk → 2 * darts reduced + 6 * pairs + 2 ≤ 3 * (pairs * darts_of s) + darts_of s
shortest s pairs walk reduced w free clean h =
    let f = free_equality s.mesh in
    let both : AreFreelyEqual s.mesh h.short reduced = f.on h.short walk reduced (f.turn walk h.short w h.freely) free in
    let some : 0 < length h.short = (list_keeps_walk s.mesh h.freely.0 walk h.short w h.freely.2).starts in
    omega (arith, h.few, reduced_is_shortest s.mesh h.short reduced some both clean)

-- the way back along a walk and on along a closed one is what their loops say
back_by_loops : (mesh : FaceList) (root : ℕ) (ways : ℕ → List ℕ) (w : HasWays mesh root ways) (x y : ℕ) (there more : List ℕ)
    (f p : Loop mesh root) (there_way : IsWay mesh x y there) (more_way : IsWay mesh x x more)
    → SameFreely (loop_of mesh root ways w x y there there_way) f → SameFreely (loop_of mesh root ways w x x more more_way) p
    → AreFreelyEqual mesh (y ∷ (back x there ++ more)) (y ∷ (ways y ++ ((back root f.rest ++ p.rest) ++ back x (ways x))))
back_by_loops mesh root ways w x y there more f p there_way more_way there_is more_is =
    let g = loops_make_a_free_group mesh root w.root_used in
    let home_way : IsWay mesh y x (back x there) = way_home mesh x y there there_way in
    let all_way : IsWay mesh y x (back x there ++ more) = way_on mesh y x x (back x there) more home_way more_way in
    let there_loop : Loop mesh root = loop_of mesh root ways w x y there there_way in
    let home_loop : Loop mesh root = loop_of mesh root ways w y x (back x there) home_way in
    let more_loop : Loop mesh root = loop_of mesh root ways w x x more more_way in
    let all : Loop mesh root = loop_of mesh root ways w y x (back x there ++ more) all_way in
    let home_is : SameFreely home_loop (loop_inv f) =
    g.on home_loop (loop_inv there_loop) (loop_inv f) (loop_home mesh root ways w x y there there_way home_way)
    (g.inv_same there_loop f there_is) in
    let worth : SameFreely all (loop_mul (loop_inv f) p) =
    g.on all (loop_mul home_loop more_loop) (loop_mul (loop_inv f) p)
    (loop_on mesh root ways w y x x (back x there) more home_way more_way all_way)
    (g.mul_same home_loop (loop_inv f) more_loop p home_is more_is) in
    by_own_loop mesh root ways w y x (back x there ++ more) all_way (loop_mul (loop_inv f) p) worth

-- what fewer pairs leave is more than what they would take
times_two : (more n : ℕ) → 2 ≤ n → 2 * more ≤ more * n
times_two zero n l = omega arith
times_two (suc more) n l = omega (arith, times_two more n l, one_time more n)
  where
    one_time : (k n : ℕ) → suc k * n ≡ n + k * n
    one_time k n = omega arith

pairs_apart : (a b more n : ℕ) → (a + b + more) * n ≡ a * n + b * n + more * n
pairs_apart a b more n = omega arith

fewer_pairs : (a b pairs n : ℕ) → a + b ≤ pairs → 2 ≤ n → 3 * (a * n) + 3 * (b * n) + 6 * pairs ≤ 3 * (pairs * n) + 6 * (a + b)
fewer_pairs a b pairs n l some =
    let more : ℕ = pairs - (a + b) in
    let whole : a + b + more ≡ pairs = omega (arith, l) in
    let product : pairs * n ≡ a * n + b * n + more * n = ap (λ m. m * n) (sym whole) ∙ pairs_apart a b more n in
    omega (arith, whole, product, times_two more n some)

module _ {s : OrientedMesh} {split : SplitView} {polygon : PolygonView} (is_cut : IsCutSurface s split polygon) where
  open is_cut use {valid as o, tree as t, cut as c, some}

  -- the approach, and the way back along it and on, as loops up to spurs
  record AreByLoops (x y : ℕ) (walk approach front path : List ℕ) : Type 0 where
    there : IsWalk s.mesh (by_loop (up s split t) x y (path_loop s polygon t.parents.root (up s split t) true front))
    there_free : AreFreelyEqual s.mesh (by_loop (up s split t) x y (path_loop s polygon t.parents.root (up s split t) true front)) approach
    home : IsWalk s.mesh (by_loop (up s split t) y x
        (backward t.parents.root (path_loop s polygon t.parents.root (up s split t) true front)
        ++ path_loop s polygon t.parents.root (up s split t) true path))
    home_free : AreFreelyEqual s.mesh (by_loop (up s split t) y x
        (backward t.parents.root (path_loop s polygon t.parents.root (up s split t) true front)
        ++ path_loop s polygon t.parents.root (up s split t) true path))
        (y ∷ (backward x (drop 1 approach) ++ drop 1 walk))

  by_loops : {walks : List (List ℕ)} {front approach : List ℕ} {y : ℕ} (path walk : List ℕ)
      → IsByTree s split polygon walks front (get_or walk 0 0) y approach → IsWalk s.mesh walk → last_of walk ≡ get_or walk 0 0
      → IsFreelyPath s split polygon path walk → AreByLoops (get_or walk 0 0) y walk approach front path
  by_loops {walks} {front} {approach} {y} path walk by w closed is_path =
      let mesh : FaceList = s.mesh in
      let x : ℕ = get_or walk 0 0 in
      let root : ℕ = t.parents.root in
      let ways : ℕ → List ℕ = up s split t in
      let own : AreWaysUp s split root ways = λ v used. up_path s split t v used in
      let hw : HasWays mesh root ways = has_ways s split o t ways own in
      let eq = free_equality mesh in
      let f : Loop mesh root = record {
        rest = path_loop s polygon root ways true front;
        is_way = path_way is_cut ways own true front;
      } in
      let p : Loop mesh root = record {
        rest = path_loop s polygon root ways true path;
        is_way = path_way is_cut ways own true path;
      } in
      let here : GoesFrom mesh x (last_of walk) walk = walk_goes mesh walk w in
      let more_way : IsWay mesh x x here.rest = subst (λ (v : ℕ). IsWay mesh x v here.rest) closed here.way in
      let to : GoesFrom mesh x y approach = approach_goes is_cut by in
      let go_list : List ℕ = ways x ++ (f.rest ++ backward y (ways y)) in
      let go_way : IsWay mesh x y go_list =
      subst (λ (k : List ℕ). IsWay mesh x y (ways x ++ (f.rest ++ k))) (sym (backward_is y (ways y)))
      (whole_way mesh root ways hw x y f by.starts by.used) in
      let goes : AreFreelyEqual mesh (x ∷ go_list) approach =
      approach_free is_cut ways own by in
      let go_walk : IsWalk mesh (x ∷ go_list) = way_walk mesh x y go_list go_way in
      let there_is : SameFreely (loop_of mesh root ways hw x y to.rest to.way) f =
      loop_by mesh root ways hw x y to.rest f to.way
      (eq.turn (x ∷ go_list) (x ∷ to.rest) go_walk (subst (AreFreelyEqual mesh (x ∷ go_list)) to.walk_is goes)) in
      let more_is : SameFreely (loop_of mesh root ways hw x x here.rest more_way) p =
      loop_by mesh root ways hw x x here.rest p more_way
      (subst (λ (l : List ℕ). AreFreelyEqual mesh l (by_loop ways x x p.rest)) here.walk_is (is_path root ways own)) in
      let home : List ℕ = back x to.rest ++ here.rest in
      let home_way : IsWay mesh y x home = way_on mesh y x x (back x to.rest) here.rest (way_home mesh x y to.rest to.way) more_way in
      let by_both : AreFreelyEqual mesh (y ∷ home) (y ∷ (ways y ++ ((back root f.rest ++ p.rest) ++ back x (ways x)))) =
      back_by_loops mesh root ways hw x y to.rest here.rest f p to.way more_way there_is more_is in
      let shape : y ∷ (ways y ++ ((back root f.rest ++ p.rest) ++ back x (ways x))) ≡ by_loop ways y x (backward root f.rest ++ p.rest) =
      ap (λ (k : List ℕ). y ∷ (ways y ++ ((k ++ p.rest) ++ back x (ways x)))) (sym (backward_is root f.rest))
      ∙ ap (λ (k : List ℕ). y ∷ (ways y ++ ((backward root f.rest ++ p.rest) ++ k))) (sym (backward_is x (ways x))) in
      let by_home : AreFreelyEqual mesh (y ∷ home) (by_loop ways y x (backward root f.rest ++ p.rest)) =
      subst (AreFreelyEqual mesh (y ∷ home)) shape by_both in
      let home_walk : IsWalk mesh (y ∷ home) = way_walk mesh y x home home_way in
      let lists : back x to.rest ++ here.rest ≡ backward x (drop 1 approach) ++ drop 1 walk =
      ap (λ (l : List ℕ). l ++ here.rest) (sym (backward_is x to.rest))
      ∙ ap (λ (l : List ℕ). backward x l ++ here.rest) (sym (ap (drop 1) to.walk_is))
      ∙ ap (λ (l : List ℕ). backward x (drop 1 approach) ++ l) (sym (ap (drop 1) here.walk_is)) in
      record {
        there = go_walk;
        there_free = goes;
        home = list_keeps_walk mesh by_home.0 (y ∷ home) (by_loop ways y x (backward root f.rest ++ p.rest)) home_walk by_home.2;
        home_free = subst (λ (l : List ℕ). AreFreelyEqual mesh (by_loop ways y x (backward root f.rest ++ p.rest)) (y ∷ l)) lists
            (eq.turn (y ∷ home) (by_loop ways y x (backward root f.rest ++ p.rest)) home_walk by_home);
      }

  -- the approach is short
  approach_short : {walks : List (List ℕ)} {front path approach : List ℕ} {x y pairs : ℕ}
      → IsWalk s.mesh (by_loop (up s split t) x y (path_loop s polygon t.parents.root (up s split t) true front))
      → AreFreelyEqual s.mesh (by_loop (up s split t) x y (path_loop s polygon t.parents.root (up s split t) true front)) approach
      → IsByTree s split polygon walks front x y approach → HasNoSpur approach
      → (short : AreShortAround s split polygon front path pairs)
      → 2 * darts approach + 6 * short.there + 2 ≤ 3 * (short.there * darts_of s) + darts_of s
  approach_short {front = front} {approach = approach} {x} {y} walk free by clean short =
      let ways : ℕ → List ℕ = up s split t in
      shortest s short.there (by_loop ways x y (path_loop s polygon t.parents.root ways true front)) approach walk free clean
      (subst (λ v. IsFreelyShort s short.there (by_loop ways x v (path_loop s polygon t.parents.root ways true front))) (sym by.there)
      (short.short_there t.parents.root ways x (λ v used. up_path s split t v used) by.starts))

  -- The peak keeps the bound.
  pub loop_rises : {walks : List (List ℕ)} {front approach : List ℕ} {y : ℕ} (path walk : List ℕ) (behind pairs old new : ℕ)
      → IsByTree s split polygon walks front (get_or walk 0 0) y approach → IsWalk s.mesh walk → last_of walk ≡ get_or walk 0 0
      → HasNoSpur approach → IsFreelyPath s split polygon path walk → AreShortAround s split polygon front path pairs
      → RisesWithTurn approach walk behind (darts_of s) old new → KeepsBound (darts_of s) behind pairs old new
  loop_rises {walks} {front} {approach} {y} path walk behind pairs old new by w closed clean is_path short rises bound begun room =
      let mesh : FaceList = s.mesh in
      let x : ℕ = get_or walk 0 0 in
      let ways : ℕ → List ℕ = up s split t in
      let own : AreWaysUp s split t.parents.root ways = λ v used. up_path s split t v used in
      let loops = by_loops path walk by w closed is_path in
      let home_short : IsFreelyShort s short.back (by_loop ways y x
      (backward t.parents.root (path_loop s polygon t.parents.root ways true front) ++ path_loop s polygon t.parents.root ways true path)) =
      subst (λ v. IsFreelyShort s short.back (by_loop ways v x
      (backward t.parents.root (path_loop s polygon t.parents.root ways true front) ++ path_loop s polygon t.parents.root ways true path)))
      (sym by.there) (short.short_back t.parents.root ways x own by.starts) in
      let out = approach_short loops.there loops.there_free by clean short in
      let ends : AreFreelyEqual mesh (y ∷ (backward x (drop 1 approach) ++ drop 1 walk)) rises.back =
      subst (λ v. AreFreelyEqual mesh (v ∷ (backward x (drop 1 approach) ++ drop 1 walk)) rises.back) (goes_end (approach_goes is_cut by))
      (rises.freely mesh (goes_walk (approach_goes is_cut by))) in
      let home_loop : List ℕ = by_loop ways y x
      (backward t.parents.root (path_loop s polygon t.parents.root ways true front) ++ path_loop s polygon t.parents.root ways true path) in
      let on : 2 * darts rises.back + 6 * short.back + 2 ≤ 3 * (short.back * darts_of s) + darts_of s =
      shortest s short.back home_loop rises.back loops.home
      ((free_equality mesh).on home_loop (y ∷ (backward x (drop 1 approach) ++ drop 1 walk)) rises.back loops.home_free ends)
      rises.no_spur home_short in
      let sides : 2 ≤ darts_of s = omega (arith, few_vertices s split polygon o t c some) in
      omega (arith, out, on, fewer_pairs short.there short.back pairs (darts_of s) short.together sides, rises.peak, begun, room)

  -- All these walks together are short enough to be counted.
  pub loop_room : {walks : List (List ℕ)} {front approach : List ℕ} {y : ℕ} (path walk turn : List ℕ) (behind peak pairs : ℕ)
      → IsByTree s split polygon walks front (get_or walk 0 0) y approach → IsWalk s.mesh walk → last_of walk ≡ get_or walk 0 0
      → HasNoSpur approach → HasNoSpur walk → IsFreelyPath s split polygon path walk
      → AreShortAround s split polygon front path (pairs + 1) → All (λ i. i < polygon.degree) path → length path ≤ 2 * pairs
      → pairs ≤ MOST_LIFTED_DARTS → behind ≤ MOST_LIFTED_DARTS → darts_of s ≤ MOST_LIFTED_SIDES → darts turn ≤ darts_of s
      → peak ≤ darts_of s → 2 * length approach + length walk + length turn + behind + peak < 2147483648
  loop_room {walks} {front} {approach} {y} path walk turn behind peak pairs by w closed clean other is_path short below few few_pairs
      few_behind few_sides turn_few low =
      let mesh : FaceList = s.mesh in
      let n : ℕ = darts_of s in
      let x : ℕ = get_or walk 0 0 in
      let root : ℕ = t.parents.root in
      let ways : ℕ → List ℕ = up s split t in
      let own : AreWaysUp s split root ways = λ v used. up_path s split t v used in
      let loops = by_loops path walk by w closed is_path in
      let out = approach_short loops.there loops.there_free by clean short in
      let whole : List ℕ = by_loop ways x x (path_loop s polygon root ways true path) in
      let to : AreFreelyEqual mesh walk whole = is_path root ways own in
      let round : 2 * darts walk + 6 * pairs + 2 ≤ 3 * (pairs * n) + n =
      shortest s pairs whole walk (list_keeps_walk mesh to.0 walk whole w to.2) ((free_equality mesh).turn walk whole w to) other
      (spokes_short s split polygon root ways x x pairs path o t c some own by.starts by.starts below few) in
      let there_few : short.there ≤ 513 = omega (arith, short.together, few_pairs) in
      let one : short.there * n ≤ 513 * n = mul-le-mul_right n there_few in
      let two : pairs * n ≤ MOST_LIFTED_DARTS * n = mul-le-mul_right n few_pairs in
      omega (arith, out, round, one, two, few_sides, few_behind, turn_few, low)
