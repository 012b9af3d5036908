-- The laws on walks and loops as lists, from those on the loops of a split.
use Rattle.polygon_cut.proofs.Common.{rotation_system, names_all, darts_of, twin_of, origin_of, face_of, OrientedMesh, IsOrientedSurface, rotations_of, PolygonView, IsCutFrom, side_at, across, AreWaysUp, way_round, way_back_round, backward, dart_loop, spoke_loop, path_loop, by_loop, spokes_along, HaveFreeSpokes, last_side, last_side_loop, across_last, put_behind, comes_back, PutBehind, ArePushedFreely, ArePushedWithLoop, LeavesCotree, IsOffCotree, ◌≡◌, inl, inr, ℕ, zero, suc, ◌+◌, ◌-◌, ◌<◌, Bool, true, false, not, List, [], ◌∷◌, ◌++◌, length, refl, ap, sym, ◌∙◌, subst, arith, get_or-eq_default, cases_lt, append-nil, All, slice_index, list_keeps_walk, list_keeps_ends, FaceList, face_at, is_used, AreFreelyEqual, Leads, IsPath, IsWalk, Move, parents_upward, SplitView, IsSplit, StepsToParent}
use Rattle.polygon_cut.proofs.RelatorLemmas.{spoke_product, ends_at_vertex, loop_in, free_push}
use Rattle.polygon_cut.proofs.GroupWordLemmas.{Var, One, Mul, Inv, by_words}
use Rattle.polygon_cut.proofs.FreeProductLemmas.{way_end, product_back}
use Rattle.polygon_cut.proofs.WayLemmas.{IsWay, way_walk, start_used, end_used, way_home, back, HasWays, Loop, loop_mul, loop_inv, loop_of}
use Rattle.polygon_cut.proofs.CongruenceLemmas as Congruence
use Rattle.polygon_cut.proofs.FreeLoopLemmas.{SameFreely, free_equality}
use Rattle.polygon_cut.proofs.FreeSpokeLemmas.{free_group}
use Rattle.polygon_cut.proofs.FreeRoundLemmas.{steps_turn}
use Rattle.polygon_cut.proofs.FreeMoveLemmas.{walk_value, moves_keep_value}
use Rattle.polygon_cut.proofs.FreeWayLemmas.{off_cotree, path_along, path_value, root_round}
use Rattle.polygon_cut.proofs.FreeQuadLemmas.{last_loop, free_quads, last_pushes}
use Rattle.polygon_cut.proofs.FaceRoundLemmas.{corners_read, dir, vertices_on, comes_round}
use Rattle.polygon_cut.proofs.WalkLemmas.{walk_way, other_way}
use Rattle.polygon_cut.proofs.TreeWayLemmas.{up, tree_ways, up_path, one_path}
use Rattle.polygon_cut.proofs.DartLoopLemmas.{Loops, pick_value, value, spoke, ends_on, one_of}

-- the tree's root, and the ways up to it, are one
pub root_is : (s : OrientedMesh) (split : SplitView) → IsOrientedSurface s → (t : IsSplit s split) → (root : ℕ) (ups : ℕ → List ℕ)
    → AreWaysUp s split root ups → t.parents.root ≡ root
root_is s split o t root ups h = by (ups t.parents.root) (h t.parents.root t.parents.root_used)
  where
    by : (path : List ℕ) → IsPath (StepsToParent (rotations_of s) split) t.parents.root path root → t.parents.root ≡ root
    by [] p = p
    by (w ∷ path) p = absurd ((parents_upward s split o t).top w p.0)

pub up_is : (s : OrientedMesh) (split : SplitView) → IsOrientedSurface s → (t : IsSplit s split) → (ups : ℕ → List ℕ)
    → AreWaysUp s split t.parents.root ups → (v : ℕ) → is_used s.mesh v ≡ true
    → ups v ≡ up s split t v
up_is s split o t ups h v used = one_path s split o t v (ups v) (up s split t v) (h v used) (up_path s split t v used)

pub backward_is : (u : ℕ) (rest : List ℕ) → backward u rest ≡ back u rest
backward_is u [] = refl
backward_is u (v ∷ rest) = ap (λ (l : List ℕ). l ++ u ∷ []) (backward_is v rest)

value_list : {s : OrientedMesh} {split : SplitView} (o : IsOrientedSurface s) (t : IsSplit s split) (d : ℕ) → d < darts_of s
    → back (origin_of s d) (up s split t (origin_of s d)) ++ (origin_of s (twin_of s d) ∷ up s split t (origin_of s (twin_of s d)))
    ≡ (value s split o t d).rest
unfolding pick_value
value_list {s} {split} o t d l = go (cases_lt d (darts_of s))
  where
    go : (c : _) → back (origin_of s d) (up s split t (origin_of s d)) ++ (origin_of s (twin_of s d) ∷ up s split t
        (origin_of s (twin_of s d))) ≡ (pick_value s split o t d c).rest
    go (inl k) = refl
    go (inr k) = absurd (omega arith)

pub loop_list : (s : OrientedMesh) (split : SplitView) (o : IsOrientedSurface s) (t : IsSplit s split) (ups : ℕ → List ℕ)
    → AreWaysUp s split t.parents.root ups → (d : ℕ) → d < darts_of s
    → dart_loop s ups d ≡ (value s split o t d).rest
loop_list s split o t ups h d l =
    let u : ℕ = origin_of s d in
    let w : ℕ = origin_of s (twin_of s d) in
    let u_up : ups u ≡ up s split t u = up_is s split o t ups h u ((names_all s o).vertex_used d l) in
    let w_up : ups w ≡ up s split t w =
    up_is s split o t ups h w ((names_all s o).vertex_used (twin_of s d) ((rotation_system s o).twin_within d l)) in
    ap (λ (l : List ℕ). l ++ w ∷ ups w) (backward_is u (ups u)) ∙ ap (λ (x : List ℕ). back u x ++ w ∷ ups w) u_up
    ∙ ap (λ (x : List ℕ). back u (up s split t u) ++ w ∷ x) w_up ∙ value_list o t d l

-- each number names a dart
pub side_in : (s : OrientedMesh) (split : SplitView) (polygon : PolygonView) → IsCutFrom s split polygon → 0 < polygon.degree → (i : ℕ)
    → side_at polygon i < darts_of s
side_in s split polygon c some i = elim (cases_lt i polygon.degree) [
  | inl less ↦ ((c.labels some).side_is_left i less).0
  | inr more ↦
      let first : side_at polygon 0 < darts_of s = ((c.labels some).side_is_left 0 some).0 in
      let none : side_at polygon i ≡ 0 = get_or-eq_default polygon.sides 0 (omega (arith, (c.labels some).each_side, more)) in
      omega (arith, none, first)
]

pub spoke_list : (s : OrientedMesh) (split : SplitView) (o : IsOrientedSurface s) (t : IsSplit s split) (polygon : PolygonView)
    → IsCutFrom s split polygon → 0 < polygon.degree
    → (ups : ℕ → List ℕ) → AreWaysUp s split t.parents.root ups → (i : ℕ)
    → spoke_loop s polygon t.parents.root ups i ≡ (spoke s split o t polygon i).rest
unfolding spoke
spoke_list s split o t polygon c some ups h zero = refl
spoke_list s split o t polygon c some ups h (suc i) =
    let root : ℕ = t.parents.root in
    let d : ℕ = side_at polygon i in
    ap (λ (x : List ℕ). x ++ spoke_loop s polygon root ups i) (backward_is root (dart_loop s ups d)
    ∙ ap (back root) (loop_list s split o t ups h d (side_in s split polygon c some i)))
    ∙ ap (λ (x : List ℕ). back root (value s split o t d).rest ++ x) (spoke_list s split o t polygon c some ups h i)

pub path_list : (s : OrientedMesh) (split : SplitView) (o : IsOrientedSurface s) (t : IsSplit s split) (polygon : PolygonView)
    → IsCutFrom s split polygon → 0 < polygon.degree
    → (ups : ℕ → List ℕ) → AreWaysUp s split t.parents.root ups → (along : Bool) (path : List ℕ)
    → path_loop s polygon t.parents.root ups along path
    ≡ (spoke_product loop_mul loop_inv (one_of s split t) (spoke s split o t polygon) along path).rest
path_list s split o t polygon c some ups h along [] = refl
path_list s split o t polygon c some ups h true (i ∷ path) =
    let root : ℕ = t.parents.root in
    ap (λ (x : List ℕ). x ++ path_loop s polygon root ups false path) (spoke_list s split o t polygon c some ups h i)
    ∙ ap (λ (x : List ℕ). (spoke s split o t polygon i).rest ++ x) (path_list s split o t polygon c some ups h false path)
path_list s split o t polygon c some ups h false (i ∷ path) =
    let root : ℕ = t.parents.root in
    ap (λ (x : List ℕ). x ++ path_loop s polygon root ups true path)
    (backward_is root (spoke_loop s polygon root ups i) ∙ ap (back root) (spoke_list s split o t polygon c some ups h i))
    ∙ ap (λ (x : List ℕ). back root (spoke s split o t polygon i).rest ++ x) (path_list s split o t polygon c some ups h true path)

pub turned_parity : (at_vertex : Bool) (path : List ℕ) → ends_at_vertex (not at_vertex) path ≡ not (ends_at_vertex at_vertex path)
turned_parity at_vertex [] = refl
turned_parity at_vertex (i ∷ path) = turned_parity (not at_vertex) path

pub parity : (path : List ℕ) → ends_at_vertex true path ≡ comes_back path
parity [] = refl
parity (i ∷ path) = turned_parity true path ∙ ap not (parity path)

-- a walk whose loop is another is that loop, up the tree before and down the tree behind
pub by_own_loop : (mesh : FaceList) (root : ℕ) (up : ℕ → List ℕ) (ways : HasWays mesh root up) (u v : ℕ) (rest : List ℕ)
    (h : IsWay mesh u v rest) (loop : Loop mesh root)
    → SameFreely (loop_of mesh root up ways u v rest h) loop → AreFreelyEqual mesh (u ∷ rest) (u ∷ (up u ++ (loop.rest ++ back v (up v))))
by_own_loop mesh root up ways u v rest h loop same = Congruence.by_own_loop (free_equality mesh) ways u v rest h loop same

-- the same in the words of the laws
pub by_loop_is : (s : OrientedMesh) (split : SplitView) → IsOrientedSurface s → (t : IsSplit s split) → (ups : ℕ → List ℕ)
    → AreWaysUp s split t.parents.root ups → (u v : ℕ) (loop : List ℕ)
    → is_used s.mesh u ≡ true → is_used s.mesh v ≡ true → by_loop ups u v loop ≡ u ∷ (up s split t u ++ (loop ++ back v (up s split t v)))
by_loop_is s split o t ups h u v loop u_used v_used =
    ap (λ (x : List ℕ). u ∷ (x ++ (loop ++ backward v (ups v)))) (up_is s split o t ups h u u_used)
    ∙ ap (λ (x : List ℕ). u ∷ (up s split t u ++ (loop ++ x))) (backward_is v (ups v) ∙ ap (back v) (up_is s split o t ups h v v_used))

pub off_walk : (s : OrientedMesh) (split : SplitView) (o : IsOrientedSurface s) (t : IsSplit s split) (polygon : PolygonView) (ups : ℕ
    → List ℕ) → AreWaysUp s split t.parents.root ups
    → (u v : ℕ) (rest : List ℕ) → IsWay s.mesh u v rest → IsOffCotree s split (u ∷ rest) → (loop : Loops s split t)
    → SameFreely (walk_value s split o t polygon (u ∷ rest)) loop → AreFreelyEqual s.mesh (u ∷ rest) (by_loop ups u v loop.rest)
off_walk s split o t polygon ups h u v rest way off loop same =
    let root : ℕ = t.parents.root in
    let ways : HasWays s.mesh root (up s split t) = tree_ways s split o t in
    let own : Loops s split t = loop_of s.mesh root (up s split t) ways u v rest way in
    let is : SameFreely own loop =
    (free_group s split t).on own (walk_value s split o t polygon (u ∷ rest)) loop (off_cotree o t polygon u v rest way off) same in
    subst (AreFreelyEqual s.mesh (u ∷ rest))
    (sym (by_loop_is s split o t ups h u v loop.rest (start_used s.mesh u v rest way) (end_used s.mesh u v rest way)))
    (by_own_loop s.mesh root (up s split t) ways u v rest way loop is)

pub path_is : (spokes : ℕ → ℕ → List ℕ) (u : ℕ) (rest : List ℕ) → spokes_along spokes (u ∷ rest) ≡ path_along spokes u rest
path_is spokes u [] = refl
path_is spokes u (v ∷ rest) = ap (λ (l : List ℕ). spokes u v ++ l) (path_is spokes v rest)

-- a walk led off the cotree is its spokes
pub led_off : (s : OrientedMesh) (split : SplitView) (polygon : PolygonView) (root : ℕ) (ups : ℕ → List ℕ) (spokes : ℕ → ℕ
    → List ℕ) (first second : List ℕ) (moves : List Move)
    → IsOrientedSurface s → IsSplit s split → IsCutFrom s split polygon → 0 < polygon.degree → AreWaysUp s split root ups
    → HaveFreeSpokes s polygon spokes → IsWalk s.mesh first
    → Leads s.mesh first moves second → All (LeavesCotree s split) moves → IsOffCotree s split second
    → AreFreelyEqual s.mesh second
    (by_loop ups (slice_index second 0) (slice_index second (length second - 1))
    (path_loop s polygon root ups true (spokes_along spokes first)))
led_off s split polygon root ups spokes [] second moves o t c some h each w leads keeps off = grind arith
led_off s split polygon root ups spokes (u ∷ rest) second moves o t c some h each w leads keeps off =
    by second leads off (list_keeps_walk s.mesh moves (u ∷ rest) second w leads)
  where
    own_ways : AreWaysUp s split t.parents.root ups
    own_ways = subst (λ x. AreWaysUp s split x ups) (sym (root_is s split o t root ups h)) h

    product : List ℕ → Loops s split t
    product path = spoke_product loop_mul loop_inv (one_of s split t) (spoke s split o t polygon) true path

    loop_is : (product (path_along spokes u rest)).rest ≡ path_loop s polygon root ups true (spokes_along spokes (u ∷ rest))
    loop_is =
        sym (path_list s split o t polygon c some ups own_ways true (path_along spokes u rest))
        ∙ ap (λ x. path_loop s polygon x ups true (path_along spokes u rest)) (root_is s split o t root ups h)
        ∙ ap (path_loop s polygon root ups true) (sym (path_is spokes u rest))

    by : (walk : List ℕ) → Leads s.mesh (u ∷ rest) moves walk → IsOffCotree s split walk → IsWalk s.mesh walk
        → AreFreelyEqual s.mesh walk (by_loop ups (slice_index walk 0) (slice_index walk (length walk - 1))
        (path_loop s polygon root ups true (spokes_along spokes (u ∷ rest))))
    by [] k f z = (let none : 0 < 0 = z.starts in absurd (omega arith))
    by (v ∷ others) k f z =
        let g = free_group s split t in
        let way : IsWay s.mesh u (slice_index (u ∷ rest) (length rest)) rest = walk_way s.mesh u rest w in
        let along : IsWay s.mesh v (slice_index (v ∷ others) (length others)) others = walk_way s.mesh v others z in
        let a : Loops s split t = walk_value s split o t polygon (v ∷ others) in
        let b : Loops s split t = walk_value s split o t polygon (u ∷ rest) in
        let p : Loops s split t = product (path_along spokes u rest) in
        let worth : SameFreely a p =
        g.on a b p (g.turn b a (moves_keep_value s split o t polygon c some moves (u ∷ rest) (v ∷ others) w keeps k))
        (path_value s split o t polygon c some spokes each u (slice_index (u ∷ rest) (length rest)) rest way) in
        let at_end : length others ≡ length (v ∷ others) - 1 = omega arith in
        subst (λ n. AreFreelyEqual s.mesh (v ∷ others)
        (by_loop ups v (slice_index (v ∷ others) n) (path_loop s polygon root ups true (spokes_along spokes (u ∷ rest))))) at_end
        (subst (λ (x : List ℕ). AreFreelyEqual s.mesh (v ∷ others) (by_loop ups v (slice_index (v ∷ others) (length others)) x)) loop_is
        (off_walk s split o t polygon ups own_ways v (slice_index (v ∷ others) (length others)) others along f p worth))

-- a loop along the last side, and back by its spokes, two ways to write it
pub last_loop_as : (s : OrientedMesh) (split : SplitView) → IsOrientedSurface s → (t : IsSplit s split) → PolygonView → Loops s split t
last_loop_as s split o t polygon =
    loop_mul (value s split o t (last_side polygon))
    (spoke_product loop_mul loop_inv (one_of s split t) (spoke s split o t polygon) true (0 ∷ (polygon.degree - 1) ∷ []))

pub last_loops : (s : OrientedMesh) (split : SplitView) (o : IsOrientedSurface s) (t : IsSplit s split) (polygon : PolygonView)
    → SameFreely (last_loop s split o t polygon) (last_loop_as s split o t polygon)
unfolding last_loop_as
last_loops s split o t polygon =
    by_words SameFreely loop_mul loop_inv (one_of s split t) (free_group s split t)
    (value s split o t (last_side polygon) ∷ spoke s split o t polygon 0 ∷ spoke s split o t polygon (polygon.degree - 1) ∷ [])
    (Mul (Var 0) (Mul (Var 1) (Inv (Var 2)))) (Mul (Var 0) (Mul (Var 1) (Mul (Inv (Var 2)) One))) refl

pub last_list : (s : OrientedMesh) (split : SplitView) (o : IsOrientedSurface s) (t : IsSplit s split) (polygon : PolygonView)
    → IsCutFrom s split polygon → 0 < polygon.degree
    → (ups : ℕ → List ℕ) → AreWaysUp s split t.parents.root ups
    → (last_loop_as s split o t polygon).rest ≡ last_side_loop s polygon t.parents.root ups
unfolding last_loop_as
last_list s split o t polygon c some ups h =
    let path : List ℕ = 0 ∷ (polygon.degree - 1) ∷ [] in
    sym
    (ap (λ (l : List ℕ). l ++ path_loop s polygon t.parents.root ups true path)
    (loop_list s split o t ups h (last_side polygon) (side_in s split polygon c some (polygon.degree - 1)))
    ∙ ap (λ (l : List ℕ). (value s split o t (last_side polygon)).rest ++ l) (path_list s split o t polygon c some ups h true path))

-- A closed walk that is worth a loop, led off the cotree, is that loop.
led_closed : {s : OrientedMesh} {split : SplitView} (o : IsOrientedSurface s) (t : IsSplit s split) {polygon : PolygonView}
    → IsCutFrom s split polygon → 0 < polygon.degree
    → (ups : ℕ → List ℕ) → AreWaysUp s split t.parents.root ups → (u : ℕ) (rest second : List ℕ) (moves : List Move) → IsWay s.mesh u u rest
    → (loop : Loops s split t)
    → SameFreely (walk_value s split o t polygon (u ∷ rest)) loop → Leads s.mesh (u ∷ rest) moves second → All (LeavesCotree s split) moves
    → IsOffCotree s split second
    → AreFreelyEqual s.mesh second (by_loop ups u u loop.rest)
led_closed {s} {split} o t {polygon} c some ups h u rest second moves way loop worth leads keeps off = by second leads off
  where
    is_walk : IsWalk s.mesh (u ∷ rest)
    is_walk = way_walk s.mesh u u rest way

    by : (walk : List ℕ) → Leads s.mesh (u ∷ rest) moves walk → IsOffCotree s split walk
        → AreFreelyEqual s.mesh walk (by_loop ups u u loop.rest)
    by [] k f =
        let none : 0 < 0 = (list_keeps_walk s.mesh moves (u ∷ rest) [] is_walk k).starts in
        absurd (omega arith)
    by (v ∷ others) k f =
        let g = free_group s split t in
        let z : IsWalk s.mesh (v ∷ others) = list_keeps_walk s.mesh moves (u ∷ rest) (v ∷ others) is_walk k in
        let ends = list_keeps_ends s.mesh moves (u ∷ rest) (v ∷ others) is_walk.starts k in
        let own_end : slice_index (u ∷ rest) (length rest) ≡ u =
        sym (way_end s.mesh u (slice_index (u ∷ rest) (length rest)) rest (walk_way s.mesh u rest is_walk)) ∙ way_end s.mesh u u rest way in
        let along : IsWay s.mesh u u others = subst (λ x. IsWay s.mesh u x others) own_end (other_way s.mesh u v rest others z ends) in
        let starts : v ≡ u = sym ends.starts in
        let a : Loops s split t = walk_value s split o t polygon (v ∷ others) in
        let b : Loops s split t = walk_value s split o t polygon (u ∷ rest) in
        let same : SameFreely a loop =
        g.on a b loop (g.turn b a (moves_keep_value s split o t polygon c some moves (u ∷ rest) (v ∷ others) is_walk keeps k)) worth in
        subst (λ x. AreFreelyEqual s.mesh (x ∷ others) (by_loop ups u u loop.rest)) (sym starts)
        (off_walk s split o t polygon ups h u u others along (subst (λ x. IsOffCotree s split (x ∷ others)) starts f) loop
        (subst (λ x. SameFreely (walk_value s split o t polygon (x ∷ others)) loop) starts same))

-- the way once round the root face
record IsRound (s : OrientedMesh) (split : SplitView) (polygon : PolygonView) (d : ℕ) : Type 0 where
  rest : List ℕ
  round_is : way_round s split d ≡ origin_of s d ∷ rest
  rest_is : rest ≡ vertices_on s (length (face_at s.mesh (face_of s d))) d
  way : IsWay s.mesh (origin_of s d) (origin_of s d) rest

goes_round : {s : OrientedMesh} {split : SplitView} {polygon : PolygonView} → IsOrientedSurface s → IsCutFrom s split polygon
    → 0 < polygon.degree
    → IsRound s split polygon (last_side polygon)
unfolding dir
goes_round {s} {split} {polygon} o c some =
    let d : ℕ = last_side polygon in
    let l : d < darts_of s = side_in s split polygon c some (polygon.degree - 1) in
    let m : ℕ = length (face_at s.mesh (face_of s d)) in
    record {
      rest = vertices_on s m d;
      round_is = grind (arith, corners_read);
      rest_is = refl;
      way = subst (λ x. IsWay s.mesh (origin_of s d) (origin_of s x) (vertices_on s m d)) (comes_round o d l) (ends_on o m d l);
    }

-- it is worth the loop of the last side
round_worth : {s : OrientedMesh} {split : SplitView} (o : IsOrientedSurface s) (t : IsSplit s split) {polygon : PolygonView}
    → IsCutFrom s split polygon → 0 < polygon.degree
    → (r : IsRound s split polygon (last_side polygon))
    → SameFreely (walk_value s split o t polygon (origin_of s (last_side polygon) ∷ r.rest)) (last_loop_as s split o t polygon)
round_worth {s} {split} o t {polygon} c some r =
    let d : ℕ = last_side polygon in
    let g = free_group s split t in
    let whole : Loops s split t = walk_value s split o t polygon (origin_of s d ∷ vertices_on s (length (face_at s.mesh (face_of s d)))
    d) in
    subst (λ (l : List ℕ). SameFreely (walk_value s split o t polygon (origin_of s d ∷ l)) (last_loop_as s split o t polygon))
    (sym r.rest_is) (g.on whole (last_loop s split o t polygon) (last_loop_as s split o t polygon) (root_round o t c some d refl)
    (last_loops s split o t polygon))

-- the way once round the root face, led off the cotree, is the loop of the last side
pub led_round : (s : OrientedMesh) (split : SplitView) (polygon : PolygonView) (root : ℕ) (ups : ℕ
    → List ℕ) (second : List ℕ) (moves : List Move)
    → IsOrientedSurface s → IsSplit s split → IsCutFrom s split polygon → 0 < polygon.degree → AreWaysUp s split root ups
    → Leads s.mesh (way_round s split (last_side polygon)) moves second → All (LeavesCotree s split) moves → IsOffCotree s split second
    → AreFreelyEqual s.mesh second (by_loop ups (origin_of s (last_side polygon)) (origin_of s (last_side polygon))
    (last_side_loop s polygon root ups))
led_round s split polygon root ups second moves o t c some h leads keeps off =
    let d : ℕ = last_side polygon in
    let r : IsRound s split polygon d = goes_round o c some in
    let own_ways : AreWaysUp s split t.parents.root ups = subst (λ x. AreWaysUp s split x ups) (sym (root_is s split o t root ups h)) h in
    let loop : Loops s split t = last_loop_as s split o t polygon in
    let loop_is : loop.rest ≡ last_side_loop s polygon root ups =
    last_list s split o t polygon c some ups own_ways ∙ ap (λ x. last_side_loop s polygon x ups) (root_is s split o t root ups h) in
    subst (λ (x : List ℕ). AreFreelyEqual s.mesh second (by_loop ups (origin_of s d) (origin_of s d) x)) loop_is
    (led_closed o t c some ups own_ways (origin_of s d) r.rest second moves r.way loop (round_worth o t c some r)
    (subst (λ (l : List ℕ). Leads s.mesh l moves second) r.round_is leads) keeps off)

-- the way back round it is the way back along that loop
pub led_back_round : (s : OrientedMesh) (split : SplitView) (polygon : PolygonView) (root : ℕ) (ups : ℕ
    → List ℕ) (second : List ℕ) (moves : List Move)
    → IsOrientedSurface s → IsSplit s split → IsCutFrom s split polygon → 0 < polygon.degree → AreWaysUp s split root ups
    → Leads s.mesh (way_back_round s split (last_side polygon)) moves second → All (LeavesCotree s split) moves → IsOffCotree s split second
    → AreFreelyEqual s.mesh second
    (by_loop ups (origin_of s (last_side polygon)) (origin_of s (last_side polygon)) (backward root (last_side_loop s polygon root ups)))
led_back_round s split polygon root ups second moves o t c some h leads keeps off =
    let d : ℕ = last_side polygon in
    let u : ℕ = origin_of s d in
    let g = free_group s split t in
    let r : IsRound s split polygon d = goes_round o c some in
    let own_ways : AreWaysUp s split t.parents.root ups = subst (λ x. AreWaysUp s split x ups) (sym (root_is s split o t root ups h)) h in
    let loop : Loops s split t = last_loop_as s split o t polygon in
    let there : Loops s split t = walk_value s split o t polygon (u ∷ r.rest) in
    let home : Loops s split t = walk_value s split o t polygon (u ∷ back u r.rest) in
    let loop_is : loop.rest ≡ last_side_loop s polygon root ups =
    last_list s split o t polygon c some ups own_ways ∙ ap (λ x. last_side_loop s polygon x ups) (root_is s split o t root ups h) in
    let back_is : back t.parents.root loop.rest ≡ backward root (last_side_loop s polygon root ups) =
    ap (λ x. back x loop.rest) (root_is s split o t root ups h) ∙ ap (back root) loop_is
    ∙ sym (backward_is root (last_side_loop s polygon root ups)) in
    let way_is : way_back_round s split d ≡ u ∷ back u r.rest = grind (arith, backward_is) in
    let home_is : SameFreely home (loop_inv there) = grind (arith, product_back, one_of, steps_turn) in
    let worth : SameFreely home (loop_inv loop) =
    g.on home (loop_inv there) (loop_inv loop) home_is (g.inv_same there loop (round_worth o t c some r)) in
    subst (λ (x : List ℕ). AreFreelyEqual s.mesh second (by_loop ups u u x)) back_is
    (led_closed o t c some ups own_ways u (back u r.rest) second moves (way_home s.mesh u u r.rest r.way) (loop_inv loop) worth
    (subst (λ (l : List ℕ). Leads s.mesh l moves second) way_is leads) keeps off)

-- the product of a list of spokes
pub product_of : {s : OrientedMesh} {split : SplitView} → IsOrientedSurface s → (t : IsSplit s split) → PolygonView → List ℕ
    → Loops s split t
product_of {s} {split} o t polygon path = spoke_product loop_mul loop_inv (one_of s split t) (spoke s split o t polygon) true path

-- products of spokes as loops in the words of the laws
record InWords (s : OrientedMesh) (split : SplitView) (o : IsOrientedSurface s) (t : IsSplit s split) (polygon : PolygonView) (root : ℕ)
    (ups : ℕ → List ℕ) : Type 0 where
  path : (x y : List ℕ) → SameFreely (product_of o t polygon x) (product_of o t polygon y)
      → AreFreelyEqual s.mesh (root ∷ path_loop s polygon root ups true x) (root ∷ path_loop s polygon root ups true y)
  with_loop : (x front y : List ℕ) → SameFreely (product_of o t polygon x)
      (loop_in loop_mul loop_inv (product_of o t polygon front) (last_loop s split o t polygon) (product_of o t polygon y))
      → AreFreelyEqual s.mesh (root ∷ path_loop s polygon root ups true x)
      (root ∷ put_behind root (path_loop s polygon root ups true front) (last_side_loop s polygon root ups)
      (path_loop s polygon root ups true y))

in_words : {s : OrientedMesh} {split : SplitView} (o : IsOrientedSurface s) (t : IsSplit s split) {polygon : PolygonView}
    → IsCutFrom s split polygon → 0 < polygon.degree
    → (root : ℕ) (ups : ℕ → List ℕ) → AreWaysUp s split root ups → InWords s split o t polygon root ups
unfolding product_of
in_words {s} {split} o t {polygon} c some root ups h =
    subst (λ x. InWords s split o t polygon x ups) (root_is s split o t root ups h)
    (at_root (subst (λ x. AreWaysUp s split x ups) (sym (root_is s split o t root ups h)) h))
  where
    at_root : AreWaysUp s split t.parents.root ups → InWords s split o t polygon t.parents.root ups
    at_root own =
        let root : ℕ = t.parents.root in
        let g = free_group s split t in
        let list : (x : List ℕ) → (product_of o t polygon x).rest ≡ path_loop s polygon root ups true x =
        λ x. sym (path_list s split o t polygon c some ups own true x) in
        record {
          path = λ x y same. subst (λ (l : List ℕ). AreFreelyEqual s.mesh (root ∷ l) (root ∷ path_loop s polygon root ups true y)) (list x)
              (subst (λ (l : List ℕ). AreFreelyEqual s.mesh (root ∷ (product_of o t polygon x).rest) (root ∷ l)) (list y) same);
          with_loop = λ x front y same.
              let a : Loops s split t = product_of o t polygon x in
              let f : Loops s split t = product_of o t polygon front in
              let b : Loops s split t = product_of o t polygon y in
              let one_loop : Loops s split t = last_loop s split o t polygon in
              let other_loop : Loops s split t = last_loop_as s split o t polygon in
              let rest : Loops s split t = loop_mul (loop_inv f) b in
              let put : SameFreely a (loop_in loop_mul loop_inv f other_loop b) =
              g.on a (loop_in loop_mul loop_inv f one_loop b) (loop_in loop_mul loop_inv f other_loop b) same
              (g.mul_same f f (loop_mul one_loop rest) (loop_mul other_loop rest) (g.itself f)
              (g.mul_same one_loop other_loop rest rest (last_loops s split o t polygon) (g.itself rest))) in
              let shape : f.rest ++ (other_loop.rest ++ (back root f.rest ++ b.rest))
              ≡ put_behind root (path_loop s polygon root ups true front) (last_side_loop s polygon root ups)
              (path_loop s polygon root ups true y) =
              ap (λ (l : List ℕ). l ++ (other_loop.rest ++ (back root l ++ b.rest))) (list front)
              ∙ ap (λ (l : List ℕ). path_loop s polygon root ups true
              front ++ (l ++ (back root (path_loop s polygon root ups true front) ++ b.rest)))
              (last_list s split o t polygon c some ups own)
              ∙ ap (λ (l : List ℕ). path_loop s polygon root ups true front ++ (last_side_loop s polygon root ups ++ (l ++ b.rest)))
              (sym (backward_is root (path_loop s polygon root ups true front)))
              ∙ ap (λ (l : List ℕ). path_loop s polygon root ups true
              front ++ (last_side_loop s polygon root ups ++ (backward root (path_loop s polygon root ups true front) ++ l))) (list y) in
              subst (λ (l : List ℕ). AreFreelyEqual s.mesh (root ∷ l)
              (root ∷ put_behind root (path_loop s polygon root ups true front) (last_side_loop s polygon root ups)
              (path_loop s polygon root ups true y))) (list x)
              (subst (λ (l : List ℕ). AreFreelyEqual s.mesh (root ∷ a.rest) (root ∷ l)) shape put);
        }

-- pushes, in the words of the laws
counted : (k : ℕ) → k + 1 ≡ suc k
counted k = omega arith

pub free_pushes : {s : OrientedMesh} {split : SplitView} {polygon : PolygonView} (root : ℕ) (ups : ℕ → List ℕ) → IsOrientedSurface s
    → IsSplit s split → IsCutFrom s split polygon
    → AreWaysUp s split root ups → (side : ℕ) → side < polygon.degree → ArePushedFreely s polygon root ups side
unfolding product_of
free_pushes {s} {split} {polygon} root ups o t c h a l =
    let some : 0 < polygon.degree = omega arith in
    let nothing : Loops s split t = one_of s split t in
    let k : ℕ = across (rotations_of s) polygon a in
    let words : InWords s split o t polygon root ups = in_words o t c some root ups h in
    let quads = free_quads s split o t polygon c in
    record {
      round_middle = λ before after even.
          subst (λ n. AreFreelyEqual s.mesh (root ∷ path_loop s polygon root ups true (before ++ a ∷ n ∷ after))
          (root ∷ path_loop s polygon root ups true (before ++ (k + 1) ∷ k ∷ after))) (sym (counted a))
          (subst (λ n. AreFreelyEqual s.mesh (root ∷ path_loop s polygon root ups true (before ++ a ∷ suc a ∷ after))
          (root ∷ path_loop s polygon root ups true (before ++ n ∷ k ∷ after))) (sym (counted k))
          (words.path (before ++ a ∷ suc a ∷ after) (before ++ suc k ∷ k ∷ after)
          (free_push SameFreely loop_mul loop_inv nothing (free_group s split t) (spoke s split o t polygon) true before after a (suc a)
          (suc k) k (parity before ∙ even) (quads.round_middle a l))));
      round_vertex = λ before after odd.
          subst (λ n. AreFreelyEqual s.mesh (root ∷ path_loop s polygon root ups true (before ++ n ∷ a ∷ after))
          (root ∷ path_loop s polygon root ups true (before ++ k ∷ (a + 1) ∷ after))) (sym (counted k))
          (subst (λ n. AreFreelyEqual s.mesh (root ∷ path_loop s polygon root ups true (before ++ suc k ∷ a ∷ after))
          (root ∷ path_loop s polygon root ups true (before ++ k ∷ n ∷ after))) (sym (counted a))
          (words.path (before ++ suc k ∷ a ∷ after) (before ++ k ∷ suc a ∷ after)
          (free_push SameFreely loop_mul loop_inv nothing (free_group s split t) (spoke s split o t polygon) false before after (suc k) a k
          (suc a) (parity before ∙ odd) (quads.round_vertex a l))));
    }

pub pushes_with_loop : (s : OrientedMesh) (split : SplitView) (polygon : PolygonView) (root : ℕ) (ups : ℕ → List ℕ) → IsOrientedSurface s
    → IsSplit s split → IsCutFrom s split polygon
    → 0 < polygon.degree → AreWaysUp s split root ups → ArePushedWithLoop s polygon root ups (polygon.degree - 1) (across_last s polygon)
unfolding product_of
pushes_with_loop s split polygon root ups o t c some h =
    let z : ℕ = polygon.degree - 1 in
    let k : ℕ = across_last s polygon in
    let words : InWords s split o t polygon root ups = in_words o t c some root ups h in
    let pushes = last_pushes s split o t polygon c some in
    let up_k : suc k ≡ k + 1 = sym (counted k) in
    record {
      from_last = λ before after even.
          subst (λ n. PutBehind s polygon root ups before (before ++ z ∷ 0 ∷ after) (before ++ n ∷ k ∷ after)) up_k
          (subst (λ (l : List ℕ). PutBehind s polygon root ups l (before ++ z ∷ 0 ∷ after) (before ++ suc k ∷ k ∷ after))
          (append-nil before) (words.with_loop (before ++ suc k ∷ k ∷ after) (before ++ []) (before ++ z ∷ 0 ∷ after)
          (pushes.from_last before after (parity before ∙ even))));
      to_last = λ before after even.
          subst (λ n. PutBehind s polygon root ups (before ++ k ∷ n ∷ []) (before ++ k ∷ n ∷ after) (before ++ 0 ∷ z ∷ after)) up_k
          (words.with_loop (before ++ 0 ∷ z ∷ after) (before ++ k ∷ suc k ∷ []) (before ++ k ∷ suc k ∷ after)
          (pushes.to_last before after (parity before ∙ even)));
      round_tail = λ before after odd.
          subst (λ n. PutBehind s polygon root ups (before ++ n ∷ []) (before ++ n ∷ z ∷ after) (before ++ k ∷ 0 ∷ after)) up_k
          (words.with_loop (before ++ k ∷ 0 ∷ after) (before ++ suc k ∷ []) (before ++ suc k ∷ z ∷ after)
          (pushes.round_tail before after (parity before ∙ odd)));
      round_head = λ before after odd.
          subst (λ n. PutBehind s polygon root ups (before ++ z ∷ []) (before ++ 0 ∷ k ∷ after) (before ++ z ∷ n ∷ after)) up_k
          (words.with_loop (before ++ z ∷ suc k ∷ after) (before ++ z ∷ []) (before ++ 0 ∷ k ∷ after)
          (pushes.round_head before after (parity before ∙ odd)));
    }
