-- Where the loop of the last side is put in, the way there and the way back and on are short: the spokes in front that the path has too
-- cancel, and the two spokes of the side across from the last one are that side.
use Rattle.polygon_cut.proofs.Common.{names_all, darts_of, twin_of, origin_of, OrientedMesh, IsOrientedSurface, PolygonView, IsCutFrom, side_at, IsFreelyShort, AreShortAround, AreWaysUp, backward, by_loop, path_loop, last_side, across_last, comes_back, ◌≡◌, ℕ, suc, ◌+◌, ◌*◌, ◌-◌, ◌<◌, ◌≤◌, Bool, true, false, List, [], ◌∷◌, ◌++◌, length, refl, ap, sym, ◌∙◌, subst, arith, length-append, append-nil, All, is_used, SplitView, IsSplit}
use Rattle.polygon_cut.proofs.GroupWordLemmas.{Var, One, Mul, Inv, by_words, by_relation}
use Rattle.polygon_cut.proofs.RelatorLemmas.{spoke_product, ends_at_vertex, spokes_on}
use Rattle.polygon_cut.proofs.WayLemmas.{IsWay, back, way_on, way_home, HasWays, loop_mul, loop_inv, loop_of}
use Rattle.polygon_cut.proofs.FreeLoopLemmas.{SameFreely, free_equality}
use Rattle.polygon_cut.proofs.TreeWayLemmas.{up, tree_ways}
use Rattle.polygon_cut.proofs.DartLoopLemmas.{Loops, dart_way, value, value_along, spoke, one_of}
use Rattle.polygon_cut.proofs.FreeSpokeLemmas.{free_group}
use Rattle.polygon_cut.proofs.FreeQuadLemmas.{side_across, spoke_across}
use Rattle.polygon_cut.proofs.FreeWayLemmas.{loop_home}
use Rattle.polygon_cut.proofs.FreeLawLemmas.{backward_is, parity, path_list, root_is, side_in}
use Rattle.polygon_cut.proofs.RingArcLemmas.{IsWorth}
use Rattle.polygon_cut.proofs.ShortWalkLemmas.{worth_on, product_of, pairs_walk, by_short}

-- the loop of a list of spokes, from the vertex or from the middle
abbrev product_from : (s : OrientedMesh) (split : SplitView) (o : IsOrientedSurface s) (t : IsSplit s split) → PolygonView → Bool → List ℕ
    → Loops s split t
product_from s split o t polygon along path = spoke_product loop_mul loop_inv (one_of s split t) (spoke s split o t polygon) along path

-- back along some spokes, and on along others: what both begin with cancels
back_over : {s : OrientedMesh} {split : SplitView} (o : IsOrientedSurface s) (t : IsSplit s split) (polygon : PolygonView)
    (along : Bool) (before more after : List ℕ) → ends_at_vertex true before ≡ along
    → SameFreely (loop_mul (loop_inv (product_of s split o t polygon (before ++ more))) (product_of s split o t polygon (before ++ after)))
    (loop_mul (loop_inv (product_from s split o t polygon along more)) (product_from s split o t polygon along after))
back_over {s} {split} o t polygon along before more after parity_is =
    let g = free_group s split t in
    let none : Loops s split t = one_of s split t in
    let S : ℕ → Loops s split t = spoke s split o t polygon in
    let p : Loops s split t = product_of s split o t polygon before in
    let m : Loops s split t = product_from s split o t polygon along more in
    let a : Loops s split t = product_from s split o t polygon along after in
    let x : Loops s split t = product_of s split o t polygon (before ++ more) in
    let y : Loops s split t = product_of s split o t polygon (before ++ after) in
    let cut : (l : List ℕ) → SameFreely (product_of s split o t polygon (before ++ l))
    (loop_mul p (product_from s split o t polygon along l)) =
    λ l. subst (λ b. SameFreely (product_of s split o t polygon (before ++ l)) (loop_mul p (product_from s split o t polygon b l)))
    parity_is (spokes_on SameFreely loop_mul loop_inv none g S true before l) in
    g.on (loop_mul (loop_inv x) y) (loop_mul (loop_inv (loop_mul p m)) (loop_mul p a)) (loop_mul (loop_inv m) a)
    (g.mul_same (loop_inv x) (loop_inv (loop_mul p m)) y (loop_mul p a) (g.inv_same x (loop_mul p m) (cut more)) (cut after))
    (by_words SameFreely loop_mul loop_inv none g (p ∷ m ∷ a ∷ []) (Mul (Inv (Mul (Var 0) (Var 1))) (Mul (Var 0) (Var 2)))
    (Mul (Inv (Var 1)) (Var 2)) refl)

-- a walk that is short, from where to where and worth which loop
record IsShortWalk (s : OrientedMesh) (split : SplitView) (t : IsSplit s split) (u v pairs : ℕ) (loop : Loops s split t) : Type 0 where
  rest : List ℕ
  few : 2 * length rest + 6 * pairs + 2 ≤ 3 * (pairs * darts_of s) + darts_of s
  way : IsWay s.mesh u v rest
  worth : IsWorth s split t u v rest loop

-- worth the same loop
short_as : (s : OrientedMesh) (split : SplitView) (t : IsSplit s split) (u v pairs : ℕ) (a b : Loops s split t) → SameFreely b a
    → IsShortWalk s split t u v pairs a → IsShortWalk s split t u v pairs b
short_as s split t u v pairs a b same h =
    record {
      rest = h.rest;
      few = h.few;
      way = h.way;
      worth = (free_equality s.mesh).on (t.parents.root ∷ _) (t.parents.root ∷ a.rest) (t.parents.root ∷ b.rest) h.worth
          ((free_group s split t).turn b a same);
    }

-- so are the walks of lists of spokes
short_pairs : {s : OrientedMesh} {split : SplitView} (o : IsOrientedSurface s) (t : IsSplit s split) {polygon : PolygonView}
    → IsCutFrom s split polygon → 0 < polygon.degree → (pairs : ℕ) (path : List ℕ) (u v : ℕ) → is_used s.mesh u ≡ true
    → is_used s.mesh v ≡ true → All (λ spoke. spoke < polygon.degree) path → length path ≤ 2 * pairs
    → IsShortWalk s split t u v pairs (product_of s split o t polygon path)
short_pairs o t c some pairs path u v used v_used below few =
    let w = pairs_walk o t c some pairs path u v used v_used below few in
    record { rest = w.rest; few = omega (arith, w.few); way = w.way; worth = w.worth }

-- the ways there and back, as walks that are worth these loops
record HaveShortWalks (s : OrientedMesh) (split : SplitView) (o : IsOrientedSurface s) (t : IsSplit s split) (polygon : PolygonView)
    (front path : List ℕ) (there back : ℕ) : Type 0 where
  go : (v : ℕ) → is_used s.mesh v ≡ true
      → IsShortWalk s split t v (origin_of s (last_side polygon)) there (product_of s split o t polygon front)
  come : (v : ℕ) → is_used s.mesh v ≡ true
      → IsShortWalk s split t (origin_of s (last_side polygon)) v back
      (loop_mul (loop_inv (product_of s split o t polygon front)) (product_of s split o t polygon path))

around : {s : OrientedMesh} {split : SplitView} {o : IsOrientedSurface s} {t : IsSplit s split} {polygon : PolygonView}
    → IsCutFrom s split polygon → 0 < polygon.degree → {front path : List ℕ} {there home : ℕ} (pairs : ℕ) → there + home ≤ pairs
    → HaveShortWalks s split o t polygon front path there home → AreShortAround s split polygon front path pairs
around {s} {split} {o} {t} {polygon} c some {front} {path} {there} {home} pairs few h =
    record {
      there = there;
      back = home;
      together = few;
      short_there = λ root ways v are_up used.
          let own : AreWaysUp s split t.parents.root ways = own_ways root ways are_up in
          let w = h.go v used in
          subst (λ x. IsFreelyShort s there (by_loop ways v end (path_loop s polygon x ways true front)))
          (root_is s split o t root ways are_up)
          (subst (λ (l : List ℕ). IsFreelyShort s there (by_loop ways v end l)) (sym (list ways own front))
          (by_short o t ways own v end there (product front) w.rest w.way w.worth w.few));
      short_back = λ root ways v are_up used.
          let own : AreWaysUp s split t.parents.root ways = own_ways root ways are_up in
          let w = h.come v used in
          let own_root : ℕ = t.parents.root in
          let loop : List ℕ → List ℕ = λ x. path_loop s polygon own_root ways true x in
          let shape : back own_root (product front).rest ++ (product path).rest ≡ backward own_root (loop front) ++ loop path =
          ap (λ (l : List ℕ). back own_root l ++ (product path).rest) (sym (list ways own front))
          ∙ ap (λ (l : List ℕ). l ++ (product path).rest) (sym (backward_is own_root (loop front)))
          ∙ ap (λ (l : List ℕ). backward own_root (loop front) ++ l) (sym (list ways own path)) in
          subst (λ x. IsFreelyShort s home (by_loop ways end v
          (backward x (path_loop s polygon x ways true front) ++ path_loop s polygon x ways true path)))
          (root_is s split o t root ways are_up) (subst (λ (l : List ℕ). IsFreelyShort s home (by_loop ways end v l)) shape
          (by_short o t ways own end v home (loop_mul (loop_inv (product front)) (product path)) w.rest w.way w.worth w.few));
    }
  where
    end : ℕ
    end = origin_of s (last_side polygon)

    product : List ℕ → Loops s split t
    product x = product_of s split o t polygon x

    own_ways : (root : ℕ) (ways : ℕ → List ℕ) → AreWaysUp s split root ways → AreWaysUp s split t.parents.root ways
    own_ways root ways h = subst (λ x. AreWaysUp s split x ways) (sym (root_is s split o t root ways h)) h

    list : (ways : ℕ → List ℕ) → AreWaysUp s split t.parents.root ways → (x : List ℕ)
        → path_loop s polygon t.parents.root ways true x ≡ (product_of s split o t polygon x).rest
    list ways own x = path_list s split o t polygon c some ways own true x

end_used : {s : OrientedMesh} {split : SplitView} {polygon : PolygonView} → IsOrientedSurface s → IsCutFrom s split polygon
    → 0 < polygon.degree → is_used s.mesh (origin_of s (last_side polygon)) ≡ true
end_used {s} {split} {polygon} o c some = (names_all s o).vertex_used (last_side polygon)
    (side_in s split polygon c some (polygon.degree - 1))

-- the loop goes in behind spokes that the path has too
pub short_behind : (s : OrientedMesh) (split : SplitView) (polygon : PolygonView) (before after : List ℕ) (there home pairs : ℕ)
    → IsOrientedSurface s → IsSplit s split → IsCutFrom s split polygon → 0 < polygon.degree → comes_back before ≡ true
    → All (λ spoke. spoke < polygon.degree) before → All (λ spoke. spoke < polygon.degree) after
    → length before ≤ 2 * there → length after ≤ 2 * home → there + home ≤ pairs
    → AreShortAround s split polygon before (before ++ after) pairs
short_behind s split polygon before after there home pairs o t c some even below later few few_later together =
    let used = end_used o c some in
    let end : ℕ = origin_of s (last_side polygon) in
    let none : Loops s split t = one_of s split t in
    let g = free_group s split t in
    around c some pairs together (record {
      go = λ v v_used. short_pairs o t c some there before v end v_used used below few;
      come = λ v v_used.
          let a : Loops s split t = product_of s split o t polygon after in
          let whole : Loops s split t = loop_mul (loop_inv (product_of s split o t polygon before))
          (product_of s split o t polygon (before ++ after)) in
          let same : SameFreely whole a = subst (λ (l : List ℕ). SameFreely (loop_mul (loop_inv (product_of s split o t polygon l))
          (product_of s split o t polygon (before ++ after))) a) (append-nil before)
          (g.on (loop_mul (loop_inv (product_of s split o t polygon (before ++ []))) (product_of s split o t polygon (before ++ after)))
          (loop_mul (loop_inv none) a) a (back_over o t polygon true before [] after (parity before ∙ even))
          (by_words SameFreely loop_mul loop_inv none g (a ∷ []) (Mul (Inv One) (Var 0)) (Var 0) refl)) in
          short_as s split t end v home a whole same (short_pairs o t c some home after end v used v_used later few_later);
    })

-- or behind one spoke more
pub short_behind_one : (s : OrientedMesh) (split : SplitView) (polygon : PolygonView) (before : List ℕ) (e : ℕ) (after : List ℕ)
    (there home pairs : ℕ) → IsOrientedSurface s → IsSplit s split → IsCutFrom s split polygon → 0 < polygon.degree
    → comes_back before ≡ false → All (λ spoke. spoke < polygon.degree) (before ++ e ∷ [])
    → All (λ spoke. spoke < polygon.degree) (e ∷ after)
    → length before < 2 * there → length after < 2 * home → there + home ≤ pairs
    → AreShortAround s split polygon (before ++ e ∷ []) (before ++ after) pairs
short_behind_one s split polygon before e after there home pairs o t c some odd below later few few_later together =
    let used = end_used o c some in
    let end : ℕ = origin_of s (last_side polygon) in
    let none : Loops s split t = one_of s split t in
    let g = free_group s split t in
    let S : ℕ → Loops s split t = spoke s split o t polygon in
    around c some pairs together (record {
      go = λ v v_used. short_pairs o t c some there (before ++ e ∷ []) v end v_used used below
          (omega (arith, few, length-append before (e ∷ [])));
      come = λ v v_used.
          let a : Loops s split t = product_from s split o t polygon false after in
          let whole : Loops s split t = loop_mul (loop_inv (product_of s split o t polygon (before ++ e ∷ [])))
          (product_of s split o t polygon (before ++ after)) in
          let next : Loops s split t = product_of s split o t polygon (e ∷ after) in
          let same : SameFreely whole next = g.on whole (loop_mul (loop_inv (loop_mul (loop_inv (S e)) none)) a) next
          (back_over o t polygon false before (e ∷ []) after (parity before ∙ odd))
          (by_words SameFreely loop_mul loop_inv none g (S e ∷ a ∷ []) (Mul (Inv (Mul (Inv (Var 0)) One)) (Var 1)) (Mul (Var 0) (Var 1))
          refl) in
          short_as s split t end v home next whole same
          (short_pairs o t c some home (e ∷ after) end v used v_used later (omega (arith, few_later)));
    })

-- one dart along the last side, to where the side across from it starts
record IsLastDart (s : OrientedMesh) (split : SplitView) (o : IsOrientedSurface s) (t : IsSplit s split) (polygon : PolygonView) (k : ℕ)
    : Type 0 where
  way : IsWay s.mesh (origin_of s (last_side polygon)) (origin_of s (side_at polygon k)) (origin_of s (side_at polygon k) ∷ [])
  worth : IsWorth s split t (origin_of s (last_side polygon)) (origin_of s (side_at polygon k)) (origin_of s (side_at polygon k) ∷ [])
      (value s split o t (last_side polygon))
  home_way : IsWay s.mesh (origin_of s (side_at polygon k)) (origin_of s (last_side polygon)) (origin_of s (last_side polygon) ∷ [])
  home_worth : IsWorth s split t (origin_of s (side_at polygon k)) (origin_of s (last_side polygon)) (origin_of s (last_side polygon) ∷ [])
      (loop_inv (value s split o t (last_side polygon)))

last_dart : {s : OrientedMesh} {split : SplitView} (o : IsOrientedSurface s) (t : IsSplit s split) {polygon : PolygonView}
    → IsCutFrom s split polygon → 0 < polygon.degree → IsLastDart s split o t polygon (across_last s polygon)
last_dart {s} {split} o t {polygon} c some =
    let g = free_group s split t in
    let ways : HasWays s.mesh t.parents.root (up s split t) = tree_ways s split o t in
    let d : ℕ = last_side polygon in
    let l : d < darts_of s = side_in s split polygon c some (polygon.degree - 1) in
    let u : ℕ = origin_of s d in
    let w : ℕ = origin_of s (side_at polygon (across_last s polygon)) in
    let at : origin_of s (twin_of s d) ≡ w = ap (origin_of s) (sym (side_across o c (polygon.degree - 1) (omega arith))) in
    let way : IsWay s.mesh u w (w ∷ []) = subst (λ x. IsWay s.mesh u x (x ∷ [])) at (dart_way o d l) in
    let home : IsWay s.mesh w u (u ∷ []) = way_home s.mesh u w (w ∷ []) way in
    let val : Loops s split t = value s split o t d in
    let along : Loops s split t = loop_of s.mesh t.parents.root (up s split t) ways u w (w ∷ []) way in
    let home_loop : Loops s split t = loop_of s.mesh t.parents.root (up s split t) ways w u (u ∷ []) home in
    let worth : SameFreely along val =
    g.turn val along (value_along (free_equality s.mesh) split o t u w d (record { within = l; starts = refl; ends = at }) way) in
    record {
      way = way;
      worth = worth;
      home_way = home;
      home_worth = g.on home_loop (loop_inv along) (loop_inv val)
          (loop_home s.mesh t.parents.root (up s split t) ways u w (w ∷ []) way home) (g.inv_same along val worth);
    }

-- or behind the two spokes of the side across from the last one
pub short_behind_two : (s : OrientedMesh) (split : SplitView) (polygon : PolygonView) (before after : List ℕ) (there home pairs : ℕ)
    → IsOrientedSurface s → IsSplit s split → IsCutFrom s split polygon → 0 < polygon.degree → comes_back before ≡ true
    → All (λ spoke. spoke < polygon.degree) before → All (λ spoke. spoke < polygon.degree) after
    → length before ≤ 2 * there → length after ≤ 2 * home → there + home ≤ pairs
    → AreShortAround s split polygon (before ++ across_last s polygon ∷ (across_last s polygon + 1) ∷ []) (before ++ after) pairs
short_behind_two s split polygon before after there home pairs o t c some even below later few few_later together =
    let k : ℕ = across_last s polygon in
    let counted : suc k ≡ k + 1 = omega arith in
    let used = end_used o c some in
    let end : ℕ = origin_of s (last_side polygon) in
    let mid : ℕ = origin_of s (side_at polygon k) in
    let mid_used : is_used s.mesh mid ≡ true = (names_all s o).vertex_used (side_at polygon k) (side_in s split polygon c some k) in
    let none : Loops s split t = one_of s split t in
    let g = free_group s split t in
    let S : ℕ → Loops s split t = spoke s split o t polygon in
    let dart : IsLastDart s split o t polygon k = last_dart o t c some in
    let val : Loops s split t = value s split o t (last_side polygon) in
    let crossed : SameFreely (S (suc k)) (loop_mul val (S k)) = spoke_across o t c (polygon.degree - 1) (omega arith) in
    subst (λ n. AreShortAround s split polygon (before ++ k ∷ n ∷ []) (before ++ after) pairs) counted (around c some pairs together
    (record {
      go = λ v v_used.
          let p : Loops s split t = product_of s split o t polygon before in
          let w = pairs_walk o t c some there before v mid v_used mid_used below few in
          let whole : Loops s split t = product_of s split o t polygon (before ++ k ∷ suc k ∷ []) in
          let apart : SameFreely whole (loop_mul p (loop_mul (S k) (loop_mul (loop_inv (S (suc k))) none))) =
          subst (λ b. SameFreely whole (loop_mul p (product_from s split o t polygon b (k ∷ suc k ∷ [])))) (parity before ∙ even)
          (spokes_on SameFreely loop_mul loop_inv none g S true before (k ∷ suc k ∷ [])) in
          let same : SameFreely whole (loop_mul p (loop_inv val)) =
          g.on whole (loop_mul p (loop_mul (S k) (loop_mul (loop_inv (S (suc k))) none))) (loop_mul p (loop_inv val)) apart
          (by_relation SameFreely loop_mul loop_inv none g (S (suc k)) (val ∷ S k ∷ p ∷ []) (Mul (Var 1) (Var 2))
          (Mul (Var 3) (Mul (Var 2) (Mul (Inv (Var 0)) One))) (Mul (Var 3) (Inv (Var 1))) crossed refl) in
          short_as s split t v end there (loop_mul p (loop_inv val)) whole same (record {
            rest = w.rest ++ end ∷ [];
            few = omega (arith, w.few, length-append w.rest (end ∷ []));
            way = way_on s.mesh v mid end w.rest (end ∷ []) w.way dart.home_way;
            worth = worth_on o t v mid end w.rest (end ∷ []) p (loop_inv val) w.way dart.home_way w.worth dart.home_worth;
          });
      come = λ v v_used.
          let a : Loops s split t = product_of s split o t polygon after in
          let w = pairs_walk o t c some home after mid v mid_used v_used later few_later in
          let whole : Loops s split t = loop_mul (loop_inv (product_of s split o t polygon (before ++ k ∷ suc k ∷ [])))
          (product_of s split o t polygon (before ++ after)) in
          let same : SameFreely whole (loop_mul val a) =
          g.on whole (loop_mul (loop_inv (loop_mul (S k) (loop_mul (loop_inv (S (suc k))) none))) a) (loop_mul val a)
          (back_over o t polygon true before (k ∷ suc k ∷ []) after (parity before ∙ even))
          (by_relation SameFreely loop_mul loop_inv none g (S (suc k)) (val ∷ S k ∷ a ∷ []) (Mul (Var 1) (Var 2))
          (Mul (Inv (Mul (Var 2) (Mul (Inv (Var 0)) One))) (Var 3)) (Mul (Var 1) (Var 3)) crossed refl) in
          short_as s split t end v home (loop_mul val a) whole same (record {
            rest = mid ∷ w.rest;
            few = omega (arith, w.few);
            way = way_on s.mesh end mid v (mid ∷ []) w.rest dart.way w.way;
            worth = worth_on o t end mid v (mid ∷ []) w.rest val a dart.way w.way dart.worth w.worth;
          });
    }))
