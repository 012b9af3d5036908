-- The values of a surface's darts up to homotopy: round a face they make nothing, so each dart is a product of two spokes.
use Rattle.polygon_cut.proofs.Common.{step_first, names_all, darts_of, next_of, twin_of, origin_of, face_of, after_steps, OrientedMesh, IsOrientedSurface, PolygonView, IsCutFrom, side_at, label_of, ◌≡◌, ℕ, suc, ◌-◌, ◌<◌, ◌≤◌, [], ◌∷◌, length, ap, sym, ◌∙◌, subst, arith, refl, face_at, SplitView, IsSplit}
use Rattle.polygon_cut.proofs.GroupLemmas.{IsGroup}
use Rattle.polygon_cut.proofs.CongruenceLemmas.{to_loops}
use Rattle.polygon_cut.proofs.LoopLemmas.{IsWay, HasWays, SameLoop, loop_mul, loop_inv, loops_make_a_group, loop_of, no_dart, homotopy}
use Rattle.polygon_cut.proofs.LawLemmas.{labels_ride}
use Rattle.polygon_cut.proofs.TreeWayLemmas.{up, tree_ways}
use Rattle.polygon_cut.proofs.FaceRoundLemmas.{vertices_on, boundary, comes_round, not_before}
use Rattle.polygon_cut.proofs.ValueLemmas.{Valued, WholeRound, round, by_labels, all_values}
pub use Rattle.polygon_cut.proofs.DartLoopLemmas.{Loops, dart_way, value, spoke, up_plain}
use Rattle.polygon_cut.proofs.DartLoopLemmas.{one_of, ends_on, value_along, value_of_twin, value_of_tree, round_is, left_dart}

abbrev pub group_of : (s : OrientedMesh) (split : SplitView) (t : IsSplit s split)
    → IsGroup {X = Loops s split t} SameLoop loop_mul loop_inv (one_of s split t)
group_of s split t = loops_make_a_group s.mesh t.parents.root t.parents.root_used

-- twins have inverse values
pub value_twin : (s : OrientedMesh) (split : SplitView) (o : IsOrientedSurface s) (t : IsSplit s split) (d : ℕ) → d < darts_of s
    → SameLoop (value s split o t (twin_of s d)) (loop_inv (value s split o t d))
value_twin s split o t d l = value_of_twin (homotopy s.mesh) split o t d l

-- round a whole face the values make nothing
pub face_rounds : {s : OrientedMesh} {split : SplitView} (o : IsOrientedSurface s) (t : IsSplit s split) (d : ℕ) → d < darts_of s
    → WholeRound SameLoop loop_mul (one_of s split t) (value s split o t) (next_of s) d
face_rounds {s} {split} o t d l =
    let g = group_of s split t in
    let ways : HasWays s.mesh t.parents.root (up s split t) = tree_ways s split o t in
    let u : ℕ = origin_of s d in
    let m : ℕ = length (face_at s.mesh (face_of s d)) in
    let polygon : 3 ≤ m = (o.faces.faces (face_of s d) [] ((names_all s o).face_below d l)).polygon in
    let count : suc (m - 1) ≡ m = omega arith in
    let whole : after_steps (next_of s) m d ≡ d = comes_round o d l in
    let way : IsWay s.mesh u u (vertices_on s m d) = grind (arith, ends_on) in
    let stay : IsWay s.mesh u u [] = (refl, (names_all s o).vertex_used d l) in
    let still : Loops s split t = loop_of s.mesh t.parents.root (up s split t) ways u u [] stay in
    let around : Loops s split t = loop_of s.mesh t.parents.root (up s split t) ways u u (vertices_on s m d) way in
    let all : Loops s split t = round loop_mul (one_of s split t) (value s split o t) (next_of s) m d in
    let contracts : SameLoop still around = to_loops (homotopy s.mesh) ways u u [] (vertices_on s m d) stay way (boundary o d l) in
    record {
      less = m - 1;
      closes = step_first (next_of s) (m - 1) d ∙ ap (λ k. after_steps (next_of s) k d) count ∙ whole;
      first = λ k few same. not_before o d (suc k) l (omega arith) (omega arith) (sym (step_first (next_of s) k d) ∙ same);
      is_one =
          subst (λ k. SameLoop (round loop_mul (one_of s split t) (value s split o t) (next_of s) k d) (one_of s split t)) (sym count)
          (g.on all around (one_of s split t) (g.turn around all (round_is (homotopy s.mesh) split o t m d l u way))
          (g.on around still (one_of s split t) (g.turn still around contracts)
          (no_dart s.mesh t.parents.root (up s split t) ways u u stay)));
    }

surface_valued : {s : OrientedMesh} {split : SplitView} (o : IsOrientedSurface s) (t : IsSplit s split) {polygon : PolygonView}
    → IsCutFrom s split polygon → 0 < polygon.degree
    → Valued SameLoop loop_mul loop_inv (one_of s split t) s split (value s split o t) (spoke s split o t polygon) (label_of polygon)
    (side_at polygon (polygon.degree - 1))
surface_valued {s} {split} o t {polygon} c some = record {
  twins = value_twin s split o t;
  faces = face_rounds o t;
  of_tree = λ d l. (labels_ride s split polygon d o t c some l).of_tree;
  of_cotree = λ d l. (labels_ride s split polygon d o t c some l).of_cotree;
  tree_one = value_of_tree (homotopy s.mesh) split o t;
  left = left_dart (homotopy s.mesh) split o t polygon c some;
  last_in_root = λ d l same. ap (face_of s) same ∙ c.last_side some;
}

-- Each dart of a surface is homotopic to two spokes, those of the labels at its tail and at its head.
pub dart_is_two_spokes : (s : OrientedMesh) (split : SplitView) (o : IsOrientedSurface s) (t : IsSplit s split) (polygon : PolygonView)
    → IsCutFrom s split polygon → 0 < polygon.degree → (d : ℕ) → d < darts_of s
    → SameLoop (value s split o t d) (by_labels loop_mul loop_inv (spoke s split o t polygon) (label_of polygon) (next_of s) d)
dart_is_two_spokes s split o t polygon c some d l =
    all_values (group_of s split t) o t (surface_valued o t c some) (names_all s o).edge_below (names_all s o).face_below d l
