-- The wheel of a cut with five sides at least: each side has a partner, with which it makes a quad.
use Rattle.free_loops.proofs.Common.{OrientedMesh, IsOrientedSurface, PolygonView, IsCutFrom, place_of, across, spoke_at, IsFullWheel, ◌≡◌, ◌<◌, ◌≤◌, not, length, ap, sym, ◌∙◌, arith, SplitView, IsSplit, in_cotree, is_left}
use Rattle.halfedge_map.proofs.SystemLemmas.{rotation_system}
use Rattle.halfedge_map.specs.RotationSystems.{rotations_of}
use Rattle.polygon_cut.proofs.PlaceLemmas.{Crosses, sides_cross}
use Rattle.quad_system.proofs.FreePathLemmas.{places_wheel}
use Rattle.quad_system.proofs.PushPathLemmas.{IsQuadWheel}
use Rattle.spoke_paths.proofs.WordsKeep.{quad_of}
use Rattle.tree_cotree.specs.SpanningTrees.{after_dart}

pub full_wheel : (s : OrientedMesh) (split : SplitView) (o : IsOrientedSurface s) (t : IsSplit s split) (polygon : PolygonView)
    (c : IsCutFrom s split polygon) → 0 < polygon.degree → 5 ≤ polygon.degree → IsFullWheel polygon.places
full_wheel s split o t polygon c some five =
    let number : length polygon.places ≡ polygon.degree = (c.places some).each_spoke in
    let wheel : IsQuadWheel (length polygon.places) (place_of polygon) (spoke_at polygon) (across (rotations_of s) polygon) =
    places_wheel s split polygon o t c some in
    let cross : Crosses polygon.degree (across (rotations_of s) polygon) =
    sides_cross (rotations_of s) (after_dart (rotations_of s) (λ e. not (in_cotree split e))) (is_left split) polygon
    (rotation_system s o) (c.labels some) in
    record {
      own = record {
        five = omega (arith, number);
        wheel = record {
          inside = wheel.place_in;
          once = λ i j l k e. sym (wheel.spoke_of_place i l) ∙ ap (spoke_at polygon) e ∙ wheel.spoke_of_place j k;
        };
      };
      full = λ a l. record {
        partner = across (rotations_of s) polygon a;
        other = cross.other a (omega (arith, number));
        quad = quad_of polygon.places (spoke_at polygon) (across (rotations_of s) polygon) wheel a l;
      };
    }
