-- What decides free homotopy, said of the polygon that was cut.
use Rattle.free_loops.proofs.Common.{IsClosedWalk, FreelyHomotopic, flat_next, origin, IsCyclicFormOf, OrientedMesh, IsOrientedSurface, quad_path, PolygonView, IsCutFrom, labelling_from, IsRotation, ◌≡◌, ◌↔◌, ℕ, ◌<◌, ◌≤◌, List, refl, arith, SplitView, IsSplit, led, IsLabelledByCut}
use Rattle.free_loops.proofs.DecidingLemmas.{sphere_frees, points_free, free_points, forms_free, free_forms}

-- the labelling of a polygon is one that a cut gives
labelled : (surface : OrientedMesh) (split : SplitView) (polygon : PolygonView) → IsSplit surface split → IsCutFrom surface split polygon
    → 0 < polygon.degree → IsLabelledByCut surface (labelling_from surface polygon)
labelled surface split polygon t cut some =
    record { split = split; polygon = polygon; is_split = t; is_cut = cut; some = some; labelling_is = refl }

pub sphere : (surface : OrientedMesh) (split : SplitView) (first second : List ℕ) → IsOrientedSurface surface → IsSplit surface split
    → split.genus ≡ 0 → IsClosedWalk surface.mesh first → IsClosedWalk surface.mesh second → FreelyHomotopic surface.mesh first second
sphere surface split first second o t none one other =
    sphere_frees surface first second o (record { split = split; is_split = t; none = none }) one other

pub points : (surface : OrientedMesh) (split : SplitView) (polygon : PolygonView) (first second : List ℕ) → IsOrientedSurface surface
    → IsSplit surface split → IsCutFrom surface split polygon → polygon.degree ≡ 4 → IsClosedWalk surface.mesh first
    → IsClosedWalk surface.mesh second → FreelyHomotopic surface.mesh first second
    ↔ (led flat_next polygon.places origin (quad_path surface.mesh (labelling_from surface polygon) first)
    ≡ led flat_next polygon.places origin (quad_path surface.mesh (labelling_from surface polygon) second))
points surface split polygon first second o t cut four one other =
    let h = labelled surface split polygon t cut (omega (arith, four)) in (
      (λ free. free_points surface (labelling_from surface polygon) first second o h four one free),
      (λ same. points_free surface (labelling_from surface polygon) first second o h four one other same),
    )

pub forms : (surface : OrientedMesh) (split : SplitView) (polygon : PolygonView) (first second form other : List ℕ)
    → IsOrientedSurface surface → IsSplit surface split → IsCutFrom surface split polygon → 5 ≤ polygon.degree
    → IsClosedWalk surface.mesh first → IsClosedWalk surface.mesh second
    → IsCyclicFormOf surface.mesh (labelling_from surface polygon) first form
    → IsCyclicFormOf surface.mesh (labelling_from surface polygon) second other
    → FreelyHomotopic surface.mesh first second ↔ IsRotation form other
forms surface split polygon first second form other o t cut five one two f g =
    let h = labelled surface split polygon t cut (omega (arith, five)) in (
      (λ free. free_forms surface (labelling_from surface polygon) first second form other o h five one f g free),
      (λ rotation. forms_free surface (labelling_from surface polygon) first second form other o h one two f g rotation),
    )
