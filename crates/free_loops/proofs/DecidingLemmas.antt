-- What the forms of two closed walks decide, on the surface from which the polygon of the labelling was cut.
use Rattle.free_loops.proofs.Common.{IsClosedWalk, FreelyHomotopic, flat_next, Vector, origin, IsCyclicFormOf, OrientedMesh, IsOrientedSurface, quad_path_leads_to_sum, LabellingView, quad_path, IsWordOf, IsFullWheel, IsRotation, ◌≡◌, ◌↔◌, ℕ, ◌<◌, ◌≤◌, List, [], ◌∷◌, ap, sym, ◌∙◌, subst, arith, ℤ, FaceList, led, Flat, cut_is_good, HasSphereSplit, IsLabelledByCut}
use Rattle.free_loops.specs.FreeWords.{DoDecideFree, IsFreeWordOf, IsFreeWordUnder}
use Rattle.free_loops.specs.declared.word.FreeWord.{FreeWord}
use Rattle.free_loops.specs.declared.word.FreeWord.TheVariants.{Ring, Point}
use Rattle.spoke_rings.proofs.LeastStarts.{least_rotations_tell}
use Rattle.std.specs.Prelude.{MatchOption, Option, None, Some}
use Rattle.joined_loops.proofs.FlatWalks.{one_sum}
use Rattle.joined_loops.proofs.FreeWalks.{one_cyclic_form}
use Rattle.free_loops.proofs.CutWheelLemmas.{full_wheel}
use Rattle.free_loops.proofs.FreeWordLemmas.{closed_way, sphere_free, rotations_free}
use Rattle.free_loops.proofs.PlaneLemmas.{sums_free}

-- the degree is that of the polygon
degree_is : (surface : OrientedMesh) (labelling : LabellingView) (h : IsLabelledByCut surface labelling)
    → labelling.degree ≡ h.polygon.degree
degree_is surface labelling h = ap (λ (l : LabellingView). l.degree) h.labelling_is

-- the wheel of the labelling is full
pub labelled_wheel : (surface : OrientedMesh) (labelling : LabellingView) → IsOrientedSurface surface → IsLabelledByCut surface labelling
    → 5 ≤ labelling.degree → IsFullWheel labelling.places
labelled_wheel surface labelling o h five =
    subst (λ (l : LabellingView). IsFullWheel l.places) (sym h.labelling_is)
    (full_wheel surface h.split o h.is_split h.polygon h.is_cut h.some (omega (arith, degree_is surface labelling h)))

-- on a sphere closed walks are freely homotopic
pub sphere_frees : (surface : OrientedMesh) (first second : List ℕ) → IsOrientedSurface surface → HasSphereSplit surface
    → IsClosedWalk surface.mesh first → IsClosedWalk surface.mesh second → FreelyHomotopic surface.mesh first second
sphere_frees surface [] second o h one other =
    let none : 0 < 0 = one.is_walk.starts in
    absurd (omega arith)
sphere_frees surface (u ∷ rest) [] o h one other =
    let none : 0 < 0 = other.is_walk.starts in
    absurd (omega arith)
sphere_frees surface (u ∷ rest) (v ∷ others) o h one other = sphere_free surface h.split o h.is_split h.none u v rest others one other

-- forms that are rotations of one another
pub forms_free : (surface : OrientedMesh) (labelling : LabellingView) (first second one other : List ℕ) → IsOrientedSurface surface
    → IsLabelledByCut surface labelling → IsClosedWalk surface.mesh first → IsClosedWalk surface.mesh second
    → IsCyclicFormOf surface.mesh labelling first one → IsCyclicFormOf surface.mesh labelling second other → IsRotation one other
    → FreelyHomotopic surface.mesh first second
forms_free surface labelling [] second one other o h first_closed second_closed f g r =
    let none : 0 < 0 = first_closed.is_walk.starts in
    absurd (omega arith)
forms_free surface labelling (u ∷ rest) [] one other o h first_closed second_closed f g r =
    let none : 0 < 0 = second_closed.is_walk.starts in
    absurd (omega arith)
forms_free surface labelling (u ∷ rest) (v ∷ others) one other o h first_closed second_closed f g r =
    rotations_free surface h.split o h.is_split h.polygon h.is_cut h.some u v rest others one other first_closed second_closed
    (subst (λ l. IsCyclicFormOf surface.mesh l (u ∷ rest) one) h.labelling_is f).leads
    (subst (λ l. IsCyclicFormOf surface.mesh l (v ∷ others) other) h.labelling_is g).leads r

abbrev vector : ℤ → ℤ → Vector
vector x y = record { x = x; y = y }

same_point : (a b c d : ℤ) → Flat a b ≡ Flat c d → vector a b ≡ vector c d
same_point a b c d e = cc

-- the point of the plane to which the quad path of a walk leads
abbrev point_of : FaceList → LabellingView → List ℕ → Vector
point_of mesh labelling walk = led flat_next labelling.places origin (quad_path mesh labelling walk)

-- points that are one, with four spokes
pub points_free : (surface : OrientedMesh) (labelling : LabellingView) (first second : List ℕ) → IsOrientedSurface surface
    → IsLabelledByCut surface labelling → labelling.degree ≡ 4 → IsClosedWalk surface.mesh first → IsClosedWalk surface.mesh second
    → point_of surface.mesh labelling first ≡ point_of surface.mesh labelling second → FreelyHomotopic surface.mesh first second
points_free surface labelling [] second o h four first_closed second_closed same =
    let none : 0 < 0 = first_closed.is_walk.starts in
    absurd (omega arith)
points_free surface labelling (u ∷ rest) [] o h four first_closed second_closed same =
    let none : 0 < 0 = second_closed.is_walk.starts in
    absurd (omega arith)
points_free surface labelling (u ∷ rest) (v ∷ others) o h four first_closed second_closed same =
    sums_free surface h.split h.polygon o h.is_split h.is_cut (sym (degree_is surface labelling h) ∙ four) u v rest others
    (closed_way surface u rest first_closed) (closed_way surface v others second_closed)
    (subst (λ (l : LabellingView). point_of surface.mesh l (u ∷ rest) ≡ point_of surface.mesh l (v ∷ others)) h.labelling_is same)

-- and closed walks that are freely homotopic have one point
pub free_points : (surface : OrientedMesh) (labelling : LabellingView) (first second : List ℕ) → IsOrientedSurface surface
    → IsLabelledByCut surface labelling → labelling.degree ≡ 4 → IsClosedWalk surface.mesh first
    → FreelyHomotopic surface.mesh first second → point_of surface.mesh labelling first ≡ point_of surface.mesh labelling second
free_points surface labelling first second o h four closed free =
    let one : Vector = point_of surface.mesh labelling first in
    let other : Vector = point_of surface.mesh labelling second in
    same_point one.x one.y other.x other.y
    (one_sum surface.mesh labelling first second (Flat one.x one.y) (Flat other.x other.y) o.faces (cut_is_good surface labelling o h) four
    closed free (four, quad_path_leads_to_sum surface.mesh labelling first) (four, quad_path_leads_to_sum surface.mesh labelling second))

-- sums that are one, with four spokes
sums_agree : (surface : OrientedMesh) (labelling : LabellingView) (first second : List ℕ) (x y right up : ℤ) → IsOrientedSurface surface
    → IsLabelledByCut surface labelling → IsClosedWalk surface.mesh first → IsClosedWalk surface.mesh second
    → IsWordOf surface.mesh labelling first (Flat x y) → IsWordOf surface.mesh labelling second (Flat right up)
    → Flat x y ≡ Flat right up → FreelyHomotopic surface.mesh first second
sums_agree surface labelling first second x y right up o h first_closed second_closed f g same =
    let one_point : vector x y ≡ point_of surface.mesh labelling first =
    f.1 ∙ sym (quad_path_leads_to_sum surface.mesh labelling first) in
    let other_point : vector right up ≡ point_of surface.mesh labelling second =
    g.1 ∙ sym (quad_path_leads_to_sum surface.mesh labelling second) in
    points_free surface labelling first second o h f.0 first_closed second_closed
    (sym one_point ∙ same_point x y right up same ∙ other_point)

-- forms of freely homotopic walks
pub free_forms : (surface : OrientedMesh) (labelling : LabellingView) (first second one other : List ℕ) → IsOrientedSurface surface
    → IsLabelledByCut surface labelling → 5 ≤ labelling.degree → IsClosedWalk surface.mesh first
    → IsCyclicFormOf surface.mesh labelling first one → IsCyclicFormOf surface.mesh labelling second other
    → FreelyHomotopic surface.mesh first second → IsRotation one other
free_forms surface labelling first second one other o h five closed f g free =
    one_cyclic_form surface.mesh labelling first second one other o.faces (cut_is_good surface labelling o h)
    (labelled_wheel surface labelling o h five) closed free f.leads g.leads f.canonical g.canonical

-- so free words decide
words_decide : (surface : OrientedMesh) (labelling : LabellingView) (first second : List ℕ) (one other : FreeWord)
    → IsOrientedSurface surface → IsLabelledByCut surface labelling → IsClosedWalk surface.mesh first → IsClosedWalk surface.mesh second
    → IsFreeWordOf surface.mesh labelling first one → IsFreeWordOf surface.mesh labelling second other
    → FreelyHomotopic surface.mesh first second ↔ (one ≡ other)
words_decide surface labelling first second (Ring one) (Ring other) o h first_closed second_closed f g =
    let told = least_rotations_tell f.1.form g.1.form one other f.1.is_form.loop.even g.1.is_form.loop.even f.1.least g.1.least in (
      (λ free. ap Ring (told.1 (free_forms surface labelling first second f.1.form g.1.form o h f.0 first_closed f.1.is_form
          g.1.is_form free))),
      (λ same. forms_free surface labelling first second f.1.form g.1.form o h first_closed second_closed f.1.is_form g.1.is_form
          (told.0 cc)),
    )
words_decide surface labelling first second (Point x y) (Point right up) o h first_closed second_closed f g = (
  (λ free.
      let same : Flat x y ≡ Flat right up =
      one_sum surface.mesh labelling first second (Flat x y) (Flat right up) o.faces (cut_is_good surface labelling o h) f.0 first_closed
      free f g in
      cc),
  (λ same. sums_agree surface labelling first second x y right up o h first_closed second_closed f g cc),
)
words_decide surface labelling first second (Ring one) (Point x y) o h first_closed second_closed f g = absurd (omega (arith, f.0, g.0))
words_decide surface labelling first second (Point x y) (Ring other) o h first_closed second_closed f g = absurd (omega (arith, f.0, g.0))

pub free_words_decide : (surface : OrientedMesh) (labels : Option LabellingView) → IsOrientedSurface surface
    → MatchOption labels (HasSphereSplit surface) (IsLabelledByCut surface)
    → DoDecideFree surface.mesh (IsFreeWordUnder surface.mesh labels)
free_words_decide surface None o sphere = λ first second one other first_closed second_closed here there.
    ((λ _. here ∙ sym there), (λ _. sphere_frees surface first second o sphere first_closed second_closed))
free_words_decide surface (Some labelling) o h = λ first second one other. words_decide surface labelling first second one other o h
