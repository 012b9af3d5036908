-- The way round a face but for one of its darts, forward and backward: as the corners that a move reads, and as a value, up to spurs.
use Rattle.polygon_cut.proofs.Common.{dart_between, step_first, rotation_system, names_all, darts_of, next_of, twin_of, origin_of, target_of, face_of, after_steps, OrientedMesh, IsOrientedSurface, rotations_of, IsRotationSystem, IsDartFrom, PolygonView, IsCutFrom, side_at, label_of, ◌≡◌, ◌≢◌, ℕ, zero, suc, ◌-◌, ◌<◌, ◌≤◌, Bool, true, not, ◌&&◌, eqb, List, [], ◌∷◌, ◌++◌, length, get_or, refl, ap, sym, ◌∙◌, subst, arith, eqb-true, eq-eqb, and_parts, unwrap_or, step_within, corner_after, face_at, next_corner, corners_from, first_below, SplitView, IsSplit, after_back, beyond_more, corners_beyond, end_from as end_of, end_beyond, vertices_beyond}
use Rattle.halfedge_map.proofs.ListLemmas.{IsFirstBelow, first_passes}
use Rattle.halfedge_map.proofs.TwinLemmas.{origin-twin}
use Rattle.polygon_cut.proofs.GroupLemmas.{quotient}
use Rattle.polygon_cut.proofs.WayLemmas.{back, loop_mul, loop_inv}
use Rattle.polygon_cut.proofs.FreeLoopLemmas.{SameFreely}
use Rattle.polygon_cut.proofs.FreeProductLemmas.{product_from, StepsTurn}
use Rattle.polygon_cut.proofs.ValueLemmas.{round, telescopes}
use Rattle.polygon_cut.proofs.FaceRoundLemmas.{on_round, vertices_on, comes_round, not_before}
use Rattle.polygon_cut.proofs.DartLoopLemmas.{Loops, spoke, one_of}
use Rattle.polygon_cut.proofs.FreeSpokeLemmas.{free_group, free_value, free_twin, free_is_two_spokes}

behind_back : (face : List ℕ) (rising : Bool) (t k : ℕ) → t < length face
    → vertices_beyond face (not rising) (corner_after rising (length face) t k) k ≡ back (get_or face t 0) (vertices_beyond face rising t k)
behind_back face rising t zero l = refl
behind_back face rising t (suc k) l =
    let m : ℕ = length face in
    let on : ℕ = next_corner rising m t in
    beyond_more face (not rising) (corner_after rising m on k) k
    ∙ ap (λ (x : List ℕ). x ++ get_or face (corner_after (not rising) m (corner_after rising m on k) (suc k)) 0 ∷ [])
    (behind_back face rising on k (step_within rising m t l))
    ∙ ap (λ c. back (get_or face on 0) (vertices_beyond face rising on k) ++ get_or face c 0 ∷ []) (after_back rising m t (suc k) l)

-- the corners read the other way, from where the reading ended
pub read_back : (face : List ℕ) (rising : Bool) (t k u : ℕ) (rest : List ℕ) → t < length face → corners_from face rising t k ≡ u ∷ rest
    → corners_from face (not rising) (corner_after rising (length face) t k) k ≡ end_of u rest ∷ back u rest
read_back face rising t k u rest l is = grind (arith, corners_beyond, behind_back, back, end_beyond)

-- The dart from u to v: the first one that starts at u and ends at v.
pub dart_from : OrientedMesh → ℕ → ℕ → ℕ
dart_from s u v = unwrap_or (first_below (λ d. eqb (origin_of s d) u && eqb (target_of s d) v) (darts_of s)) 0

pub from_is : (s : OrientedMesh) → IsOrientedSurface s → (u v d : ℕ) → IsDartFrom (rotations_of s) u v d → dart_from s u v ≡ d
unfolding dart_from
from_is s o u v d h =
    let test : ℕ → Bool = λ x. eqb (origin_of s x) u && eqb (target_of s x) v in
    let target : target_of s d ≡ v = sym (origin-twin s o d h.within) ∙ h.ends in
    let passes : test d ≡ true = rw (eq-eqb (origin_of s d) u h.starts) (eq-eqb (target_of s d) v target) in
    let found : IsFirstBelow test (darts_of s) = first_passes test (darts_of s) d h.within passes in
    let parts = and_parts (eqb (origin_of s found.number) u) (eqb (target_of s found.number) v) found.passes in
    let starts : origin_of s found.number ≡ u = eqb-true (origin_of s found.number) u parts.0 in
    let ends : origin_of s (twin_of s found.number) ≡ v = grind (arith, origin-twin) in
    ap (λ x. unwrap_or x 0) found.is
    ∙ (rotation_system s o).one_dart found.number d found.within h.within (starts ∙ sym h.starts) (ends ∙ sym h.ends)

pub own_from : {s : OrientedMesh} → IsOrientedSurface s → (d : ℕ) → d < darts_of s
    → dart_from s (origin_of s d) (origin_of s (next_of s d)) ≡ d
own_from {s} o d l =
    from_is s o (origin_of s d) (origin_of s (next_of s d)) d
    (record { within = l; starts = refl; ends = sym ((rotation_system s o).follows d l) })

pub twin_from : {s : OrientedMesh} → IsOrientedSurface s → {u v d : ℕ} → IsDartFrom (rotations_of s) u v d → dart_from s v u ≡ twin_of s d
twin_from {s} o {u} {v} {d} h =
    let r : IsRotationSystem (rotations_of s) = rotation_system s o in
    from_is s o v u (twin_of s d)
    (record { within = r.twin_within d h.within; starts = h.ends; ends = ap (origin_of s) (r.twin_back d h.within) ∙ h.starts })

-- the free value of the step from u to v
abbrev pub step_value : (s : OrientedMesh) (split : SplitView) → IsOrientedSurface s → (t : IsSplit s split) → PolygonView → ℕ → ℕ
    → Loops s split t
step_value s split o t polygon u v = free_value s split o t polygon (dart_from s u v)

pub steps_turn : {s : OrientedMesh} {split : SplitView} (o : IsOrientedSurface s) (t : IsSplit s split) {polygon : PolygonView}
    → IsCutFrom s split polygon → 0 < polygon.degree
    → StepsTurn {X = Loops s split t} SameFreely loop_inv s.mesh (step_value s split o t polygon)
steps_turn {s} {split} o t {polygon} c some u v edge =
    let found = dart_between s o u v edge in
    let d : ℕ = found.0 in
    subst (λ x. SameFreely (free_value s split o t polygon x) (loop_inv (step_value s split o t polygon u v))) (sym (twin_from o found.1))
    (subst (λ x. SameFreely (free_value s split o t polygon (twin_of s d)) (loop_inv (free_value s split o t polygon x)))
    (sym (from_is s o u v d found.1)) (free_twin o t c some d found.1.within))

-- the steps round a face are its darts
pub steps_round : {X : Type 0} (mul : X → X → X) (one : X) (val : ℕ → X) {s : OrientedMesh} → IsOrientedSurface s → (k d : ℕ)
    → d < darts_of s
    → product_from mul one (λ u v. val (dart_from s u v)) (origin_of s d) (vertices_on s k d) ≡ round mul one val (next_of s) k d
steps_round mul one val o zero d l = refl
steps_round mul one val {s} o (suc k) d l =
    let on : ℕ = next_of s d in
    ap (λ x. mul (val x) (product_from mul one (λ u v. val (dart_from s u v)) (origin_of s on) (vertices_on s k on))) (own_from o d l)
    ∙ ap (mul (val d)) (steps_round mul one val o k on ((rotation_system s o).next_within d l))

-- how many darts of the face of a dart there are beside it
abbrev pub others_of : OrientedMesh → ℕ → ℕ
others_of s d = length (face_at s.mesh (face_of s d)) - 1

pub some_sides : {s : OrientedMesh} → IsOrientedSurface s → (d : ℕ) → d < darts_of s → 3 ≤ length (face_at s.mesh (face_of s d))
some_sides {s} o d l = (o.faces.faces (face_of s d) [] ((names_all s o).face_below d l)).polygon

pub closes : {s : OrientedMesh} → IsOrientedSurface s → (d : ℕ) → d < darts_of s → after_steps (next_of s) (others_of s d) (next_of s d) ≡ d
closes {s} o d l =
    let three = some_sides o d l in
    let count : suc (others_of s d) ≡ length (face_at s.mesh (face_of s d)) = omega arith in
    step_first (next_of s) (others_of s d) d ∙ ap (λ k. after_steps (next_of s) k d) count ∙ comes_round o d l

-- Where the others of a face are not the last side, their product is that of the spokes at its head and at its tail.
others_product : {s : OrientedMesh} {split : SplitView} (o : IsOrientedSurface s) (t : IsSplit s split) {polygon : PolygonView}
    → IsCutFrom s split polygon → 0 < polygon.degree
    → (d : ℕ) → d < darts_of s → ((k : ℕ) → k < others_of s d → after_steps (next_of s) (suc k) d ≢ side_at polygon (polygon.degree - 1))
    → SameFreely (round loop_mul (one_of s split t) (free_value s split o t polygon) (next_of s) (others_of s d) (next_of s d))
    (quotient loop_mul loop_inv (spoke s split o t polygon (label_of polygon (next_of s d)))
    (spoke s split o t polygon (label_of polygon d)))
others_product {s} {split} o t {polygon} c some d l other =
    let S : ℕ → Loops s split t = spoke s split o t polygon in
    let nothing : Loops s split t = one_of s split t in
    let all : Loops s split t = round loop_mul nothing (free_value s split o t polygon) (next_of s) (others_of s d) (next_of s d) in
    let product : SameFreely all (quotient loop_mul loop_inv (S (label_of polygon (next_of s d)))
    (S (label_of polygon (after_steps (next_of s) (others_of s d) (next_of s d))))) =
    telescopes (free_group s split t) (free_value s split o t polygon) S (label_of polygon) (next_of s) (others_of s d) (next_of s d)
    (λ j few.
    let x : ℕ = after_steps (next_of s) j (next_of s d) in
    let x_in : x < darts_of s = (on_round o j (next_of s d) ((rotation_system s o).next_within d l)).within in
    free_is_two_spokes o t c some x x_in (λ same. other j few (sym (step_first (next_of s) j d) ∙ same))) in
    subst (λ x. SameFreely all (quotient loop_mul loop_inv (S (label_of polygon (next_of s d))) (S (label_of polygon x)))) (closes o d l)
    product

-- round a face that is not the root face, all its darts together make nothing
pub round_off_root : {s : OrientedMesh} {split : SplitView} (o : IsOrientedSurface s) (t : IsSplit s split) {polygon : PolygonView}
    → IsCutFrom s split polygon → 0 < polygon.degree
    → (d : ℕ) → d < darts_of s → face_of s d ≢ split.root_face
    → SameFreely (round loop_mul (one_of s split t) (free_value s split o t polygon) (next_of s)
    (length (face_at s.mesh (face_of s d))) d) (one_of s split t)
round_off_root {s} {split} o t {polygon} c some d l off_root =
    let g = free_group s split t in
    let m : ℕ = length (face_at s.mesh (face_of s d)) in
    let S : ℕ → Loops s split t = spoke s split o t polygon in
    let here : Loops s split t = S (label_of polygon d) in
    let all : Loops s split t = round loop_mul (one_of s split t) (free_value s split o t polygon) (next_of s) m d in
    let product : SameFreely all (quotient loop_mul loop_inv here (S (label_of polygon (after_steps (next_of s) m d)))) =
    telescopes g (free_value s split o t polygon) S (label_of polygon) (next_of s) m d (λ j few.
    let on = on_round o j d l in
    free_is_two_spokes o t c some (after_steps (next_of s) j d) on.within
    (λ same. off_root (sym on.face ∙ ap (face_of s) same ∙ c.last_side some))) in
    g.on all (quotient loop_mul loop_inv here here) (one_of s split t)
    (subst (λ x. SameFreely all (quotient loop_mul loop_inv here (S (label_of polygon x)))) (comes_round o d l) product) (g.cancels here)

-- round the root face, the others of the last side make the product of the spokes at its head and at its tail
pub others_of_last : {s : OrientedMesh} {split : SplitView} (o : IsOrientedSurface s) (t : IsSplit s split) {polygon : PolygonView}
    → IsCutFrom s split polygon → 0 < polygon.degree
    → (d : ℕ) → d < darts_of s → d ≡ side_at polygon (polygon.degree - 1)
    → SameFreely (round loop_mul (one_of s split t) (free_value s split o t polygon) (next_of s) (others_of s d) (next_of s d))
    (quotient loop_mul loop_inv (spoke s split o t polygon (label_of polygon (next_of s d)))
    (spoke s split o t polygon (label_of polygon d)))
others_of_last o t c some d l is =
    others_product o t c some d l
    (λ k few same. not_before o d (suc k) l (omega arith) (let three = some_sides o d l in omega arith) (same ∙ sym is))
