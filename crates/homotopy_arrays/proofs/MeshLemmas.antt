-- Meshes from arrays, face by face.
use Rattle.homotopy_arrays.proofs.Common.{array_face_fault, faces_behind, mesh_from_arrays, unless, Fault, ManyVertices, CornerCount, ManySides, FewCorners, NoVertex, EqualNeighbours, all_below, differ_at, ◌≡◌, ℕ, ◌+◌, ◌*◌, ◌<◌, ◌≤◌, Bool, true, false, cond, not, eqb, ltb, List, [], ◌∷◌, ◌++◌, length, take, drop, get_or, length-take-le, refl, sym, ap, subst, ◌∙◌, arith, eq-eqb, lt-ltb, le-ltb, ltb-false, drop-drop, drop_more, drop_all, length-drop, take_more, length_push, sum_by-append, sum_by-take-drop, sum_by-cons, none-some, list_all, Option, Some, None, Ok, Err, sum_by, PendingFace, IsFace, total_sides, MOST_VERTICES, MOST_SIDES}
use Rattle.off_reader.specs.OffTexts.{has_equal_neighbours}
use Rattle.std.specs.Prelude.{sum}

-- ---- one face

-- a face with which nothing is wrong
pub record IsGoodFace (vertices : ℕ) (face : List ℕ) : Type 0 where
  pub polygon : 3 ≤ length face
  pub below : list_all (λ v. ltb v vertices) face ≡ true
  pub apart : has_equal_neighbours face ≡ false

pub good_face : (vertices number : ℕ) (face : List ℕ) → array_face_fault vertices number face ≡ None → IsGoodFace vertices face
good_face vertices number face e =
    by_tests (ltb (length face) 3) (list_all (λ v. ltb v vertices) face) (has_equal_neighbours face) refl refl refl e
  where
    by_tests : (a b c : Bool) → ltb (length face) 3 ≡ a → list_all (λ v. ltb v vertices) face ≡ b → has_equal_neighbours face ≡ c
        → cond a (Some (FewCorners (record { 0 = number })))
        (cond (not b) (Some (NoVertex (record { 0 = number }))) (cond c (Some (EqualNeighbours (record { 0 = number }))) None)) ≡ None
        → IsGoodFace vertices face
    by_tests true b c p q r e = absurd (none-some (FewCorners (record { 0 = number })) (sym e))
    by_tests false false c p q r e = absurd (none-some (NoVertex (record { 0 = number })) (sym e))
    by_tests false true true p q r e = absurd (none-some (EqualNeighbours (record { 0 = number })) (sym e))
    by_tests false true false p q r e = record { polygon = ltb-false (length face) 3 p; below = q; apart = r }

pub is_face : (vertices : ℕ) (face : List ℕ) → IsGoodFace vertices face → IsFace vertices face
is_face vertices face good =
    record { polygon = good.polygon; in_range = all_below vertices face good.below; neighbours = differ_at face good.apart }

-- ---- the faces so far

-- The faces so far are those that the sizes up to a place cut from the corners, and the others come behind them.
pub record AreFacesTo (vertices : ℕ) (sizes corners : List ℕ) (face at : ℕ) (so_far : PendingFace) : Type 0 where
  pub place : at ≡ sum (take face sizes)
  pub sides : total_sides so_far.mesh ≡ at
  pub count : so_far.mesh.count ≡ vertices
  pub none : so_far.pending ≡ []
  pub number : length so_far.mesh.faces ≡ face
  pub many : 3 * face ≤ at
  pub same : faces_behind vertices so_far.mesh.faces (drop face sizes) (drop at corners) ≡ faces_behind vertices [] sizes corners

-- where the face ends is within the corners
pub face_end : (sizes corners : List ℕ) (face at : ℕ) → sum sizes ≡ length corners → at ≡ sum (take face sizes) → face < length sizes
    → at + get_or sizes face 0 ≤ length corners
face_end sizes corners face at all place below =
    let rest : sum (drop face sizes) ≡ get_or sizes face 0 + sum (drop (face + 1) sizes) =
    ap (sum_by (λ x. x)) (drop_more sizes face 0 below) ∙ sum_by-cons (λ x. x) (get_or sizes face 0) (drop (face + 1) sizes) in
    omega (arith, all, place, rest, sum_by-take-drop (λ x. x) sizes face)

-- what stands behind the faces so far, where the next face is read
next_face : (vertices : ℕ) (sizes corners : List ℕ) (face at : ℕ) (so_far : PendingFace) (slice : List ℕ) → face < length sizes
    → slice ≡ take (get_or sizes face 0) (drop at corners) → AreFacesTo vertices sizes corners face at so_far
    → unless (array_face_fault vertices face slice)
    (faces_behind vertices (so_far.mesh.faces ++ slice ∷ []) (drop (face + 1) sizes) (drop (at + get_or sizes face 0) corners))
    ≡ faces_behind vertices [] sizes corners
unfolding faces_behind
next_face vertices sizes corners face at so_far slice below is h =
    let step : faces_behind vertices so_far.mesh.faces (drop face sizes) (drop at corners)
    ≡ unless (array_face_fault vertices (length so_far.mesh.faces) (take (get_or sizes face 0) (drop at corners)))
    (faces_behind vertices (so_far.mesh.faces ++ take (get_or sizes face 0) (drop at corners) ∷ []) (drop (face + 1) sizes)
    (drop (get_or sizes face 0) (drop at corners))) =
    ap (λ (l : List ℕ). faces_behind vertices so_far.mesh.faces l (drop at corners)) (drop_more sizes face 0 below) in
    let Step : ℕ → List ℕ → List ℕ → Type 0 =
    λ (n : ℕ) (s rest : List ℕ). unless (array_face_fault vertices n s)
    (faces_behind vertices (so_far.mesh.faces ++ s ∷ []) (drop (face + 1) sizes) rest) ≡ faces_behind vertices [] sizes corners in
    let behind : List ℕ = drop (at + get_or sizes face 0) corners in
    let front : List ℕ = take (get_or sizes face 0) (drop at corners) in
    subst (λ (n : ℕ). Step n slice behind) h.number
    (subst (λ (s : List ℕ). Step (length so_far.mesh.faces) s behind) (sym is)
    (subst (Step (length so_far.mesh.faces) front) (drop-drop (get_or sizes face 0) at corners) (sym step ∙ h.same)))

pub one_face : (vertices : ℕ) (sizes corners : List ℕ) (face at : ℕ) (so_far more : PendingFace) (slice : List ℕ) → face < length sizes
    → at + get_or sizes face 0 ≤ length corners → slice ≡ take (get_or sizes face 0) (drop at corners)
    → array_face_fault vertices face slice ≡ None
    → more ≡ record { mesh = record { count = vertices; faces = so_far.mesh.faces ++ slice ∷ [] }; pending = [] }
    → AreFacesTo vertices sizes corners face at so_far
    → AreFacesTo vertices sizes corners (face + 1) (at + get_or sizes face 0) more
one_face vertices sizes corners face at so_far more slice below within is good grown h =
    let size : length slice ≡ get_or sizes face 0 =
    ap length is ∙ length-take-le (get_or sizes face 0) (drop at corners) (omega (arith, length-drop at corners)) in
    let whole : sum (take (face + 1) sizes) ≡ sum (take face sizes) + sum (get_or sizes face 0 ∷ []) =
    ap (sum_by (λ x. x)) (take_more sizes face 0 below) ∙ sum_by-append (λ x. x) (take face sizes) (get_or sizes face 0 ∷ []) in
    let three : 3 ≤ length slice = (good_face vertices face slice good).polygon in
    let sides : sum_by length (so_far.mesh.faces ++ slice ∷ []) ≡ sum_by length so_far.mesh.faces + sum_by length (slice ∷ []) =
    sum_by-append length so_far.mesh.faces (slice ∷ []) in
    let single : sum_by length (slice ∷ []) ≡ length slice + 0 = sum_by-cons length slice [] in
    let one : sum (get_or sizes face 0 ∷ []) ≡ get_or sizes face 0 + 0 = sum_by-cons (λ x. x) (get_or sizes face 0) [] in
    let next = next_face vertices sizes corners face at so_far slice below is h in
    subst (AreFacesTo vertices sizes corners (face + 1) (at + get_or sizes face 0)) (sym grown)
    (record {
      place = omega (arith, whole, one, h.place);
      sides = omega (arith, sides, single, size, h.sides);
      count = refl;
      none = refl;
      number = omega (arith, length_push so_far.mesh.faces slice, h.number);
      many = omega (arith, h.many, three, size);
      same =
          ap
          (λ (o : Option Fault). unless o
          (faces_behind vertices (so_far.mesh.faces ++ slice ∷ []) (drop (face + 1) sizes) (drop (at + get_or sizes face 0) corners)))
          (sym good)
          ∙ next;
    })

-- ---- all faces

-- nothing is wrong whatever the faces are
pub counts_good : (vertices : ℕ) (sizes corners : List ℕ) → vertices ≤ MOST_VERTICES → sum sizes ≡ length corners
    → length corners ≤ MOST_SIDES → mesh_from_arrays vertices sizes corners ≡ faces_behind vertices [] sizes corners
unfolding mesh_from_arrays
counts_good vertices sizes corners few all room =
    rw (le-ltb MOST_VERTICES vertices few, eq-eqb (sum sizes) (length corners) all, le-ltb MOST_SIDES (length corners) room) refl

pub bad_face : (vertices : ℕ) (sizes corners : List ℕ) (face at : ℕ) (so_far : PendingFace) (slice : List ℕ) (fault : Fault)
    → face < length sizes → slice ≡ take (get_or sizes face 0) (drop at corners) → array_face_fault vertices face slice ≡ Some fault
    → AreFacesTo vertices sizes corners face at so_far → faces_behind vertices [] sizes corners ≡ Err fault
bad_face vertices sizes corners face at so_far slice fault below is bad h =
    sym (next_face vertices sizes corners face at so_far slice below is h)
    ∙ ap
    (λ (o : Option Fault). unless o
    (faces_behind vertices (so_far.mesh.faces ++ slice ∷ []) (drop (face + 1) sizes) (drop (at + get_or sizes face 0) corners)))
    bad

pub all_faces : (vertices : ℕ) (sizes corners : List ℕ) (face at : ℕ) (so_far : PendingFace) → length sizes ≤ face
    → AreFacesTo vertices sizes corners face at so_far → faces_behind vertices [] sizes corners ≡ Ok so_far.mesh
unfolding faces_behind
all_faces vertices sizes corners face at so_far past h =
    sym h.same
    ∙ ap (λ (l : List ℕ). faces_behind vertices so_far.mesh.faces l (drop at corners)) (drop_all face sizes past)
    ∙ ap (λ (n : ℕ). Ok (record { count = n; faces = so_far.mesh.faces })) (sym h.count)

-- ---- the faults whatever the faces are

pub many_vertices : (vertices : ℕ) (sizes corners : List ℕ) → MOST_VERTICES < vertices
    → mesh_from_arrays vertices sizes corners ≡ Err ManyVertices
unfolding mesh_from_arrays
many_vertices vertices sizes corners many = rw (lt-ltb MOST_VERTICES vertices many) refl

pub other_count : (vertices : ℕ) (sizes corners : List ℕ) → vertices ≤ MOST_VERTICES → eqb (sum sizes) (length corners) ≡ false
    → mesh_from_arrays vertices sizes corners ≡ Err CornerCount
unfolding mesh_from_arrays
other_count vertices sizes corners few other = rw (le-ltb MOST_VERTICES vertices few, other) refl

pub many_sides : (vertices : ℕ) (sizes corners : List ℕ) → vertices ≤ MOST_VERTICES → eqb (sum sizes) (length corners) ≡ true
    → MOST_SIDES < length corners → mesh_from_arrays vertices sizes corners ≡ Err ManySides
unfolding mesh_from_arrays
many_sides vertices sizes corners few all many =
    rw (le-ltb MOST_VERTICES vertices few, all, lt-ltb MOST_SIDES (length corners) many) refl
