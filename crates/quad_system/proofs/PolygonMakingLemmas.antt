-- The labelling of a polygon as it is made: face after face, in the memory of the polygon's labels.
use Rattle.quad_system.proofs.Common.{darts_of, dart_at_corner, OrientedMesh, FaceLabels, LabellingView, PolygonView, label_of, at_corners, face_labels, labelling_from, numbers_alone, ◌≡◌, ℕ, ◌+◌, ◌-◌, ◌<◌, ◌≤◌, ◌^◌, Bool, true, false, cond, List, [], ◌∷◌, ◌++◌, length, get_or, take, drop, map, refl, ap, sym, subst, ◌∙◌, arith, common_steps, same_number_lists, take_more, take_all, take_at, drop_at, drop-drop, map-append, length-append, length-drop, length-take-le, length_push, get_or-take, get_or-drop, get_or-map-range_with_len, length-map-range_with_len, get_or-enumerate_from, length-enumerate_from, between, enumerate_from, range_with_len, All, step_within, first_side, FaceList, IsFace, IsFaceList, HasFileSize, face_at, next_corner, total_sides, is_flipped}
use Rattle.labellings.proofs.StoredLabellingLemmas.{stored_labelling-push, IsStoredLabelling-push}
use Rattle.labellings.specs.StoredLabellings.{with_signs, stored_labelling, IsStoredLabelling}
use Rattle.surf_model.proofs.SideNumberLemmas.{first_side-more, first_side-all, side_below}
use Rattle.surf_model.specs.Parts.{parts}

-- the labels of the corners of a face
abbrev pub labels_of_face : OrientedMesh → PolygonView → ℕ → List ℕ
labels_of_face s polygon f = map (λ t. label_of polygon (dart_at_corner s f t)) (range_with_len 0 (length (face_at s.mesh f)))

length-labels : (s : OrientedMesh) (polygon : PolygonView) (f : ℕ) → length (labels_of_face s polygon f) ≡ length (face_at s.mesh f)
length-labels s polygon f = length-map-range_with_len (λ t. label_of polygon (dart_at_corner s f t)) 0 (length (face_at s.mesh f))

dart_from_corner : (s : OrientedMesh) (f corner sides : ℕ) (flipped : Bool) → sides ≡ length (face_at s.mesh f)
    → flipped ≡ is_flipped s.signs f
    → first_side s.mesh f + cond flipped (next_corner false sides corner) corner ≡ dart_at_corner s f corner
unfolding dart_at_corner
dart_from_corner s f corner sides flipped long turned = rw (long, turned) refl

-- putting labels at corners keeps their number
length-at_corners : (flipped : Bool) (part : List ℕ) → length (at_corners flipped part) ≡ length part
length-at_corners false part = refl
length-at_corners true part = grind (arith, common_steps)

-- what stands at a corner: in a flipped face what had the number before
at_corner : (flipped : Bool) (part : List ℕ) (t : ℕ) → t < length part
    → get_or (at_corners flipped part) t 0 ≡ get_or part (cond flipped (next_corner false (length part) t) t) 0
at_corner false part t l = refl
at_corner true part t l = grind (arith, common_steps)

-- the corner before one is a corner
place_below : (flipped : Bool) (sides t : ℕ) → t < sides → cond flipped (next_corner false sides t) t < sides
place_below false sides t l = l
place_below true sides t l = step_within false sides t l

-- the labels of the darts of a face, put at its corners, are those of the face
face_at_corners : (s : OrientedMesh) (polygon : PolygonView) (f : ℕ) (flipped : Bool) (part : List ℕ) → flipped ≡ is_flipped s.signs f
    → length part ≡ length (face_at s.mesh f)
    → ((t : ℕ) → t < length part → get_or part t 0 ≡ label_of polygon (first_side s.mesh f + t))
    → at_corners flipped part ≡ labels_of_face s polygon f
face_at_corners s polygon f flipped part sign long at =
    same_number_lists (at_corners flipped part) (labels_of_face s polygon f)
    (omega (arith, length-at_corners flipped part, long, length-labels s polygon f))
    (λ t l.
    let here : t < length part = omega (arith, l, length-at_corners flipped part) in
    at_corner flipped part t here
    ∙ at (cond flipped (next_corner false (length part) t) t) (place_below flipped (length part) t here)
    ∙ ap (label_of polygon) (dart_from_corner s f t (length part) flipped long sign)
    ∙ sym (get_or-map-range_with_len (λ x. label_of polygon (dart_at_corner s f x)) 0 (length (face_at s.mesh f)) t t 0
    (omega (arith, here, long)) (omega arith)))

-- the faces of the labelling
abbrev face_of_pair : OrientedMesh → PolygonView → ℕ × List ℕ → FaceLabels
face_of_pair s polygon p = face_labels s polygon p.0 (length p.1)

abbrev pub first_faces : OrientedMesh → PolygonView → ℕ → List FaceLabels
first_faces s polygon k = map (λ (p : ℕ × List ℕ). face_labels s polygon p.0 (length p.1)) (take k (enumerate_from 0 s.mesh.faces))

pub first_faces_more : (s : OrientedMesh) (polygon : PolygonView) (k : ℕ) → k < length s.mesh.faces
    → first_faces s polygon (k + 1) ≡ first_faces s polygon k ++ face_labels s polygon k (length (face_at s.mesh k)) ∷ []
first_faces_more s polygon k l =
    let pairs : List (ℕ × List ℕ) = enumerate_from 0 s.mesh.faces in
    let blank : ℕ × List ℕ = (0, []) in
    let long : length pairs ≡ length s.mesh.faces = length-enumerate_from 0 s.mesh.faces in
    let count : 0 + k ≡ k = omega arith in
    ap (map (face_of_pair s polygon)) (take_more pairs k blank (omega (arith, l, long)))
    ∙ map-append (face_of_pair s polygon) (take k pairs) (get_or pairs k blank ∷ [])
    ∙ ap (λ (p : ℕ × List ℕ). first_faces s polygon k ++ face_of_pair s polygon p ∷ []) (get_or-enumerate_from 0 s.mesh.faces k blank l)
    ∙ ap (λ (n : ℕ). first_faces s polygon k ++ face_labels s polygon n (length (face_at s.mesh k)) ∷ []) count

-- all faces
pub all_faces : (s : OrientedMesh) (polygon : PolygonView) (k : ℕ) → k ≡ length s.mesh.faces
    → first_faces s polygon k ≡ (labelling_from s polygon).faces
all_faces s polygon k is =
    ap (map (λ (p : ℕ × List ℕ). face_labels s polygon p.0 (length p.1)))
    (take_all k (enumerate_from 0 s.mesh.faces) (omega (arith, is, length-enumerate_from 0 s.mesh.faces)))

abbrev one_face : Bool → List ℕ → FaceLabels
one_face flipped labels = record { flipped = flipped; labels = labels }

-- the labels before the end of all faces are all labels
whole : (s : OrientedMesh) (k : ℕ) (labels : List ℕ) → k ≡ length s.mesh.faces → length labels ≡ darts_of s
    → take (first_side s.mesh k) labels ≡ labels
whole s k labels all long = take_all (first_side s.mesh k) labels (omega (arith, long, first_side-all s.mesh k (omega (arith, all))))

-- the darts of a face lie among those of the mesh
pub face_within : (mesh : FaceList) (f : ℕ) → All (IsFace mesh.count) mesh.faces → f < length mesh.faces
    → first_side mesh f + length (face_at mesh f) ≤ total_sides mesh
face_within mesh f valid l = grind (arith, common_steps, side_below)

-- The labels of the first k faces stand at their corners, and the others where the polygon had them.
pub record IsMadeUpTo (s : OrientedMesh) (polygon : PolygonView) (k : ℕ) (signs : List Bool) (ends labels : List ℕ) : Type 0 where
  pub few : k ≤ length s.mesh.faces
  pub each_face : length ends ≡ k
  pub each_dart : length labels ≡ darts_of s
  pub stored : IsStoredLabelling signs ends (take (first_side s.mesh k) labels) []
  pub faces : with_signs signs (parts 0 ends (take (first_side s.mesh k) labels)) ≡ first_faces s polygon k
  pub rest : drop (first_side s.mesh k) labels ≡ drop (first_side s.mesh k) polygon.labels

pub made_none : (s : OrientedMesh) (polygon : PolygonView) (signs : List Bool) (ends : List ℕ) → length polygon.labels ≡ darts_of s
    → signs ≡ [] → ends ≡ [] → IsMadeUpTo s polygon 0 signs ends polygon.labels
made_none s polygon signs ends long no_signs no_ends = grind arith

pub made_more : (s : OrientedMesh) (polygon : PolygonView) (k : ℕ) (signs : List Bool) (ends labels new : List ℕ) (flipped : Bool)
    (start end : ℕ)
    → IsFaceList s.mesh → HasFileSize s.mesh → length s.mesh.faces < 2 ^ 32 → length polygon.labels ≡ darts_of s
    → IsMadeUpTo s polygon k signs ends labels
    → k < length s.mesh.faces
    → flipped ≡ is_flipped s.signs k → start ≡ first_side s.mesh k → end ≡ start + length (face_at s.mesh k)
    → new ≡ take start labels ++ at_corners flipped (between start end labels) ++ drop end labels
    → IsMadeUpTo s polygon (k + 1) (signs ++ flipped ∷ []) (ends ++ end ∷ []) new
made_more s polygon k signs ends labels new flipped start end valid small count long made l sign from to is =
    record {
      few = omega (arith, l);
      each_face = length_push ends end ∙ ap (λ n. n + 1) made.each_face;
      each_dart = all;
      stored = subst (λ (xs : List ℕ). IsStoredLabelling (signs ++ flipped ∷ []) (ends ++ end ∷ []) xs []) (sym front)
          (IsStoredLabelling-push signs ends done [] flipped face end made.stored reach (omega (arith, made.each_face, l, count))
          (omega (arith, size, inside, small.few_sides)));
      faces = ap (λ (xs : List ℕ). with_signs (signs ++ flipped ∷ []) (parts 0 (ends ++ end ∷ []) xs)) front
          ∙ stored_labelling-push 0 signs ends done [] flipped face end made.stored reach
          ∙ ap (λ (fs : List FaceLabels). fs ++ one_face flipped face ∷ []) made.faces
          ∙ ap (λ (b : Bool). first_faces s polygon k ++ one_face b face ∷ []) sign
          ∙ ap (λ (xs : List ℕ). first_faces s polygon k ++ one_face (is_flipped s.signs k) xs ∷ []) own
          ∙ sym (first_faces_more s polygon k l);
      rest = ap (λ n. drop n new) next ∙ behind;
    }
  where
    sides : ℕ
    sides = length (face_at s.mesh k)

    inside : first_side s.mesh k + sides ≤ total_sides s.mesh
    inside = face_within s.mesh k valid.faces l

    next : first_side s.mesh (k + 1) ≡ end
    next = first_side-more s.mesh k ∙ ap (λ n. n + sides) (sym from) ∙ sym to

    within : end ≤ length labels
    within = omega (arith, to, from, inside, made.each_dart)

    done : List ℕ
    done = take (first_side s.mesh k) labels

    part : List ℕ
    part = between start end labels

    face : List ℕ
    face = at_corners flipped part

    part_long : length part ≡ sides
    part_long = length-take-le (end - start) (drop start labels) (omega (arith, within, length-drop start labels)) ∙ (omega (arith, to))

    size : length face ≡ sides
    size = length-at_corners flipped part ∙ part_long

    done_long : length done ≡ start
    done_long = length-take-le (first_side s.mesh k) labels (omega (arith, within, from, to)) ∙ sym from

    reach : end ≡ length done + length face
    reach = omega (arith, done_long, size, to)

    both : new ≡ done ++ face ++ drop end labels
    both = is ∙ ap (λ n. take n labels ++ face ++ drop end labels) from

    both_long : length (done ++ face) ≡ end
    both_long = length-append done face ∙ sym reach

    front : take (first_side s.mesh (k + 1)) new ≡ done ++ face
    front = ap (λ n. take n new) next ∙ ap (take end) both ∙ take_at (done ++ face) (drop end labels) end both_long

    all : length new ≡ darts_of s
    all = ap length both ∙ length-append (done ++ face) (drop end labels)
        ∙ (omega (arith, both_long, length-drop end labels, within, made.each_dart))

    -- behind the face nothing has changed
    past : (xs : List ℕ) → drop end xs ≡ drop sides (drop start xs)
    past xs = ap (λ n. drop n xs) to ∙ sym (drop-drop sides start xs)

    behind : drop end new ≡ drop (first_side s.mesh (k + 1)) polygon.labels
    behind =
        ap (drop end) both ∙ drop_at (done ++ face) (drop end labels) end both_long ∙ past labels
        ∙ ap (λ n. drop sides (drop n labels)) from ∙ ap (drop sides) made.rest ∙ ap (λ n. drop sides (drop n polygon.labels)) (sym from)
        ∙ sym (past polygon.labels) ∙ ap (λ n. drop n polygon.labels) (sym next)

    label : (t : ℕ) → t < length part → get_or part t 0 ≡ label_of polygon (first_side s.mesh k + t)
    label t b =
        get_or-take (end - start) (drop start labels) t 0 (omega (arith, b, part_long, to))
        ∙ ap (λ n. get_or (drop n labels) t 0) from ∙ ap (λ (xs : List ℕ). get_or xs t 0) made.rest
        ∙ get_or-drop (first_side s.mesh k) polygon.labels t 0

    own : face ≡ labels_of_face s polygon k
    own = face_at_corners s polygon k flipped part sign part_long label

-- with all faces the labelling is made
pub made_all : (s : OrientedMesh) (polygon : PolygonView) (k degree : ℕ) (signs : List Bool) (ends labels places : List ℕ)
    → k ≡ length s.mesh.faces
    → IsMadeUpTo s polygon k signs ends labels → degree ≡ polygon.degree → places ≡ polygon.places
    → stored_labelling degree signs ends labels places ≡ labelling_from s polygon
made_all s polygon k degree signs ends labels places all made degree_is places_are = grind (arith, parts, whole, all_faces)

pub made_stored : (s : OrientedMesh) (polygon : PolygonView) (k : ℕ) (signs : List Bool) (ends labels places : List ℕ)
    → k ≡ length s.mesh.faces
    → IsMadeUpTo s polygon k signs ends labels → length places < 2 ^ 32
    → IsStoredLabelling signs ends labels places
made_stored s polygon k signs ends labels places all made few = grind (arith, whole)

-- the labelling asks for the numbers of the polygon alone
pub told_alone : (s : OrientedMesh) (polygon : PolygonView) (degree : ℕ) (labels places : List ℕ) → degree ≡ polygon.degree
    → labels ≡ polygon.labels
    → places ≡ polygon.places → labelling_from s (numbers_alone degree labels places) ≡ labelling_from s polygon
told_alone s polygon degree labels places degree_is labels_are places_are = grind arith
