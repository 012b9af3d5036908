-- The labelling of a polygon is good and full: labels ride along the ring of tree and leftover edges.
use Rattle.quad_system.proofs.Common.{numbered, dart_starts, corner_of_start, corner_of_end, start_kept, start_flipped, end_kept, end_flipped, edge-twin, IsNumberOf, number_below, twin-twin, partner_is_twin, darts_of, next_of, twin_of, edge_of, start_corner_of, end_corner_of, dart_at_corner, OrientedMesh, IsOrientedSurface, rotations_of, IsGood, HasShape, MeetsSomeRule, FaceLabels, LabellingView, labels_at, signs_of, label_at, tail_label, head_label, labels_ride, leftover, four_places, PolygonView, IsCutFrom, KindLabels, label_of, place_of, one_up, one_down, face_labels, labelling_from, ◌≡◌, ◌≢◌, ◌⊎◌, inl, inr, ℕ, ◌+◌, ◌-◌, ◌<◌, ◌≤◌, Bool, true, false, List, [], length, get_or, map, refl, ap, sym, ◌∙◌, subst, arith, length-map, get_or-map, All-from_get_or, get_or-map-range_with_len, length-map-range_with_len, get_or-enumerate_from, length-enumerate_from, enumerate_from, range_with_len, All, step_within, IsSide, side_after, side_number, head_of, face_at, ArePartners, RunOppositely, is_flipped, Side, one_of_three, OneOfThree, tree_one, cotree_one, left_one, SplitView, IsSplit, in_tree, in_cotree, is_left, add, minus}
use Rattle.std.specs.Prelude.{cond}

-- counting round, in the words of the turn words
pub up_is_add : (degree i : ℕ) → i < degree → add degree i 1 ≡ one_up degree i
unfolding add
up_is_add degree i l = grind arith

pub down_is_add : (degree i : ℕ) → i < degree → 1 < degree → add degree i (minus degree 1) ≡ one_down degree i
unfolding add minus
down_is_add degree i l m = grind arith

-- what the labelling says of one face, and of one corner
face_of_labelling : (s : OrientedMesh) (polygon : PolygonView) (f : ℕ) (d : FaceLabels) → f < length s.mesh.faces
    → get_or (labelling_from s polygon).faces f d ≡ face_labels s polygon f (length (face_at s.mesh f))
face_of_labelling s polygon f d l =
    let faces : List (List ℕ) = s.mesh.faces in
    let numbered_faces : List (ℕ × List ℕ) = enumerate_from 0 faces in
    let long : length numbered_faces ≡ length faces = length-enumerate_from 0 faces in
    let blank : ℕ × List ℕ = (0, []) in
    let read : get_or numbered_faces f blank ≡ (0 + f, get_or faces f []) = get_or-enumerate_from 0 faces f blank l in
    let zero_add : 0 + f ≡ f = omega arith in
    get_or-map (λ (p : ℕ × List ℕ). face_labels s polygon p.0 (length p.1)) numbered_faces f blank d (omega (arith, long, l))
    ∙ ap (λ (p : ℕ × List ℕ). face_labels s polygon p.0 (length p.1)) read
    ∙ ap (λ (k : ℕ). face_labels s polygon k (length (face_at s.mesh f))) zero_add

labels_of_labelling : (s : OrientedMesh) (polygon : PolygonView) (f : ℕ) → f < length s.mesh.faces
    → labels_at (labelling_from s polygon) f ≡ map (λ t. label_of polygon (dart_at_corner s f t))
    (range_with_len 0 (length (face_at s.mesh f)))
labels_of_labelling s polygon f l = ap (λ (x : FaceLabels). x.labels) (face_of_labelling s polygon f _ l)

label_is : (s : OrientedMesh) (polygon : PolygonView) (corner : Side) → IsSide s.mesh corner
    → label_at (labelling_from s polygon) corner ≡ label_of polygon (dart_at_corner s corner.face.0 corner.at)
label_is s polygon corner h =
    ap (λ (xs : List ℕ). get_or xs corner.at 0) (labels_of_labelling s polygon corner.face.0 h.face)
    ∙ get_or-map-range_with_len (λ t. label_of polygon (dart_at_corner s corner.face.0 t)) 0 (length (face_at s.mesh corner.face.0))
    corner.at corner.at 0 h.place (omega arith)

pub flips_are : (s : OrientedMesh) (polygon : PolygonView) (f : ℕ) → f < length s.mesh.faces
    → is_flipped (signs_of (labelling_from s polygon)) f ≡ is_flipped s.signs f
flips_are s polygon f l =
    let faces : List FaceLabels = (labelling_from s polygon).faces in
    let long : length faces ≡ length s.mesh.faces = length-map (enumerate_from 0 s.mesh.faces)
    (λ (p : ℕ × List ℕ). face_labels s polygon p.0 (length p.1)) ∙ length-enumerate_from 0 s.mesh.faces in
    let blank : FaceLabels = record { flipped = false; labels = [] } in
    get_or-map (λ (x : FaceLabels). x.flipped) faces f blank false (omega (arith, long, l))
    ∙ ap (λ (x : FaceLabels). x.flipped) (face_of_labelling s polygon f blank l)

pub after_side : (s : OrientedMesh) (side : Side) → IsSide s.mesh side → IsSide s.mesh (side_after s.mesh side)
after_side s side h = record { face = h.face; place = step_within true (length (face_at s.mesh side.face.0)) side.at h.place }

-- the labels of a side are those of its dart and of the next one
pub record LabelsOfSide (s : OrientedMesh) (polygon : PolygonView) (side : Side) : Type 0 where
  pub tail : tail_label s.mesh (labelling_from s polygon) side ≡ label_of polygon (side_number s.mesh side)
  pub head : head_label s.mesh (labelling_from s polygon) side ≡ label_of polygon (next_of s (side_number s.mesh side))

pub labels_of_side : (s : OrientedMesh) (polygon : PolygonView) (side : Side) → IsSide s.mesh side → LabelsOfSide s polygon side
labels_of_side s polygon side h = go (is_flipped s.signs f) refl
  where
    f : ℕ
    f = side.face.0

    d : ℕ
    d = side_number s.mesh side

    n : IsNumberOf s.mesh side.face.0 side.at (side_number s.mesh side)
    n = numbered s side h

    at_start : dart_at_corner s f (start_corner_of s d) ≡ d
    at_start = corner_of_start s f side.at d n

    at_end : dart_at_corner s f (end_corner_of s d) ≡ next_of s d
    at_end = corner_of_end s f side.at d n

    own : label_at (labelling_from s polygon) side ≡ label_of polygon (dart_at_corner s f side.at)
    own = label_is s polygon side h

    other : label_at (labelling_from s polygon) (side_after s.mesh side) ≡ label_of polygon (dart_at_corner s f (side_after s.mesh side).at)
    other = label_is s polygon (side_after s.mesh side) (after_side s side h)

    signed : is_flipped (signs_of (labelling_from s polygon)) f ≡ is_flipped s.signs f
    signed = flips_are s polygon f h.face

    go : (b : Bool) → is_flipped s.signs f ≡ b → LabelsOfSide s polygon side
    go true e = record {
      tail =
          ap (λ (b : Bool). cond b (label_at (labelling_from s polygon) (side_after s.mesh side))
          (label_at (labelling_from s polygon) side)) (signed ∙ e)
          ∙ other ∙ ap (λ t. label_of polygon (dart_at_corner s f t)) (sym (start_flipped s f side.at d n e))
          ∙ ap (label_of polygon) at_start;
      head =
          ap (λ (b : Bool). cond b (label_at (labelling_from s polygon) side)
          (label_at (labelling_from s polygon) (side_after s.mesh side))) (signed ∙ e)
          ∙ own ∙ ap (λ t. label_of polygon (dart_at_corner s f t)) (sym (end_flipped s f side.at d n e)) ∙ ap (label_of polygon) at_end;
    }
    go false e = record {
      tail =
          ap (λ (b : Bool). cond b (label_at (labelling_from s polygon) (side_after s.mesh side))
          (label_at (labelling_from s polygon) side)) (signed ∙ e)
          ∙ own ∙ ap (λ t. label_of polygon (dart_at_corner s f t)) (sym (start_kept s f side.at d n e)) ∙ ap (label_of polygon) at_start;
      head =
          ap (λ (b : Bool). cond b (label_at (labelling_from s polygon) side)
          (label_at (labelling_from s polygon) (side_after s.mesh side))) (signed ∙ e)
          ∙ other ∙ ap (λ t. label_of polygon (dart_at_corner s f t)) (sym (end_kept s f side.at d n e)) ∙ ap (label_of polygon) at_end;
    }

-- the leftover rule, with the number of places beside it
record QuadAt (n : ℕ) (places : List ℕ) (a c b d : ℕ) : Type 0 where
  rises : b ≡ add n a 1
  rises_too : d ≡ add n c 1
  a_below : a < n
  c_below : c < n
  a_place : get_or places (add n c 1) 0 ≡ add n (get_or places a 0) (minus n 1)
  c_place : get_or places (add n a 1) 0 ≡ add n (get_or places c 0) (minus n 1)

-- the two sides of an edge meet a rule: that of the kind of their edge
sides_rule : (s : OrientedMesh) (split : SplitView) (polygon : PolygonView) → IsOrientedSurface s → IsSplit s split
    → IsCutFrom s split polygon → 1 < polygon.degree
    → (side other : Side) → ArePartners s.mesh side other
    → MeetsSomeRule polygon.places (tail_label s.mesh (labelling_from s polygon) side) (head_label s.mesh (labelling_from s polygon) side)
    (tail_label s.mesh (labelling_from s polygon) other) (head_label s.mesh (labelling_from s polygon) other)
sides_rule s split polygon o t c some side other partners =
    by_kind (in_tree split edge) (in_cotree split edge) (is_left split edge) (one_of_three split edge) refl refl refl
  where
    d : ℕ
    d = side_number s.mesh side

    d_in : d < darts_of s
    d_in = number_below s.mesh side.face.0 side.at d (numbered s side partners.first)

    e : ℕ
    e = side_number s.mesh other

    twin : e ≡ twin_of s d
    twin = partner_is_twin s o side other partners

    e_in : e < darts_of s
    e_in = number_below s.mesh other.face.0 other.at e (numbered s other partners.second)

    back : twin_of s e ≡ d
    back = ap (twin_of s) twin ∙ twin-twin s o d d_in

    edge : ℕ
    edge = edge_of s d

    one_edge : edge_of s e ≡ edge
    one_edge = ap (edge_of s) twin ∙ edge-twin s o d d_in

    some_side : 0 < polygon.degree
    some_side = omega (arith, some)

    at_d : KindLabels (rotations_of s) (in_tree split) (in_cotree split) (is_left split) polygon d
    at_d = labels_ride s split polygon d o t c some_side d_in

    at_e : KindLabels (rotations_of s) (in_tree split) (in_cotree split) (is_left split) polygon e
    at_e = labels_ride s split polygon e o t c some_side e_in

    one : LabelsOfSide s polygon side
    one = labels_of_side s polygon side partners.first

    two : LabelsOfSide s polygon other
    two = labels_of_side s polygon other partners.second

    size : length polygon.places ≡ polygon.degree
    size = (c.places some_side).each_spoke

    below_d : label_of polygon d < polygon.degree
    below_d = (c.labels some_side).label_below d d_in

    below_e : label_of polygon e < polygon.degree
    below_e = (c.labels some_side).label_below e e_in

    place_below : (i : ℕ) → i < polygon.degree → place_of polygon i < polygon.degree
    place_below = (c.places some_side).below

    by_kind : (a b l : Bool) → OneOfThree a b l → in_tree split edge ≡ a → in_cotree split edge ≡ b → is_left split edge ≡ l
        → MeetsSomeRule polygon.places (tail_label s.mesh (labelling_from s polygon) side)
        (head_label s.mesh (labelling_from s polygon) side)
        (tail_label s.mesh (labelling_from s polygon) other) (head_label s.mesh (labelling_from s polygon) other)
    by_kind a b l tree_one p q r = inl (
      one.tail ∙ sym (at_d.of_tree p) ∙ sym one.head,
      two.tail ∙ sym (at_e.of_tree (ap (in_tree split) one_edge ∙ p)) ∙ sym two.head,
    )
    by_kind a b l cotree_one p q r = inr (inl (
      one.tail ∙ sym (at_d.of_cotree q) ∙ ap (λ x. label_of polygon (next_of s x)) (sym twin) ∙ sym two.head,
      one.head ∙ ap (λ x. label_of polygon (next_of s x)) (sym back) ∙ at_e.of_cotree (ap (in_cotree split) one_edge ∙ q) ∙ sym two.tail,
    ))
    by_kind a b l left_one p q r = inr (inr (
        let left_d : is_left split (edge_of s d) ≡ true = r in
        let left_e : is_left split (edge_of s e) ≡ true = ap (is_left split) one_edge ∙ r in
        let rises : head_label s.mesh (labelling_from s polygon) side ≡ add polygon.degree
        (tail_label s.mesh (labelling_from s polygon) side) 1 =
        one.head ∙ at_d.of_left left_d ∙ sym (up_is_add polygon.degree (label_of polygon d) below_d)
        ∙ ap (λ x. add polygon.degree x 1) (sym one.tail) in
        let rises_too : head_label s.mesh (labelling_from s polygon) other ≡ add polygon.degree
        (tail_label s.mesh (labelling_from s polygon) other) 1 =
        two.head ∙ at_e.of_left left_e ∙ sym (up_is_add polygon.degree (label_of polygon e) below_e)
        ∙ ap (λ x. add polygon.degree x 1) (sym two.tail) in
        let fall : (x y : ℕ) → x < darts_of s → twin_of s x ≡ y → is_left split (edge_of s x) ≡ true
        → label_of polygon x < polygon.degree → label_of polygon y < polygon.degree
        → place_of polygon (add polygon.degree (label_of polygon y) 1) ≡ add polygon.degree (place_of polygon (label_of polygon x))
        (minus polygon.degree 1) =
        λ x y x_in is left x_below y_below.
        ap (place_of polygon) (up_is_add polygon.degree (label_of polygon y) y_below)
        ∙ ap (λ z. place_of polygon (one_up polygon.degree (label_of polygon z))) (sym is)
        ∙ leftover s split polygon x o t c some_side x_in left
        ∙ sym (down_is_add polygon.degree (place_of polygon (label_of polygon x)) (place_below (label_of polygon x) x_below) some) in
        let quad_of : (n : ℕ) → n ≡ polygon.degree → QuadAt n polygon.places (tail_label s.mesh (labelling_from s polygon) side)
        (tail_label s.mesh (labelling_from s polygon) other) (head_label s.mesh (labelling_from s polygon) side)
        (head_label s.mesh (labelling_from s polygon) other) =
        λ n is. subst
        (λ m. QuadAt m polygon.places (tail_label s.mesh (labelling_from s polygon) side)
        (tail_label s.mesh (labelling_from s polygon) other)
        (head_label s.mesh (labelling_from s polygon) side) (head_label s.mesh (labelling_from s polygon) other))
        (sym is)
        (record {
          rises = rises;
          rises_too = rises_too;
          a_below = subst (λ x. x < polygon.degree) (sym one.tail) below_d;
          c_below = subst (λ x. x < polygon.degree) (sym two.tail) below_e;
          a_place =
              ap (λ x. place_of polygon (add polygon.degree x 1)) two.tail ∙ fall d e d_in (sym twin) left_d below_d below_e
              ∙ ap (λ x. add polygon.degree (place_of polygon x) (minus polygon.degree 1)) (sym one.tail);
          c_place =
              ap (λ x. place_of polygon (add polygon.degree x 1)) one.tail ∙ fall e d e_in back left_e below_e below_d
              ∙ ap (λ x. add polygon.degree (place_of polygon x) (minus polygon.degree 1)) (sym two.tail);
        }) in
        let quad = quad_of (length polygon.places) size in
        record {
          rises = quad.rises;
          rises_too = quad.rises_too;
          quad = record { a_below = quad.a_below; c_below = quad.c_below; a_place = quad.a_place; c_place = quad.c_place };
        }
        ))

pub up_moves : (degree i : ℕ) → i < degree → 1 < degree → one_up degree i ≢ i
up_moves degree i l m same = grind arith

pub two_up_moves : (degree i : ℕ) → i < degree → 2 < degree → one_up degree (one_up degree i) ≢ i
two_up_moves degree i l m same = grind arith

-- the degree is four or at least eight
pub degree_is : (s : OrientedMesh) (split : SplitView) (polygon : PolygonView) → IsCutFrom s split polygon → 0 < polygon.degree
    → (polygon.degree ≡ 4) ⊎ (8 ≤ polygon.degree)
degree_is s split polygon c some = grind arith

shape_of : (s : OrientedMesh) (split : SplitView) (polygon : PolygonView) → IsCutFrom s split polygon → 0 < polygon.degree
    → HasShape s.mesh (labelling_from s polygon)
shape_of s split polygon c some = record {
  each_face = length-map (enumerate_from 0 s.mesh.faces) (λ (p : ℕ × List ℕ). face_labels s polygon p.0 (length p.1))
      ∙ length-enumerate_from 0 s.mesh.faces;
  each_corner = λ f l.
      ap (λ (xs : List ℕ). length xs) (labels_of_labelling s polygon f l)
      ∙ length-map-range_with_len (λ t. label_of polygon (dart_at_corner s f t)) 0 (length (face_at s.mesh f));
  each_spoke = (c.places some).each_spoke;
  labels_below = λ f l.
      subst (All (λ label. label < polygon.degree)) (sym (labels_of_labelling s polygon f l))
      (All-from_get_or (λ label. label < polygon.degree)
      (map (λ t. label_of polygon (dart_at_corner s f t)) (range_with_len 0 (length (face_at s.mesh f)))) 0
      (λ t k.
      let few : t < length (face_at s.mesh f) = omega (
        arith,
        k,
        length-map-range_with_len (λ x. label_of polygon (dart_at_corner s f x)) 0 (length (face_at s.mesh f)),
      ) in
      let is : get_or (map (λ x. label_of polygon (dart_at_corner s f x)) (range_with_len 0 (length (face_at s.mesh f)))) t 0 ≡ label_of
      polygon (dart_at_corner s f t) =
      get_or-map-range_with_len (λ x. label_of polygon (dart_at_corner s f x)) 0 (length (face_at s.mesh f)) t t 0 few (omega arith) in
      subst (λ x. x < polygon.degree) (sym is) ((c.labels some).label_below (dart_at_corner s f t) (dart_starts s f t l few).within)));
  places_below = All-from_get_or (λ place. place < polygon.degree) polygon.places 0
      (λ i l. (c.places some).below i (omega (arith, l, (c.places some).each_spoke)));
}

-- sides that run oppositely under the signs of the surface do so under those of a labelling that flips the same faces
pub opposite_under : (s : OrientedMesh) (labelling : LabellingView)
    → ((f : ℕ) → f < length s.mesh.faces → is_flipped (signs_of labelling) f ≡ is_flipped s.signs f)
    → (side other : Side) → ArePartners s.mesh side other → RunOppositely s.mesh s.signs side other
    → RunOppositely s.mesh (signs_of labelling) side other
opposite_under s labelling flips side other partners r = grind (arith, head_of)

-- the labelling of a polygon is good
pub polygon_good : (s : OrientedMesh) (split : SplitView) (polygon : PolygonView) → IsOrientedSurface s → IsSplit s split
    → IsCutFrom s split polygon → 0 < polygon.degree
    → IsGood s.mesh (labelling_from s polygon)
polygon_good s split polygon o t c some = record {
  shape = shape_of s split polygon c some;
  degree = elim (degree_is s split polygon c some) [
    | inl four ↦ inr (
      four,
      λ i l.
          let below : place_of polygon i < 4 = omega (arith, four, (c.places some).below i (omega arith)) in
          ap (place_of polygon) (up_is_add 4 i l) ∙ four_places s split polygon i o t c four l
          ∙ sym (up_is_add 4 (place_of polygon i) below),
    )
    | inr more ↦ inl (omega arith)
  ];
  places = (c.places some).apart;
  edges = λ u v is. record {
    two_sides = o.closed.two_sides u v is;
    sides = λ side other partners joins. record {
      opposite = opposite_under s (labelling_from s polygon) (flips_are s polygon) side other partners
          (o.coherent.opposite side other partners);
      rule = sides_rule s split polygon o t c (elim (degree_is s split polygon c some)
          [ inl four ↦ omega arith | inr more ↦ omega arith ]) side other partners;
    };
  };
}
