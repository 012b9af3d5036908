-- Labels that are all 0: they are good on every surface, by the tree rule at each edge, and not full.
use Rattle.quad_system.proofs.Common.{OrientedMesh, IsOrientedSurface, IsGood, HasShape, FaceLabels, labels_at, signs_of, label_at, tail_label, head_label, all_zero, IsFull, ◌≡◌, ℕ, zero, suc, ◌+◌, ◌<◌, Bool, true, false, List, [], ◌∷◌, length, get_or, map, refl, ap, sym, ◌∙◌, subst, arith, common_steps, length-map, get_or-map, All-from_get_or, get_or-enumerate_from, length-enumerate_from, enumerate_from, All, IsSide, side_after, face_at, is_flipped, Side, add}
use Rattle.std.specs.Prelude.{cond}
use Rattle.quad_system.proofs.PolygonLabelLemmas.{after_side, opposite_under}

abbrev zeros : List ℕ → List ℕ
zeros corners = map (λ _. 0) corners

zero_at : (corners : List ℕ) (k : ℕ) → get_or (zeros corners) k 0 ≡ 0
zero_at [] k = refl
zero_at (corner ∷ corners) zero = refl
zero_at (corner ∷ corners) (suc k) = zero_at corners k

-- what the labelling says of one face
abbrev zero_face : OrientedMesh → ℕ → List ℕ → FaceLabels
zero_face s f corners = record { flipped = is_flipped s.signs f; labels = zeros corners }

how_many : (s : OrientedMesh) → length (all_zero s).faces ≡ length s.mesh.faces
how_many s = length-map (enumerate_from 0 s.mesh.faces) (λ (p : ℕ × List ℕ). zero_face s p.0 p.1) ∙ length-enumerate_from 0 s.mesh.faces

face_is : (s : OrientedMesh) (f : ℕ) (d : FaceLabels) → f < length s.mesh.faces
    → get_or (all_zero s).faces f d ≡ zero_face s f (face_at s.mesh f)
face_is s f d l =
    let pairs : List (ℕ × List ℕ) = enumerate_from 0 s.mesh.faces in
    let long : length pairs ≡ length s.mesh.faces = length-enumerate_from 0 s.mesh.faces in
    let blank : ℕ × List ℕ = (0, []) in
    let read : get_or pairs f blank ≡ (0 + f, get_or s.mesh.faces f []) = get_or-enumerate_from 0 s.mesh.faces f blank l in
    let zero_add : 0 + f ≡ f = omega arith in
    get_or-map (λ (p : ℕ × List ℕ). zero_face s p.0 p.1) pairs f blank d (omega (arith, long, l))
    ∙ ap (λ (p : ℕ × List ℕ). zero_face s p.0 p.1) read
    ∙ ap (λ (k : ℕ). zero_face s k (face_at s.mesh f)) zero_add

labels_are : (s : OrientedMesh) (f : ℕ) → f < length s.mesh.faces → labels_at (all_zero s) f ≡ zeros (face_at s.mesh f)
labels_are s f l = ap (λ (x : FaceLabels). x.labels) (face_is s f _ l)

flips_stay : (s : OrientedMesh) (f : ℕ) → f < length s.mesh.faces → is_flipped (signs_of (all_zero s)) f ≡ is_flipped s.signs f
flips_stay s f l =
    let blank : FaceLabels = record { flipped = false; labels = [] } in
    get_or-map (λ (x : FaceLabels). x.flipped) (all_zero s).faces f blank false (omega (arith, how_many s, l))
    ∙ ap (λ (x : FaceLabels). x.flipped) (face_is s f blank l)

label_is : (s : OrientedMesh) (corner : Side) → IsSide s.mesh corner → label_at (all_zero s) corner ≡ 0
label_is s corner h = grind (arith, labels_are, zero_at)

either : (b : Bool) (x y : ℕ) → x ≡ 0 → y ≡ 0 → cond b x y ≡ 0
either true x y e f = e
either false x y e f = f

tail_is : (s : OrientedMesh) (side : Side) → IsSide s.mesh side → tail_label s.mesh (all_zero s) side ≡ 0
tail_is s side h = either (is_flipped (signs_of (all_zero s)) side.face.0) (label_at (all_zero s) (side_after s.mesh side))
    (label_at (all_zero s) side)
    (label_is s (side_after s.mesh side) (after_side s side h)) (label_is s side h)

head_is : (s : OrientedMesh) (side : Side) → IsSide s.mesh side → head_label s.mesh (all_zero s) side ≡ 0
head_is s side h = either (is_flipped (signs_of (all_zero s)) side.face.0) (label_at (all_zero s) side)
    (label_at (all_zero s) (side_after s.mesh side))
    (label_is s side h) (label_is s (side_after s.mesh side) (after_side s side h))

-- each of the five spokes has its own number as its place
abbrev five : List ℕ
five = 0 ∷ 1 ∷ 2 ∷ 3 ∷ 4 ∷ []

place_is : (i : ℕ) → i < 5 → get_or five i 0 ≡ i
place_is zero l = refl
place_is (suc zero) l = refl
place_is (suc (suc zero)) l = refl
place_is (suc (suc (suc zero))) l = refl
place_is (suc (suc (suc (suc zero)))) l = refl
place_is (suc (suc (suc (suc (suc i))))) l = absurd (omega (arith, l))

zero_shape : (s : OrientedMesh) → HasShape s.mesh (all_zero s)
zero_shape s = record {
  each_face = how_many s;
  each_corner = λ f l. ap (λ (xs : List ℕ). length xs) (labels_are s f l) ∙ length-map (face_at s.mesh f) (λ _. 0);
  each_spoke = refl;
  labels_below = λ f l.
      subst (All (λ label. label < 5)) (sym (labels_are s f l))
      (All-from_get_or (λ label. label < 5) (zeros (face_at s.mesh f)) 0
      (λ k _. subst (λ n. n < 5) (sym (zero_at (face_at s.mesh f) k)) (omega arith)));
  places_below = All-from_get_or (λ place. place < 5) five 0 (λ i l. subst (λ n. n < 5) (sym (place_is i l)) l);
}

pub zero_good : (s : OrientedMesh) → IsOrientedSurface s → IsGood s.mesh (all_zero s)
zero_good s o = grind (arith, common_steps, zero_shape, place_is, opposite_under, flips_stay, tail_is, head_is)

-- along no side the label rises, so no side has the label 0 on a leftover edge
pub zero_not_full : (s : OrientedMesh) → IsFull s.mesh (all_zero s) → ⊥
unfolding add
zero_not_full s full = grind (arith, head_is, tail_is)
