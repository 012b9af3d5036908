-- Faces, sides, used vertices and edges of a renamed mesh, and the renaming back.
use Rattle.renaming.proofs.Common.{IsRenamed, ◌≡◌, ℕ, zero, suc, ◌+◌, ◌<◌, Bool, true, eqb, List, [], ◌∷◌, length, map, get_or, refl, ap, sym, ◌∙◌, subst, arith, eqb-true, nat_tests, length-map, get_or-map, get_or_default, map-append, same_lists, All-from_get_or, All, IsTrue, flat_map, corner_used, used_below, names, names_mesh, next_within, FaceList, FaceSide, IsFace, IsFaceList, face_at, all_sides, sides_of_face, next_corner, total_sides, joins, is_edge, is_used}
use Rattle.std.proofs.lemmas.List.Folds.{Any-from_list_any, list_any_at}
use Rattle.std.specs.List.{list_any, enumerate_from}
use Rattle.surf_model.proofs.FilterLemmas.{map-map, map_agree, map_itself}
use Rattle.surf_model.proofs.NumberLemmas.{face_side, sides_at, length-sides_of_face, get_or-sides_of_face, length-all_sides}

-- a side with its two vertices renamed
abbrev pub renamed_side : (ℕ → ℕ) → FaceSide → FaceSide
renamed_side there side = record { face = side.face; at = side.at; tail = there side.tail; head = there side.head }

pub length_renamed : (there back : ℕ → ℕ) (mesh other : FaceList) → IsRenamed there back mesh other
    → length other.faces ≡ length mesh.faces
length_renamed there back mesh other h = ap (λ (fs : List (List ℕ)). length fs) h.faces ∙ length-map mesh.faces (map there)

face_among : (there : ℕ → ℕ) (faces : List (List ℕ)) (f : ℕ) → get_or (map (map there) faces) f [] ≡ map there (get_or faces f [])
face_among there [] f = refl
face_among there (ring ∷ faces) zero = refl
face_among there (ring ∷ faces) (suc f) = face_among there faces f

pub face_renamed : (there back : ℕ → ℕ) (mesh other : FaceList) (f : ℕ) → IsRenamed there back mesh other
    → face_at other f ≡ map there (face_at mesh f)
face_renamed there back mesh other f h = ap (λ (fs : List (List ℕ)). get_or fs f []) h.faces ∙ face_among there mesh.faces f

pub size_renamed : (there back : ℕ → ℕ) (mesh other : FaceList) (f : ℕ) → IsRenamed there back mesh other
    → length (face_at other f) ≡ length (face_at mesh f)
size_renamed there back mesh other f h =
    ap (λ (ring : List ℕ). length ring) (face_renamed there back mesh other f h) ∙ length-map (face_at mesh f) there

pub corner_renamed : (there back : ℕ → ℕ) (mesh other : FaceList) (f t : ℕ) → IsRenamed there back mesh other
    → t < length (face_at mesh f) → get_or (face_at other f) t 0 ≡ there (get_or (face_at mesh f) t 0)
corner_renamed there back mesh other f t h l =
    ap (λ (ring : List ℕ). get_or ring t 0) (face_renamed there back mesh other f h) ∙ get_or-map there (face_at mesh f) t 0 0 l

side_of_ring : (there : ℕ → ℕ) (f : ℕ) (ring : List ℕ) (t : ℕ) → t < length ring
    → face_side f (map there ring) t ≡ renamed_side there (face_side f ring t)
side_of_ring there f ring t l =
    let next : ℕ = next_corner true (length ring) t in
    let tail : get_or (map there ring) t 0 ≡ there (get_or ring t 0) = get_or-map there ring t 0 0 l in
    let head : get_or (map there ring) next 0 ≡ there (get_or ring next 0) =
    get_or-map there ring next 0 0 (next_within (length ring) t l) in
    rw (length-map ring there, tail, head) refl

sides_of_ring : (there : ℕ → ℕ) (f : ℕ) (ring : List ℕ)
    → sides_of_face f (map there ring) ≡ map (renamed_side there) (sides_of_face f ring)
sides_of_ring there f ring =
    let sides : List FaceSide = sides_of_face f ring in
    let long : length (sides_of_face f (map there ring)) ≡ length ring =
    length-sides_of_face f (map there ring) ∙ length-map ring there in
    let as_long : length sides ≡ length ring = length-sides_of_face f ring in
    same_lists (sides_of_face f (map there ring)) (map (renamed_side there) sides)
    (long ∙ sym (length-map sides (renamed_side there) ∙ as_long)) (λ t d l.
    let few : t < length ring = omega (arith, l, long) in
    get_or-sides_of_face f (map there ring) t d (omega (arith, few, length-map ring there))
    ∙ side_of_ring there f ring t few
    ∙ ap (renamed_side there) (sym (get_or-sides_of_face f ring t d few))
    ∙ sym (get_or-map (renamed_side there) sides t d d (omega (arith, few, as_long))))

sides_from : (there : ℕ → ℕ) (n : ℕ) (faces : List (List ℕ))
    → flat_map sides_at (enumerate_from n (map (map there) faces)) ≡ map (renamed_side there) (flat_map sides_at (enumerate_from n faces))
sides_from there n [] = refl
sides_from there n (ring ∷ faces) =
    rw (sides_of_ring there n ring, sides_from there (n + 1) faces)
    (sym (map-append (renamed_side there) (sides_of_face n ring) (flat_map sides_at (enumerate_from (n + 1) faces))))

-- the other mesh has the sides of the first, each with its two vertices renamed
pub sides_renamed : (there back : ℕ → ℕ) (mesh other : FaceList) → IsRenamed there back mesh other
    → all_sides other ≡ map (renamed_side there) (all_sides mesh)
unfolding all_sides
sides_renamed there back mesh other h =
    ap (λ (fs : List (List ℕ)). flat_map sides_at (enumerate_from 0 fs)) h.faces ∙ sides_from there 0 mesh.faces

pub total_renamed : (there back : ℕ → ℕ) (mesh other : FaceList) → IsRenamed there back mesh other → total_sides other ≡ total_sides mesh
total_renamed there back mesh other h =
    sym (length-all_sides other) ∙ ap (λ (s : List FaceSide). length s) (sides_renamed there back mesh other h)
    ∙ length-map (all_sides mesh) (renamed_side there) ∙ length-all_sides mesh

-- what is found among the sides is found among the renamed ones
found_renamed : (there back : ℕ → ℕ) (mesh other : FaceList) (test wanted : FaceSide → Bool) → IsRenamed there back mesh other
    → ((side : FaceSide) → test side ≡ true → wanted (renamed_side there side) ≡ true) → list_any test (all_sides mesh) ≡ true
    → list_any wanted (all_sides other) ≡ true
found_renamed there back mesh other test wanted h passes is =
    let found = Any-from_list_any test (all_sides mesh) is in
    let side : FaceSide = renamed_side there found.1 in
    let read : get_or (map (renamed_side there) (all_sides mesh)) found.0 side ≡ side =
    get_or-map (renamed_side there) (all_sides mesh) found.0 found.1 side found.2 ∙ ap (renamed_side there) found.3 in
    rw (sides_renamed there back mesh other h)
    (list_any_at wanted (map (renamed_side there) (all_sides mesh)) found.0 side
    (omega (arith, found.2, length-map (all_sides mesh) (renamed_side there)))
    (ap wanted read ∙ passes found.1 found.4))

pub used_renamed : (there back : ℕ → ℕ) (mesh other : FaceList) (v : ℕ) → IsRenamed there back mesh other → IsTrue (is_used mesh v)
    → IsTrue (is_used other (there v))
used_renamed there back mesh other v h is =
    sym (names_mesh other (there v))
    ∙ found_renamed there back mesh other (names v) (names (there v)) h (λ side named. grind (arith, nat_tests)) (names_mesh mesh v ∙ is)

pub joins_renamed : (there : ℕ → ℕ) (u v : ℕ) (side : FaceSide) → joins u v side ≡ true
    → joins (there u) (there v) (renamed_side there side) ≡ true
joins_renamed there u v side joined = grind (arith, nat_tests)

pub edge_renamed : (there back : ℕ → ℕ) (mesh other : FaceList) (u v : ℕ) → IsRenamed there back mesh other → IsTrue (is_edge mesh u v)
    → IsTrue (is_edge other (there u) (there v))
unfolding is_edge
edge_renamed there back mesh other u v h is =
    found_renamed there back mesh other (joins u v) (joins (there u) (there v)) h (joins_renamed there u v) is

-- a used vertex of the other mesh has a number in the first, to which `back` leads
comes_back : (there back : ℕ → ℕ) (mesh other : FaceList) (v : ℕ) → IsRenamed there back mesh other → IsTrue (is_used other v)
    → IsTrue (is_used mesh (back v)) × (there (back v) ≡ v)
unfolding is_used
comes_back there back mesh other v h is =
    let face = Any-from_list_any (λ (ring : List ℕ). list_any (λ corner. eqb corner v) ring) other.faces is in
    let corner = Any-from_list_any (λ corner. eqb corner v) face.1 face.4 in
    let f : ℕ = face.0 in
    let t : ℕ = corner.0 in
    let read : face_at other f ≡ face.1 = get_or_default other.faces f [] face.1 face.2 ∙ face.3 in
    let in_list : f < length mesh.faces = omega (arith, face.2, length_renamed there back mesh other h) in
    let in_face : t < length (face_at mesh f) =
    omega (arith, corner.2, ap (λ (ring : List ℕ). length ring) read, size_renamed there back mesh other f h) in
    let before : ℕ = get_or (face_at mesh f) t 0 in
    let used : IsTrue (is_used mesh before) = corner_used mesh f t in_list in_face in
    let is_v : there before ≡ v =
    sym (corner_renamed there back mesh other f t h in_face) ∙ ap (λ (ring : List ℕ). get_or ring t 0) read
    ∙ get_or_default face.1 t 0 corner.1 corner.2 ∙ corner.3 ∙ eqb-true corner.1 v corner.4 in
    let home : before ≡ back v = sym (h.leads_back before used) ∙ ap back is_v in
    (subst (λ x. IsTrue (is_used mesh x)) home used, ap there (sym home) ∙ is_v)

pub list_restored : (there back : ℕ → ℕ) (xs : List ℕ) → All (λ v. back (there v) ≡ v) xs → map back (map there xs) ≡ xs
list_restored there back xs h = map-map back there xs ∙ map_agree (λ v. back (there v)) (λ v. v) xs h ∙ map_itself xs

face_restored : (there back : ℕ → ℕ) (mesh other : FaceList) (f : ℕ) → IsRenamed there back mesh other → f < length mesh.faces
    → map back (map there (face_at mesh f)) ≡ face_at mesh f
face_restored there back mesh other f h l =
    list_restored there back (face_at mesh f)
    (All-from_get_or (λ v. back (there v) ≡ v) (face_at mesh f) 0 (λ t b.
    h.leads_back (get_or (face_at mesh f) t 0) (corner_used mesh f t l b)))

faces_restored : (there back : ℕ → ℕ) (mesh other : FaceList) → IsRenamed there back mesh other
    → map (map back) (map (map there) mesh.faces) ≡ mesh.faces
faces_restored there back mesh other h =
    map-map (map back) (map there) mesh.faces
    ∙ map_agree (λ ring. map back (map there ring)) (λ ring. ring) mesh.faces
    (All-from_get_or (λ ring. map back (map there ring) ≡ ring) mesh.faces [] (λ f. face_restored there back mesh other f h))
    ∙ map_itself mesh.faces

-- a renaming leads back
pub led_back : (there back : ℕ → ℕ) (mesh other : FaceList) → IsFaceList mesh → IsRenamed there back mesh other
    → IsRenamed back there other mesh
led_back there back mesh other valid h = record {
  faces = sym (ap (map (map back)) h.faces ∙ faces_restored there back mesh other h);
  below = λ v is. used_below mesh (back v) valid (comes_back there back mesh other v h is).0;
  leads_back = λ v is. (comes_back there back mesh other v h is).1;
}

valid_face : (there back : ℕ → ℕ) (mesh other : FaceList) (f : ℕ) → IsRenamed there back mesh other → IsFaceList mesh
    → f < length mesh.faces → IsFace other.count (face_at other f)
valid_face there back mesh other f h valid l =
    let home : IsRenamed back there other mesh = led_back there back mesh other valid h in
    let is : IsFace mesh.count (face_at mesh f) = valid.faces f [] l in
    let long : length (face_at other f) ≡ length (face_at mesh f) = size_renamed there back mesh other f h in
    record {
      polygon = omega (arith, is.polygon, long);
      in_range = All-from_get_or (λ v. v < other.count) (face_at other f) 0 (λ t b.
          let few : t < length (face_at mesh f) = omega (arith, b, long) in
          rw (corner_renamed there back mesh other f t h few) (h.below (get_or (face_at mesh f) t 0) (corner_used mesh f t l few)));
      neighbours = λ t b same.
          let next : ℕ = next_corner true (length (face_at other f)) t in
          is.neighbours t (omega (arith, b, long))
          (corner_renamed back there other mesh f t home b ∙ ap back same
          ∙ sym (corner_renamed back there other mesh f next home (next_within (length (face_at other f)) t b))
          ∙ ap (λ m. get_or (face_at mesh f) (next_corner true m t) 0) long);
    }

pub valid_renamed : (there back : ℕ → ℕ) (mesh other : FaceList) → IsRenamed there back mesh other → IsFaceList mesh → IsFaceList other
valid_renamed there back mesh other h valid = record {
  faces = All-from_get_or (IsFace other.count) other.faces [] (λ f l.
      valid_face there back mesh other f h valid (omega (arith, l, length_renamed there back mesh other h)));
}
