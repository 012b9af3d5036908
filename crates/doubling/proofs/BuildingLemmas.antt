-- The double as it is built: what is a face of it, how far a step comes, and when there is no room.
use Rattle.doubling.proofs.Common.{begun, with_mirrors, with_quads, with_face, HasNoRoom, EndsEarly, mirror, mirror_face, is_rim, rim_quad, double_of, DoubleFault, ◌≡◌, ◌≢◌, inl, inr, ℕ, zero, suc, ◌+◌, ◌-◌, ◌<◌, ◌≤◌, true, false, List, [], ◌∷◌, ◌++◌, length, map, get_or, take, drop, refl, ap, sym, ◌∙◌, subst, arith, append_assoc, common_steps, length-map, get_or-map, get_or_default, take_more, take-append-drop, filter, sum_by, back_within, there_and_back, side_of_number-is, side_below, next_within, IsSide, first_side, FaceList, FaceSide, PendingFace, IsFace, face_at, all_sides, next_corner, total_sides, numbers, Side}
use Rattle.surf_model.proofs.NumberLemmas.{face_side, length-all_sides}
use Rattle.surf_model.specs.declared.names.VertexName.{VertexName}
use Rattle.doubling.proofs.DoubleFaces.{length-mirror_face, mirror_corner, mirror_next}

-- ---- faces of the double

pub face_more : (count : ℕ) (ring : List ℕ) → IsFace count ring → IsFace (count + count) ring
face_more count ring h = grind arith

mirrors_differ : (count : ℕ) (ring : List ℕ) (t : ℕ) → IsFace count ring → t < length ring
    → get_or (mirror_face count ring) t 0 ≢ get_or (mirror_face count ring) (next_corner true (length ring) t) 0
mirrors_differ count ring t h l same = grind (arith, mirror_corner, next_within, mirror_next, back_within, there_and_back)

pub face_mirror : (count : ℕ) (ring : List ℕ) → IsFace count ring → IsFace (count + count) (mirror_face count ring)
face_mirror count ring h =
    let size : length (mirror_face count ring) ≡ length ring = length-mirror_face count ring in
    record {
      polygon = omega (arith, size, h.polygon);
      in_range = λ k d l.
          (let few : k < length ring = omega (arith, size, l) in
          omega (
            arith,
            get_or_default (mirror_face count ring) k d 0 l,
            mirror_corner count ring k few,
            h.in_range (length ring - 1 - k) 0 (omega arith),
          ));
      neighbours = λ t l.
          subst (λ n. get_or (mirror_face count ring) t 0 ≢ get_or (mirror_face count ring) (next_corner true n t) 0) (sym size)
          (mirrors_differ count ring t h (omega (arith, size, l)));
    }

pub face_quad : (count u v : ℕ) → u < count → v < count → u ≢ v
    → IsFace (count + count) (v ∷ u ∷ mirror count u ∷ mirror count v ∷ [])
face_quad count u v lu lv other = record { polygon = omega arith; in_range = below; neighbours = apart }
  where
    below : (k d : ℕ) → k < 4 → get_or (v ∷ u ∷ mirror count u ∷ mirror count v ∷ []) k d < count + count
    below zero d l = omega arith
    below (suc zero) d l = omega arith
    below (suc (suc zero)) d l = omega arith
    below (suc (suc (suc zero))) d l = omega arith
    below (suc (suc (suc (suc k)))) d l = absurd (omega arith)

    apart : (t : ℕ) → t < 4
        → get_or (v ∷ u ∷ mirror count u ∷ mirror count v ∷ []) t 0
        ≢ get_or (v ∷ u ∷ mirror count u ∷ mirror count v ∷ []) (next_corner true 4 t) 0
    apart zero l same = other (sym same)
    apart (suc zero) l same = omega arith
    apart (suc (suc zero)) l same = other (omega arith)
    apart (suc (suc (suc zero))) l same = omega arith
    apart (suc (suc (suc (suc t)))) l same = absurd (omega arith)

-- ---- how far a step comes

-- these faces stand first in the double
abbrev pub ComeFirst : FaceList → List (List ℕ) → Type 0
ComeFirst mesh faces = (rest : List (List ℕ)) × (faces ++ rest ≡ (double_of mesh).faces)

abbrev mirrors : FaceList → List (List ℕ)
mirrors mesh = map (mirror_face mesh.count) mesh.faces

abbrev quads : FaceList → List FaceSide → List (List ℕ)
quads mesh sides = map (rim_quad mesh.count) (filter (is_rim mesh) sides)

pub mirrors_first : (mesh : FaceList) (n : ℕ) → ComeFirst mesh (with_mirrors mesh n).mesh.faces
mirrors_first mesh n =
    let some : List (List ℕ) = take n (mirrors mesh) in
    let others : List (List ℕ) = drop n (mirrors mesh) in (
      others ++ quads mesh (all_sides mesh),
      sym (append_assoc (mesh.faces ++ some) others (quads mesh (all_sides mesh)))
          ∙ ap (λ (l : List (List ℕ)). l ++ quads mesh (all_sides mesh))
          (append_assoc mesh.faces some others ∙ ap (λ (l : List (List ℕ)). mesh.faces ++ l) (take-append-drop n (mirrors mesh))),
    )

quads-append : (mesh : FaceList) (xs ys : List FaceSide) → quads mesh (xs ++ ys) ≡ quads mesh xs ++ quads mesh ys
quads-append mesh xs ys = grind (arith, common_steps)

pub quads_first : (mesh : FaceList) (n : ℕ) → ComeFirst mesh (with_quads mesh n).mesh.faces
quads_first mesh n =
    let some : List FaceSide = take n (all_sides mesh) in
    let others : List FaceSide = drop n (all_sides mesh) in (
      quads mesh others,
      append_assoc (mesh.faces ++ mirrors mesh) (quads mesh some) (quads mesh others)
          ∙ ap (λ (l : List (List ℕ)). mesh.faces ++ mirrors mesh ++ l)
          (sym (quads-append mesh some others) ∙ ap (quads mesh) (take-append-drop n (all_sides mesh))),
    )

pub mirrors_more : (mesh : FaceList) (n : ℕ) → n < length mesh.faces
    → with_face (with_mirrors mesh n) (mirror_face mesh.count (face_at mesh n)) ≡ with_mirrors mesh (n + 1)
mirrors_more mesh n l =
    let few : n < length (mirrors mesh) = omega (arith, l, length-map mesh.faces (mirror_face mesh.count)) in
    let here : get_or (mirrors mesh) n [] ≡ mirror_face mesh.count (face_at mesh n) =
    get_or-map (mirror_face mesh.count) mesh.faces n [] [] l in
    ap (begun mesh)
    (append_assoc mesh.faces (take n (mirrors mesh)) (mirror_face mesh.count (face_at mesh n) ∷ [])
    ∙ ap (λ (l : List (List ℕ)). mesh.faces ++ l)
    (ap (λ (ring : List ℕ). take n (mirrors mesh) ++ ring ∷ []) (sym here) ∙ sym (take_more (mirrors mesh) n [] few)))

-- the sides up to one with a place
side_more : (mesh : FaceList) (side : Side) → IsSide mesh side
    → take (first_side mesh side.face.0 + side.at + 1) (all_sides mesh)
    ≡ take (first_side mesh side.face.0 + side.at) (all_sides mesh) ++ face_side side.face.0 (face_at mesh side.face.0) side.at ∷ []
side_more mesh side is =
    let k : ℕ = first_side mesh side.face.0 + side.at in
    take_more (all_sides mesh) k (record { face = 0; at = 0; tail = 0; head = 0 })
    (omega (arith, side_below mesh side.face.0 side.at is.face is.place, length-all_sides mesh))
    ∙ ap (λ (s : FaceSide). take k (all_sides mesh) ++ s ∷ []) (side_of_number-is mesh side.face.0 side.at is.face is.place)

-- a side of the mesh with its vertices
abbrev pub whole_side : FaceList → Side → FaceSide
whole_side mesh side = face_side side.face.0 (face_at mesh side.face.0) side.at

quad_here : (mesh : FaceList) (side : FaceSide) → is_rim mesh side ≡ true → quads mesh (side ∷ []) ≡ rim_quad mesh.count side ∷ []
quad_here mesh side is = rw is refl

no_quad_here : (mesh : FaceList) (side : FaceSide) → is_rim mesh side ≡ false → quads mesh (side ∷ []) ≡ []
no_quad_here mesh side is = rw is refl

pub quads_more : (mesh : FaceList) (side : Side) → IsSide mesh side → is_rim mesh (whole_side mesh side) ≡ true
    → with_face (with_quads mesh (first_side mesh side.face.0 + side.at)) (rim_quad mesh.count (whole_side mesh side))
    ≡ with_quads mesh (first_side mesh side.face.0 + side.at + 1)
quads_more mesh side is rim = grind (arith, common_steps, first_side, whole_side, quad_here, quads-append, side_more)

pub quads_same : (mesh : FaceList) (side : Side) → IsSide mesh side → is_rim mesh (whole_side mesh side) ≡ false
    → with_quads mesh (first_side mesh side.face.0 + side.at) ≡ with_quads mesh (first_side mesh side.face.0 + side.at + 1)
quads_same mesh side is rim = grind (arith, common_steps, first_side, no_quad_here, whole_side, quads-append, side_more)

pub quads_all : (mesh : FaceList) (n : ℕ) → total_sides mesh ≤ n → (with_quads mesh n).mesh ≡ double_of mesh
quads_all mesh n l = grind (arith, common_steps, length-all_sides)

-- ---- no room

no_room : (mesh : FaceList) (faces : List (List ℕ)) (face : List ℕ) → ComeFirst mesh (faces ++ face ∷ [])
    → sum_by length faces + length face ≤ total_sides (double_of mesh)
no_room mesh faces face first = grind (arith, common_steps)

pub more_room : (few many : ℕ) (fault : DoubleFault) → few ≤ many → HasNoRoom few fault → HasNoRoom many fault
more_room few many fault l (inl none) = inl none
more_room few many fault l (inr over) = inr (over.0, omega (arith, over.1))

-- where a face of the double has no room, the double has none
pub ends_early : (mesh : FaceList) (seen more : PendingFace) (face : List ℕ) (n : ℕ) (fault : DoubleFault) → n ≡ length face
    → with_face seen face ≡ more → ComeFirst mesh more.mesh.faces → HasNoRoom (total_sides seen.mesh + n) fault → EndsEarly mesh fault
ends_early mesh seen more face n fault size is first h = grind (arith, more_room, no_room)

-- ---- what calls put

-- one corner more
pub corner_more : (old start new : PendingFace) (list : List ℕ) (i v : ℕ) → old ≡ record { mesh = start.mesh; pending = take i list }
    → new ≡ record old { pending = old.pending ++ v ∷ [] } → i < length list → get_or list i 0 ≡ v
    → new ≡ record { mesh = start.mesh; pending = take (i + 1) list }
corner_more old start new list i v from put l is = grind (arith, common_steps)

pub length-numbers : (ring : List VertexName) → length (numbers ring) ≡ length ring
length-numbers ring = length-map ring (λ (v : VertexName). v.0)

-- all corners of a mirror stand there
pub mirror_stands : (old start : PendingFace) (count i : ℕ) (ring : List ℕ)
    → old ≡ record { mesh = start.mesh; pending = take i (mirror_face count ring) } → length ring ≤ i
    → old ≡ record { mesh = start.mesh; pending = mirror_face count ring }
mirror_stands old start count i ring from l = grind (arith, common_steps, length-mirror_face)

pub mirror_closes : (old start : PendingFace) (count : ℕ) (ring : List ℕ)
    → old ≡ record { mesh = start.mesh; pending = mirror_face count ring } → start.mesh.count ≡ count + count → IsFace count ring
    → IsFace old.mesh.count old.pending
mirror_closes old start count ring from is h = grind (arith, face_mirror)

pub mirror_next_face : (mesh : FaceList) (n count : ℕ) (seen : PendingFace) (ring : List ℕ) → seen ≡ with_mirrors mesh n
    → count ≡ mesh.count → ring ≡ face_at mesh n → n < length mesh.faces
    → with_face seen (mirror_face count ring) ≡ with_mirrors mesh (n + 1)
mirror_next_face mesh n count seen ring from size is l = grind (arith, mirrors_more)

-- the quad of a side, from what was read of it
pub quad_is : (mesh : FaceList) (side : Side) (head tail other_tail other_head count next size : ℕ)
    → head ≡ get_or (face_at mesh side.face.0) next 0 → next ≡ next_corner true size side.at
    → size ≡ length (face_at mesh side.face.0) → tail ≡ get_or (face_at mesh side.face.0) side.at 0 → count ≡ mesh.count
    → other_tail ≡ mirror count tail → other_head ≡ mirror count head
    → head ∷ tail ∷ other_tail ∷ other_head ∷ [] ≡ rim_quad mesh.count (whole_side mesh side)
quad_is mesh side head tail other_tail other_head count next size is_head is_next is_size is_tail is_count is_other_tail is_other_head =
    grind (arith, whole_side)

pub quad_next : (mesh : FaceList) (side : Side) (seen : PendingFace) (ring : List ℕ) → IsSide mesh side
    → is_rim mesh (whole_side mesh side) ≡ true → seen ≡ with_quads mesh (first_side mesh side.face.0 + side.at)
    → ring ≡ rim_quad mesh.count (whole_side mesh side)
    → with_face seen ring ≡ with_quads mesh (first_side mesh side.face.0 + side.at + 1)
quad_next mesh side seen ring is rim from quad = grind (arith, first_side, quads_more)
