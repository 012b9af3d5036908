-- The sides of a mesh, numbered face after face.
use Rattle.surf_model.proofs.Common.{◌≡◌, ℕ, ◌+◌, ◌<◌, ◌≤◌, true, List, [], ◌∷◌, ◌++◌, length, get_or, take, drop, refl, ap, sym, ◌∙◌, arith, length-append, append-nil, length-map, take_more, take_all, take-append-drop, flat_map-append, length-range_with_len, get_or-map-range_with_len, length-enumerate_from, get_or-enumerate_from, sum_by-cons, enumerate_from, range_with_len, flat_map, sum_by, FaceList, FaceSide, face_at, all_sides, sides_of_face, next_corner, total_sides}

-- side t of a face
abbrev pub face_side : ℕ → List ℕ → ℕ → FaceSide
face_side f face t = record { face = f; at = t; tail = get_or face t 0; head = get_or face (next_corner true (length face) t) 0 }

pub length-sides_of_face : (f : ℕ) (face : List ℕ) → length (sides_of_face f face) ≡ length face
length-sides_of_face f face = length-map (range_with_len 0 (length face)) (face_side f face) ∙ length-range_with_len 0 (length face)

pub get_or-sides_of_face : (f : ℕ) (face : List ℕ) (t : ℕ) (d : FaceSide) → t < length face
    → get_or (sides_of_face f face) t d ≡ face_side f face t
get_or-sides_of_face f face t d h = get_or-map-range_with_len (face_side f face) 0 (length face) t t d h (omega arith)

pub sides_of_face-more : (f : ℕ) (face : List ℕ) (t : ℕ) → t < length face
    → take (t + 1) (sides_of_face f face) ≡ take t (sides_of_face f face) ++ face_side f face t ∷ []
sides_of_face-more f face t h =
    take_more (sides_of_face f face) t (face_side f face t) (omega (arith, h, length-sides_of_face f face))
    ∙ ap (λ (s : FaceSide). take t (sides_of_face f face) ++ s ∷ []) (get_or-sides_of_face f face t (face_side f face t) h)

-- the sides of a face with its place
abbrev pub sides_at : ℕ × List ℕ → List FaceSide
sides_at p = sides_of_face p.0 p.1

-- the sides of the first n faces
unfoldable pub sides_up_to : FaceList → ℕ → List FaceSide
sides_up_to mesh n = flat_map sides_at (take n (enumerate_from 0 mesh.faces))

pub sides_up_to-none : (mesh : FaceList) → sides_up_to mesh 0 ≡ []
unfolding sides_up_to
sides_up_to-none mesh = refl

pub sides_up_to-more : (mesh : FaceList) (n : ℕ) → n < length mesh.faces → sides_up_to mesh (n + 1) ≡ sides_up_to mesh n
    ++ sides_of_face n (face_at mesh n)
unfolding sides_up_to
sides_up_to-more mesh n h =
    let faces : List (ℕ × List ℕ) = enumerate_from 0 mesh.faces in
    let one : List (ℕ × List ℕ) = get_or faces n (0, []) ∷ [] in
    let long : length faces ≡ length mesh.faces = length-enumerate_from 0 mesh.faces in
    let here : get_or faces n (0, []) ≡ (0 + n, get_or mesh.faces n []) = get_or-enumerate_from 0 mesh.faces n (0, []) h in
    ap (flat_map sides_at) (take_more faces n (0, []) (omega (arith, h, long)))
    ∙ flat_map-append sides_at (take n faces) one
    ∙ ap (λ (p : ℕ × List ℕ). flat_map sides_at (take n faces) ++ (sides_of_face p.0 p.1 ++ [])) here
    ∙ ap (λ (xs : List FaceSide). flat_map sides_at (take n faces) ++ xs) (append-nil (sides_of_face (0 + n) (face_at mesh n)))
    ∙ ap (λ k. flat_map sides_at (take n faces) ++ sides_of_face k (face_at mesh n)) (omega arith)

pub sides_up_to-all : (mesh : FaceList) (n : ℕ) → length mesh.faces ≤ n → sides_up_to mesh n ≡ all_sides mesh
unfolding sides_up_to all_sides
sides_up_to-all mesh n h = ap (flat_map sides_at) (take_all n (enumerate_from 0 mesh.faces)
    (omega (arith, h, length-enumerate_from 0 mesh.faces)))

length-from : (k : ℕ) (faces : List (List ℕ)) → length (flat_map sides_at (enumerate_from k faces)) ≡ sum_by length faces
length-from k [] = refl
length-from k (face ∷ faces) =
    length-append (sides_of_face k face) (flat_map sides_at (enumerate_from (k + 1) faces))
    ∙ (let here = length-sides_of_face k face in let rest =
    length-from (k + 1) faces in omega (arith, here, rest, sum_by-cons {X = List ℕ} length face faces))

pub length-all_sides : (mesh : FaceList) → length (all_sides mesh) ≡ total_sides mesh
unfolding all_sides
length-all_sides mesh = length-from 0 mesh.faces

pub length-sides_up_to : (mesh : FaceList) (n : ℕ) → length (sides_up_to mesh n) ≤ total_sides mesh
unfolding sides_up_to
length-sides_up_to mesh n =
    let faces : List (ℕ × List ℕ) = enumerate_from 0 mesh.faces in
    let split : flat_map sides_at faces ≡ flat_map sides_at (take n faces) ++ flat_map sides_at (drop n faces) =
    ap (flat_map sides_at) (sym (take-append-drop n faces)) ∙ flat_map-append sides_at (take n faces) (drop n faces) in
    omega (
      arith,
      length-from 0 mesh.faces,
      ap (λ (xs : List FaceSide). length xs) split,
      length-append (flat_map sides_at (take n faces)) (flat_map sides_at (drop n faces)),
    )
