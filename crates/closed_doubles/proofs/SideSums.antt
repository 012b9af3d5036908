-- Sums over all sides of numbers that darts have, face by face; and over those of the double, kind by kind.
use Rattle.closed_doubles.proofs.Common.{rims, length-mirror_face, mirror_corner, mirror_next, mirror, mirror_face, rim_quad, double_of, ◌≡◌, ℕ, zero, suc, ◌+◌, ◌-◌, ◌<◌, true, false, List, [], ◌∷◌, ◌++◌, length, map, get_or, refl, ap, ap₂, sym, ◌∙◌, arith, nat_tests, flat_map, step_within, face_side, FaceList, FaceSide, all_sides, sides_of_face, next_corner, next_back}
use Rattle.std.specs.List.{enumerate_from, range_with_len}

-- ---- sums of the first numbers

abbrev pub below : (ℕ → ℕ) → ℕ → ℕ
below f zero = 0
below f (suc n) = below f n + f n

pub below-alike : (f g : ℕ → ℕ) (n : ℕ) → ((k : ℕ) → k < n → f k ≡ g k) → below f n ≡ below g n
below-alike f g zero h = refl
below-alike f g (suc n) h = ap₂ (λ a b. a + b) (below-alike f g n (λ k l. h k (omega arith))) (h n (omega arith))

pub below-add : (f g : ℕ → ℕ) (n : ℕ) → below (λ k. f k + g k) n ≡ below f n + below g n
below-add f g zero = refl
below-add f g (suc n) = omega (arith, below-add f g n)

pub below-none : (n : ℕ) → below (λ k. 0) n ≡ 0
below-none zero = refl
below-none (suc n) = omega (arith, below-none n)

below-first : (f : ℕ → ℕ) (n : ℕ) → below f (suc n) ≡ f 0 + below (λ k. f (suc k)) n
below-first f zero = omega arith
below-first f (suc n) = omega (arith, below-first f n)

-- in the other order
below-reverse : (f : ℕ → ℕ) (n : ℕ) → below (λ k. f (n - 1 - k)) n ≡ below f n
below-reverse f zero = refl
below-reverse f (suc n) =
    let top : f (suc n - 1 - 0) ≡ f n = ap f (omega arith) in
    let rest : below (λ k. f (suc n - 1 - suc k)) n ≡ below (λ k. f (n - 1 - k)) n = grind (arith, below-alike) in
    omega (arith, below-first (λ k. f (suc n - 1 - k)) n, top, rest, below-reverse f n)

-- each at the corner behind
pub below-next : (f : ℕ → ℕ) (n : ℕ) → below (λ t. f (next_corner true n t)) n ≡ below f n
below-next f zero = refl
below-next f (suc n) =
    let last : next_corner true (suc n) n ≡ 0 = grind (arith, nat_tests) in
    let home : f (next_corner true (suc n) n) ≡ f 0 = ap f last in
    let most : below (λ t. f (next_corner true (suc n) t)) n ≡ below (λ t. f (suc t)) n = grind (arith, below-alike) in
    omega (arith, home, most, below-first f n)

-- ---- sums over sides

abbrev pub side_sum : (ℕ → ℕ → ℕ) → List FaceSide → ℕ
side_sum g [] = 0
side_sum g (s ∷ sides) = g s.tail s.head + side_sum g sides

side_sum-append : (g : ℕ → ℕ → ℕ) (xs ys : List FaceSide) → side_sum g (xs ++ ys) ≡ side_sum g xs + side_sum g ys
side_sum-append g [] ys = omega arith
side_sum-append g (x ∷ xs) ys = omega (arith, side_sum-append g xs ys)

pub side_sum-add : (g h : ℕ → ℕ → ℕ) (sides : List FaceSide) → side_sum (λ a b. g a b + h a b) sides ≡ side_sum g sides + side_sum h sides
side_sum-add g h [] = refl
side_sum-add g h (s ∷ sides) = omega (arith, side_sum-add g h sides)

-- over the sides of a face
abbrev dart_at : (ℕ → ℕ → ℕ) → List ℕ → ℕ → ℕ
dart_at g face t = g (get_or face t 0) (get_or face (next_corner true (length face) t) 0)

abbrev pub face_sum : (ℕ → ℕ → ℕ) → List ℕ → ℕ
face_sum g face = below (dart_at g face) (length face)

abbrev pub faces_sum : (ℕ → ℕ → ℕ) → List (List ℕ) → ℕ
faces_sum g [] = 0
faces_sum g (face ∷ faces) = face_sum g face + faces_sum g faces

pub faces_sum-append : (g : ℕ → ℕ → ℕ) (xs ys : List (List ℕ)) → faces_sum g (xs ++ ys) ≡ faces_sum g xs + faces_sum g ys
faces_sum-append g [] ys = omega arith
faces_sum-append g (x ∷ xs) ys = omega (arith, faces_sum-append g xs ys)

-- over the sides of one face, from one on
sides_from : (g : ℕ → ℕ → ℕ) (f : ℕ) (face : List ℕ) (t k : ℕ)
    → below (dart_at g face) t + side_sum g (map (face_side f face) (range_with_len t k)) ≡ below (dart_at g face) (t + k)
sides_from g f face t zero = grind (arith, below)
sides_from g f face t (suc k) =
    let up : t + 1 ≡ suc t = omega arith in
    let next : below (dart_at g face) (t + 1) ≡ below (dart_at g face) (suc t) = ap (below (dart_at g face)) up in
    let same : below (dart_at g face) (t + 1 + k) ≡ below (dart_at g face) (t + suc k) = ap (below (dart_at g face)) (omega arith) in
    omega (arith, next, same, sides_from g f face (t + 1) k)

by_faces_from : (g : ℕ → ℕ → ℕ) (n : ℕ) (faces : List (List ℕ))
    → side_sum g (flat_map (λ (p : ℕ × List ℕ). sides_of_face p.0 p.1) (enumerate_from n faces)) ≡ faces_sum g faces
by_faces_from g n [] = refl
by_faces_from g n (face ∷ faces) =
    let here : below (dart_at g face) (0 + length face) ≡ face_sum g face = ap (below (dart_at g face)) (omega arith) in
    omega (
      arith,
      side_sum-append g (sides_of_face n face) (flat_map (λ (p : ℕ × List ℕ). sides_of_face p.0 p.1) (enumerate_from (n + 1) faces)),
      sides_from g n face 0 (length face),
      here,
      by_faces_from g (n + 1) faces,
    )

pub by_faces : (g : ℕ → ℕ → ℕ) (mesh : FaceList) → side_sum g (all_sides mesh) ≡ faces_sum g mesh.faces
unfolding all_sides
by_faces g mesh = by_faces_from g 0 mesh.faces

-- ---- the double

-- the number of the dart of the mirror over a dart
abbrev pub mirrored : ℕ → (ℕ → ℕ → ℕ) → ℕ → ℕ → ℕ
mirrored count g a b = g (mirror count b) (mirror count a)

mirror_sum : (count : ℕ) (g : ℕ → ℕ → ℕ) (face : List ℕ) → face_sum g (mirror_face count face) ≡ face_sum (mirrored count g) face
mirror_sum count g face =
    let m : ℕ = length face in
    let whole : List ℕ = mirror_face count face in
    let size : length whole ≡ m = length-mirror_face count face in
    let over : ℕ → ℕ = λ r. g (mirror count (get_or face r 0)) (mirror count (get_or face (next_corner false m r) 0)) in
    ap (λ n. below (λ t. g (get_or whole t 0) (get_or whole (next_corner true n t) 0)) n) size
    ∙ below-alike (λ t. g (get_or whole t 0) (get_or whole (next_corner true m t) 0)) (λ t. over (m - 1 - t)) m (λ t l.
    ap₂ g (mirror_corner count face t l)
    (mirror_corner count face (next_corner true m t) (step_within true m t l)
    ∙ ap (λ r. mirror count (get_or face r 0)) (mirror_next true m t l)))
    ∙ below-reverse over m
    ∙ sym (below-next over m)
    ∙ below-alike (λ t. over (next_corner true m t)) (dart_at (mirrored count g) face) m (λ t l.
    ap (λ r. g (mirror count (get_or face (next_corner true m t) 0)) (mirror count (get_or face r 0))) (next_back true m t l))

mirrors_sum : (count : ℕ) (g : ℕ → ℕ → ℕ) (faces : List (List ℕ))
    → faces_sum g (map (mirror_face count) faces) ≡ faces_sum (mirrored count g) faces
mirrors_sum count g [] = refl
mirrors_sum count g (face ∷ faces) = ap₂ (λ a b. a + b) (mirror_sum count g face) (mirrors_sum count g faces)

-- what the four sides of the quad of a side have
abbrev pub quad_part : ℕ → (ℕ → ℕ → ℕ) → ℕ → ℕ → ℕ
quad_part count g u v = g v u + g u (mirror count u) + g (mirror count u) (mirror count v) + g (mirror count v) v

quads_sum : (count : ℕ) (g : ℕ → ℕ → ℕ) (sides : List FaceSide)
    → faces_sum g (map (rim_quad count) sides) ≡ side_sum (quad_part count g) sides
quads_sum count g [] = refl
quads_sum count g (s ∷ sides) =
    let u : ℕ = s.tail in
    let v : ℕ = s.head in
    let four : face_sum g (rim_quad count s)
    ≡ 0 + g v u + g u (mirror count u) + g (mirror count u) (mirror count v) + g (mirror count v) v = refl in
    omega (arith, four, quads_sum count g sides)

pub double_sum : (mesh : FaceList) (g : ℕ → ℕ → ℕ)
    → side_sum g (all_sides (double_of mesh))
    ≡ side_sum g (all_sides mesh) + side_sum (mirrored mesh.count g) (all_sides mesh) + side_sum (quad_part mesh.count g) (rims mesh)
double_sum mesh g = grind (arith, by_faces, faces_sum-append, mirrors_sum, quads_sum)
