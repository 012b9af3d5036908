-- Sums over all sides of a mesh, face by face: the boundary of numbered faces.
use Rattle.homology.proofs.Common.{boundary, total, along, round, share, ◌≡◌, ℕ, zero, suc, ◌+◌, ◌<◌, List, [], ◌∷◌, ◌++◌, length, get_or, refl, ap, ap₂, sym, ◌∙◌, arith, ℤ, pos, ◌+ℤ◌, *ℤ-zero, nat_tests, common_steps, ints, enumerate_from, range_with_len, ◌*ℤ◌, map, flat_map, ◌==◌, if◌then◌else◌, face_side, FaceList, FaceSide, all_sides, sides_of_face, face_at}
use Rattle.homology.proofs.RingLemmas.{times-sum, sum-times, times-one, times-minus}
use Rattle.homology.proofs.AlongLemmas.{IsOpposite, first_sides, side_number_at, round-sides}

-- what a side gives: the number of its face times that of its dart
abbrev pub side_part : (ℕ → ℤ) → (ℕ → ℕ → ℤ) → FaceSide → ℤ
side_part of_face number side = of_face side.face *ℤ number side.tail side.head

-- over some sides
abbrev pub part_sum : (ℕ → ℤ) → (ℕ → ℕ → ℤ) → List FaceSide → ℤ
part_sum of_face number sides = total (map (side_part of_face number) sides)

pub part_sum-append : (of_face : ℕ → ℤ) (number : ℕ → ℕ → ℤ) (xs ys : List FaceSide)
    → part_sum of_face number (xs ++ ys) ≡ part_sum of_face number xs +ℤ part_sum of_face number ys
part_sum-append of_face number [] ys = omega (arith, ints)
part_sum-append of_face number (x ∷ xs) ys =
    let more = part_sum-append of_face number xs ys in
    omega (arith, ints, more)

-- numbers of faces that are added give sums that are added
pub part_sum-sum : (one other : ℕ → ℤ) (number : ℕ → ℕ → ℤ) (sides : List FaceSide)
    → part_sum (λ f. one f +ℤ other f) number sides ≡ part_sum one number sides +ℤ part_sum other number sides
part_sum-sum one other number [] = omega (arith, ints)
part_sum-sum one other number (side ∷ sides) =
    let more = part_sum-sum one other number sides in
    omega (arith, ints, more, sum-times (one side.face) (other side.face) (number side.tail side.head))

pub part_sum-none : (number : ℕ → ℕ → ℤ) (sides : List FaceSide) → part_sum (λ f. pos 0) number sides ≡ pos 0
part_sum-none number [] = refl
part_sum-none number (side ∷ sides) =
    let more = part_sum-none number sides in grind arith

-- a number times the sum of the first sides
times_at : (a : ℤ) (number : ℕ → ℕ → ℤ) (face : List ℕ) (s t : ℕ) → s ≡ t
    → a *ℤ first_sides number face s ≡ a *ℤ first_sides number face t
times_at a number face s t e = ap (λ n. a *ℤ first_sides number face n) e

-- the sides of one face, from one on
sides_from : (of_face : ℕ → ℤ) (number : ℕ → ℕ → ℤ) (f : ℕ) (face : List ℕ) (t k : ℕ)
    → of_face f *ℤ first_sides number face t +ℤ part_sum of_face number (map (face_side f face) (range_with_len t k))
    ≡ of_face f *ℤ first_sides number face (t + k)
sides_from of_face number f face t zero = grind (arith, first_sides, times_at)
sides_from of_face number f face t (suc k) =
    let more = sides_from of_face number f face (t + 1) k in
    let next : of_face f *ℤ first_sides number face (t + 1)
    ≡ of_face f *ℤ first_sides number face t +ℤ of_face f *ℤ side_number_at number face t =
    times_at (of_face f) number face (t + 1) (suc t) (omega arith)
    ∙ times-sum (of_face f) (first_sides number face t) (side_number_at number face t) in
    let same : of_face f *ℤ first_sides number face (t + 1 + k) ≡ of_face f *ℤ first_sides number face (t + suc k) =
    times_at (of_face f) number face (t + 1 + k) (t + suc k) (omega arith) in
    omega (arith, ints, more, next, same)

pub face_part : (of_face : ℕ → ℤ) (number : ℕ → ℕ → ℤ) (f : ℕ) (face : List ℕ)
    → part_sum of_face number (sides_of_face f face) ≡ of_face f *ℤ along number (round face)
face_part of_face number f face =
    let all = sides_from of_face number f face 0 (length face) in
    let none : of_face f *ℤ first_sides number face 0 ≡ pos 0 = *ℤ-zero (of_face f) in
    let same : of_face f *ℤ first_sides number face (0 + length face) ≡ of_face f *ℤ along number (round face) =
    times_at (of_face f) number face (0 + length face) (length face) (omega arith)
    ∙ ap (λ z. of_face f *ℤ z) (sym (round-sides number face)) in grind arith

-- the sum over faces that are numbered from n on
abbrev pub face_parts : (ℕ → ℤ) → (ℕ → ℕ → ℤ) → ℕ → List (List ℕ) → ℤ
face_parts of_face number n [] = pos 0
face_parts of_face number n (face ∷ faces) = of_face n *ℤ along number (round face) +ℤ face_parts of_face number (n + 1) faces

by_faces_from : (of_face : ℕ → ℤ) (number : ℕ → ℕ → ℤ) (n : ℕ) (faces : List (List ℕ))
    → part_sum of_face number (flat_map (λ (p : ℕ × List ℕ). sides_of_face p.0 p.1) (enumerate_from n faces))
    ≡ face_parts of_face number n faces
by_faces_from of_face number n [] = refl
by_faces_from of_face number n (face ∷ faces) =
    part_sum-append of_face number (sides_of_face n face)
    (flat_map (λ (p : ℕ × List ℕ). sides_of_face p.0 p.1) (enumerate_from (n + 1) faces))
    ∙ ap₂ (λ x y. x +ℤ y) (face_part of_face number n face) (by_faces_from of_face number (n + 1) faces)

pub by_faces : (of_face : ℕ → ℤ) (number : ℕ → ℕ → ℤ) (mesh : FaceList)
    → part_sum of_face number (all_sides mesh) ≡ face_parts of_face number 0 mesh.faces
unfolding all_sides
by_faces of_face number mesh = by_faces_from of_face number 0 mesh.faces

-- where the sum round each face is nothing
closed_from : (of_face : ℕ → ℤ) (number : ℕ → ℕ → ℤ) (n : ℕ) (faces : List (List ℕ))
    → ((k : ℕ) → k < length faces → along number (round (get_or faces k [])) ≡ pos 0) → face_parts of_face number n faces ≡ pos 0
closed_from of_face number n [] h = refl
closed_from of_face number n (face ∷ faces) h =
    let here : of_face n *ℤ along number (round face) ≡ pos 0 = ap (λ z. of_face n *ℤ z) (h 0 (omega arith)) ∙ *ℤ-zero (of_face n) in
    let more = closed_from of_face number (n + 1) faces (λ k l. h (suc k) (omega arith)) in grind arith

pub closed_mesh : (of_face : ℕ → ℤ) (number : ℕ → ℕ → ℤ) (mesh : FaceList)
    → ((f : ℕ) → f < length mesh.faces → along number (round (face_at mesh f)) ≡ pos 0)
    → part_sum of_face number (all_sides mesh) ≡ pos 0
closed_mesh of_face number mesh h = by_faces of_face number mesh ∙ closed_from of_face number 0 mesh.faces h

-- one face alone has a number
abbrev pub only_at : ℕ → ℤ → ℕ → ℤ
only_at g amount f = if g == f then amount else pos 0

only_at-other : (g f : ℕ) (amount : ℤ) → (g ≡ f → ⊥) → only_at g amount f ≡ pos 0
only_at-other g f amount h = grind (arith, nat_tests)

only_at-same : (g f : ℕ) (amount : ℤ) → g ≡ f → only_at g amount f ≡ amount
only_at-same g f amount h = grind (arith, nat_tests)

past_it : (g : ℕ) (amount : ℤ) (number : ℕ → ℕ → ℤ) (n : ℕ) (faces : List (List ℕ)) → g < n
    → face_parts (only_at g amount) number n faces ≡ pos 0
past_it g amount number n [] h = refl
past_it g amount number n (face ∷ faces) h =
    let more = past_it g amount number (n + 1) faces (omega arith) in
    let here : only_at g amount n *ℤ along number (round face) ≡ pos 0 = grind (arith, along, round, only_at-other) in grind arith

one_of : (k n : ℕ) (amount : ℤ) (number : ℕ → ℕ → ℤ) (faces : List (List ℕ)) → k < length faces
    → face_parts (only_at (n + k) amount) number n faces ≡ amount *ℤ along number (round (get_or faces k []))
one_of k n amount number [] h = absurd (omega arith)
one_of zero n amount number (face ∷ faces) h = grind (arith, past_it, along, round, only_at-same)
one_of (suc k) n amount number (face ∷ faces) h =
    let more = one_of k (n + 1) amount number faces (omega arith) in
    let same : face_parts (only_at (n + 1 + k) amount) number (n + 1) faces
    ≡ face_parts (only_at (n + suc k) amount) number (n + 1) faces = grind arith in
    let here : only_at (n + suc k) amount n *ℤ along number (round face) ≡ pos 0 = grind (arith, along, round, only_at-other) in
    omega (arith, ints, here, more, same)

pub one_face : (g : ℕ) (amount : ℤ) (number : ℕ → ℕ → ℤ) (mesh : FaceList) → g < length mesh.faces
    → part_sum (only_at g amount) number (all_sides mesh) ≡ amount *ℤ along number (round (face_at mesh g))
one_face g amount number mesh h = grind (arith, common_steps, by_faces, one_of)

-- a share is the amount times the share of 1
pub share-times : (amount : ℤ) (low high u v : ℕ) → share amount low high u v ≡ amount *ℤ share (pos 1) low high u v
share-times amount low high u v = grind (arith, times-one, times-minus)

shares : (of_face : ℕ → ℤ) (low high : ℕ) (sides : List FaceSide)
    → total (map (λ (side : FaceSide). share (of_face side.face) low high side.tail side.head) sides)
    ≡ part_sum of_face (share (pos 1) low high) sides
shares of_face low high [] = refl
shares of_face low high (side ∷ sides) =
    ap₂ (λ x y. x +ℤ y) (share-times (of_face side.face) low high side.tail side.head) (shares of_face low high sides)

pub boundary_is : (mesh : FaceList) (of_face : ℕ → ℤ) (low high : ℕ)
    → boundary mesh of_face low high ≡ part_sum of_face (share (pos 1) low high) (all_sides mesh)
boundary_is mesh of_face low high = shares of_face low high (all_sides mesh)

pub share-opposite : (amount : ℤ) (low high : ℕ) → low < high → IsOpposite (share amount low high)
share-opposite amount low high up = grind arith
