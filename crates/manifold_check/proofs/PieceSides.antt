-- How many sides join two vertices of a part of a mesh that no edge joins to the rest: on its own faces as many as on those of the
-- whole mesh.
use Rattle.manifold_check.proofs.Common.{◌≡◌, ◌⊎◌, inl, inr, ℕ, ◌+◌, ◌<◌, ◌≤◌, Bool, true, false, List, [], ◌∷◌, length, get_or, take, refl, ap, sym, ◌∙◌, subst, arith, length-append, cases_Bool, cond-true, cond-false, nat_tests, common_steps, ext_get_or, get_or-map, filter-append, All-tail, length-range_with_len, get_or-range_with_len, length-map-range_with_len, get_or-map-range_with_len, sum_by-cons, sum_by_more_le, enumerate_from, range_with_len, All, filter, map, flat_map, sum_by, filter-map, filter_none, next_within, FaceList, FaceSide, face_at, next_corner, all_sides, sides_of_face, joins, total_sides, IsFace, IsFaceList, HasFileSize, submesh, sides_between}
use Rattle.surf_model.proofs.NumberLemmas.{face_side}
use Rattle.manifold_check.proofs.PieceLemmas.{IsPiece, length-submesh}

-- how many sides of a ring join the two vertices
abbrev sides_of_ring : ℕ → ℕ → List ℕ → ℕ
sides_of_ring u v ring = length (filter (λ t. joins u v (face_side 0 ring t)) (range_with_len 0 (length ring)))

ring_sides : (u v n : ℕ) (ring : List ℕ) → length (filter (joins u v) (sides_of_face n ring)) ≡ sides_of_ring u v ring
ring_sides u v n ring = grind (arith, common_steps, filter-map, face_side)

sides_from : (u v n : ℕ) (faces : List (List ℕ))
    → length (filter (joins u v) (flat_map (λ (p : ℕ × List ℕ). sides_of_face p.0 p.1) (enumerate_from n faces)))
    ≡ sum_by (sides_of_ring u v) faces
sides_from u v n [] = refl
sides_from u v n (ring ∷ faces) =
    let first : List FaceSide = sides_of_face n ring in
    let rest : List FaceSide = flat_map (λ (p : ℕ × List ℕ). sides_of_face p.0 p.1) (enumerate_from (n + 1) faces) in
    ap (λ (s : List FaceSide). length s) (filter-append (joins u v) first rest)
    ∙ length-append (filter (joins u v) first) (filter (joins u v) rest)
    ∙ (omega (arith, ring_sides u v n ring, sides_from u v (n + 1) faces, sum_by-cons (sides_of_ring u v) ring faces))

sides_as_sum : (mesh : FaceList) (u v : ℕ) → sides_between mesh u v ≡ sum_by (sides_of_ring u v) mesh.faces
unfolding all_sides
sides_as_sum mesh u v = sides_from u v 0 mesh.faces

sum_of_map : (c : List ℕ → ℕ) (g : ℕ → List ℕ) (xs : List ℕ) → sum_by c (map g xs) ≡ sum_by (λ x. c (g x)) xs
sum_of_map c g [] = refl
sum_of_map c g (x ∷ xs) =
    sum_by-cons c (g x) (map g xs) ∙ ap (λ n. c (g x) + n) (sum_of_map c g xs) ∙ sym (sum_by-cons (λ y. c (g y)) x xs)

-- what does not pass adds nothing
sum_of_kept : (c : ℕ → ℕ) (test : ℕ → Bool) (xs : List ℕ) → All (λ x. test x ≡ false → c x ≡ 0) xs
    → sum_by c (filter test xs) ≡ sum_by c xs
sum_of_kept c test [] h = refl
sum_of_kept c test (x ∷ xs) h =
    let rest : sum_by c (filter test xs) ≡ sum_by c xs = sum_of_kept c test xs (All-tail (λ y. test y ≡ false → c y ≡ 0) x xs h) in
    elim (cases_Bool (test x)) [
      | inl passes ↦ ap (sum_by c) (cond-true (test x) (x ∷ filter test xs) (filter test xs) passes)
          ∙ sum_by-cons c x (filter test xs) ∙ ap (λ n. c x + n) rest ∙ sym (sum_by-cons c x xs)
      | inr fails ↦ ap (sum_by c) (cond-false (test x) (x ∷ filter test xs) (filter test xs) fails) ∙ rest
          ∙ (let none : c x ≡ 0 = h 0 x (omega arith) fails in omega (arith, none, sum_by-cons c x xs))
    ]

sum_of_fewer : (c : ℕ → ℕ) (test : ℕ → Bool) (xs : List ℕ) → sum_by c (filter test xs) ≤ sum_by c xs
sum_of_fewer c test [] = omega arith
sum_of_fewer c test (x ∷ xs) =
    elim (cases_Bool (test x)) [
      | inl passes ↦
          (let is : filter test (x ∷ xs) ≡ x ∷ filter test xs = cond-true (test x) (x ∷ filter test xs) (filter test xs) passes in
          omega (arith, ap (sum_by c) is, sum_by-cons c x (filter test xs), sum_by-cons c x xs, sum_of_fewer c test xs))
      | inr fails ↦
          (let is : filter test (x ∷ xs) ≡ filter test xs = cond-false (test x) (x ∷ filter test xs) (filter test xs) fails in
          omega (arith, ap (sum_by c) is, sum_by-cons c x xs, sum_of_fewer c test xs))
    ]

-- the faces one by one
pub faces_by_name : (mesh : FaceList) → map (face_at mesh) (range_with_len 0 (length mesh.faces)) ≡ mesh.faces
faces_by_name mesh =
    let n : ℕ = length mesh.faces in
    let size : length (map (face_at mesh) (range_with_len 0 n)) ≡ n = length-map-range_with_len (face_at mesh) 0 n in
    ext_get_or [] (map (face_at mesh) (range_with_len 0 n)) mesh.faces size
    (λ i l. get_or-map-range_with_len (face_at mesh) 0 n i i [] (omega (arith, l, size)) (omega arith))

pub sum_of_faces : (mesh : FaceList) (Inside : ℕ → Type 0) (names : List ℕ) (c : List ℕ → ℕ) → (h : IsPiece mesh Inside names)
    → ((f : ℕ) → f < length mesh.faces → h.test f ≡ false → c (face_at mesh f) ≡ 0)
    → sum_by c (submesh mesh names).faces ≡ sum_by c mesh.faces
sum_of_faces mesh Inside names c h none =
    let all : List ℕ = range_with_len 0 (length mesh.faces) in
    sum_of_map c (face_at mesh) names
    ∙ ap (sum_by (λ f. c (face_at mesh f))) h.names_are
    ∙ sum_of_kept (λ f. c (face_at mesh f)) h.test all
    (λ i d l.
    let few : i < length mesh.faces = omega (arith, l, length-range_with_len 0 (length mesh.faces)) in
    let is : get_or all i d ≡ i = get_or-range_with_len 0 (length mesh.faces) i d few ∙ (let e : 0 + i ≡ i = omega arith in e) in
    subst (λ f. h.test f ≡ false → c (face_at mesh f) ≡ 0) (sym is) (none i few))
    ∙ sym (sum_of_map c (face_at mesh) all) ∙ ap (sum_by c) (faces_by_name mesh)

joins_end : (u v : ℕ) (ring : List ℕ) (t : ℕ) → joins u v (face_side 0 ring t) ≡ true
    → (get_or ring t 0 ≡ u) ⊎ (get_or ring (next_corner true (length ring) t) 0 ≡ u)
joins_end u v ring t h = grind (arith, nat_tests)

-- no side of a face that does not pass has an end inside
none_outside : (mesh : FaceList) (Inside : ℕ → Type 0) (names : List ℕ) (u v f : ℕ) → (h : IsPiece mesh Inside names) → Inside u
    → f < length mesh.faces → h.test f ≡ false → sides_of_ring u v (face_at mesh f) ≡ 0
none_outside mesh Inside names u v f h inside l fails =
    grind (arith, face_side, filter_none, length-range_with_len, get_or-range_with_len, joins_end, next_within)

pub sides_alike : (mesh : FaceList) (Inside : ℕ → Type 0) (names : List ℕ) (u v : ℕ) → IsPiece mesh Inside names → Inside u
    → sides_between (submesh mesh names) u v ≡ sides_between mesh u v
sides_alike mesh Inside names u v h inside =
    sides_as_sum (submesh mesh names) u v
    ∙ sum_of_faces mesh Inside names (sides_of_ring u v) h (λ f l fails. none_outside mesh Inside names u v f h inside l fails)
    ∙ sym (sides_as_sum mesh u v)

-- the submesh has no more sides than the whole mesh, also where one face after another is put in
pub room_for_face : (mesh : FaceList) (Inside : ℕ → Type 0) (names : List ℕ) (f : ℕ) → IsPiece mesh Inside names → f < length names
    → total_sides (submesh mesh (take f names)) + length (face_at mesh (get_or names f 0)) ≤ total_sides mesh
room_for_face mesh Inside names f h l =
    let all : List ℕ = range_with_len 0 (length mesh.faces) in
    let size : ℕ → ℕ = λ x. length (face_at mesh x) in
    let whole : sum_by size all ≡ total_sides mesh =
    sym (sum_of_map (λ (r : List ℕ). length r) (face_at mesh) all)
    ∙ ap (λ (fs : List (List ℕ)). sum_by (λ (r : List ℕ). length r) fs) (faces_by_name mesh) in
    omega (
      arith,
      sum_of_map (λ (r : List ℕ). length r) (face_at mesh) (take f names),
      sum_by_more_le size names f 0 l,
      ap (sum_by size) h.names_are,
      sum_of_fewer size h.test all,
      whole,
    )

-- all together have no more sides either
pub total_alone : (mesh : FaceList) (Inside : ℕ → Type 0) (names : List ℕ) → IsPiece mesh Inside names
    → total_sides (submesh mesh names) ≤ total_sides mesh
total_alone mesh Inside names h =
    let all : List ℕ = range_with_len 0 (length mesh.faces) in
    let size : ℕ → ℕ = λ x. length (face_at mesh x) in
    let whole : sum_by size all ≡ total_sides mesh =
    sym (sum_of_map (λ (r : List ℕ). length r) (face_at mesh) all)
    ∙ ap (λ (fs : List (List ℕ)). sum_by (λ (r : List ℕ). length r) fs) (faces_by_name mesh) in
    omega (
      arith,
      sum_of_map (λ (r : List ℕ). length r) (face_at mesh) names,
      ap (sum_by size) h.names_are,
      sum_of_fewer size h.test all,
      whole,
    )

-- the submesh of a polygon mesh is one
pub valid_alone : (mesh : FaceList) (Inside : ℕ → Type 0) (names : List ℕ) → IsPiece mesh Inside names → IsFaceList mesh
    → IsFaceList (submesh mesh names)
valid_alone mesh Inside names h valid = record {
  faces = λ f d l.
      let few : f < length names = omega (arith, l, length-submesh mesh names) in
      subst (IsFace mesh.count) (sym (get_or-map (face_at mesh) names f 0 d few)) (valid.faces (get_or names f 0) [] (h.each f few));
}

-- and it is no larger
pub small_alone : (mesh : FaceList) (Inside : ℕ → Type 0) (names : List ℕ) → IsPiece mesh Inside names → HasFileSize mesh
    → HasFileSize (submesh mesh names)
small_alone mesh Inside names h small =
    record { few_vertices = small.few_vertices; few_sides = omega (arith, total_alone mesh Inside names h, small.few_sides) }
