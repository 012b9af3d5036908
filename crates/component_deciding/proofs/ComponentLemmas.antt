-- The vertices of components by their own numbers, the faces of a component, and the walks there.
use Rattle.component_deciding.proofs.Common.{AreOwnNumbers, own_mesh, own_number, own_walk, OwnNumbers, count_of_passing, place_of_used, used_alike, IsOfComponent, piece_of_parts, IsPiece, face-submesh, length-submesh, total_renamed, valid_renamed, ◌≡◌, inl, inr, ℕ, ◌+◌, ◌<◌, ◌≤◌, true, eqb, List, [], ◌∷◌, ◌++◌, length, get_or, take, ap, sym, ◌∙◌, subst, arith, cases_lt, map-append, map_more, get_or_default, get_or-map, get_or_append_left, get_or_push, length-map, take_more, filter_agree, range_with_len, corner_used, map_agree, IsCounted, PartsView, AreParts, component_at, component_mesh, FaceList, IsFace, IsFaceList, HasFileSize, face_at, is_used, total_sides, numbers, VertexName}
use Rattle.manifold_check.proofs.PieceSides.{valid_alone, small_alone}
use Rattle.std.proofs.lemmas.List.Sums.{sum_by_more_le}
use Rattle.std.specs.Prelude.{map}
use Rattle.surf_model.specs.declared.limits.TheConstants.{MOST_SIDES}
use Rattle.component_deciding.proofs.OwnLemmas.{own_renamed}

-- ---- the numbers of vertices

-- so the count of a component, as far as its vertices were gone through, is the own number of the next one
pub count_is_number : (mesh : FaceList) (parts : PartsView) (counts : List ℕ) (k v : ℕ) → AreParts mesh parts
    → k < length parts.components → k < length counts → IsCounted (place_of_used mesh parts) v counts
    → get_or counts k 0 ≡ own_number (component_mesh mesh parts k) v
unfolding own_number
count_is_number mesh parts counts k v h l b counted =
    counted k b
    ∙ ap (λ (xs : List ℕ). length xs) (filter_agree (λ u. eqb (place_of_used mesh parts u) k) (is_used (component_mesh mesh parts k))
    (λ u. used_alike mesh parts k u h l) (range_with_len 0 v))
    ∙ sym (count_of_passing (is_used (component_mesh mesh parts k)) v)

-- the first vertices have their own numbers
abbrev pub AreNumberedUpTo : FaceList → PartsView → ℕ → List ℕ → Type 0
AreNumberedUpTo mesh parts n own =
    (v : ℕ) → v < n → is_used mesh v ≡ true → get_or own v 0 ≡ own_number (component_mesh mesh parts (get_or parts.places v 0)) v

-- and one more
pub numbered_more : (mesh : FaceList) (parts : PartsView) (n x : ℕ) (own : List ℕ) → length own ≡ n
    → (is_used mesh n ≡ true → x ≡ own_number (component_mesh mesh parts (get_or parts.places n 0)) n)
    → AreNumberedUpTo mesh parts n own → AreNumberedUpTo mesh parts (n + 1) (own ++ x ∷ [])
numbered_more mesh parts n x own long is before v l used =
    elim (cases_lt v n) [
      | inl earlier ↦ get_or_append_left own (x ∷ []) 0 v (omega arith) ∙ before v earlier used
      | inr last ↦
          (let same : v ≡ n = omega arith in
          get_or_push own x 0 v (omega arith)
          ∙ subst (λ (u : ℕ). x ≡ own_number (component_mesh mesh parts (get_or parts.places u 0)) u) (sym same)
          (is (ap (is_used mesh) (sym same) ∙ used)))
    ]

-- ---- lists of vertices by their own numbers

-- one vertex more
pub renumbered_more : (own xs : List ℕ) (list next : List VertexName) (i n : ℕ) → i < length xs
    → numbers list ≡ map (λ x. get_or own x 0) (take i xs) → n ≡ get_or own (get_or xs i 0) 0
    → next ≡ list ++ record { 0 = n } ∷ [] → numbers next ≡ map (λ x. get_or own x 0) (take (i + 1) xs)
renumbered_more own xs list next i n l before is e =
    ap numbers e ∙ map-append (λ (v : VertexName). v.0) list (record { 0 = n } ∷ []) ∙ ap (λ (ys : List ℕ). ys ++ n ∷ []) before
    ∙ ap (λ (y : ℕ). map (λ x. get_or own x 0) (take i xs) ++ y ∷ []) is ∙ sym (map_more (λ x. get_or own x 0) xs i 0 l)

pub number_at : (xs : List VertexName) (i : ℕ) (d : VertexName) → i < length xs → get_or (numbers xs) i 0 ≡ (get_or xs i d).0
number_at xs i d l = get_or-map (λ (v : VertexName). v.0) xs i d 0 l

-- ---- the faces of a component

-- a component, with the numbers of its own vertices
pub record IsNumbered (mesh : FaceList) (parts : PartsView) (own : OwnNumbers) (k : ℕ) : Type 0 where
  pub parts_are : AreParts mesh parts
  pub numbers_are : AreOwnNumbers mesh parts own
  pub within : k < length parts.components

pub component_valid : (mesh : FaceList) (parts : PartsView) (own : OwnNumbers) (k : ℕ) → IsNumbered mesh parts own k
    → IsFaceList (component_mesh mesh parts k)
component_valid mesh parts own k h =
    valid_alone mesh (IsOfComponent parts.places k) (component_at parts k) (piece_of_parts mesh parts k h.parts_are h.within)
    h.numbers_are.valid

-- a face of the component is a face of the mesh
pub named_within : (mesh : FaceList) (parts : PartsView) (own : OwnNumbers) (k f : ℕ) → IsNumbered mesh parts own k
    → f < length (component_at parts k) → get_or (component_at parts k) f 0 < length mesh.faces
named_within mesh parts own k f h l = (piece_of_parts mesh parts k h.parts_are h.within).each f l

-- by its own vertices it is the face of the component's own mesh
pub own_face : (mesh : FaceList) (parts : PartsView) (own : OwnNumbers) (k f : ℕ) → IsNumbered mesh parts own k
    → f < length (component_at parts k)
    → map (λ x. get_or own.numbers.items x 0) (face_at mesh (get_or (component_at parts k) f 0))
    ≡ face_at (own_mesh (component_mesh mesh parts k)) f
own_face mesh parts own k f h l =
    let Inside : ℕ → Type 0 = IsOfComponent parts.places k in
    let names : List ℕ = component_at parts k in
    let alone : FaceList = component_mesh mesh parts k in
    let piece : IsPiece mesh Inside names = piece_of_parts mesh parts k h.parts_are h.within in
    let g : ℕ = get_or names f 0 in
    let few : f < length alone.faces = omega (arith, l, length-submesh mesh names) in
    let same : face_at alone f ≡ face_at mesh g = face-submesh mesh names f l in
    map_agree (λ x. get_or own.numbers.items x 0) (own_number alone) (face_at mesh g)
    (λ t d b.
    let here : get_or (face_at mesh g) t d ≡ get_or (face_at mesh g) t 0 = get_or_default (face_at mesh g) t d 0 b in
    let v : ℕ = get_or (face_at mesh g) t 0 in
    let used : is_used mesh v ≡ true = corner_used mesh g t (piece.each f l) b in
    let inside : get_or parts.places v 0 ≡ k = piece.corners f t l b in
    subst (λ (u : ℕ). get_or own.numbers.items u 0 ≡ own_number alone u) (sym here)
    (h.numbers_are.numbered v used ∙ ap (λ (j : ℕ). own_number (component_mesh mesh parts j) v) inside))
    ∙ ap (own_walk alone) (sym same) ∙ sym (get_or-map (own_walk alone) alone.faces f [] [] few)

-- which is a face over its own vertices, and has room behind those before it
pub own_face_valid : (mesh : FaceList) (parts : PartsView) (own : OwnNumbers) (k f : ℕ) → IsNumbered mesh parts own k
    → f < length (component_at parts k)
    → IsFace (own_mesh (component_mesh mesh parts k)).count (face_at (own_mesh (component_mesh mesh parts k)) f)
own_face_valid mesh parts own k f h l =
    let alone : FaceList = component_mesh mesh parts k in
    let whole : IsFaceList (own_mesh alone) =
    valid_renamed _ _ alone (own_mesh alone) (own_renamed alone (component_valid mesh parts own k h))
    (component_valid mesh parts own k h) in
    whole.faces f [] (omega (arith, l, length-submesh mesh (component_at parts k), length-map alone.faces (own_walk alone)))

pub own_room : (mesh : FaceList) (parts : PartsView) (own : OwnNumbers) (k f : ℕ) → IsNumbered mesh parts own k
    → f < length (component_at parts k)
    → total_sides (record {
      count = (own_mesh (component_mesh mesh parts k)).count;
      faces = take f (own_mesh (component_mesh mesh parts k)).faces;
    })
    + length (face_at (own_mesh (component_mesh mesh parts k)) f) ≤ MOST_SIDES
own_room mesh parts own k f h l =
    let alone : FaceList = component_mesh mesh parts k in
    let small : HasFileSize alone =
    small_alone mesh (IsOfComponent parts.places k) (component_at parts k) (piece_of_parts mesh parts k h.parts_are h.within)
    h.numbers_are.small in
    omega (
      arith,
      sum_by_more_le (λ (r : List ℕ). length r) (own_mesh alone).faces f []
          (omega (arith, l, length-submesh mesh (component_at parts k), length-map alone.faces (own_walk alone))),
      total_renamed _ _ alone (own_mesh alone) (own_renamed alone (component_valid mesh parts own k h)),
      small.few_sides,
    )

-- a face that was looked up and renumbered is that face
pub own_ring : (mesh : FaceList) (parts : PartsView) (own : OwnNumbers) (k f name : ℕ) (ring list : List ℕ) → IsNumbered mesh parts own k
    → f < length (component_at parts k) → name ≡ get_or (component_at parts k) f 0 → ring ≡ face_at mesh name
    → list ≡ map (λ x. get_or own.numbers.items x 0) ring → list ≡ face_at (own_mesh (component_mesh mesh parts k)) f
own_ring mesh parts own k f name ring list h l named is e =
    e ∙ ap (map (λ x. get_or own.numbers.items x 0)) (is ∙ ap (face_at mesh) named) ∙ own_face mesh parts own k f h l

-- and behind those before it comes one face more
pub own_faces_more : (count f : ℕ) (faces : List (List ℕ)) (ring : List ℕ) (alone next : FaceList) → f < length faces
    → alone ≡ record { count = count; faces = take f faces } → ring ≡ get_or faces f []
    → next ≡ record { count = alone.count; faces = alone.faces ++ ring ∷ [] } → next ≡ record { count = count; faces = take (f + 1) faces }
own_faces_more count f faces ring alone next l before is e =
    e ∙ ap (λ (a : FaceList). let more : FaceList = record { count = a.count; faces = a.faces ++ ring ∷ [] } in more) before
    ∙ ap (λ (fs : List (List ℕ)). let all : FaceList = record { count = count; faces = fs } in all)
    (ap (λ (r : List ℕ). take f faces ++ r ∷ []) is ∙ sym (take_more faces f [] l))

-- the component has as many faces by its own vertices
pub own_count : (mesh : FaceList) (parts : PartsView) (k : ℕ)
    → length (own_mesh (component_mesh mesh parts k)).faces ≡ length (component_at parts k)
own_count mesh parts k =
    length-map (component_mesh mesh parts k).faces (own_walk (component_mesh mesh parts k)) ∙ length-submesh mesh (component_at parts k)
