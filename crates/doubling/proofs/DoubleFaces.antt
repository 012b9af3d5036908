-- The faces of a double, each of one of three kinds, and their corners.
use Rattle.doubling.proofs.Common.{mirror, mirror_face, is_rim, rim_quad, rim_quads, double_of, ◌≡◌, ◌⊎◌, inl, inr, ℕ, ◌+◌, ◌-◌, ◌<◌, Bool, true, false, not, List, [], ◌∷◌, ◌++◌, length, map, get_or, refl, ap, sym, ◌∙◌, subst, arith, cases_lt, nat_tests, common_steps, length-map, get_or-map, get_or-append_right, get_or-reverse, length-reverse, filter, step_edge, IsWholeSide, whole_side, tail_of, side_name, FaceList, FaceSide, face_at, all_sides, is_edge, next_corner}
use Rattle.std.proofs.lemmas.List.Elements.{All-filter}

-- a face of the mesh
pub record IsKept (mesh : FaceList) (f : ℕ) (ring : List ℕ) : Type 0 where
  pub in_list : f < length mesh.faces
  pub ring_is : ring ≡ face_at mesh f

-- the mirror of a face of the mesh
pub record IsMirrored (mesh : FaceList) (ring : List ℕ) : Type 0 where
  pub face : ℕ
  pub in_list : face < length mesh.faces
  pub ring_is : ring ≡ mirror_face mesh.count (face_at mesh face)

-- the quad of an edge of the mesh
pub record IsRimQuad (mesh : FaceList) (ring : List ℕ) : Type 0 where
  pub tail : ℕ
  pub head : ℕ
  pub edge : is_edge mesh tail head ≡ true
  pub ring_is : ring ≡ head ∷ tail ∷ mirror mesh.count tail ∷ mirror mesh.count head ∷ []

-- the sides on the boundary
abbrev pub rims : FaceList → List FaceSide
rims mesh = filter (is_rim mesh) (all_sides mesh)

pub no_side : FaceSide
no_side = record { face = 0; at = 0; tail = 0; head = 0 }

-- a face keeps its number
pub kept_face : (mesh : FaceList) (f : ℕ) → f < length mesh.faces → face_at (double_of mesh) f ≡ face_at mesh f
kept_face mesh f l = grind (arith, common_steps)

pub kept_below : (mesh : FaceList) (f : ℕ) → f < length mesh.faces → f < length (double_of mesh).faces
kept_below mesh f l = grind (arith, common_steps)

first_size : (mesh : FaceList)
    → length (mesh.faces ++ map (mirror_face mesh.count) mesh.faces) ≡ length mesh.faces + length mesh.faces
first_size mesh = grind (arith, common_steps)

-- behind them come the mirrors, and then the quads
pub mirrored_face : (mesh : FaceList) (f : ℕ) → f < length mesh.faces
    → face_at (double_of mesh) (length mesh.faces + f) ≡ mirror_face mesh.count (face_at mesh f)
mirrored_face mesh f l = grind (arith, common_steps, first_size)

pub quad_face : (mesh : FaceList) (k : ℕ) → k < length (rims mesh)
    → face_at (double_of mesh) (length mesh.faces + length mesh.faces + k) ≡ rim_quad mesh.count (get_or (rims mesh) k no_side)
quad_face mesh k l =
    let n : ℕ = length mesh.faces in
    let there : n + n + k - (n + n) ≡ k = omega arith in
    get_or-append_right (mesh.faces ++ map (mirror_face mesh.count) mesh.faces) (rim_quads mesh) (n + n) (n + n + k) [] (first_size mesh)
    (omega arith)
    ∙ ap (λ j. get_or (rim_quads mesh) j []) there
    ∙ get_or-map (rim_quad mesh.count) (rims mesh) k no_side [] l

pub double_size : (mesh : FaceList) → length (double_of mesh).faces ≡ length mesh.faces + length mesh.faces + length (rims mesh)
double_size mesh = grind (arith, common_steps, first_size)

-- a face of the double by its number
pub record IsMirrorNumber (mesh : FaceList) (f : ℕ) : Type 0 where
  pub face : ℕ
  pub in_list : face < length mesh.faces
  pub number : f ≡ length mesh.faces + face

pub record IsQuadNumber (mesh : FaceList) (f : ℕ) : Type 0 where
  pub place : ℕ
  pub in_list : place < length (rims mesh)
  pub number : f ≡ length mesh.faces + length mesh.faces + place

pub number_kinds : (mesh : FaceList) (f : ℕ) → f < length (double_of mesh).faces
    → (f < length mesh.faces) ⊎ (IsMirrorNumber mesh f ⊎ IsQuadNumber mesh f)
number_kinds mesh f l =
    let n : ℕ = length mesh.faces in
    elim (cases_lt f n) [
      | inl less ↦ inl less
      | inr more ↦ elim (cases_lt f (n + n)) [
        | inl less ↦ inr (inl (record { face = f - n; in_list = omega arith; number = omega arith }))
        | inr last ↦ inr (inr (record { place = f - (n + n); in_list = omega (arith, l, last, double_size mesh); number = omega arith }))
      ]
    ]

whole_edge : (mesh : FaceList) (k : ℕ) (side : FaceSide) → IsWholeSide mesh k side → is_edge mesh side.tail side.head ≡ true
whole_edge mesh k side whole =
    subst (λ u. is_edge mesh u side.head ≡ true) (sym whole.tail)
    (subst (λ v. is_edge mesh (tail_of mesh (side_name side)) v ≡ true) (sym whole.head)
    (step_edge mesh side.face true side.at whole.side_of.face whole.side_of.place))

-- a side on the boundary is one of the mesh
pub rim_whole : (mesh : FaceList) (k : ℕ) → k < length (rims mesh) → (j : ℕ) × IsWholeSide mesh j (get_or (rims mesh) k no_side)
rim_whole mesh k l =
    All-filter (is_rim mesh) (λ (s : FaceSide). (j : ℕ) × IsWholeSide mesh j s) (all_sides mesh) (λ j e b. (j, whole_side mesh j e b)) k
    no_side l

quad_kind : (mesh : FaceList) (k : ℕ) → k < length (rims mesh) → IsRimQuad mesh (rim_quad mesh.count (get_or (rims mesh) k no_side))
quad_kind mesh k l =
    let whole = rim_whole mesh k l in
    record {
      tail = (get_or (rims mesh) k no_side).tail;
      head = (get_or (rims mesh) k no_side).head;
      edge = whole_edge mesh whole.0 (get_or (rims mesh) k no_side) whole.1;
      ring_is = refl;
    }

pub rim_kind : (mesh : FaceList) (k : ℕ) → k < length (rim_quads mesh) → IsRimQuad mesh (get_or (rim_quads mesh) k [])
rim_kind mesh k l =
    let few : k < length (rims mesh) = omega (arith, l, length-map (rims mesh) (rim_quad mesh.count)) in
    subst (IsRimQuad mesh) (sym (get_or-map (rim_quad mesh.count) (rims mesh) k no_side [] few)) (quad_kind mesh k few)

pub kinds : (mesh : FaceList) (f : ℕ) → f < length (double_of mesh).faces
    → IsKept mesh f (face_at (double_of mesh) f)
    ⊎ (IsMirrored mesh (face_at (double_of mesh) f) ⊎ IsRimQuad mesh (face_at (double_of mesh) f))
kinds mesh f l =
    elim (number_kinds mesh f l) [
      | inl less ↦ inl (record { in_list = less; ring_is = kept_face mesh f less })
      | inr others ↦ elim others [
        | inl is ↦
            inr (inl (record {
              face = is.face;
              in_list = is.in_list;
              ring_is = ap (face_at (double_of mesh)) is.number ∙ mirrored_face mesh is.face is.in_list;
            }))
        | inr is ↦
            inr (inr (subst (IsRimQuad mesh)
            (sym (ap (face_at (double_of mesh)) is.number ∙ quad_face mesh is.place is.in_list))
            (quad_kind mesh is.place is.in_list)))
      ]
    ]

-- ---- corners of a mirror

pub length-mirror_face : (count : ℕ) (face : List ℕ) → length (mirror_face count face) ≡ length face
length-mirror_face count face = length-reverse (map (mirror count) face) ∙ length-map face (mirror count)

-- the corner of the mesh over which a corner of the mirror lies
pub mirror_corner : (count : ℕ) (face : List ℕ) (t : ℕ) → t < length face
    → get_or (mirror_face count face) t 0 ≡ mirror count (get_or face (length face - 1 - t) 0)
mirror_corner count face t l =
    let size : length (map (mirror count) face) ≡ length face = length-map face (mirror count) in
    get_or-reverse (map (mirror count) face) t 0 (omega (arith, l, size))
    ∙ ap (λ n. get_or (map (mirror count) face) (n - 1 - t) 0) size
    ∙ get_or-map (mirror count) face (length face - 1 - t) 0 0 (omega arith)

-- the next corner of the mirror lies over the next one the other way round
pub mirror_next : (rising : Bool) (m t : ℕ) → t < m → m - 1 - next_corner rising m t ≡ next_corner (not rising) m (m - 1 - t)
mirror_next true m t l = grind (arith, nat_tests)
mirror_next false m t l = grind (arith, nat_tests)
