-- The sides of the double: those of the mesh, those of the mirrors, each over a side that it runs against, and four of each quad.
use Rattle.doubling.proofs.Common.{rim_quad, double_of, ◌≡◌, ◌⊎◌, inl, inr, ℕ, ◌+◌, ◌-◌, ◌<◌, true, false, List, length, get_or, ap, sym, ◌∙◌, subst, arith, common_steps, step_within, back_within, there_and_back, IsSide, side_after, tail_of, head_of, side_name, FaceList, face_at, next_corner, Side, next_back}
use Rattle.connectivity.proofs.CornerLemmas.{after_in_mesh}
use Rattle.doubling.proofs.DoubleFaces.{rims, no_side, kept_face, kept_below, mirrored_face, quad_face, double_size, number_kinds, rim_whole, length-mirror_face, mirror_corner, mirror_next}

-- ---- sides of the mesh

pub kept_side : (mesh : FaceList) (side : Side) → IsSide mesh side → IsSide (double_of mesh) side
kept_side mesh side h = grind (arith, common_steps, kept_below, kept_face)

pub kept_tail : (mesh : FaceList) (side : Side) → IsSide mesh side → tail_of (double_of mesh) side ≡ tail_of mesh side
kept_tail mesh side h = ap (λ (r : List ℕ). get_or r side.at 0) (kept_face mesh side.face.0 h.face)

pub kept_after : (mesh : FaceList) (side : Side) → IsSide mesh side → side_after (double_of mesh) side ≡ side_after mesh side
kept_after mesh side h = grind (arith, kept_face)

pub kept_head : (mesh : FaceList) (side : Side) → IsSide mesh side → head_of (double_of mesh) side ≡ head_of mesh side
kept_head mesh side h = grind (arith, common_steps, kept_after, kept_tail, after_in_mesh)

-- ---- mirrors

-- the corner of the mirror over a corner
abbrev pub corner_over : FaceList → Side → Side
corner_over mesh corner = record {
  face = record { 0 = length mesh.faces + corner.face.0 };
  at = length (face_at mesh corner.face.0) - 1 - corner.at;
}

-- the side of the mirror over a side, which runs the other way
abbrev pub side_over : FaceList → Side → Side
side_over mesh side = corner_over mesh (side_after mesh side)

over_size : (mesh : FaceList) (corner : Side) → IsSide mesh corner
    → length (face_at (double_of mesh) (length mesh.faces + corner.face.0)) ≡ length (face_at mesh corner.face.0)
over_size mesh corner h = grind (arith, mirrored_face, length-mirror_face)

pub over_in_double : (mesh : FaceList) (corner : Side) → IsSide mesh corner → IsSide (double_of mesh) (corner_over mesh corner)
over_in_double mesh corner h = grind (arith, double_size, over_size)

pub over_tail : (mesh : FaceList) (corner : Side) → IsSide mesh corner
    → tail_of (double_of mesh) (corner_over mesh corner) ≡ tail_of mesh corner + mesh.count
over_tail mesh corner h = grind (arith, mirrored_face, mirror_corner)

pub over_after : (mesh : FaceList) (side : Side) → IsSide mesh side
    → side_after (double_of mesh) (side_over mesh side) ≡ corner_over mesh side
over_after mesh side h = grind (arith, mirror_next, step_within, next_back, over_size)

pub over_head : (mesh : FaceList) (side : Side) → IsSide mesh side
    → head_of (double_of mesh) (side_over mesh side) ≡ tail_of mesh side + mesh.count
over_head mesh side h = ap (tail_of (double_of mesh)) (over_after mesh side h) ∙ over_tail mesh side h

pub over_side_in_double : (mesh : FaceList) (side : Side) → IsSide mesh side → IsSide (double_of mesh) (side_over mesh side)
over_side_in_double mesh side is = over_in_double mesh (side_after mesh side) (after_in_mesh mesh side is)

pub over_side_tail : (mesh : FaceList) (side : Side) → IsSide mesh side
    → tail_of (double_of mesh) (side_over mesh side) ≡ head_of mesh side + mesh.count
over_side_tail mesh side is = over_tail mesh (side_after mesh side) (after_in_mesh mesh side is)

-- each corner of a mirror lies over one alone
under : FaceList → Side → Side
under mesh corner = record {
  face = record { 0 = corner.face.0 - length mesh.faces };
  at = length (face_at mesh (corner.face.0 - length mesh.faces)) - 1 - corner.at;
}

under_over : (mesh : FaceList) (corner : Side) → IsSide mesh corner → under mesh (corner_over mesh corner) ≡ corner
unfolding under
under_over mesh corner h =
    let at : ℕ → ℕ = λ f. length (face_at mesh f) - 1 - (length (face_at mesh corner.face.0) - 1 - corner.at) in
    let made : ℕ → ℕ → Side = λ f t. record { face = record { 0 = f }; at = t } in
    let face : length mesh.faces + corner.face.0 - length mesh.faces ≡ corner.face.0 = omega arith in
    let there : under mesh (corner_over mesh corner) ≡ made corner.face.0 (at corner.face.0) = ap (λ (f : ℕ). made f (at f)) face in
    let place : at corner.face.0 ≡ corner.at = omega (arith, h.place) in
    let here : made corner.face.0 (at corner.face.0) ≡ corner = ap (made corner.face.0) place in
    there ∙ here

pub over_once : (mesh : FaceList) (corner other : Side) → IsSide mesh corner → IsSide mesh other
    → corner_over mesh corner ≡ corner_over mesh other → corner ≡ other
over_once mesh corner other h k same = sym (under_over mesh corner h) ∙ ap (under mesh) same ∙ under_over mesh other k

-- ---- quads

-- the side on the boundary that quad k belongs to
abbrev pub rim_side : FaceList → ℕ → Side
rim_side mesh k = side_name (get_or (rims mesh) k no_side)

-- side i of quad k
abbrev pub quad_side : FaceList → ℕ → ℕ → Side
quad_side mesh k i = record { face = record { 0 = length mesh.faces + length mesh.faces + k }; at = i }

pub rim_in_mesh : (mesh : FaceList) (k : ℕ) → k < length (rims mesh) → IsSide mesh (rim_side mesh k)
rim_in_mesh mesh k l = (rim_whole mesh k l).1.side_of

pub quad_in_double : (mesh : FaceList) (k i : ℕ) → k < length (rims mesh) → i < 4 → IsSide (double_of mesh) (quad_side mesh k i)
quad_in_double mesh k i l b = grind (arith, double_size, quad_face)

pub quad_tail : (mesh : FaceList) (k i : ℕ) → k < length (rims mesh)
    → tail_of (double_of mesh) (quad_side mesh k i) ≡ get_or (rim_quad mesh.count (get_or (rims mesh) k no_side)) i 0
quad_tail mesh k i l = ap (λ (r : List ℕ). get_or r i 0) (quad_face mesh k l)

pub quad_after : (mesh : FaceList) (k i : ℕ) → k < length (rims mesh)
    → side_after (double_of mesh) (quad_side mesh k i) ≡ quad_side mesh k (next_corner true 4 i)
quad_after mesh k i l = grind (arith, quad_face)

pub rim_tail : (mesh : FaceList) (k : ℕ) → k < length (rims mesh) → (get_or (rims mesh) k no_side).tail ≡ tail_of mesh (rim_side mesh k)
rim_tail mesh k l = (rim_whole mesh k l).1.tail

pub rim_head : (mesh : FaceList) (k : ℕ) → k < length (rims mesh) → (get_or (rims mesh) k no_side).head ≡ head_of mesh (rim_side mesh k)
rim_head mesh k l = (rim_whole mesh k l).1.head

-- the ends of the four sides
module _ (mesh : FaceList) (k : ℕ) (l : k < length (rims mesh)) where
  pub first_tail : tail_of (double_of mesh) (quad_side mesh k 0) ≡ head_of mesh (rim_side mesh k)
  first_tail = quad_tail mesh k 0 l ∙ rim_head mesh k l

  pub second_tail : tail_of (double_of mesh) (quad_side mesh k 1) ≡ tail_of mesh (rim_side mesh k)
  second_tail = quad_tail mesh k 1 l ∙ rim_tail mesh k l

  pub third_tail : tail_of (double_of mesh) (quad_side mesh k 2) ≡ tail_of mesh (rim_side mesh k) + mesh.count
  third_tail = quad_tail mesh k 2 l ∙ ap (λ x. x + mesh.count) (rim_tail mesh k l)

  pub fourth_tail : tail_of (double_of mesh) (quad_side mesh k 3) ≡ head_of mesh (rim_side mesh k) + mesh.count
  fourth_tail = quad_tail mesh k 3 l ∙ ap (λ x. x + mesh.count) (rim_head mesh k l)

  pub first_head : head_of (double_of mesh) (quad_side mesh k 0) ≡ tail_of mesh (rim_side mesh k)
  first_head = ap (tail_of (double_of mesh)) (quad_after mesh k 0 l) ∙ second_tail

  pub second_head : head_of (double_of mesh) (quad_side mesh k 1) ≡ tail_of mesh (rim_side mesh k) + mesh.count
  second_head = ap (tail_of (double_of mesh)) (quad_after mesh k 1 l) ∙ third_tail

  pub third_head : head_of (double_of mesh) (quad_side mesh k 2) ≡ head_of mesh (rim_side mesh k) + mesh.count
  third_head = ap (tail_of (double_of mesh)) (quad_after mesh k 2 l) ∙ fourth_tail

  pub fourth_head : head_of (double_of mesh) (quad_side mesh k 3) ≡ head_of mesh (rim_side mesh k)
  fourth_head = ap (tail_of (double_of mesh)) (quad_after mesh k 3 l) ∙ first_tail

-- ---- each side of the double is one of these

pub record IsOver (mesh : FaceList) (side : Side) : Type 0 where
  pub under : Side
  pub in_mesh : IsSide mesh under
  pub is : side ≡ side_over mesh under

pub record IsQuadSide (mesh : FaceList) (side : Side) : Type 0 where
  pub quad : ℕ
  pub in_list : quad < length (rims mesh)
  pub at : ℕ
  pub in_quad : at < 4
  pub is : side ≡ quad_side mesh quad at

pub side_kinds : (mesh : FaceList) (side : Side) → IsSide (double_of mesh) side
    → IsSide mesh side ⊎ (IsOver mesh side ⊎ IsQuadSide mesh side)
side_kinds mesh side h =
    elim (number_kinds mesh side.face.0 h.face) [
      | inl less ↦
          inl (record {
            face = less;
            place = subst (λ (r : List ℕ). side.at < length r) (kept_face mesh side.face.0 less) h.place;
          })
      | inr others ↦ elim others [
        | inl is ↦
            (let m : ℕ = length (face_at mesh is.face) in
            let size : length (face_at (double_of mesh) side.face.0) ≡ m = grind (arith, mirrored_face, length-mirror_face) in
            let within : m - 1 - side.at < m = omega (arith, h.place, size) in
            let place : side.at ≡ m - 1 - next_corner true m (next_corner false m (m - 1 - side.at)) =
            omega (arith, h.place, size, there_and_back m (m - 1 - side.at) within) in
            let made : ℕ → ℕ → Side = λ f t. record { face = record { 0 = f }; at = t } in
            let there : side ≡ made (length mesh.faces + is.face) side.at = ap (λ (f : ℕ). made f side.at) is.number in
            inr (inl (record {
              under = record { face = record { 0 = is.face }; at = next_corner false m (m - 1 - side.at) };
              in_mesh = record { face = is.in_list; place = back_within m (m - 1 - side.at) within };
              is = there ∙ ap (made (length mesh.faces + is.face)) place;
            })))
        | inr is ↦
            (let size : length (face_at (double_of mesh) side.face.0) ≡ 4 =
            ap (λ f. length (face_at (double_of mesh) f)) is.number
            ∙ ap (λ (r : List ℕ). length r) (quad_face mesh is.place is.in_list) in
            inr (inr (record {
              quad = is.place;
              in_list = is.in_list;
              at = side.at;
              in_quad = omega (arith, h.place, size);
              is = ap (λ (f : ℕ). record { face = record { 0 = f }; at = side.at }) is.number;
            })))
      ]
    ]
