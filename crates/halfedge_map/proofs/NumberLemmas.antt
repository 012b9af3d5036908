-- The sides of a mesh by their numbers.
use Rattle.halfedge_map.proofs.Common.{◌≡◌, ℕ, ◌+◌, ◌<◌, length, get_or, arith, face_side, first_side, IsSide, side_number, FaceList, FaceSide, face_at, all_sides, total_sides, Side}
use Rattle.surf_model.proofs.SideNumberLemmas.{IsNumbered, at_number, numbered, side_below}

-- the side that has a number
pub side_numbered : (mesh : FaceList) (f t : ℕ) (d : FaceSide) → f < length mesh.faces → t < length (face_at mesh f)
    → get_or (all_sides mesh) (first_side mesh f + t) d ≡ face_side f (face_at mesh f) t
unfolding all_sides
side_numbered mesh f t d l b = grind (arith, at_number, face_side)

-- the face and the place of a side, from its number
pub record IsNumberOf (mesh : FaceList) (f t number : ℕ) : Type 0 where
  pub face : f < length mesh.faces
  pub place : t < length (face_at mesh f)
  pub is : first_side mesh f + t ≡ number

pub number_below : (mesh : FaceList) (f t number : ℕ) → IsNumberOf mesh f t number → number < total_sides mesh
number_below mesh f t number h = omega (arith, h.is, side_below mesh f t h.face h.place)

-- each number below the count is that of a side
pub record HasPlace (mesh : FaceList) (number : ℕ) : Type 0 where
  pub face : ℕ
  pub place : ℕ
  pub numbered : IsNumberOf mesh face place number

pub placed : (mesh : FaceList) (number : ℕ) → number < total_sides mesh → HasPlace mesh number
placed mesh number l =
    let h : IsNumbered mesh number = numbered mesh number l in
    record { face = h.face; place = h.at; numbered = record { face = h.in_list; place = h.in_face; is = h.number } }

-- the side that has a number
pub record HasSide (mesh : FaceList) (n : ℕ) : Type 0 where
  pub side : Side
  pub in_mesh : IsSide mesh side
  pub number : side_number mesh side ≡ n

pub side_with_number : (mesh : FaceList) (number : ℕ) → number < total_sides mesh → HasSide mesh number
side_with_number mesh number l =
    let p : HasPlace mesh number = placed mesh number l in
    record {
      side = record { face = record { 0 = p.face }; at = p.place };
      in_mesh = record { face = p.numbered.face; place = p.numbered.place };
      number = p.numbered.is;
    }
