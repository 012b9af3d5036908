-- The sides of a cover: each lies over one of the mesh, and over each lie two, which start on the two sheets.
use Rattle.closed_covers.proofs.Common.{face_over, over_below, over_is, IsOver, each_over, sheet_at, sheets_apart, step, entry, length-lifted, sheet_behind, over, lifted, AreTurns, cover_of, ◌≡◌, ℕ, ◌<◌, Bool, true, false, not, List, length, get_or, refl, ap, sym, ◌∙◌, subst, arith, step_within, IsSide, side_after, tail_of, head_of, FaceList, face_at, next_corner, Side}

-- the side over a side, in the face that begins on this sheet
abbrev pub side_over : FaceList → Bool → Side → Side
side_over mesh upper side = record { face = record { 0 = face_over (length mesh.faces) upper side.face.0 }; at = side.at }

-- the sheet on which it starts
abbrev pub start_sheet : FaceList → (ℕ → ℕ → Bool) → Bool → Side → Bool
start_sheet mesh turns upper side = sheet_at turns upper (face_at mesh side.face.0) side.at

-- a face that begins on the other sheet is on the other sheet throughout
pub one_start : (turns : ℕ → ℕ → Bool) (p q : Bool) (ring : List ℕ) (t : ℕ) → sheet_at turns p ring t ≡ sheet_at turns q ring t → p ≡ q
one_start turns true true ring t e = refl
one_start turns false false ring t e = refl
one_start turns true false ring t e = absurd (not_itself (sheet_at turns false ring t) (sym (sheets_apart turns false ring t) ∙ e))
  where
    not_itself : (b : Bool) → not b ≡ b → ⊥
    not_itself true e = cc
    not_itself false e = cc
one_start turns false true ring t e = absurd (not_itself (sheet_at turns false ring t) (sym (sheets_apart turns false ring t) ∙ sym e))
  where
    not_itself : (b : Bool) → not b ≡ b → ⊥
    not_itself true e = cc
    not_itself false e = cc

-- one of two faces over one
pub face_once : (n f g : ℕ) (p q : Bool) → f < n → g < n → face_over n p f ≡ face_over n q g → f ≡ g
face_once n f g true true l m e = omega (arith, e)
face_once n f g false false l m e = e
face_once n f g true false l m e = absurd (omega (arith, e, m))
face_once n f g false true l m e = absurd (omega (arith, e, l))

module _ (mesh : FaceList) (turns : ℕ → ℕ → Bool) where
  face_there : (upper : Bool) (side : Side) → IsSide mesh side
      → face_at (cover_of mesh turns) (face_over (length mesh.faces) upper side.face.0)
      ≡ lifted turns mesh.count upper (face_at mesh side.face.0)
  face_there upper side is = over_is mesh turns upper side.face.0 is.face

  pub over_in_cover : (upper : Bool) (side : Side) → IsSide mesh side → IsSide (cover_of mesh turns) (side_over mesh upper side)
  over_in_cover upper side is = record {
    face = over_below mesh turns upper side.face.0 is.face;
    place =
        subst (λ (r : List ℕ). side.at < length r) (sym (face_there upper side is))
        (omega (arith, is.place, length-lifted turns mesh.count upper (face_at mesh side.face.0)));
  }

  pub over_tail : (upper : Bool) (side : Side) → IsSide mesh side
      → tail_of (cover_of mesh turns) (side_over mesh upper side)
      ≡ over mesh.count (start_sheet mesh turns upper side) (tail_of mesh side)
  over_tail upper side is =
      ap (λ (r : List ℕ). get_or r side.at 0) (face_there upper side is)
      ∙ entry turns mesh.count upper (face_at mesh side.face.0) side.at is.place

  pub over_after : (upper : Bool) (side : Side) → IsSide mesh side
      → side_after (cover_of mesh turns) (side_over mesh upper side) ≡ side_over mesh upper (side_after mesh side)
  over_after upper side is =
      let g : ℕ = face_over (length mesh.faces) upper side.face.0 in
      ap (λ (k : ℕ). let s : Side = record { face = record { 0 = g }; at = next_corner true k side.at } in s)
      (ap length (face_there upper side is) ∙ length-lifted turns mesh.count upper (face_at mesh side.face.0))

  after_in : (side : Side) → IsSide mesh side → IsSide mesh (side_after mesh side)
  after_in side is = record { face = is.face; place = step_within true (length (face_at mesh side.face.0)) side.at is.place }

  -- a side of the cover, by the one below it
  pub record IsOverSide (side : Side) : Type 0 where
    pub low : Side
    pub upper : Bool
    pub in_mesh : IsSide mesh low
    pub is : side ≡ side_over mesh upper low

  pub each_side : (side : Side) → IsSide (cover_of mesh turns) side → IsOverSide side
  each_side side h =
      let is : IsOver mesh turns side.face.0 = each_over mesh turns side.face.0 h.face in
      let low : Side = record { face = record { 0 = is.face }; at = side.at } in
      let there : face_at (cover_of mesh turns) side.face.0 ≡ lifted turns mesh.count is.upper (face_at mesh is.face) =
      ap (face_at (cover_of mesh turns)) is.is ∙ over_is mesh turns is.upper is.face is.in_list in
      record {
        low = low;
        upper = is.upper;
        in_mesh = record {
          face = is.in_list;
          place = omega (arith, h.place, ap length there, length-lifted turns mesh.count is.upper (face_at mesh is.face));
        };
        is = ap (λ (k : ℕ). let s : Side = record { face = record { 0 = k }; at = side.at } in s) is.is;
      }

  pub over_once : (p q : Bool) (side other : Side) → IsSide mesh side → IsSide mesh other → side_over mesh p side ≡ side_over mesh q other
      → side ≡ other
  over_once p q side other is it e = grind (arith, face_once)

module _ (mesh : FaceList) (turns : ℕ → ℕ → Bool) (are : AreTurns mesh turns) where
  -- behind a side the sheet changes where its edge turns
  pub sheet_after : (upper : Bool) (side : Side) → IsSide mesh side
      → start_sheet mesh turns upper (side_after mesh side)
      ≡ sheet_behind turns (start_sheet mesh turns upper side) (tail_of mesh side) (head_of mesh side)
  sheet_after upper side is =
      step turns are.turned (face_at mesh side.face.0) upper true side.at (λ (s : Bool). are.round side.face.0 s is.face) is.place

  pub over_head : (upper : Bool) (side : Side) → IsSide mesh side
      → head_of (cover_of mesh turns) (side_over mesh upper side)
      ≡ over mesh.count (sheet_behind turns (start_sheet mesh turns upper side) (tail_of mesh side) (head_of mesh side)) (head_of mesh side)
  over_head upper side is =
      ap (tail_of (cover_of mesh turns)) (over_after mesh turns upper side is)
      ∙ over_tail mesh turns upper (side_after mesh side) (after_in mesh turns side is)
      ∙ ap (λ (s : Bool). over mesh.count s (head_of mesh side)) (sheet_after upper side is)
