-- How many darts a walk has after a move.
use Rattle.folded_lists.proofs.Common.{◌≡◌, ℕ, ◌+◌, ◌-◌, ◌<◌, ◌≤◌, Bool, not, List, ◌++◌, length, ap, ◌∙◌, arith, subst, length-append, Some, by_replacing, length-corners_from, FaceList, face_at, apply, IsReplacement, darts, Move, Insert, Remove, Across, VertexName}
use Rattle.surf_model.specs.declared.names.FaceName.{FaceName}

lengths : (mesh : FaceList) (walk next : List ℕ) (move : Move) (r : IsReplacement mesh move walk next)
    → length walk + length r.other ≡ length next + length r.part
lengths mesh walk next move r =
    omega (
      arith,
      ap length r.walk_is,
      ap length r.next_is,
      length-append (r.before ++ r.part) r.after,
      length-append r.before r.part,
      length-append (r.before ++ r.other) r.after,
      length-append r.before r.other,
    )

part_within : (mesh : FaceList) (walk next : List ℕ) (move : Move) (r : IsReplacement mesh move walk next) → length r.part ≤ length walk
part_within mesh walk next move r =
    omega (arith, ap length r.walk_is, length-append (r.before ++ r.part) r.after, length-append r.before r.part)

pub darts_more : (mesh : FaceList) (walk next : List ℕ) (move : Move) (at : ℕ) (via : VertexName) → move ≡ Insert at via → 0 < length walk
    → apply mesh walk move ≡ Some next → darts next ≡ darts walk + 2
darts_more mesh walk next move at via is some e =
    let e = subst (λ (m : Move). apply mesh walk m ≡ Some next) is e in
    let r = (by_replacing mesh walk next (Insert at via) some).0 e in
    omega (arith, some, lengths mesh walk next (Insert at via) r, ap length r.replaces.2, ap length r.replaces.3)

pub darts_fewer : (mesh : FaceList) (walk next : List ℕ) (move : Move) (at : ℕ) (via : VertexName) → move ≡ Remove at via → 0 < length walk
    → apply mesh walk move ≡ Some next → darts next + 2 ≡ darts walk
darts_fewer mesh walk next move at via is some e =
    let e = subst (λ (m : Move). apply mesh walk m ≡ Some next) is e in
    let r = (by_replacing mesh walk next (Remove at via) some).0 e in
    omega (
      arith,
      some,
      lengths mesh walk next (Remove at via) r,
      part_within mesh walk next (Remove at via) r,
      ap length r.replaces.1,
      ap length r.replaces.2,
    )

pub record IsRoundFace (mesh : FaceList) (walk next : List ℕ) (face taken : ℕ) : Type 0 where
  pub in_list : face < length mesh.faces
  pub sides : taken ≤ length (face_at mesh face)
  pub within : taken ≤ darts walk
  pub long : darts next ≡ darts walk - taken + (length (face_at mesh face) - taken)

pub darts_round : (mesh : FaceList) (walk next : List ℕ) (move : Move) (at : ℕ) (face : FaceName) (corner : ℕ) (forward : Bool) (taken : ℕ)
    → move ≡ Across at face corner forward taken → 0 < length walk → apply mesh walk move ≡ Some next
    → IsRoundFace mesh walk next face.0 taken
darts_round mesh walk next move at face corner forward taken is some e =
    let move : Move = Across at face corner forward taken in
    let e = subst (λ (m : Move). apply mesh walk m ≡ Some next) is e in
    let r : IsReplacement mesh move walk next = (by_replacing mesh walk next move some).0 e in
    let ring : List ℕ = face_at mesh face.0 in
    let part : length r.part ≡ taken + 1 = ap length r.replaces.3 ∙ length-corners_from ring forward corner taken in
    let other : length r.other ≡ length ring - taken + 1 =
    ap length r.replaces.4 ∙ length-corners_from ring (not forward) corner (length ring - taken) in
    record {
      in_list = r.replaces.0;
      sides = r.replaces.2;
      within = omega (arith, part, part_within mesh walk next move r);
      long = omega (arith, part, other, some, part_within mesh walk next move r, lengths mesh walk next move r, r.replaces.2);
    }
