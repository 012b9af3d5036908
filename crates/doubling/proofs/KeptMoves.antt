-- What a mesh has, its double has: edges, walks, and moves, which do there what they do here.
use Rattle.doubling.proofs.Common.{HasSideBetween, side_between, double_of, arith, ◌≡◌, inl, inr, ℕ, ◌<◌, Bool, true, false, ◌||◌, List, [], ◌∷◌, length, get_or, refl, ◌∙◌, subst, ◌-◌, common_steps, Some, first_answer, stays_walk, edge_swap, step_edge, by_replacing, tail_of, head_of, FaceList, face_at, next_corner, is_edge, is_used, apply, apply_all, IsReplacement, Replaces, IsWalk, Move, Insert, Remove, Across}
use Rattle.doubling.proofs.DoubleFaces.{kept_face, kept_below}

pub kept_edge : (mesh : FaceList) (u v : ℕ) → is_edge mesh u v ≡ true → is_edge (double_of mesh) u v ≡ true
kept_edge mesh u v is =
    let found : HasSideBetween mesh u v = side_between mesh u v is in
    let f : ℕ = found.side.face.0 in
    let same : face_at (double_of mesh) f ≡ face_at mesh f = kept_face mesh f found.in_mesh.face in
    let place : found.side.at < length (face_at (double_of mesh) f) = grind arith in
    let edge : is_edge (double_of mesh) (tail_of mesh found.side) (head_of mesh found.side) ≡ true =
    subst
    (λ (r : List ℕ).
    is_edge (double_of mesh) (get_or r found.side.at 0) (get_or r (next_corner true (length r) found.side.at) 0) ≡ true)
    same (step_edge (double_of mesh) f true found.side.at (kept_below mesh f found.in_mesh.face) place) in
    elim found.ends [
      | inl e ↦
          subst (λ a. is_edge (double_of mesh) a v ≡ true) e.0
          (subst (λ b. is_edge (double_of mesh) (tail_of mesh found.side) b ≡ true) e.1 edge)
      | inr e ↦
          edge_swap (double_of mesh) u v
          ∙ subst (λ a. is_edge (double_of mesh) a u ≡ true) e.0
          (subst (λ b. is_edge (double_of mesh) (tail_of mesh found.side) b ≡ true) e.1 edge)
    ]

or_left : (a b : Bool) → a ≡ true → (a || b) ≡ true
or_left true b e = refl
or_left false b e = cc

kept_used : (mesh : FaceList) (v : ℕ) → is_used mesh v ≡ true → is_used (double_of mesh) v ≡ true
unfolding is_used
kept_used mesh v is = grind (arith, common_steps, or_left)

pub kept_walk : (mesh : FaceList) (walk : List ℕ) → IsWalk mesh walk → IsWalk (double_of mesh) walk
kept_walk mesh walk w = grind (arith, kept_used, kept_edge)

kept_replaces : (mesh : FaceList) (move : Move) (part other : List ℕ) → Replaces mesh move part other
    → Replaces (double_of mesh) move part other
kept_replaces mesh (Insert at via) part other h = (h.0, kept_edge mesh h.0 via.0 h.1, h.2, h.3)
kept_replaces mesh (Remove at via) part other h = h
kept_replaces mesh (Across at face corner forward taken) part other h = grind (arith, common_steps, kept_face, kept_below)

pub kept_move : (mesh : FaceList) (walk next : List ℕ) (move : Move) → 0 < length walk → apply mesh walk move ≡ Some next
    → apply (double_of mesh) walk move ≡ Some next
kept_move mesh walk next move start e =
    let r : IsReplacement mesh move walk next = (by_replacing mesh walk next move start).0 e in
    (by_replacing (double_of mesh) walk next move start).1 (record {
      before = r.before;
      part = r.part;
      other = r.other;
      after = r.after;
      walk_is = r.walk_is;
      next_is = r.next_is;
      place = r.place;
      replaces = kept_replaces mesh move r.part r.other r.replaces;
    })

-- a list of moves of the mesh leads in the double to the same walk
pub kept_moves : (mesh : FaceList) (moves : List Move) (walk next : List ℕ) → 0 < length walk → apply_all mesh walk moves ≡ Some next
    → apply_all (double_of mesh) walk moves ≡ Some next
kept_moves mesh [] walk next start e = e
kept_moves mesh (move ∷ moves) walk next start e =
    let told = first_answer (λ x. apply_all mesh x moves) (apply mesh walk move) next e in
    let one = kept_move mesh walk told.0 move start told.1 in
    rw one (kept_moves mesh moves told.0 next (stays_walk mesh walk told.0 move start told.1) told.2)
