-- The dart of a side, in a kept face and in a flipped one: here alone the flip is looked at.
use Rattle.halfedge_map.proofs.Common.{darts_of, side_of, face_of, origin_of, target_of, next_of, start_corner_of, end_corner_of, dart_at_corner, StartsAtCorner, IsDartOfSide, after_steps, IsReached, OrientedMesh, arith, ◌≡◌, ℕ, ◌+◌, ◌<◌, Bool, true, false, not, cond, List, length, get_or, refl, ap, sym, ◌∙◌, subst, cond-true, cond-false, face_side, first_side, IsSide, side_number, side_after, FaceSide, face_at, next_corner, is_flipped, start_under, end_under, Side}
use Rattle.halfedge_map.proofs.OrbitLemmas.{IsPermutationBelow}
use Rattle.halfedge_map.proofs.CornerLemmas.{corner_within, corner_back, corners_permuted, corner_reached}
use Rattle.halfedge_map.proofs.NumberLemmas.{IsNumberOf, HasPlace, side_numbered, number_below, placed}

-- the number of corners of a face
abbrev pub corners : OrientedMesh → ℕ → ℕ
corners s f = length (face_at s.mesh f)

-- the vertex at a corner
abbrev pub vertex_at : OrientedMesh → ℕ → ℕ → ℕ
vertex_at s f corner = get_or (face_at s.mesh f) corner 0

pub side_at : (s : OrientedMesh) (f t d : ℕ) → IsNumberOf s.mesh f t d → side_of s d ≡ face_side f (face_at s.mesh f) t
unfolding side_of
side_at s f t d h = grind (arith, side_numbered)

pub face_at_number : (s : OrientedMesh) (f t d : ℕ) → IsNumberOf s.mesh f t d → face_of s d ≡ f
unfolding face_of
face_at_number s f t d h = ap (λ (x : FaceSide). x.face) (side_at s f t d h)

-- a number is that of one side
pub one_face : (s : OrientedMesh) (f t g u d : ℕ) → IsNumberOf s.mesh f t d → IsNumberOf s.mesh g u d → f ≡ g
one_face s f t g u d h k = ap (λ (x : FaceSide). x.face) (sym (side_at s f t d h) ∙ side_at s g u d k)

pub one_place : (s : OrientedMesh) (f t g u d : ℕ) → IsNumberOf s.mesh f t d → IsNumberOf s.mesh g u d → t ≡ u
one_place s f t g u d h k = ap (λ (x : FaceSide). x.at) (sym (side_at s f t d h) ∙ side_at s g u d k)

-- where the dart of side t of a face starts and ends, by the sign of the face
unfoldable pub start_place : Bool → ℕ → ℕ → ℕ
start_place flipped m t = cond flipped (next_corner true m t) t

end_place : Bool → ℕ → ℕ → ℕ
end_place flipped m t = cond flipped t (next_corner true m t)

start_within : (flipped : Bool) (m t : ℕ) → t < m → start_place flipped m t < m
unfolding start_place
start_within true m t l = corner_within true m t l
start_within false m t l = l

-- the next dart starts where this one ends
turn_place : (flipped : Bool) (m t : ℕ) → t < m → start_place flipped m (next_corner (not flipped) m t) ≡ end_place flipped m t
unfolding start_place end_place
turn_place true m t l = corner_back false m t l
turn_place false m t l = refl

-- one place starts at a corner
place_at : Bool → ℕ → ℕ → ℕ
place_at flipped m c = cond flipped (next_corner false m c) c

place_within : (flipped : Bool) (m c : ℕ) → c < m → place_at flipped m c < m
unfolding place_at
place_within true m c l = corner_within false m c l
place_within false m c l = l

place_starts : (flipped : Bool) (m c : ℕ) → c < m → start_place flipped m (place_at flipped m c) ≡ c
unfolding place_at start_place
place_starts true m c l = corner_back false m c l
place_starts false m c l = refl

start_is_place : (flipped : Bool) (m t : ℕ) → t < m → place_at flipped m (start_place flipped m t) ≡ t
unfolding place_at start_place
start_is_place true m t l = corner_back true m t l
start_is_place false m t l = refl

end_is_place : (flipped : Bool) (m t : ℕ) → t < m → place_at flipped m (end_place flipped m t) ≡ next_corner (not flipped) m t
unfolding place_at end_place
end_is_place true m t l = refl
end_is_place false m t l = refl

pub start_at : (s : OrientedMesh) (f t d : ℕ) → IsNumberOf s.mesh f t d
    → start_corner_of s d ≡ start_place (is_flipped s.signs f) (corners s f) t
unfolding start_corner_of start_place
start_at s f t d h =
    ap (λ (x : FaceSide). cond (is_flipped s.signs x.face) (next_corner true (length (face_at s.mesh x.face)) x.at) x.at)
    (side_at s f t d h)

end_at : (s : OrientedMesh) (f t d : ℕ) → IsNumberOf s.mesh f t d → end_corner_of s d ≡ end_place (is_flipped s.signs f) (corners s f) t
unfolding end_corner_of end_place
end_at s f t d h =
    ap (λ (x : FaceSide). cond (is_flipped s.signs x.face) x.at (next_corner true (length (face_at s.mesh x.face)) x.at))
    (side_at s f t d h)

-- a dart starts and ends at the vertices of its two corners
vertex_start : (flipped : Bool) (ring : List ℕ) (t : ℕ)
    → cond flipped (get_or ring (next_corner true (length ring) t) 0) (get_or ring t 0) ≡ get_or ring
    (start_place flipped (length ring) t) 0
unfolding start_place
vertex_start true ring t = refl
vertex_start false ring t = refl

vertex_end : (flipped : Bool) (ring : List ℕ) (t : ℕ)
    → cond flipped (get_or ring t 0) (get_or ring (next_corner true (length ring) t) 0) ≡ get_or ring (end_place flipped (length ring) t) 0
unfolding end_place
vertex_end true ring t = refl
vertex_end false ring t = refl

pub origin_at : (s : OrientedMesh) (f t d : ℕ) → IsNumberOf s.mesh f t d → origin_of s d ≡ vertex_at s f (start_corner_of s d)
unfolding origin_of
origin_at s f t d h =
    ap (λ (x : FaceSide). cond (is_flipped s.signs x.face) x.head x.tail) (side_at s f t d h)
    ∙ vertex_start (is_flipped s.signs f) (face_at s.mesh f) t ∙ ap (vertex_at s f) (sym (start_at s f t d h))

pub target_at : (s : OrientedMesh) (f t d : ℕ) → IsNumberOf s.mesh f t d → target_of s d ≡ vertex_at s f (end_corner_of s d)
unfolding target_of
target_at s f t d h =
    ap (λ (x : FaceSide). cond (is_flipped s.signs x.face) x.tail x.head) (side_at s f t d h)
    ∙ vertex_end (is_flipped s.signs f) (face_at s.mesh f) t ∙ ap (vertex_at s f) (sym (end_at s f t d h))

-- the next dart
pub next_at : (s : OrientedMesh) (f t d : ℕ) → IsNumberOf s.mesh f t d
    → next_of s d ≡ first_side s.mesh f + next_corner (not (is_flipped s.signs f)) (corners s f) t
unfolding next_of
next_at s f t d h =
    ap (λ (x : FaceSide). first_side s.mesh x.face + next_corner (not (is_flipped s.signs x.face)) (length (face_at s.mesh x.face)) x.at)
    (side_at s f t d h)

pub next_numbered : (s : OrientedMesh) (f t d : ℕ) → IsNumberOf s.mesh f t d
    → IsNumberOf s.mesh f (next_corner (not (is_flipped s.signs f)) (corners s f) t) (next_of s d)
next_numbered s f t d h = grind (arith, corner_within, next_at)

-- steps in a face are steps round its corners
steps_numbered : (s : OrientedMesh) (f t d k : ℕ) → IsNumberOf s.mesh f t d
    → IsNumberOf s.mesh f (after_steps (next_corner (not (is_flipped s.signs f)) (corners s f)) k t) (after_steps (next_of s) k d)
steps_numbered s f t d ℕ.zero h = h
steps_numbered s f t d (ℕ.suc k) h =
    next_numbered s f (after_steps (next_corner (not (is_flipped s.signs f)) (corners s f)) k t) (after_steps (next_of s) k d)
    (steps_numbered s f t d k h)

pub next_within : (s : OrientedMesh) (d : ℕ) → d < darts_of s → next_of s d < darts_of s
next_within s d l =
    let p : HasPlace s.mesh d = placed s.mesh d l in
    number_below s.mesh p.face _ (next_of s d) (next_numbered s p.face p.place d p.numbered)

pub next_injective : (s : OrientedMesh) (d e : ℕ) → d < darts_of s → e < darts_of s → next_of s d ≡ next_of s e → d ≡ e
next_injective s d e l k same =
    let p : HasPlace s.mesh d = placed s.mesh d l in
    let q : HasPlace s.mesh e = placed s.mesh e k in
    let f : ℕ = p.face in
    let at_d : IsNumberOf s.mesh f (next_corner (not (is_flipped s.signs f)) (corners s f) p.place) (next_of s e) =
    subst (IsNumberOf s.mesh f (next_corner (not (is_flipped s.signs f)) (corners s f) p.place)) same
    (next_numbered s f p.place d p.numbered) in
    let at_e : IsNumberOf s.mesh q.face (next_corner (not (is_flipped s.signs q.face)) (corners s q.face) q.place) (next_of s e) =
    next_numbered s q.face q.place e q.numbered in
    let face : q.face ≡ f = one_face s q.face _ f _ (next_of s e) at_e at_d in
    let e_here : IsNumberOf s.mesh f q.place e = subst (λ g. IsNumberOf s.mesh g q.place e) face q.numbered in
    let places : next_corner (not (is_flipped s.signs f)) (corners s f) p.place ≡ next_corner (not (is_flipped s.signs f))
    (corners s f) q.place = grind (arith, one_place, next_numbered) in
    let place : p.place ≡ q.place = (corners_permuted (not (is_flipped s.signs f))
    (corners s f)).injective p.place q.place p.numbered.place e_here.place places in
    sym p.numbered.is ∙ ap (λ t. first_side s.mesh f + t) place ∙ e_here.is

pub next_permutes : (s : OrientedMesh) → IsPermutationBelow (darts_of s) (next_of s)
next_permutes s = record { within = next_within s; injective = next_injective s }

pub face-next : (s : OrientedMesh) (d : ℕ) → d < darts_of s → face_of s (next_of s d) ≡ face_of s d
face-next s d l =
    let p : HasPlace s.mesh d = placed s.mesh d l in
    face_at_number s p.face _ (next_of s d) (next_numbered s p.face p.place d p.numbered)
    ∙ sym (face_at_number s p.face p.place d p.numbered)

-- darts of one face are reached from one another
pub face_reached : (s : OrientedMesh) (d e : ℕ) → d < darts_of s → e < darts_of s → face_of s d ≡ face_of s e → IsReached (next_of s) d e
face_reached s d e l k same =
    let p : HasPlace s.mesh d = placed s.mesh d l in
    let q : HasPlace s.mesh e = placed s.mesh e k in
    let f : ℕ = p.face in
    let face : q.face ≡ f = sym (face_at_number s q.face q.place e q.numbered) ∙ sym same ∙ face_at_number s f p.place d p.numbered in
    let e_here : IsNumberOf s.mesh f q.place e = subst (λ g. IsNumberOf s.mesh g q.place e) face q.numbered in
    let way : IsReached (next_corner (not (is_flipped s.signs f)) (corners s f)) p.place q.place = grind (arith, corner_reached) in
    record {
      steps = way.steps;
      leads =
          sym (steps_numbered s f p.place d way.steps p.numbered).is ∙ ap (λ t. first_side s.mesh f + t) way.leads ∙ e_here.is;
    }

-- the next dart starts at the corner where this one ends
pub corner-next : (s : OrientedMesh) (d : ℕ) → d < darts_of s → start_corner_of s (next_of s d) ≡ end_corner_of s d
corner-next s d l =
    let p : HasPlace s.mesh d = placed s.mesh d l in
    start_at s p.face _ (next_of s d) (next_numbered s p.face p.place d p.numbered)
    ∙ turn_place (is_flipped s.signs p.face) (corners s p.face) p.place p.numbered.place ∙ sym (end_at s p.face p.place d p.numbered)

pub origin-next : (s : OrientedMesh) (d : ℕ) → d < darts_of s → origin_of s (next_of s d) ≡ target_of s d
origin-next s d l =
    let p : HasPlace s.mesh d = placed s.mesh d l in
    origin_at s p.face _ (next_of s d) (next_numbered s p.face p.place d p.numbered)
    ∙ ap (vertex_at s p.face) (corner-next s d l) ∙ sym (target_at s p.face p.place d p.numbered)

-- the dart that starts at a corner
corner_numbered : (s : OrientedMesh) (f c : ℕ) → f < length s.mesh.faces → c < corners s f
    → IsNumberOf s.mesh f (place_at (is_flipped s.signs f) (corners s f) c) (dart_at_corner s f c)
unfolding dart_at_corner place_at
corner_numbered s f c l k = record { face = l; place = place_within (is_flipped s.signs f) (corners s f) c k; is = refl }

pub dart_starts : (s : OrientedMesh) (f c : ℕ) → f < length s.mesh.faces → c < corners s f → StartsAtCorner s f c (dart_at_corner s f c)
dart_starts s f c l k =
    let h = corner_numbered s f c l k in
    let t : ℕ = place_at (is_flipped s.signs f) (corners s f) c in
    let starts : start_corner_of s (dart_at_corner s f c) ≡ c =
    start_at s f t (dart_at_corner s f c) h ∙ place_starts (is_flipped s.signs f) (corners s f) c k in
    record {
      within = number_below s.mesh f t (dart_at_corner s f c) h;
      face = face_at_number s f t (dart_at_corner s f c) h;
      starts = starts;
      origin = origin_at s f t (dart_at_corner s f c) h ∙ ap (vertex_at s f) starts;
    }

pub corner_of_start : (s : OrientedMesh) (f t d : ℕ) → IsNumberOf s.mesh f t d → dart_at_corner s f (start_corner_of s d) ≡ d
unfolding dart_at_corner place_at
corner_of_start s f t d h =
    ap (dart_at_corner s f) (start_at s f t d h)
    ∙ ap (λ u. first_side s.mesh f + u) (start_is_place (is_flipped s.signs f) (corners s f) t h.place) ∙ h.is

pub corner_of_end : (s : OrientedMesh) (f t d : ℕ) → IsNumberOf s.mesh f t d → dart_at_corner s f (end_corner_of s d) ≡ next_of s d
unfolding dart_at_corner place_at
corner_of_end s f t d h =
    ap (dart_at_corner s f) (end_at s f t d h)
    ∙ ap (λ u. first_side s.mesh f + u) (end_is_place (is_flipped s.signs f) (corners s f) t h.place) ∙ sym (next_at s f t d h)

-- the number of a side is that of its dart
pub numbered : (s : OrientedMesh) (side : Side) → IsSide s.mesh side → IsNumberOf s.mesh side.face.0 side.at (side_number s.mesh side)
numbered s side h = record { face = h.face; place = h.place; is = refl }

pub origin_under : (s : OrientedMesh) (side : Side) → IsSide s.mesh side
    → origin_of s (side_number s.mesh side) ≡ start_under s.mesh s.signs side
unfolding origin_of
origin_under s side h = grind (arith, side_at, numbered)

pub target_under : (s : OrientedMesh) (side : Side) → IsSide s.mesh side
    → target_of s (side_number s.mesh side) ≡ end_under s.mesh s.signs side
unfolding target_of
target_under s side h = grind (arith, side_at, numbered)

-- one place on in a kept face, one place back in a flipped one
turned_place : (flipped : Bool) (first m t d after : ℕ) → t < m → first + t ≡ d
    → after ≡ first + next_corner (not flipped) m (next_corner true m t) → flipped ≡ true → after ≡ d
turned_place true first m t d after l is e flips = e ∙ ap (λ u. first + u) (corner_back true m t l) ∙ is
turned_place false first m t d after l is e flips = cc

pub dart_of_side : (s : OrientedMesh) (side : Side) → IsSide s.mesh side → IsDartOfSide s side (side_number s.mesh side)
dart_of_side s side h =
    let f : ℕ = side.face.0 in
    let m : ℕ = corners s f in
    let n : IsNumberOf s.mesh f side.at (side_number s.mesh side) = numbered s side h in
    let after : IsNumberOf s.mesh f (next_corner true m side.at) (side_number s.mesh (side_after s.mesh side)) =
    record { face = h.face; place = corner_within true m side.at h.place; is = refl } in
    record {
      within = number_below s.mesh f side.at (side_number s.mesh side) n;
      face = face_at_number s f side.at (side_number s.mesh side) n;
      origin = origin_under s side h;
      target = target_under s side h;
      kept = λ kept. next_at s f side.at (side_number s.mesh side) n ∙ ap (λ b. first_side s.mesh f + next_corner (not b) m side.at) kept;
      flipped = turned_place (is_flipped s.signs f) (first_side s.mesh f) m side.at (side_number s.mesh side)
          (next_of s (side_number s.mesh (side_after s.mesh side))) h.place refl
          (next_at s f (next_corner true m side.at) (side_number s.mesh (side_after s.mesh side)) after);
    }

-- the two corners of a dart, in a kept and in a flipped face
pub start_kept : (s : OrientedMesh) (f t d : ℕ) → IsNumberOf s.mesh f t d → is_flipped s.signs f ≡ false → start_corner_of s d ≡ t
unfolding start_place
start_kept s f t d h kept = start_at s f t d h ∙ cond-false (is_flipped s.signs f) (next_corner true (corners s f) t) t kept

pub start_flipped : (s : OrientedMesh) (f t d : ℕ) → IsNumberOf s.mesh f t d → is_flipped s.signs f ≡ true
    → start_corner_of s d ≡ next_corner true (corners s f) t
unfolding start_place
start_flipped s f t d h flips = start_at s f t d h ∙ cond-true (is_flipped s.signs f) (next_corner true (corners s f) t) t flips

pub end_kept : (s : OrientedMesh) (f t d : ℕ) → IsNumberOf s.mesh f t d → is_flipped s.signs f ≡ false
    → end_corner_of s d ≡ next_corner true (corners s f) t
unfolding end_place
end_kept s f t d h kept = end_at s f t d h ∙ cond-false (is_flipped s.signs f) t (next_corner true (corners s f) t) kept

pub end_flipped : (s : OrientedMesh) (f t d : ℕ) → IsNumberOf s.mesh f t d → is_flipped s.signs f ≡ true → end_corner_of s d ≡ t
unfolding end_place
end_flipped s f t d h flips = end_at s f t d h ∙ cond-true (is_flipped s.signs f) t (next_corner true (corners s f) t) flips

pub start_corner_within : (s : OrientedMesh) (f t d : ℕ) → IsNumberOf s.mesh f t d → start_corner_of s d < corners s f
start_corner_within s f t d h = subst (λ c. c < corners s f) (sym (start_at s f t d h))
    (start_within (is_flipped s.signs f) (corners s f) t h.place)
