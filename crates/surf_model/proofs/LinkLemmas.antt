-- Walks as lists in which neighbours form edges: what stands in the middle may be replaced where it begins and ends alike.
use Rattle.surf_model.proofs.Common.{◌≡◌, ℕ, zero, suc, ◌+◌, ◌<◌, Bool, List, [], ◌∷◌, ◌++◌, length, get_or, subst, arith, IsTrue, All, FaceList, face_at, corners_from, next_corner, is_edge, is_used, IsWalk}
use Rattle.surf_model.proofs.EdgeLemmas.{step_edge, step_within, corner_used}

-- neighbours form edges
abbrev pub Linked : FaceList → List ℕ → Type 0
Linked mesh [] = Unit {0}
Linked mesh (x ∷ []) = Unit {0}
Linked mesh (x ∷ y ∷ rest) = IsTrue (is_edge mesh x y) × Linked mesh (y ∷ rest)

-- the walk's own words for it
linked_at : (mesh : FaceList) (walk : List ℕ) (k : ℕ) → Linked mesh walk → k + 1 < length walk
    → IsTrue (is_edge mesh (get_or walk k 0) (get_or walk (k + 1) 0))
linked_at mesh [] k h l = absurd (omega arith)
linked_at mesh (x ∷ []) k h l = absurd (omega arith)
linked_at mesh (x ∷ y ∷ rest) zero h l = h.0
linked_at mesh (x ∷ y ∷ rest) (suc k) h l =
    let next : suc k + 1 ≡ suc (k + 1) = omega arith in
    rw next (linked_at mesh (y ∷ rest) k h.1 (omega arith))

linked_from : (mesh : FaceList) (walk : List ℕ) → ((k : ℕ) → k + 1 < length walk
    → IsTrue (is_edge mesh (get_or walk k 0) (get_or walk (k + 1) 0)))
    → Linked mesh walk
linked_from mesh [] h = tt
linked_from mesh (x ∷ []) h = tt
linked_from mesh (x ∷ y ∷ rest) h = (
  h 0 (omega arith),
  linked_from mesh (y ∷ rest) (λ k l.
      let next : suc k + 1 ≡ suc (k + 1) = omega arith in
      subst (λ (n : ℕ). IsTrue (is_edge mesh (get_or (x ∷ y ∷ rest) (suc k) 0) (get_or (x ∷ y ∷ rest) n 0))) next
      (h (suc k) (omega arith))),
)

pub links : (mesh : FaceList) (walk : List ℕ) → IsWalk mesh walk → Linked mesh walk
links mesh walk w = linked_from mesh walk (λ k l. w.edges k (omega arith))

pub walk_from : (mesh : FaceList) (walk : List ℕ) → 0 < length walk → All (λ v. IsTrue (is_used mesh v)) walk → Linked mesh walk
    → IsWalk mesh walk
walk_from mesh walk start used linked = grind (arith, linked_at)

-- walks put together at a vertex, and taken apart there
pub together : (mesh : FaceList) (x : ℕ) (front rest : List ℕ) → Linked mesh (front ++ x ∷ []) → Linked mesh (x ∷ rest)
    → Linked mesh (front ++ x ∷ rest)
together mesh x [] rest h k = k
together mesh x (a ∷ []) rest h k = (h.0, k)
together mesh x (a ∷ b ∷ front) rest h k = (h.0, together mesh x (b ∷ front) rest h.1 k)

pub front_of : (mesh : FaceList) (x : ℕ) (front rest : List ℕ) → Linked mesh (front ++ x ∷ rest) → Linked mesh (front ++ x ∷ [])
front_of mesh x [] rest h = tt
front_of mesh x (a ∷ []) rest h = (h.0, tt)
front_of mesh x (a ∷ b ∷ front) rest h = (h.0, front_of mesh x (b ∷ front) rest h.1)

pub rest_of : (mesh : FaceList) (x : ℕ) (front rest : List ℕ) → Linked mesh (front ++ x ∷ rest) → Linked mesh (x ∷ rest)
rest_of mesh x [] rest h = h
rest_of mesh x (a ∷ []) rest h = h.1
rest_of mesh x (a ∷ b ∷ front) rest h = rest_of mesh x (b ∷ front) rest h.1

-- round a face, neighbours form edges, and each corner is used
pub round_linked : (mesh : FaceList) (f : ℕ) (rising : Bool) (t k : ℕ) → f < length mesh.faces → t < length (face_at mesh f)
    → Linked mesh (corners_from (face_at mesh f) rising t k)
round_linked mesh f rising t zero l b = tt
round_linked mesh f rising t (suc zero) l b = (step_edge mesh f rising t l b, tt)
round_linked mesh f rising t (suc (suc k)) l b = (
  step_edge mesh f rising t l b,
  round_linked mesh f rising (next_corner rising (length (face_at mesh f)) t) (suc k) l
      (step_within rising (length (face_at mesh f)) t b),
)

-- what holds of the first and of the others holds of all
pub all_more : (P : ℕ → Type 0) (x : ℕ) (xs : List ℕ) → P x → All P xs → All P (x ∷ xs)
all_more P x xs h hs zero d l = h
all_more P x xs h hs (suc k) d l = hs k d (omega arith)

pub none_yet : (P : ℕ → Type 0) → All P []
none_yet P k d l = absurd (omega arith)

pub round_used : (mesh : FaceList) (f : ℕ) (rising : Bool) (t k : ℕ) → f < length mesh.faces → t < length (face_at mesh f)
    → All (λ v. IsTrue (is_used mesh v)) (corners_from (face_at mesh f) rising t k)
round_used mesh f rising t zero l b = grind (arith, all_more, corner_used, none_yet)
round_used mesh f rising t (suc k) l b =
    all_more (λ v. IsTrue (is_used mesh v)) (get_or (face_at mesh f) t 0)
    (corners_from (face_at mesh f) rising (next_corner rising (length (face_at mesh f)) t) k)
    (corner_used mesh f t l b)
    (round_used mesh f rising (next_corner rising (length (face_at mesh f)) t) k l (step_within rising (length (face_at mesh f)) t b))
