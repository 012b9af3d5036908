-- The entries of the list of all sides are the sides of the mesh, and two entries with one edge are partners.
use Rattle.surf_model.proofs.Common.{◌≡◌, ◌≢◌, ◌⊎◌, inl, ℕ, suc, ◌+◌, ◌-◌, ◌<◌, ◌≤◌, true, List, [], ◌∷◌, ◌++◌, length, get_or, ap, sym, ◌∙◌, subst, arith, nat_tests, All-nil, All-append, All-weaker, All-filter, filter_passes, AllPairs-filter, AllPairs-cons, enumerate_from, All, AllPairs, filter, flat_map, IsSide, tail_of, head_of, side_name, FaceList, FaceSide, face_at, all_sides, sides_of_face, joins, ArePartners}
use Rattle.surf_model.proofs.NumberLemmas.{face_side, length-sides_of_face, get_or-sides_of_face}

-- a side of the faces from number n on
record IsFrom (n : ℕ) (faces : List (List ℕ)) (s : FaceSide) : Type 0 where
  from : n ≤ s.face
  face : s.face - n < length faces
  place : s.at < length (get_or faces (s.face - n) [])
  is : s ≡ face_side s.face (get_or faces (s.face - n) []) s.at

abbrev sides_from : ℕ → List (List ℕ) → List FaceSide
sides_from n faces = flat_map (λ (p : ℕ × List ℕ). sides_of_face p.0 p.1) (enumerate_from n faces)

first_face_sides : (n : ℕ) (face : List ℕ) (faces : List (List ℕ)) → All (IsFrom n (face ∷ faces)) (sides_of_face n face)
first_face_sides n face faces t d l = grind (arith, length-sides_of_face, get_or-sides_of_face, face_side)

from_later : (n : ℕ) (face : List ℕ) (faces : List (List ℕ)) (s : FaceSide) → IsFrom (n + 1) faces s → IsFrom n (face ∷ faces) s
from_later n face faces s h = grind (arith, face_side)

all_from : (n : ℕ) (faces : List (List ℕ)) → All (IsFrom n faces) (sides_from n faces)
all_from n [] = All-nil (IsFrom n [])
all_from n (face ∷ faces) =
    All-append (IsFrom n (face ∷ faces)) (sides_of_face n face) (sides_from (n + 1) faces) (first_face_sides n face faces)
    (All-weaker (IsFrom (n + 1) faces) (IsFrom n (face ∷ faces)) (from_later n face faces) (sides_from (n + 1) faces)
    (all_from (n + 1) faces))

-- an entry is a side, and starts and ends where its face says
pub record IsListed (mesh : FaceList) (s : FaceSide) : Type 0 where
  pub side : IsSide mesh (side_name s)
  pub tail : s.tail ≡ tail_of mesh (side_name s)
  pub head : s.head ≡ head_of mesh (side_name s)

pub all_listed : (mesh : FaceList) → All (IsListed mesh) (all_sides mesh)
unfolding all_sides
all_listed mesh =
    All-weaker (IsFrom 0 mesh.faces) (IsListed mesh)
    (λ s h.
    let same : get_or mesh.faces (s.face - 0) [] ≡ face_at mesh s.face = grind arith in
    let is : s ≡ face_side s.face (face_at mesh s.face) s.at = h.is ∙ ap (λ f. face_side s.face f s.at) same in
    record {
      side = record { face = omega (arith, h.face); place = subst (λ f. s.at < length f) same h.place };
      tail = ap (λ (x : FaceSide). x.tail) is;
      head = ap (λ (x : FaceSide). x.head) is;
    })
    (sides_from 0 mesh.faces) (all_from 0 mesh.faces)

-- one entry comes before another, by its face and then by its place
abbrev IsBefore : FaceSide → FaceSide → Type 0
IsBefore s t = (s.face < t.face) ⊎ ((s.face ≡ t.face) × (s.at < t.at))

pub AllPairs-append : {A : Type 0} (R : A → A → Type 0) (xs ys : List A) → AllPairs R xs → AllPairs R ys → All (λ x. All (R x) ys) xs
    → AllPairs R (xs ++ ys)
AllPairs-append R [] ys h k between = k
AllPairs-append R (x ∷ xs) ys h k between =
    AllPairs-cons R x (xs ++ ys)
    (All-append (R x) xs ys (λ i d l. h 0 (suc i) d (omega arith) (omega (arith, l))) (between 0 x (omega arith)))
    (AllPairs-append R xs ys (λ i j d b l. h (suc i) (suc j) d (omega (arith, b)) (omega (arith, l))) k
    (λ i d l. between (suc i) d (omega (arith, l))))

face_rises : (n : ℕ) (face : List ℕ) → AllPairs IsBefore (sides_of_face n face)
face_rises n face i j d b l = grind (arith, length-sides_of_face, face_side, get_or-sides_of_face)

faces_rise : (n : ℕ) (faces : List (List ℕ)) → AllPairs IsBefore (sides_from n faces)
faces_rise n [] = λ i j d b l. absurd (omega (arith, l))
faces_rise n (face ∷ faces) =
    AllPairs-append IsBefore (sides_of_face n face) (sides_from (n + 1) faces) (face_rises n face) (faces_rise (n + 1) faces)
    (λ t d l.
    let here : get_or (sides_of_face n face) t d ≡ face_side n face t = grind (arith, get_or-sides_of_face, length-sides_of_face) in
    subst (λ s. All (IsBefore s) (sides_from (n + 1) faces)) (sym here)
    (All-weaker (IsFrom (n + 1) faces) (IsBefore (face_side n face t)) (λ s h. inl (omega (arith, h.from))) (sides_from (n + 1) faces)
    (all_from (n + 1) faces)))

sides_rise : (mesh : FaceList) → AllPairs IsBefore (all_sides mesh)
unfolding all_sides
sides_rise mesh = faces_rise 0 mesh.faces

differ : (s t : FaceSide) → IsBefore s t → side_name s ≢ side_name t
differ s t h same = grind arith

both_join : (u v : ℕ) (s t : FaceSide) → joins u v s ≡ true → joins u v t ≡ true → ((s.tail ≡ t.tail) × (s.head ≡ t.head))
    ⊎ ((s.tail ≡ t.head) × (s.head ≡ t.tail))
both_join u v s t h k = grind (arith, nat_tests)

-- an entry of the sides that join two vertices
pub record Joins (mesh : FaceList) (u v : ℕ) (s : FaceSide) : Type 0 where
  pub listed : IsListed mesh s
  pub joins : joins u v s ≡ true

pub joining : (mesh : FaceList) (u v : ℕ) → All (Joins mesh u v) (filter (joins u v) (all_sides mesh))
joining mesh u v k d l = record {
  listed = All-filter (joins u v) (IsListed mesh) (all_sides mesh) (all_listed mesh) k d l;
  joins = filter_passes (joins u v) (all_sides mesh) k d l;
}

-- two entries of them are partners
pub partners_listed : (mesh : FaceList) (u v : ℕ) (s t : FaceSide) → filter (joins u v) (all_sides mesh) ≡ s ∷ t ∷ []
    → ArePartners mesh (side_name s) (side_name t)
partners_listed mesh u v s t two =
    let all : All (Joins mesh u v) (s ∷ t ∷ []) = subst (All (Joins mesh u v)) two (joining mesh u v) in
    let first : Joins mesh u v s = all 0 s (omega arith) in
    let second : Joins mesh u v t = all 1 s (omega arith) in
    let rise : AllPairs IsBefore (s ∷ t ∷ []) = subst (AllPairs IsBefore) two
    (AllPairs-filter IsBefore (joins u v) (all_sides mesh) (sides_rise mesh)) in grind (arith, differ, both_join)
