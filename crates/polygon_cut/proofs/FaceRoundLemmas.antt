-- Round a face: the darts from a dart on, as many as the face has sides, go along its whole boundary, which one move contracts.
use Rattle.polygon_cut.proofs.Common.{face_at_number, origin_at, corner-next, start_kept, start_flipped, end_kept, end_flipped, start_corner_within, IsNumberOf, HasPlace, placed, rotation_system, darts_of, next_of, origin_of, face_of, start_corner_of, end_corner_of, dart_at_corner, after_steps, OrientedMesh, IsOrientedSurface, Rotations, rotations_of, IsRotationSystem, ◌≡◌, ◌≢◌, ℕ, zero, suc, ◌-◌, ◌<◌, Bool, true, false, not, List, [], ◌∷◌, ◌++◌, length, get_or, refl, ap, sym, ◌∙◌, subst, arith, Some, by_replacing, corner_after, face_at, next_corner, corners_from, apply, Homotopic, is_flipped, Move, Across, after_more, once_round, corners_apart}
use Rattle.halfedge_map.proofs.CornerLemmas.{corner_back}
use Rattle.halfedge_map.proofs.VertexLemmas.{at_start}

-- the direction in which darts go round a face
unfoldable pub dir : OrientedMesh → ℕ → Bool
dir s f = not (is_flipped s.signs f)

-- a dart ends one corner on from where it starts
end_is : (s : OrientedMesh) {f t d : ℕ} → IsNumberOf s.mesh f t d
    → end_corner_of s d ≡ next_corner (dir s f) (length (face_at s.mesh f)) (start_corner_of s d)
unfolding dir
end_is s {f} {t} {d} n = by (is_flipped s.signs f) refl
  where
    m : ℕ
    m = length (face_at s.mesh f)

    by : (b : Bool) → is_flipped s.signs f ≡ b → end_corner_of s d ≡ next_corner (not (is_flipped s.signs f)) m (start_corner_of s d)
    by false e = end_kept s f t d n e ∙ sym (ap (λ b. next_corner (not b) m (start_corner_of s d)) e
        ∙ ap (next_corner true m) (start_kept s f t d n e))
    by true e =
        end_flipped s f t d n e
        ∙ sym (ap (λ b. next_corner (not b) m (start_corner_of s d)) e ∙ ap (next_corner false m) (start_flipped s f t d n e)
        ∙ corner_back true m t n.place)

-- where the darts round a face start
pub record OnRound (s : OrientedMesh) (d k : ℕ) : Type 0 where
  pub within : after_steps (next_of s) k d < darts_of s
  pub face : face_of s (after_steps (next_of s) k d) ≡ face_of s d
  pub corner : start_corner_of s (after_steps (next_of s) k d) ≡ corner_after (dir s (face_of s d)) (length (face_at s.mesh (face_of s d)))
      (start_corner_of s d) k

pub on_round : {s : OrientedMesh} → IsOrientedSurface s → (k d : ℕ) → d < darts_of s → OnRound s d k
on_round o zero d l = record { within = l; face = refl; corner = refl }
on_round {s} o (suc k) d l =
    let maps : Rotations = rotations_of s in
    let r : IsRotationSystem maps = rotation_system s o in
    let before : OnRound s d k = on_round o k d l in
    let x : ℕ = after_steps (next_of s) k d in
    let place : HasPlace s.mesh x = placed s.mesh x before.within in
    let f_is : face_of s x ≡ place.face = face_at_number s place.face place.place x place.numbered in
    let face_on : face_of s (next_of s x) ≡ face_of s x =
    sym ((r.faces x (next_of s x) before.within (r.next_within x before.within)).1 (record { steps = 1; leads = refl })) in
    let step : start_corner_of s (next_of s x) ≡ next_corner (dir s (face_of s x)) (length (face_at s.mesh (face_of s x)))
    (start_corner_of s x) =
    corner-next s x before.within ∙ end_is s place.numbered
    ∙ ap (λ f. next_corner (dir s f) (length (face_at s.mesh f)) (start_corner_of s x)) (sym f_is) in
    record {
      within = r.next_within x before.within;
      face = face_on ∙ before.face;
      corner = grind (arith, after_more);
    }

pub record AtFace (s : OrientedMesh) (d : ℕ) : Type 0 where
  pub in_list : face_of s d < length s.mesh.faces
  pub in_face : start_corner_of s d < length (face_at s.mesh (face_of s d))
  pub vertex : origin_of s d ≡ get_or (face_at s.mesh (face_of s d)) (start_corner_of s d) 0

pub at_face : (s : OrientedMesh) (d : ℕ) → d < darts_of s → AtFace s d
at_face s d l =
    let place : HasPlace s.mesh d = placed s.mesh d l in
    let f_is : place.face ≡ face_of s d = sym (face_at_number s place.face place.place d place.numbered) in
    record {
      in_list = subst (λ f. f < length s.mesh.faces) f_is place.numbered.face;
      in_face = subst (λ f. start_corner_of s d < length (face_at s.mesh f)) f_is
          (start_corner_within s place.face place.place d place.numbered);
      vertex = subst (λ f. origin_of s d ≡ get_or (face_at s.mesh f) (start_corner_of s d) 0) f_is
          (origin_at s place.face place.place d place.numbered);
    }

-- round the whole face one comes back to the dart, and not before
pub comes_round : {s : OrientedMesh} → IsOrientedSurface s → (d : ℕ) → d < darts_of s
    → after_steps (next_of s) (length (face_at s.mesh (face_of s d))) d ≡ d
comes_round {s} o d l =
    let m : ℕ = length (face_at s.mesh (face_of s d)) in
    let end : OnRound s d m = on_round o m d l in
    let here : AtFace s d = at_face s d l in
    let x : ℕ = after_steps (next_of s) m d in
    let corner : start_corner_of s x ≡ start_corner_of s d =
    end.corner ∙ once_round (dir s (face_of s d)) m (start_corner_of s d) here.in_face in
    sym (at_start s x end.within) ∙ ap (λ f. dart_at_corner s f (start_corner_of s x)) end.face ∙ ap (dart_at_corner s (face_of s d)) corner
    ∙ at_start s d l

pub not_before : {s : OrientedMesh} → IsOrientedSurface s → (d k : ℕ) → d < darts_of s → 0 < k → k < length (face_at s.mesh (face_of s d))
    → after_steps (next_of s) k d ≢ d
not_before {s} o d k l some few same =
    let m : ℕ = length (face_at s.mesh (face_of s d)) in
    let on : OnRound s d k = on_round o k d l in
    corners_apart (dir s (face_of s d)) m (start_corner_of s d) 0 k (at_face s d l).in_face some (omega arith) (omega arith)
    (sym (sym on.corner ∙ ap (start_corner_of s) same))

-- the vertices behind the origin of a dart, k darts on
abbrev pub vertices_on : OrientedMesh → ℕ → ℕ → List ℕ
vertices_on s zero d = []
vertices_on s (suc k) d = origin_of s (next_of s d) ∷ vertices_on s k (next_of s d)

pub corners_read : {s : OrientedMesh} → IsOrientedSurface s → (k d : ℕ) → d < darts_of s
    → corners_from (face_at s.mesh (face_of s d)) (dir s (face_of s d)) (start_corner_of s d) k ≡ origin_of s d ∷ vertices_on s k d
corners_read {s} o zero d l = ap (λ x. x ∷ []) (sym (at_face s d l).vertex)
corners_read {s} o (suc k) d l =
    let on : OnRound s d 1 = on_round o 1 d l in
    let rest : corners_from (face_at s.mesh (face_of s (next_of s d))) (dir s (face_of s (next_of s d))) (start_corner_of s (next_of s d)) k
    ≡ origin_of s (next_of s d) ∷ vertices_on s k (next_of s d) = corners_read o k (next_of s d) on.within in
    let moved : corners_from (face_at s.mesh (face_of s d)) (dir s (face_of s d))
    (next_corner (dir s (face_of s d)) (length (face_at s.mesh (face_of s d))) (start_corner_of s d)) k
    ≡ corners_from (face_at s.mesh (face_of s (next_of s d))) (dir s (face_of s (next_of s d))) (start_corner_of s (next_of s d)) k =
    ap (λ c. corners_from (face_at s.mesh (face_of s d)) (dir s (face_of s d)) c k) (sym on.corner)
    ∙ ap (λ f. corners_from (face_at s.mesh f) (dir s f) (start_corner_of s (next_of s d)) k) (sym on.face) in
    ap (λ x. x ∷ corners_from (face_at s.mesh (face_of s d)) (dir s (face_of s d))
    (next_corner (dir s (face_of s d)) (length (face_at s.mesh (face_of s d))) (start_corner_of s d)) k) (sym (at_face s d l).vertex)
    ∙ ap (λ (w : List ℕ). origin_of s d ∷ w) (moved ∙ rest)

-- one move leads from the origin round the whole face
pub boundary : {s : OrientedMesh} → IsOrientedSurface s → (d : ℕ) → d < darts_of s
    → Homotopic s.mesh (origin_of s d ∷ []) (origin_of s d ∷ vertices_on s (length (face_at s.mesh (face_of s d))) d)
boundary {s} o d l =
    let here : AtFace s d = at_face s d l in
    let f : ℕ = face_of s d in
    let m : ℕ = length (face_at s.mesh f) in
    let move : Move = Across 0 (record { 0 = f }) (start_corner_of s d) (not (dir s f)) 0 in
    let twice : not (not (dir s f)) ≡ dir s f = twice_not (dir s f) in
    let none_taken : m ≡ m - 0 = omega arith in
    let one : apply s.mesh (origin_of s d ∷ []) move ≡ Some (origin_of s d ∷ vertices_on s m d) =
    (by_replacing s.mesh (origin_of s d ∷ []) (origin_of s d ∷ vertices_on s m d) move (omega arith)).1 (record {
      before = [];
      part = origin_of s d ∷ [];
      other = origin_of s d ∷ vertices_on s m d;
      after = [];
      walk_is = refl;
      next_is = ap (λ (w : List ℕ). origin_of s d ∷ w) (sym (append_none (vertices_on s m d)));
      place = refl;
      replaces = (
        here.in_list,
        here.in_face,
        omega arith,
        ap (λ x. x ∷ []) here.vertex,
        sym (corners_read o m d l) ∙ ap (λ b. corners_from (face_at s.mesh f) b (start_corner_of s d) m) (sym twice)
            ∙ ap (corners_from (face_at s.mesh f) (not (not (dir s f))) (start_corner_of s d)) none_taken,
      );
    }) in
    (move ∷ [], rw one refl)
  where
    twice_not : (b : Bool) → not (not b) ≡ b
    twice_not true = refl
    twice_not false = refl

    append_none : (xs : List ℕ) → xs ++ [] ≡ xs
    append_none [] = refl
    append_none (x ∷ xs) = ap (λ (w : List ℕ). x ∷ w) (append_none xs)
