-- The rest of a face below a cotree edge weighs less than the edge, and all round the root face there is no more than all darts.
use Rattle.move_lifting.proofs.Common.{corner_back, face_at_number, origin_at, target_at, vertex_at, start_kept, start_flipped, end_kept, end_flipped, edge-twin, IsNumberOf, number_below, rotation_system, origin-twin, darts_of, twin_of, origin_of, target_of, edge_of, OrientedMesh, IsOrientedSurface, rotations_of, IsRotationSystem, IsDartFrom, load_of, dart_from, from_is, ◌≡◌, ◌≢◌, ◌⊎◌, inl, inr, ℕ, zero, suc, ◌+◌, ◌-◌, ◌<◌, ◌≤◌, Bool, true, false, not, List, [], ◌∷◌, ◌++◌, length, get_or, refl, ap, sym, ◌∙◌, subst, arith, append_assoc, Some, step_within, corner_after, corners_before, last_corner, meet, first_side, face_at, next_corner, corners_from, is_flipped, SplitView, IsSplit, below_edge, after_within, after_more, corners_apart}
use Rattle.move_lifting.proofs.CountLemmas.{sum_below}
use Rattle.move_lifting.proofs.LoadLemmas.{weight, weight_positive, weight_most, AreBeside, AreInFace, weights_fall, root_weights}
use Rattle.move_lifting.proofs.RoundLemmas.{corners_more}
use Rattle.move_lifting.proofs.WithinLemmas.{load-joined, darts_weigh}

-- the edge between two vertices is that of each dart with these ends
pub record HasTheseEnds (s : OrientedMesh) (x u v : ℕ) : Type 0 where
  pub within : x < darts_of s
  pub ends : ((origin_of s x ≡ u) × (target_of s x ≡ v)) ⊎ ((origin_of s x ≡ v) × (target_of s x ≡ u))

edge_between : (s : OrientedMesh) → IsOrientedSurface s → (u v x : ℕ) → HasTheseEnds s x u v → edge_of s (dart_from s u v) ≡ edge_of s x
edge_between s o u v x has = elim has.ends [
  | inl on ↦
      ap (edge_of s) (from_is s o u v x (record { within = has.within; starts = on.0; ends = origin-twin s o x has.within ∙ on.1 }))
  | inr back ↦
      let r : IsRotationSystem (rotations_of s) = rotation_system s o in
      ap (edge_of s) (from_is s o u v (twin_of s x) (record {
        within = r.twin_within x has.within;
        starts = origin-twin s o x has.within ∙ back.1;
        ends = ap (origin_of s) (r.twin_back x has.within) ∙ back.0;
      }))
      ∙ edge-twin s o x has.within
]

-- a side of a face goes between its two corners
pub side_ends : (s : OrientedMesh) (f t x : ℕ) → IsNumberOf s.mesh f t x
    → HasTheseEnds s x (vertex_at s f t) (vertex_at s f (next_corner true (length (face_at s.mesh f)) t))
side_ends s f t x n = record { within = number_below s.mesh f t x n; ends = by (is_flipped s.signs f) refl }
  where
    u : ℕ
    u = vertex_at s f t

    v : ℕ
    v = vertex_at s f (next_corner true (length (face_at s.mesh f)) t)

    by : (b : Bool) → is_flipped s.signs f ≡ b → ((origin_of s x ≡ u) × (target_of s x ≡ v)) ⊎ ((origin_of s x ≡ v) × (target_of s x ≡ u))
    by false e = inl (
      origin_at s f t x n ∙ ap (vertex_at s f) (start_kept s f t x n e),
      target_at s f t x n ∙ ap (vertex_at s f) (end_kept s f t x n e),
    )
    by true e = inr (
      origin_at s f t x n ∙ ap (vertex_at s f) (start_flipped s f t x n e),
      target_at s f t x n ∙ ap (vertex_at s f) (end_flipped s f t x n e),
    )

-- the side that a step round a face goes along
abbrev pub side_place : Bool → ℕ → ℕ → ℕ
side_place true m t = t
side_place false m t = next_corner false m t

side_in : (rising : Bool) (m t : ℕ) → t < m → side_place rising m t < m
side_in true m t l = l
side_in false m t l = step_within false m t l

numbered : (s : OrientedMesh) (f t : ℕ) → f < length s.mesh.faces → t < length (face_at s.mesh f)
    → IsNumberOf s.mesh f t (first_side s.mesh f + t)
numbered s f t l k = record { face = l; place = k; is = refl }

swapped : (s : OrientedMesh) (x u v : ℕ) → HasTheseEnds s x u v → HasTheseEnds s x v u
swapped s x u v has = record { within = has.within; ends = elim has.ends [ inl on ↦ inr (on.0, on.1) | inr back ↦ inl (back.0, back.1) ] }

pub step_edge : (s : OrientedMesh) → IsOrientedSurface s → (f : ℕ) (rising : Bool) (t : ℕ) → f < length s.mesh.faces
    → t < length (face_at s.mesh f)
    → edge_of s (dart_from s (vertex_at s f t) (vertex_at s f (next_corner rising (length (face_at s.mesh f)) t)))
    ≡ edge_of s (first_side s.mesh f + side_place rising (length (face_at s.mesh f)) t)
step_edge s o f true t l k = grind (arith, edge_between, first_side, side_ends, numbered)
step_edge s o f false t l k =
    let m : ℕ = length (face_at s.mesh f) in
    let p : ℕ = next_corner false m t in
    let x : ℕ = first_side s.mesh f + p in
    let back : next_corner true m p ≡ t = corner_back false m t k in
    let ends : HasTheseEnds s x (vertex_at s f p) (vertex_at s f t) =
    subst (λ (c : ℕ). HasTheseEnds s x (vertex_at s f p) (vertex_at s f c)) back
    (side_ends s f p x (numbered s f p l (step_within false m t k))) in
    edge_between s o (vertex_at s f t) (vertex_at s f p) x (swapped s x (vertex_at s f p) (vertex_at s f t) ends)

-- the load of a walk
pub pair_weight : (s : OrientedMesh) (split : SplitView) → IsSplit s split → ℕ → ℕ → ℕ
pair_weight s split t u v = weight s split t (edge_of s (dart_from s u v))

abbrev pub load : (s : OrientedMesh) (split : SplitView) → IsSplit s split → List ℕ → ℕ
load s split t walk = load_of (pair_weight s split t) walk

pub load-join : (s : OrientedMesh) (split : SplitView) (t : IsSplit s split) (front rest : List ℕ) (v : ℕ)
    → load s split t (front ++ v ∷ rest) ≡ load s split t (front ++ v ∷ []) + load s split t (v ∷ rest)
load-join s split t front rest v = load-joined (pair_weight s split t) front rest v

pub pair_positive : (s : OrientedMesh) (split : SplitView) (t : IsSplit s split) (u v : ℕ) → 0 < pair_weight s split t u v
unfolding pair_weight
pair_positive s split t u v = weight_positive s split t (edge_of s (dart_from s u v))

pub pair_most : (s : OrientedMesh) (split : SplitView) (t : IsSplit s split) (u v : ℕ) → 0 < darts_of s
    → pair_weight s split t u v ≤ darts_of s
unfolding pair_weight
pair_most s split t u v l = weight_most s split t (edge_of s (dart_from s u v)) l

pub load_long : (s : OrientedMesh) (split : SplitView) (t : IsSplit s split) (walk : List ℕ) → length walk ≤ load s split t walk + 1
load_long s split t walk = darts_weigh (pair_weight s split t) (pair_positive s split t) walk

-- where the side of a step stands among the corners
shift : Bool → ℕ
shift true = 0
shift false = 1

side-after : (rising : Bool) (m t j : ℕ) → side_place rising m (corner_after rising m t j) ≡ corner_after rising m t (j + shift rising)
unfolding shift
side-after true m t j = ap (corner_after true m t) (let e : j ≡ j + 0 = omega arith in e)
side-after false m t j = sym (after_more false m t j) ∙ ap (corner_after false m t) (let e : suc j ≡ j + 1 = omega arith in e)

shift_most : (rising : Bool) → shift rising ≤ 1
unfolding shift
shift_most true = omega arith
shift_most false = omega arith

-- the sides of a face are apart from each other, and those of the rest from the side of the step
rest_apart : (rising : Bool) (m c i j : ℕ) → c < m → i < j → j < m
    → side_place rising m (corner_after rising m c i) ≢ side_place rising m (corner_after rising m c j)
rest_apart rising m c i j b less few same = grind (arith, shift, shift_most, corners_apart, side-after)

rest_beside : (rising : Bool) (m c j : ℕ) → c < m → j < m - 1
    → side_place (not rising) m (corner_after (not rising) m c j) ≢ side_place rising m c
unfolding shift
rest_beside true m c j b few same =
    corners_apart false m c 0 (j + 1) b (omega arith) (omega arith) (omega arith) (sym same ∙ side-after false m c j)
rest_beside false m c j b few same =
    corners_apart true m c j (m - 1) b (omega arith) (omega arith) (omega arith) (same ∙ meet false m c 1 b (omega arith))

plus_same : (x y z : ℕ) → x + y ≡ x + z → y ≡ z
plus_same x y z e = omega arith

rest_sides : (s : OrientedMesh) (f c : ℕ) (rising : Bool) → f < length s.mesh.faces → c < length (face_at s.mesh f)
    → AreBeside s f (first_side s.mesh f + side_place rising (length (face_at s.mesh f)) c) (length (face_at s.mesh f) - 1)
    (λ j. first_side s.mesh f + side_place (not rising) (length (face_at s.mesh f))
    (corner_after (not rising) (length (face_at s.mesh f)) c j))
rest_sides s f c rising l b =
    let m : ℕ = length (face_at s.mesh f) in
    let back : Bool = not rising in
    let place : ℕ → ℕ = λ j. side_place back m (corner_after back m c j) in
    let number : (j : ℕ) → IsNumberOf s.mesh f (place j) (first_side s.mesh f + place j) =
    λ j. numbered s f (place j) l (side_in back m (corner_after back m c j) (after_within back m c j b)) in
    record {
      within = λ j h. number_below s.mesh f (place j) (first_side s.mesh f + place j) (number j);
      inside = λ j h. face_at_number s f (place j) (first_side s.mesh f + place j) (number j);
      beside = λ j h same. rest_beside rising m c j b h (plus_same (first_side s.mesh f) (place j) (side_place rising m c) same);
      apart = λ i j less h same. rest_apart back m c i j b less (omega arith) (plus_same (first_side s.mesh f) (place i) (place j) same);
    }

module _ {s : OrientedMesh} {split : SplitView} (o : IsOrientedSurface s) (t : IsSplit s split) where
  -- the load of steps round a face
  pub round_load : (f : ℕ) (rising : Bool) (c k : ℕ) → f < length s.mesh.faces → c < length (face_at s.mesh f)
      → load s split t (corners_from (face_at s.mesh f) rising c k)
      ≡ sum_below
      (λ j. weight s split t (edge_of s (first_side s.mesh f + side_place rising (length (face_at s.mesh f))
      (corner_after rising (length (face_at s.mesh f)) c j)))) k
  unfolding pair_weight
  round_load f rising c zero l b = refl
  round_load f rising c (suc k) l b =
      let ring : List ℕ = face_at s.mesh f in
      let m : ℕ = length ring in
      let at : ℕ = corner_after rising m c k in
      let u : ℕ = get_or ring at 0 in
      let v : ℕ = get_or ring (next_corner rising m at) 0 in
      let front : List ℕ = corners_before ring rising c k in
      let before : load s split t (corners_from ring rising c k)
      ≡ sum_below (λ j. weight s split t (edge_of s (first_side s.mesh f + side_place rising m (corner_after rising m c j)))) k =
      round_load f rising c k l b in
      let read : corners_from ring rising c k ≡ front ++ u ∷ [] = last_corner ring rising c k in
      let end : get_or ring (corner_after rising m c (suc k)) 0 ≡ v = ap (λ (x : ℕ). get_or ring x 0) (after_more rising m c k) in
      let whole : corners_from ring rising c (suc k) ≡ front ++ u ∷ v ∷ [] =
      corners_more ring rising c k ∙ ap (λ (x : ℕ). corners_from ring rising c k ++ x ∷ []) end ∙ ap (λ (w : List ℕ). w ++ v ∷ []) read
      ∙ append_assoc front (u ∷ []) (v ∷ []) in
      let step : pair_weight s split t u v ≡ weight s split t (edge_of s (first_side s.mesh f + side_place rising m at)) =
      ap (weight s split t) (step_edge s o f rising at l (after_within rising m c k b)) in
      let joined : load s split t (front ++ u ∷ v ∷ []) ≡ load s split t (front ++ u ∷ []) + (pair_weight s split t u v + 0) =
      load-join s split t front (v ∷ []) u in
      let shorter : load s split t (front ++ u ∷ []) ≡ load s split t (corners_from ring rising c k) = ap (load s split t) (sym read) in
      ap (load s split t) whole ∙ omega (arith, joined, shorter, before, step)

  -- the rest of the face below an edge weighs less than a step along the edge
  pub rest_falls : (f c : ℕ) (rising : Bool) (u v d : ℕ) → f < length s.mesh.faces → c < length (face_at s.mesh f) → vertex_at s f c ≡ u
      → vertex_at s f (next_corner rising (length (face_at s.mesh f)) c) ≡ v
      → IsDartFrom (rotations_of s) u v d → below_edge split (edge_of s d) ≡ Some f
      → load s split t (corners_from (face_at s.mesh f) (not rising) c (length (face_at s.mesh f) - 1)) + 1 ≤ pair_weight s split t u v
  unfolding pair_weight
  rest_falls f c rising u v d l b starts ends from under =
      let m : ℕ = length (face_at s.mesh f) in
      let h : ℕ = first_side s.mesh f + side_place rising m c in
      let n : IsNumberOf s.mesh f (side_place rising m c) h = numbered s f (side_place rising m c) l (side_in rising m c b) in
      let h_edge : edge_of s (dart_from s u v) ≡ edge_of s h =
      subst (λ (x : ℕ). edge_of s (dart_from s x v) ≡ edge_of s h) starts
      (subst (λ (x : ℕ). edge_of s (dart_from s (vertex_at s f c) x) ≡ edge_of s h) ends (step_edge s o f rising c l b)) in
      let d_edge : edge_of s (dart_from s u v) ≡ edge_of s d = ap (edge_of s) (from_is s o u v d from) in
      let below_h : below_edge split (edge_of s h) ≡ Some f = ap (below_edge split) (sym h_edge ∙ d_edge)
      ∙ under in
      let fall = weights_fall o t f h (m - 1) (λ j. first_side s.mesh f + side_place (not rising) m (corner_after (not rising) m c j))
      (number_below s.mesh f (side_place rising m c) h n) (face_at_number s f (side_place rising m c) h n) below_h
      (rest_sides s f c rising l b) in
      omega (arith, fall, round_load f (not rising) c (m - 1) l b, ap (weight s split t) h_edge)

  -- all round the root face
  pub root_round : (f c : ℕ) (rising : Bool) → f ≡ split.root_face → f < length s.mesh.faces → c < length (face_at s.mesh f)
      → load s split t (corners_from (face_at s.mesh f) rising c (length (face_at s.mesh f))) ≤ darts_of s
  root_round f c rising root l b =
      let m : ℕ = length (face_at s.mesh f) in
      let place : ℕ → ℕ = λ j. side_place rising m (corner_after rising m c j) in
      let number : (j : ℕ) → IsNumberOf s.mesh f (place j) (first_side s.mesh f + place j) =
      λ j. numbered s f (place j) l (side_in rising m (corner_after rising m c j) (after_within rising m c j b)) in
      let sides : AreInFace s f m (λ j. first_side s.mesh f + place j) = record {
        within = λ j h. number_below s.mesh f (place j) (first_side s.mesh f + place j) (number j);
        inside = λ j h. face_at_number s f (place j) (first_side s.mesh f + place j) (number j);
        apart = λ i j less h same. rest_apart rising m c i j b less h (plus_same (first_side s.mesh f) (place i) (place j) same);
      } in
      omega (
        arith,
        round_load f rising c m l b,
        root_weights o t f m (λ j. first_side s.mesh f + place j) root sides,
      )
