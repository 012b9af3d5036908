-- Darts start at one vertex exactly where they are reached from one another round it: the link condition, in terms of darts.
use Rattle.halfedge_map.proofs.Common.{darts_of, side_of, face_of, origin_of, target_of, next_of, twin_of, start_corner_of, end_corner_of, dart_at_corner, StartsAtCorner, IsReached, OrientedMesh, IsOrientedSurface, arith, ◌≡◌, ◌⊎◌, inl, inr, ℕ, ◌<◌, true, eqb, List, [], ◌∷◌, length, get_or, refl, ap, sym, ◌∙◌, subst, cases_Bool, eqb-true, common_steps, get_or_default, Any-from_list_any, list_any, face_side, IsSide, side_number, FaceSide, face_at, next_corner, joins, is_used, is_flipped, ArePartners, IsCornerAt, IsCornerOfSide, IsStepAround, IsPath, Side}
use Rattle.halfedge_map.proofs.OrbitLemmas.{IsPermutationBelow, reached_refl, reached_step, reached_trans, reached_back}
use Rattle.halfedge_map.proofs.NumberLemmas.{IsNumberOf, HasPlace, placed, number_below}
use Rattle.halfedge_map.proofs.DartLemmas.{corners, vertex_at, side_at, face_at_number, dart_starts, one_face, one_place, origin_at}
use Rattle.halfedge_map.proofs.DartLemmas.{target_at, next_within, next_injective, origin-next, corner_of_start, corner_of_end}
use Rattle.halfedge_map.proofs.DartLemmas.{start_kept, start_flipped, end_kept, end_flipped, start_corner_within, numbered}
use Rattle.halfedge_map.proofs.TwinLemmas.{along, two_darts, twin_within, twin-twin, origin-twin, target-twin, no_loop, joins_from}

-- the dart that follows round the vertex
abbrev pub turned : OrientedMesh → ℕ → ℕ
turned s d = next_of s (twin_of s d)

pub turns_permute : (s : OrientedMesh) → IsOrientedSurface s → IsPermutationBelow (darts_of s) (turned s)
turns_permute s h =
    record {
      within = λ d l. next_within s (twin_of s d) (twin_within s h d l);
      injective = λ d e l k same.
          let twins : twin_of s d ≡ twin_of s e = next_injective s (twin_of s d) (twin_of s e) (twin_within s h d l)
          (twin_within s h e k) same in
          sym (twin-twin s h d l) ∙ ap (twin_of s) twins ∙ twin-twin s h e k;
    }

pub origin-turned : (s : OrientedMesh) → IsOrientedSurface s → (d : ℕ) → d < darts_of s → origin_of s (turned s d) ≡ origin_of s d
origin-turned s h d l = origin-next s (twin_of s d) (twin_within s h d l) ∙ target-twin s h d l

-- the dart that starts at a corner, which is named by a side
abbrev pub dart_of : OrientedMesh → Side → ℕ
dart_of s corner = dart_at_corner s corner.face.0 corner.at

-- the corner of a side at a vertex is where its dart starts, or where it ends
corner_cases : (s : OrientedMesh) (v : ℕ) (side corner : Side) → IsSide s.mesh side → IsCornerOfSide s.mesh v side corner
    → ((dart_of s corner ≡ side_number s.mesh side) × (origin_of s (side_number s.mesh side) ≡ v))
    ⊎ ((dart_of s corner ≡ next_of s (side_number s.mesh side)) × (target_of s (side_number s.mesh side) ≡ v))
corner_cases s v side corner h at =
    let f : ℕ = side.face.0 in
    let t : ℕ = side.at in
    let d : ℕ = side_number s.mesh side in
    let n : IsNumberOf s.mesh f t d = numbered s side h in
    elim at [
      | inl tail ↦
          (let here : dart_of s corner ≡ dart_at_corner s f t = ap (dart_of s) tail.1 in
          elim (cases_Bool (is_flipped s.signs f)) [
            | inl flips ↦ inr (
              here ∙ ap (dart_at_corner s f) (sym (end_flipped s f t d n flips)) ∙ corner_of_end s f t d n,
              target_at s f t d n ∙ ap (vertex_at s f) (end_flipped s f t d n flips) ∙ tail.0,
            )
            | inr kept ↦ inl (
              here ∙ ap (dart_at_corner s f) (sym (start_kept s f t d n kept)) ∙ corner_of_start s f t d n,
              origin_at s f t d n ∙ ap (vertex_at s f) (start_kept s f t d n kept) ∙ tail.0,
            )
          ])
      | inr head ↦
          (let here : dart_of s corner ≡ dart_at_corner s f (next_corner true (corners s f) t) = ap (dart_of s) head.1 in
          elim (cases_Bool (is_flipped s.signs f)) [
            | inl flips ↦ inl (
              here ∙ ap (dart_at_corner s f) (sym (start_flipped s f t d n flips)) ∙ corner_of_start s f t d n,
              origin_at s f t d n ∙ ap (vertex_at s f) (start_flipped s f t d n flips) ∙ head.0,
            )
            | inr kept ↦ inr (
              here ∙ ap (dart_at_corner s f) (sym (end_kept s f t d n kept)) ∙ corner_of_end s f t d n,
              target_at s f t d n ∙ ap (vertex_at s f) (end_kept s f t d n kept) ∙ head.0,
            )
          ])
    ]

-- partners have twins for darts
pub partner_is_twin : (s : OrientedMesh) → IsOrientedSurface s → (side partner : Side) → ArePartners s.mesh side partner
    → side_number s.mesh partner ≡ twin_of s (side_number s.mesh side)
unfolding along
partner_is_twin s h side partner are =
    let d : ℕ = side_number s.mesh side in
    let e : ℕ = side_number s.mesh partner in
    let p : IsNumberOf s.mesh side.face.0 side.at d = numbered s side are.first in
    let q : IsNumberOf s.mesh partner.face.0 partner.at e = numbered s partner are.second in
    let a : side_of s d ≡ face_side side.face.0 (face_at s.mesh side.face.0) side.at = side_at s side.face.0 side.at d p in
    let b : side_of s e ≡ face_side partner.face.0 (face_at s.mesh partner.face.0) partner.at = side_at s partner.face.0 partner.at e q in
    let x : FaceSide = face_side side.face.0 (face_at s.mesh side.face.0) side.at in
    let y : FaceSide = face_side partner.face.0 (face_at s.mesh partner.face.0) partner.at in
    let joined : joins x.tail x.head y ≡ true = elim are.one_edge [
      | inl same ↦ joins_from x.tail x.head y (inl (sym same.0, sym same.1))
      | inr opposite ↦ joins_from x.tail x.head y (inr (sym opposite.1, sym opposite.0))
    ] in
    let together : along s d e ≡ true = ap (λ (z : FaceSide). joins z.tail z.head (side_of s e)) a ∙ ap (joins x.tail x.head) b ∙ joined in
    (two_darts s h d (number_below s.mesh side.face.0 side.at d p)).only e (number_below s.mesh partner.face.0 partner.at e q) together
    (λ is.
    let q_d : IsNumberOf s.mesh partner.face.0 partner.at d = subst (IsNumberOf s.mesh partner.face.0 partner.at) is q in
    let faces : side.face.0 ≡ partner.face.0 = one_face s side.face.0 side.at partner.face.0 partner.at d p q_d in
    let places : side.at ≡ partner.at = one_place s side.face.0 side.at partner.face.0 partner.at d p q_d in
    are.different (ap (λ f. let x : Side = record { face = record { 0 = f }; at = side.at } in x) faces
    ∙ ap (λ t. let x : Side = record { face = record { 0 = partner.face.0 }; at = t } in x) places))

-- a step round the vertex is a turn of darts, on or back
pub record IsTurn (s : OrientedMesh) (d e : ℕ) : Type 0 where
  pub first : d < darts_of s
  pub second : e < darts_of s
  pub way : (e ≡ turned s d) ⊎ (d ≡ turned s e)

step_is_turn : (s : OrientedMesh) → IsOrientedSurface s → (v : ℕ) (corner other : Side) → IsStepAround s.mesh v corner other
    → IsTurn s (dart_of s corner) (dart_of s other)
step_is_turn s h v corner other step =
    let d : ℕ = side_number s.mesh step.side in
    let e : ℕ = side_number s.mesh step.partner in
    let l : d < darts_of s = number_below s.mesh step.side.face.0 step.side.at d (numbered s step.side step.partners.first) in
    let k : e < darts_of s = number_below s.mesh step.partner.face.0 step.partner.at e (numbered s step.partner step.partners.second) in
    let twin : e ≡ twin_of s d = partner_is_twin s h step.side step.partner step.partners in
    elim (corner_cases s v step.side corner step.partners.first step.from) [
      | inl starts ↦ elim (corner_cases s v step.partner other step.partners.second step.to) [
        | inl also ↦ absurd (no_loop s h d l (sym (origin-twin s h d l) ∙ ap (origin_of s) (sym twin) ∙ also.1 ∙ sym starts.1))
        | inr ends ↦ record {
          first = subst (λ x. x < darts_of s) (sym starts.0) l;
          second = subst (λ x. x < darts_of s) (sym ends.0) (next_within s e k);
          way = inl (ends.0 ∙ ap (next_of s) (twin ∙ ap (twin_of s) (sym starts.0)));
        }
      ]
      | inr ends ↦ elim (corner_cases s v step.partner other step.partners.second step.to) [
        | inl starts ↦ record {
          first = subst (λ x. x < darts_of s) (sym ends.0) (next_within s d l);
          second = subst (λ x. x < darts_of s) (sym starts.0) k;
          way = inr (ends.0 ∙ ap (next_of s) (sym (twin-twin s h d l) ∙ ap (twin_of s) (sym twin ∙ sym starts.0)));
        }
        | inr also ↦ absurd (no_loop s h d l (ends.1 ∙ sym also.1 ∙ ap (target_of s) twin ∙ target-twin s h d l))
      ]
    ]

turn_reached : (s : OrientedMesh) → IsOrientedSurface s → (d e : ℕ) → IsTurn s d e → IsReached (turned s) d e
turn_reached s h d e turn =
    elim turn.way [
      | inl on ↦ subst (IsReached (turned s) d) (sym on) (reached_step (turned s) d)
      | inr back ↦ reached_back (darts_of s) (turned s) (turns_permute s h) e d turn.second
          (subst (IsReached (turned s) e) (sym back) (reached_step (turned s) e))
    ]

path_reached : (s : OrientedMesh) → IsOrientedSurface s → (v : ℕ) (corner : Side) (path : List Side) (other : Side)
    → IsPath (IsStepAround s.mesh v) corner path other → IsReached (turned s) (dart_of s corner) (dart_of s other)
path_reached s h v corner [] other is = grind (arith, turned, reached_refl)
path_reached s h v corner (z ∷ path) other steps =
    reached_trans (turned s) (dart_of s corner) (dart_of s z) (dart_of s other)
    (turn_reached s h (dart_of s corner) (dart_of s z) (step_is_turn s h v corner z steps.0))
    (path_reached s h v z path other steps.1)

-- the corner where a dart starts
record StartsAt (s : OrientedMesh) (v d : ℕ) : Type 0 where
  corner : Side
  is_at : IsCornerAt s.mesh v corner
  dart : dart_of s corner ≡ d
  used : is_used s.mesh v ≡ true

used_at : (s : OrientedMesh) (f c v : ℕ) → f < length s.mesh.faces → c < corners s f → vertex_at s f c ≡ v → is_used s.mesh v ≡ true
unfolding is_used
used_at s f c v l k e = grind (arith, common_steps)

starts_at : (s : OrientedMesh) (v d : ℕ) → d < darts_of s → origin_of s d ≡ v → StartsAt s v d
starts_at s v d l e =
    let p : HasPlace s.mesh d = placed s.mesh d l in
    let f : ℕ = p.face in
    let c : ℕ = start_corner_of s d in
    let c_in : c < corners s f = start_corner_within s f p.place d p.numbered in
    let vertex : vertex_at s f c ≡ v = sym (origin_at s f p.place d p.numbered) ∙ e in
    record {
      corner = record { face = record { 0 = f }; at = c };
      is_at = record { side = record { face = p.numbered.face; place = c_in }; vertex = vertex };
      dart = corner_of_start s f p.place d p.numbered;
      used = used_at s f c v p.numbered.face c_in vertex;
    }

pub origin_used : (s : OrientedMesh) (d : ℕ) → d < darts_of s → is_used s.mesh (origin_of s d) ≡ true
origin_used s d l = (starts_at s (origin_of s d) d l refl).used

pub vertex_reached : (s : OrientedMesh) → IsOrientedSurface s → (d e : ℕ) → d < darts_of s → e < darts_of s
    → origin_of s d ≡ origin_of s e → IsReached (turned s) d e
vertex_reached s h d e l k same =
    let v : ℕ = origin_of s e in
    let a : StartsAt s v d = starts_at s v d l same in
    let b : StartsAt s v e = starts_at s v e k refl in
    let way = h.closed.one_ring v a.used a.corner b.corner a.is_at b.is_at in
    subst (IsReached (turned s) d) b.dart
    (subst (λ x. IsReached (turned s) x (dart_of s b.corner)) a.dart (path_reached s h v a.corner way.0 b.corner way.1))

pub vertex_has_dart : (s : OrientedMesh) (v : ℕ) → is_used s.mesh v ≡ true → (d : ℕ) × (d < darts_of s) × (origin_of s d ≡ v)
unfolding is_used
vertex_has_dart s v used =
    let some_face = Any-from_list_any (λ (face : List ℕ). list_any (λ corner. eqb corner v) face) s.mesh.faces used in
    let f : ℕ = some_face.0 in
    let ring : face_at s.mesh f ≡ some_face.1 = get_or_default s.mesh.faces f [] some_face.1 some_face.2 ∙ some_face.3 in
    let some_corner = Any-from_list_any (λ corner. eqb corner v) some_face.1 some_face.4 in
    let c : ℕ = some_corner.0 in
    let c_in : c < corners s f = subst (λ (r : List ℕ). c < length r) (sym ring) some_corner.2 in
    let vertex : vertex_at s f c ≡ v =
    ap (λ (r : List ℕ). get_or r c 0) ring ∙ get_or_default some_face.1 c 0 some_corner.1 some_corner.2 ∙ some_corner.3
    ∙ eqb-true some_corner.1 v some_corner.4 in
    let dart : StartsAtCorner s f c (dart_at_corner s f c) = dart_starts s f c some_face.2 c_in in
    (dart_at_corner s f c, dart.within, dart.origin ∙ vertex)

-- what follows the corners of a dart
pub at_start : (s : OrientedMesh) (d : ℕ) → d < darts_of s → dart_at_corner s (face_of s d) (start_corner_of s d) ≡ d
at_start s d l =
    let p : HasPlace s.mesh d = placed s.mesh d l in
    ap (λ f. dart_at_corner s f (start_corner_of s d)) (face_at_number s p.face p.place d p.numbered)
    ∙ corner_of_start s p.face p.place d p.numbered

pub at_end : (s : OrientedMesh) (d : ℕ) → d < darts_of s → dart_at_corner s (face_of s d) (end_corner_of s d) ≡ next_of s d
at_end s d l =
    let p : HasPlace s.mesh d = placed s.mesh d l in
    ap (λ f. dart_at_corner s f (end_corner_of s d)) (face_at_number s p.face p.place d p.numbered)
    ∙ corner_of_end s p.face p.place d p.numbered
