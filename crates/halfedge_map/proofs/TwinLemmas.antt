-- The two darts of an edge.
use Rattle.halfedge_map.proofs.Common.{darts_of, side_of, origin_of, target_of, twin_of, OrientedMesh, IsOrientedSurface, ◌≡◌, ◌≢◌, ◌⊎◌, inl, inr, ℕ, ◌<◌, Bool, true, false, not, cond, eqb, ◌&&◌, length, get_or, refl, ap, sym, ◌∙◌, subst, arith, both_ways, and_parts, and_from, eq-eqb, nat_tests, get_or_default, list_any_at, unwrap_or, face_side, length-all_sides, IsSide, side_number, FaceSide, IsFace, face_at, all_sides, next_corner, joins, is_edge, is_flipped, ArePartners, RunOppositely, Side}
use Rattle.halfedge_map.proofs.NumberLemmas.{IsNumberOf, HasPlace, placed, number_below, HasSide, side_with_number}
use Rattle.halfedge_map.proofs.ListLemmas.{IsFirstBelow, first_passes, HasOther, other_left}
use Rattle.halfedge_map.proofs.DartLemmas.{side_at, numbered, origin_under, target_under}

-- the test of joining, read
abbrev pub Joins : ℕ → ℕ → FaceSide → Type 0
Joins u v side = ((side.tail ≡ u) × (side.head ≡ v)) ⊎ ((side.tail ≡ v) × (side.head ≡ u))

pub joins_read : (u v : ℕ) (side : FaceSide) → joins u v side ≡ true → Joins u v side
joins_read u v side h = grind (arith, nat_tests)

pub joins_from : (u v : ℕ) (side : FaceSide) → Joins u v side → joins u v side ≡ true
joins_from u v side h = grind (arith, nat_tests)

pub joins_own : (side : FaceSide) → joins side.tail side.head side ≡ true
joins_own side = joins_from side.tail side.head side (inl (refl, refl))

-- sides that join the same two vertices
pub joins_back : (a b : FaceSide) → joins a.tail a.head b ≡ true → joins b.tail b.head a ≡ true
joins_back a b h = grind (arith, joins_read, joins_from)

pub joins_both : (u v : ℕ) (a b : FaceSide) → joins u v a ≡ true → joins u v b ≡ true → joins a.tail a.head b ≡ true
joins_both u v a b h k = grind (arith, joins_read, joins_from)

-- whether two darts join the same two vertices
unfoldable pub along : OrientedMesh → ℕ → ℕ → Bool
along s d e = joins (side_of s d).tail (side_of s d).head (side_of s e)

pub side_is : (s : OrientedMesh) (d : ℕ) (x : FaceSide) → d < darts_of s → get_or (all_sides s.mesh) d x ≡ side_of s d
unfolding side_of
side_is s d x l = get_or_default (all_sides s.mesh) d x _ (omega (arith, l, length-all_sides s.mesh))

-- the other dart of the edge of d, the only one
pub record IsTwin (s : OrientedMesh) (d e : ℕ) : Type 0 where
  pub within : e < darts_of s
  pub other : e ≢ d
  pub joined : along s d e ≡ true
  pub only : (k : ℕ) → k < darts_of s → along s d k ≡ true → k ≢ d → k ≡ e

pub two_darts : (s : OrientedMesh) → IsOrientedSurface s → (d : ℕ) → d < darts_of s → IsTwin s d (twin_of s d)
unfolding along twin_of is_edge
two_darts s h d l =
    let side : FaceSide = side_of s d in
    let p : FaceSide → Bool = joins side.tail side.head in
    let long : length (all_sides s.mesh) ≡ darts_of s = length-all_sides s.mesh in
    let here : p (get_or (all_sides s.mesh) d side) ≡ true = ap p (side_is s d side l) ∙ joins_own side in
    let edge : is_edge s.mesh side.tail side.head ≡ true = list_any_at p (all_sides s.mesh) d side (omega (arith, l, long)) here in
    let other : HasOther p (all_sides s.mesh) side d = other_left p (all_sides s.mesh) side d
    (h.closed.two_sides side.tail side.head edge) (omega (arith, l, long)) here in
    let o : ℕ = other.place in
    let o_in : o < darts_of s = omega (arith, other.within, long) in
    let test : ℕ → Bool = λ k. not (eqb k d) && p (side_of s k) in
    let o_passes : test o ≡ true = grind (arith, and_from, side_is) in
    let found : IsFirstBelow test (darts_of s) = first_passes test (darts_of s) o o_in o_passes in
    let t : ℕ = found.number in
    let is : twin_of s d ≡ t = ap (λ r. unwrap_or r d) found.is in
    let parts = and_parts (not (eqb t d)) (p (side_of s t)) found.passes in
    let ne : t ≢ d = λ e. both_ways (eqb t d) (let f : not (eqb t d) ≡ true = parts.0 in grind (arith, nat_tests)) (eq-eqb t d e) in
    let only : (k : ℕ) → k < darts_of s → p (side_of s k) ≡ true → k ≢ d → k ≡ o =
    λ k k_in passes k_ne. other.only k (omega (arith, k_in, long)) (ap p (side_is s k side k_in) ∙ passes) k_ne in
    subst (IsTwin s d) (sym is) (record {
      within = found.within;
      other = ne;
      joined = parts.1;
      only = λ k k_in passes k_ne. only k k_in passes k_ne ∙ sym (only t found.within parts.1 ne);
    })

pub twin_within : (s : OrientedMesh) → IsOrientedSurface s → (d : ℕ) → d < darts_of s → twin_of s d < darts_of s
twin_within s h d l = (two_darts s h d l).within

pub twin_other : (s : OrientedMesh) → IsOrientedSurface s → (d : ℕ) → d < darts_of s → twin_of s d ≢ d
twin_other s h d l = (two_darts s h d l).other

pub twin_along : (s : OrientedMesh) → IsOrientedSurface s → (d : ℕ) → d < darts_of s → along s (twin_of s d) d ≡ true
unfolding along
twin_along s h d l = joins_back (side_of s d) (side_of s (twin_of s d)) (two_darts s h d l).joined

pub twin-twin : (s : OrientedMesh) → IsOrientedSurface s → (d : ℕ) → d < darts_of s → twin_of s (twin_of s d) ≡ d
twin-twin s h d l =
    let t : IsTwin s d (twin_of s d) = two_darts s h d l in
    sym ((two_darts s h (twin_of s d) t.within).only d l (twin_along s h d l) (λ e. t.other (sym e)))

-- a dart along the edge of d is d or its twin
pub along_edge : (s : OrientedMesh) → IsOrientedSurface s → (d e : ℕ) → d < darts_of s → e < darts_of s → along s d e ≡ true
    → (e ≡ d) ⊎ (e ≡ twin_of s d)
along_edge s h d e l k same = grind (arith, two_darts)

-- the sides of twins are partners
partners : (s : OrientedMesh) → IsOrientedSurface s → (side other : Side) → IsSide s.mesh side → IsSide s.mesh other
    → side_number s.mesh other ≡ twin_of s (side_number s.mesh side) → ArePartners s.mesh side other
unfolding along
partners s h side other in_mesh also is =
    let d : ℕ = side_number s.mesh side in
    let p : IsNumberOf s.mesh side.face.0 side.at d = numbered s side in_mesh in
    let q : IsNumberOf s.mesh other.face.0 other.at (twin_of s d) =
    subst (IsNumberOf s.mesh other.face.0 other.at) is (numbered s other also) in
    let twin : IsTwin s d (twin_of s d) = two_darts s h d (number_below s.mesh side.face.0 side.at d p) in
    let x : FaceSide = face_side side.face.0 (face_at s.mesh side.face.0) side.at in
    let y : FaceSide = face_side other.face.0 (face_at s.mesh other.face.0) other.at in
    let joined : joins x.tail x.head y ≡ true =
    ap (joins x.tail x.head) (sym (side_at s other.face.0 other.at (twin_of s d) q))
    ∙ ap (λ (z : FaceSide). joins z.tail z.head (side_of s (twin_of s d))) (sym (side_at s side.face.0 side.at d p)) ∙ twin.joined in
    record {
      first = in_mesh;
      second = also;
      different = λ same. twin.other (sym is ∙ ap (side_number s.mesh) (sym same));
      one_edge = elim (joins_read x.tail x.head y joined) [
        | inl same ↦ inl (sym same.0, sym same.1)
        | inr turned ↦ inr (sym turned.1, sym turned.0)
      ];
    }

-- twins run oppositely
pub origin-twin : (s : OrientedMesh) → IsOrientedSurface s → (d : ℕ) → d < darts_of s → origin_of s (twin_of s d) ≡ target_of s d
origin-twin s h d l =
    let p : HasSide s.mesh d = side_with_number s.mesh d l in
    let q : HasSide s.mesh (twin_of s d) = side_with_number s.mesh (twin_of s d) (twin_within s h d l) in
    let opposite : RunOppositely s.mesh s.signs p.side q.side = grind (arith, partners) in
    ap (origin_of s) (sym q.number) ∙ origin_under s q.side q.in_mesh ∙ sym opposite.ends ∙ sym (target_under s p.side p.in_mesh)
    ∙ ap (target_of s) p.number

pub target-twin : (s : OrientedMesh) → IsOrientedSurface s → (d : ℕ) → d < darts_of s → target_of s (twin_of s d) ≡ origin_of s d
target-twin s h d l = sym (origin-twin s h (twin_of s d) (twin_within s h d l)) ∙ ap (origin_of s) (twin-twin s h d l)

-- a dart joins two different vertices
ends_differ : (flipped : Bool) (a b : ℕ) → a ≢ b → cond flipped b a ≢ cond flipped a b
ends_differ true a b ne = λ e. ne (sym e)
ends_differ false a b ne = ne

pub no_loop : (s : OrientedMesh) → IsOrientedSurface s → (d : ℕ) → d < darts_of s → target_of s d ≢ origin_of s d
unfolding origin_of target_of
no_loop s h d l =
    let p : HasPlace s.mesh d = placed s.mesh d l in
    let ring = face_at s.mesh p.face in
    let is_face : IsFace s.mesh.count ring = h.faces.faces p.face _ p.numbered.face in
    let ne : get_or ring p.place 0 ≢ get_or ring (next_corner true (length ring) p.place) 0 = is_face.neighbours p.place p.numbered.place in
    let side : side_of s d ≡ face_side p.face ring p.place = side_at s p.face p.place d p.numbered in
    λ e. ends_differ (is_flipped s.signs p.face) (get_or ring p.place 0) (get_or ring (next_corner true (length ring) p.place) 0) ne
    (sym (ap (λ (x : FaceSide). cond (is_flipped s.signs x.face) x.head x.tail) side) ∙ sym e
    ∙ ap (λ (x : FaceSide). cond (is_flipped s.signs x.face) x.tail x.head) side)
