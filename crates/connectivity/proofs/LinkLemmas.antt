-- Links of vertices, as the corners are gone through by their numbers.
use Rattle.connectivity.proofs.Common.{AreLeastMembers, EachVertexHasOneRing, IsLeastPinch, with_ring, IsLeastCorner, HasTwoLeast, IsTrueLink, link_at, AreLinksUpTo, AreLinks, IsFirstPinched, IsCornerStep, AreRings, Link, NoRing, OneRing, Pinched, ◌≡◌, ◌⊎◌, inl, inr, ℕ, ◌+◌, ◌<◌, List, length, get_or, set, refl, ap, sym, ◌∙◌, subst, arith, cases_lt, cases_eq, length-set, get_or-set_same, get_or-set_other, Option, Some, None, IfSome, IfNone, MatchOption, length-all_sides, IsWholeSide, whole_side, IsSide, side_number, tail_of, side_name, FaceList, FaceSide, IsFaceList, all_sides, total_sides, AreJoined, IsCornerAt, HasOneRing, Side, VertexName}
use Rattle.connectivity.proofs.CornerLemmas.{number_below, number_once, corner_vertex, corner_used, one_ring_from_same, same_from_one_ring}
use Rattle.connectivity.proofs.EdgeLemmas.{used_below}
use Rattle.connectivity.proofs.Joining.{joined_keep}

-- the same least corners, the same link
link_kept : (mesh : FaceList) (rings : List ℕ) (n m v : ℕ) (link : Link)
    → ((c : Side) → IsLeastCorner mesh rings n v c → IsLeastCorner mesh rings m v c)
    → ((c : Side) → IsLeastCorner mesh rings m v c → IsLeastCorner mesh rings n v c) → IsTrueLink mesh rings n v link
    → IsTrueLink mesh rings m v link
link_kept mesh rings n m v NoRing more fewer h = λ c is. h c (fewer c is)
link_kept mesh rings n m v OneRing more fewer h = record
    { corner = h.corner; is = more h.corner h.is; only = λ c is. h.only c (fewer c is) }
link_kept mesh rings n m v Pinched more fewer h = record {
  first = h.first;
  second = h.second;
  is_first = more h.first h.is_first;
  is_second = more h.second h.is_second;
  different = h.different;
}

corner_stays : (mesh : FaceList) (rings : List ℕ) (n v : ℕ) (c : Side) → IsLeastCorner mesh rings n v c
    → IsLeastCorner mesh rings (n + 1) v c
corner_stays mesh rings n v c h = record { at_vertex = h.at_vertex; below = omega (arith, h.below); least = h.least }

-- a least corner below n + 1 is one below n, or has the number n
corner_cases : {mesh : FaceList} {rings : List ℕ} (n : ℕ) {v : ℕ} {c : Side} → IsLeastCorner mesh rings (n + 1) v c
    → IsLeastCorner mesh rings n v c ⊎ (side_number mesh c ≡ n)
corner_cases {mesh} n {c} h =
    elim (cases_lt (side_number mesh c) n) [
      | inl less ↦ inl (record { at_vertex = h.at_vertex; below = less; least = h.least })
      | inr more ↦ inr (omega (arith, h.below))
    ]

-- a corner that is not the least of its ring changes nothing
pub links_other : {mesh : FaceList} {rings : List ℕ} {n : ℕ} {links : List Link} → (get_or rings n 0 ≡ n → ⊥)
    → AreLinksUpTo mesh rings n links → AreLinksUpTo mesh rings (n + 1) links
links_other {mesh} {rings} {n} {links} other h = record {
  count = h.count;
  true_ones = λ v b. link_kept mesh rings n (n + 1) v (link_at links v) (corner_stays mesh rings n v) (λ c is. elim (corner_cases n is) [
    | inl below ↦ below
    | inr here ↦ absurd (other (ap (λ k. get_or rings k 0) (sym here) ∙ is.least ∙ here))
  ]) (h.true_ones v b);
}

-- the link of the vertex where such a corner is
link_more : {mesh : FaceList} (rings : List ℕ) (n v : ℕ) {corner : Side} (link : Link) → IsSide mesh corner → tail_of mesh corner ≡ v
    → side_number mesh corner ≡ n
    → get_or rings n 0 ≡ n → IsTrueLink mesh rings n v link → IsTrueLink mesh rings (n + 1) v (with_ring link)
link_more {mesh} rings n v {corner} NoRing is at number least h = record {
  corner = corner;
  is = record {
    at_vertex = record { side = is; vertex = at };
    below = omega (arith, number);
    least = ap (λ k. get_or rings k 0) number
        ∙ least ∙ sym number;
  };
  only = λ c is_c. elim (corner_cases n is_c) [
    | inl below ↦ absurd (h c below)
    | inr here ↦ number_once mesh c corner is_c.at_vertex.side is (here ∙ sym number)
  ];
}
link_more {mesh} rings n v {corner} OneRing is at number least h = record {
  first = h.corner;
  second = corner;
  is_first = corner_stays mesh rings n v h.corner h.is;
  is_second = record {
    at_vertex = record { side = is; vertex = at };
    below = omega (arith, number);
    least = ap (λ k. get_or rings k 0) number ∙ least ∙ sym number;
  };
  different = λ same. omega (arith, h.is.below, ap (side_number mesh) same, number);
}
link_more {mesh} rings n v Pinched is at number least h = record {
  first = h.first;
  second = h.second;
  is_first = corner_stays mesh rings n v h.first h.is_first;
  is_second = corner_stays mesh rings n v h.second h.is_second;
  different = h.different;
}

-- a ring is put to the link of a vertex
abbrev pub added : List Link → ℕ → List Link
added links v = set links v (with_ring (link_at links v))

pub links_more : {mesh : FaceList} {rings : List ℕ} {n : ℕ} (v : ℕ) {corner : Side} {links : List Link} → v < mesh.count → IsSide mesh
    corner
    → tail_of mesh corner ≡ v → side_number mesh corner ≡ n
    → get_or rings n 0 ≡ n → AreLinksUpTo mesh rings n links → AreLinksUpTo mesh rings (n + 1) (added links v)
links_more {mesh} {rings} {n} v {corner} {links} within is at number least h = record {
  count = length-set links v (with_ring (link_at links v)) ∙ h.count;
  true_ones = λ w b. elim (cases_eq w v) [
    | inl same ↦
        subst (λ x. IsTrueLink mesh rings (n + 1) x (link_at (added links v) x)) (sym same)
        (subst (IsTrueLink mesh rings (n + 1) v) (sym (get_or-set_same links v (with_ring (link_at links v)) NoRing
        (omega (arith, within, h.count)))) (link_more rings n v (link_at links v) is at number least (h.true_ones v within)))
    | inr other ↦
        subst (IsTrueLink mesh rings (n + 1) w) (sym (get_or-set_other links v w (with_ring (link_at links v)) NoRing other))
        (link_kept mesh rings n (n + 1) w (link_at links w) (corner_stays mesh rings n w) (λ c is_c. elim (corner_cases n is_c) [
          | inl below ↦ below
          | inr here ↦
              absurd (other
              (sym is_c.at_vertex.vertex ∙ ap (tail_of mesh) (number_once mesh c corner is_c.at_vertex.side is (here ∙ sym number)) ∙ at))
        ]) (h.true_ones w b))
  ];
}

-- the least corner in the ring of a corner, which is at the same vertex
record HasLeast (mesh : FaceList) (rings : List ℕ) (v : ℕ) (corner : Side) : Type 0 where
  pub least : Side
  pub is : IsLeastCorner mesh rings (total_sides mesh) v least
  pub same : get_or rings (side_number mesh corner) 0 ≡ side_number mesh least

least_of_ring : {mesh : FaceList} {rings : List ℕ} {v : ℕ} {corner : Side} → length rings ≡ total_sides mesh → AreRings mesh rings
    → AreLeastMembers rings → IsCornerAt mesh v corner
    → HasLeast mesh rings v corner
least_of_ring {mesh} {rings} {corner} count h members at =
    let n : ℕ = side_number mesh corner in
    let within : n < length rings = omega (arith, count, number_below mesh corner at.side) in
    let root : ℕ = get_or rings n 0 in
    let below : root < total_sides mesh = omega (arith, members.lesser n within, within, count) in
    let d : FaceSide = record { face = 0; at = 0; tail = 0; head = 0 } in
    let whole : IsWholeSide mesh root (get_or (all_sides mesh) root d) =
    whole_side mesh root d (omega (arith, below, length-all_sides mesh)) in
    let least : Side = side_name (get_or (all_sides mesh) root d) in
    let number : side_number mesh least ≡ root = whole.number in
    let own : get_or rings root 0 ≡ root = members.itself n within in
    let joined : AreJoined (IsCornerStep mesh) corner least =
    h.joined corner least at.side whole.side_of (sym own ∙ ap (λ k. get_or rings k 0) (sym number)) in
    let vertex : tail_of mesh corner ≡ tail_of mesh least =
    joined_keep (IsCornerStep mesh) (tail_of mesh) (λ x y step. sym (corner_vertex mesh (tail_of mesh x) step.partner y step.to)) corner
    joined.0 least joined.1 in
    record {
      least = least;
      is = record {
        at_vertex = record { side = whole.side_of; vertex = sym vertex ∙ at.vertex };
        below = omega (arith, below, number);
        least = ap (λ k. get_or rings k 0) number ∙ own ∙ sym number;
      };
      same = sym number;
    }

two_rings_pinched : {mesh : FaceList} {rings : List ℕ} {v : ℕ} → AreRings mesh rings → HasTwoLeast mesh rings (total_sides mesh) v
    → HasOneRing mesh v → ⊥
two_rings_pinched {mesh} {rings} h two ring =
    two.different (number_once mesh two.first two.second two.is_first.at_vertex.side two.is_second.at_vertex.side
    (sym two.is_first.least ∙ same_from_one_ring rings h ring two.is_first.at_vertex two.is_second.at_vertex
    ∙ two.is_second.least))

-- at most one least corner, where the link is not pinched
one_least : {mesh : FaceList} {rings : List ℕ} {v : ℕ} (link : Link) {c d : Side} → (link ≡ Pinched → ⊥)
    → IsTrueLink mesh rings (total_sides mesh) v link
    → IsLeastCorner mesh rings (total_sides mesh) v c → IsLeastCorner mesh rings (total_sides mesh) v d → c ≡ d
one_least NoRing {c} not_pinched h is_c is_d = absurd (h c is_c)
one_least OneRing {c} {d} not_pinched h is_c is_d = h.only c is_c ∙ sym (h.only d is_d)
one_least Pinched not_pinched h is_c is_d = absurd (not_pinched refl)

one_ring_by_link : (mesh : FaceList) {rings : List ℕ} (links : List Link) (v : ℕ) → length rings ≡ total_sides mesh
    → AreRings mesh rings → AreLeastMembers rings → AreLinks mesh rings links
    → v < mesh.count → (link_at links v ≡ Pinched → ⊥) → HasOneRing mesh v
one_ring_by_link mesh {rings} links v count h members are within not_pinched =
    one_ring_from_same mesh rings v h (λ corner other is_corner is_other.
    let first : HasLeast mesh rings v corner = least_of_ring count h members is_corner in
    let second : HasLeast mesh rings v other = least_of_ring count h members is_other in
    first.same ∙ ap (side_number mesh) (one_least (link_at links v) not_pinched
    (are.true_ones v within) first.is second.is) ∙ sym second.same)

pub pinch_found : {mesh : FaceList} {rings : List ℕ} (links : List Link) (found : Option VertexName) → IsFaceList mesh
    → length rings ≡ total_sides mesh → AreRings mesh rings
    → AreLeastMembers rings → AreLinks mesh rings links
    → IfSome found (λ vertex. IsFirstPinched links vertex.0) → IfNone found ((v : ℕ) → v < length links → link_at links v ≡ Pinched → ⊥)
    → MatchOption found (EachVertexHasOneRing mesh) (λ vertex. IsLeastPinch mesh vertex.0)
pinch_found {mesh} links None valid count h members are some none =
    λ v used.
    let within : v < mesh.count = used_below mesh v valid used in
    one_ring_by_link mesh links v count h members are within (none v (omega (arith, within, are.count)))
pinch_found {mesh} {rings} links (Some vertex) valid count h members are some none =
    let v : ℕ = vertex.0 in
    let two : HasTwoLeast mesh rings (total_sides mesh) v =
    subst (IsTrueLink mesh rings (total_sides mesh) v) some.pinched (are.true_ones v (omega (arith, some.within, are.count))) in
    record {
      used = corner_used mesh v two.first two.is_first.at_vertex;
      pinched = two_rings_pinched h two;
      least = λ w less used. one_ring_by_link mesh links w count h members are (used_below mesh w valid used) (some.first w less);
    }
