-- Claims at the corners of two sides of one edge, and their classes as these are joined.
use Rattle.orientation_cover.proofs.Common.{number_below, number_once, corner_in_mesh, partners_swap, each_across, length-joined_at, joined_at_ends, joined_at_keeps, joins_only-joined_at, joined_at, KeepsJoined, apart_over, over, Claim, IsClaim, claim_number, carried, IsClaimStep, JoinsOnlyByClaimSteps, with_corners, AreClaimsMadeJoined, ◌≡◌, inl, inr, ℕ, ◌+◌, ◌<◌, Bool, true, false, not, List, length, get_or, refl, ap, sym, ◌∙◌, arith, ◌==◌, if◌then◌else◌, IsSide, side_number, side_after, tail_of, head_of, FaceList, IsFaceList, total_sides, ArePartners, IsCornerOfSide, Side}
use Rattle.connectivity.specs.Links.{AreCornersAcross}

-- ---- claims and their numbers

pub over_below : (count : ℕ) (b : Bool) (n : ℕ) → n < count → over count b n < count + count
over_below count true n l = omega (arith, l)
over_below count false n l = omega (arith, l)

pub claim_below : (mesh : FaceList) (claim : Claim) → IsClaim mesh claim → claim_number mesh claim < total_sides mesh + total_sides mesh
claim_below mesh claim is = grind (arith, over_below, number_below)

pub claim_once : (mesh : FaceList) (x y : Claim) → IsClaim mesh x → IsClaim mesh y → claim_number mesh x ≡ claim_number mesh y → x ≡ y
claim_once mesh x y is_x is_y same = grind (arith, apart_over, number_below, number_once)

-- ---- steps lead back

test_swap : (a b : ℕ) → (a == b) ≡ (b == a)
test_swap a b = grind arith

twice : (alike b : Bool) → (if alike then not (if alike then not b else b) else (if alike then not b else b)) ≡ b
twice true true = refl
twice true false = refl
twice false b = refl

pub carried_back : (mesh : FaceList) (side partner : Side) (b : Bool) → carried mesh partner side (carried mesh side partner b) ≡ b
carried_back mesh side partner b = grind (arith, carried, test_swap, twice)

step_back : (mesh : FaceList) (x y : Claim) → IsClaimStep mesh x y → IsClaimStep mesh y x
step_back mesh x y h =
    record {
      vertex = h.vertex;
      side = h.partner;
      partner = h.side;
      partners = partners_swap mesh h.side h.partner h.partners;
      from = h.to;
      to = h.from;
      carries = grind (arith, carried_back, carried);
    }

-- ---- two corners are joined

-- the corners are those of two sides of one edge at a vertex, and whether the sides run alike is told
pub record AreFacing (mesh : FaceList) (side partner corner other : Side) (alike : Bool) : Type 0 where
  pub vertex : ℕ
  pub partners : ArePartners mesh side partner
  pub from : IsCornerOfSide mesh vertex side corner
  pub to : IsCornerOfSide mesh vertex partner other
  pub told : (tail_of mesh side == tail_of mesh partner) ≡ alike

-- the classes before and after two corners are joined
pub record AreMadeOne (mesh : FaceList) (old new : List ℕ) (corner other : Side) (alike : Bool) : Type 0 where
  pub count : length new ≡ length old
  pub same : (b : Bool)
      → get_or new (over (total_sides mesh) b (side_number mesh corner)) 0
      ≡ get_or new (over (total_sides mesh) (if alike then not b else b) (side_number mesh other)) 0
  pub kept : KeepsJoined old new
  pub steps : JoinsOnlyByClaimSteps mesh old → JoinsOnlyByClaimSteps mesh new

pub made_one : (mesh : FaceList) (least : List ℕ) (side partner corner other : Side) (alike : Bool)
    → length least ≡ total_sides mesh + total_sides mesh → AreFacing mesh side partner corner other alike
    → AreMadeOne mesh least (with_corners mesh least corner other alike) corner other alike
made_one mesh least side partner corner other alike count h =
    let claim : Side → Bool → Claim = λ s b. record { corner = s; against = b } in
    let is_corner : IsSide mesh corner = corner_in_mesh mesh h.vertex side corner h.partners.first h.from in
    let is_other : IsSide mesh other = corner_in_mesh mesh h.vertex partner other h.partners.second h.to in
    let p : ℕ = claim_number mesh (claim corner false) in
    let q : ℕ = claim_number mesh (claim other alike) in
    let r : ℕ = claim_number mesh (claim corner true) in
    let s : ℕ = claim_number mesh (claim other (not alike)) in
    let once : List ℕ = joined_at least p q in
    let size : length once ≡ length least = length-joined_at least p q in
    let below : (c : Claim) → IsClaim mesh c → claim_number mesh c < length least = λ c is. omega (arith, count, claim_below mesh c is) in
    let later : (c : Claim) → IsClaim mesh c → claim_number mesh c < length once = λ c is. omega (arith, size, below c is) in
    let first : IsClaimStep mesh (claim corner false) (claim other alike) = step false alike (with_way alike) in
    let second : IsClaimStep mesh (claim corner true) (claim other (not alike)) = step true (not alike) (against_way alike) in
    record {
      count = length-joined_at once r s ∙ size;
      same = λ b.
          at_bit (joined_at once r s) b
          (joined_at_keeps once r s p q (later (claim corner false) is_corner) (later (claim other alike) is_other)
          (joined_at_ends least p q (below (claim corner false) is_corner) (below (claim other alike) is_other)))
          (joined_at_ends once r s (later (claim corner true) is_corner) (later (claim other (not alike)) is_other));
      kept = λ x y l k same.
          joined_at_keeps once r s x y (omega (arith, size, l)) (omega (arith, size, k)) (joined_at_keeps least p q x y l k same);
      steps = λ only.
          joins_only-joined_at (IsClaim mesh) (claim_number mesh) (IsClaimStep mesh) once (claim corner true) (claim other (not alike))
          (joins_only-joined_at (IsClaim mesh) (claim_number mesh) (IsClaimStep mesh) least (claim corner false) (claim other alike) only
          below is_corner is_other first (step_back mesh (claim corner false) (claim other alike) first))
          later is_corner is_other second (step_back mesh (claim corner true) (claim other (not alike)) second);
    }
  where
    step : (a b : Bool) → b ≡ (if alike then not a else a)
        → IsClaimStep mesh (record { corner = corner; against = a }) (record { corner = other; against = b })
    step a b is =
        record {
          vertex = h.vertex;
          side = side;
          partner = partner;
          partners = h.partners;
          from = h.from;
          to = h.to;
          carries = is ∙ ap (λ (t : Bool). if t then not a else a) (sym h.told);
        }

    with_way : (alike : Bool) → alike ≡ (if alike then not false else false)
    with_way true = refl
    with_way false = refl

    against_way : (alike : Bool) → not alike ≡ (if alike then not true else true)
    against_way true = refl
    against_way false = refl

    number : Side → Bool → ℕ
    number s b = over (total_sides mesh) b (side_number mesh s)

    at_bit : (new : List ℕ) (b : Bool) → get_or new (number corner false) 0 ≡ get_or new (number other alike) 0
        → get_or new (number corner true) 0 ≡ get_or new (number other (not alike)) 0
        → get_or new (number corner b) 0 ≡ get_or new (number other (if alike then not b else b)) 0
    at_bit new false first second = first ∙ ap (λ (t : Bool). get_or new (number other t) 0) (with_way alike)
    at_bit new true first second = second ∙ ap (λ (t : Bool). get_or new (number other t) 0) (against_way alike)

-- ---- both ends of an edge are joined

pub made_joined : (mesh : FaceList) (least : List ℕ) (side partner first last : Side) → IsFaceList mesh
    → length least ≡ total_sides mesh + total_sides mesh → ArePartners mesh side partner → AreCornersAcross mesh side partner first last
    → (let alike = tail_of mesh side == tail_of mesh partner in
    AreClaimsMadeJoined mesh least (with_corners mesh (with_corners mesh least side first alike) (side_after mesh side) last alike) side
    partner)
made_joined mesh least side partner first last valid count partners h =
    let alike : Bool = tail_of mesh side == tail_of mesh partner in
    let once : List ℕ = with_corners mesh least side first alike in
    let after : Side = side_after mesh side in
    let twice : List ℕ = with_corners mesh once after last alike in
    let start : AreMadeOne mesh least once side first alike =
    made_one mesh least side partner side first alike count
    (record { vertex = tail_of mesh side; partners = partners; from = inl (refl, refl); to = h.at_start; told = refl }) in
    let end : AreMadeOne mesh once twice after last alike =
    made_one mesh once side partner after last alike (start.count ∙ count)
    (record { vertex = head_of mesh side; partners = partners; from = inr (refl, refl); to = h.at_end; told = refl }) in
    let is_first : IsSide mesh first = corner_in_mesh mesh (tail_of mesh side) partner first partners.second h.at_start in
    let number : Side → Bool → ℕ = λ s b. over (total_sides mesh) b (side_number mesh s) in
    let within : (s : Side) (b : Bool) → IsSide mesh s → number s b < length once =
    λ s b is. omega (arith, start.count, count, over_below (total_sides mesh) b (side_number mesh s) (number_below mesh s is)) in
    let stays : (b : Bool) → get_or twice (number side b) 0 ≡ get_or twice (number first (carried mesh side partner b)) 0 =
    λ b.
    end.kept (number side b) (number first (carried mesh side partner b)) (within side b partners.first)
    (within first (carried mesh side partner b) is_first) (start.same b) in
    record {
      count = end.count ∙ start.count;
      carried = λ v corner other b from to. grind (arith, each_across, twice, carried);
      kept = λ x y l k same. end.kept x y (omega (arith, start.count, l)) (omega (arith, start.count, k)) (start.kept x y l k same);
      steps = λ only. end.steps (start.steps only);
    }

-- so it is as the corners are read
pub joined_as_read : (mesh : FaceList) (least once twice : List ℕ) (side partner first last after : Side) (alike : Bool) → IsFaceList mesh
    → length least ≡ total_sides mesh + total_sides mesh → ArePartners mesh side partner → AreCornersAcross mesh side partner first last
    → alike ≡ (tail_of mesh side == tail_of mesh partner) → after ≡ side_after mesh side
    → once ≡ with_corners mesh least side first alike → twice ≡ with_corners mesh once after last alike
    → AreClaimsMadeJoined mesh least twice side partner
joined_as_read mesh least once twice side partner first last after alike valid count partners h is_alike is_after is_once is_twice =
    rw (is_twice, is_once, is_after, is_alike) (made_joined mesh least side partner first last valid count partners h)
