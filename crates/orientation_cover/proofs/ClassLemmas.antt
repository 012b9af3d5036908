-- Claims in classes, as the edges of the table are gone through; and ways round the vertices by the classes.
use Rattle.orientation_cover.proofs.Common.{number_below, number_once, corner_in_mesh, partners_swap, step_across, joins_only-alone, joined_keep, joined_refl, joined_step, joined_sym, joined_trans, KeepsJoined, AreLeastMembers, NoEdgeHasThreeSides, either, over, AreWaysRound, Claim, IsClaim, claim_number, carried, IsClaimStep, JoinsOnlyByClaimSteps, AreClaimClasses, AreClaimsMadeJoined, IsCarriedAcross, told_by, IsLedToLeast, AreWays, ◌≡◌, ◌≢◌, ◌⊎◌, inl, inr, ℕ, zero, suc, ◌+◌, ◌-◌, ◌<◌, ◌≤◌, Bool, true, false, not, ltb, List, [], ◌∷◌, length, min, get_or, refl, ap, sym, ◌∙◌, subst, arith, cases_eq, cases_lt, nat_tests, common_steps, ext_get_or, length-range_with_len, range_with_len, ◌==◌, if◌then◌else◌, Contains, IsEdgeOfSide, edge_of_side, edge_has_side, ends_agree, table_edge, partners_of_edge, IsSide, side_number, tail_of, Edge, IsTableOf, edge_in, FaceList, IsFaceList, total_sides, ArePartners, IsPath, AreJoined, IsCornerOfSide, Side}
use Rattle.connectivity.proofs.EdgeLemmas.{few_in_table}
use Rattle.connectivity.specs.Partitions.{IsCornerStep}
use Rattle.double_covers.proofs.RingLemmas.{not_twisted}
use Rattle.surf_model.proofs.SideNumberLemmas.{IsNumbered, numbered}
use Rattle.orientation_cover.proofs.ClaimLemmas.{over_below, claim_below, claim_once, carried_back}

abbrev pub no_side : Side
no_side = record { face = record { 0 = 0 }; at = 0 }

-- a side of an edge of the table
abbrev pub side_in : List Edge → ℕ → ℕ → Side
side_in table k i = get_or (edge_in table k).sides i no_side

-- the claims are carried across the first k edges, and equal entries come by steps alone
pub record CarriesUpTo (mesh : FaceList) (table : List Edge) (least : List ℕ) (k : ℕ) : Type 0 where
  pub count : length least ≡ total_sides mesh + total_sides mesh
  pub joined : JoinsOnlyByClaimSteps mesh least
  pub done : (j : ℕ) → j < k → length (edge_in table j).sides ≡ 2 → IsCarriedAcross mesh least (side_in table j 0) (side_in table j 1)

pub edges_none : (mesh : FaceList) (table : List Edge) (least : List ℕ) → least ≡ range_with_len 0 (total_sides mesh + total_sides mesh)
    → CarriesUpTo mesh table least 0
edges_none mesh table least is =
    let all : ℕ = total_sides mesh + total_sides mesh in
    let alone : JoinsOnlyByClaimSteps mesh (range_with_len 0 all) =
    joins_only-alone (IsClaim mesh) (claim_number mesh) (IsClaimStep mesh) all (claim_below mesh) (claim_once mesh) in
    record {
      count = ap (λ (l : List ℕ). length l) is ∙ length-range_with_len 0 all;
      joined = subst (JoinsOnlyByClaimSteps mesh) (sym is) alone;
      done = λ j l. absurd (omega arith);
    }

-- what is carried across stays so
carried_stays : (mesh : FaceList) (old new : List ℕ) (side partner : Side) → length old ≡ total_sides mesh + total_sides mesh
    → KeepsJoined old new → ArePartners mesh side partner → IsCarriedAcross mesh old side partner → IsCarriedAcross mesh new side partner
carried_stays mesh old new side partner count kept partners h v corner other b from to =
    let t : ℕ = total_sides mesh in
    let is_corner : IsSide mesh corner = corner_in_mesh mesh v side corner partners.first from in
    let is_other : IsSide mesh other = corner_in_mesh mesh v partner other partners.second to in
    let b_there : Bool = carried mesh side partner b in
    kept (over t b (side_number mesh corner)) (over t b_there (side_number mesh other))
    (omega (arith, count, over_below t b (side_number mesh corner) (number_below mesh corner is_corner)))
    (omega (arith, count, over_below t b_there (side_number mesh other) (number_below mesh other is_other)))
    (h v corner other b from to)

-- an edge is passed
edges_more : (mesh : FaceList) (table : List Edge) (old new : List ℕ) (k : ℕ) → IsTableOf mesh table → k < length table
    → CarriesUpTo mesh table old k → length new ≡ length old → KeepsJoined old new → JoinsOnlyByClaimSteps mesh new
    → (length (edge_in table k).sides ≡ 2 → IsCarriedAcross mesh new (side_in table k 0) (side_in table k 1))
    → CarriesUpTo mesh table new (k + 1)
edges_more mesh table old new k h l upto count kept joined here =
    record {
      count = count ∙ upto.count;
      joined = joined;
      done = λ j less two.
          elim (cases_eq j k) [
            | inl same ↦
                subst (λ (e : ℕ). IsCarriedAcross mesh new (side_in table e 0) (side_in table e 1)) (sym same)
                (here (ap (λ (e : ℕ). length (edge_in table e).sides) (sym same) ∙ two))
            | inr other ↦
                carried_stays mesh old new (side_in table j 0) (side_in table j 1) upto.count kept
                (partners_of_edge mesh table j 0 1 no_side h (omega (arith, less, l)) (omega arith) (omega (arith, two)))
                (upto.done j (omega (arith, less, other)) two)
          ];
    }

pub edge_passed : (mesh : FaceList) (table : List Edge) (least : List ℕ) (k : ℕ) → IsTableOf mesh table → k < length table
    → length (edge_in table k).sides ≢ 2 → CarriesUpTo mesh table least k → CarriesUpTo mesh table least (k + 1)
edge_passed mesh table least k h l other upto =
    edges_more mesh table least least k h l upto refl (λ x y a b same. same) upto.joined (λ two. absurd (other two))

pub edge_joined : (mesh : FaceList) (table : List Edge) (old new : List ℕ) (k : ℕ) (side partner : Side) → IsTableOf mesh table
    → k < length table → side_in table k 0 ≡ side → side_in table k 1 ≡ partner → AreClaimsMadeJoined mesh old new side partner
    → CarriesUpTo mesh table old k → CarriesUpTo mesh table new (k + 1)
edge_joined mesh table old new k side partner h l is_side is_partner made upto =
    edges_more mesh table old new k h l upto made.count made.kept (made.steps upto.joined)
    (λ two. rw (is_side, is_partner) made.carried)

-- two sides that stand in a list of at most two are all of it
record AreBoth (sides : List Side) (side partner : Side) : Type 0 where
  two : length sides ≡ 2
  in_order : ((get_or sides 0 no_side ≡ side) × (get_or sides 1 no_side ≡ partner))
      ⊎ ((get_or sides 0 no_side ≡ partner) × (get_or sides 1 no_side ≡ side))

both_places : (sides : List Side) (side partner : Side) (i j : ℕ) → length sides ≤ 2 → side ≢ partner
    → i < length sides → j < length sides → get_or sides i no_side ≡ side → get_or sides j no_side ≡ partner → AreBoth sides side partner
both_places sides side partner zero zero few apart l k p q = absurd (apart (sym p ∙ q))
both_places sides side partner zero (suc zero) few apart l k p q = record { two = omega arith; in_order = inl (p, q) }
both_places sides side partner (suc zero) zero few apart l k p q = record { two = omega arith; in_order = inr (q, p) }
both_places sides side partner (suc zero) (suc zero) few apart l k p q = absurd (apart (sym p ∙ q))
both_places sides side partner (suc (suc i)) j few apart l k p q = absurd (omega (arith, l, few))
both_places sides side partner zero (suc (suc j)) few apart l k p q = absurd (omega (arith, k, few))
both_places sides side partner (suc zero) (suc (suc j)) few apart l k p q = absurd (omega (arith, k, few))

of_two : (sides : List Side) (side partner : Side) → length sides ≤ 2 → side ≢ partner → Contains sides side → Contains sides partner
    → AreBoth sides side partner
of_two sides side partner few apart has other = grind (arith, common_steps, both_places, no_side)

carried_swap : (mesh : FaceList) (least : List ℕ) (side partner : Side) → IsCarriedAcross mesh least partner side
    → IsCarriedAcross mesh least side partner
carried_swap mesh least side partner h v corner other b from to =
    let there : Bool = carried mesh side partner b in
    ap (λ (t : Bool). get_or least (over (total_sides mesh) t (side_number mesh corner)) 0) (sym (carried_back mesh side partner b))
    ∙ sym (h v other corner there to from)

pub edges_all : (mesh : FaceList) (table : List Edge) (least : List ℕ) (k : ℕ) → IsTableOf mesh table → NoEdgeHasThreeSides mesh
    → length table ≤ k → CarriesUpTo mesh table least k → AreClaimClasses mesh least
edges_all mesh table least k h few l upto =
    record {
      count = upto.count;
      classes = record {
        joined = upto.joined;
        steps = λ x y step.
            across step.side step.partner step.partners step.vertex x.corner y.corner x.against step.from step.to
            ∙ ap (λ (t : Bool). get_or least (over (total_sides mesh) t (side_number mesh y.corner)) 0) (sym step.carries);
      };
    }
  where
    across : (side partner : Side) → ArePartners mesh side partner → IsCarriedAcross mesh least side partner
    across side partner partners =
        let found : IsEdgeOfSide mesh table side = edge_of_side mesh table side h partners.first in
        let edge : Edge = edge_in table found.edge in
        let is = table_edge mesh table found.edge h found.in_table in
        let both : AreBoth edge.sides side partner =
        of_two edge.sides side partner (few_in_table mesh table found.edge h few found.in_table) partners.different
        (edge_has_side mesh edge side is partners.first found.ends)
        (edge_has_side mesh edge partner is partners.second
        (ends_agree _ _ _ _ edge.low edge.high found.ends partners.one_edge)) in
        let here : IsCarriedAcross mesh least (side_in table found.edge 0) (side_in table found.edge 1) =
        upto.done found.edge (omega (arith, l, found.in_table)) both.two in
        elim both.in_order [
          | inl e ↦
              subst (IsCarriedAcross mesh least side) e.1
              (subst (λ (s : Side). IsCarriedAcross mesh least s (side_in table found.edge 1)) e.0
              here)
          | inr e ↦
              carried_swap mesh least side partner
              (subst (IsCarriedAcross mesh least partner) e.1
              (subst (λ (s : Side). IsCarriedAcross mesh least s (side_in table found.edge 1)) e.0 here))
        ]

-- ---- ways round the vertices

-- the two claims on a corner are of two classes
pub claims_apart : (mesh : FaceList) (least : List ℕ) → IsFaceList mesh → NoEdgeHasThreeSides mesh → AreClaimClasses mesh least
    → (corner : Side) → IsSide mesh corner
    → get_or least (side_number mesh corner) 0 ≢ get_or least (side_number mesh corner + total_sides mesh) 0
claims_apart mesh least valid few h corner is same =
    not_twisted mesh valid few corner
    (h.classes.joined (record { corner = corner; against = false }) (record { corner = corner; against = true }) is is same)

-- the claim that holds is the one whose class has the lesser least member
abbrev pub holds_against : FaceList → List ℕ → Side → Bool
holds_against mesh least corner =
    ltb (get_or least (side_number mesh corner + total_sides mesh) 0) (get_or least (side_number mesh corner) 0)

lesser_other : (a b : ℕ) → a ≢ b → ltb a b ≡ not (ltb b a)
lesser_other a b apart = grind (arith, nat_tests)

pub are_ways : (mesh : FaceList) (least : List ℕ) → AreClaimClasses mesh least
    → ((corner : Side) → IsSide mesh corner
    → get_or least (side_number mesh corner) 0 ≢ get_or least (side_number mesh corner + total_sides mesh) 0)
    → AreWaysRound mesh (holds_against mesh least)
are_ways mesh least h apart =
    record {
      across = λ v side partner corner other partners from to.
          by_test (tail_of mesh side == tail_of mesh partner) corner other (corner_in_mesh mesh v partner other partners.second to)
          (λ b. step v side partner corner other partners from to b);
    }
  where
    read : Side → Bool → ℕ
    read s b = get_or least (over (total_sides mesh) b (side_number mesh s)) 0

    step : (v : ℕ) (side partner corner other : Side) → ArePartners mesh side partner → IsCornerOfSide mesh v side corner
        → IsCornerOfSide mesh v partner other → (b : Bool) → read corner b ≡ read other (carried mesh side partner b)
    step v side partner corner other partners from to b =
        h.classes.steps (record { corner = corner; against = b }) (record { corner = other; against = carried mesh side partner b })
        (record { vertex = v; side = side; partner = partner; partners = partners; from = from; to = to; carries = refl })

    by_test : (alike : Bool) (corner other : Side) → IsSide mesh other
        → ((b : Bool) → read corner b ≡ read other (if alike then not b else b))
        → holds_against mesh least other ≡ (if alike then not (holds_against mesh least corner) else holds_against mesh least corner)
    by_test true corner other is same =
        lesser_other (read other true) (read other false) (λ e. apart other is (sym e))
        ∙ ap not (ap (λ (n : ℕ). ltb n (read other true)) (sym (same true)) ∙ ap (ltb (read corner true)) (sym (same false)))
    by_test false corner other is same =
        ap (λ (n : ℕ). ltb n (read other false)) (sym (same true)) ∙ ap (ltb (read corner true)) (sym (same false))

-- ways by one telling are ways by another that tells the same of the corners of the mesh
same_ways : (mesh : FaceList) (against other : Side → Bool) → ((corner : Side) → IsSide mesh corner → other corner ≡ against corner)
    → AreWaysRound mesh against → AreWaysRound mesh other
same_ways mesh against other same h =
    record {
      across = λ v side partner corner there partners from to.
          same there (corner_in_mesh mesh v partner there partners.second to) ∙ h.across v side partner corner there partners from to
          ∙ ap (λ (a : Bool). if tail_of mesh side == tail_of mesh partner then not a else a)
          (sym (same corner (corner_in_mesh mesh v side corner partners.first from)));
    }

-- the bits of the first n corners are told by the classes
pub record TellsUpTo (total : ℕ) (least : List ℕ) (bits : List Bool) (n : ℕ) : Type 0 where
  pub count : length bits ≡ n
  pub told : (k : ℕ) → k < n → get_or bits k false ≡ ltb (get_or least (k + total) 0) (get_or least k 0)

-- ---- the way at the least corner

-- the lesser of the least members of the classes of the two claims at a corner
abbrev low_at : FaceList → List ℕ → Side → ℕ
low_at mesh least corner =
    min (get_or least (side_number mesh corner) 0) (get_or least (side_number mesh corner + total_sides mesh) 0)

-- a step carries both claims, so it keeps the lesser one
low_kept : (mesh : FaceList) (least : List ℕ) (corner other : Side) → AreClaimClasses mesh least → IsCornerStep mesh corner other
    → low_at mesh least corner ≡ low_at mesh least other
low_kept mesh least corner other h step =
    by_test (tail_of mesh step.side == tail_of mesh step.partner)
    (λ b.
    h.classes.steps (record { corner = corner; against = b })
    (record { corner = other; against = carried mesh step.side step.partner b })
    (record {
      vertex = tail_of mesh corner;
      side = step.side;
      partner = step.partner;
      partners = step.partners;
      from = step.from;
      to = step.to;
      carries = refl;
    }))
  where
    read : Side → Bool → ℕ
    read s b = get_or least (over (total_sides mesh) b (side_number mesh s)) 0

    turned : (a b : ℕ) → min a b ≡ min b a
    turned a b = grind arith

    by_test : (alike : Bool) → ((b : Bool) → read corner b ≡ read other (if alike then not b else b))
        → min (read corner false) (read corner true) ≡ min (read other false) (read other true)
    by_test true same =
        ap (λ (n : ℕ). min n (read corner true)) (same false) ∙ ap (min (read other true)) (same true)
        ∙ turned (read other true) (read other false)
    by_test false same = ap (λ (n : ℕ). min n (read corner true)) (same false) ∙ ap (min (read other false)) (same true)

-- where claims are joined, their corners are
path_below : (mesh : FaceList) (x : Claim) (path : List Claim) (y : Claim) → IsPath (IsClaimStep mesh) x path y
    → AreJoined (IsCornerStep mesh) x.corner y.corner
path_below mesh x [] y p = joined_refl (IsCornerStep mesh) x.corner y.corner (ap (λ (c : Claim). c.corner) p)
path_below mesh x (z ∷ path) y p =
    joined_trans (IsCornerStep mesh) x.corner z.corner y.corner
    (joined_step (IsCornerStep mesh) x.corner z.corner
    (step_across mesh p.0.vertex p.0.side p.0.partner x.corner z.corner p.0.partners p.0.from p.0.to))
    (path_below mesh z path y p.1)

-- the corner whose number is the lesser of the two least members
record HasLow (mesh : FaceList) (least : List ℕ) (corner : Side) : Type 0 where
  low : Side
  in_mesh : IsSide mesh low
  number : side_number mesh low ≡ low_at mesh least corner
  own : get_or least (side_number mesh low) 0 ≡ side_number mesh low
  joined : AreJoined (IsCornerStep mesh) corner low

has_low : (mesh : FaceList) (least : List ℕ) (corner : Side) → AreClaimClasses mesh least → AreLeastMembers least → IsSide mesh corner
    → HasLow mesh least corner
has_low mesh least corner h members is =
    let n : ℕ = side_number mesh corner in
    let t : ℕ = total_sides mesh in
    let below : n < t = number_below mesh corner is in
    let first : ℕ = get_or least n 0 in
    let second : ℕ = get_or least (n + t) 0 in
    elim (cases_lt second first) [
      | inl less ↦ of true second (omega (arith, less, members.lesser n (omega (arith, h.count, below)), below))
          (min_right first second less)
          refl (members.itself (n + t) (omega (arith, h.count, below)))
      | inr more ↦ of false first (omega (arith, members.lesser n (omega (arith, h.count, below)), below)) (min_left first second more)
          refl (members.itself n (omega (arith, h.count, below)))
    ]
  where
    min_left : (a b : ℕ) → a ≤ b → a ≡ min a b
    min_left a b l = grind arith

    min_right : (a b : ℕ) → b < a → b ≡ min a b
    min_right a b l = grind arith

    of : (b : Bool) (m : ℕ) → m < total_sides mesh → m ≡ low_at mesh least corner
        → get_or least (over (total_sides mesh) b (side_number mesh corner)) 0 ≡ m → get_or least m 0 ≡ m → HasLow mesh least corner
    of b m l low_is read own =
        let at : IsNumbered mesh m = numbered mesh m l in
        let low : Side = record { face = record { 0 = at.face }; at = at.at } in
        let in_mesh : IsSide mesh low = record { face = at.in_list; place = at.in_face } in
        let number : side_number mesh low ≡ m = at.number in
        let own_low : get_or least (side_number mesh low) 0 ≡ m = ap (λ (k : ℕ). get_or least k 0) number ∙ own in
        let claims : AreJoined (IsClaimStep mesh) (record { corner = corner; against = b }) (record { corner = low; against = false }) =
        h.classes.joined (record { corner = corner; against = b }) (record { corner = low; against = false }) is in_mesh
        (read ∙ sym own_low) in
        record {
          low = low;
          in_mesh = in_mesh;
          number = number ∙ low_is;
          own = own_low ∙ sym number;
          joined = path_below mesh (record { corner = corner; against = b }) claims.0 (record { corner = low; against = false }) claims.1;
        }

led_to_least : (mesh : FaceList) (least : List ℕ) (bits : List Bool) (corner : Side) → AreClaimClasses mesh least → AreLeastMembers least
    → ((corner : Side) → IsSide mesh corner → told_by mesh bits corner ≡ holds_against mesh least corner)
    → IsSide mesh corner → IsLedToLeast mesh bits corner
led_to_least mesh least bits corner h members told is =
    let found : HasLow mesh least corner = has_low mesh least corner h members is in
    let low : Side = found.low in
    let same : (other : Side) → AreJoined (IsCornerStep mesh) low other → side_number mesh low ≡ low_at mesh least other =
    λ other joined.
    found.number
    ∙ joined_keep (IsCornerStep mesh) (low_at mesh least) (λ x y step. low_kept mesh least x y h step) corner found.joined.0 low
    found.joined.1
    ∙ joined_keep (IsCornerStep mesh) (low_at mesh least) (λ x y step. low_kept mesh least x y h step) low joined.0 other joined.1 in
    let here : side_number mesh low ≡ low_at mesh least low =
    same low (joined_refl (IsCornerStep mesh) low low refl) in
    record {
      least = low;
      in_mesh = found.in_mesh;
      joined = found.joined;
      is_least = λ other in_mesh joined.
          omega (
            arith,
            same other joined,
            left_of (get_or least (side_number mesh other) 0) (get_or least (side_number mesh other + total_sides mesh) 0),
            members.lesser (side_number mesh other) (omega (arith, h.count, number_below mesh other in_mesh)),
          );
      with_way =
          told low found.in_mesh
          ∙ not_less (get_or least (side_number mesh low) 0) (get_or least (side_number mesh low + total_sides mesh) 0)
          (found.own ∙ here);
    }
  where
    left_of : (a b : ℕ) → min a b ≤ a
    left_of a b = grind arith

    not_less : (a b : ℕ) → a ≡ min a b → ltb b a ≡ false
    not_less a b e = grind (arith, nat_tests)

pub tells_all : (mesh : FaceList) (least : List ℕ) (bits : List Bool) (n : ℕ) → IsFaceList mesh → NoEdgeHasThreeSides mesh
    → AreClaimClasses mesh least → AreLeastMembers least → n ≡ total_sides mesh → TellsUpTo (total_sides mesh) least bits n
    → AreWays mesh bits
tells_all mesh least bits n valid few h members all upto =
    let told : (corner : Side) → IsSide mesh corner → told_by mesh bits corner ≡ holds_against mesh least corner =
    λ corner is. upto.told (side_number mesh corner) (omega (arith, all, number_below mesh corner is)) in
    record {
      count = upto.count ∙ all;
      ways =
          same_ways mesh (holds_against mesh least) (told_by mesh bits) told
          (are_ways mesh least h (claims_apart mesh least valid few h));
      least = λ corner is. led_to_least mesh least bits corner h members told is;
    }

-- ---- a mesh has one such list of bits

pub one_ways : (mesh : FaceList) (bits others : List Bool) → AreWays mesh bits → AreWays mesh others → bits ≡ others
one_ways mesh bits others h k =
    ext_get_or false bits others (h.count ∙ sym k.count)
    (λ n l.
    let at : IsNumbered mesh n = numbered mesh n (omega (arith, l, h.count)) in
    let corner : Side = record { face = record { 0 = at.face }; at = at.at } in
    let is : IsSide mesh corner = record { face = at.in_list; place = at.in_face } in
    ap (λ (j : ℕ). get_or bits j false) (sym at.number) ∙ agree corner is ∙ ap (λ (j : ℕ). get_or others j false) at.number)
  where
    differ : Side → Bool
    differ corner = either (told_by mesh bits corner) (told_by mesh others corner)

    both : (alike a b : Bool) → either a b ≡ either (if alike then not a else a) (if alike then not b else b)
    both true true true = refl
    both true true false = refl
    both true false true = refl
    both true false false = refl
    both false a b = refl

    kept : (x y : Side) → IsCornerStep mesh x y → differ x ≡ differ y
    kept x y step =
        let alike : Bool = tail_of mesh step.side == tail_of mesh step.partner in
        both alike (told_by mesh bits x) (told_by mesh others x)
        ∙ ap (λ (a : Bool). either a (if alike then not (told_by mesh others x) else told_by mesh others x))
        (sym (h.ways.across (tail_of mesh x) step.side step.partner x y step.partners step.from step.to))
        ∙ ap (either (told_by mesh bits y))
        (sym (k.ways.across (tail_of mesh x) step.side step.partner x y step.partners step.from step.to))

    back : (x y : Side) → IsCornerStep mesh x y → IsCornerStep mesh y x
    back x y step =
        step_across mesh (tail_of mesh x) step.partner step.side y x (partners_swap mesh step.side step.partner step.partners) step.to
        step.from

    same_bit : (a b : Bool) → either a b ≡ false → a ≡ b
    same_bit true true e = refl
    same_bit true false e = cc
    same_bit false b e = sym e

    agree : (corner : Side) → IsSide mesh corner → told_by mesh bits corner ≡ told_by mesh others corner
    agree corner is =
        let one : IsLedToLeast mesh bits corner = h.least corner is in
        let two : IsLedToLeast mesh others corner = k.least corner is in
        let there : AreJoined (IsCornerStep mesh) one.least two.least =
        joined_trans (IsCornerStep mesh) one.least corner two.least (joined_sym (IsCornerStep mesh) back corner one.least one.joined)
        two.joined in
        let same : one.least ≡ two.least =
        number_once mesh one.least two.least one.in_mesh two.in_mesh
        (omega (
          arith,
          one.is_least two.least two.in_mesh there,
          two.is_least one.least one.in_mesh (joined_sym (IsCornerStep mesh) back one.least two.least there),
        )) in
        same_bit (told_by mesh bits corner) (told_by mesh others corner)
        (joined_keep (IsCornerStep mesh) differ kept corner one.joined.0 one.least one.joined.1
        ∙ ap (λ (a : Bool). either a (told_by mesh others one.least)) one.with_way
        ∙ ap (told_by mesh others) same ∙ two.with_way)
