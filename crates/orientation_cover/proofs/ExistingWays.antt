-- Where no edge has three sides, there are ways round the vertices: the classes of claims are made edge by edge.
use Rattle.orientation_cover.proofs.Common.{after_in_mesh, corner_in_mesh, number_below, corners_there, length-joined_at, least_range, least_joined_at, AreLeastMembers, NoEdgeHasThreeSides, over, AreClaimsMadeJoined, with_corners, AreWays, ◌≡◌, inl, inr, ℕ, zero, suc, ◌+◌, ◌<◌, ◌≤◌, Bool, false, ltb, List, length, get_or, map, refl, ◌∙◌, subst, arith, cases_eq, length-map-range_with_len, get_or-map-range_with_len, range_with_len, ◌==◌, partners_of_edge, IsSide, side_after, tail_of, head_of, Edge, IsTableOf, edge_in, FaceList, IsFaceList, total_sides, ArePartners, Side}
use Rattle.surf_model.proofs.EdgeTables.{some_table}
use Rattle.orientation_cover.proofs.ClaimLemmas.{over_below, made_joined}
use Rattle.orientation_cover.proofs.ClassLemmas.{no_side, side_in, CarriesUpTo, edges_none, edge_passed, edge_joined, edges_all, tells_all}

-- classes of claims once the first k edges are passed
record HasClasses (mesh : FaceList) (table : List Edge) (k : ℕ) : Type 0 where
  pub least : List ℕ
  pub carries : CarriesUpTo mesh table least k
  pub members : AreLeastMembers least

module _ (mesh : FaceList) (valid : IsFaceList mesh) where
  same_length : (least : List ℕ) (corner other : Side) (alike : Bool) → length (with_corners mesh least corner other alike) ≡ length least
  same_length least corner other alike = grind (arith, over, length-joined_at)

  stay_least : (least : List ℕ) (corner other : Side) (alike : Bool) → length least ≡ total_sides mesh + total_sides mesh
      → IsSide mesh corner → IsSide mesh other → AreLeastMembers least → AreLeastMembers (with_corners mesh least corner other alike)
  stay_least least corner other alike size is that h = grind (arith, over, over_below, number_below, length-joined_at, least_joined_at)

  -- both ends of the edge of two sides
  record HasBothJoined (least : List ℕ) (side partner : Side) : Type 0 where
    pub new : List ℕ
    pub made : AreClaimsMadeJoined mesh least new side partner
    pub members : AreLeastMembers new

  both_joined : (least : List ℕ) (side partner : Side) → length least ≡ total_sides mesh + total_sides mesh → ArePartners mesh side partner
      → AreLeastMembers least → HasBothJoined least side partner
  both_joined least side partner size partners h =
      let across = corners_there mesh side partner partners in
      let first : Side = across.0 in
      let last : Side = across.1 in
      let after : Side = side_after mesh side in
      let alike : Bool = tail_of mesh side == tail_of mesh partner in
      let once : List ℕ = with_corners mesh least side first alike in
      record {
        new = with_corners mesh once after last alike;
        made = made_joined mesh least side partner first last valid size partners across.2;
        members = stay_least once after last alike (same_length least side first alike ∙ size) (after_in_mesh mesh side partners.first)
            (corner_in_mesh mesh (head_of mesh side) partner last partners.second across.2.at_end)
            (stay_least least side first alike size partners.first
            (corner_in_mesh mesh (tail_of mesh side) partner first partners.second across.2.at_start) h);
      }

  classes_upto : (table : List Edge) (k : ℕ) → IsTableOf mesh table → k ≤ length table → HasClasses mesh table k
  classes_upto table zero h l =
      let all : ℕ = total_sides mesh + total_sides mesh in
      record {
        least = range_with_len 0 all;
        carries = edges_none mesh table (range_with_len 0 all) refl;
        members = least_range all;
      }
  classes_upto table (suc k) h l =
      let before : HasClasses mesh table k = classes_upto table k h (omega (arith, l)) in
      let next : k + 1 ≡ suc k = omega arith in
      let less : k < length table = omega (arith, l) in
      elim (cases_eq (length (edge_in table k).sides) 2) [
        | inl two ↦
            (let partners : ArePartners mesh (side_in table k 0) (side_in table k 1) =
            partners_of_edge mesh table k 0 1 no_side h less (omega arith) (omega (arith, two)) in
            let both = both_joined before.least (side_in table k 0) (side_in table k 1) before.carries.count partners before.members in
            record {
              least = both.new;
              carries = subst (CarriesUpTo mesh table both.new) next
                  (edge_joined mesh table before.least both.new k (side_in table k 0) (side_in table k 1) h less refl refl both.made
                  before.carries);
              members = both.members;
            })
        | inr other ↦ record {
          least = before.least;
          carries = subst (CarriesUpTo mesh table before.least) next (edge_passed mesh table before.least k h less other before.carries);
          members = before.members;
        }
      ]

  pub ways_exist : NoEdgeHasThreeSides mesh → (bits : List Bool) × AreWays mesh bits
  ways_exist few =
      let table = some_table mesh valid in
      let made : HasClasses mesh table.0 (length table.0) = classes_upto table.0 (length table.0) table.1 (omega arith) in
      let n : ℕ = total_sides mesh in
      let bit : ℕ → Bool = λ k. ltb (get_or made.least (k + n) 0) (get_or made.least k 0) in
      let bits : List Bool = map bit (range_with_len 0 n) in (
        bits,
        tells_all mesh made.least bits n valid few
            (edges_all mesh table.0 made.least (length table.0) table.1 few (omega arith) made.carries)
            made.members refl
            (record {
              count = length-map-range_with_len bit 0 n;
              told = λ k l. get_or-map-range_with_len bit 0 n k k false l (omega arith);
            }),
      )
