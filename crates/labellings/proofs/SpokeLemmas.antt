-- The spokes of a dart, by the two sides of its edge in the table of the mesh.
use Rattle.labellings.proofs.Common.{IsGood, LabellingView, signs_of, tail_label, head_label, spokes, spokes_by_labels, ◌≡◌, ◌≢◌, ◌⊎◌, inl, inr, ℕ, ◌<◌, Bool, true, false, List, length, get_or, refl, ap, sym, ◌∙◌, subst, arith, common_steps, get_or_from_slice_get, Contains, Some, slice_get, HasSideEnds, side_of_edge, edge_has_side, partners_of_edge, ends_agree, table_pair, IsSide, tail_of, head_of, Edge, IsTableOf, IsEdgeOf, HasEnds, edge_in, FaceList, IsFaceList, ArePartners, is_flipped, start_under, end_under, Side}
use Rattle.labellings.proofs.SideLemmas.{SpokesOfSide, spokes_of_side}
use Rattle.labellings.proofs.EdgeRuleLemmas.{two-of}

-- where a side starts and ends under signs are its two ends, in one of the two orders
ends-under : (mesh : FaceList) (signs : List Bool) (side : Side) →
    ((start_under mesh signs side ≡ tail_of mesh side) × (end_under mesh signs side ≡ head_of mesh side))
    ⊎ ((start_under mesh signs side ≡ head_of mesh side) × (end_under mesh signs side ≡ tail_of mesh side))
ends-under mesh signs side = go (is_flipped signs side.face.0) refl
  where
    go : (b : Bool) → is_flipped signs side.face.0 ≡ b →
        ((start_under mesh signs side ≡ tail_of mesh side) × (end_under mesh signs side ≡ head_of mesh side))
        ⊎ ((start_under mesh signs side ≡ head_of mesh side) × (end_under mesh signs side ≡ tail_of mesh side))
    go true e = inr (rw e refl, rw e refl)
    go false e = inl (rw e refl, rw e refl)

-- a side with the ends u and v that starts at u ends at v, and one that does not starts at v and ends at u
along-or-against : (s e t h low high u v : ℕ) → low < high → ((s ≡ t) × (e ≡ h)) ⊎ ((s ≡ h) × (e ≡ t)) → ((t ≡ low) × (h ≡ high))
    ⊎ ((t ≡ high) × (h ≡ low)) →
    ((low ≡ u) × (high ≡ v)) ⊎ ((low ≡ v) × (high ≡ u)) → ((s ≡ u) × (e ≡ v)) ⊎ ((s ≢ u) × (s ≡ v) × (e ≡ u))
along-or-against s e t h low high u v less under ends pair = grind arith

-- a side that is looked at where there is none
none : Side
none = record { face = record { 0 = 0 }; at = 0 }

module _ (mesh : FaceList) (table : List Edge) (labelling : LabellingView) (k u v : ℕ) (a b : Side) (valid : IsFaceList mesh)
    (good : IsGood mesh labelling) (h : IsTableOf mesh table) (l : k < length table)
    (pair : HasEnds u v (edge_in table k)) (is_a : slice_get (edge_in table k).sides 0 ≡ Some a)
    (is_b : slice_get (edge_in table k).sides 1 ≡ Some b) where
  first : get_or (edge_in table k).sides 0 none ≡ a
  first = get_or_from_slice_get (edge_in table k).sides 0 a none is_a

  second : get_or (edge_in table k).sides 1 none ≡ b
  second = get_or_from_slice_get (edge_in table k).sides 1 b none is_b

  two : length (edge_in table k).sides ≡ 2
  two = grind (arith, common_steps, none, table_pair)

  partners : ArePartners mesh a b
  partners =
      subst (λ x. ArePartners mesh x b) first (subst (λ x. ArePartners mesh (get_or (edge_in table k).sides 0 none) x) second
      (partners_of_edge mesh table k 0 1 none h l (omega arith) (omega (arith, two))))

  of-a : SpokesOfSide mesh labelling a
  of-a = spokes_of_side mesh labelling a valid good partners.first

  -- the other side of the edge is the one that the table has
  partner-is : of-a.partner.partner ≡ b
  partner-is =
      let edge : Edge = edge_in table k in
      let is : IsEdgeOf mesh edge = h.edges k _ l in
      let ends : HasSideEnds mesh edge.low edge.high a =
      subst (HasSideEnds mesh edge.low edge.high) first (side_of_edge mesh edge 0 none is (omega (arith, two))).ends in
      let p = of-a.partner.partners in
      let here : Contains edge.sides a = edge_has_side mesh edge a is p.first ends in
      let there : Contains edge.sides of-a.partner.partner = grind (arith, edge_has_side, ends_agree) in
      elim (two-of edge.sides none a of-a.partner.partner a b two first second here there p.different) [
        | inl as_listed ↦ as_listed.1
        | inr turned ↦ absurd (partners.different turned.0)
      ]

  sided : ((start_under mesh (signs_of labelling) a ≡ u) × (end_under mesh (signs_of labelling) a ≡ v))
      ⊎ ((start_under mesh (signs_of labelling) a ≢ u) × (start_under mesh (signs_of labelling) a ≡ v)
      × (end_under mesh (signs_of labelling) a ≡ u))
  sided =
      let edge : Edge = edge_in table k in
      let is : IsEdgeOf mesh edge = h.edges k _ l in
      let ends : HasSideEnds mesh edge.low edge.high a =
      subst (HasSideEnds mesh edge.low edge.high) first (side_of_edge mesh edge 0 none is (omega (arith, two))).ends in
      along-or-against _ _ _ _ edge.low edge.high u v is.ordered (ends-under mesh (signs_of labelling) a) ends pair

  -- where the first side starts at u, the dart runs along it, and else against it
  pub spokes-along : start_under mesh (signs_of labelling) a ≡ u → spokes mesh labelling u v
      ≡ spokes_by_labels (tail_label mesh labelling a) (head_label mesh labelling a) (tail_label mesh labelling b)
      (head_label mesh labelling b)
  spokes-along starts = elim sided [
    | inl is ↦
        subst (λ p. spokes mesh labelling u v ≡ spokes_by_labels (tail_label mesh labelling a) (head_label mesh labelling a)
        (tail_label mesh labelling p) (head_label mesh labelling p)) partner-is
        (ap (λ x. spokes mesh labelling x v) (sym is.0) ∙ ap (spokes mesh labelling (start_under mesh (signs_of labelling) a))
        (sym is.1) ∙ of-a.along)
    | inr is ↦ absurd (is.0 starts)
  ]

  pub spokes-against : start_under mesh (signs_of labelling) a ≢ u → spokes mesh labelling u v
      ≡ spokes_by_labels (tail_label mesh labelling b) (head_label mesh labelling b) (tail_label mesh labelling a)
      (head_label mesh labelling a)
  spokes-against other = elim sided [
    | inl is ↦ absurd (other is.0)
    | inr is ↦
        subst (λ p. spokes mesh labelling u v ≡ spokes_by_labels (tail_label mesh labelling p) (head_label mesh labelling p)
        (tail_label mesh labelling a) (head_label mesh labelling a)) partner-is
        (ap (λ x. spokes mesh labelling x v) (sym is.2) ∙ ap (spokes mesh labelling (end_under mesh (signs_of labelling) a)) (sym is.1)
        ∙ of-a.against)
  ]

-- an edge of a mesh with a good labelling has two sides
pub two-sides : (mesh : FaceList) (table : List Edge) (labelling : LabellingView) (k : ℕ) → IsGood mesh labelling → IsTableOf mesh table
    → k < length table → length (edge_in table k).sides ≡ 2
two-sides mesh table labelling k good h l = grind (arith, common_steps, none, table_pair)

-- and each of these is a side of the mesh
pub is-side : (mesh : FaceList) (table : List Edge) (labelling : LabellingView) (k j : ℕ) (a : Side) → IsGood mesh labelling
    → IsTableOf mesh table → k < length table → j < 2 → slice_get (edge_in table k).sides j ≡ Some a → IsSide mesh a
is-side mesh table labelling k j a good h l below is =
    subst (IsSide mesh) (get_or_from_slice_get (edge_in table k).sides j a none is)
    (side_of_edge mesh (edge_in table k) j none (h.edges k _ l) (omega (arith, two-sides mesh table labelling k good h l, below))).side_of
