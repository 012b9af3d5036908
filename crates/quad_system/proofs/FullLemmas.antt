-- The labelling of a polygon is full: the sides of its leftover edges are those of the polygon, each with its own number at its tail.
use Rattle.quad_system.proofs.Common.{numbered, one_face, one_place, edge-twin, IsNumberOf, number_below, HasSide, side_with_number, twin-twin, partner_is_twin, darts_of, next_of, twin_of, edge_of, OrientedMesh, IsOrientedSurface, rotations_of, HasPartner, partner_of, LabellingView, tail_label, head_label, labels_ride, is_own_side, PolygonView, IsCutFrom, KindLabels, side_at, label_of, one_up, labelling_from, IsFull, IsLeftoverSide, ◌≡◌, inl, inr, ℕ, ◌<◌, Bool, true, length, refl, ap, sym, ◌∙◌, subst, arith, IsSide, side_number, FaceList, Side, one_of_three, OneOfThree, tree_one, cotree_one, left_one, after_dart, SplitView, IsSplit, in_tree, in_cotree, is_left, add}
use Rattle.quad_system.proofs.PolygonLabelLemmas.{polygon_good, up_is_add, up_moves, two_up_moves, degree_is, LabelsOfSide, labels_of_side}

one_side : (mesh : FaceList) (s : OrientedMesh) (side other : Side) → IsSide s.mesh side → IsSide s.mesh other
    → side_number s.mesh side ≡ side_number s.mesh other → side ≡ other
one_side mesh s side other h k same =
    let p : IsNumberOf s.mesh side.face.0 side.at (side_number s.mesh side) = numbered s side h in
    let q : IsNumberOf s.mesh other.face.0 other.at (side_number s.mesh side) = grind (arith, numbered) in
    let face : side.face.0 ≡ other.face.0 = one_face s side.face.0 side.at other.face.0 other.at (side_number s.mesh side) p q in
    let place : side.at ≡ other.at = one_place s side.face.0 side.at other.face.0 other.at (side_number s.mesh side) p q in
    λ i. record { face = record { 0 = face i }; at = place i }

-- labels that rise on both sides meet neither the tree rule nor the cotree rule
not_tree : (degree a b : ℕ) → a < degree → 1 < degree → b ≡ one_up degree a → a ≡ b → ⊥
not_tree degree a b l m rises same = up_moves degree a l m (sym (same ∙ rises))

not_cotree : (degree a b c d : ℕ) → a < degree → 2 < degree → b ≡ one_up degree a → d ≡ one_up degree c → a ≡ d → b ≡ c → ⊥
not_cotree degree a b c d l m rises rises_too one two = grind (arith, two_up_moves)

-- the edges of the leftover rule are the leftover edges
pub record LeftoverSides (s : OrientedMesh) (split : SplitView) (polygon : PolygonView) (side : Side) : Type 0 where
  pub rule : is_left split (edge_of s (side_number s.mesh side)) ≡ true → IsLeftoverSide s.mesh (labelling_from s polygon) side
  pub kind : IsLeftoverSide s.mesh (labelling_from s polygon) side → is_left split (edge_of s (side_number s.mesh side)) ≡ true

pub leftover_sides : (s : OrientedMesh) (split : SplitView) (polygon : PolygonView) → IsOrientedSurface s → IsSplit s split
    → IsCutFrom s split polygon → 0 < polygon.degree
    → (side : Side) → IsSide s.mesh side → LeftoverSides s split polygon side
leftover_sides s split polygon o t c some side h = record { rule = rule; kind = kind }
  where
    labelling : LabellingView
    labelling = labelling_from s polygon

    degree : ℕ
    degree = polygon.degree

    large : 2 < polygon.degree
    large = elim (degree_is s split polygon c some) [ inl four ↦ omega arith | inr more ↦ omega arith ]

    size : length polygon.places ≡ polygon.degree
    size = (c.places some).each_spoke

    d : ℕ
    d = side_number s.mesh side

    d_in : d < darts_of s
    d_in = number_below s.mesh side.face.0 side.at d (numbered s side h)

    at_d : KindLabels (rotations_of s) (in_tree split) (in_cotree split) (is_left split) polygon d
    at_d = labels_ride s split polygon d o t c some d_in

    one : LabelsOfSide s polygon side
    one = labels_of_side s polygon side h

    below : tail_label s.mesh labelling side < degree
    below = subst (λ x. x < degree) (sym one.tail) ((c.labels some).label_below d d_in)

    partner : HasPartner s.mesh labelling side
    partner = partner_of s.mesh labelling side (polygon_good s split polygon o t c some) h

    rule : is_left split (edge_of s (side_number s.mesh side)) ≡ true → IsLeftoverSide s.mesh (labelling_from s polygon) side
    rule is =
        let other : Side = partner.partner in
        let e : ℕ = side_number s.mesh other in
        let e_in : e < darts_of s = number_below s.mesh other.face.0 other.at e (numbered s other partner.partners.second) in
        let at_e : KindLabels (rotations_of s) (in_tree split) (in_cotree split) (is_left split) polygon e =
        labels_ride s split polygon e o t c some e_in in
        let two : LabelsOfSide s polygon other = labels_of_side s polygon other partner.partners.second in
        let twin : e ≡ twin_of s d = partner_is_twin s o side other partner.partners in
        let left_e : is_left split (edge_of s e) ≡ true = ap (λ x. is_left split (edge_of s x)) twin
        ∙ ap (is_left split) (edge-twin s o d d_in) ∙ is in
        let rises : head_label s.mesh labelling side ≡ one_up degree (tail_label s.mesh labelling side) =
        one.head ∙ at_d.of_left is ∙ ap (one_up degree) (sym one.tail) in
        let rises_too : head_label s.mesh labelling other ≡ one_up degree (tail_label s.mesh labelling other) =
        two.head ∙ at_e.of_left left_e ∙ ap (one_up degree) (sym two.tail) in
        elim partner.meets.rule [
          | inl tree ↦ absurd (not_tree degree (tail_label s.mesh labelling side) (head_label s.mesh labelling side) below
              (omega (arith, large)) rises tree.0)
          | inr more ↦ elim more [
            | inl cotree ↦
                absurd (not_cotree degree (tail_label s.mesh labelling side) (head_label s.mesh labelling side)
                (tail_label s.mesh labelling other)
                (head_label s.mesh labelling other) below large rises rises_too cotree.0 cotree.1)
            | inr left ↦ (other, partner.partners, left)
          ]
        ]

    kind : IsLeftoverSide s.mesh (labelling_from s polygon) side → is_left split (edge_of s (side_number s.mesh side)) ≡ true
    kind found = go (in_tree split edge) (in_cotree split edge) (is_left split edge) (one_of_three split edge) refl refl refl
      where
        edge : ℕ
        edge = edge_of s (side_number s.mesh side)

        go : (a b l : Bool) → OneOfThree a b l → in_tree split edge ≡ a → in_cotree split edge ≡ b → is_left split edge ≡ l
            → is_left split edge ≡ true
        go a b l left_one p q r = r
        go a b l tree_one p q r =
            let rises : head_label s.mesh labelling side ≡ one_up degree (tail_label s.mesh labelling side) =
            found.2.rises ∙ ap (λ n. add n (tail_label s.mesh labelling side) 1) size
            ∙ up_is_add degree (tail_label s.mesh labelling side) below in
            let same : tail_label s.mesh labelling side ≡ head_label s.mesh labelling side =
            one.tail ∙ sym (at_d.of_tree p) ∙ sym one.head in
            absurd (not_tree degree (tail_label s.mesh labelling side) (head_label s.mesh labelling side) below (omega (arith, large))
            rises same)
        go a b l cotree_one p q r =
            let other : Side = found.0 in
            let e : ℕ = side_number s.mesh other in
            let e_in : e < darts_of s = number_below s.mesh other.face.0 other.at e (numbered s other found.1.second) in
            let at_e : KindLabels (rotations_of s) (in_tree split) (in_cotree split) (is_left split) polygon e =
            labels_ride s split polygon e o t c some e_in in
            let two : LabelsOfSide s polygon other = labels_of_side s polygon other found.1.second in
            let twin : e ≡ twin_of s d = partner_is_twin s o side other found.1 in
            let back : twin_of s e ≡ d = ap (twin_of s) twin ∙ twin-twin s o d d_in in
            let cotree_e : in_cotree split (edge_of s e) ≡ true =
            ap (λ x. in_cotree split (edge_of s x)) twin ∙ ap (in_cotree split) (edge-twin s o d d_in) ∙ q in
            let below_e : tail_label s.mesh labelling other < degree =
            subst (λ x. x < degree) (sym two.tail) ((c.labels some).label_below e e_in) in
            let rises : head_label s.mesh labelling side ≡ one_up degree (tail_label s.mesh labelling side) =
            found.2.rises ∙ ap (λ n. add n (tail_label s.mesh labelling side) 1) size
            ∙ up_is_add degree (tail_label s.mesh labelling side) below in
            let rises_too : head_label s.mesh labelling other ≡ one_up degree (tail_label s.mesh labelling other) =
            found.2.rises_too ∙ ap (λ n. add n (tail_label s.mesh labelling other) 1) size
            ∙ up_is_add degree (tail_label s.mesh labelling other) below_e in
            let across : tail_label s.mesh labelling side ≡ head_label s.mesh labelling other =
            one.tail ∙ sym (at_d.of_cotree q) ∙ ap (λ x. label_of polygon (next_of s x)) (sym twin) ∙ sym two.head in
            let across_too : head_label s.mesh labelling side ≡ tail_label s.mesh labelling other =
            one.head ∙ ap (λ x. label_of polygon (next_of s x)) (sym back) ∙ at_e.of_cotree cotree_e ∙ sym two.tail in
            absurd (not_cotree degree (tail_label s.mesh labelling side) (head_label s.mesh labelling side)
            (tail_label s.mesh labelling other)
            (head_label s.mesh labelling other) below large rises rises_too across across_too)

pub polygon_full : (s : OrientedMesh) (split : SplitView) (polygon : PolygonView) → IsOrientedSurface s → IsSplit s split
    → IsCutFrom s split polygon → 0 < polygon.degree
    → IsFull s.mesh (labelling_from s polygon)
polygon_full s split polygon o t c some i l =
    let dart : ℕ = side_at polygon i in
    let is_side = (c.labels some).side_is_left i l in
    let found : HasSide s.mesh dart = side_with_number s.mesh dart is_side.0 in
    let sides : LeftoverSides s split polygon found.side = leftover_sides s split polygon o t c some found.side found.in_mesh in
    record {
      side = found.side;
      side_of = found.in_mesh;
      leftover = sides.rule (ap (λ x. is_left split (edge_of s x)) found.number ∙ is_side.1);
      label = (labels_of_side s polygon found.side found.in_mesh).tail ∙ ap (label_of polygon) found.number
          ∙ (c.labels some).own_number i l;
      alone = λ other h leftover label.
          let e : ℕ = side_number s.mesh other in
          let e_in : e < darts_of s = number_below s.mesh other.face.0 other.at e (numbered s other h) in
          let left : is_left split (edge_of s e) ≡ true = (leftover_sides s split polygon o t c some other h).kind leftover in
          let own : side_at polygon (label_of polygon e) ≡ e =
          is_own_side (rotations_of s) (after_dart (rotations_of s) (λ x. Rattle.std.proofs.Common.not (in_cotree split x)))
          (is_left split) polygon (c.labels some) e e_in left in
          let number : label_of polygon e ≡ i = sym (labels_of_side s polygon other h).tail ∙ label in
          one_side s.mesh s other found.side h found.in_mesh (sym own ∙ ap (side_at polygon) number ∙ sym found.number);
    }
