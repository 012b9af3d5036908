-- An edge meets a rule exactly where its entry in the table of the mesh has two sides that do.
use Rattle.labellings.proofs.Common.{MeetsSomeRule, SidesMeetRule, EdgeMeetsRule, IsLeastAgainstRules, LabellingView, EntryMeetsRule, IsFirstAgainstRules, ◌≡◌, ◌≢◌, ◌⊎◌, inl, inr, ℕ, zero, suc, ◌<◌, List, [], ◌∷◌, length, get_or, sym, ◌∙◌, subst, arith, Contains, IsTrue, HasSideEnds, side_of_edge, edge_has_side, partners_of_edge, ends_agree, IsEdgeBetween, edge_between, table_pair, sides_of_edge, sides_between_swap, same_pair, place_before, Edge, IsTableOf, IsEdgeOf, IsPairBefore, edge_in, FaceList, is_edge, ArePartners, Side}

-- the rules may be read from either side
rule-swap : (places : List ℕ) (a b c d : ℕ) → MeetsSomeRule places a b c d → MeetsSomeRule places c d a b
rule-swap places a b c d h = grind arith

sides-swap : (mesh : FaceList) (labelling : LabellingView) (side other : Side) → SidesMeetRule mesh labelling side other
    → SidesMeetRule mesh labelling other side
sides-swap mesh labelling side other h = grind (arith, rule-swap)

-- two elements of a list of two are those of the list
pub two-of : {A : Type 0} (xs : List A) (d a b x y : A) → length xs ≡ 2 → get_or xs 0 d ≡ x → get_or xs 1 d ≡ y → Contains xs a
    → Contains xs b → a ≢ b →
    ((a ≡ x) × (b ≡ y)) ⊎ ((a ≡ y) × (b ≡ x))
two-of [] d a b x y two first second has_a has_b apart = absurd (omega arith)
two-of (p ∷ []) d a b x y two first second has_a has_b apart = absurd (omega arith)
two-of (p ∷ q ∷ r ∷ xs) d a b x y two first second has_a has_b apart = absurd (omega arith)
two-of (p ∷ q ∷ []) d a b x y two first second (zero, la, a_is) (zero, lb, b_is) apart = absurd (apart (sym a_is ∙ b_is))
two-of (p ∷ q ∷ []) d a b x y two first second (zero, la, a_is) (suc zero, lb, b_is) apart = inl (sym a_is ∙ first, sym b_is ∙ second)
two-of (p ∷ q ∷ []) d a b x y two first second (suc zero, la, a_is) (zero, lb, b_is) apart = inr (sym a_is ∙ second, sym b_is ∙ first)
two-of (p ∷ q ∷ []) d a b x y two first second (suc zero, la, a_is) (suc zero, lb, b_is) apart = absurd (apart (sym a_is ∙ b_is))
two-of (p ∷ q ∷ []) d a b x y two first second (zero, la, a_is) (suc (suc k), lb, b_is) apart = absurd (omega arith)
two-of (p ∷ q ∷ []) d a b x y two first second (suc zero, la, a_is) (suc (suc k), lb, b_is) apart = absurd (omega arith)
two-of (p ∷ q ∷ []) d a b x y two first second (suc (suc k), la, a_is) has_b apart = absurd (omega arith)

module _ (mesh : FaceList) (table : List Edge) (labelling : LabellingView) (k : ℕ) (a b d : Side) (h : IsTableOf mesh table)
    (l : k < length table)
    (first : get_or (edge_in table k).sides 0 d ≡ a) (second : get_or (edge_in table k).sides 1 d ≡ b) where
  pub rule-from-sides : length (edge_in table k).sides ≡ 2 → SidesMeetRule mesh labelling a b
      → EdgeMeetsRule mesh labelling (edge_in table k).low (edge_in table k).high
  rule-from-sides two meets =
      let edge : Edge = edge_in table k in
      let is : IsEdgeOf mesh edge = h.edges k _ l in
      record {
        two_sides = sym (sides_of_edge mesh edge is) ∙ two;
        sides = λ side other partners ends.
            let here : Contains edge.sides side = edge_has_side mesh edge side is partners.first ends in
            let there : Contains edge.sides other = grind (arith, edge_has_side, ends_agree) in
            elim (two-of edge.sides d side other a b two first second here there partners.different) [
              | inl as_listed ↦ subst (λ x. SidesMeetRule mesh labelling x other) (sym as_listed.0)
                  (subst (λ x. SidesMeetRule mesh labelling a x) (sym as_listed.1) meets)
              | inr turned ↦ sides-swap mesh labelling other side
                  (subst (λ x. SidesMeetRule mesh labelling x side) (sym turned.1)
                  (subst (λ x. SidesMeetRule mesh labelling a x) (sym turned.0) meets))
            ];
      }

  pub two-from-rule : EdgeMeetsRule mesh labelling (edge_in table k).low (edge_in table k).high → length (edge_in table k).sides ≡ 2
  two-from-rule meets = sides_of_edge mesh (edge_in table k) (h.edges k _ l) ∙ meets.two_sides

  pub sides-from-rule : EdgeMeetsRule mesh labelling (edge_in table k).low (edge_in table k).high → SidesMeetRule mesh labelling a b
  sides-from-rule meets =
      let edge : Edge = edge_in table k in
      let two = two-from-rule meets in
      let partners : ArePartners mesh (get_or edge.sides 0 d) (get_or edge.sides 1 d) =
      partners_of_edge mesh table k 0 1 d h l (omega arith) (omega arith) in
      let ends : HasSideEnds mesh edge.low edge.high (get_or edge.sides 0 d) =
      (side_of_edge mesh edge 0 d (h.edges k _ l) (omega arith)).ends in
      subst (λ x. SidesMeetRule mesh labelling x b) first
      (subst (λ x. SidesMeetRule mesh labelling (get_or edge.sides 0 d) x) second (meets.sides _ _ partners ends))

edge-rule-swap : (mesh : FaceList) (labelling : LabellingView) (u v : ℕ) → EdgeMeetsRule mesh labelling u v
    → EdgeMeetsRule mesh labelling v u
edge-rule-swap mesh labelling u v h = grind (arith, sides_between_swap)

-- where each edge of the table meets a rule, each edge of the mesh does
pub each-edge : (mesh : FaceList) (table : List Edge) (labelling : LabellingView) → IsTableOf mesh table →
    ((k : ℕ) → k < length table → EntryMeetsRule mesh table labelling k) → (u v : ℕ) → IsTrue (is_edge mesh u v)
    → EdgeMeetsRule mesh labelling u v
each-edge mesh table labelling h all u v is =
    let found : IsEdgeBetween table u v = edge_between mesh table u v h is in
    let meets = all found.edge found.in_table in
    elim found.ends [
      | inl e ↦ subst (λ x. EdgeMeetsRule mesh labelling x v) e.0
          (subst (λ x. EdgeMeetsRule mesh labelling (edge_in table found.edge).low x) e.1 meets)
      | inr e ↦ edge-rule-swap mesh labelling v u
          (subst (λ x. EdgeMeetsRule mesh labelling x u) e.0
          (subst (λ x. EdgeMeetsRule mesh labelling (edge_in table found.edge).low x) e.1 meets))
    ]

-- the first edge of the table against the rules is the least
pub least-against : (mesh : FaceList) (table : List Edge) (labelling : LabellingView) (k : ℕ) → IsTableOf mesh table
    → IsFirstAgainstRules mesh table labelling k →
    IsLeastAgainstRules mesh labelling (edge_in table k).low (edge_in table k).high
least-against mesh table labelling k h first =
    let edge : Edge = edge_in table k in
    let is : IsEdgeOf mesh edge = h.edges k _ first.in_table in
    record {
      ordered = is.ordered;
      edge = table_pair mesh table k h first.in_table;
      against = first.against;
      least = λ a b up is_ab before.
          let found : IsEdgeBetween table a b = edge_between mesh table a b h is_ab in
          let other : Edge = edge_in table found.edge in
          let is_other : IsEdgeOf mesh other = h.edges found.edge _ found.in_table in
          let same = same_pair a b other.low other.high up is_other.ordered found.ends in
          let there : IsPairBefore other.low other.high edge.low edge.high = grind arith in
          let meets = first.first found.edge (place_before mesh table found.edge k h found.in_table first.in_table there) in
          subst (λ x. EdgeMeetsRule mesh labelling x b) same.0 (subst (λ x. EdgeMeetsRule mesh labelling other.low x) same.1 meets);
    }
