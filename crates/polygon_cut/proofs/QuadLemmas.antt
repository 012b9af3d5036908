-- The leftover rule of the places, the order of the places for degree 4, and how many darts have an edge of a set.
use Rattle.polygon_cut.proofs.Common.{reached_back, after_steps, IsReached, Rotations, IsRotationSystem, one_up, one_down, PolygonView, label_of, place_of, IsLabelled, HasFallingPlaces, ◌≡◌, ◌⊎◌, inl, inr, ℕ, zero, suc, ◌<◌, Bool, true, refl, ap, sym, ◌∙◌, subst, arith}
use Rattle.polygon_cut.proofs.PolygonLemmas.{is_own_side}
use Rattle.polygon_cut.proofs.PlaceLemmas.{Crosses, turning_permutes}

-- for a leftover dart with the label a whose twin has the label c, the spoke c + 1 stands one place before a
pub leftover_places : {maps : Rotations} {ring : ℕ → ℕ} {left : ℕ → Bool} {polygon : PolygonView} → IsRotationSystem maps
    → IsLabelled maps ring left polygon
    → HasFallingPlaces maps polygon → (d : ℕ) → d < maps.darts → left (maps.edge d) ≡ true
    → place_of polygon (one_up polygon.degree (label_of polygon (maps.twin d))) ≡ one_down polygon.degree
    (place_of polygon (label_of polygon d))
leftover_places {maps} {ring} {left} {polygon} r h p d l is =
    ap (λ (x : ℕ). place_of polygon (one_up polygon.degree (label_of polygon (maps.twin x))))
    (sym (is_own_side maps ring left polygon h d l is))
    ∙ p.falls (label_of polygon d) (h.label_below d l)

-- a number that turning leaves as it is is reached from no other
never_left : (f : ℕ → ℕ) (i : ℕ) → f i ≡ i → (k : ℕ) → after_steps f k i ≡ i
never_left f i e zero = refl
never_left f i e (suc k) = ap f (never_left f i e k) ∙ e

four : (x : ℕ) → x < 4 → (x ≡ 0) ⊎ ((x ≡ 1) ⊎ ((x ≡ 2) ⊎ (x ≡ 3)))
four x l = grind arith

-- of four sides the opposite ones lie across each other
pub opposite_sides : {t : ℕ → ℕ} → Crosses 4 t → ((j : ℕ) → j < 4 → IsReached (λ i. one_up 4 (t i)) 0 j) → (i : ℕ) → i < 4
    → one_up 4 (t i) ≡ one_down 4 i
opposite_sides {t} c all i l = elim (four (t 0) (c.below 0 (omega arith))) [
  | inl zero_is ↦ absurd (c.other 0 (omega arith) zero_is)
  | inr rest ↦ elim rest [
    | inl one ↦
        let back : t 1 ≡ 0 = ap t (sym one) ∙ c.back 0 (omega arith) in
        let stays : f 1 ≡ 1 = ap (one_up 4) back in
        let r = all 1 (omega arith) in
        let to_zero : IsReached f 1 0 = reached_back 4 f (turning_permutes c) 0 1 (omega arith) r in
        absurd (let e : 1 ≡ 0 = sym (never_left f 1 stays to_zero.steps) ∙ to_zero.leads in omega arith)
    | inr more ↦ elim more [
      | inr three ↦
          let stays : f 0 ≡ 0 = ap (one_up 4) three in
          let r = all 1 (omega arith) in
          absurd (let e : 0 ≡ 1 = sym (never_left f 0 stays r.steps) ∙ r.leads in omega arith)
      | inl two ↦
          let two_back : t 2 ≡ 0 = ap t (sym two) ∙ c.back 0 (omega arith) in
          let one_is : t 1 ≡ 3 = elim (four (t 1) (c.below 1 (omega arith))) [
            | inl a ↦ absurd (let e : 2 ≡ 1 = sym two ∙ ap t (sym a) ∙ c.back 1 (omega arith) in omega arith)
            | inr b ↦ elim b [
              | inl a ↦ absurd (c.other 1 (omega arith) a)
              | inr d ↦ elim d [
                | inl a ↦ absurd (let e : 0 ≡ 1 = sym two_back ∙ ap t (sym a) ∙ c.back 1 (omega arith) in omega arith)
                | inr a ↦ a
              ]
            ]
          ] in
          let three_is : t 3 ≡ 1 = ap t (sym one_is) ∙ c.back 1 (omega arith) in
          elim (four i l) [
            | inl e ↦ subst (λ (x : ℕ). f x ≡ one_down 4 x) (sym e) (ap (one_up 4) two)
            | inr b ↦ elim b [
              | inl e ↦ subst (λ (x : ℕ). f x ≡ one_down 4 x) (sym e) (ap (one_up 4) one_is)
              | inr d ↦ elim d [
                | inl e ↦ subst (λ (x : ℕ). f x ≡ one_down 4 x) (sym e) (ap (one_up 4) two_back)
                | inr e ↦ subst (λ (x : ℕ). f x ≡ one_down 4 x) (sym e) (ap (one_up 4) three_is)
              ]
            ]
          ]
    ]
  ]
]
  where
    f : ℕ → ℕ
    f x = one_up 4 (t x)

up_down : (i : ℕ) → i < 4 → one_down 4 (one_up 4 i) ≡ i
up_down i l = grind (arith, four)

down_up : (i : ℕ) → i < 4 → one_up 4 (one_down 4 i) ≡ i
down_up i l = grind (arith, four)

-- for degree 4 the places rise by one with the spokes
pub places_rise : {t : ℕ → ℕ} (place : ℕ → ℕ) → Crosses 4 t → ((j : ℕ) → j < 4 → IsReached (λ i. one_up 4 (t i)) 0 j)
    → ((i : ℕ) → i < 4 → place i < 4)
    → ((i : ℕ) → i < 4 → place (one_up 4 (t i)) ≡ one_down 4 (place i)) → (i : ℕ) → i < 4 → place (one_up 4 i) ≡ one_up 4 (place i)
places_rise {t} place c all below falls i l =
    let next : ℕ = one_up 4 i in
    let next_in : next < 4 = grind (arith, four) in
    let back : one_up 4 (t next) ≡ i = opposite_sides c all next next_in ∙ up_down i l in
    let fall : place i ≡ one_down 4 (place next) = ap place (sym back) ∙ falls next next_in in
    sym (ap (one_up 4) fall ∙ down_up (place next) (below next next_in))
