-- Places round the one vertex: the numbers of the sides, taken as they come by turning, get falling places.
use Rattle.polygon_cut.proofs.Common.{IsPermutationBelow, Returns, returns_to, step_first, after_steps, IsReached, Rotations, IsRotationSystem, one_up, one_down, PolygonView, side_at, label_of, across, IsLabelled, ◌≡◌, ◌≢◌, ◌⊎◌, inl, inr, ℕ, suc, ◌-◌, ◌<◌, Bool, ap, sym, ◌∙◌, subst, arith, cases_eq, nat_tests, twin_edge, reached_soon}
use Rattle.polygon_cut.proofs.PolygonLemmas.{one_up_below, is_own_side}
use Rattle.polygon_cut.proofs.RoundLemmas.{whole_round}

-- the side across is below the degree, is another one, and lies across again
pub record Crosses (degree : ℕ) (t : ℕ → ℕ) : Type 0 where
  pub below : (i : ℕ) → i < degree → t i < degree
  pub other : (i : ℕ) → i < degree → t i ≢ i
  pub back : (i : ℕ) → i < degree → t (t i) ≡ i

pub sides_cross : (maps : Rotations) (ring : ℕ → ℕ) (left : ℕ → Bool) (polygon : PolygonView) → IsRotationSystem maps
    → IsLabelled maps ring left polygon
    → Crosses polygon.degree (across maps polygon)
sides_cross maps ring left polygon r h = record {
  below = λ i l. h.label_below (maps.twin (side_at polygon i)) (r.twin_within (side_at polygon i) (h.side_is_left i l).0);
  other = λ i l e. r.twin_other (side_at polygon i) (h.side_is_left i l).0 (sym (twin_side i l) ∙ ap (side_at polygon) e);
  back = λ i l.
      ap (λ (d : ℕ). label_of polygon (maps.twin d)) (twin_side i l)
      ∙ ap (label_of polygon) (r.twin_back (side_at polygon i) (h.side_is_left i l).0) ∙ h.own_number i l;
}
  where
    twin_side : (i : ℕ) → i < polygon.degree → side_at polygon (across maps polygon i) ≡ maps.twin (side_at polygon i)
    twin_side i l =
        let d : ℕ = side_at polygon i in
        let in_range : d < maps.darts = (h.side_is_left i l).0 in
        is_own_side maps ring left polygon h (maps.twin d) (r.twin_within d in_range) (ap left (sym (twin_edge maps r d in_range))
        ∙ (h.side_is_left i l).1)

up_apart : (degree i j : ℕ) → i < degree → j < degree → one_up degree i ≡ one_up degree j → i ≡ j
up_apart degree i j l k e = grind arith

pub turning_permutes : {degree : ℕ} {t : ℕ → ℕ} → Crosses degree t → IsPermutationBelow degree (λ i. one_up degree (t i))
turning_permutes {degree} {t} c = grind (arith, one_up_below, up_apart)

-- a list of places that falls by one with each turn from 0
pub record PlacedByTurns (degree : ℕ) (f place : ℕ → ℕ) : Type 0 where
  pub first : place 0 ≡ 0
  pub others : (k : ℕ) → 0 < k → k < degree → place (after_steps f k 0) ≡ degree - k

-- such places fall, are below the degree, and differ
pub record FallingPlaces (degree : ℕ) (f place : ℕ → ℕ) : Type 0 where
  pub below : (i : ℕ) → i < degree → place i < degree
  pub apart : (i j : ℕ) → i < degree → j < degree → place i ≡ place j → i ≡ j
  pub falls : (i : ℕ) → i < degree → place (f i) ≡ one_down degree (place i)

pub falling : {degree : ℕ} {f place : ℕ → ℕ} → IsPermutationBelow degree f → 0 < degree → ((j : ℕ) → j < degree → IsReached f 0 j)
    → PlacedByTurns degree f place
    → FallingPlaces degree f place
falling {degree} {f} {place} p some all h = record {
  below = λ i l. (let s = turns i l in at_below s.0 s.1 i s.2);
  apart = λ i j l k e. (let s = turns i l in let t = turns j k in sym s.2
      ∙ ap (λ (m : ℕ). after_steps f m 0) (same_turns s.0 t.0 s.1 t.1 (ap place s.2 ∙ e ∙ sym (ap place t.2))) ∙ t.2);
  falls = λ i l. (let s = turns i l in subst (λ (x : ℕ). place (f x) ≡ one_down degree (place x)) s.2 (next_falls s.0 s.1));
}
  where
    turns : (j : ℕ) → j < degree → (k : ℕ) × (k < degree) × (after_steps f k 0 ≡ j)
    turns j l = let r = all j l in reached_soon degree f p 0 some (suc r.steps) r.steps j (omega arith) r.leads

    value : (k : ℕ) → k < degree → ((k ≡ 0) × (place (after_steps f k 0) ≡ 0)) ⊎ ((0 < k) × (place (after_steps f k 0) ≡ degree - k))
    value k l = elim (cases_eq k 0) [
      | inl none ↦ inl (none, ap (λ (m : ℕ). place (after_steps f m 0)) none ∙ h.first)
      | inr more ↦ inr (omega arith, h.others k (omega arith) l)
    ]

    at_below : (k : ℕ) → k < degree → (i : ℕ) → after_steps f k 0 ≡ i → place i < degree
    at_below k l i e = elim (value k l) [
      | inl v ↦ (let is : place i ≡ 0 = ap place (sym e) ∙ v.1 in omega arith)
      | inr v ↦ (let is : place i ≡ degree - k = ap place (sym e) ∙ v.1 in omega (arith, v.0))
    ]

    same_turns : (k m : ℕ) → k < degree → m < degree → place (after_steps f k 0) ≡ place (after_steps f m 0) → k ≡ m
    same_turns k m l n e = elim (value k l) [
      | inl v ↦ elim (value m n) [
        | inl w ↦ v.0 ∙ sym w.0
        | inr w ↦ absurd (omega (arith, v.1, w.0, w.1))
      ]
      | inr v ↦ elim (value m n) [
        | inl w ↦ absurd (omega (arith, v.0, v.1, w.1))
        | inr w ↦ omega (arith, v.0, v.1, w.0, w.1)
      ]
    ]

    down_more : (x : ℕ) → 0 < x → one_down degree x ≡ x - 1
    down_more x l = grind (arith, nat_tests)

    round : Returns degree f 0
    round = returns_to degree f p 0 some

    period : suc round.less ≡ degree
    period = whole_round p 0 all round.less round.few round.back

    home : (k : ℕ) → suc k ≡ degree → after_steps f (suc k) 0 ≡ 0
    home k e =
        let same : round.less ≡ k = omega (arith, period, e) in
        ap (λ (m : ℕ). after_steps f (suc m) 0) (sym same) ∙ sym (step_first f round.less 0) ∙ round.back

    next_falls : (k : ℕ) → k < degree → place (f (after_steps f k 0)) ≡ one_down degree (place (after_steps f k 0))
    next_falls k l = elim (cases_eq (suc k) degree) [
      | inl last ↦
          let to : place (after_steps f (suc k) 0) ≡ 0 = ap place (home k last) ∙ h.first in
          elim (value k l) [
            | inl v ↦
                let one : degree - 1 ≡ 0 = omega (arith, v.0, last) in
                to ∙ sym (ap (one_down degree) v.1 ∙ one)
            | inr v ↦
                let one : place (after_steps f k 0) ≡ 1 = omega (arith, v.1, last) in
                to ∙ sym (ap (one_down degree) one ∙ down_more 1 (omega arith))
          ]
      | inr more ↦
          let to : place (after_steps f (suc k) 0) ≡ degree - suc k = h.others (suc k) (omega arith) (omega arith) in
          elim (value k l) [
            | inl v ↦
                let one : degree - suc k ≡ degree - 1 = omega (arith, v.0) in
                to ∙ one ∙ sym (ap (one_down degree) v.1)
            | inr v ↦
                let some_place : 0 < degree - k = omega arith in
                let one : degree - suc k ≡ degree - k - 1 = omega arith in
                to ∙ one ∙ sym (ap (one_down degree) v.1 ∙ down_more (degree - k) some_place)
          ]
    ]
