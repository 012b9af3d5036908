-- Places given by turning round the one vertex, from side to side.
use Rattle.polygon_cut.proofs.Common.{steps_within, after_steps, Rotations, PolygonView, HasFallingPlaces, one_down, turned, across, TurnsRound, IsPlacedByTurns, ◌≡◌, ◌≢◌, inl, inr, ℕ, suc, ◌+◌, ◌-◌, ◌<◌, List, length, get_or, ap, sym, ◌∙◌, subst, arith, set, cases_eq, nat_tests, get_or-set_same, get_or-set_other, length-set, slice_index}
use Rattle.polygon_cut.proofs.PlaceLemmas.{FallingPlaces, falling}
use Rattle.polygon_cut.proofs.PolygonLemmas.{one_up_below}
use Rattle.polygon_cut.proofs.RoundLemmas.{GoesRound, round_apart}

pub turns_go_round : {maps : Rotations} {polygon : PolygonView} → TurnsRound maps polygon → 0 < polygon.degree
    → GoesRound polygon.degree (turned maps polygon) 0
turns_go_round {maps} {polygon} t some = grind (arith, one_up_below, across)

-- as far as the turning has come: at which spoke it is, and the place that this gets
pub record IsTurning (degree : ℕ) (f : ℕ → ℕ) (turns : ℕ) (places : List ℕ) (spoke place : ℕ) : Type 0 where
  pub placed : IsPlacedByTurns degree f turns places
  pub at : spoke ≡ after_steps f turns 0
  pub first : turns ≡ 0 → place ≡ 0
  pub later : 0 < turns → place ≡ degree - turns

pub spoke_below : {degree : ℕ} {f : ℕ → ℕ} {turns : ℕ} {places : List ℕ} {spoke place : ℕ} → GoesRound degree f 0
    → IsTurning degree f turns places spoke place → spoke < degree
spoke_below {degree} {f} {turns} g h = subst (λ (i : ℕ). i < degree) (sym h.at) (steps_within degree f g.permutes turns 0 g.start)

pub turning_more : {degree : ℕ} {f : ℕ → ℕ} {turns : ℕ} {places : List ℕ} (new : List ℕ) {spoke place : ℕ} (next_spoke next_place : ℕ) →
    GoesRound degree f 0
    → turns < degree → IsTurning degree f turns places spoke place → new ≡ set places spoke place → next_spoke ≡ f spoke
    → next_place ≡ one_down degree place
    → IsTurning degree f (turns + 1) new next_spoke next_place
turning_more {degree} {f} {turns} {places} new {spoke} {place} next_spoke next_place g l h is spoke_is place_is = record {
  placed = record {
    each_spoke = ap (λ (xs : List ℕ). length xs) is ∙ length-set places spoke place ∙ h.placed.each_spoke;
    first = λ _. ap (λ (xs : List ℕ). slice_index xs 0) is ∙ (elim (cases_eq turns 0) [
      | inl none ↦
          let zero_spoke : spoke ≡ 0 = h.at ∙ ap (λ (m : ℕ). after_steps f m 0) none in
          ap (λ (i : ℕ). get_or (set places spoke place) i 0) (sym zero_spoke) ∙ get_or-set_same places spoke place 0 spoke_in
          ∙ h.first none
      | inr some ↦
          let apart : 0 ≢ spoke = λ e. round_apart g 0 turns (omega arith) l (e ∙ h.at) in
          get_or-set_other places spoke 0 place 0 apart ∙ h.placed.first (omega arith)
    ]);
    others = λ k some b. ap (λ (xs : List ℕ). slice_index xs (after_steps f k 0)) is ∙ (elim (cases_eq k turns) [
      | inl same ↦
          let here : after_steps f k 0 ≡ spoke = ap (λ (m : ℕ). after_steps f m 0) same ∙ sym h.at in
          let count : degree - turns ≡ degree - k = ap (λ (m : ℕ). degree - m) (sym same) in
          ap (λ (i : ℕ). get_or (set places spoke place) i 0) here ∙ get_or-set_same places spoke place 0 spoke_in
          ∙ h.later (omega (arith, same, some)) ∙ count
      | inr other ↦
          let less : k < turns = omega (arith, b, other) in
          let apart : after_steps f k 0 ≢ spoke = λ e. round_apart g k turns less l (e ∙ h.at) in
          get_or-set_other places spoke (after_steps f k 0) place 0 apart ∙ h.placed.others k some less
    ]);
  };
  at = spoke_is ∙ ap f h.at ∙ ap (λ (m : ℕ). after_steps f m 0) (let e : suc turns ≡ turns + 1 = omega arith in e);
  first = λ e. absurd (omega arith);
  later = λ _. place_is ∙ (elim (cases_eq turns 0) [
    | inl none ↦
        let zero_place : place ≡ 0 = h.first none in
        let count : degree - 1 ≡ degree - (turns + 1) = omega (arith, none) in
        let down : one_down degree place ≡ degree - 1 = ap (one_down degree) zero_place in
        down ∙ count
    | inr some ↦
        let is_place : place ≡ degree - turns = h.later (omega arith) in
        let more : 0 < place = omega (arith, is_place, l) in
        let down : one_down degree place ≡ place - 1 = grind (arith, nat_tests) in
        let count : place - 1 ≡ degree - (turns + 1) = omega (arith, is_place) in
        down ∙ count
  ]);
}
  where
    spoke_in : spoke < length places
    spoke_in = omega (arith, spoke_below g h, h.placed.each_spoke)

-- places that turning gives
pub places_are : {maps : Rotations} {polygon : PolygonView} → TurnsRound maps polygon → 0 < polygon.degree
    → IsPlacedByTurns polygon.degree (turned maps polygon) polygon.degree polygon.places → HasFallingPlaces maps polygon
places_are {maps} {polygon} t some h =
    let g : GoesRound polygon.degree (turned maps polygon) 0 = turns_go_round t some in
    let fall : FallingPlaces polygon.degree (turned maps polygon) (slice_index polygon.places) = grind (arith, falling) in
    record { each_spoke = h.each_spoke; below = fall.below; apart = fall.apart; falls = fall.falls }
