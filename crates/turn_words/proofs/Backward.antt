-- Each elementary step is undone by one, so reaching goes both ways.
use Rattle.turn_words.proofs.Common.{◌≡◌, ℕ, ◌<◌, ◌≤◌, inl, inr, arith, refl, sym, ◌∙◌, ap, ap₂, zero, suc, true, false, List, [], ◌∷◌, ◌++◌, Option, Some, None, cases_eq, eq-eqb, ne_eqb, cases_lt, lt-ltb, le-ltb, option_map, IsTurnWord, in-range-from, all-from, InRange, up-down, down-up, add-cases, minus-cases, add, minus, next_changed, spur_in, spur_out, pushed, from_place, after_step, after_word_steps, Reaches, Step, SpurIn, SpurOut, Push}
use Rattle.turn_words.proofs.Reading.{state, keeps-step, next-back, minus-next}
use Rattle.turn_words.proofs.Reaching.{start-sound, after_steps-append}

-- what a rule writes is written back by one of some rules
abbrev IsUndone : ℕ → (List ℕ → Option (List ℕ)) → (ℕ → List ℕ → Option (List ℕ)) → Type 0
IsUndone d rule backs = (w v : List ℕ) → InRange d w → rule w ≡ Some v → (k : ℕ) × (backs k v ≡ Some w)

module _ (d : ℕ) (five : 5 ≤ d) where
  -- an amount that is taken away and added again
  next-forth : (c : ℕ) (w : List ℕ) → c < d → InRange d w → next_changed d (minus d c) (next_changed d c w) ≡ w
  next-forth c [] h s = refl
  next-forth c (y ∷ rest) h s = grind (arith, minus-cases, add-cases)

  next-minus : (w : List ℕ) → InRange d w → next_changed d 1 (next_changed d (minus d 1) w) ≡ w
  next-minus [] s = refl
  next-minus (y ∷ rest) s = ap (λ z. z ∷ rest) (up-down d five y s.0)

  undone-spur_in : (first : ℕ) → IsUndone d (spur_in d first) (λ k. spur_out d)
  undone-spur_in first w v s e = elim (cases_lt first d) [
    | inl below ↦
        let allowed = rw (lt-ltb first d below) at e in
        let is : first ∷ 0 ∷ next_changed d (minus d first) w ≡ v = cc in
        (0, ap (spur_out d) (sym is) ∙ ap Some (next-back d five first w below s))
    | inr above ↦ let refused = rw (le-ltb first d above) at e in absurd cc
  ]

  undone-spur_out : IsUndone d (spur_out d) (spur_in d)
  undone-spur_out [] v s e = absurd cc
  undone-spur_out (x ∷ []) v s e = absurd cc
  undone-spur_out (x ∷ turn ∷ rest) v s e = elim (cases_eq turn 0) [
    | inl zero_turn ↦
        let is : next_changed d x rest ≡ v = cc in
        (x, rw (← is, lt-ltb x d s.0, zero_turn) (ap (λ z. Some (x ∷ 0 ∷ z)) (next-forth x rest s.0 s.1.1)))
    | inr other ↦ let refused = rw (ne_eqb turn 0 other) at e in absurd cc
  ]

  undone-up : IsUndone d (pushed d true) (λ k. pushed d false)
  undone-up [] v s e = absurd cc
  undone-up (x ∷ []) v s e = absurd cc
  undone-up (x ∷ turn ∷ rest) v s e = elim (cases_eq turn (minus d 1)) [
    | inl minus_one ↦
        let allowed = rw (eq-eqb turn (minus d 1) minus_one) at e in
        let is : add d x 1 ∷ 1 ∷ next_changed d 1 rest ≡ v = cc in
        let back : pushed d false (add d x 1 ∷ 1 ∷ next_changed d 1 rest) ≡ Some (x ∷ minus d 1 ∷ rest) =
        ap₂ (λ z w. Some (z ∷ minus d 1 ∷ w)) (down-up d five x s.0) (minus-next d five rest s.1.1) in
        (0, ap (pushed d false) (sym is) ∙ back ∙ ap (λ t. Some (x ∷ t ∷ rest)) (sym minus_one))
    | inr other ↦ let refused = rw (ne_eqb turn (minus d 1) other) at e in absurd cc
  ]

  undone-down : IsUndone d (pushed d false) (λ k. pushed d true)
  undone-down [] v s e = absurd cc
  undone-down (x ∷ []) v s e = absurd cc
  undone-down (x ∷ turn ∷ rest) v s e = elim (cases_eq turn 1) [
    | inl one ↦
        let is : add d x (minus d 1) ∷ minus d 1 ∷ next_changed d (minus d 1) rest ≡ v = cc in
        let back : pushed d true (add d x (minus d 1) ∷ minus d 1 ∷ next_changed d (minus d 1) rest) ≡ Some (x ∷ 1 ∷ rest) =
        rw (eq-eqb (minus d 1) (minus d 1) refl) (ap₂ (λ z w. Some (z ∷ 1 ∷ w)) (up-down d five x s.0) (next-minus rest s.1.1)) in
        (0, ap (pushed d true) (sym is) ∙ back ∙ ap (λ t. Some (x ∷ t ∷ rest)) (sym one))
    | inr other ↦ let refused = rw (ne_eqb turn 1 other) at e in absurd cc
  ]

  -- a rule that is undone is undone one place later
  undone-later : (rule : List ℕ → Option (List ℕ)) (backs : ℕ → List ℕ → Option (List ℕ)) (at : ℕ) →
      IsUndone d (from_place at rule) (λ k. from_place at (backs k))
      → IsUndone d (from_place (suc at) rule) (λ k. from_place (suc at) (backs k))
  undone-later rule backs at h [] v s e = absurd cc
  undone-later rule backs at h (x ∷ w) v s e = go (from_place at rule w) refl
    where
      go : (o : Option (List ℕ)) → from_place at rule w ≡ o → (k : ℕ) × (from_place (suc at) (backs k) v ≡ Some (x ∷ w))
      go None f = let refused = rw f at e in absurd cc
      go (Some u) f =
          let allowed = rw f at e in
          let is : x ∷ u ≡ v = cc in
          let earlier = h w u s.1 f in
          (earlier.0, ap (from_place (suc at) (backs earlier.0)) (sym is) ∙ ap (option_map (λ changed. x ∷ changed)) earlier.1)

  undone-from_place : (rule : List ℕ → Option (List ℕ)) (backs : ℕ → List ℕ → Option (List ℕ)) →
      IsUndone d rule backs → (at : ℕ) → IsUndone d (from_place at rule) (λ k. from_place at (backs k))
  undone-from_place rule backs h zero = h
  undone-from_place rule backs h (suc at) = undone-later rule backs at (undone-from_place rule backs h at)

  -- each step is undone by a step
  step-back : (step : Step) (w v : List ℕ) → InRange d w → after_step d step w ≡ Some v → (back : Step) × (after_step d back v ≡ Some w)
  step-back (SpurIn at first) w v s e =
      let back = undone-from_place (spur_in d first) (λ k. spur_out d) (undone-spur_in first) at w v s e in (SpurOut at, back.1)
  step-back (SpurOut at) w v s e = let back = undone-from_place (spur_out d) (spur_in d) undone-spur_out at w v s e in
      (SpurIn at back.0, back.1)
  step-back (Push at true) w v s e =
      let back = undone-from_place (pushed d true) (λ k. pushed d false) undone-up at w v s e in (Push at false, back.1)
  step-back (Push at false) w v s e =
      let back = undone-from_place (pushed d false) (λ k. pushed d true) undone-down at w v s e in (Push at true, back.1)

  steps-next : (step : Step) (steps : List Step) (w v : List ℕ) → InRange d w →
      ((u : List ℕ) → InRange d u → after_word_steps d steps u ≡ Some v → InRange d v × Reaches d v u) →
      after_word_steps d (step ∷ steps) w ≡ Some v → InRange d v × Reaches d v w
  steps-next step steps w v s h e = go (after_step d step w) refl
    where
      go : (o : Option (List ℕ)) → after_step d step w ≡ o → InRange d v × Reaches d v w
      go None f = let refused = rw f at e in absurd cc
      go (Some u) f =
          let allowed = rw f at e in
          let range = (keeps-step d five step (state [] 0) w u (start-sound d five) s f).0 in
          let rest = h u range allowed in
          let back = step-back step w u s f in
          let last : after_word_steps d (back.0 ∷ []) u ≡ Some w = rw back.1 refl in
          (rest.0, (rest.1.0 ++ (back.0 ∷ []), after_steps-append d rest.1.0 (back.0 ∷ []) v u rest.1.1 ∙ last))

  steps-back : (steps : List Step) (w v : List ℕ) → InRange d w → after_word_steps d steps w ≡ Some v → InRange d v × Reaches d v w
  steps-back [] w v s e = let same : w ≡ v = cc in rw (← same) (s, ([], refl))
  steps-back (step ∷ steps) w v s e = steps-next step steps w v s (λ u i f. steps-back steps u v i f) e

pub both-ways : (d : ℕ) (w v : List ℕ) → IsTurnWord d w → Reaches d w v → IsTurnWord d v × Reaches d v w
both-ways d w v t r =
    let back = steps-back d t.five r.0 w v (in-range-from d w t.in_range) r.1 in grind (arith, all-from)
