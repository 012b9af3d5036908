-- The word that is left when the entries of a word are put one after another. One elementary step anywhere in the
-- word does not change it.
use Rattle.turn_words.proofs.Common.{◌≡◌, ℕ, ◌<◌, ◌≤◌, inl, inr, arith, refl, sym, ◌∙◌, ap, ap₂, zero, suc, true, false, List, [], ◌∷◌, Option, Some, None, cases_eq, eq-eqb, ne_eqb, cases_lt, lt-ltb, le-ltb, first_quad_side, second_quad_side, across, InRange, put-good, put-put, add-cases, minus-cases, minus-one, add-lt, minus-lt, zero-add, add_assoc, IsCanonicalBackward, add, minus, Put, put, next_changed, spur_in, spur_out, pushed, from_place, after_step, Step, SpurIn, SpurOut, Push}

-- the entries put one after another, each changed by what the one before it left
abbrev pub read : ℕ → Put → List ℕ → Put
read d p [] = p
read d p (y ∷ rest) = read d (put d p.word (add d y p.change)) rest

-- a canonical word and a change below the degree
pub record IsSound (d : ℕ) (p : Put) : Type 0 where
  pub good : IsCanonicalBackward d p.word
  pub below : p.change < d

-- a rule of rewriting keeps the entries in range, and the word that is left
abbrev pub Keeps : ℕ → (List ℕ → Option (List ℕ)) → Type 0
Keeps d rule =
    (p : Put) (w v : List ℕ) → IsSound d p → InRange d w → rule w ≡ Some v → InRange d v × ((read d p w).word ≡ (read d p v).word)

abbrev pub state : List ℕ → ℕ → Put
state u n = record { word = u; change = n }

module _ (d : ℕ) (five : 5 ≤ d) where
  pub put-sound : (p : Put) (y : ℕ) → IsSound d p → y < d → IsSound d (put d p.word (add d y p.change))
  put-sound p y s h =
      let kept = put-good d five p.word (add d y p.change) s.good (add-lt d y p.change h s.below) in grind arith

  next-in-range : (c : ℕ) (w : List ℕ) → c < d → InRange d w → InRange d (next_changed d c w)
  next-in-range c [] h s = tt
  next-in-range c (y ∷ rest) h s = (add-lt d y c s.0 h, s.1)

  -- a changed entry read from one state, and the entry itself from a state whose change is larger
  read-changed : (u : List ℕ) (n c : ℕ) (rest : List ℕ) → n < d → c < d → InRange d rest →
      (read d (record { word = u; change = n }) (next_changed d c rest)).word ≡ (read d (record { word = u; change = add d c n }) rest).word
  read-changed u n c [] hn hc s = refl
  read-changed u n c (y ∷ rest) hn hc s = ap (λ t. (read d (put d u t) rest).word) (add_assoc d y c n s.0 hc hn)

  -- `x 0` and then the rest, against the rest changed by `x`
  read-spur : (p : Put) (x : ℕ) (rest : List ℕ) → IsSound d p → x < d → InRange d rest →
      (read d p (x ∷ 0 ∷ rest)).word ≡ (read d p (next_changed d x rest)).word
  read-spur p x rest s h r =
      let back = put-put d five p.word (add d x p.change) s.good in
      let kept = put-sound p x s h in
      let zero_turn = zero-add d (put d p.word (add d x p.change)).change kept.below in
      ap (λ q. (read d q rest).word) (ap (λ t. put d (put d p.word (add d x p.change)).word t) zero_turn ∙ back)
      ∙ sym (read-changed p.word p.change x rest s.below h r)

  keeps-spur_out : Keeps d (spur_out d)
  keeps-spur_out p [] v s r e = absurd cc
  keeps-spur_out p (x ∷ []) v s r e = absurd cc
  keeps-spur_out p (x ∷ turn ∷ rest) v s r e = elim (cases_eq turn 0) [
    | inl zero_turn ↦
        let is : next_changed d x rest ≡ v = cc in
        rw (← is, zero_turn) (next-in-range x rest r.0 r.1.1, read-spur p x rest s r.0 r.1.1)
    | inr other ↦ let refused = rw (ne_eqb turn 0 other) at e in absurd cc
  ]

  -- an amount that is added and taken away again
  pub next-back : (c : ℕ) (w : List ℕ) → c < d → InRange d w → next_changed d c (next_changed d (minus d c) w) ≡ w
  next-back c [] h s = refl
  next-back c (y ∷ rest) h s = grind (arith, minus-cases, add-cases)

  keeps-spur_in : (first : ℕ) → Keeps d (spur_in d first)
  keeps-spur_in first p w v s r e = elim (cases_lt first d) [
    | inl below ↦
        let allowed = rw (lt-ltb first d below) at e in
        let is : first ∷ 0 ∷ next_changed d (minus d first) w ≡ v = cc in
        let inner : InRange d (next_changed d (minus d first) w) = next-in-range (minus d first) w (minus-lt d first below) r in
        let zero_below : 0 < d = omega arith in
        rw (← is) (
          (below, (zero_below, inner)),
          sym (read-spur p first (next_changed d (minus d first) w) s below inner
              ∙ ap (λ q. (read d p q).word) (next-back first w below r)),
        )
    | inr above ↦ let refused = rw (le-ltb first d above) at e in absurd cc
  ]

  -- a push down
  read-push : (p : Put) (x : ℕ) (rest : List ℕ) → IsSound d p → x < d → InRange d rest →
      (read d p (x ∷ 1 ∷ rest)).word ≡ (read d p (add d x (minus d 1) ∷ minus d 1 ∷ next_changed d (minus d 1) rest)).word
  read-push p x rest s h r =
      let one = minus-one d five in
      let t = add d x p.change in
      let t_below : t < d = add-lt d x p.change h s.below in
      let a = first_quad_side d p.word t in
      let b = second_quad_side d p.word (add d t (minus d 1)) in
      let agree = across d five p.word t s.good t_below in
      let a_mid = put-good d five p.word t s.good t_below in
      let a_end = put-good d five (put d p.word t).word (add d 1 (put d p.word t).change) a_mid.0 (add-lt d 1 _ (omega arith) a_mid.1) in
      let down_below : add d t (minus d 1) < d = add-lt d t (minus d 1) t_below (omega arith) in
      let b_mid = put-good d five p.word (add d t (minus d 1)) s.good down_below in
      let b_end = put-good d five (put d p.word (add d t (minus d 1))).word
      (add d (minus d 1) (put d p.word (add d t (minus d 1))).change) b_mid.0 (add-lt d (minus d 1) _ (omega arith) b_mid.1) in
      let sums : add d t (minus d 1) ≡ add d (add d x (minus d 1)) p.change = grind (arith, add-cases) in
      let change : a.change ≡ add d (minus d 1) b.change = grind (arith, add-cases) in
      ap (λ q. (read d q rest).word) (ap₂ state agree.word change)
      ∙ sym (read-changed b.word b.change (minus d 1) rest b_end.1 (omega arith) r)
      ∙ ap (λ z. (read d (second_quad_side d p.word z) (next_changed d (minus d 1) rest)).word) sums

  keeps-down : Keeps d (pushed d false)
  keeps-down p [] v s r e = absurd cc
  keeps-down p (x ∷ []) v s r e = absurd cc
  keeps-down p (x ∷ turn ∷ rest) v s r e = elim (cases_eq turn 1) [
    | inl one ↦
        let off = minus-one d five in
        let is : add d x (minus d 1) ∷ minus d 1 ∷ next_changed d (minus d 1) rest ≡ v = cc in
        let minus_below : minus d 1 < d = omega arith in
        rw (← is, one) (
          (add-lt d x (minus d 1) r.0 minus_below, (minus_below, next-in-range (minus d 1) rest minus_below r.1.1)),
          read-push p x rest s r.0 r.1.1,
        )
    | inr other ↦ let refused = rw (ne_eqb turn 1 other) at e in absurd cc
  ]

  pub minus-next : (w : List ℕ) → InRange d w → next_changed d (minus d 1) (next_changed d 1 w) ≡ w
  minus-next [] s = refl
  minus-next (y ∷ rest) s = grind (arith, minus-one, add-cases)

  -- a push up is a push down read backward
  keeps-up : Keeps d (pushed d true)
  keeps-up p [] v s r e = absurd cc
  keeps-up p (x ∷ []) v s r e = absurd cc
  keeps-up p (x ∷ turn ∷ rest) v s r e = elim (cases_eq turn (minus d 1)) [
    | inl minus_one ↦
        let off = minus-one d five in
        let allowed = rw (eq-eqb turn (minus d 1) minus_one) at e in
        let is : add d x 1 ∷ 1 ∷ next_changed d 1 rest ≡ v = cc in
        let one_below : 1 < d = omega arith in
        let up_below : add d x 1 < d = add-lt d x 1 r.0 one_below in
        let inner : InRange d (next_changed d 1 rest) = next-in-range 1 rest one_below r.1.1 in
        let back : add d (add d x 1) (minus d 1) ≡ x = omega (arith, r.0, add-cases d x 1, add-cases d (add d x 1) (minus d 1)) in
        rw (← is, minus_one) (
          (up_below, (one_below, inner)),
          sym (read-push p (add d x 1) (next_changed d 1 rest) s up_below inner
              ∙ ap₂ (λ z q. (read d p (z ∷ minus d 1 ∷ q)).word) back (minus-next rest r.1.1)),
        )
    | inr other ↦ let refused = rw (ne_eqb turn (minus d 1) other) at e in absurd cc
  ]

  -- a rule that keeps the word does so one place later
  keeps-later : (rule : List ℕ → Option (List ℕ)) (at : ℕ) → Keeps d (from_place at rule) → Keeps d (from_place (suc at) rule)
  keeps-later rule at k p [] v s r e = absurd cc
  keeps-later rule at k p (x ∷ w) v s r e = go (from_place at rule w) refl
    where
      go : (o : Option (List ℕ)) → from_place at rule w ≡ o → InRange d v × ((read d p (x ∷ w)).word ≡ (read d p v).word)
      go None f = let refused = rw f at e in absurd cc
      go (Some u) f =
          let allowed = rw f at e in
          let is : x ∷ u ≡ v = cc in
          let kept = k (put d p.word (add d x p.change)) w u (put-sound p x s r.0) r.1 f in
          rw (← is) ((r.0, kept.0), kept.1)

  keeps-from_place : (rule : List ℕ → Option (List ℕ)) → Keeps d rule → (at : ℕ) → Keeps d (from_place at rule)
  keeps-from_place rule k zero = k
  keeps-from_place rule k (suc at) = keeps-later rule at (keeps-from_place rule k at)

  -- one elementary step anywhere in a word does not change the word that is left
  pub keeps-step : (step : Step) → Keeps d (after_step d step)
  keeps-step (SpurIn at first) = keeps-from_place (spur_in d first) (keeps-spur_in first) at
  keeps-step (SpurOut at) = keeps-from_place (spur_out d) keeps-spur_out at
  keeps-step (Push at true) = keeps-from_place (pushed d true) keeps-up at
  keeps-step (Push at false) = keeps-from_place (pushed d false) keeps-down at
