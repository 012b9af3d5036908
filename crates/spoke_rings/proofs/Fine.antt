-- Where nothing stands at any seam of a ring, its turns are canonical.
use Rattle.spoke_rings.proofs.Common.{IsCanonicalRow, up-one, less-one, IsLoop, IsFullWheel, turn_along, cyclic_turn, spoke_along, IsFine, ◌≡◌, ◌≢◌, ℕ, ◌+◌, ◌-◌, ◌%◌, ◌<◌, ◌≤◌, inl, inr, arith, sym, ◌∙◌, ap, zero, suc, Bool, true, false, List, length, get_or, mod-lt, cases_eq, cases_lt, add-cases, add-lt, minus-lt, add, minus}
use Rattle.spoke_rings.proofs.RingTurns.{turn_at, turn-round, turn-seam, turn-behind, spoke-below, place-below}

-- the turns from a place on
abbrev pub turns_from : (ℕ → ℕ) → ℕ → ℕ → ℕ
turns_from turn j k = turn (j + k)

pub fine-same : (d n : ℕ) (f g : ℕ → ℕ) → ((k : ℕ) → f k ≡ g k) → IsFine d n f → IsFine d n g
fine-same d n f g same fine = grind arith

module _ (d n : ℕ) (turn : ℕ → ℕ) (even : n % 2 ≡ 0) (some : 0 < n) (round : (k : ℕ) → turn (k + n) ≡ turn k)
    (fine : (j : ℕ) → j < n → IsFine d n (turns_from turn j)) where
  fine-later : (fuel j : ℕ) → j < fuel → IsFine d n (turns_from turn j)
  fine-later zero j below = absurd (omega arith)
  fine-later (suc fuel) j below = elim (cases_lt j n) [
    | inl inside ↦ fine j inside
    | inr far ↦ fine-same d n (turns_from turn (j - n)) (turns_from turn j)
        (λ k. (let e : j + k ≡ j - n + k + n = omega arith in sym (ap turn e ∙ round (j - n + k))))
        (fine-later fuel (j - n) (omega arith))
  ]

  pub fine-everywhere : (j : ℕ) → IsFine d n (turns_from turn j)
  fine-everywhere j = fine-later (suc j) j (omega arith)

  turn-zero : (j : ℕ) → turns_from turn j 0 ≡ turn j
  turn-zero j = let e : j + 0 ≡ j = omega arith in ap turn e

  -- of two turns each second one is the same
  parity-turn : n ≡ 2 → (fuel j : ℕ) → j < fuel → turn j ≡ turn (j % 2)
  parity-turn two zero j below = absurd (omega arith)
  parity-turn two (suc fuel) j below = elim (cases_lt j 2) [
    | inl first ↦ let e : j % 2 ≡ j = omega arith in ap turn (sym e)
    | inr later ↦
        let e : j ≡ j - 2 + n = omega arith in
        let same : (j - 2) % 2 ≡ j % 2 = omega arith in
        ap turn e ∙ round (j - 2) ∙ parity-turn two fuel (j - 2) (omega arith) ∙ ap turn same
  ]

  two-round : (j i : ℕ) → n ≡ 2 → j % 2 ≡ i → turn j ≡ 1 → turn i ≡ 1
  two-round j i two same is = ap turn (sym same) ∙ sym (parity-turn two (suc j) j (omega arith)) ∙ is

  -- a run that begins and ends with a turn 1, at each length
  pub no-run : (n ≡ 2 → turn 0 ≡ 1 → turn 1 ≡ 1 → ⊥) → (at k : ℕ) → turn at ≡ 1 → ((i : ℕ) → i < k → turn (at + 1 + i) ≡ 2) →
      turn (at + 1 + k) ≢ 1
  no-run not_two at k opened run closed = elim (cases_lt k n) [
    | inr long ↦
        let again : turn (at + 1 + (n - 1)) ≡ 2 = run (n - 1) (omega arith) in
        let e : at + 1 + (n - 1) ≡ at + n = omega arith in
        let same = ap turn e ∙ round at in
        absurd (omega arith)
    | inl short ↦ elim (cases_eq (k + 1) n) [
      | inl all ↦
          (fine-everywhere at).no_bracket (turn-zero at ∙ opened) k (record {
            below = short;
            run = λ i below. (let e : at + (n - 1 - i) ≡ at + 1 + (k - 1 - i) = omega arith in ap turn e ∙ run (k - 1 - i) (omega arith));
            opens = inl all;
          })
      | inr not_all ↦ elim (cases_eq (k + 2) n) [
        | inr not_most ↦
            (fine-everywhere (at + 1 + k)).no_bracket (turn-zero (at + 1 + k) ∙ closed) k (record {
              below = short;
              run = λ i below. (
                  let e : at + 1 + k + (n - 1 - i) ≡ at + 1 + (k - 1 - i) + n = omega arith in
                  ap turn e ∙ round (at + 1 + (k - 1 - i)) ∙ run (k - 1 - i) (omega arith)
                  );
              opens = inr (omega arith, (let e : at + 1 + k + (n - 1 - k) ≡ at + n = omega arith in ap turn e ∙ round at ∙ opened));
            })
        | inl most ↦ elim (cases_eq n 2) [
          | inl two ↦
              let none : k ≡ 0 = omega arith in
              let e : at + 1 + k ≡ at + 1 = omega arith in
              elim (cases_eq (at % 2) 0) [
                | inl first ↦ not_two two (two-round at 0 two (omega arith) opened) (two-round (at + 1) 1 two (omega arith) (ap turn
                    (sym e) ∙ closed))
                | inr second ↦ not_two two (two-round (at + 1) 0 two (omega arith) (ap turn (sym e)
                    ∙ closed)) (two-round at 1 two (omega arith) opened)
              ]
          | inr more ↦
              (fine-everywhere (at + n)).no_bracket (turn-zero (at + n) ∙ round at ∙ opened) 0 (record {
                below = some;
                run = λ i below. absurd (omega arith);
                opens = grind arith;
              })
        ]
      ]
    ]
  ]

  pub fine-turn : (j : ℕ) → (turn j ≢ 0) × (turn j ≢ minus d 1)
  fine-turn j =
      let at_j = fine-everywhere j in
      ((λ e. at_j.no_spur (turn-zero j ∙ e)), (λ e. at_j.no_minus (turn-zero j ∙ e)))

-- a spoke of a loop, again and again
pub along-below : (places s : List ℕ) → IsLoop places s → 0 < length s → (k : ℕ) → spoke_along s k < length places
along-below places s loop some k = spoke-below places s (k % length s) loop (mod-lt k some)

pub turn-in : (places : List ℕ) → IsFullWheel places → (s : List ℕ) → IsLoop places s → (v : Bool) → 0 < length s → (k : ℕ) →
    turn_along places v s k < length places
turn-in places full s loop v some k = grind (arith, add-lt, place-below, along-below, minus-lt)

module _ (places : List ℕ) (full : IsFullWheel places) (s : List ℕ) (loop : IsLoop places s) where
  -- round a vertex and a middle there are no two turns 1 alone
  two-ones : length s ≡ 2 → cyclic_turn places s 0 ≡ 1 → cyclic_turn places s 1 ≡ 1 → ⊥
  two-ones two first second =
      let five = full.own.five in
      let a = get_or s 0 0 in
      let b = get_or s 1 0 in
      let a_in : a < length places = spoke-below places s 0 loop (omega arith) in
      let b_in : b < length places = spoke-below places s 1 loop (omega arith) in
      let end : length s - 1 ≡ 1 = omega arith in
      let at_vertex : turn_at places true b a ≡ 1 =
      sym (turn-seam places true s (omega arith) ∙ ap (λ k. turn_at places true (get_or s k 0) a) end) ∙ first in
      let in_middle : turn_at places false a b ≡ 1 = sym (turn-behind places true s 1 (omega arith) (omega arith)) ∙ second in
      let q = full.full a a_in in
      let c = q.partner in
      let c_in = q.quad.c_below in
      let inside = full.own.wheel.inside in
      let four : 4 ≤ length places = omega arith in
      let up : add (length places) a 1 ≡ b = up-one (length places) four a b a_in b_in in_middle in
      let place_up = less-one (length places) four (get_or places b 0) (get_or places a 0) (inside b b_in) (inside a a_in)
      (up-one (length places) four (get_or places b 0) (get_or places a 0) (inside b b_in) (inside a a_in) at_vertex) in
      let next = add-lt (length places) c 1 c_in (omega arith) in
      let same : b ≡ add (length places) c 1 = full.own.wheel.once b (add (length places) c 1) b_in next (place_up ∙ sym q.quad.a_place) in
      q.other (omega (arith, add-cases (length places) a 1, add-cases (length places) c 1))

  -- with nothing at any seam, the turns are canonical if they are not all -2
  pub canonical-turns : 0 < length s → ((j : ℕ) → j < length s → IsFine (length places) (length s) (turns_from (cyclic_turn places s) j)) →
      ¬ ((at : ℕ) → cyclic_turn places s at ≡ minus (length places) 2) → IsCanonicalRow (length places) (length s) (cyclic_turn places s)
  canonical-turns some fine not_all =
      let round = turn-round places true s loop.even in
      record {
        some = some;
        comes_round = round;
        below = λ at. turn-below at;
        no_spur = λ at. (fine-turn (length places) (length s) (cyclic_turn places s) loop.even some round fine at).0;
        no_minus = λ at. (fine-turn (length places) (length s) (cyclic_turn places s) loop.even some round fine at).1;
        no_bracket = no-run (length places) (length s) (cyclic_turn places s) loop.even some round fine two-ones;
        not_all_fall = not_all;
      }
    where
      turn-below : (at : ℕ) → cyclic_turn places s at < length places
      turn-below at = turn-in places full s loop true some at
