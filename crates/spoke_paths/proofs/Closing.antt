-- A bracket at the end of a path is closed, quad by quad.
use Rattle.spoke_paths.proofs.Common.{from_vertex, turn_of, Opens, IsTurnedOver, IsBracketClosed, ◌≡◌, ℕ, ◌+◌, ◌-◌, ◌<◌, ◌≤◌, arith, inl, inr, refl, sym, ◌∙◌, ap, ap₂, subst, suc, Bool, true, false, not, List, All, length, get_or, cases_eq, cases_lt, get_or-remove_below, get_or-remove_above, length-remove, remove, if◌then◌else◌, add-cases, minus-cases, add-lt, minus-lt, add-zero, add, minus, place_round, IsWheel}
use Rattle.std.proofs.Math.Bool.{not-not}
use Rattle.spoke_paths.proofs.Turning.{from-next}

-- what is known while the quads are gone round: the turn at `at` still closes, or is 0 where the bracket opened
pub record Closing (places : List ℕ) (start one back run : ℕ) (old now : List ℕ) (at : ℕ) : Type 0 where
  pub as_long : length now ≡ length old
  pub from : start ≤ at
  pub within : at < length now
  pub same : (k : ℕ) → k < at → get_or now k 0 ≡ get_or old k 0
  pub first : at + 1 ≡ length now → get_or now at 0 ≡ get_or old at 0
  pub closes : start < at → turn_of places now at ≡ one
  pub spur : at ≡ start → turn_of places now at ≡ 0
  pub next : at + 1 < length now → turn_of places now (at + 1) ≡ back
  pub behind : (k : ℕ) → at + 2 ≤ k → k < length now → turn_of places now k ≡ run

-- The turns of a bracket and of its end: 1 and 2 with -1 and -2, or the other way.
pub record Signs (d one back two run : ℕ) : Type 0 where
  pub one_in : one < d
  pub back_in : back < d
  pub sum : one + back ≡ d
  pub two_is : two ≡ add d one one
  pub run_is : run ≡ add d back back

module _ (d one back two run : ℕ) (signs : Signs d one back two run) where
  two-less : add d two back ≡ one
  two-less = grind (arith, add-cases)

  one-less : add d one back ≡ 0
  one-less = grind (arith, add-cases)

  -- the turn against a spoke that comes one later
  against-later : (v p : ℕ) → v < d → p < d → add d v (minus d (add d p one)) ≡ add d (add d v (minus d p)) back
  against-later v p hv hp = grind (arith, add-lt, minus-cases, add-cases)

  -- the turn of a spoke that comes one earlier
  earlier-turn : (p q : ℕ) → p < d → q < d → add d (add d p back) (minus d q) ≡ add d (add d p (minus d q)) back
  earlier-turn p q hp hq = grind (arith, minus-cases, add-cases)

  -- what a turn tells of the places
  by-turn : (p q t : ℕ) → p < d → q < d → add d p (minus d q) ≡ t → p ≡ add d q t
  by-turn p q t hp hq e = omega (arith, minus-cases d q hq, add-cases d p (minus d q), add-cases d q t)

pub down-signs : (d : ℕ) → 4 ≤ d → Signs d 1 (minus d 1) 2 (minus d 2)
down-signs d four = grind (arith, minus-lt, minus-cases, add-cases)

pub up-signs : (d : ℕ) → 4 ≤ d → Signs d (minus d 1) 1 (minus d 2) 2
up-signs d four =
    let s = down-signs d four in
    let sum = s.sum in grind arith

from-two : (n : ℕ) → from_vertex (suc (suc n)) ≡ from_vertex n
from-two n = from-next (suc n) ∙ ap not (from-next n) ∙ not-not (from_vertex n)

module _ (places : List ℕ) (wheel : IsWheel places) (start one back two run : ℕ) (signs : Signs (length places) one back two run) where
  round-in : (b : Bool) (x : ℕ) → x < length places → place_round places b x < length places
  round-in true x h = wheel.inside x h
  round-in false x h = h

  turn-same : (now old : List ℕ) (k : ℕ) → get_or now k 0 ≡ get_or old k 0 → get_or now (k - 1) 0 ≡ get_or old (k - 1) 0
      → turn_of places now k ≡ turn_of places old k
  turn-same now old k e f = grind arith

  -- one more quad is gone round
  pub closing-next : (old now new : List ℕ) (at a : ℕ) → a + 1 ≡ at → start < at → 1 ≤ start
      → Opens places old one two start (length old - 1) →
      All (λ spoke. spoke < length places) now → Closing places start one back run old now at → IsTurnedOver places a one back now new →
      All (λ spoke. spoke < length places) new → Closing places start one back run old new a
  closing-next old now new at a a_is lt positive opens below c t below_new =
      let d = length places in
      let long = t.as_long in
      let within = c.within in
      let as_long = c.as_long in
      let spoke_in : (k : ℕ) → k < length now → get_or now k 0 < d = λ k h. below k 0 h in
      let kept : (k : ℕ) → k < a → get_or new k 0 ≡ get_or old k 0 =
      λ k h. t.same k (λ e. absurd (omega arith)) (λ e. absurd (omega arith)) ∙ c.same k (omega arith) in
      let a_same : get_or now a 0 ≡ get_or old a 0 = c.same a (omega arith) in
      let a_one : 1 ≤ a = omega arith in
      let before_same : get_or new (a - 1) 0 ≡ get_or old (a - 1) 0 = kept (a - 1) (omega arith) in
      let b = from_vertex a in
      let turn_now : turn_of places new a ≡ add d (turn_of places old a) back =
      ap₂ (λ x y. add d x (minus d (place_round places b y))) (t.first ∙ ap (λ z. add d (place_round places b z) back) a_same) before_same
      ∙ earlier-turn d one back two run signs (place_round places b (get_or old a 0)) (place_round places b (get_or old (a - 1) 0))
      (round-in b _ (subst (λ z. z < d) a_same (spoke_in a (omega arith))))
      (round-in b _ (subst (λ z. z < d) (c.same (a - 1) (omega arith)) (spoke_in (a - 1) (omega arith)))) in
      record {
        as_long = long ∙ as_long;
        from = omega arith;
        within = omega arith;
        same = kept;
        first = λ e. absurd (omega arith);
        closes = λ later. turn_now ∙ ap (λ z. add d z back) (opens.run a later (omega arith)) ∙ two-less d one back two run signs;
        spur = λ e. turn_now ∙ ap (λ z. add d z back) (ap (turn_of places old) e ∙ opens.opening) ∙ one-less d one back two run signs;
        next = λ h. t.between;
        behind = λ k from k_in. elim (cases_eq k (a + 2)) [
          | inl e ↦ closing-behind k e k_in
          | inr ne ↦ (
              let k_same : get_or new k 0 ≡ get_or now k 0 = t.same k (λ e. absurd (omega arith)) (λ e. absurd (omega arith)) in
              let k_before : get_or new (k - 1) 0 ≡ get_or now (k - 1) 0 =
              t.same (k - 1) (λ e. absurd (omega arith)) (λ e. absurd (omega arith)) in
              turn-same new now k k_same k_before ∙ c.behind k (omega arith) (omega arith)
              )
        ];
      }
    where
      closing-behind : (k : ℕ) → k ≡ a + 2 → k < length new → turn_of places new k ≡ run
      closing-behind k e k_in =
          let d = length places in
          let long = t.as_long in
          let same_side : from_vertex k ≡ from_vertex a = ap from_vertex (let f : k ≡ suc (suc a) = omega arith in f) ∙ from-two a in
          let k_same : get_or new k 0 ≡ get_or now k 0 = t.same k (λ f. absurd (omega arith)) (λ f. absurd (omega arith)) in
          let before : k - 1 ≡ a + 1 = omega arith in
          let b = from_vertex a in
          let later : turn_of places new k ≡ add d (place_round places b (get_or now k 0))
          (minus d (add d (place_round places b (get_or now (a + 1) 0)) one)) =
          rw (same_side, before, k_same, t.second) refl in
          let was : turn_of places now k ≡ back = ap (turn_of places now) (let f : k ≡ at + 1 = omega arith in f) ∙ c.next (omega arith) in
          let was_is : add d (place_round places b (get_or now k 0)) (minus d (place_round places b (get_or now (a + 1) 0))) ≡ back =
          rw (same_side, before) at was in
          later
          ∙ against-later d one back two run signs (place_round places b (get_or now k 0)) (place_round places b (get_or now (a + 1) 0))
          (round-in b _ (below k 0 (omega arith))) (round-in b _ (below (a + 1) 0 (omega arith)))
          ∙ ap (λ z. add d z back) was_is ∙ sym signs.run_is

pub signs-of : (d : ℕ) (up : Bool) → 4 ≤ d
    → Signs d (if up then minus d 1 else 1) (if up then 1 else minus d 1) (if up then minus d 2 else 2) (if up then 2 else minus d 2)
signs-of d true four = up-signs d four
signs-of d false four = down-signs d four

-- two spokes that come to one place are one
same-place : (places : List ℕ) → IsWheel places → (b : Bool) (x y : ℕ) → x < length places → y < length places
    → place_round places b x ≡ place_round places b y → x ≡ y
same-place places wheel true x y hx hy e = wheel.once x y hx hy e
same-place places wheel false x y hx hy e = e

module _ (places : List ℕ) (wheel : IsWheel places) (start one back two run : ℕ) (signs : Signs (length places) one back two run) where
  pub spur-stands : (old now : List ℕ) (at : ℕ) → at ≡ start → 1 ≤ start → All (λ spoke. spoke < length places) now
      → Closing places start one back run old now at →
      get_or now (start - 1) 0 ≡ get_or now start 0
  spur-stands old now at at_is positive below c =
      let d = length places in
      let b = from_vertex start in
      let x_in : get_or now start 0 < d = below start 0 (omega arith) in
      let y_in : get_or now (start - 1) 0 < d = below (start - 1) 0 (omega arith) in
      let x_round = round-in places wheel start one back two run signs b _ x_in in
      let y_round = round-in places wheel start one back two run signs b _ y_in in
      let zero_turn : turn_of places now start ≡ 0 = ap (turn_of places now) (sym at_is) ∙ c.spur at_is in
      let places_same = by-turn d one back two run signs (place_round places b (get_or now start 0))
      (place_round places b (get_or now (start - 1) 0)) 0 x_round y_round zero_turn in grind (arith, same-place, add-zero)

  pub closed-is : (old now : List ℕ) (at : ℕ) → at ≡ start → 1 ≤ start → start + 1 < length old → All (λ spoke. spoke < length places) now →
      Closing places start one back run old now at → IsBracketClosed places start back run old (remove (remove now start) (start - 1))
  closed-is old now at at_is positive more below c =
      let d = length places in
      let as_long = c.as_long in
      let within = c.within in
      let first_long = length-remove now start (omega arith) in
      let second_long = length-remove (remove now start) (start - 1) (omega arith) in
      let new = remove (remove now start) (start - 1) in
      let low : (k : ℕ) → k + 1 < start → get_or new k 0 ≡ get_or now k 0 =
      λ k h. get_or-remove_below (remove now start) (start - 1) 0 k (omega arith) (omega arith)
      ∙ get_or-remove_below now start 0 k (omega arith) (omega arith) in
      let high : (k : ℕ) → start ≤ k + 1 → get_or new k 0 ≡ get_or now (k + 1 + 1) 0 =
      λ k h. get_or-remove_above (remove now start) (start - 1) 0 k (omega arith) (omega arith)
      ∙ get_or-remove_above now start 0 (k + 1) (omega arith) (omega arith) in
      record {
        shorter = omega arith;
        same = λ k h. low k h ∙ c.same k (omega arith);
        turn = λ two_or_more. (
            let p = start - 1 in
            let b = from_vertex p in
            let later : p + 1 + 1 ≡ start + 1 = omega arith in
            let side : from_vertex (start + 1) ≡ b = ap from_vertex (let e : start + 1 ≡ suc (suc p) = omega arith in e) ∙ from-two p in
            let here : get_or new p 0 ≡ get_or now (start + 1) 0 = high p (omega arith) ∙ ap (λ n. get_or now n 0) later in
            let before : get_or new (p - 1) 0 ≡ get_or old (p - 1) 0 = low (p - 1) (omega arith) ∙ c.same (p - 1) (omega arith) in
            let x_in : get_or now (start + 1) 0 < d = below (start + 1) 0 (omega arith) in
            let y_in : get_or now start 0 < d = below start 0 (omega arith) in
            let z_in : get_or now p 0 < d = below p 0 (omega arith) in
            let q_in : get_or now (p - 1) 0 < d = below (p - 1) 0 (omega arith) in
            let next_turn : turn_of places now (start + 1) ≡ back = grind arith in
            let one_less : start + 1 - 1 ≡ start = omega arith in
            let plain : add d (place_round places b (get_or now (start + 1) 0)) (minus d (place_round places b (get_or now start 0)))
            ≡ back = rw (side, one_less) at next_turn in
            let moved = by-turn d one back two run signs (place_round places b (get_or now (start + 1) 0))
            (place_round places b (get_or now start 0)) back
            (round-in places wheel start one back two run signs b _ x_in) (round-in places wheel start one back two run signs b _ y_in)
            plain in
            let old_one : get_or now start 0 ≡ get_or old p 0 = sym (spur-stands old now at at_is positive below c)
            ∙ c.same p (omega arith) in
            ap₂ (λ x y. add d x (minus d (place_round places b y))) (ap (place_round places b) here ∙ moved
            ∙ ap (λ z. add d (place_round places b z) back) old_one) before
            ∙ earlier-turn d one back two run signs (place_round places b (get_or old p 0)) (place_round places b (get_or old (p - 1) 0))
            (round-in places wheel start one back two run signs b _ (subst (λ z. z < d) (c.same p (omega arith)) z_in))
            (round-in places wheel start one back two run signs b _ (subst (λ z. z < d) (c.same (p - 1) (omega arith)) q_in))
            );
        behind = λ k from k_in. (
            let side : from_vertex (k + 1 + 1) ≡ from_vertex k = ap from_vertex (let e : k + 1 + 1 ≡ suc (suc k) = omega arith in e)
            ∙ from-two k in
            let here : get_or new k 0 ≡ get_or now (k + 1 + 1) 0 = high k (omega arith) in
            let before : get_or new (k - 1) 0 ≡ get_or now (k + 1) 0 =
            high (k - 1) (omega arith) ∙ ap (λ n. get_or now n 0) (let e : k - 1 + 1 + 1 ≡ k + 1 = omega arith in e) in
            let one_less : k + 1 + 1 - 1 ≡ k + 1 = omega arith in
            let far : turn_of places now (k + 1 + 1) ≡ run = c.behind (k + 1 + 1) (omega arith) (omega arith) in
            rw (here, before) (rw (side, one_less) at far)
            );
      }

-- spokes stay below the degree where some go
pub below-remove : (d : ℕ) (path : List ℕ) (at : ℕ) → at < length path → All (λ spoke. spoke < d) path
    → All (λ spoke. spoke < d) (remove path at)
below-remove d path at at_in h k e k_in =
    let long = length-remove path at at_in in
    elim (cases_lt k at) [
      | inl low ↦ rw (get_or-remove_below path at e k low at_in) (h k e (omega arith))
      | inr high ↦ rw (get_or-remove_above path at e k high at_in) (h (k + 1) e (omega arith))
    ]
