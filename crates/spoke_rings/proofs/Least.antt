-- Rows are compared by their first difference, and some start of a closed list is least.
use Rattle.spoke_rings.proofs.Common.{◌≡◌, ℕ, ◌+◌, ◌-◌, ◌*◌, ◌<◌, inl, inr, arith, refl, sym, ◌∙◌, ap, subst, zero, suc, cases_eq, cases_lt}
use Rattle.spoke_rings.proofs.Along.{same-rows}

-- a row from a start on
abbrev pub from : (ℕ → ℕ) → ℕ → ℕ → ℕ
from f a k = f (a + k)

-- the first row is greater where the two differ first
pub record Greater (f g : ℕ → ℕ) : Type 0 where
  pub place : ℕ
  pub same : (k : ℕ) → k < place → f k ≡ g k
  pub greater : g place < f place

pub greater-trans : (f g h : ℕ → ℕ) → Greater f g → Greater g h → Greater f h
greater-trans f g h a b = grind arith

pub greater-self : (f g : ℕ → ℕ) → ((k : ℕ) → f k ≡ g k) → ¬ Greater f g
greater-self f g same a = let e = same a.place in let d = a.greater in omega arith

-- two rows agree so far, or one is greater
pub data Compared (f g : ℕ → ℕ) (n : ℕ) : Type 0 where
  equal : ((k : ℕ) → k < n → f k ≡ g k) → Compared f g n
  first : Greater f g → Compared f g n
  second : Greater g f → Compared f g n

pub compared : (f g : ℕ → ℕ) (n : ℕ) → Compared f g n
compared f g zero = equal (λ k below. absurd (omega arith))
compared f g (suc n) = elim (compared f g n) [
  | first a ↦ first a
  | second b ↦ second b
  | equal h ↦ elim (cases_eq (f n) (g n)) [
    | inl e ↦ equal (λ k below. elim (cases_eq k n) [
      | inl is ↦ ap f is ∙ e ∙ sym (ap g is)
      | inr other ↦ h k (omega arith)
    ])
    | inr differ ↦ elim (cases_lt (g n) (f n)) [
      | inl more ↦ first (record { place = n; same = h; greater = more })
      | inr less ↦ second (record { place = n; same = λ k below. sym (h k below); greater = omega arith })
    ]
  ]
]

module _ (f : ℕ → ℕ) (n : ℕ) (some : 0 < n) (round : (k : ℕ) → f (k + n) ≡ f k) where
  from-round : (a k : ℕ) → from f a (k + n) ≡ from f a k
  from-round a k = let e : a + (k + n) ≡ a + k + n = omega arith in ap f e ∙ round (a + k)

  -- among the first even starts one is least
  record LeastBelow (count : ℕ) : Type 0 where
    start : ℕ
    start_below : start < suc count
    least : (b : ℕ) → b < suc count → ¬ Greater (from f (2 * start)) (from f (2 * b))

  least-below : (count : ℕ) → LeastBelow count
  least-below zero = grind (arith, greater-self, from)
  least-below (suc count) =
      let old = least-below count in
      let b_below = old.start_below in
      elim (compared (from f (2 * old.start)) (from f (2 * suc count)) n) [
        | first g ↦ record {
          start = suc count;
          start_below = omega arith;
          least = λ b below h. elim (cases_eq b (suc count)) [
            | inl e ↦ greater-self (from f (2 * suc count)) (from f (2 * b)) (λ k. ap (λ i. from f (2 * i) k) (sym e)) h
            | inr other ↦ old.least b (omega arith)
                (greater-trans (from f (2 * old.start)) (from f (2 * suc count)) (from f (2 * b)) g h)
          ];
        }
        | second g ↦ record {
          start = old.start;
          start_below = omega arith;
          least = λ b below h. elim (cases_eq b (suc count)) [
            | inl e ↦ greater-self (from f (2 * old.start)) (from f (2 * old.start)) (λ k. refl)
                (greater-trans (from f (2 * old.start)) (from f (2 * suc count)) (from f (2 * old.start))
                (subst (λ i. Greater (from f (2 * old.start)) (from f (2 * i))) e h) g)
            | inr other ↦ old.least b (omega arith) h
          ];
        }
        | equal e ↦
            let all = same-rows (from f (2 * old.start)) (from f (2 * suc count)) n some (from-round (2 * old.start))
            (from-round (2 * suc count)) e in
            record {
              start = old.start;
              start_below = omega arith;
              least = λ b below h. elim (cases_eq b (suc count)) [
                | inl is ↦ greater-self (from f (2 * old.start)) (from f (2 * suc count)) all
                    (subst (λ i. Greater (from f (2 * old.start)) (from f (2 * i))) is h)
                | inr other ↦ old.least b (omega arith) h
              ];
            }
      ]

  -- each even start is one of the first round
  record SameStart (half a : ℕ) : Type 0 where
    start : ℕ
    below : start < half
    same : (k : ℕ) → from f (2 * start) k ≡ from f (2 * a) k

  same-start : (half fuel a : ℕ) → n ≡ 2 * half → a < fuel → SameStart half a
  same-start half zero a e below = absurd (omega arith)
  same-start half (suc fuel) a e below = elim (cases_lt a half) [
    | inl inside ↦ record { start = a; below = inside; same = λ k. refl }
    | inr far ↦
        let earlier = same-start half fuel (a - half) e (omega arith) in
        record {
          start = earlier.start;
          below = earlier.below;
          same = λ k. grind arith;
        }
  ]

  -- so there is an even start of the first round from which no other is smaller
  pub record Least (half : ℕ) : Type 0 where
    pub start : ℕ
    pub start_below : start < half
    pub least : (b : ℕ) → ¬ Greater (from f (2 * start)) (from f (2 * b))

  pub least-start : (half : ℕ) → n ≡ 2 * half → Least half
  least-start half e =
      let found = least-below (half - 1) in
      let below = found.start_below in
      record {
        start = found.start;
        start_below = omega arith;
        least = λ b g. (let earlier = same-start half (suc b) b e (omega arith) in
            found.least earlier.start (let l = earlier.below in omega arith)
            (record {
              place = g.place;
              same = λ k before. g.same k before ∙ sym (earlier.same k);
              greater = let s = earlier.same g.place in let d = g.greater in omega arith;
            }));
      }
