-- The two sides of a quad: a turn `t` and then 1, and a turn `t - 1` and then -1, leave the same word.
use Rattle.std.proofs.Common.{◌≡◌, ◌≢◌, ℕ, ◌<◌, ◌≤◌, inl, inr, arith, refl, ◌∙◌, subst, true, false, List, [], ◌∷◌}
use Rattle.std.proofs.lemmas.Bool.{cases_eq, cases_Bool}
use Rattle.turn_words.specs.Modulo.{add, minus}
use Rattle.turn_words.specs.PutTurns.{Put, is_open, flipped, closed, put}
use Rattle.turn_words.specs.Lemmas.Sums.{add-cases, minus-one, minus-two, add-zero, zero-add, add_comm}
use Rattle.turn_words.specs.Lemmas.WordEnds.{Follows, IsCanonicalBackward, IsCons, good-head, open-two, open-other, open-cases, flipped-run, flipped-end, flipped-cons, closed-two, closed-cons, put-flip, put-close, put-else}
use Rattle.turn_words.specs.Lemmas.PutLaws.{follows-down, up-down, follows-up, follows-two, follows-one, follows-minus-two}

-- the first side and the second side
abbrev pub first_quad_side : ℕ → List ℕ → ℕ → Put
first_quad_side d r t = let before = put d r t in put d before.word (add d 1 before.change)

abbrev pub second_quad_side : ℕ → List ℕ → ℕ → Put
second_quad_side d r t = let before = put d r t in put d before.word (add d (minus d 1) before.change)

-- the same word, and the changes differ by one
pub record Agree (d : ℕ) (p q : Put) : Type 0 where
  pub word : p.word ≡ q.word
  pub change : add d p.change 1 ≡ q.change

module _ (d : ℕ) (five : 5 ≤ d) where
  -- small sums
  one-zero : add d 1 0 ≡ 1
  one-zero = add-zero d 1 (omega arith)

  minus-zero : add d (minus d 1) 0 ≡ minus d 1
  minus-zero = add-zero d (minus d 1) (omega (arith, minus-one d five))

  pub one-one : add d 1 1 ≡ 2
  one-one = omega (arith, add-cases d 1 1)

  pub one-minus : add d 1 (minus d 1) ≡ 0
  one-minus = omega (arith, minus-one d five, add-cases d 1 (minus d 1))

  minus-up : add d (minus d 1) 1 ≡ 0
  minus-up = omega (arith, minus-one d five, add-cases d (minus d 1) 1)

  zero-up : add d 0 1 ≡ 1
  zero-up = zero-add d 1 (omega arith)

  pub minus-minus : add d (minus d 1) (minus d 1) ≡ minus d 2
  minus-minus = omega (arith, minus-one d five, minus-two d five, add-cases d (minus d 1) (minus d 1))

  pub two-up : add d (minus d 2) 1 ≡ minus d 1
  two-up = omega (arith, minus-one d five, minus-two d five, add-cases d (minus d 2) 1)

  pub two-down : add d 2 (minus d 1) ≡ 1
  two-down = omega (arith, minus-one d five, add-cases d 2 (minus d 1))

  zero-down : add d 0 (minus d 1) ≡ minus d 1
  zero-down = zero-add d (minus d 1) (omega (arith, minus-one d five))

  -- a turn 0: the last entry goes
  across-zero-end : (x : ℕ) (r : List ℕ) → IsCanonicalBackward d (x ∷ r) → (IsCons r → x ≢ minus d 2)
      → put d r (add d 1 x) ≡ record { word = add d x 1 ∷ r; change = 0 }
  across-zero-end x [] g h = let turned = add_comm d 1 x in rw turned refl
  across-zero-end x (y ∷ r) g h =
      let turned = add_comm d 1 x in
      rw (turned, put-else d five (y ∷ r) (add d x 1) tt (follows-up d five x y r g (h tt))) refl

  -- on the empty word
  across-start : (t : ℕ) → t < d → Agree d (first_quad_side d [] t) (second_quad_side d [] (add d t (minus d 1)))
  across-start t h =
      rw (
        one-zero,
        put-else d five (t ∷ []) 1 tt (follows-one d five (t ∷ []) refl),
        minus-zero,
        put-flip d five (add d t (minus d 1) ∷ []) tt,
        up-down d five t h,
      )
      (record { word = refl; change = zero-up })

  -- a spur against a flip
  across-zero-run : (y : ℕ) (r : List ℕ)
      → Agree d (first_quad_side d (minus d 2 ∷ y ∷ r) 0) (second_quad_side d (minus d 2 ∷ y ∷ r) (minus d 1))
  across-zero-run y r =
      let turned = add_comm d 1 (minus d 2) in
      rw (put-flip d five (minus d 2 ∷ y ∷ r) tt, flipped-run d five (y ∷ r) tt, minus-up, turned, two-up, put-flip d five (y ∷ r) tt)
      (record { word = refl; change = one-one })

  across-zero-last : (x : ℕ) (r : List ℕ) → IsCanonicalBackward d (x ∷ r) → (IsCons r → x ≢ minus d 2)
      → flipped d (x ∷ r) ≡ 1 ∷ add d x 1 ∷ r
      → Agree d (first_quad_side d (x ∷ r) 0) (second_quad_side d (x ∷ r) (minus d 1))
  across-zero-last x r g h f =
      rw (across-zero-end x r g h, put-flip d five (x ∷ r) tt, minus-up, f)
      (record { word = refl; change = zero-up })

  across-zero : (x : ℕ) (r : List ℕ) → IsCanonicalBackward d (x ∷ r)
      → Agree d (first_quad_side d (x ∷ r) 0) (second_quad_side d (x ∷ r) (minus d 1))
  across-zero x [] g = across-zero-last x [] g (λ c. absurd c) refl
  across-zero x (y ∷ r) g = elim (cases_eq x (minus d 2)) [
    | inl e ↦ rw e (across-zero-run y r)
    | inr e ↦ across-zero-last x (y ∷ r) g (λ c. e) (flipped-end d five x (y ∷ r) e)
  ]

  -- a close against a spur
  across-one-bracket : (x : ℕ) (r : List ℕ) → IsCanonicalBackward d (1 ∷ x ∷ r)
      → Agree d (first_quad_side d (1 ∷ x ∷ r) 1) (second_quad_side d (1 ∷ x ∷ r) 0)
  across-one-bracket x r g =
      let below = good-head d x r g.2 in
      rw (put-close d five (1 ∷ x ∷ r) refl, one-minus, minus-up)
      (record { word = refl; change = up-down d five x below })

  across-one-run : (r : List ℕ) → IsCons r → is_open r ≡ true → Agree d (first_quad_side d (2 ∷ r) 1) (second_quad_side d (2 ∷ r) 0)
  across-one-run r c o =
      let turned = add_comm d (minus d 1) 2 in
      rw (put-close d five (2 ∷ r) (open-two r c ∙ o), one-minus, closed-two d five r c, turned, two-down, put-close d five r o)
      (record { word = refl; change = two-up })

  -- a turn 1 that closes no bracket against a spur
  put-down : (x : ℕ) (r : List ℕ) → IsCanonicalBackward d (x ∷ r) → is_open (x ∷ r) ≡ false
      → put d r (add d x (minus d 1)) ≡ record { word = add d x (minus d 1) ∷ r; change = 0 }
  put-down x [] g o = refl
  put-down x (y ∷ r) g o = put-else d five (y ∷ r) (add d x (minus d 1)) tt (follows-down d five x y r g o)

  across-one-none : (x : ℕ) (r : List ℕ) → IsCanonicalBackward d (x ∷ r) → is_open (x ∷ r) ≡ false
      → Agree d (first_quad_side d (x ∷ r) 1) (second_quad_side d (x ∷ r) 0)
  across-one-none x r g o =
      let turned = add_comm d (minus d 1) x in
      rw (
        put-else d five (x ∷ r) 1 tt (follows-one d five (x ∷ r) o),
        one-zero,
        put-close d five (1 ∷ x ∷ r) refl,
        turned,
        put-down x r g o,
      )
      (record { word = refl; change = minus-up })

  -- a flip against a turn -2
  across-minus : (x : ℕ) (r : List ℕ) → Agree d (first_quad_side d (x ∷ r) (minus d 1)) (second_quad_side d (x ∷ r) (minus d 2))
  across-minus x r =
      let more = flipped-cons d five x r in
      rw (
        put-flip d five (x ∷ r) tt,
        one-one,
        put-else d five (flipped d (x ∷ r)) 2 more (follows-two d five _),
        put-else d five (x ∷ r) (minus d 2) tt (follows-minus-two d five _),
        minus-zero,
        put-flip d five (minus d 2 ∷ x ∷ r) tt,
        flipped-run d five (x ∷ r) tt,
      ) (record { word = refl; change = zero-up })

  -- a turn 2 against a turn 1
  across-two-open : (x : ℕ) (r : List ℕ) → is_open (x ∷ r) ≡ true → Agree d (first_quad_side d (x ∷ r) 2) (second_quad_side d (x ∷ r) 1)
  across-two-open x r o =
      rw (
        put-else d five (x ∷ r) 2 tt (follows-two d five _),
        one-zero,
        put-close d five (2 ∷ x ∷ r) o,
        put-close d five (x ∷ r) o,
        minus-minus,
        put-else d five (closed d (x ∷ r)) (minus d 2) (closed-cons d five x r) (follows-minus-two d five _),
      ) (record { word = refl; change = minus-up })

  across-two-none : (x : ℕ) (r : List ℕ) → is_open (x ∷ r) ≡ false → Agree d (first_quad_side d (x ∷ r) 2) (second_quad_side d (x ∷ r) 1)
  across-two-none x r o =
      let off = minus-two d five in
      rw (
        put-else d five (x ∷ r) 2 tt (follows-two d five _),
        one-zero,
        put-else d five (2 ∷ x ∷ r) 1 tt (follows-one d five (2 ∷ x ∷ r) o),
        put-else d five (x ∷ r) 1 tt (follows-one d five (x ∷ r) o),
        minus-zero,
        put-flip d five (1 ∷ x ∷ r) tt,
        flipped-end d five 1 (x ∷ r) (λ e. absurd (omega arith)),
        one-one,
      ) (record { word = refl; change = zero-up })

  -- every other turn
  across-other : (x t : ℕ) (r : List ℕ) → t < d → t ≢ 0 → t ≢ 1 → t ≢ 2 → t ≢ minus d 1
      → Agree d (first_quad_side d (x ∷ r) t) (second_quad_side d (x ∷ r) (add d t (minus d 1)))
  across-other x t r below a b c e =
      let one = minus-one d five in
      let two = minus-two d five in
      let sum = add-cases d t (minus d 1) in
      let up : Follows d (x ∷ r) t = record { no_spur = a; no_flip = e; no_close = λ i. absurd (b i) } in
      let down : Follows d (x ∷ r) (add d t (minus d 1)) = record {
        no_spur = λ i. absurd (b (omega arith));
        no_flip = λ i. absurd (a (omega arith));
        no_close = λ i. absurd (c (omega arith));
      } in
      rw (
        put-else d five (x ∷ r) t tt up,
        one-zero,
        put-else d five (t ∷ x ∷ r) 1 tt (follows-one d five (t ∷ x ∷ r) (open-other t (x ∷ r) b c)),
        put-else d five (x ∷ r) (add d t (minus d 1)) tt down,
        minus-zero,
        put-flip d five (add d t (minus d 1) ∷ x ∷ r) tt,
        flipped-end d five (add d t (minus d 1)) (x ∷ r) (λ i. absurd (e (omega arith))),
        up-down d five t below,
      ) (record { word = refl; change = zero-up })

  across-one-open : (x : ℕ) (r : List ℕ) → IsCanonicalBackward d (x ∷ r) → is_open (x ∷ r) ≡ true
      → Agree d (first_quad_side d (x ∷ r) 1) (second_quad_side d (x ∷ r) 0)
  across-one-open x [] g o = absurd cc
  across-one-open x (y ∷ r) g o = elim ((open-cases x (y ∷ r) o).1) [
    | inl one ↦ rw one (across-one-bracket y r (subst (λ n. IsCanonicalBackward d (n ∷ y ∷ r)) one g))
    | inr two ↦ rw two.0 (across-one-run (y ∷ r) tt two.1)
  ]

  across-one : (x : ℕ) (r : List ℕ) → IsCanonicalBackward d (x ∷ r) → Agree d (first_quad_side d (x ∷ r) 1) (second_quad_side d (x ∷ r) 0)
  across-one x r g = elim (cases_Bool (is_open (x ∷ r))) [
    | inl o ↦ across-one-open x r g o
    | inr o ↦ across-one-none x r g o
  ]

  across-two : (x : ℕ) (r : List ℕ) → Agree d (first_quad_side d (x ∷ r) 2) (second_quad_side d (x ∷ r) 1)
  across-two x r = elim (cases_Bool (is_open (x ∷ r))) [
    | inl o ↦ across-two-open x r o
    | inr o ↦ across-two-none x r o
  ]

  -- the second law: across a quad
  pub across : (r : List ℕ) (t : ℕ) → IsCanonicalBackward d r → t < d
      → Agree d (first_quad_side d r t) (second_quad_side d r (add d t (minus d 1)))
  across [] t g below = across-start t below
  across (x ∷ r) t g below = elim (cases_eq t 0) [
    | inl e ↦ rw (e, zero-down) (across-zero x r g)
    | inr not_zero ↦ elim (cases_eq t 1) [
      | inl e ↦ rw (e, one-minus) (across-one x r g)
      | inr not_one ↦ elim (cases_eq t 2) [
        | inl e ↦ rw (e, two-down) (across-two x r)
        | inr not_two ↦ elim (cases_eq t (minus d 1)) [
          | inl e ↦ rw (e, minus-minus) (across-minus x r)
          | inr not_minus ↦ across-other x t r below not_zero not_one not_two not_minus
        ]
      ]
    ]
  ]
