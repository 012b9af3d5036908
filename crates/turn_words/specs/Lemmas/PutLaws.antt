-- Putting a turn keeps a word canonical, leads back, and is the same on both sides of a quad.
use Rattle.std.proofs.Common.{◌≡◌, ◌≢◌, ℕ, ◌<◌, ◌≤◌, inl, inr, arith, refl, sym, ◌∙◌, ap, subst, true, false, List, [], ◌∷◌}
use Rattle.std.proofs.lemmas.Bool.{cases_eq, cases_Bool}
use Rattle.turn_words.specs.Modulo.{add, minus}
use Rattle.turn_words.specs.PutTurns.{is_open, flipped, closed, put}
use Rattle.turn_words.specs.Lemmas.Sums.{add-cases, minus-one, minus-two, add-lt}
use Rattle.turn_words.specs.Lemmas.WordEnds.{Follows, IsCanonicalBackward, IsCons, good-cons, good-head, good-tail, open-two, open-other, open-cases, flipped-run, flipped-end, flipped-cons, closed-two, closed-cons, put-flip, put-close, put-else}

module _ (d : ℕ) (five : 5 ≤ d) where
  -- one up and one down
  pub up-down : (x : ℕ) → x < d → add d (add d x (minus d 1)) 1 ≡ x
  up-down x h = omega (arith, minus-one d five, add-cases d x (minus d 1), add-cases d (add d x (minus d 1)) 1)

  pub down-up : (x : ℕ) → x < d → add d (add d x 1) (minus d 1) ≡ x
  down-up x h = omega (arith, minus-one d five, add-cases d x 1, add-cases d (add d x 1) (minus d 1))

  -- one more than a turn before a flip is a turn that can follow
  pub follows-up : (x y : ℕ) (r : List ℕ) → IsCanonicalBackward d (x ∷ y ∷ r) → x ≢ minus d 2 → Follows d (y ∷ r) (add d x 1)
  follows-up x y r g no_run =
      let one = minus-one d five in
      let two = minus-two d five in
      let sum = add-cases d x 1 in
      let below : x < d = g.0 in
      let not_zero : x ≢ 0 = g.1.no_spur in
      let not_minus : x ≢ minus d 1 = g.1.no_flip in
      record {
        no_spur = λ e. absurd (not_minus (omega arith));
        no_flip = λ e. absurd (no_run (omega arith));
        no_close = λ e. absurd (not_zero (omega arith));
      }

  -- the 1 that a flip puts in closes no bracket
  pub no-bracket : (x : ℕ) (r : List ℕ) → IsCanonicalBackward d (x ∷ r) → is_open (add d x 1 ∷ r) ≡ false
  no-bracket x [] g = refl
  no-bracket x (y ∷ r) g =
      let sum = add-cases d x 1 in
      let below : x < d = g.0 in
      let not_zero : x ≢ 0 = g.1.no_spur in
      elim (cases_eq (add d x 1) 2) [
        | inl e ↦
            let was_one : x ≡ 1 = omega arith in
            let closes_none = g.1.no_close was_one in
            rw e (open-two (y ∷ r) tt ∙ closes_none)
        | inr e ↦ open-other (add d x 1) (y ∷ r) (λ is_one. absurd (not_zero (omega arith))) e
      ]

  -- two can follow anything, and so can 1 where no bracket closes
  pub follows-two : (r : List ℕ) → Follows d r 2
  follows-two r =
      let one = minus-one d five in
      record {
        no_spur = λ e. absurd (omega arith);
        no_flip = λ e. absurd (omega arith);
        no_close = λ e. absurd (omega arith);
      }

  pub follows-one : (r : List ℕ) → is_open r ≡ false → Follows d r 1
  follows-one r h =
      let one = minus-one d five in
      record {
        no_spur = λ e. absurd (omega arith);
        no_flip = λ e. absurd (omega arith);
        no_close = λ e. h;
      }

  pub follows-minus-two : (r : List ℕ) → Follows d r (minus d 2)
  follows-minus-two r =
      let one = minus-one d five in
      let two = minus-two d five in
      record {
        no_spur = λ e. absurd (omega arith);
        no_flip = λ e. absurd (omega arith);
        no_close = λ e. absurd (omega arith);
      }

  -- what a flip makes: canonical, open, and a close takes it back
  flipped-end-good : (x : ℕ) (r : List ℕ) → IsCanonicalBackward d (x ∷ r) → (IsCons r → x ≢ minus d 2)
      → IsCanonicalBackward d (1 ∷ add d x 1 ∷ r)
  flipped-end-good x [] g h =
      let below : x < d = g in
      (omega arith, follows-one (add d x 1 ∷ []) refl, add-lt d x 1 below (omega arith))
  flipped-end-good x (y ∷ r) g h =
      let below : x < d = g.0 in (
        omega arith,
        follows-one (add d x 1 ∷ y ∷ r) (no-bracket x (y ∷ r) g),
        (add-lt d x 1 below (omega arith), follows-up x y r g (h tt), g.2),
      )

  pub flipped-good : (x : ℕ) (r : List ℕ) → IsCanonicalBackward d (x ∷ r) → IsCanonicalBackward d (flipped d (x ∷ r))
  flipped-good x [] g = flipped-end-good x [] g (λ c. absurd c)
  flipped-good x (y ∷ r) g = elim (cases_eq x (minus d 2)) [
    | inl e ↦
        let below : 2 < d = omega arith in
        rw (e, flipped-run d five (y ∷ r) tt)
        (good-cons d 2 (flipped d (y ∷ r)) (flipped-cons d five y r) below (follows-two _) (flipped-good y r g.2))
    | inr e ↦ rw (flipped-end d five x (y ∷ r) e) (flipped-end-good x (y ∷ r) g (λ c. e))
  ]

  pub flipped-open : (x : ℕ) (r : List ℕ) → is_open (flipped d (x ∷ r)) ≡ true
  flipped-open x [] = refl
  flipped-open x (y ∷ r) = elim (cases_eq x (minus d 2)) [
    | inl e ↦ rw (e, flipped-run d five (y ∷ r) tt) (open-two (flipped d (y ∷ r)) (flipped-cons d five y r) ∙ flipped-open y r)
    | inr e ↦ rw (flipped-end d five x (y ∷ r) e) refl
  ]

  pub closed-flipped : (x : ℕ) (r : List ℕ) → IsCanonicalBackward d (x ∷ r) → closed d (flipped d (x ∷ r)) ≡ x ∷ r
  closed-flipped x [] g = let back = down-up x g in rw back refl
  closed-flipped x (y ∷ r) g = elim (cases_eq x (minus d 2)) [
    | inl e ↦
        rw (e, flipped-run d five (y ∷ r) tt) (
        closed-two d five (flipped d (y ∷ r)) (flipped-cons d five y r) ∙ ap (λ s. minus d 2 ∷ s) (closed-flipped y r g.2)
        )
    | inr e ↦ rw (flipped-end d five x (y ∷ r) e) (let back = down-up x g.0 in rw back refl)
  ]

  -- where an entry opens no bracket, one less can follow what is before it
  pub follows-down : (x y : ℕ) (r : List ℕ) → IsCanonicalBackward d (x ∷ y ∷ r) → is_open (x ∷ y ∷ r) ≡ false
      → Follows d (y ∷ r) (add d x (minus d 1))
  follows-down x y r g o =
      let one = minus-one d five in
      let sum = add-cases d x (minus d 1) in
      let below : x < d = g.0 in
      let not_zero : x ≢ 0 = g.1.no_spur in
      let not_one : x ≢ 1 = λ e. let opened = ap (λ n. is_open (n ∷ y ∷ r)) (sym e) in absurd cc in
      record {
        no_spur = λ e. absurd (not_one (omega arith));
        no_flip = λ e. absurd (not_zero (omega arith));
        no_close = λ e. (
            let was_two : 2 ≡ x = omega arith in
            sym (open-two (y ∷ r) tt) ∙ ap (λ n. is_open (n ∷ y ∷ r)) was_two ∙ o
            );
      }

  -- what a close makes of an open word: canonical, and a flip takes it back
  closed-one-good : (x : ℕ) (r : List ℕ) → IsCanonicalBackward d (1 ∷ x ∷ r) → IsCanonicalBackward d (add d x (minus d 1) ∷ r)
  closed-one-good x [] g =
      let one = minus-one d five in
      let below : x < d = g.2 in
      add-lt d x (minus d 1) below (omega arith)
  closed-one-good x (y ∷ r) g =
      let one = minus-one d five in (
        add-lt d x (minus d 1) g.2.0 (omega arith),
        follows-down x y r g.2 (g.1.no_close refl),
        g.2.2,
      )

  pub closed-good : (x : ℕ) (r : List ℕ) → IsCanonicalBackward d (x ∷ r) → is_open (x ∷ r) ≡ true → IsCanonicalBackward d (closed d (x ∷ r))
  closed-good x [] g o = absurd cc
  closed-good x (y ∷ r) g o = elim ((open-cases x (y ∷ r) o).1) [
    | inl one ↦ rw one (closed-one-good y r (subst (λ n. IsCanonicalBackward d (n ∷ y ∷ r)) one g))
    | inr two ↦
        let two_off = minus-two d five in
        let below : minus d 2 < d = omega arith in
        rw two.0 (
        good-cons d (minus d 2) (closed d (y ∷ r)) (closed-cons d five y r) below (follows-minus-two _) (closed-good y r g.2 two.1)
        )
  ]

  -- no turn is -1
  no-minus : (x : ℕ) (r : List ℕ) → IsCanonicalBackward d (x ∷ r) → IsCons r → x ≢ minus d 1
  no-minus x [] g c = absurd c
  no-minus x (y ∷ r) g c = g.1.no_flip

  flipped-closed-one : (x : ℕ) (r : List ℕ) → IsCanonicalBackward d (x ∷ r) → (IsCons r → x ≢ minus d 1)
      → flipped d (add d x (minus d 1) ∷ r) ≡ 1 ∷ x ∷ r
  flipped-closed-one x [] g h = let back = up-down x g in rw back refl
  flipped-closed-one x (y ∷ r) g h =
      let one = minus-one d five in
      let two = minus-two d five in
      let sum = add-cases d x (minus d 1) in
      let not_minus : x ≢ minus d 1 = h tt in
      let below : x < d = g.0 in
      let back = up-down x below in
      rw (flipped-end d five (add d x (minus d 1)) (y ∷ r) (λ e. absurd (not_minus (omega arith))), back) refl

  pub flipped-closed : (x : ℕ) (r : List ℕ) → IsCanonicalBackward d (x ∷ r) → is_open (x ∷ r) ≡ true → flipped d (closed d (x ∷ r)) ≡ x ∷ r
  flipped-closed x [] g o = absurd cc
  flipped-closed x (y ∷ r) g o = elim ((open-cases x (y ∷ r) o).1) [
    | inl one ↦ rw one (flipped-closed-one y r g.2 (no-minus y r g.2))
    | inr two ↦ rw two.0 (flipped-run d five (closed d (y ∷ r)) (closed-cons d five y r) ∙ ap (λ s. 2 ∷ s) (flipped-closed y r g.2 two.1))
  ]

  closed-head : (x : ℕ) (r : List ℕ) → IsCons (closed d (x ∷ r))
  closed-head x r = closed-cons d five x r

  -- the last turn, put back
  pub put-back : (x : ℕ) (r : List ℕ) → IsCanonicalBackward d (x ∷ r) → put d r x ≡ record { word = x ∷ r; change = 0 }
  put-back x [] g = refl
  put-back x (y ∷ r) g = put-else d five (y ∷ r) x tt g.1

  -- the five cases of a turn that is put at the end of a word with an entry
  pub data Cases (r : List ℕ) (t : ℕ) : Type 0 where
    spur : t ≡ 0 → Cases r t
    flip : t ≡ minus d 1 → Cases r t
    close : t ≡ 1 → is_open r ≡ true → Cases r t
    other : Follows d r t → Cases r t

  pub cases : (r : List ℕ) (t : ℕ) → Cases r t
  cases r t = elim (cases_eq t 0) [
    | inl zero ↦ spur zero
    | inr not_zero ↦ elim (cases_eq t (minus d 1)) [
      | inl minus_one ↦ flip minus_one
      | inr not_minus ↦ elim (cases_Bool (is_open r)) [
        | inl opened ↦ elim (cases_eq t 1) [
          | inl one ↦ close one opened
          | inr not_one ↦ other (record { no_spur = not_zero; no_flip = not_minus; no_close = λ e. absurd (not_one e) })
        ]
        | inr not_open ↦ other (record { no_spur = not_zero; no_flip = not_minus; no_close = λ e. not_open })
      ]
    ]
  ]

  -- the word that is left stays canonical, and the change is a number below the degree
  pub put-good : (r : List ℕ) (t : ℕ) → IsCanonicalBackward d r → t < d → IsCanonicalBackward d (put d r t).word × ((put d r t).change < d)
  put-good [] t g h = (h, omega arith)
  put-good (x ∷ r) t g h = elim (cases (x ∷ r) t) [
    | spur e ↦ rw e (good-tail d x r g, good-head d x r g)
    | flip e ↦ rw (e, put-flip d five (x ∷ r) tt) (flipped-good x r g, omega arith)
    | close e o ↦ rw (e, put-close d five (x ∷ r) o) (closed-good x r g o, omega (arith, minus-one d five))
    | other f ↦ rw (put-else d five (x ∷ r) t tt f) (good-cons d t (x ∷ r) tt h f g, omega arith)
  ]

  -- there and back: the change, put as a turn, gives the word back, and the turn is the change
  pub put-put : (r : List ℕ) (t : ℕ) → IsCanonicalBackward d r → put d (put d r t).word (put d r t).change ≡ record { word = r; change = t }
  put-put [] t g = refl
  put-put (x ∷ r) t g = elim (cases (x ∷ r) t) [
    | spur e ↦ rw e (put-back x r g)
    | flip e ↦ rw (e, put-flip d five (x ∷ r) tt, put-close d five (flipped d (x ∷ r)) (flipped-open x r), closed-flipped x r g) refl
    | close e o ↦ rw (e, put-close d five (x ∷ r) o, put-flip d five (closed d (x ∷ r)) (closed-head x r), flipped-closed x r g o) refl
    | other f ↦ rw (put-else d five (x ∷ r) t tt f) refl
  ]
