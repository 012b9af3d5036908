-- A put does not reach behind a turn that is neither 2 nor -2, nor behind a 2 that no bracket is open at. Such a turn comes in each
-- round of a canonical row, so a put takes away one round of a word at most. Words are read from their end.
use Rattle.joined_loops.proofs.Common.{upto, upto-cons, IsCanonicalRow, ◌≡◌, ◌≢◌, ℕ, ◌+◌, ◌-◌, ◌<◌, ◌≤◌, ◌⊎◌, inl, inr, arith, refl, sym, ◌∙◌, ap, subst, zero, suc, true, false, List, [], ◌∷◌, ◌++◌, length, reverse, append_assoc, cases_eq, reverse-reverse, led, HyperState, turn_to, hyper_next, cases, spur, flip, close, other, minus-two, IsCons, flipped-run, flipped-end, closed-two, open-cases, open-two, open-other, put-flip, put-close, put-else, add, minus, is_open, flipped, closed, put}
use Rattle.joined_loops.proofs.Times.{times, later-rounds, everywhere, find}

-- the word begins with an earlier one
pub record EndsIn (word earlier : List ℕ) : Type 0 where
  pub front : List ℕ
  pub is : word ≡ front ++ earlier

cons-append : (f : List ℕ) (x : ℕ) (r : List ℕ) → IsCons (f ++ x ∷ r)
cons-append [] x r = tt
cons-append (z ∷ f) x r = tt

pub ends-later : (r u v : List ℕ) → EndsIn r u → EndsIn u v → EndsIn r v
ends-later r u v a b = record {
  front = a.front ++ b.front;
  is = a.is ∙ ap (λ w. a.front ++ w) b.is ∙ sym (append_assoc a.front b.front v);
}

module _ (d : ℕ) (five : 5 ≤ d) where
  ends-more : (z : ℕ) (r u : List ℕ) → EndsIn r u → EndsIn (z ∷ r) u
  ends-more z r u e = record { front = z ∷ e.front; is = ap (λ w. z ∷ w) e.is }

  -- the entries before and behind the turn stay
  stays : (f : List ℕ) (x y : ℕ) (r : List ℕ) → EndsIn (f ++ x ∷ y ∷ r) r
  stays f x y r = record { front = f ++ x ∷ y ∷ []; is = sym (append_assoc f (x ∷ y ∷ []) r) }

  flip-keeps : (f : List ℕ) (x y : ℕ) (r : List ℕ) → x ≢ minus d 2 → EndsIn (flipped d (f ++ x ∷ y ∷ r)) r
  flip-keeps [] x y r free = record { front = 1 ∷ add d x 1 ∷ y ∷ []; is = flipped-end d five x (y ∷ r) free }
  flip-keeps (z ∷ f) x y r free = elim (cases_eq z (minus d 2)) [
    | inl e ↦
        subst (λ w. EndsIn w r)
        (sym (ap (λ u. flipped d (u ∷ f ++ x ∷ y ∷ r)) e ∙ flipped-run d five (f ++ x ∷ y ∷ r) (cons-append f x (y ∷ r))))
        (ends-more 2 (flipped d (f ++ x ∷ y ∷ r)) r (flip-keeps f x y r free))
    | inr e ↦
        subst (λ w. EndsIn w r) (sym (flipped-end d five z (f ++ x ∷ y ∷ r) e))
        (ends-more 1 _ r (ends-more (add d z 1) (f ++ x ∷ y ∷ r) r (stays f x y r)))
  ]

  close-one : (f : List ℕ) (x y : ℕ) (r : List ℕ) → EndsIn (closed d (1 ∷ f ++ x ∷ y ∷ r)) r
  close-one [] x y r = record { front = add d x (minus d 1) ∷ y ∷ []; is = refl }
  close-one (w ∷ f) x y r = ends-more (add d w (minus d 1)) (f ++ x ∷ y ∷ r) r (stays f x y r)

  close-keeps : (f : List ℕ) (x y : ℕ) (r : List ℕ) → is_open (f ++ x ∷ y ∷ r) ≡ true → (x ≡ 2 → is_open (y ∷ r) ≡ false) →
      EndsIn (closed d (f ++ x ∷ y ∷ r)) r
  close-keeps [] x y r o shut = elim ((open-cases x (y ∷ r) o).1) [
    | inl one ↦ rw one (record { front = add d y (minus d 1) ∷ []; is = refl })
    | inr two ↦ absurd (let none = shut two.0 in let some = two.1 in cc)
  ]
  close-keeps (z ∷ f) x y r o shut = elim ((open-cases z (f ++ x ∷ y ∷ r) o).1) [
    | inl one ↦ subst (λ w. EndsIn (closed d (w ∷ f ++ x ∷ y ∷ r)) r) (sym one) (close-one f x y r)
    | inr two ↦
        subst (λ w. EndsIn (closed d (w ∷ f ++ x ∷ y ∷ r)) r) (sym two.0)
        (subst (λ w. EndsIn w r) (sym (closed-two d five (f ++ x ∷ y ∷ r) (cons-append f x (y ∷ r))))
        (ends-more (minus d 2) (closed d (f ++ x ∷ y ∷ r)) r (close-keeps f x y r two.1 shut)))
  ]

  spur-keeps : (f : List ℕ) (x y : ℕ) (r : List ℕ) → EndsIn (put d (f ++ x ∷ y ∷ r) 0).word r
  spur-keeps [] x y r = record { front = y ∷ []; is = refl }
  spur-keeps (z ∷ f) x y r = stays f x y r

  pub put-keeps : (f : List ℕ) (x y : ℕ) (r : List ℕ) (t : ℕ) → x ≢ minus d 2 → (x ≡ 2 → is_open (y ∷ r) ≡ false) →
      EndsIn (put d (f ++ x ∷ y ∷ r) t).word r
  put-keeps f x y r t not_fall shut = elim (cases d five (f ++ x ∷ y ∷ r) t) [
    | spur e ↦ rw e (spur-keeps f x y r)
    | flip e ↦ rw (e, put-flip d five (f ++ x ∷ y ∷ r) (cons-append f x (y ∷ r))) (flip-keeps f x y r not_fall)
    | close e o ↦ rw (e, put-close d five (f ++ x ∷ y ∷ r) o) (close-keeps f x y r o shut)
    | other g ↦
        rw (put-else d five (f ++ x ∷ y ∷ r) t (cons-append f x (y ∷ r)) g)
        (ends-more t (f ++ x ∷ y ∷ r) r (stays f x y r))
  ]

  module _ (n : ℕ) (row : ℕ → ℕ) (canonical : IsCanonicalRow d n row) (start : ℕ) where
    -- a start direction, and so many turns of the row behind its first one
    abbrev pub begins : ℕ → List ℕ
    begins m = upto row 1 m (start ∷ [])

    pub begins-ends : (m k : ℕ) → EndsIn (begins (m + k)) (begins m)
    begins-ends m zero = let e : m + 0 ≡ m = omega arith in record { front = []; is = ap begins e }
    begins-ends m (suc k) =
        let e : m + suc k ≡ suc (m + k) = omega arith in
        subst (λ i. EndsIn (begins i) (begins m)) (sym e) (ends-more (row (1 + (m + k))) (begins (m + k)) (begins m) (begins-ends m k))

    -- a place in each round that no put reaches behind
    pub record Anchors : Type 0 where
      pub first : ℕ
      pub some : 1 ≤ first
      pub within : first ≤ n
      pub no_fall : (j : ℕ) → row (first + times n j) ≢ minus d 2
      pub shut : (j m : ℕ) → row (first + times n j) ≡ 2 → is_open (begins m) ≡ false

    round : (k j : ℕ) → row (k + times n j) ≡ row k
    round = later-rounds row n canonical.comes_round

    two-no-fall : 2 ≢ minus d 2
    two-no-fall e = let two = minus-two d five in absurd (omega arith)

    -- with turns 2 and -2 alone nothing is open
    never-open : ((at : ℕ) → (row at ≡ 2) ⊎ (row at ≡ minus d 2)) → (m : ℕ) → is_open (begins m) ≡ false
    never-open turns zero = refl
    never-open turns (suc m) = elim (turns (1 + m)) [
      | inl two ↦
          ap (λ x. is_open (x ∷ begins m)) two ∙ open-two (begins m) (upto-cons row 1 m (start ∷ []) tt) ∙ never-open turns m
      | inr fall ↦
          let two = minus-two d five in
          open-other (row (1 + m)) (begins m) (λ e. absurd (omega arith)) (λ e. absurd (omega arith))
    ]

    abbrev IsOther : ℕ → Type 0
    IsOther k = (row (1 + k) ≢ 2) × (row (1 + k) ≢ minus d 2)

    other-or : (k : ℕ) → IsOther k ⊎ (IsOther k → ⊥)
    other-or k = grind arith

    two-or : (k : ℕ) → (row (1 + k) ≡ 2) ⊎ ((row (1 + k) ≡ 2) → ⊥)
    two-or k = cases_eq (row (1 + k)) 2

    both-turns : ((k : ℕ) → k < n → IsOther k → ⊥) → (at : ℕ) → (row at ≡ 2) ⊎ (row at ≡ minus d 2)
    both-turns none =
        everywhere row n canonical.comes_round (λ x. (x ≡ 2) ⊎ (x ≡ minus d 2)) canonical.some
        (λ k below. elim (cases_eq (row (1 + k)) 2) [
          | inl two ↦ inl two
          | inr not_two ↦ elim (cases_eq (row (1 + k)) (minus d 2)) [
            | inl fall ↦ inr fall
            | inr not_fall ↦ absurd (none k below (not_two, not_fall))
          ]
        ])

    pub anchors : Anchors
    anchors = elim (find IsOther other-or n) [
      | inl found ↦ record {
        first = 1 + found.0;
        some = omega arith;
        within = let below = found.1 in omega arith;
        no_fall = λ j e. found.2.1 (sym (round (1 + found.0) j) ∙ e);
        shut = λ j m e. absurd (found.2.0 (sym (round (1 + found.0) j) ∙ e));
      }
      | inr none ↦
          let turns = both-turns none in
          elim (find (λ k. row (1 + k) ≡ 2) two-or n) [
            | inl found ↦ record {
              first = 1 + found.0;
              some = omega arith;
              within = let below = found.1 in omega arith;
              no_fall = λ j e. two-no-fall (sym (round (1 + found.0) j ∙ found.2) ∙ e);
              shut = λ j m e. never-open turns m;
            }
            | inr no_two ↦ absurd (canonical.not_all_fall
                (everywhere row n canonical.comes_round (λ x. x ≡ minus d 2) canonical.some
                (λ k below. elim (turns (1 + k)) [ inl two ↦ absurd (no_two k below two) | inr fall ↦ fall ])))
          ]
    ]

    -- a put takes away one round at most
    pub put-round : (a : Anchors) → 2 ≤ n → (r : List ℕ) (t c : ℕ) → EndsIn r (begins (a.first + times n (suc c))) →
        EndsIn (put d r t).word (begins (a.first + times n c))
    put-round a two r t c e =
        let far = a.first + times n (suc c) in
        let i = far - 2 in
        let at : far ≡ suc (suc i) = omega arith in
        let f : 1 + suc i ≡ a.first + times n (suc c) = omega arith in
        let here : row (1 + suc i) ≡ row (a.first + times n (suc c)) = ap row f in
        let split : r ≡ e.front ++ row (1 + suc i) ∷ row (1 + i) ∷ begins i = e.is ∙ ap (λ m. e.front ++ begins m) at in
        let kept = put-keeps e.front (row (1 + suc i)) (row (1 + i)) (begins i) t (λ h. a.no_fall (suc c) (sym here ∙ h))
        (λ h. a.shut (suc c) (suc i) (sym here ∙ h)) in
        let k = i - (a.first + times n c) in
        let g : a.first + times n c + k ≡ i = omega arith in
        ends-later _ (begins i) _ (subst (λ w. EndsIn (put d w t).word (begins i)) (sym split) kept)
        (subst (λ m. EndsIn (begins m) (begins (a.first + times n c))) g (begins-ends (a.first + times n c) k))

-- spokes take away one round each at most
pub led-rounds : (places : List ℕ) (five : 5 ≤ length places) (n : ℕ) (row : ℕ → ℕ) (canonical : IsCanonicalRow (length places) n row)
    (start : ℕ) (a : Anchors (length places) five n row canonical start) → 2 ≤ n → (s : HyperState) (q : List ℕ) (c : ℕ) →
    EndsIn (reverse s.word) (begins (length places) five n row canonical start (a.first + times n (length q + c))) →
    EndsIn (reverse (led hyper_next places s q).word) (begins (length places) five n row canonical start (a.first + times n c))
led-rounds places five n row canonical start a two s [] c e = grind (arith, times)
led-rounds places five n row canonical start a two s (x ∷ q) c e =
    let d = length places in
    let f : length (x ∷ q) + c ≡ suc (length q + c) = omega arith in
    let now = subst (λ m. EndsIn (reverse s.word) (begins d five n row canonical start (a.first + times n m))) f e in
    let kept = put-round d five n row canonical start a two (reverse s.word) (turn_to places s x) (length q + c) now in
    let next = subst (λ w. EndsIn w (begins d five n row canonical start (a.first + times n (length q + c))))
    (sym (reverse-reverse (put d (reverse s.word) (turn_to places s x)).word)) kept in
    led-rounds places five n row canonical start a two (hyper_next places s x) q c next
