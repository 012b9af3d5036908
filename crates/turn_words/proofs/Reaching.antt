-- The steps of a put lead to its word, in front of whatever comes next; so a word reaches what its entries, put one
-- after another, leave.
use Rattle.turn_words.proofs.Common.{◌≡◌, ℕ, ◌<◌, ◌≤◌, inl, inr, arith, refl, sym, ◌∙◌, ap, true, false, List, [], ◌∷◌, ◌++◌, reverse, length, Option, Some, None, cases_eq, eq-eqb, ne_eqb, common_steps, append-nil, option_map, option_and_then, two-up, one-one, one-minus, two-down, minus-minus, InRange, reverse-next, reverse-cons, put-back, cases, spur, flip, close, other, minus-one, add-zero, add_comm, IsCanonicalBackward, open-cases, put-flip, put-close, put-else, good-head, good-tail, Follows, add, minus, flip_steps, close_steps, put_steps, Put, is_open, flipped, closed, put, next_changed, spur_out, pushed, from_place, after_step, after_word_steps, Reaches, Step, SpurOut, Push}
use Rattle.turn_words.proofs.Reading.{read, IsSound, Keeps, state, put-sound, keeps-step}

-- a rule at the place behind a front changes what comes there
from_place-append : (rule : List ℕ → Option (List ℕ)) (a b : List ℕ)
    → from_place (length a) rule (a ++ b) ≡ option_map (λ c. a ++ c) (rule b)
from_place-append rule [] b = go (rule b)
  where
    go : (o : Option (List ℕ)) → o ≡ option_map (λ c. c) o
    go None = refl
    go (Some c) = refl
from_place-append rule (x ∷ a) b =
    ap (option_map (λ c. x ∷ c)) (from_place-append rule a b) ∙ go (rule b)
  where
    go : (o : Option (List ℕ)) → option_map (λ c. x ∷ c) (option_map (λ c. a ++ c) o) ≡ option_map (λ c. (x ∷ a) ++ c) o
    go None = refl
    go (Some c) = refl

at_end : (rule : List ℕ → Option (List ℕ)) (r w v : List ℕ) → rule w ≡ Some v
    → from_place (length r) rule (reverse r ++ w) ≡ Some (reverse r ++ v)
at_end rule r w v e = grind (arith, common_steps, from_place-append)

-- one list of steps after another
after-next : (d : ℕ) (a b : List Step) (v : List ℕ) (o : Option (List ℕ)) →
    ((u : List ℕ) → after_word_steps d a u ≡ Some v → after_word_steps d (a ++ b) u ≡ after_word_steps d b v) →
    option_and_then (after_word_steps d a) o ≡ Some v → option_and_then (after_word_steps d (a ++ b)) o ≡ after_word_steps d b v
after-next d a b v None h e = absurd cc
after-next d a b v (Some u) h e = h u e

pub after_steps-append : (d : ℕ) (a b : List Step) (w v : List ℕ) → after_word_steps d a w ≡ Some v
    → after_word_steps d (a ++ b) w ≡ after_word_steps d b v
after_steps-append d [] b w v e = let same : w ≡ v = cc in ap (after_word_steps d b) same
after_steps-append d (s ∷ a) b w v e = after-next d a b v (after_step d s w) (λ u f. after_steps-append d a b u v f) e

-- the entry that comes next is below the degree
abbrev pub IsNextBelow : ℕ → List ℕ → Type 0
IsNextBelow d [] = Unit {0}
IsNextBelow d (y ∷ w) = y < d

pub next-below : (d : ℕ) (w : List ℕ) → InRange d w → IsNextBelow d w
next-below d [] i = tt
next-below d (y ∷ w) i = i.0

module _ (d : ℕ) (five : 5 ≤ d) where
  -- a step at the end of a front, and then the others
  step-then : (s : Step) (steps : List Step) (w u v : List ℕ) → after_step d s w ≡ Some u → after_word_steps d steps u ≡ Some v
      → after_word_steps d (s ∷ steps) w ≡ Some v
  step-then s steps w u v e f = ap (option_and_then (after_word_steps d steps)) e ∙ f

  push-up : (x : ℕ) (r w : List ℕ) →
      after_step d (Push (length r) true) (reverse (x ∷ r) ++ (minus d 1 ∷ w)) ≡ Some (reverse r ++ (add d x 1 ∷ 1 ∷ next_changed d 1 w))
  push-up x r w = grind (arith, pushed, reverse-next, at_end)

  push-down : (x : ℕ) (r w : List ℕ) →
      after_step d (Push (length r) false) (reverse (x ∷ r) ++ (1 ∷ w)) ≡ Some (reverse r
      ++ (add d x (minus d 1) ∷ minus d 1 ∷ next_changed d (minus d 1) w))
  push-down x r w = grind (arith, pushed, reverse-next, at_end)

  spur-goes : (x : ℕ) (r w : List ℕ) →
      after_step d (SpurOut (length r)) (reverse (x ∷ r) ++ (0 ∷ w)) ≡ Some (reverse r ++ next_changed d x w)
  spur-goes x r w = grind (arith, spur_out, reverse-next, at_end)

  -- the steps of a flip
  flip-last : (x : ℕ) (r w : List ℕ) → after_word_steps d (Push (length r) true ∷ [])
      (reverse (x ∷ r) ++ (minus d 1 ∷ w)) ≡ Some (reverse (1 ∷ add d x 1 ∷ r) ++ next_changed d 1 w)
  flip-last x r w =
      step-then (Push (length r) true) [] (reverse (x ∷ r) ++ (minus d 1 ∷ w)) _ _ (push-up x r w)
      (ap Some (sym (reverse-next 1 (add d x 1 ∷ r) (next_changed d 1 w) ∙ reverse-next (add d x 1) r (1 ∷ next_changed d 1 w))))

  flip-reached : (x : ℕ) (r w : List ℕ) →
      after_word_steps d (flip_steps d (x ∷ r)) (reverse (x ∷ r) ++ (minus d 1 ∷ w))
      ≡ Some (reverse (flipped d (x ∷ r)) ++ next_changed d 1 w)
  flip-reached x [] w = flip-last x [] w
  flip-reached x (y ∷ r) w = elim (cases_eq x (minus d 2)) [
    | inl e ↦ rw (eq-eqb x (minus d 2) e) (
        step-then (Push (length (y ∷ r)) true) (flip_steps d (y ∷ r)) (reverse (x ∷ y ∷ r) ++ (minus d 1 ∷ w))
        (reverse (y ∷ r) ++ (minus d 1 ∷ 1 ∷ next_changed d 1 w)) _
        (push-up x (y ∷ r) w ∙ ap (λ z. Some (reverse (y ∷ r) ++ (z ∷ 1 ∷ next_changed d 1 w))) (ap (λ n. add d n 1) e ∙ two-up d five))
        (flip-reached y r (1 ∷ next_changed d 1 w) ∙ ap (λ z. Some (reverse (flipped d (y ∷ r)) ++ (z ∷ next_changed d 1 w)))
        (one-one d five)
        ∙ ap Some (sym (reverse-next 2 (flipped d (y ∷ r)) (next_changed d 1 w))))
        )
    | inr e ↦ rw (ne_eqb x (minus d 2) e) (flip-last x (y ∷ r) w)
  ]

  -- the steps of a close
  close-bracket : (x : ℕ) (r w : List ℕ) → x < d →
      after_word_steps d (close_steps (1 ∷ x ∷ r)) (reverse (1 ∷ x ∷ r) ++ (1 ∷ w)) ≡ Some (reverse (add d x (minus d 1) ∷ r)
      ++ next_changed d (minus d 1) w)
  close-bracket x r w h =
      step-then (Push (length (x ∷ r)) false) (SpurOut (length r) ∷ []) (reverse (1 ∷ x ∷ r) ++ (1 ∷ w))
      (reverse (x ∷ r) ++ (0 ∷ minus d 1 ∷ next_changed d (minus d 1) w)) _
      (push-down 1 (x ∷ r) w ∙ ap (λ z. Some (reverse (x ∷ r) ++ (z ∷ minus d 1 ∷ next_changed d (minus d 1) w))) (one-minus d five))
      (step-then (SpurOut (length r)) [] (reverse (x ∷ r) ++ (0 ∷ minus d 1 ∷ next_changed d (minus d 1) w)) _ _
      (spur-goes x r (minus d 1 ∷ next_changed d (minus d 1) w))
      (ap (λ z. Some (reverse r ++ (z ∷ next_changed d (minus d 1) w))) (add_comm d (minus d 1) x)
      ∙ ap Some (sym (reverse-next (add d x (minus d 1)) r (next_changed d (minus d 1) w)))))

  close-reached : (x : ℕ) (r w : List ℕ) → IsCanonicalBackward d (x ∷ r) → is_open (x ∷ r) ≡ true →
      after_word_steps d (close_steps (x ∷ r)) (reverse (x ∷ r) ++ (1 ∷ w))
      ≡ Some (reverse (closed d (x ∷ r)) ++ next_changed d (minus d 1) w)
  close-reached x [] w g o = absurd cc
  close-reached x (y ∷ r) w g o = elim ((open-cases x (y ∷ r) o).1) [
    | inl one ↦ rw one (close-bracket y r w (good-head d y r g.2))
    | inr two ↦ rw two.0 (
        step-then (Push (length (y ∷ r)) false) (close_steps (y ∷ r)) (reverse (2 ∷ y ∷ r) ++ (1 ∷ w))
        (reverse (y ∷ r) ++ (1 ∷ minus d 1 ∷ next_changed d (minus d 1) w)) _
        (push-down 2 (y ∷ r) w ∙ ap (λ z. Some (reverse (y ∷ r) ++ (z ∷ minus d 1 ∷ next_changed d (minus d 1) w))) (two-down d five))
        (close-reached y r (minus d 1 ∷ next_changed d (minus d 1) w) g.2 two.1
        ∙ ap (λ z. Some (reverse (closed d (y ∷ r)) ++ (z ∷ next_changed d (minus d 1) w))) (minus-minus d five)
        ∙ ap Some (sym (reverse-next (minus d 2) (closed d (y ∷ r)) (next_changed d (minus d 1) w))))
        )
  ]

  next-none : (w : List ℕ) → IsNextBelow d w → next_changed d 0 w ≡ w
  next-none [] s = refl
  next-none (y ∷ w) s = ap (λ z. z ∷ w) (add-zero d y s)

  steps-flip : (x : ℕ) (r : List ℕ) → put_steps d (x ∷ r) (minus d 1) ≡ flip_steps d (x ∷ r)
  steps-flip x r = grind (arith, minus-one)

  steps-close : (x : ℕ) (r : List ℕ) → is_open (x ∷ r) ≡ true → put_steps d (x ∷ r) 1 ≡ close_steps (x ∷ r)
  steps-close x r o = grind (arith, common_steps, minus-one)

  steps-other : (x : ℕ) (r : List ℕ) (t : ℕ) → Follows d (x ∷ r) t → put_steps d (x ∷ r) t ≡ []
  steps-other x r t f = grind (arith, common_steps)

  -- the steps of a put lead to its word, and change what comes next
  pub put-reached : (r : List ℕ) (t : ℕ) (w : List ℕ) → IsCanonicalBackward d r → IsNextBelow d w →
      after_word_steps d (put_steps d r t) (reverse r ++ (t ∷ w)) ≡ Some (reverse (put d r t).word ++ next_changed d (put d r t).change w)
  put-reached [] t w g s = ap (λ z. Some (t ∷ z)) (sym (next-none w s))
  put-reached (x ∷ r) t w g s = elim (cases d five (x ∷ r) t) [
    | spur e ↦ rw e (step-then (SpurOut (length r)) [] (reverse (x ∷ r) ++ (0 ∷ w)) _ _ (spur-goes x r w) refl)
    | flip e ↦ rw (e, put-flip d five (x ∷ r) tt, steps-flip x r) (flip-reached x r w)
    | close e o ↦ rw (e, put-close d five (x ∷ r) o, steps-close x r o) (close-reached x r w g o)
    | other f ↦ rw (put-else d five (x ∷ r) t tt f, steps-other x r t f)
        (ap Some (ap (λ z. reverse (x ∷ r) ++ (t ∷ z)) (sym (next-none w s)) ∙ sym (reverse-next t (x ∷ r) (next_changed d 0 w))))
  ]

  -- a word reaches what is left of it
  pub read-reached : (p : Put) (w : List ℕ) → IsSound d p → InRange d w →
      Reaches d (reverse p.word ++ next_changed d p.change w) (reverse (read d p w).word)
  read-reached p [] s i = ([], ap Some (append-nil (reverse p.word)))
  read-reached p (y ∷ w) s i =
      let q = put d p.word (add d y p.change) in
      let later = read-reached q w (put-sound d five p y s i.0) i.1 in (
        put_steps d p.word (add d y p.change) ++ later.0,
        after_steps-append d (put_steps d p.word (add d y p.change)) later.0 (reverse p.word ++ (add d y p.change ∷ w)) _
            (put-reached p.word (add d y p.change) w s.good (next-below d w i.1)) ∙ later.1,
      )

  keeps-next : (step : Step) (steps : List Step) (p : Put) (w v : List ℕ) → IsSound d p → InRange d w → Keeps d (after_word_steps d steps) →
      after_word_steps d (step ∷ steps) w ≡ Some v → InRange d v × ((read d p w).word ≡ (read d p v).word)
  keeps-next step steps p w v s i k e = go (after_step d step w) refl
    where
      go : (o : Option (List ℕ)) → after_step d step w ≡ o → InRange d v × ((read d p w).word ≡ (read d p v).word)
      go None f = let refused = rw f at e in absurd cc
      go (Some u) f =
          let allowed = rw f at e in
          let first = keeps-step d five step p w u s i f in
          let rest = k p u v s first.0 allowed in
          (rest.0, first.1 ∙ rest.1)

  -- no list of steps changes what is left
  pub keeps-steps : (steps : List Step) → Keeps d (after_word_steps d steps)
  keeps-steps [] p w v s i e = let same : w ≡ v = cc in rw (← same) (i, refl)
  keeps-steps (step ∷ steps) p w v s i e = keeps-next step steps p w v s i (keeps-steps steps) e

  -- a canonical word is what is left of it
  pub read-append : (p : Put) (a b : List ℕ) → read d p (a ++ b) ≡ read d (read d p a) b
  read-append p [] b = refl
  read-append p (y ∷ a) b = read-append (put d p.word (add d y p.change)) a b

  pub read-good : (r : List ℕ) → IsCanonicalBackward d r → read d (state [] 0) (reverse r) ≡ state r 0
  read-good [] g = refl
  read-good (x ∷ r) g =
      ap (read d (state [] 0)) (reverse-cons x r)
      ∙ read-append (state [] 0) (reverse r) (x ∷ [])
      ∙ ap (λ q. read d q (x ∷ [])) (read-good r (good-tail d x r g))
      ∙ ap (put d r) (add-zero d x (good-head d x r g))
      ∙ put-back d five x r g

  pub read-sound : (p : Put) (w : List ℕ) → IsSound d p → InRange d w → IsSound d (read d p w)
  read-sound p [] s i = s
  read-sound p (y ∷ w) s i = read-sound (put d p.word (add d y p.change)) w (put-sound d five p y s i.0) i.1

  pub start-sound : IsSound d (state [] 0)
  start-sound = record { good = tt; below = omega arith }

  -- a canonical word that is reached is what is left
  pub reached-good : (w r : List ℕ) → InRange d w → IsCanonicalBackward d r → Reaches d w (reverse r) → r ≡ (read d (state [] 0) w).word
  reached-good w r i g reached =
      sym ((keeps-steps reached.0 (state [] 0) w (reverse r) start-sound i reached.1).1 ∙ ap (λ q. q.word) (read-good r g))

  -- what is left is reached
  pub left-reached : (w : List ℕ) → InRange d w → Reaches d w (reverse (read d (state [] 0) w).word)
  left-reached w i = let same = next-none w (next-below d w i) in rw same at (read-reached (state [] 0) w start-sound i)
