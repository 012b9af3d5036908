-- A cyclically canonical list that is gone along from the start has its cyclic turns for its word, behind a start direction, and
-- spokes that are put behind it leave as many of them as one likes.
use Rattle.joined_loops.proofs.Common.{along, upto-length, IsCanonicalRow, IsLoop, IsFullWheel, cyclic_turn, ◌≡◌, ℕ, ◌+◌, ◌-◌, ◌<◌, ◌≤◌, arith, refl, sym, ◌∙◌, ap, subst, zero, suc, List, [], ◌∷◌, length, reverse, common_steps, length-reverse, state, led, empty_state, hyper_next, BelongsTo, hyper_starts, put-back, add-lt, add-zero, add, put}
use Rattle.settling.proofs.Losses.{row-good}
use Rattle.joined_loops.proofs.Times.{times, times-some, times-add}
use Rattle.joined_loops.proofs.Keeping.{EndsIn, ends-later, begins, begins-ends, Anchors, anchors, led-rounds}
use Rattle.joined_loops.proofs.Going.{gone, began, began-sound, rowed}

module _ (places : List ℕ) (full : IsFullWheel places) (a : List ℕ) (loop : IsLoop places a) (some : 0 < length a)
    (canonical : IsCanonicalRow (length places) (length a) (cyclic_turn places a)) where
  abbrev d : ℕ
  d = length places

  abbrev n : ℕ
  n = length a

  abbrev five : 5 ≤ d
  five = full.own.five

  start_belongs : BelongsTo places empty_state
  start_belongs = hyper_starts.belongs places full.own

  -- the first entry of the word
  abbrev pub start : ℕ
  start = add d (cyclic_turn places a 0) (began places full a loop some empty_state).change

  start_in : start < d
  start_in = add-lt d _ _ (canonical.below 0) (began-sound places full a loop some empty_state start_belongs).below

  abbrev pub word_of : ℕ → List ℕ
  word_of = begins d full.own.five n (cyclic_turn places a) canonical start

  pub word-along : (j : ℕ) → along d (began places full a loop some empty_state) (cyclic_turn places a) (suc j) ≡ state (word_of j) 0
  word-along zero = refl
  word-along (suc j) =
      let r = cyclic_turn places a in
      let e : suc j ≡ 1 + j = omega arith in
      ap (λ p. put d p.word (add d (r (suc j)) p.change)) (word-along j)
      ∙ ap (put d (word_of j)) (add-zero d (r (suc j)) (canonical.below (suc j)) ∙ ap r e)
      ∙ put-back d five (r (1 + j)) (word_of j) (row-good d full.own.five n r canonical start 1 (suc j) start_in)

  pub word-is : (j : ℕ) → reverse (gone places a empty_state (suc j)).word ≡ word_of j
  word-is j = (rowed places full a loop some empty_state start_belongs refl (suc j)).word ∙ ap (λ p. p.word) (word-along j)

  pub word-length : (j : ℕ) → length (gone places a empty_state j).word ≡ j
  word-length zero = refl
  word-length (suc j) =
      let back = length-reverse (gone places a empty_state (suc j)).word in
      let is = ap length (word-is j) in
      let long = upto-length (cyclic_turn places a) 1 j (start ∷ []) in
      let one : length (start ∷ []) ≡ 1 = refl in
      omega arith

  -- a place in each round that no put reaches behind
  abbrev found : Anchors d full.own.five n (cyclic_turn places a) canonical start
  found = anchors d full.own.five n (cyclic_turn places a) canonical start

  -- the word of so many rounds but two, behind the first such place
  abbrev pub first_rounds : ℕ → List ℕ
  first_rounds j = word_of (found.first + times n j)

  pub rounds-length : (j : ℕ) → times n j + 2 ≤ length (first_rounds j)
  rounds-length j = grind (arith, common_steps, upto-length, times)

  pub rounds-ends : (j m : ℕ) → m ≤ found.first + times n j → EndsIn (first_rounds j) (word_of m)
  rounds-ends j m within =
      let left = found.first + times n j - m in
      let e : m + left ≡ found.first + times n j = omega arith in
      subst (λ i. EndsIn (word_of i) (word_of m)) e (begins-ends d five n (cyclic_turn places a) canonical start m left)

  pub earlier-rounds : (i j : ℕ) → EndsIn (first_rounds (i + j)) (first_rounds j)
  earlier-rounds i j =
      let sum = times-add n i j in
      rounds-ends (i + j) (found.first + times n j) (omega arith)

  pub rounds-begin : (j : ℕ) → EndsIn (reverse (gone places a empty_state (times n (j + 2))).word) (first_rounds j)
  rounds-begin j =
      let e : j + 2 ≡ suc (suc j) = omega arith in
      let same = ap (times n) e in
      let within = found.within in
      let from = found.first + times n j in
      let rest = times n j + n + n - 1 - from in
      let f : suc (from + rest) ≡ times n (j + 2) = omega arith in
      subst (λ i. EndsIn (reverse (gone places a empty_state i).word) (word_of from)) f
      (subst (λ w. EndsIn w (word_of from)) (sym (word-is (from + rest)))
      (begins-ends d five n (cyclic_turn places a) canonical start from rest))

  -- spokes that are put behind rounds take away one round each at most
  pub rounds-kept : (q : List ℕ) (c : ℕ) →
      EndsIn (reverse (led hyper_next places (gone places a empty_state (times n (length q + c + 2))) q).word) (first_rounds c)
  rounds-kept q c =
      led-rounds places five n (cyclic_turn places a) canonical start found (omega arith)
      (gone places a empty_state (times n (length q + c + 2))) q c (rounds-begin (length q + c))

  -- so the word begins as it began, as far as one likes
  pub word-kept : (q : List ℕ) (m : ℕ) →
      EndsIn (reverse (led hyper_next places (gone places a empty_state (times n (length q + suc m + 2))) q).word) (word_of (m + n))
  word-kept q m =
      let far = times-some n m some in
      ends-later _ _ _ (rounds-kept q (suc m)) (rounds-ends (suc m) (m + n) (omega arith))
