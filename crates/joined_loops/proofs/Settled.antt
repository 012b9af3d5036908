-- A cyclically canonical list that is gone along behind the joining list: before long it only puts its turns last.
use Rattle.joined_loops.proofs.Common.{JoinedBy, along, upto, upto-length, IsCanonicalRow, IsLoop, IsFullWheel, spoke_along, cyclic_turn, ◌≡◌, ℕ, ◌+◌, ◌-◌, ◌<◌, ◌≤◌, inl, inr, arith, refl, sym, ◌∙◌, ap, zero, suc, List, ◌∷◌, length, reverse, cases_lt, length-reverse, state, led, HyperState, IsEven, empty_state, hyper_next, BelongsTo, length-next, hyper_starts, Put}
use Rattle.settling.proofs.Settling.{within_budget}
use Rattle.joined_loops.proofs.Times.{times, times-more, times-above, times-some, times-add}
use Rattle.joined_loops.proofs.Going.{gone, began, began-sound, rowed, gone-belongs, meets, loop-range, led-belongs, led-even, led-longer}
use Rattle.joined_loops.proofs.Beginning.{word-length}

pub upto-append : (f : ℕ → ℕ) (m g i : ℕ) (rest : List ℕ) → upto f m (g + i) rest ≡ upto f (m + g) i (upto f m g rest)
upto-append f m g zero rest = let e : g + 0 ≡ g = omega arith in ap (λ k. upto f m k rest) e
upto-append f m g (suc i) rest =
    let e : g + suc i ≡ suc (g + i) = omega arith in
    let h : m + (g + i) ≡ m + g + i = omega arith in
    ap (λ k. upto f m k rest) e ∙ ap (λ k. f k ∷ upto f m (g + i) rest) h ∙ ap (λ l. f (m + g + i) ∷ l) (upto-append f m g i rest)

-- from a later place on, each turn is only put last too
stays-later : (f : ℕ → ℕ) (at : ℕ → Put) (t g m : ℕ) (word : List ℕ) → t + g ≡ m → ((k : ℕ) → at (t + k) ≡ state (upto f t k word) 0) →
    (i : ℕ) → at (m + i) ≡ state (upto f m i (upto f t g word)) 0
stays-later f at t g m word e is i =
    let later : m + i ≡ t + (g + i) = omega arith in
    let words : upto f t (g + i) word ≡ upto f m i (upto f t g word) = grind (arith, upto-append) in
    ap at later ∙ is (g + i) ∙ ap (λ w. state w 0) words

module _ (places : List ℕ) (full : IsFullWheel places) (a b q : List ℕ) (a_loop : IsLoop places a) (b_loop : IsLoop places b)
    (a_some : 0 < length a) (b_some : 0 < length b) (a_canonical : IsCanonicalRow (length places) (length a) (cyclic_turn places a))
    (b_canonical : IsCanonicalRow (length places) (length b) (cyclic_turn places b)) (joined : JoinedBy places a b q)
    (longer : length b ≤ length a) where
  abbrev d : ℕ
  d = length places

  five : 5 ≤ d
  five = full.own.five

  start_belongs : BelongsTo places empty_state
  start_belongs = hyper_starts.belongs places full.own

  -- the state behind the joining list
  abbrev pub behind : HyperState
  behind = led hyper_next places empty_state q

  pub behind-belongs : BelongsTo places behind
  behind-belongs = led-belongs places empty_state q start_belongs (loop-range places q joined.loop)

  pub behind-even : IsEven behind
  behind-even = led-even places empty_state q start_belongs refl joined.loop

  -- so many rounds of the one list and then the joining list lead where the joining list and so many rounds of the other lead
  pub both : (j : ℕ) → led hyper_next places (gone places a empty_state (times (length a) j)) q ≡ gone places b behind (times (length b) j)
  both = meets places full a b q a_loop a_some joined empty_state start_belongs refl

  -- so the word behind rounds of the other list is long
  pub long-rounds : (j : ℕ) → times (length a) j ≤ length (gone places b behind (times (length b) j)).word + length q
  long-rounds j =
      let s = gone places a empty_state (times (length a) j) in
      let belongs = gone-belongs places full a a_loop a_some empty_state start_belongs refl (times (length a) j) in
      let bounds = led-longer places s q belongs (loop-range places q joined.loop) in
      let is = ap (λ t. length t.word) (both j) in
      let long = word-length places full a a_loop a_some a_canonical (times (length a) j) in
      let most = bounds.1 in
      omega arith

  behind-short : length behind.word ≤ length q
  behind-short =
      let bounds = led-longer places empty_state q start_belongs (loop-range places q joined.loop) in
      let none : length empty_state.word ≡ 0 = refl in
      omega arith

  gone-longer : (j i : ℕ) → length (gone places b behind (j + i)).word ≤ length (gone places b behind j).word + i
  gone-longer j zero = let e : j + 0 ≡ j = omega arith in let same = ap (λ k. length (gone places b behind k).word) e in omega arith
  gone-longer j (suc i) =
      let e : j + suc i ≡ suc (j + i) = omega arith in
      let same = ap (λ k. length (gone places b behind k).word) e in
      let before = gone-longer j i in
      let once = length-next places (gone places b behind (j + i)) (spoke_along b (j + i))
      (gone-belongs places full b b_loop b_some behind behind-belongs behind-even (j + i)) in
      omega arith

  pub gone-long : (j : ℕ) → j ≤ length (gone places b behind j).word + length q
  gone-long j =
      let rounds = times (length b) j in
      let far : j ≤ rounds = times-some (length b) j b_some in
      let i = rounds - j in
      let e : j + i ≡ rounds = omega arith in
      let same = ap (λ k. length (gone places b behind k).word) e in
      let more = gone-longer j i in
      let most = long-rounds j in
      let less = times-more (length b) (length a) j longer in
      omega arith

  abbrev pub put_at : ℕ → Put
  put_at j = along d (began places full b b_loop b_some behind) (cyclic_turn places b) j

  pub put-is : (j : ℕ) → reverse (gone places b behind j).word ≡ (put_at j).word
  put-is j = (rowed places full b b_loop b_some behind behind-belongs behind-even j).word

  put-length : (j : ℕ) → length (put_at j).word ≡ length (gone places b behind j).word
  put-length j = sym (ap length (put-is j)) ∙ length-reverse (gone places b behind j).word

  -- from so many rounds on, each turn is only put last, behind a word that is not shorter than a round
  pub record Settled : Type 0 where
    pub rounds : ℕ
    pub word : List ℕ
    pub long : length b ≤ length word
    pub is : (i : ℕ) → put_at (times (length b) rounds + i) ≡ state (upto (cyclic_turn places b) (times (length b) rounds) i word) 0

  pub settled : Settled
  settled =
      let found = within_budget d (length b) (cyclic_turn places b) five b_canonical (began places full b b_loop b_some behind)
      (began-sound places full b b_loop b_some behind behind-belongs) (length q) 0
      (λ j. (
      let e : 0 + j ≡ j = omega arith in
      let same = ap (λ i. length (put_at i).word) e in
      let now = put-length j in
      let first = put-length 0 in
      let none = behind-short in
      let some = gone-long j in
      omega arith
      )) in
      let t = 0 + found.0 in
      let m = suc t in
      let far = times-some (length b) t b_some in
      let g = times (length b) m - t in
      let e : t + g ≡ times (length b) m = omega arith in
      let row = cyclic_turn places b in
      let size = upto-length row t g (put_at t).word in
      record {
        rounds = m;
        word = upto row t g (put_at t).word;
        long = omega arith;
        is = stays-later row put_at t g (times (length b) m) (put_at t).word e found.2.is;
      }

  -- the lists have one length
  pub one-length : length a ≡ length b
  one-length =
      let s = settled in
      let l = length s.word in
      let more = l + length q + 1 in
      let n = length b in
      let j = s.rounds + more in
      let whole = times-add n s.rounds more in
      let most = long-rounds j in
      let now = put-length (times n j) in
      let same = ap (λ i. length (put_at i).word) whole in
      let is = ap (λ p. length p.word) (s.is (times n more)) in
      let size = upto-length (cyclic_turn places b) (times n s.rounds) (times n more) s.word in
      elim (cases_lt n (length a)) [
        | inl more_spokes ↦ absurd (let above = times-above n (length a) j (omega arith) in omega arith)
        | inr short ↦ omega arith
      ]
