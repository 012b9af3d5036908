-- A closed list that is gone along again and again: the states on the way, and the row of its cyclic turns that they put along a word.
use Rattle.joined_loops.proofs.Common.{JoinedBy, along, entries, along-first, along-round, along-below, stands-even, stands-odd, IsLoop, IsFullWheel, spoke_along, stands_before, cyclic_turn, ◌≡◌, ℕ, ◌+◌, ◌-◌, ◌%◌, ◌<◌, ◌≤◌, arith, refl, sym, ◌∙◌, ap, ap₂, subst, zero, suc, true, not, List, [], ◌∷◌, length, reverse, get_or, reverse-reverse, led-append, IsSound, state, Stands, Counts, counts-next, counts-turn, led, HyperState, IsEven, turn_to, hyper_next, BelongsTo, in-range-from, good_word, next_belongs, length-next, InRange, add-lt, minus-lt, add, minus, Put, put}
use Rattle.joined_loops.proofs.Numbers.{take-back}
use Rattle.joined_loops.proofs.Times.{times, times-even, later-rounds}

-- a list as some entries of a row
entries-are : (row : ℕ → ℕ) (m : ℕ) (l : List ℕ) → ((i : ℕ) → i < length l → row (m + i) ≡ get_or l i 0) → entries row m (length l) ≡ l
entries-are row m [] h = refl
entries-are row m (x ∷ l) h =
    let e : m ≡ m + 0 = omega arith in
    ap₂ (λ y r. y ∷ r) (ap row e ∙ h 0 (omega arith))
    (entries-are row (m + 1) l (λ i below. (let f : m + 1 + i ≡ m + suc i = omega arith in ap row f ∙ h (suc i) (omega arith))))

-- the numbers of a list, each below the degree, as `InRange`
pub loop-range : (places spokes : List ℕ) → IsLoop places spokes → InRange (length places) spokes
loop-range places spokes loop = in-range-from (length places) spokes loop.below

module _ (places : List ℕ) where
  abbrev d : ℕ
  d = length places

  -- what a list of spokes makes of a state
  pub led-belongs : (s : HyperState) (q : List ℕ) → BelongsTo places s → InRange d q → BelongsTo places (led hyper_next places s q)
  led-belongs s [] b h = b
  led-belongs s (x ∷ q) b h = led-belongs (hyper_next places s x) q (next_belongs places s x b h.0) h.1

  pub led-parity : (s : HyperState) (q : List ℕ) → BelongsTo places s → InRange d q →
      length (led hyper_next places s q).word % 2 ≡ (length s.word + length q) % 2
  led-parity s [] b h = let e : length s.word + 0 ≡ length s.word = omega arith in ap (λ n. n % 2) (sym e)
  led-parity s (x ∷ q) b h =
      let later = led-parity (hyper_next places s x) q (next_belongs places s x b h.0) h.1 in
      let once = length-next places s x b in
      let long : length (x ∷ q) ≡ length q + 1 = omega arith in
      omega arith

  pub led-even : (s : HyperState) (q : List ℕ) → BelongsTo places s → IsEven s → IsLoop places q →
      IsEven (led hyper_next places s q)
  led-even s q b e loop = let h = led-parity s q b (loop-range places q loop) in let f = loop.even in omega arith

  pub led-longer : (s : HyperState) (q : List ℕ) → BelongsTo places s → InRange d q →
      (length (led hyper_next places s q).word ≤ length s.word + length q)
      × (length s.word ≤ length (led hyper_next places s q).word + length q)
  led-longer s [] b h = (omega arith, omega arith)
  led-longer s (x ∷ q) b h =
      let later = led-longer (hyper_next places s x) q (next_belongs places s x b h.0) h.1 in
      let once = length-next places s x b in
      let long : length (x ∷ q) ≡ length q + 1 = omega arith in
      (omega arith, omega arith)

  -- the states on the way
  abbrev pub gone : List ℕ → HyperState → ℕ → HyperState
  gone a s zero = s
  gone a s (suc j) = hyper_next places (gone a s j) (spoke_along a j)

  gone-entries : (a : List ℕ) (s : HyperState) (j k : ℕ) →
      led hyper_next places (gone a s j) (entries (spoke_along a) j k) ≡ gone a s (j + k)
  gone-entries a s j zero = let e : j ≡ j + 0 = omega arith in ap (gone a s) e
  gone-entries a s j (suc k) =
      let e : j + 1 ≡ suc j = omega arith in
      let f : suc j + k ≡ j + suc k = omega arith in
      ap (λ i. led hyper_next places (gone a s (suc j)) (entries (spoke_along a) i k)) e ∙ gone-entries a s (suc j) k ∙ ap (gone a s) f

  -- one round more
  pub gone-round : (a : List ℕ) (s : HyperState) (j : ℕ) →
      gone a s (times (length a) (suc j)) ≡ led hyper_next places (gone a s (times (length a) j)) a
  gone-round a s j =
      sym (gone-entries a s (times (length a) j) (length a))
      ∙ ap (led hyper_next places (gone a s (times (length a) j)))
      (entries-are (spoke_along a) (times (length a) j) a (λ i below. (
      let e : times (length a) j + i ≡ i + times (length a) j = omega arith in
      ap (spoke_along a) e ∙ later-rounds (spoke_along a) (length a) (along-round a) i j ∙ along-first a i below
      )))

stands-more : (j : ℕ) → not (stands_before true j) ≡ stands_before true (suc j)
stands-more j = grind (arith, stands-even, stands-odd)

module _ (places : List ℕ) (full : IsFullWheel places) (a : List ℕ) (loop : IsLoop places a) (some : 0 < length a) where
  -- the spoke before
  abbrev pub spoke_before : ℕ → ℕ
  spoke_before j = spoke_along a (j + (length a - 1))

  pub before-next : (j : ℕ) → spoke_before (suc j) ≡ spoke_along a j
  before-next j = let e : suc j + (length a - 1) ≡ j + length a = omega arith in ap (spoke_along a) e ∙ along-round a j

  pub before-in : (j : ℕ) → spoke_before j < length places
  before-in j = along-below places a loop some (j + (length a - 1))

  -- the word of a state, and the change of the first turn of the row
  abbrev pub began : HyperState → Put
  began s = state (reverse s.word) (add (length places) (get_or places (spoke_before 0) 0) (minus (length places) s.number))

  pub began-sound : (s : HyperState) → BelongsTo places s → IsSound (length places) (began s)
  began-sound s b = grind (arith, good_word, add-lt, minus-lt)

  abbrev pub row : ℕ → ℕ
  row = cyclic_turn places a

  -- a state on the way has the word that is put along the row, and its number is counted from the spoke before
  pub record Rowed (s : HyperState) (j : ℕ) : Type 0 where
    pub counts : Counts places (gone places a s j) (stands_before true j) (spoke_before j) (along (length places) (began s) row j).change
    pub word : reverse (gone places a s j).word ≡ (along (length places) (began s) row j).word

  pub rowed : (s : HyperState) → BelongsTo places s → IsEven s → (j : ℕ) → Rowed s j
  rowed s b even zero =
      let d = length places in
      let place_in = full.own.wheel.inside (spoke_before 0) (before-in 0) in
      record {
        counts = record {
          belongs = b;
          stands = even;
          last_below = before-in 0;
          n_below = (began-sound s b).below;
          number = sym (take-back d full.own.five (get_or places (spoke_before 0) 0) s.number place_in b.number_below);
        };
        word = refl;
      }
  rowed s b even (suc j) =
      let d = length places in
      let before = rowed s b even j in
      let c = before.counts in
      let now = gone places a s j in
      let v = stands_before true j in
      let i = spoke_along a j in
      let i_in : i < d = along-below places a loop some j in
      let q = along d (began s) row j in
      let turn : add d (row j) q.change ≡ turn_to places now i = counts-turn places now v (spoke_before j) q.change i c i_in in
      let same : put d (reverse now.word) (turn_to places now i) ≡ along d (began s) row (suc j) = ap₂ (put d) before.word (sym turn) in
      let after = gone places a s (suc j) in
      let change = (put d (reverse now.word) (turn_to places now i)).change in
      let next = counts-next places now v i c.belongs c.stands i_in in
      let moved = subst (λ w. Counts places after w i change) (stands-more j) next in
      let from = subst (λ k. Counts places after (stands_before true (suc j)) k change) (sym (before-next j)) moved in
      record {
        counts = subst (λ p. Counts places after (stands_before true (suc j)) (spoke_before (suc j)) p.change) same from;
        word = reverse-reverse (put d (reverse now.word) (turn_to places now i)).word ∙ ap (λ p. p.word) same;
      }

  -- behind whole rounds the list stands at the vertex
  pub round-stands : (j : ℕ) → stands_before true (times (length a) j) ≡ true
  round-stands j = stands-even true (times (length a) j) (times-even (length a) j loop.even)

  pub round-even : (s : HyperState) → BelongsTo places s → IsEven s → (j : ℕ) → IsEven (gone places a s (times (length a) j))
  round-even s b even j =
      let c = (rowed s b even (times (length a) j)).counts in
      subst (Stands (gone places a s (times (length a) j)).word) (round-stands j) c.stands

  pub gone-belongs : (s : HyperState) → BelongsTo places s → IsEven s → (j : ℕ) → BelongsTo places (gone places a s j)
  gone-belongs s b even j = (rowed s b even j).counts.belongs

-- lists that are joined lead to one state, so often each of them is gone along
pub meets : (places : List ℕ) → IsFullWheel places → (a b q : List ℕ) → IsLoop places a → 0 < length a → JoinedBy places a b q →
    (s : HyperState) → BelongsTo places s → IsEven s → (j : ℕ) →
    led hyper_next places (gone places a s (times (length a) j)) q ≡ gone places b (led hyper_next places s q) (times (length b) j)
meets places full a b q loop some joined s belongs even zero = refl
meets places full a b q loop some joined s belongs even (suc j) =
    let t = gone places a s (times (length a) j) in
    let t_belongs = gone-belongs places full a loop some s belongs even (times (length a) j) in
    let t_even = round-even places full a loop some s belongs even j in
    ap (λ x. led hyper_next places x q) (gone-round places a s j)
    ∙ sym (led-append hyper_next places t a q)
    ∙ joined.same t t_belongs t_even
    ∙ led-append hyper_next places t q b
    ∙ ap (λ x. led hyper_next places x b) (meets places full a b q loop some joined s belongs even j)
    ∙ sym (gone-round places b (led hyper_next places s q) j)
