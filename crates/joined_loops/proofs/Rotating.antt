-- On a full wheel joined lists that are cyclically canonical are rotations of one another.
use Rattle.joined_loops.proofs.Common.{JoinedBy, Joined, along, upto, upto-length, IsCanonicalRow, along-first, along-round, rotated, rotated-length, rotated-along, along-below, turn_at, place-below, stands-even, IsLoop, IsFullWheel, IsCyclicallyCanonical, spoke_along, stands_before, cyclic_turn, IsRotation, ◌≡◌, ℕ, ◌+◌, ◌-◌, ◌%◌, ◌<◌, ◌≤◌, inl, inr, arith, refl, sym, ◌∙◌, ap, ap₂, subst, zero, suc, true, not, List, [], ◌∷◌, ◌++◌, length, reverse, get_or, cases_lt, cases_eq, common_steps, same_number_lists, reverse-reverse, length-reverse, length-append, nil_from_length, ◌==◌, if◌then◌else◌, state, led, HyperState, IsEven, empty_state, hyper_next, BelongsTo, hyper_starts, add, minus, place_round}
use Rattle.spoke_rings.proofs.LeastStarts.{rotation-back}
use Rattle.joined_loops.proofs.Times.{times, times-some, times-add, times-even, later-rounds}
use Rattle.joined_loops.proofs.Numbers.{by-round, Reached, start-reached, next-reached, led-reached, one-number, same-turn, less-none}
use Rattle.joined_loops.proofs.Keeping.{EndsIn, ends-later, begins-ends}
use Rattle.joined_loops.proofs.Going.{gone, began, gone-belongs, spoke_before, before-next, before-in, rowed, round-even, loop-range, led-longer, meets}
use Rattle.joined_loops.proofs.Joining.{joined-back}
use Rattle.joined_loops.proofs.Beginning.{start, word_of, word-along, word-is, word-length, word-kept}
use Rattle.joined_loops.proofs.Settled.{behind, behind-belongs, behind-even, both, put_at, put-is, Settled, settled, one-length, upto-append}

-- two ends of one list that are as long are one
ends-once : (f g u v : List ℕ) → f ++ u ≡ g ++ v → length u ≡ length v → u ≡ v
ends-once [] [] u v e long = e
ends-once [] (y ∷ g) u v e long = grind (arith, common_steps)
ends-once (x ∷ f) [] u v e long =
    let some : length (x ∷ f) ≡ length f + 1 = omega arith in
    absurd (let whole = ap length e in let more = length-append (x ∷ f) u in omega arith)
ends-once (x ∷ f) (y ∷ g) u v e long = let rest : f ++ u ≡ g ++ v = cc in ends-once f g u v rest long

upto-ends : (f : ℕ → ℕ) (m g : ℕ) (u : List ℕ) → EndsIn (upto f m g u) u
upto-ends f m zero u = record { front = []; is = refl }
upto-ends f m (suc g) u =
    let before = upto-ends f m g u in
    record { front = f (m + g) ∷ before.front; is = ap (λ w. f (m + g) ∷ w) before.is }

-- entries of two rows in front of two words
record Agree (f g : ℕ → ℕ) (m n k : ℕ) (u v : List ℕ) : Type 0 where
  rows : (i : ℕ) → i < k → f (m + i) ≡ g (n + i)
  words : u ≡ v

agree : (f g : ℕ → ℕ) (m n k : ℕ) (u v : List ℕ) → upto f m k u ≡ upto g n k v → Agree f g m n k u v
agree f g m n zero u v e = record { rows = λ i below. absurd (omega arith); words = e }
agree f g m n (suc k) u v e =
    let head : f (m + k) ≡ g (n + k) = cc in
    let tail : upto f m k u ≡ upto g n k v = cc in
    let before = agree f g m n k u v tail in
    record {
      rows = λ i below. grind arith;
      words = before.words;
    }

-- an even place, less whole rounds
record Within (a : List ℕ) (l : ℕ) : Type 0 where
  count : ℕ
  even : count % 2 ≡ 0
  within : count ≤ length a
  same : (i : ℕ) → spoke_along a (l + i) ≡ spoke_along a (count + i)

one-round-less : (a : List ℕ) (l c : ℕ) → length a < l → ((i : ℕ) → spoke_along a (l - length a + i) ≡ spoke_along a (c + i)) →
    (i : ℕ) → spoke_along a (l + i) ≡ spoke_along a (c + i)
one-round-less a l c far same i =
    let e : l + i ≡ l - length a + i + length a = omega arith in
    ap (spoke_along a) e ∙ along-round a (l - length a + i) ∙ same i

less-rounds : (a : List ℕ) → length a % 2 ≡ 0 → 0 < length a → (fuel l : ℕ) → l < fuel → l % 2 ≡ 0 → Within a l
less-rounds a whole some zero l below even = absurd (omega arith)
less-rounds a whole some (suc fuel) l below even = elim (cases_lt (length a) l) [
  | inr within ↦ record { count = l; even = even; within = within; same = λ i. refl }
  | inl far ↦
      let w = less-rounds a whole some fuel (l - length a) (omega arith) (omega arith) in
      record {
        count = w.count;
        even = w.even;
        within = w.within;
        same = one-round-less a l w.count far w.same;
      }
]

-- a list with the spokes of another one from an even place on
rotation-at : (a b : List ℕ) (l : ℕ) → length b ≡ length a → 0 < length a → Within a l →
    ((i : ℕ) → i < length a → get_or b i 0 ≡ spoke_along a (l + i)) → IsRotation a b
rotation-at a b l long some w same = record {
  count = w.count;
  even = w.even;
  within = w.within;
  is = same_number_lists b (rotated w.count a) (long ∙ sym (rotated-length a w.count w.within)) (λ i below. (
      let size = rotated-length a w.count w.within in
      let inside : i < length (rotated w.count a) = omega arith in
      let e : w.count + i ≡ i + w.count = omega arith in
      same i (omega arith) ∙ w.same i ∙ ap (spoke_along a) e ∙ sym (rotated-along a w.count w.within some i)
      ∙ along-first (rotated w.count a) i inside
      ));
}

stands-same : (x y : ℕ) → x % 2 ≡ y % 2 → stands_before true x ≡ stands_before true y
stands-same x y e = ap (λ r. if r == 0 then true else not true) e

gone-reached : (places : List ℕ) (full : IsFullWheel places) (a : List ℕ) → IsLoop places a → 0 < length a → (s : HyperState) →
    Reached places s → (j : ℕ) → Reached places (gone places a s j)
gone-reached places full a loop some s h zero = h
gone-reached places full a loop some s h (suc j) =
    next-reached places (gone places a s j) (spoke_along a j) (gone-reached places full a loop some s h j)
    (along-below places a loop some j)

module _ (places : List ℕ) (full : IsFullWheel places) (a b q : List ℕ) (a_loop : IsLoop places a) (b_loop : IsLoop places b)
    (a_some : 0 < length a) (b_some : 0 < length b) (a_canonical : IsCanonicalRow (length places) (length a) (cyclic_turn places a))
    (b_canonical : IsCanonicalRow (length places) (length b) (cyclic_turn places b)) (joined : JoinedBy places a b q)
    (longer : length b ≤ length a) where
  abbrev d : ℕ
  d = length places

  same_length : length a ≡ length b
  same_length = one-length places full a b q a_loop b_loop a_some b_some a_canonical b_canonical joined longer

  abbrev s0 : HyperState
  s0 = behind places full a b q a_loop b_loop a_some b_some a_canonical b_canonical joined longer

  abbrev Settles : Type 0
  Settles = Settled places full a b q a_loop b_loop a_some b_some a_canonical b_canonical joined longer

  module _ (s : Settles) where
    abbrev l : ℕ
    l = length s.word

    abbrev from : ℕ
    from = times (length b) s.rounds

    abbrev row_a : ℕ → ℕ
    row_a = cyclic_turn places a

    abbrev row_b : ℕ → ℕ
    row_b = cyclic_turn places b

    abbrev starts_as : ℕ → List ℕ
    starts_as = word_of places full a a_loop a_some a_canonical

    -- the word behind many rounds ends in one round of the other list, behind the settled word
    right-end : (j : ℕ) → EndsIn (reverse (gone places b s0 (times (length b) (s.rounds + suc j))).word) (upto row_b from (length b) s.word)
    right-end j =
        let n = length b in
        let e = times-add n s.rounds (suc j) in
        let f : times n (suc j) ≡ n + times n j = omega arith in
        let word : reverse (gone places b s0 (times n (s.rounds + suc j))).word ≡ upto row_b from (times n (suc j)) s.word =
        put-is places full a b q a_loop b_loop a_some b_some a_canonical b_canonical joined longer (times n (s.rounds + suc j))
        ∙ ap (λ i. (put_at places full a b q a_loop b_loop a_some b_some a_canonical b_canonical joined longer i).word) e
        ∙ ap (λ p. p.word) (s.is (times n (suc j))) in
        subst (λ w. EndsIn w (upto row_b from n s.word))
        (sym (word ∙ ap (λ k. upto row_b from k s.word) f ∙ upto-append row_b from n (times n j) s.word))
        (upto-ends row_b (from + n) (times n j) (upto row_b from n s.word))

    -- and it begins as the word of the one list
    left-end : (m : ℕ) → EndsIn (reverse (gone places b s0 (times (length b) (length q + suc m + 2))).word) (starts_as (m + length a))
    left-end m =
        subst (λ t. EndsIn (reverse t.word) (starts_as (m + length a)))
        (both places full a b q a_loop b_loop a_some b_some a_canonical b_canonical joined longer (length q + suc m + 2))
        (word-kept places full a a_loop a_some a_canonical q m)

    -- the middle of the word: the turns of the one list, and behind the settled word those of the other
    middle : Agree row_a row_b l from (length a) (starts_as (l - 1)) s.word
    middle =
        let n = length a in
        let m = l - 1 in
        let more = m + s.rounds in
        let e : length q + suc more + 2 ≡ s.rounds + suc (length q + m + 2) = omega arith in
        let f : m + n + s.rounds ≡ more + n = omega arith in
        let left = ends-later _ (starts_as (more + n)) (starts_as (m + n)) (left-end more)
        (subst (λ i. EndsIn (starts_as i) (starts_as (m + n))) f
        (begins-ends d full.own.five n row_a a_canonical (start places full a a_loop a_some a_canonical) (m + n) s.rounds)) in
        let right = subst (λ i. EndsIn (reverse (gone places b s0 (times (length b) i)).word) (upto row_b from (length b) s.word)) (sym e)
        (right-end (length q + m + 2)) in
        let left_size = upto-length row_a 1 (m + n) (start places full a a_loop a_some a_canonical ∷ []) in
        let right_size = upto-length row_b from (length b) s.word in
        let same = same_length in
        let single : length (start places full a a_loop a_some a_canonical ∷ []) ≡ 1 = refl in
        let ends : starts_as (m + n) ≡ upto row_b from (length b) s.word =
        ends-once left.front right.front (starts_as (m + n)) (upto row_b from (length b) s.word) (sym left.is ∙ right.is) (omega arith) in
        let g : 1 + m ≡ l = omega arith in
        agree row_a row_b l from n (starts_as m) s.word
        (sym (upto-append row_a 1 m n (start places full a a_loop a_some a_canonical ∷ []) ∙ ap (λ k. upto row_a k n (starts_as m)) g)
        ∙ ends ∙ ap (λ k. upto row_b from k s.word) (sym same_length))

    -- the states before the turns agree
    abbrev left_state : HyperState
    left_state = gone places a empty_state l

    abbrev right_state : HyperState
    right_state = gone places b s0 from

    settled-now : put_at places full a b q a_loop b_loop a_some b_some a_canonical b_canonical joined longer from ≡ state s.word 0
    settled-now =
        let e : from ≡ from + 0 = omega arith in
        ap (put_at places full a b q a_loop b_loop a_some b_some a_canonical b_canonical joined longer) e ∙ s.is 0

    right-word : reverse right_state.word ≡ s.word
    right-word =
        put-is places full a b q a_loop b_loop a_some b_some a_canonical b_canonical joined longer from ∙ ap (λ p. p.word) settled-now

    s0_belongs : BelongsTo places s0
    s0_belongs = behind-belongs places full a b q a_loop b_loop a_some b_some a_canonical b_canonical joined longer

    s0_even : IsEven s0
    s0_even = behind-even places full a b q a_loop b_loop a_some b_some a_canonical b_canonical joined longer

    even-word : l % 2 ≡ 0
    even-word =
        let even = round-even places full b b_loop b_some s0 s0_belongs s0_even s.rounds in
        let is = ap length right-word in
        let back = length-reverse right_state.word in
        omega arith

    left-word : reverse left_state.word ≡ starts_as (l - 1)
    left-word =
        let e : l ≡ suc (l - 1) = omega arith in
        ap (λ i. reverse (gone places a empty_state i).word) e ∙ word-is places full a a_loop a_some a_canonical (l - 1)

    same-number : left_state.number ≡ right_state.number
    same-number =
        one-number places full left_state right_state
        (gone-reached places full a a_loop a_some empty_state (start-reached places) l)
        (gone-reached places full b b_loop b_some s0
        (led-reached places empty_state q (start-reached places) (loop-range places q joined.loop)) from)
        (sym (reverse-reverse left_state.word) ∙ ap reverse (left-word ∙ middle.words ∙ sym right-word) ∙ reverse-reverse right_state.word)

    -- at the vertex and with no change, the number tells where the spoke before comes
    number-is : (c : List ℕ) (c_loop : IsLoop places c) (c_some : 0 < length c) (t : HyperState) → BelongsTo places t → IsEven t → (j : ℕ) →
        j % 2 ≡ 0 → (along d (began places full c c_loop c_some t) (cyclic_turn places c) j).change ≡ 0 →
        (gone places c t j).number ≡ get_or places (spoke_before places full c c_loop c_some j) 0
    number-is c c_loop c_some t belongs even j vertex none =
        let k = spoke_before places full c c_loop c_some j in
        (rowed places full c c_loop c_some t belongs even j).counts.number
        ∙ ap₂ (λ v x. add d (place_round places v k) (minus d x)) (stands-even true j vertex) none
        ∙ less-none d full.own.five (get_or places k 0) (full.own.wheel.inside k (before-in places full c c_loop c_some j))

    abbrev before_a : ℕ → ℕ
    before_a = spoke_before places full a a_loop a_some

    abbrev before_b : ℕ → ℕ
    before_b = spoke_before places full b b_loop b_some

    even-from : from % 2 ≡ 0
    even-from = times-even (length b) s.rounds b_loop.even

    first-same : before_a l ≡ before_b from
    first-same =
        let e : l ≡ suc (l - 1) = omega arith in
        let left = number-is a a_loop a_some empty_state (hyper_starts.belongs places full.own) refl l even-word
        (ap (λ i. (along d (began places full a a_loop a_some empty_state) row_a i).change) e
        ∙ ap (λ p. p.change) (word-along places full a a_loop a_some a_canonical (l - 1))) in
        let right = number-is b b_loop b_some s0 s0_belongs s0_even from even-from (ap (λ p. p.change) settled-now) in
        full.own.wheel.once (before_a l) (before_b from) (before-in places full a a_loop a_some l)
        (before-in places full b b_loop b_some from)
        (sym left ∙ same-number ∙ right)

    -- the spokes agree turn by turn
    next-same : (i : ℕ) → i < length a → before_a (l + i) ≡ before_b (from + i) → spoke_along a (l + i) ≡ spoke_along b (from + i)
    next-same i below before =
        let even_l = even-word in
        let even_f = even-from in
        let v = stands_before true (l + i) in
        let x = spoke_along a (l + i) in
        let y = spoke_along b (from + i) in
        let z = before_b (from + i) in
        let x_in = along-below places a a_loop a_some (l + i) in
        let y_in = along-below places b b_loop b_some (from + i) in
        let z_in = before-in places full b b_loop b_some (from + i) in
        let stands : stands_before true (from + i) ≡ v = stands-same (from + i) (l + i) (omega arith) in
        let turn : turn_at places v z x ≡ turn_at places v z y =
        ap (λ k. add d (place_round places v x) (minus d (place_round places v k))) (sym before) ∙ middle.rows i below
        ∙ ap (λ w. add d (place_round places w y) (minus d (place_round places w z))) stands in
        by-round places full v x y x_in y_in
        (same-turn d full.own.five (place_round places v x) (place_round places v y) (place_round places v z)
        (place-below places v x full.own.wheel x_in) (place-below places v y full.own.wheel y_in)
        (place-below places v z full.own.wheel z_in) turn)

    all-same : (i : ℕ) → i ≤ length a → before_a (l + i) ≡ before_b (from + i)
    all-same zero within =
        let e : l + 0 ≡ l = omega arith in
        let f : from ≡ from + 0 = omega arith in
        ap before_a e ∙ first-same ∙ ap before_b f
    all-same (suc i) within =
        let e : l + suc i ≡ suc (l + i) = omega arith in
        let f : suc (from + i) ≡ from + suc i = omega arith in
        ap before_a e ∙ before-next places full a a_loop a_some (l + i) ∙ next-same i (omega arith) (all-same i (omega arith))
        ∙ sym (before-next places full b b_loop b_some (from + i)) ∙ ap before_b f

    rotation : IsRotation a b
    rotation =
        rotation-at a b l (sym same_length) a_some (less-rounds a a_loop.even a_some (suc l) l (omega arith) even-word)
        (λ i below. (
        let same = same_length in
        let inside : i < length b = omega arith in
        let e : from + i ≡ i + from = omega arith in
        sym (next-same i below (all-same i (omega arith)) ∙ ap (spoke_along b) e
        ∙ later-rounds (spoke_along b) (length b) (along-round b) i s.rounds ∙ along-first b i inside)
        ))

  pub rotation-of-longer : IsRotation a b
  rotation-of-longer = rotation (settled places full a b q a_loop b_loop a_some b_some a_canonical b_canonical joined longer)

-- the turns of a list with spokes
turns-of : (places a : List ℕ) → IsCyclicallyCanonical places a → 0 < length a →
    IsCanonicalRow (length places) (length a) (cyclic_turn places a)
turns-of places a c some = grind arith

module _ (places : List ℕ) (full : IsFullWheel places) where
  -- a list with spokes is joined to no empty one
  not-empty : (a b : List ℕ) → IsLoop places a → IsCyclicallyCanonical places a → Joined places a b → 0 < length a → length b ≡ 0 → ⊥
  not-empty a b loop canonical joined some none =
      let q = joined.0 in
      let j = length q + length q + 1 in
      let belongs = hyper_starts.belongs places full.own in
      let s = gone places a empty_state (times (length a) j) in
      let size = word-length places full a loop some (turns-of places a canonical some) (times (length a) j) in
      let far = times-some (length a) j some in
      let there = gone-belongs places full a loop some empty_state belongs refl (times (length a) j) in
      let to = led-longer places s q there (loop-range places q joined.1.loop) in
      let from = led-longer places empty_state q belongs (loop-range places q joined.1.loop) in
      let is = ap (λ t. length t.word) (meets places full a b q loop some joined.1 empty_state belongs refl j) in
      let still = ap (λ i. length (gone places b (led hyper_next places empty_state q) i).word) (times-none (length b) j none) in
      let least = to.1 in
      let most = from.0 in
      let zero_long : length empty_state.word ≡ 0 = refl in
      absurd (omega arith)
    where
      times-none : (n j : ℕ) → n ≡ 0 → times n j ≡ 0
      times-none n zero e = refl
      times-none n (suc j) e = let before = times-none n j e in omega arith

  longer-first : (a b : List ℕ) → IsLoop places a → IsLoop places b → IsCyclicallyCanonical places a → IsCyclicallyCanonical places b →
      Joined places a b → length b ≤ length a → IsRotation a b
  longer-first a b a_loop b_loop a_canonical b_canonical joined longer = elim (cases_eq (length a) 0) [
    | inl none ↦
        let a_none = nil_from_length a none in
        let b_none = nil_from_length b (omega arith) in
        record { count = 0; even = refl; within = omega arith; is = b_none ∙ sym (ap (rotated 0) a_none) }
    | inr some ↦
        let a_some : 0 < length a = omega arith in
        elim (cases_eq (length b) 0) [
          | inl empty ↦ absurd (not-empty a b a_loop a_canonical joined a_some empty)
          | inr more ↦
              let b_some : 0 < length b = omega arith in
              rotation-of-longer places full a b joined.0 a_loop b_loop a_some b_some (turns-of places a a_canonical a_some)
              (turns-of places b b_canonical b_some) joined.1 longer
        ]
  ]

  pub joined-rotations : (a b : List ℕ) → IsLoop places a → IsLoop places b → IsCyclicallyCanonical places a →
      IsCyclicallyCanonical places b → Joined places a b → IsRotation a b
  joined-rotations a b a_loop b_loop a_canonical b_canonical joined = elim (cases_lt (length a) (length b)) [
    | inr longer ↦ longer-first a b a_loop b_loop a_canonical b_canonical joined longer
    | inl shorter ↦
        rotation-back b a b_loop.even
        (longer-first b a b_loop a_loop b_canonical a_canonical (joined-back places a b a_loop joined) (omega arith))
  ]
