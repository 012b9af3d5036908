-- What is kept of a word where turns or spokes are put behind it, said of words that are written from their start.
use Rattle.joined_loops.proofs.Common.{repeated, IsCanonicalRow, IsLoop, IsFullWheel, cyclic_turn, ◌≡◌, ◌≢◌, ℕ, ◌+◌, ◌*◌, ◌≤◌, inl, inr, arith, refl, sym, ◌∙◌, ap, ap₂, zero, suc, true, List, [], ◌∷◌, ◌++◌, replicate, take, length, reverse, cases_Bool, append-nil, reverse-append, reverse-reverse, length-reverse, take-append-le, led-append, led, HyperState, empty_state, hyper_next, reverse-next, open-cases, minus, is_open, put, put_last}
use Rattle.turn_words.specs.FiveCases.{EndsOpen}
use Rattle.joined_loops.proofs.Times.{times}
use Rattle.joined_loops.proofs.Keeping.{EndsIn, ends-later, put-keeps}
use Rattle.joined_loops.proofs.Going.{gone, gone-round}
use Rattle.joined_loops.proofs.Beginning.{first_rounds, rounds-length, rounds-begin, earlier-rounds, rounds-kept}

-- an open word read from its end
record Opened (r : List ℕ) : Type 0 where
  k : ℕ
  x : ℕ
  rest : List ℕ
  is : r ≡ replicate k 2 ++ 1 ∷ x ∷ rest

opened : (r : List ℕ) → is_open r ≡ true → Opened r
opened [] o = absurd cc
opened (t ∷ []) o = absurd cc
opened (t ∷ x ∷ r) o = elim ((open-cases t (x ∷ r) o).1) [
  | inl one ↦ record { k = 0; x = x; rest = r; is = ap (λ y. y ∷ x ∷ r) one }
  | inr two ↦
      let inner = opened (x ∷ r) two.1 in
      record { k = suc inner.k; x = inner.x; rest = inner.rest; is = ap₂ (λ y l. y ∷ l) two.0 inner.is }
]

reverse-twos : (k : ℕ) (w : List ℕ) → reverse (replicate k 2) ++ w ≡ replicate k 2 ++ w
reverse-twos zero w = refl
reverse-twos (suc k) w = reverse-next 2 (replicate k 2) w ∙ reverse-twos k (2 ∷ w) ∙ twos k w
  where
    twos : (k : ℕ) (w : List ℕ) → replicate k 2 ++ 2 ∷ w ≡ 2 ∷ replicate k 2 ++ w
    twos zero w = refl
    twos (suc k) w = ap (λ l. 2 ∷ l) (twos k w)

ends-open : (w : List ℕ) → is_open (reverse w) ≡ true → EndsOpen w
ends-open w o =
    let r = opened (reverse w) o in
    let twos = replicate r.k 2 in
    let twos_back : reverse twos ≡ twos = sym (append-nil (reverse twos)) ∙ reverse-twos r.k [] ∙ append-nil twos in
    record {
      before = reverse r.rest;
      x = r.x;
      k = r.k;
      is = sym (reverse-reverse w) ∙ ap reverse r.is ∙ reverse-append twos (1 ∷ r.x ∷ r.rest)
          ∙ ap (λ l. reverse (1 ∷ r.x ∷ r.rest) ++ l) twos_back ∙ reverse-next 1 (r.x ∷ r.rest) twos ∙ reverse-next r.x r.rest (1 ∷ twos);
    }

-- a put leaves what stands before such a turn
pub put-leaves : (degree turn x y : ℕ) (before after : List ℕ) → 5 ≤ degree → x ≢ minus degree 2 → (x ≡ 2 → ¬ EndsOpen (before ++ y ∷ [])) →
    (more : List ℕ) × ((put_last degree (before ++ y ∷ x ∷ after) turn).word ≡ before ++ more)
put-leaves degree turn x y before after five not_fall shut =
    let r = reverse before in
    let split : reverse (before ++ y ∷ x ∷ after) ≡ reverse after ++ x ∷ y ∷ r =
    reverse-append before (y ∷ x ∷ after) ∙ reverse-next y (x ∷ after) r ∙ reverse-next x after (y ∷ r) in
    let kept = put-keeps degree five (reverse after) x y r turn not_fall (λ two. elim (cases_Bool (is_open (y ∷ r))) [
      | inr none ↦ none
      | inl open_word ↦ absurd (shut two (ends-open (before ++ y ∷ []) (ap is_open (reverse-append before (y ∷ [])) ∙ open_word)))
    ]) in (
      reverse kept.front,
      ap (λ w. reverse (put degree w turn).word) split ∙ ap reverse kept.is ∙ reverse-append kept.front r
          ∙ ap (λ l. l ++ reverse kept.front) (reverse-reverse before),
    )

times-is : (n j : ℕ) → times n j ≡ j * n
times-is n zero = grind arith
times-is n (suc j) = let before = times-is n j in grind arith

-- rounds from a state on the way
rounds-led : (places a : List ℕ) (s : HyperState) (i j : ℕ) →
    led hyper_next places (gone places a s (times (length a) i)) (repeated a j) ≡ gone places a s (times (length a) (i + j))
rounds-led places a s i zero = let e : i ≡ i + 0 = omega arith in ap (λ k. gone places a s (times (length a) k)) e
rounds-led places a s i (suc j) =
    let t = gone places a s (times (length a) i) in
    let e : suc i + j ≡ i + suc j = omega arith in
    led-append hyper_next places t a (repeated a j)
    ∙ ap (λ u. led hyper_next places u (repeated a j)) (sym (gone-round places a s i))
    ∙ rounds-led places a s (suc i) j ∙ ap (λ k. gone places a s (times (length a) k)) e

-- words that end alike, read from their end, begin alike
begin-alike : (v w u : List ℕ) (k : ℕ) → EndsIn (reverse v) u → EndsIn (reverse w) u → k ≤ length u → take k v ≡ take k w
begin-alike v w u k a b within =
    let long = length-reverse u in
    let begins : (z : List ℕ) → EndsIn (reverse z) u → take k z ≡ take k (reverse u) =
    λ z e. ap (take k) (sym (reverse-reverse z) ∙ ap reverse e.is ∙ reverse-append e.front u)
    ∙ take-append-le k (reverse u) (reverse e.front) (omega arith) in
    begins v a ∙ sym (begins w b)

-- spokes that are put behind rounds of a canonical list leave the word of all rounds but two and one for each spoke
pub rounds-left : (places a more : List ℕ) (rounds : ℕ) → IsFullWheel places → IsLoop places a →
    IsCanonicalRow (length places) (length a) (cyclic_turn places a) →
    take (rounds * length a + 2) (led hyper_next places empty_state (repeated a (length more + rounds + 2) ++ more)).word
    ≡ take (rounds * length a + 2) (led hyper_next places empty_state (repeated a (length more + rounds + 2))).word
rounds-left places a more rounds full loop canonical =
    let n = length a in
    let some = canonical.some in
    let count = length more + rounds + 2 in
    let state = gone places a empty_state (times n count) in
    let z : 0 + count ≡ count = omega arith in
    let all : led hyper_next places empty_state (repeated a count) ≡ state =
    rounds-led places a empty_state 0 count ∙ ap (λ k. gone places a empty_state (times n k)) z in
    let behind : led hyper_next places empty_state (repeated a count ++ more) ≡ led hyper_next places state more =
    led-append hyper_next places empty_state (repeated a count) more ∙ ap (λ u. led hyper_next places u more) all in
    let size = times-is n rounds in
    let long = rounds-length places full a loop some canonical rounds in
    let u = first_rounds places full a loop some canonical rounds in
    let now = rounds-begin places full a loop some canonical (length more + rounds) in
    ap (λ t. take (rounds * n + 2) t.word) behind
    ∙ begin-alike (led hyper_next places state more).word state.word u (rounds * n + 2)
    (rounds-kept places full a loop some canonical more rounds)
    (ends-later (reverse state.word) (first_rounds places full a loop some canonical (length more + rounds)) u now
    (earlier-rounds places full a loop some canonical (length more) rounds))
    (omega arith)
    ∙ ap (λ t. take (rounds * n + 2) t.word) (sym all)
