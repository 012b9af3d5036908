-- A canonical row settles: where no entry is lost for two rounds, each entry from then on is only put last.
use Rattle.settling.proofs.Common.{IsCanonicalRow, ◌≡◌, ℕ, ◌+◌, ◌*◌, ◌-◌, ◌<◌, ◌≤◌, ◌⊎◌, inl, inr, arith, sym, ◌∙◌, ap, subst, zero, suc, false, List, ◌∷◌, length, IsSound, state, length-put, add-zero, Follows, IsCons, open-two, open-other, put-else, add, minus, Put, is_open, put}
use Rattle.std.proofs.Math.Nat.{mul-le-mul_left}
use Rattle.std.proofs.lemmas.Bool.{cases_eq, cases_lt}
use Rattle.settling.proofs.Rows.{along, upto, upto-cons, Grown, plain, turned, grown, longer-cons, one-more}

module _ (d n : ℕ) (row : ℕ → ℕ) (five : 5 ≤ d) (canonical : IsCanonicalRow d n row) where
  -- some rounds later the row is the same
  rounds-later : (at q : ℕ) → row (at + q * n) ≡ row at
  rounds-later at zero = let e : at + 0 * n ≡ at = omega arith in ap row e
  rounds-later at (suc q) =
      let e : at + suc q * n ≡ at + q * n + n = grind arith in
      ap row e ∙ canonical.comes_round (at + q * n) ∙ rounds-later at q

  -- what holds in one round holds in all later ones
  later-falls : (s fuel k : ℕ) → ((i : ℕ) → i < n → row (s + i) ≡ minus d 2) → k < fuel → row (s + k) ≡ minus d 2
  later-falls s zero k h below = absurd (omega arith)
  later-falls s (suc fuel) k h below = elim (cases_lt k n) [
    | inl inside ↦ h k inside
    | inr above ↦
        let less : k - n < fuel = omega arith in
        let e : s + k ≡ s + (k - n) + n = omega arith in
        ap row e ∙ canonical.comes_round (s + (k - n)) ∙ later-falls s fuel (k - n) h less
  ]

  -- so no round has only turns -2
  pub round-not-all-fall : (s : ℕ) → ¬ ((i : ℕ) → i < n → row (s + i) ≡ minus d 2)
  round-not-all-fall s h = canonical.not_all_fall (λ at.
      let some = canonical.some in
      let far : s * 1 ≤ s * n = mul-le-mul_left s some in
      let e : at + s * n ≡ s + (at + s * n - s) = omega arith in
      sym (rounds-later at s) ∙ ap row e ∙ later-falls s (suc (at + s * n - s)) (at + s * n - s) h (omega arith))

  -- behind entries of the row no turn 1 of the row closes a bracket, if none does behind what comes before them
  pub upto-shut : (m bound : ℕ) (rest : List ℕ) → IsCons rest →
      ((q : ℕ) → bound ≤ q → row (m + q) ≡ 1 → ((i : ℕ) → i < q → row (m + i) ≡ 2) → is_open rest ≡ false) →
      (k q : ℕ) → bound ≤ k + q → row (m + k + q) ≡ 1 → ((i : ℕ) → i < q → row (m + k + i) ≡ 2) →
      is_open (upto row m k rest) ≡ false
  upto-shut m bound rest c base zero q far one twos =
      let e : (i : ℕ) → m + 0 + i ≡ m + i = λ i. omega arith in
      base q (omega arith) (ap row (sym (e q)) ∙ one) (λ i below. ap row (sym (e i)) ∙ twos i below)
  upto-shut m bound rest c base (suc k) q far one twos =
      let more = upto-cons row m k rest c in
      let e : (i : ℕ) → m + suc k + i ≡ m + k + 1 + i = λ i. omega arith in
      elim (cases_eq (row (m + k)) 1) [
        | inl opened ↦ absurd (canonical.no_bracket (m + k) q opened (λ i below. ap row (sym (e i)) ∙ twos i below)
            (ap row (sym (e q)) ∙ one))
        | inr not_one ↦ elim (cases_eq (row (m + k)) 2) [
          | inl two ↦
              let f : (i : ℕ) → m + k + suc i ≡ m + suc k + i = λ i. omega arith in
              ap (λ x. is_open (x ∷ upto row m k rest)) two ∙ open-two (upto row m k rest) more
              ∙ upto-shut m bound rest c base k (suc q) (omega arith) (ap row (f q) ∙ one) (λ i below. twos-next m k q two twos i below)
          | inr not_two ↦ open-other (row (m + k)) (upto row m k rest) not_one not_two
        ]
      ]
    where
      twos-next : (m k q : ℕ) → row (m + k) ≡ 2 → ((i : ℕ) → i < q → row (m + suc k + i) ≡ 2) → (i : ℕ) → i < suc q
          → row (m + k + i) ≡ 2
      twos-next m k q two twos zero below = let e : m + k + 0 ≡ m + k = omega arith in ap row e ∙ two
      twos-next m k q two twos (suc i) below =
          let e : m + k + suc i ≡ m + suc k + i = omega arith in ap row e ∙ twos i (omega arith)

  -- so behind a whole round it closes none
  pub round-shut : (m k : ℕ) (rest : List ℕ) → IsCons rest → n ≤ k → row (m + k) ≡ 1 → is_open (upto row m k rest) ≡ false
  round-shut m k rest c far one =
      let e : m + k + 0 ≡ m + k = omega arith in
      upto-shut m n rest c
      (λ q above last twos. (
      let two : row (m + (q - n)) ≡ 2 = twos (q - n) (omega arith) in
      let f : m + q ≡ m + (q - n) + n = omega arith in
      let same = ap row f ∙ canonical.comes_round (m + (q - n)) in
      absurd (omega arith)
      ))
      k 0 (omega arith) (ap row e ∙ one) (λ i below. absurd (omega arith))

  -- a turn of the row that closes no bracket can follow
  pub row-follows : (u : List ℕ) (at : ℕ) → (row at ≡ 1 → is_open u ≡ false) → Follows d u (row at)
  row-follows u at shut = record { no_spur = canonical.no_spur at; no_flip = canonical.no_minus at; no_close = shut }

  module _ (p : Put) (sound : IsSound d p) where
    abbrev at : ℕ → Put
    at j = along d p row j

    abbrev Grows : ℕ → Type 0
    Grows j = length (at (suc j)).word ≡ length (at j).word + 1

    -- a word with an entry, and no change of the entry that comes next
    pub record Calm (j : ℕ) : Type 0 where
      pub cons : IsCons (at j).word
      pub change : (at j).change ≡ 0

    abbrev CalmOr : ℕ → Type 0 → Type 0
    CalmOr j Other = Calm j ⊎ (((at j).change ≡ 1) × Other)

    grown-at : (j : ℕ) → Grows j → Grown d five (at j).word (add d (row j) (at j).change)
    grown-at j longer = grown d five (at j).word (add d (row j) (at j).change) longer

    -- a first entry that makes the word longer
    first-grows : (j : ℕ) → Grows j → CalmOr (suc j) (Unit {0})
    first-grows j longer = elim (grown-at j longer) [
      | plain e ↦ inl (record { cons = longer-cons d five (at j).word _ longer; change = ap (λ q. q.change) e })
      | turned e one ↦ inr (one, tt)
    ]

    -- behind no change, the entry is only put last
    calm-put : (j : ℕ) → Calm j → Grows j → at (suc j) ≡ state (row j ∷ (at j).word) 0
    calm-put j c longer =
        let turn : add d (row j) (at j).change ≡ row j = ap (add d (row j)) c.change ∙ add-zero d (row j) (canonical.below j) in
        elim (grown-at j longer) [
          | plain e ↦ e ∙ ap (λ t. state (t ∷ (at j).word) 0) turn
          | turned e one ↦ absurd (canonical.no_minus j (sym turn ∙ e))
        ]

    calm-next : (j : ℕ) → Calm j → Grows j → Calm (suc j)
    calm-next j c longer = record {
      cons = longer-cons d five (at j).word _ longer;
      change = ap (λ q. q.change) (calm-put j c longer);
    }

    -- behind a flip, there is no change or the turn is -2
    flip-next : (j : ℕ) → (at j).change ≡ 1 → Grows j → CalmOr (suc j) (row j ≡ minus d 2)
    flip-next j one longer = elim (grown-at j longer) [
      | plain e ↦ inl (record { cons = longer-cons d five (at j).word _ longer; change = ap (λ q. q.change) e })
      | turned e again ↦ inr (again, one-more d five (row j) (ap (add d (row j)) (sym one) ∙ e) (canonical.below j))
    ]

    -- among some entries there is one with no change, or all are -2
    record CalmWithin (s count : ℕ) : Type 0 where
      i : ℕ
      within : i ≤ count
      calm : Calm (s + i)

    find-calm : (s count : ℕ) → ((i : ℕ) → i < count → Grows (s + i)) → CalmOr s (Unit {0}) →
        CalmWithin s count ⊎ (((at (s + count)).change ≡ 1) × ((i : ℕ) → i < count → row (s + i) ≡ minus d 2))
    find-calm s zero longer first = grind arith
    find-calm s (suc count) longer first =
        let e : suc (s + count) ≡ s + suc count = omega arith in
        elim (find-calm s count (λ i below. longer i (omega arith)) first) [
          | inl c ↦ inl (record { i = c.i; within = let w = c.within in omega arith; calm = c.calm })
          | inr f ↦ elim (flip-next (s + count) f.0 (longer count (omega arith))) [
            | inl c ↦ inl (record { i = suc count; within = omega arith; calm = subst Calm e c })
            | inr g ↦ inr (subst (λ j. (at j).change ≡ 1) e g.0, falls-more s count f.1 g.1)
          ]
        ]
      where
        falls-more : (s count : ℕ) → ((i : ℕ) → i < count → row (s + i) ≡ minus d 2) → row (s + count) ≡ minus d 2 →
            (i : ℕ) → i < suc count → row (s + i) ≡ minus d 2
        falls-more s count h last i below = elim (cases_eq i count) [
          | inl e ↦ ap (λ k. row (s + k)) e ∙ last
          | inr other ↦ h i (omega arith)
        ]

    -- from a place with no change on, entries that make the word longer are only put last
    calm-run : (s k : ℕ) → Calm s → ((i : ℕ) → i < k → Grows (s + i)) → Calm (s + k)
    calm-run s zero c longer = let e : s ≡ s + 0 = omega arith in subst Calm e c
    calm-run s (suc k) c longer =
        let e : suc (s + k) ≡ s + suc k = omega arith in
        subst Calm e (calm-next (s + k) (calm-run s k c (λ i below. longer i (omega arith))) (longer k (omega arith)))

    calm-word : (s k : ℕ) → Calm s → ((i : ℕ) → i < k → Grows (s + i)) → at (s + k) ≡ state (upto row s k (at s).word) 0
    calm-word s zero c longer = grind arith
    calm-word s (suc k) c longer =
        let e : s + suc k ≡ suc (s + k) = omega arith in
        let before : (i : ℕ) → i < k → Grows (s + i) = λ i below. longer i (omega arith) in
        ap at e ∙ calm-put (s + k) (calm-run s k c before) (longer k (omega arith))
        ∙ ap (λ q. state (row (s + k) ∷ q.word) 0) (calm-word s k c before)

    -- a whole round of the row stands at the end of the word, behind an entry
    pub record Ends (m k : ℕ) : Type 0 where
      pub rest : List ℕ
      pub cons : IsCons rest
      pub whole : n ≤ k
      pub is : at (m + k) ≡ state (upto row m k rest) 0

    -- from then on each entry is only put last
    ends-put : (m k : ℕ) → Ends m k → at (suc (m + k)) ≡ state (row (m + k) ∷ (at (m + k)).word) 0
    ends-put m k ends =
        let turn : add d (row (m + k)) (at (m + k)).change ≡ row (m + k) = grind (arith, add-zero) in
        let shut : row (m + k) ≡ 1 → is_open (at (m + k)).word ≡ false =
        λ one. ap (λ q. is_open q.word) ends.is ∙ round-shut m k ends.rest ends.cons ends.whole one in
        let some : IsCons (at (m + k)).word = subst (λ q. IsCons q.word) (sym ends.is) (upto-cons row m k ends.rest ends.cons) in
        ap (put d (at (m + k)).word) turn
        ∙ put-else d five (at (m + k)).word (row (m + k)) some (row-follows (at (m + k)).word (m + k) shut)

    ends-next : (m k : ℕ) → Ends m k → Ends m (suc k)
    ends-next m k ends =
        let e : m + suc k ≡ suc (m + k) = omega arith in
        record {
          rest = ends.rest;
          cons = ends.cons;
          whole = let w = ends.whole in omega arith;
          is = ap at e ∙ ends-put m k ends ∙ ap (λ q. state (row (m + k) ∷ q.word) 0) ends.is;
        }

    -- the word from a place on only grows by the row
    pub record StaysFrom (s : ℕ) : Type 0 where
      pub is : (k : ℕ) → at (s + k) ≡ state (upto row s k (at s).word) 0

    ends-later : (m k i : ℕ) → Ends m k → Ends m (k + i)
    ends-later m k zero ends = let e : k ≡ k + 0 = omega arith in subst (Ends m) e ends
    ends-later m k (suc i) ends =
        let e : suc (k + i) ≡ k + suc i = omega arith in
        subst (Ends m) e (ends-next m (k + i) (ends-later m k i ends))

    ends-stays : (m k : ℕ) → Ends m k → StaysFrom (m + k)
    ends-stays m k ends = record { is = go }
      where
        go : (i : ℕ) → at (m + k + i) ≡ state (upto row (m + k) i (at (m + k)).word) 0
        go zero =
            let e : m + k + 0 ≡ m + k = omega arith in
            ap at e ∙ ap (state (at (m + k)).word) (ap (λ q. q.change) ends.is)
        go (suc i) =
            let later = ends-later m k i ends in
            let e : m + k + suc i ≡ suc (m + (k + i)) = omega arith in
            let f : m + (k + i) ≡ m + k + i = omega arith in
            ap at e ∙ ends-put m (k + i) later ∙ ap (λ j. state (row j ∷ (at j).word) 0) f
            ∙ ap (λ q. state (row (m + k + i) ∷ q.word) 0) (go i)

    -- a quiet stretch: two rounds in which no entry is lost
    pub quiet : (s : ℕ) → ((i : ℕ) → i < 2 * n + 1 → Grows (s + i)) → (t : ℕ) × (t ≤ 2 * n + 1) × StaysFrom (s + t)
    quiet s longer =
        let e : (i : ℕ) → suc s + i ≡ s + suc i = λ i. omega arith in
        let later : (i : ℕ) → i < 2 * n → Grows (suc s + i) = λ i below. subst Grows (sym (e i)) (longer (suc i) (omega arith)) in
        let first : CalmOr (suc s) (Unit {0}) = (let zero_more : s + 0 ≡ s = omega arith in
        first-grows s (subst Grows zero_more (longer 0 (omega arith)))) in
        elim (find-calm (suc s) n (λ i below. later i (omega arith)) first) [
          | inr f ↦ absurd (round-not-all-fall (suc s) f.1)
          | inl c ↦
              let within = c.within in
              let g : (i : ℕ) → suc s + (c.i + i) ≡ suc s + c.i + i = λ i. omega arith in
              let rest : (i : ℕ) → i < n → Grows (suc s + c.i + i) = λ i below. subst Grows (g i) (later (c.i + i) (omega arith)) in
              let ends : Ends (suc s + c.i) n = record {
                rest = (at (suc s + c.i)).word;
                cons = c.calm.cons;
                whole = omega arith;
                is = calm-word (suc s + c.i) n c.calm rest;
              } in
              let place : suc s + c.i + n ≡ s + (c.i + n + 1) = omega arith in
              (c.i + n + 1, omega arith, subst StaysFrom place (ends-stays (suc s + c.i) n ends))
        ]

    -- each entry makes the word longer or shorter by one
    longer-or-shorter : (j : ℕ) → Grows j ⊎ (length (at (suc j)).word + 1 ≡ length (at j).word)
    longer-or-shorter j = length-put d five (at j).word (add d (row j) (at j).change)

    at-most : (s k : ℕ) → length (at (s + k)).word ≤ length (at s).word + k
    at-most s zero = let e : s + 0 ≡ s = omega arith in let same = ap (λ j. length (at j).word) e in omega arith
    at-most s (suc k) =
        let e : s + suc k ≡ suc (s + k) = omega arith in
        let same = ap (λ j. length (at j).word) e in
        let before = at-most s k in
        elim (longer-or-shorter (s + k)) [ inl longer ↦ omega arith | inr shorter ↦ omega arith ]

    -- in a stretch all entries make the word longer, or two of its length are lost
    stretch : (s k : ℕ) → ((i : ℕ) → i < k → Grows (s + i)) ⊎ (length (at (s + k)).word + 2 ≤ length (at s).word + k)
    stretch s zero = inl (λ i below. absurd (omega arith))
    stretch s (suc k) =
        let e : s + suc k ≡ suc (s + k) = omega arith in
        let same = ap (λ j. length (at j).word) e in
        let most = at-most s k in
        elim (longer-or-shorter (s + k)) [
          | inr shorter ↦ inr (omega arith)
          | inl longer ↦ elim (stretch s k) [
            | inr lost ↦ inr (omega arith)
            | inl all ↦ inl (λ i below. elim (cases_eq i k) [
              | inl is ↦ subst (λ j. Grows (s + j)) (sym is) longer
              | inr other ↦ all i (omega arith)
            ])
          ]
        ]

    -- with so many losses left, the row is settled before long
    pub within_budget : (b s : ℕ) → ((j : ℕ) → length (at s).word + j ≤ length (at (s + j)).word + 2 * b) →
        (t : ℕ) × (t ≤ (b + 1) * (2 * n + 1)) × StaysFrom (s + t)
    within_budget zero s kept = elim (stretch s (2 * n + 1)) [
      | inl all ↦ let q = quiet s all in (q.0, (let soon = q.1 in omega arith), q.2)
      | inr lost ↦ absurd (let k = kept (2 * n + 1) in omega arith)
    ]
    within_budget (suc b) s kept = elim (stretch s (2 * n + 1)) [
      | inl all ↦ let q = quiet s all in (q.0, (let soon = q.1 in grind arith), q.2)
      | inr lost ↦
          let later = within_budget b (s + (2 * n + 1)) (λ j. (
          let k = kept (2 * n + 1 + j) in
          let e : s + (2 * n + 1) + j ≡ s + (2 * n + 1 + j) = omega arith in
          let same = ap (λ i. length (at i).word) e in
          omega arith
          )) in
          let place : s + (2 * n + 1) + later.0 ≡ s + (2 * n + 1 + later.0) = omega arith in
          (2 * n + 1 + later.0, (let soon = later.1 in grind arith), subst StaysFrom place later.2)
    ]
