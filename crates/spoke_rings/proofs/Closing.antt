-- How a bracket is closed, turn by turn, from its end back to its begin.
use Rattle.spoke_rings.proofs.Common.{IsBracket, TurnsPushed, ◌≡◌, ◌≢◌, ℕ, ◌+◌, ◌-◌, ◌%◌, ◌<◌, ◌≤◌, ◌⊎◌, inl, inr, arith, sym, ◌∙◌, ap, zero, suc, false, cases_eq, one-minus, two-down, add, minus}

-- how a bracket stands of which so many turns are left to be pushed down
pub data Closes (n : ℕ) (turn : ℕ → ℕ) : ℕ → Type 0 where
  -- all other turns are 2
  whole : {left : ℕ} → left + 1 ≡ n → 0 < left → turn 0 ≡ 1 → ((i : ℕ) → 0 < i → i < n → turn i ≡ 2) → Closes n turn left
  -- some turns 2 and then a turn 1
  part : {left : ℕ} (twos : ℕ) → left ≡ twos + 1 → twos + 3 ≤ n → turn 0 ≡ 1 → ((i : ℕ) → i < twos → turn (n - 1 - i) ≡ 2) →
      turn (n - 1 - twos) ≡ 1 → Closes n turn left
  -- it is closed, and a spur stands at the seam
  done : {left : ℕ} → left ≡ 0 → turn 0 ≡ 0 → Closes n turn left

-- a bracket, and how many pushes it takes
pub closes-start : (n twos pushes : ℕ) (turn : ℕ → ℕ) → 2 ≤ n → turn 0 ≡ 1 → IsBracket n turn twos →
    ((twos + 1 ≡ n) × (pushes ≡ twos)) ⊎ ((twos + 1 ≢ n) × (pushes ≡ twos + 1)) → Closes n turn pushes
closes-start n twos pushes turn two one b count = elim count [
  | inl all ↦
      let count_is = all.1 in
      whole (omega arith) (omega arith) one (λ i first below. (
      let e : n - 1 - (n - 1 - i) ≡ i = omega arith in
      sym (ap turn e) ∙ b.run (n - 1 - i) (omega arith)
      ))
  | inr some ↦ elim b.opens [
    | inl all ↦ absurd (some.0 all)
    | inr opened ↦ part twos some.1 opened.0 one b.run opened.1
  ]
]

module _ (d n : ℕ) (old mid new : ℕ → ℕ) (five : 5 ≤ d) (even : n % 2 ≡ 0) (two : 2 ≤ n) (p : TurnsPushed d n false old mid)
    (round : (k : ℕ) → mid (k + n) ≡ mid k) (back : (k : ℕ) → new k ≡ mid (k + (n - 1))) where
  -- a turn of the new ring, counted back from the seam
  new-seam : new 0 ≡ mid (n - 1)
  new-seam = let e : 0 + (n - 1) ≡ n - 1 = omega arith in back 0 ∙ ap mid e

  new-back : (i : ℕ) → i + 2 ≤ n → new (n - 1 - i) ≡ mid (n - 2 - i)
  new-back i within = grind arith

  old-back : (i : ℕ) → i + 4 ≤ n → mid (n - 2 - i) ≡ old (n - 1 - (i + 1))
  old-back i within = grind arith

  -- a turn that is pushed down
  pushed-two : (x : ℕ) → x ≡ 2 → add d x (minus d 1) ≡ 1
  pushed-two x e = ap (λ y. add d y (minus d 1)) e ∙ two-down d five

  pushed-one : (x : ℕ) → x ≡ 1 → add d x (minus d 1) ≡ 0
  pushed-one x e = ap (λ y. add d y (minus d 1)) e ∙ one-minus d five

  closes-all : (left : ℕ) → suc left + 1 ≡ n → ((i : ℕ) → 0 < i → i < n → old i ≡ 2) → Closes n new left
  closes-all left all twos = elim (cases_eq n 2) [
    | inl is ↦
        let end : n - 1 ≡ 1 = omega arith in
        done (omega arith) (new-seam ∙ ap mid end ∙ p.other is ∙ pushed-one _ (pushed-two (old 1) (twos 1 (omega arith) (omega arith))))
    | inr more ↦
        let e : n - 2 - (n - 3) ≡ 1 = omega arith in
        part (n - 3) (omega arith) (omega arith)
        (new-seam ∙ p.before (omega arith) ∙ pushed-two (old (n - 1)) (twos (n - 1) (omega arith) (omega arith)))
        (λ i below. new-back i (omega arith) ∙ old-back i (omega arith) ∙ twos (n - 1 - (i + 1)) (omega arith) (omega arith))
        (new-back (n - 3) (omega arith) ∙ ap mid e ∙ p.behind (omega arith) ∙ pushed-two (old 1) (twos 1 (omega arith) (omega arith)))
  ]

  closes-part : (left twos : ℕ) → suc left ≡ twos + 1 → twos + 3 ≤ n → ((i : ℕ) → i < twos → old (n - 1 - i) ≡ 2) → old (n - 1 - twos) ≡ 1 →
      Closes n new left
  closes-part left zero count within run opened =
      let e : n - 1 - 0 ≡ n - 1 = omega arith in
      done (omega arith) (new-seam ∙ p.before (omega arith) ∙ pushed-one (old (n - 1)) (sym (ap old e) ∙ opened))
  closes-part left (suc twos) count within run opened =
      let e : n - 1 - 0 ≡ n - 1 = omega arith in
      let f : n - 1 - (twos + 1) ≡ n - 1 - suc twos = omega arith in
      part twos (omega arith) (omega arith)
      (new-seam ∙ p.before (omega arith) ∙ pushed-two (old (n - 1)) (sym (ap old e) ∙ run 0 (omega arith)))
      (λ i below. new-back i (omega arith) ∙ old-back i (omega arith) ∙ run (i + 1) (omega arith))
      (new-back twos (omega arith) ∙ old-back twos (omega arith) ∙ ap old f ∙ opened)

  -- a push down and a place back
  pub closes-next : (left : ℕ) → Closes n old (suc left) → Closes n new left
  closes-next left c = elim c [
    | whole all first one twos ↦ closes-all left all twos
    | part twos count within one run opened ↦ closes-part left twos count within run opened
    | done none spur ↦ absurd (omega arith)
  ]

-- as long as pushes are left, the turn at the seam is 1, and then it is 0
pub closes-seam : (n : ℕ) (turn : ℕ → ℕ) (left : ℕ) → Closes n turn left → 0 < left → turn 0 ≡ 1
closes-seam n turn left c some = grind arith

pub closes-end : (n : ℕ) (turn : ℕ → ℕ) (left : ℕ) → Closes n turn left → left ≡ 0 → turn 0 ≡ 0
closes-end n turn left c none = grind arith
