-- Counts of tests that no number passes twice.
use Rattle.move_lifting.proofs.Common.{◌≡◌, ◌≢◌, inl, inr, ℕ, zero, suc, ◌+◌, ◌<◌, ◌≤◌, Bool, true, false, not, ◌&&◌, eqb, cond, refl, ap, sym, ◌∙◌, arith, cases_Bool, cases_eq, both_ways, eqb-true, eq-eqb, count_below}
use Rattle.tree_cotree.proofs.ClassLemmas.{count_less}

-- the first n values together
abbrev pub sum_below : (ℕ → ℕ) → ℕ → ℕ
sum_below f zero = 0
sum_below f (suc n) = sum_below f n + f n

pub sum_same : (f g : ℕ → ℕ) (n : ℕ) → ((j : ℕ) → j < n → f j ≡ g j) → sum_below f n ≡ sum_below g n
sum_same f g zero h = refl
sum_same f g (suc n) h =
    let before : sum_below f n ≡ sum_below g n = sum_same f g n (λ j l. h j (omega arith)) in
    let here : f n ≡ g n = h n (omega arith) in
    rw (before, here) refl

sum_plus : (f g : ℕ → ℕ) (n : ℕ) → sum_below (λ j. f j + g j) n ≡ sum_below f n + sum_below g n
sum_plus f g zero = omega arith
sum_plus f g (suc n) = omega (arith, sum_plus f g n)

sum_nothing : (n : ℕ) → sum_below (λ j. 0) n ≡ 0
sum_nothing zero = refl
sum_nothing (suc n) = omega (arith, sum_nothing n)

-- of tests of which one at most passes, as many pass as the sum of ones says
none_pass : (p : ℕ → Bool) (n : ℕ) → ((j : ℕ) → j < n → p j ≡ false) → sum_below (λ j. cond (p j) 1 0) n ≡ 0
none_pass p zero h = refl
none_pass p (suc n) h =
    let here : p n ≡ false = h n (omega arith) in
    let before : sum_below (λ j. cond (p j) 1 0) n ≡ 0 = none_pass p n (λ j l. h j (omega arith)) in
    rw (before, here) refl

one_passes : (p : ℕ → Bool) (n : ℕ) → ((i j : ℕ) → i < j → j < n → p i ≡ true → p j ≡ true → ⊥) → sum_below (λ j. cond (p j) 1 0) n ≤ 1
one_passes p zero h = omega arith
one_passes p (suc n) h = elim (cases_Bool (p n)) [
  | inl passes ↦
      let others : sum_below (λ j. cond (p j) 1 0) n ≡ 0 = none_pass p n (λ j l. elim (cases_Bool (p j)) [
        | inl too ↦ absurd (h j n l (omega arith) too passes)
        | inr fails ↦ fails
      ]) in
      rw (others, passes) (omega arith)
  | inr fails ↦
      let before : sum_below (λ j. cond (p j) 1 0) n ≤ 1 = one_passes p n (λ i j l k. h i j l (omega arith)) in
      rw fails (omega arith)
]

-- tests that no number passes twice pass no more numbers together than a test that passes all of these
pub disjoint_counts : (p : ℕ → ℕ → Bool) (q : ℕ → Bool) (k n : ℕ) → ((j z : ℕ) → j < k → z < n → p j z ≡ true → q z ≡ true)
    → ((i j z : ℕ) → i < j → j < k → z < n → p i z ≡ true → p j z ≡ true → ⊥) → sum_below (λ j. count_below (p j) n) k ≤ count_below q n
disjoint_counts p q k zero inside apart = omega (arith, sum_nothing k)
disjoint_counts p q k (suc n) inside apart =
    let before : sum_below (λ j. count_below (p j) n) k ≤ count_below q n =
    disjoint_counts p q k n (λ j z l m. inside j z l (omega arith)) (λ i j z l m x. apart i j z l m (omega arith)) in
    let split : sum_below (λ j. count_below (p j) n + cond (p j n) 1 0) k
    ≡ sum_below (λ j. count_below (p j) n) k + sum_below (λ j. cond (p j n) 1 0) k =
    sum_plus (λ j. count_below (p j) n) (λ j. cond (p j n) 1 0) k in
    elim (cases_Bool (q n)) [
      | inl passes ↦
          let one : sum_below (λ j. cond (p j n) 1 0) k ≤ 1 = one_passes (λ j. p j n) k (λ i j l m. apart i j n l m (omega arith)) in
          rw passes (omega (arith, before, split, one))
      | inr fails ↦
          let none : sum_below (λ j. cond (p j n) 1 0) k ≡ 0 = none_pass (λ j. p j n) k (λ j l. elim (cases_Bool (p j n)) [
            | inl too ↦ absurd (both_ways (q n) fails (inside j n l (omega arith) too))
            | inr off ↦ off
          ]) in
          omega (arith, before, split, none)
    ]

-- the same where one number that the other test passes is left out
pub disjoint_counts_less : (p : ℕ → ℕ → Bool) (q : ℕ → Bool) (k n h : ℕ) → h < n → q h ≡ true
    → ((j z : ℕ) → j < k → z < n → p j z ≡ true → q z ≡ true) → ((j : ℕ) → j < k → p j h ≡ true → ⊥)
    → ((i j z : ℕ) → i < j → j < k → z < n → p i z ≡ true → p j z ≡ true → ⊥) → sum_below (λ j. count_below (p j) n) k + 1 ≤ count_below q n
disjoint_counts_less p q k n h l passes inside left_out apart =
    let rest : ℕ → Bool = λ z. q z && not (eqb z h) in
    let here : rest h ≡ false = rw (passes, eq-eqb h h refl) refl in
    let others : (x : ℕ) → x < n → x ≢ h → q x ≡ rest x = λ x m ne. elim (cases_Bool (eqb x h)) [
      | inl same ↦ absurd (ne (eqb-true x h same))
      | inr other ↦ sym (ap (λ (b : Bool). q x && not b) other ∙ and_one (q x))
    ] in
    let less : count_below q n ≡ suc (count_below rest n) = count_less q rest n h l passes here others in
    let most : sum_below (λ j. count_below (p j) n) k ≤ count_below rest n =
    disjoint_counts p rest k n
    (λ j z m z_in is. elim (cases_eq z h) [
      | inl same ↦ absurd (left_out j m (sym (ap (p j) same) ∙ is))
      | inr other ↦ ap (λ (b : Bool). b && not (eqb z h)) (inside j z m z_in is) ∙ ap not (off z h other)
    ])
    apart in
    omega (arith, less, most)
  where
    and_one : (b : Bool) → (b && true) ≡ b
    and_one true = refl
    and_one false = refl

    off : (z h : ℕ) → z ≢ h → eqb z h ≡ false
    off z h ne = elim (cases_Bool (eqb z h)) [ inl same ↦ absurd (ne (eqb-true z h same)) | inr other ↦ other ]

pub count_some : (p : ℕ → Bool) (n i : ℕ) → i < n → p i ≡ true → 0 < count_below p n
count_some p zero i l h = absurd (omega arith)
count_some p (suc n) i l h = elim (cases_eq i n) [
  | inl last ↦ (let here : p n ≡ true = sym (ap p last) ∙ h in rw here (omega arith))
  | inr other ↦ (let before : 0 < count_below p n = count_some p n i (omega arith) h in omega arith)
]

-- the count of one number is one
pub count_one : (n x : ℕ) → x < n → count_below (λ z. eqb z x) n ≡ 1
count_one n x l =
    count_less (λ z. eqb z x) (λ z. false) n x l (eq-eqb x x refl) refl (λ z k ne. elim (cases_Bool (eqb z x)) [
      | inl same ↦ absurd (ne (eqb-true z x same))
      | inr other ↦ other
    ])
    ∙ ap suc (nothing n)
  where
    nothing : (n : ℕ) → count_below (λ z. false) n ≡ 0
    nothing zero = refl
    nothing (suc n) = omega (arith, nothing n)
