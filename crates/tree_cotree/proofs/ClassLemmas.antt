-- Classes of an equivalence of the numbers below n, counted at their least members: where two classes become one, there is
-- one class less.
use Rattle.tree_cotree.proofs.Common.{◌≡◌, ◌≢◌, ◌⊎◌, inl, inr, ℕ, zero, suc, ◌<◌, ◌≤◌, Bool, true, false, not, refl, ap, sym, ◌∙◌, subst, arith, cases_Bool, cases_lt, cases_eq, or_cases, or_left, or_right, both_ways, not_from_false, not_from_true, count_below, any_below, is_least, class_count}

-- some number below n passes exactly where the test finds one
pub found_below : (p : ℕ → Bool) (n : ℕ) → any_below p n ≡ true → (i : ℕ) × (i < n) × (p i ≡ true)
found_below p zero h = absurd (both_ways true (sym h) refl)
found_below p (suc n) h = elim (or_cases (any_below p n) (p n) h) [
  | inl before ↦ (let more = found_below p n before in (more.0, omega (arith, more.1), more.2))
  | inr here ↦ (n, omega arith, here)
]

pub passes_below : (p : ℕ → Bool) (n i : ℕ) → i < n → p i ≡ true → any_below p n ≡ true
passes_below p zero i l h = absurd (omega arith)
passes_below p (suc n) i l h = elim (cases_lt i n) [
  | inl less ↦ or_left (any_below p n) (p n) (passes_below p n i less h)
  | inr more ↦ (let same : i ≡ n = omega arith in or_right (any_below p n) (p n) (subst (λ (k : ℕ). p k ≡ true) same h))
]

none_below : (p : ℕ → Bool) (n : ℕ) → ((i : ℕ) → i < n → p i ≡ true → ⊥) → any_below p n ≡ false
none_below p n h = grind (arith, found_below)

pub count_none : (n : ℕ) → count_below (λ _. false) n ≡ 0
count_none zero = refl
count_none (suc n) = rw (count_none n) refl

-- the count where one number passes no longer
pub count_same : (p q : ℕ → Bool) (n : ℕ) → ((x : ℕ) → x < n → p x ≡ q x) → count_below p n ≡ count_below q n
count_same p q zero h = refl
count_same p q (suc n) h =
    let before : count_below p n ≡ count_below q n = count_same p q n (λ x l. h x (omega arith)) in grind arith

pub count_less : (p q : ℕ → Bool) (n l : ℕ) → l < n → p l ≡ true → q l ≡ false → ((x : ℕ) → x < n → x ≢ l → p x ≡ q x)
    → count_below p n ≡ suc (count_below q n)
count_less p q zero l b h k same = absurd (omega arith)
count_less p q (suc n) l b h k same = elim (cases_eq n l) [
  | inl top ↦ grind (arith, count_same)
  | inr below ↦
      let less : l < n = omega arith in
      let here : p n ≡ q n = same n (omega arith) below in
      let before : count_below p n ≡ suc (count_below q n) = count_less p q n l less h k (λ x x_less ne. same x (omega arith) ne) in
      rw (before, here) (omega arith)
]

-- an equivalence of the numbers below n
pub record IsEquivalenceBelow (n : ℕ) (e : ℕ → ℕ → Bool) : Type 0 where
  pub itself : (x : ℕ) → x < n → e x x ≡ true
  pub back : (x y : ℕ) → x < n → y < n → e x y ≡ true → e y x ≡ true
  pub on : (x y z : ℕ) → x < n → y < n → z < n → e x y ≡ true → e y z ≡ true → e x z ≡ true

-- x and y are related, or become so where the classes of a and b become one
abbrev pub IsMerged : (ℕ → ℕ → Bool) → ℕ → ℕ → ℕ → ℕ → Type 0
IsMerged e a b x y = (e x y ≡ true) ⊎ (((e x a ≡ true) × (e y b ≡ true)) ⊎ ((e x b ≡ true) × (e y a ≡ true)))

-- the one relation is the other with the classes of a and b made one
pub record MergesClasses (n : ℕ) (e merged : ℕ → ℕ → Bool) (a b : ℕ) : Type 0 where
  pub only : (x y : ℕ) → x < n → y < n → merged x y ≡ true → IsMerged e a b x y
  pub all : (x y : ℕ) → x < n → y < n → IsMerged e a b x y → merged x y ≡ true

-- the least number of a class
record LeastOf (n : ℕ) (e : ℕ → ℕ → Bool) (a : ℕ) : Type 0 where
  least : ℕ
  within : least ≤ a
  related : e least a ≡ true
  first : is_least e least ≡ true

least_within : {n : ℕ} {e : ℕ → ℕ → Bool} → IsEquivalenceBelow n e → (fuel a : ℕ) → a < n → a < fuel → LeastOf n e a
least_within h zero a l k = absurd (omega arith)
least_within {n} {e} h (suc fuel) a l k = elim (cases_Bool (any_below (λ y. e y a) a)) [
  | inl some ↦
      let found = found_below (λ y. e y a) a some in
      let lower : LeastOf n e found.0 = least_within h fuel found.0 (omega (arith, found.1)) (omega (arith, found.1)) in
      record {
        least = lower.least;
        within = omega (arith, lower.within, found.1);
        related = h.on lower.least found.0 a (omega (arith, lower.within, found.1)) (omega (arith, found.1)) l lower.related found.2;
        first = lower.first;
      }
  | inr none ↦ record { least = a; within = omega arith; related = h.itself a l; first = not_from_false (any_below (λ y. e y a) a) none }
]

-- below a least number of a class none is related to it
none_lower : (e : ℕ → ℕ → Bool) (x y : ℕ) → is_least e x ≡ true → y < x → e y x ≡ true → ⊥
none_lower e x y first less related =
    both_ways (is_least e x) (not_from_true (any_below (λ z. e z x) x) (passes_below (λ z. e z x) x y less related)) first

-- two least numbers of one class are equal
one_least : {n : ℕ} {e : ℕ → ℕ → Bool} → IsEquivalenceBelow n e → (x y : ℕ) → x < n → y < n → is_least e x ≡ true → is_least e y ≡ true
    → e x y ≡ true → x ≡ y
one_least {e} h x y l k first second related = elim (cases_lt x y) [
  | inl less ↦ absurd (none_lower e y x second less related)
  | inr more ↦ elim (cases_lt y x) [
    | inl less ↦ absurd (none_lower e x y first less (h.back x y l k related))
    | inr same ↦ (omega arith)
  ]
]

-- the lower one of two classes takes the other in: that one's least number is least no longer
one_less_ordered : {n : ℕ} {e merged : ℕ → ℕ → Bool} {a b : ℕ} (la lb : ℕ) → IsEquivalenceBelow n e → MergesClasses n e merged a b
    → a < n → b < n → la < n → lb < n → e la a ≡ true → e lb b ≡ true → is_least e la ≡ true → is_least e lb ≡ true → la < lb
    → class_count e n ≡ suc (class_count merged n)
one_less_ordered {n} {e} {merged} {a} {b} la lb h m a_in b_in la_in lb_in to_a to_b first_a first_b less =
    count_less (is_least e) (is_least merged) n lb lb_in first_b gone same
  where
    gone : is_least merged lb ≡ false
    gone = not_from_true (any_below (λ y. merged y lb) lb) (passes_below (λ y. merged y lb) lb la less
        (m.all la lb la_in lb_in (inr (inl (to_a, to_b)))))

    taken_in : (x y : ℕ) → x < n → y < x → x ≢ lb → is_least e x ≡ true → merged y x ≡ true → ⊥
    taken_in x y l k ne first is = elim (m.only y x (omega arith) l is) [
      | inl related ↦ none_lower e x y first k related
      | inr crossed ↦ elim crossed [
        | inl p ↦ ne (one_least h x lb l lb_in first first_b (h.on x b lb l b_in lb_in p.1 (h.back lb b lb_in b_in to_b)))
        | inr p ↦
            let x_is : x ≡ la = one_least h x la l la_in first first_a (h.on x a la l a_in la_in p.1 (h.back la a la_in a_in to_a)) in
            none_lower e lb y first_b (omega arith) (h.on y b lb (omega arith) b_in lb_in p.0 (h.back lb b lb_in b_in to_b))
      ]
    ]

    same : (x : ℕ) → x < n → x ≢ lb → is_least e x ≡ is_least merged x
    same x l ne = elim (cases_Bool (any_below (λ y. e y x) x)) [
      | inl some ↦
          let found = found_below (λ y. e y x) x some in
          let more : any_below (λ y. merged y x) x ≡ true =
          passes_below (λ y. merged y x) x found.0 found.1 (m.all found.0 x (omega (arith, found.1)) l (inl found.2)) in
          ap not (some ∙ sym more)
      | inr none ↦
          let first : is_least e x ≡ true = not_from_false (any_below (λ y. e y x) x) none in
          let still : any_below (λ y. merged y x) x ≡ false = none_below (λ y. merged y x) x (λ y k is. taken_in x y l k ne first is) in
          ap not (none ∙ sym still)
    ]

turned : {n : ℕ} {e merged : ℕ → ℕ → Bool} {a b : ℕ} → MergesClasses n e merged a b → MergesClasses n e merged b a
turned m = grind arith

-- two classes made one are one class less
pub one_class_less : {n : ℕ} {e merged : ℕ → ℕ → Bool} {a b : ℕ} → IsEquivalenceBelow n e → MergesClasses n e merged a b → a < n → b < n
    → e a b ≡ false
    → class_count e n ≡ suc (class_count merged n)
one_class_less {n} {e} {a} {b} h m a_in b_in apart =
    let one : LeastOf n e a = least_within h (suc a) a a_in (omega arith) in
    let two : LeastOf n e b = least_within h (suc b) b b_in (omega arith) in
    let la_in : one.least < n = omega (arith, one.within) in
    let lb_in : two.least < n = omega (arith, two.within) in
    elim (cases_lt one.least two.least) [
      | inl less ↦ one_less_ordered one.least two.least h m a_in b_in la_in lb_in one.related two.related one.first two.first less
      | inr more ↦ grind (arith, one_less_ordered, turned)
    ]
