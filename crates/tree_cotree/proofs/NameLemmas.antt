-- Classes that bear names: where two numbers are related exactly if they have one name, there are as many classes as names.
use Rattle.tree_cotree.proofs.Common.{◌≡◌, ◌≢◌, inl, inr, ℕ, zero, suc, ◌<◌, ◌≤◌, Bool, true, false, not, eqb, refl, ap, sym, ◌∙◌, subst, arith, cases_Bool, or_cases, or_left, or_right, both_ways, eqb-true, eq-eqb, one_truth, count_below, any_below, is_least, class_count}
use Rattle.tree_cotree.proofs.ClassLemmas.{found_below, passes_below, count_same, count_less}

-- of the numbers below n those with one name are related, and they bear just the names below a bound that pass a test
pub record AreNamed (n bound : ℕ) (related : ℕ → ℕ → Bool) (name : ℕ → ℕ) (is_name : ℕ → Bool) : Type 0 where
  pub one_name : (x y : ℕ) → x < n → y < n → related x y ≡ true → name x ≡ name y
  pub one_class : (x y : ℕ) → x < n → y < n → name x ≡ name y → related x y ≡ true
  pub below : (x : ℕ) → x < n → name x < bound
  pub is : (x : ℕ) → x < n → is_name (name x) ≡ true
  pub each : (v : ℕ) → v < bound → is_name v ≡ true → (x : ℕ) × (x < n) × (name x ≡ v)

-- whether a number below m bears this name
abbrev is_borne : (ℕ → ℕ) → ℕ → ℕ → Bool
is_borne name m v = any_below (λ x. eqb (name x) v) m

borne_by : (name : ℕ → ℕ) (m x v : ℕ) → x < m → name x ≡ v → is_borne name m v ≡ true
borne_by name m x v l e = passes_below (λ y. eqb (name y) v) m x l (eq-eqb (name x) v e)

bearer : (name : ℕ → ℕ) (m v : ℕ) → is_borne name m v ≡ true → (x : ℕ) × (x < m) × (name x ≡ v)
bearer name m v h = grind (arith, found_below)

-- one number more bears no new name, or just its own
other_name : (name : ℕ → ℕ) (m v : ℕ) → v ≢ name m → is_borne name (suc m) v ≡ is_borne name m v
other_name name m v ne = grind (arith, or_left)

none_borne : (name : ℕ → ℕ) (bound : ℕ) → count_below (is_borne name 0) bound ≡ 0
none_borne name zero = refl
none_borne name (suc n) = rw (none_borne name n) (omega arith)

-- as many least numbers of classes below m as names that numbers below m bear
least_are_borne : {n bound : ℕ} {related : ℕ → ℕ → Bool} {name : ℕ → ℕ} {is_name : ℕ → Bool} → AreNamed n bound related name is_name
    → (m : ℕ) → m ≤ n → count_below (is_least related) m ≡ count_below (is_borne name m) bound
least_are_borne {bound} {name} h zero l = sym (none_borne name bound)
least_are_borne {bound} {related} {name} h (suc m) l =
    let before : count_below (is_least related) m ≡ count_below (is_borne name m) bound = least_are_borne h m (omega (arith, l)) in
    elim (cases_Bool (any_below (λ y. related y m) m)) [
      | inl some ↦
          let found = found_below (λ y. related y m) m some in
          let again : is_borne name m (name m) ≡ true =
          borne_by name m found.0 (name m) found.1 (h.one_name found.0 m (omega (arith, found.1, l)) (omega (arith, l)) found.2) in
          let same : count_below (is_borne name (suc m)) bound ≡ count_below (is_borne name m) bound =
          count_same (is_borne name (suc m)) (is_borne name m) bound (λ v _. one_truth (is_borne name (suc m) v) (is_borne name m v)
          (λ is. elim (or_cases (is_borne name m v) (eqb (name m) v) is) [
            | inl earlier ↦ earlier
            | inr here ↦ subst (λ (z : ℕ). is_borne name m z ≡ true) (eqb-true (name m) v here) again
          ]) (λ is. or_left (is_borne name m v) (eqb (name m) v) is)) in
          let no_more : is_least related m ≡ false = ap not some in
          rw (no_more, same, before) (omega arith)
      | inr none ↦
          let fresh : is_borne name m (name m) ≡ false = elim (cases_Bool (is_borne name m (name m))) [
            | inl is ↦
                let other = bearer name m (name m) is in
                let meet : related other.0 m ≡ true = h.one_class other.0 m (omega (arith, other.1, l)) (omega (arith, l)) other.2 in
                absurd (both_ways (any_below (λ y. related y m) m) none (passes_below (λ y. related y m) m other.0 other.1 meet))
            | inr is ↦ is
          ] in
          let one : count_below (is_borne name (suc m)) bound ≡ suc (count_below (is_borne name m) bound) =
          count_less (is_borne name (suc m)) (is_borne name m) bound (name m) (h.below m (omega (arith, l)))
          (or_right (is_borne name m (name m)) (eqb (name m) (name m)) (eq-eqb (name m) (name m) refl)) fresh
          (λ v _ ne. other_name name m v ne) in
          let least : is_least related m ≡ true = ap not none in
          rw (least, one, before) (omega arith)
    ]

-- as many classes as names
pub classes_are_names : {n bound : ℕ} {related : ℕ → ℕ → Bool} {name : ℕ → ℕ} {is_name : ℕ → Bool}
    → AreNamed n bound related name is_name → class_count related n ≡ count_below is_name bound
classes_are_names {n} {bound} {name} {is_name} h =
    least_are_borne h n (omega arith)
    ∙ count_same (is_borne name n) is_name bound (λ v l. one_truth (is_borne name n v) (is_name v)
    (λ is. let by = bearer name n v is in subst (λ (z : ℕ). is_name z ≡ true) by.2 (h.is by.0 by.1))
    (λ is. let by = h.each v l is in borne_by name n by.0 v by.1 by.2))
