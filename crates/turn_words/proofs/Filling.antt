-- The loop that finds the spoke of each place.
use Rattle.turn_words.proofs.Common.{◌≡◌, ◌≢◌, ℕ, ◌+◌, ◌<◌, ◌≤◌, inl, inr, arith, sym, ◌∙◌, ap, zero, suc, cond, ltb, List, [], ◌∷◌, length, get_or, set, cases_eq, cases_lt, lt-ltb, le-ltb, length-set, get_or-set_same, get_or-set_other, IsInside, StandsTwice}
use Rattle.std.proofs.lemmas.List.Sums.{sum_by-set, sum_by-cons}
use Rattle.std.specs.List.{sum_by}
use Rattle.turn_words.specs.Private.StoredWheels.{IsInverse}

-- 1 for a place that has a spoke
abbrev pub filled : ℕ → ℕ → ℕ
filled n spoke = cond (ltb spoke n) 1 0

-- what is known after the first `i` places
pub record Filling (places : List ℕ) (i : ℕ) (spokes : List ℕ) (twice : ℕ) : Type 0 where
  pub as_long : length spokes ≡ length places
  pub within : twice ≤ length places
  pub small : (k : ℕ) → k < length places → get_or spokes k 0 ≤ length places
  pub back : (k : ℕ) → k < length places → get_or spokes k 0 < length places → (get_or spokes k 0 < i)
      × (get_or places (get_or spokes k 0) 0 ≡ k)
  pub seen : (j : ℕ) → j < i → get_or spokes (get_or places j 0) 0 < length places
  pub stands : twice < length places → StandsTwice places twice
  pub least : (a b : ℕ) → a < b → b < i → get_or places a 0 ≡ get_or places b 0 → twice ≤ get_or places a 0
  pub count : twice ≡ length places → sum_by (filled (length places)) spokes ≡ i

module _ (places : List ℕ) (inside : IsInside places) where
  -- a place that had no spoke gets one
  pub filling-set : (i : ℕ) (spokes : List ℕ) (twice : ℕ) → i < length places → Filling places i spokes twice →
      length places ≤ get_or spokes (get_or places i 0) 0 → Filling places (i + 1) (set spokes (get_or places i 0) i) twice
  filling-set i spokes twice lt f empty =
      let p = get_or places i 0 in
      let p_below : p < length places = inside i lt in
      let p_in : p < length spokes = omega (arith, f.as_long) in
      let same : get_or (set spokes p i) p 0 ≡ i = get_or-set_same spokes p i 0 p_in in
      record {
        as_long = length-set spokes p i ∙ f.as_long;
        within = f.within;
        small = λ k k_below. elim (cases_eq k p) [
          | inl e ↦
              let here : get_or (set spokes p i) k 0 ≡ i = ap (λ n. get_or (set spokes p i) n 0) e ∙ same in
              omega arith
          | inr ne ↦
              let there : get_or (set spokes p i) k 0 ≡ get_or spokes k 0 = get_or-set_other spokes p k i 0 ne in
              let old = f.small k k_below in
              omega arith
        ];
        back = λ k k_below filled. elim (cases_eq k p) [
          | inl e ↦
              let here : get_or (set spokes p i) k 0 ≡ i = ap (λ n. get_or (set spokes p i) n 0) e ∙ same in
              (omega arith, ap (λ n. get_or places n 0) here ∙ sym e)
          | inr ne ↦
              let there : get_or (set spokes p i) k 0 ≡ get_or spokes k 0 = get_or-set_other spokes p k i 0 ne in
              let old = f.back k k_below (omega arith) in
              (omega arith, ap (λ n. get_or places n 0) there ∙ old.1)
        ];
        seen = λ j j_below. elim (cases_eq (get_or places j 0) p) [
          | inl e ↦
              let here : get_or (set spokes p i) (get_or places j 0) 0 ≡ i = ap (λ n. get_or (set spokes p i) n 0) e ∙ same in
              omega arith
          | inr ne ↦
              let there : get_or (set spokes p i) (get_or places j 0) 0 ≡ get_or spokes (get_or places j 0) 0 =
              get_or-set_other spokes p (get_or places j 0) i 0 ne in
              let earlier : j ≢ i = λ e. ne (ap (λ n. get_or places n 0) e) in
              let old = f.seen j (omega arith) in
              omega arith
        ];
        stands = f.stands;
        least = λ a b ab b_below e. elim (cases_lt b i) [
          | inl old ↦ f.least a b ab old e
          | inr new ↦
              let is : b ≡ i = omega arith in
              let seen = f.seen a (omega arith) in
              let there : get_or spokes (get_or places a 0) 0 ≡ get_or spokes p 0 =
              ap (λ n. get_or spokes n 0) (e ∙ ap (λ n. get_or places n 0) is) in
              absurd (omega arith)
        ];
        count = λ none. (
            let sums = sum_by-set (filled (length places)) spokes p i 0 p_in in
            let was : filled (length places) (get_or spokes p 0) ≡ 0 =
            ap (λ b. cond b 1 0) (le-ltb (get_or spokes p 0) (length places) empty) in
            let now : filled (length places) i ≡ 1 = ap (λ b. cond b 1 0) (lt-ltb i (length places) lt) in
            let old = f.count none in
            omega arith
            );
      }

  -- a place that had a spoke stands twice
  stands-now : (i : ℕ) (spokes : List ℕ) (twice : ℕ) → i < length places → Filling places i spokes twice →
      get_or spokes (get_or places i 0) 0 < length places → StandsTwice places (get_or places i 0)
  stands-now i spokes twice lt f full = grind arith

  -- the next place, and the least that stands twice
  filling-next : (i : ℕ) (spokes : List ℕ) (twice now : ℕ) → i < length places → Filling places i spokes twice →
      get_or spokes (get_or places i 0) 0 < length places → now ≤ twice → now ≤ get_or places i 0 → now < length places
      → StandsTwice places now →
      Filling places (i + 1) spokes now
  filling-next i spokes twice now lt f full le le_place within stands =
      record {
        as_long = f.as_long;
        within = omega arith;
        small = f.small;
        back = λ k k_below filled. let old = f.back k k_below filled in (omega arith, old.1);
        seen = λ j j_below. grind arith;
        stands = λ _. stands;
        least = λ a b ab b_below e. elim (cases_lt b i) [
          | inl old ↦ let low = f.least a b ab old e in omega arith
          | inr new ↦
              let is : get_or places b 0 ≡ get_or places i 0 = ap (λ n. get_or places n 0) (let q : b ≡ i = omega arith in q) in
              omega arith
        ];
        count = λ none. absurd (omega arith);
      }

  pub filling-twice : (i : ℕ) (spokes : List ℕ) (twice : ℕ) → i < length places → Filling places i spokes twice →
      get_or spokes (get_or places i 0) 0 < length places → get_or places i 0 < twice → Filling places (i + 1) spokes (get_or places i 0)
  filling-twice i spokes twice lt f full lower =
      filling-next i spokes twice (get_or places i 0) lt f full (omega arith) (omega arith) (inside i lt)
      (stands-now i spokes twice lt f full)

  pub filling-same : (i : ℕ) (spokes : List ℕ) (twice : ℕ) → i < length places → Filling places i spokes twice →
      get_or spokes (get_or places i 0) 0 < length places → twice ≤ get_or places i 0 → Filling places (i + 1) spokes twice
  filling-same i spokes twice lt f full higher =
      let within : twice < length places = omega arith in
      filling-next i spokes twice twice lt f full (omega arith) higher within (f.stands within)

  filled-le : (n x : ℕ) → filled n x ≤ 1
  filled-le n x = grind (arith, filled)

  sum-le : (n : ℕ) (xs : List ℕ) → sum_by (filled n) xs ≤ length xs
  sum-le n [] = omega arith
  sum-le n (x ∷ xs) = let rest = sum-le n xs in let one = filled-le n x in let split = sum_by-cons (filled n) x xs in omega arith

  -- where as many are filled as there are, each is
  all-filled : (n : ℕ) (xs : List ℕ) → sum_by (filled n) xs ≡ length xs → (k : ℕ) → k < length xs → get_or xs k 0 < n
  all-filled n [] e k lt = absurd (omega arith)
  all-filled n (x ∷ xs) e zero lt = elim (cases_lt x n) [
    | inl below ↦ below
    | inr above ↦
        let none : filled n x ≡ 0 = ap (λ b. cond b 1 0) (le-ltb x n above) in
        absurd (omega (arith, sum-le n xs, sum_by-cons (filled n) x xs))
  ]
  all-filled n (x ∷ xs) e (suc k) lt = all-filled n xs (omega (arith, filled-le n x, sum-le n xs, sum_by-cons (filled n) x xs)) k
      (omega arith)

  -- no place stands twice: this is a wheel, and each place has its spoke
  pub filled-inverse : (spokes : List ℕ) (twice : ℕ) → Filling places (length places) spokes twice → length places ≤ twice
      → IsInverse places spokes
  filled-inverse spokes twice f none =
      let counted : sum_by (filled (length places)) spokes ≡ length spokes = f.count (omega arith) ∙ sym f.as_long in
      let each = all-filled (length places) spokes counted in grind arith
