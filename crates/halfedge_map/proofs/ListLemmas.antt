-- Lists of which some elements pass a test.
use Rattle.halfedge_map.proofs.Common.{◌≡◌, ◌≢◌, inl, inr, ℕ, zero, suc, ◌+◌, ◌-◌, ◌<◌, Bool, true, false, ◌||◌, List, [], ◌∷◌, length, get_or, refl, ap, sym, ◌∙◌, subst, arith, cases_Bool, cond-true, cond-false, both_ways, list_any_at, list_any, range_with_len, filter, find, Some, Contains, first_below}
use Rattle.std.proofs.lemmas.List.FromFn.{length-range_with_len, get_or-range_with_len}

-- the first element that passes, where one does
record IsFound (p : ℕ → Bool) (xs : List ℕ) : Type 0 where
  element : ℕ
  is : find p xs ≡ Some element
  passes : p element ≡ true
  among : Contains xs element

found_at : (p : ℕ → Bool) (xs : List ℕ) → list_any p xs ≡ true → IsFound p xs
found_at p [] h = cc
found_at p (x ∷ xs) h =
    elim (cases_Bool (p x)) [
      | inl here ↦ record { element = x; is = cond-true (p x) (Some x) (find p xs) here; passes = here; among = (0, omega arith, refl) }
      | inr not_here ↦
          (let rest : IsFound p xs = found_at p xs (sym (ap (λ b. b || list_any p xs) not_here) ∙ h) in
          record {
            element = rest.element;
            is = cond-false (p x) (Some x) (find p xs) not_here ∙ rest.is;
            passes = rest.passes;
            among = (suc rest.among.0, omega (arith, rest.among.1), rest.among.2);
          })
    ]

-- the least number below n that passes, where one does
pub record IsFirstBelow (p : ℕ → Bool) (n : ℕ) : Type 0 where
  pub number : ℕ
  pub is : first_below p n ≡ Some number
  pub passes : p number ≡ true
  pub within : number < n

pub first_passes : (p : ℕ → Bool) (n k : ℕ) → k < n → p k ≡ true → IsFirstBelow p n
first_passes p n k l passes =
    let here : (i : ℕ) → i < n → get_or (range_with_len 0 n) i i ≡ i =
    λ i b. get_or-range_with_len 0 n i i b ∙ (let e : 0 + i ≡ i = omega arith in e) in
    let found : IsFound p (range_with_len 0 n) =
    found_at p (range_with_len 0 n) (list_any_at p (range_with_len 0 n) k k (omega (arith, l, length-range_with_len 0 n))
    (ap p (here k l) ∙ passes)) in
    let at : ℕ = found.among.0 in
    let at_in : at < n = omega (arith, found.among.1, length-range_with_len 0 n) in
    let is : found.element ≡ at = sym found.among.2 ∙ get_or-range_with_len 0 n at found.element at_in
    ∙ (let e : 0 + at ≡ at = omega arith in e) in
    record { number = found.element; is = found.is; passes = found.passes; within = omega (arith, is, at_in) }

-- where none is kept, none passes
none_left : {A : Type 0} (p : A → Bool) (xs : List A) (k : ℕ) (d : A) → length (filter p xs) ≡ 0 → k < length xs
    → p (get_or xs k d) ≡ true → ⊥
none_left p [] k d h l passes = omega (arith, l)
none_left p (x ∷ xs) zero d h l passes = grind arith
none_left p (x ∷ xs) (suc k) d h l passes =
    elim (cases_Bool (p x)) [
      | inl here ↦
          (let long : length (x ∷ filter p xs) ≡ 0 = subst (λ ys. length ys ≡ 0) (cond-true (p x) (x ∷ filter p xs) (filter p xs) here) h in
          omega (arith, long))
      | inr not_here ↦ none_left p xs k d (subst (λ ys. length ys ≡ 0) (cond-false (p x) (x ∷ filter p xs) (filter p xs) not_here) h)
          (omega arith) passes
    ]

-- just one place passes
pub record HasOne {A : Type 0} (p : A → Bool) (xs : List A) (d : A) : Type 0 where
  pub place : ℕ
  pub within : place < length xs
  pub passes : p (get_or xs place d) ≡ true
  pub only : (k : ℕ) → k < length xs → p (get_or xs k d) ≡ true → k ≡ place

one_left : {A : Type 0} (p : A → Bool) (xs : List A) (d : A) → length (filter p xs) ≡ 1 → HasOne p xs d
one_left p [] d h = absurd (omega (arith, h))
one_left p (x ∷ xs) d h =
    elim (cases_Bool (p x)) [
      | inl here ↦ first here (subst (λ ys. length ys ≡ 1) (cond-true (p x) (x ∷ filter p xs) (filter p xs) here) h)
      | inr not_here ↦ later not_here (one_left p xs d
          (subst (λ ys. length ys ≡ 1) (cond-false (p x) (x ∷ filter p xs) (filter p xs) not_here) h))
    ]
  where
    only_first : length (filter p xs) ≡ 0 → (k : ℕ) → k < suc (length xs) → p (get_or (x ∷ xs) k d) ≡ true → k ≡ 0
    only_first none zero l passes = refl
    only_first none (suc k) l passes = absurd (none_left p xs k d none (omega arith) passes)

    first : p x ≡ true → suc (length (filter p xs)) ≡ 1 → HasOne p (x ∷ xs) d
    first here long = record { place = 0; within = omega arith; passes = here; only = only_first (omega (arith, long)) }

    only_later : (rest : HasOne p xs d) → p x ≡ false → (k : ℕ) → k < suc (length xs) → p (get_or (x ∷ xs) k d) ≡ true → k ≡ suc rest.place
    only_later rest fails zero l passes = absurd (both_ways (p x) fails passes)
    only_later rest fails (suc k) l passes = ap suc (rest.only k (omega arith) passes)

    later : p x ≡ false → HasOne p xs d → HasOne p (x ∷ xs) d
    later fails rest =
        record {
          place = suc rest.place;
          within = omega (arith, rest.within);
          passes = rest.passes;
          only = only_later rest fails;
        }

-- beside a place that passes there is just one other, where two pass
pub record HasOther {A : Type 0} (p : A → Bool) (xs : List A) (d : A) (i : ℕ) : Type 0 where
  pub place : ℕ
  pub within : place < length xs
  pub passes : p (get_or xs place d) ≡ true
  pub other : place ≢ i
  pub only : (k : ℕ) → k < length xs → p (get_or xs k d) ≡ true → k ≢ i → k ≡ place

pub other_left : {A : Type 0} (p : A → Bool) (xs : List A) (d : A) (i : ℕ) → length (filter p xs) ≡ 2 → i < length xs
    → p (get_or xs i d) ≡ true → HasOther p xs d i
other_left p [] d i h l passes = absurd (omega (arith, h))
other_left p (x ∷ xs) d i h l passes =
    elim (cases_Bool (p x)) [
      | inl here ↦ first i l passes here (subst (λ ys. length ys ≡ 2) (cond-true (p x) (x ∷ filter p xs) (filter p xs) here) h)
      | inr not_here ↦
          (let long : length (filter p xs) ≡ 2 = subst (λ ys. length ys ≡ 2)
          (cond-false (p x) (x ∷ filter p xs) (filter p xs) not_here) h in
          let back : i ≢ 0 = λ e. both_ways (p x) not_here (subst (λ k. p (get_or (x ∷ xs) k d) ≡ true) e passes) in
          let less : ℕ = i - 1 in
          let is : i ≡ suc less = omega (arith, back) in
          subst (HasOther p (x ∷ xs) d) (sym is)
          (later less not_here (other_left p xs d less long (omega (arith, l, is))
          (subst (λ k. p (get_or (x ∷ xs) k d) ≡ true) is passes))))
    ]
  where
    only_second : (one : HasOne p xs d) → (k : ℕ) → k < suc (length xs) → p (get_or (x ∷ xs) k d) ≡ true → k ≢ 0 → k ≡ suc one.place
    only_second one zero l passes ne = absurd (ne refl)
    only_second one (suc k) l passes ne = ap suc (one.only k (omega arith) passes)

    only_first : (one : HasOne p xs d) (i k : ℕ) → suc i < suc (length xs) → p (get_or (x ∷ xs) (suc i) d) ≡ true → k < suc (length xs)
        → p (get_or (x ∷ xs) k d) ≡ true → k ≢ suc i → k ≡ 0
    only_first one i zero b q l passes ne = refl
    only_first one i (suc k) b q l passes ne =
        let e : k ≡ one.place = one.only k (omega arith) passes in
        let f : i ≡ one.place = one.only i (omega arith) q in
        absurd (ne (ap suc (e ∙ sym f)))

    first : (i : ℕ) → i < suc (length xs) → p (get_or (x ∷ xs) i d) ≡ true → p x ≡ true → suc (length (filter p xs)) ≡ 2
        → HasOther p (x ∷ xs) d i
    first zero l passes here long =
        let one : HasOne p xs d = one_left p xs d (omega (arith, long)) in
        record {
          place = suc one.place;
          within = omega (arith, one.within);
          passes = one.passes;
          other = λ e. omega (arith, e);
          only =
              only_second one;
        }
    first (suc i) l passes here long =
        let one : HasOne p xs d = one_left p xs d (omega (arith, long)) in
        record {
          place = 0;
          within = omega arith;
          passes = here;
          other = λ e. omega (arith, e);
          only =
              λ k b q ne. only_first one i k l passes b q ne;
        }

    only_later : (i : ℕ) (rest : HasOther p xs d i) → p x ≡ false → (k : ℕ) → k < suc (length xs) → p (get_or (x ∷ xs) k d) ≡ true
        → k ≢ suc i → k ≡ suc rest.place
    only_later i rest fails zero l passes ne = absurd (both_ways (p x) fails passes)
    only_later i rest fails (suc k) l passes ne = ap suc (rest.only k (omega arith) passes (λ e. ne (ap suc e)))

    later : (i : ℕ) → p x ≡ false → HasOther p xs d i → HasOther p (x ∷ xs) d (suc i)
    later i fails rest =
        record {
          place = suc rest.place;
          within = omega (arith, rest.within);
          passes = rest.passes;
          other = λ e. rest.other (omega (arith, e));
          only = only_later i rest fails;
        }
