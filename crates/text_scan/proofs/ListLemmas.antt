-- Lists up to the first element that passes a test, and lists of which each passes one.
use Rattle.text_scan.proofs.Common.{◌≡◌, ℕ, suc, ◌≤◌, Bool, true, false, cond, not, ltb, List, [], ◌∷◌, ◌++◌, length, refl, sym, ap, ◌∙◌, one-add, add-one, and_parts, and_from, ltb-false, none-some, before_first, after_first, position_or_len, list_all, Some, None, position, from_first}

pub before_first-yes : {A : Type 0} (p : A → Bool) (x : A) (xs : List A) → p x ≡ true → before_first p (x ∷ xs) ≡ []
before_first-yes p x xs e = rw e refl

pub before_first-no : {A : Type 0} (p : A → Bool) (x : A) (xs : List A) → p x ≡ false → before_first p (x ∷ xs) ≡ x ∷ before_first p xs
before_first-no p x xs e = rw (e, one-add) refl

pub after_first-yes : {A : Type 0} (p : A → Bool) (x : A) (xs : List A) → p x ≡ true → after_first p (x ∷ xs) ≡ xs
after_first-yes p x xs e = rw e refl

pub after_first-no : {A : Type 0} (p : A → Bool) (x : A) (xs : List A) → p x ≡ false → after_first p (x ∷ xs) ≡ after_first p xs
after_first-no p x xs e = rw (e, one-add, add-one (suc (position_or_len p xs)), add-one) refl

pub from_first-yes : (p : ℕ → Bool) (x : ℕ) (xs : List ℕ) → p x ≡ true → from_first p (x ∷ xs) ≡ x ∷ xs
from_first-yes p x xs e = rw e refl

pub from_first-no : (p : ℕ → Bool) (x : ℕ) (xs : List ℕ) → p x ≡ false → from_first p (x ∷ xs) ≡ from_first p xs
from_first-no p x xs e = rw (e, one-add) refl

-- elements that do not pass, and what comes behind them
pub before_first-append : {A : Type 0} (p : A → Bool) (xs ys : List A) → list_all (λ x. not (p x)) xs ≡ true
    → before_first p (xs ++ ys) ≡ xs ++ before_first p ys
before_first-append p [] ys none = refl
before_first-append p (x ∷ xs) ys none =
    let first = and_parts _ _ none in
    before_first-no p x (xs ++ ys) (no (p x) first.0) ∙ ap (λ t. x ∷ t) (before_first-append p xs ys first.1)
  where
    no : (b : Bool) → not b ≡ true → b ≡ false
    no true e = cc
    no false e = refl

pub from_first-append : (p : ℕ → Bool) (xs ys : List ℕ) → list_all (λ x. not (p x)) xs ≡ true → from_first p (xs ++ ys) ≡ from_first p ys
from_first-append p [] ys none = refl
from_first-append p (x ∷ xs) ys none =
    let first = and_parts _ _ none in
    from_first-no p x (xs ++ ys) (no (p x) first.0) ∙ from_first-append p xs ys first.1
  where
    no : (b : Bool) → not b ≡ true → b ≡ false
    no true e = cc
    no false e = refl

-- where none is found, the place is behind the last one
pub nowhere : (p : ℕ → Bool) (xs : List ℕ) → position p xs ≡ None → length xs ≤ position_or_len p xs
nowhere p xs e = by_test (ltb (position_or_len p xs) (length xs)) refl e
  where
    by_test : (b : Bool) → ltb (position_or_len p xs) (length xs) ≡ b → cond b (Some (position_or_len p xs)) None ≡ None
        → length xs ≤ position_or_len p xs
    by_test true is e = absurd (none-some (position_or_len p xs) (sym e))
    by_test false is e = ltb-false _ _ is

-- what passes a test passes a weaker one
pub all_weaker : (p q : ℕ → Bool) → ((x : ℕ) → p x ≡ true → q x ≡ true) → (xs : List ℕ) → list_all p xs ≡ true → list_all q xs ≡ true
all_weaker p q weaker [] all = refl
all_weaker p q weaker (x ∷ xs) all =
    let both = and_parts (p x) (list_all p xs) all in
    and_from _ _ (weaker x both.0) (all_weaker p q weaker xs both.1)
