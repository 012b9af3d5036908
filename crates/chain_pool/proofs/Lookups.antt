-- What is under names: in a list that was mapped, and how many cells all chains have.
use Rattle.chain_pool.proofs.Common.{under, IsEdit, IsAlike, cells_of, cells_in, ◌≡◌, ◌≢◌, ℕ, zero, suc, ◌+◌, ◌≤◌, List, [], ◌∷◌, map, Option, None, refl, sym, ap, arith}
use Rattle.std.proofs.lemmas.List.Sums.{sum_by-cons}

pub under-map : {A B : Type 0} (f : Option A → Option B) → f None ≡ None → (xs : List (Option A)) (k : ℕ)
    → under (map f xs) k ≡ f (under xs k)
under-map f none [] k = sym none
under-map f none (x ∷ xs) zero = refl
under-map f none (x ∷ xs) (suc k) = under-map f none xs k

cells_in-cons : (x : Option (List ℕ)) (xs : List (Option (List ℕ))) → cells_in (x ∷ xs) ≡ cells_of x + cells_in xs
cells_in-cons x xs = sum_by-cons cells_of x xs

-- one chain has no more cells than all
pub cells_of-le : (lists : List (Option (List ℕ))) (k : ℕ) → cells_of (under lists k) ≤ cells_in lists
cells_of-le [] k = omega arith
cells_of-le (x ∷ xs) zero = omega (arith, cells_in-cons x xs)
cells_of-le (x ∷ xs) (suc k) = omega (arith, cells_in-cons x xs, cells_of-le xs k)

none_left : (ys : List (Option (List ℕ))) → ((k : ℕ) → under ys k ≡ None) → cells_in ys ≡ 0
none_left [] none = refl
none_left (y ∷ ys) none = omega (arith, cells_in-cons y ys, ap cells_of (none 0), none_left ys (λ k. none (suc k)))

pub cells_in-alike : (xs ys : List (Option (List ℕ))) → IsAlike xs ys → cells_in ys ≡ cells_in xs
cells_in-alike [] ys same = none_left ys same
cells_in-alike (x ∷ xs) [] same = sym (none_left (x ∷ xs) (λ k. sym (same k)))
cells_in-alike (x ∷ xs) (y ∷ ys) same =
    omega (arith, cells_in-cons x xs, cells_in-cons y ys, ap cells_of (same 0), cells_in-alike xs ys (λ k. same (suc k)))

after_first : {A : Type 0} (xs ys : List (Option A)) → ((k : ℕ) → k ≢ 0 → under ys k ≡ under xs k) → (k : ℕ)
    → under ys (suc k) ≡ under xs (suc k)
after_first xs ys same k = same (suc k) (λ e. absurd (omega arith))

before_last : {A : Type 0} (xs ys : List (Option A)) (name : ℕ) → ((k : ℕ) → k ≢ suc name → under ys k ≡ under xs k)
    → (k : ℕ) → k ≢ name → under ys (suc k) ≡ under xs (suc k)
before_last xs ys name same k ne = same (suc k) (λ e. ne (omega arith))

one_left : (xs ys : List (Option (List ℕ))) (name : ℕ) → ((k : ℕ) → k ≢ name → under ys k ≡ under xs k)
    → cells_in ys + cells_of (under xs name) ≡ cells_in xs + cells_of (under ys name)
one_left [] [] name same = refl
one_left [] (y ∷ ys) zero same = omega (arith, cells_in-cons y ys, cells_in-alike [] ys (after_first [] (y ∷ ys) same))
one_left [] (y ∷ ys) (suc name) same =
    omega (
      arith,
      cells_in-cons y ys,
      ap cells_of (same 0 (λ e. absurd (omega arith))),
      one_left [] ys name (before_last []
          (y ∷ ys) name same),
    )
one_left (x ∷ xs) [] zero same = omega (arith, cells_in-cons x xs, cells_in-alike xs [] (after_first (x ∷ xs) [] same))
one_left (x ∷ xs) [] (suc name) same =
    omega (
      arith,
      cells_in-cons x xs,
      ap cells_of (same 0 (λ e. absurd (omega arith))),
      one_left xs [] name (before_last
          (x ∷ xs) [] name same),
    )
one_left (x ∷ xs) (y ∷ ys) zero same =
    omega (arith, cells_in-cons x xs, cells_in-cons y ys, cells_in-alike xs ys (after_first (x ∷ xs) (y ∷ ys) same))
one_left (x ∷ xs) (y ∷ ys) (suc name) same =
    omega (
      arith,
      cells_in-cons x xs,
      cells_in-cons y ys,
      ap cells_of (same 0 (λ e. absurd (omega arith))),
      one_left xs ys name (before_last (x ∷ xs) (y ∷ ys) name same),
    )

-- an edit changes the number of cells by those of the chain
pub cells_in-edit : (xs ys : List (Option (List ℕ))) (name : ℕ) (thing : Option (List ℕ)) → IsEdit xs ys name thing
    → cells_in ys + cells_of (under xs name) ≡ cells_in xs + cells_of thing
cells_in-edit xs ys name thing edit = omega (arith, one_left xs ys name edit.others, ap cells_of edit.here)
