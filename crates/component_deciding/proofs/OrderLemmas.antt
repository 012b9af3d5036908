-- What is asked of pairs in an order: one more, and all of them.
use Rattle.component_deciding.proofs.Common.{Placed, ◌≡◌, ◌≢◌, inl, inr, ℕ, ◌+◌, ◌<◌, ◌≤◌, eqb, List, length, get_or, set, map, sym, ap, ◌∙◌, subst, arith, get_or-set_same, get_or-set_other, cases_Bool, cases_lt, eqb-true, eq-eqb, both_ways, get_or_default, get_or-map, length-map, All-permutation, Contains-permutation, length_permutation, range_with_len, All, Contains}
use Rattle.component_deciding.specs.Orders.{AreAllPairs}
use Rattle.std.proofs.lemmas.List.FromFn.{length-range_with_len, get_or-range_with_len}

-- the numbers in an order
abbrev pub pairs_of : List Placed → List ℕ
pairs_of order = map (λ (entry : Placed). entry.pair) order

entry_within : (count : ℕ) (order : List Placed) (j : ℕ) (d : Placed) → AreAllPairs count order → j < length order
    → (get_or order j d).pair < count
entry_within count order j d are l =
    let below : All (λ (k : ℕ). k < count) (range_with_len 0 count) = λ t e b.
    omega (
      arith,
      get_or_default (range_with_len 0 count) t e 0 b,
      get_or-range_with_len 0 count t 0 (omega (arith, b, length-range_with_len 0 count)),
      length-range_with_len 0 count,
      b,
    ) in
    let all = All-permutation (λ (k : ℕ). k < count) (range_with_len 0 count) (pairs_of order) are below in
    omega (
      arith,
      all j 0 (omega (arith, l, length-map order (λ (entry : Placed). entry.pair))),
      get_or-map (λ (entry : Placed). entry.pair) order j d 0 l,
    )

-- so what is read there is a pair
pub pair_within : (count at : ℕ) (order : List Placed) (entry : Placed) → AreAllPairs count order → at < length order
    → entry ≡ get_or order at entry → entry.pair < count
pair_within count at order entry are few is =
    subst (λ (p : Placed). p.pair < count) (sym is) (entry_within count order at entry are few)

pub as_many : (count : ℕ) (order : List Placed) → AreAllPairs count order → length order ≡ count
as_many count order are =
    sym (length-map order (λ (entry : Placed). entry.pair)) ∙ length_permutation (range_with_len 0 count) (pairs_of order) are
    ∙ length-range_with_len 0 count

-- of the first n pairs of the order it holds
abbrev pub HoldsUpTo : {X : Type 0} → (ℕ → X → Type 0) → List Placed → ℕ → List X → Type 0
HoldsUpTo {X} Holds order n xs =
    (j : ℕ) (d : Placed) (e : X) → j < n → Holds (get_or order j d).pair (get_or xs (get_or order j d).pair e)

-- and of one more
holds_more : {X : Type 0} (Holds : ℕ → X → Type 0) (order : List Placed) (n : ℕ) (xs : List X) (d : Placed) (x : X)
    → (get_or order n d).pair < length xs → n < length order → Holds (get_or order n d).pair x
    → HoldsUpTo Holds order n xs → HoldsUpTo Holds order (n + 1) (set xs (get_or order n d).pair x)
holds_more {X} Holds order n xs d x inside few holds before j d2 e less =
    let p : ℕ = (get_or order n d).pair in
    let k : ℕ = (get_or order j d2).pair in
    elim (cases_Bool (eqb k p)) [
      | inl same ↦
          (let here : k ≡ p = eqb-true k p same in
          let read : get_or (set xs p x) k e ≡ x =
          ap (λ (i : ℕ). get_or (set xs p x) i e) here ∙ get_or-set_same xs p x e inside in
          subst (λ (i : ℕ). Holds i (get_or (set xs p x) k e)) (sym here) (subst (Holds p) (sym read) holds))
      | inr differ ↦
          (let other : k ≢ p = λ e2. both_ways (eqb k p) differ (eq-eqb k p e2) in
          let earlier : j < n = elim (cases_lt j n) [
            | inl less2 ↦ less2
            | inr last ↦
                (let same : j ≡ n = omega arith in
                absurd (other (ap (λ (y : Placed). y.pair) (ap (λ (i : ℕ). get_or order i d2) same ∙ get_or_default order n d2 d few))))
          ] in
          subst (Holds k) (sym (get_or-set_other xs p k x e other)) (before j d2 e earlier))
    ]

-- which is what was read there
pub holds_next : {X : Type 0} (Holds : ℕ → X → Type 0) (order : List Placed) (n : ℕ) (xs : List X) (entry : Placed) (x : X)
    → entry ≡ get_or order n entry → entry.pair < length xs → n < length order → Holds entry.pair x → HoldsUpTo Holds order n xs
    → HoldsUpTo Holds order (n + 1) (set xs entry.pair x)
holds_next {X} Holds order n xs entry x is inside few holds before =
    subst (λ (p : Placed). p.pair < length xs → Holds p.pair x → HoldsUpTo Holds order (n + 1) (set xs p.pair x)) (sym is)
    (λ b h. holds_more Holds order n xs entry x b few h before) inside holds

-- and of all
pub all_hold : {X : Type 0} (Holds : ℕ → X → Type 0) (order : List Placed) (xs : List X) (n count : ℕ) → length order ≤ n
    → AreAllPairs count order → HoldsUpTo Holds order n xs → (k : ℕ) (e : X) → k < count → Holds k (get_or xs k e)
all_hold {X} Holds order xs n count all are before k e l =
    let long : k < length (range_with_len 0 count) = omega (arith, l, length-range_with_len 0 count) in
    let here : get_or (range_with_len 0 count) k k ≡ k = omega (arith, get_or-range_with_len 0 count k k l) in
    let listed : Contains (range_with_len 0 count) k = (k, long, here) in
    let found = Contains-permutation (range_with_len 0 count) (pairs_of order) k are listed in
    let there : found.0 < length order = omega (arith, found.1, length-map order (λ (entry : Placed). entry.pair)) in
    let none : Placed = record { place = 0; pair = 0 } in
    let pair : (get_or order found.0 none).pair ≡ k =
    sym (get_or-map (λ (entry : Placed). entry.pair) order found.0 none k there) ∙ found.2 in
    subst (λ (i : ℕ). Holds i (get_or xs i e)) pair (before found.0 none e (omega (arith, there, all)))
