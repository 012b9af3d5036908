-- Where parts end of which the first have one size and are not listed.
use Rattle.surf_model.proofs.Common.{◌≡◌, ◌⊎◌, inl, inr, ℕ, zero, suc, ◌+◌, ◌-◌, ◌*◌, ◌<◌, ◌≤◌, List, [], ◌∷◌, ◌++◌, length, get_or, refl, ap, sym, ◌∙◌, add-one, arith, cases_lt, common_steps, length_push, get_or_append_left, get_or_push, last_end, IsInPart, equal_ends, joined_ends}

pub times_rises : (s m n : ℕ) → m ≤ n → s * m ≤ s * n
times_rises s m n le = grind arith

length-equal : (s c : ℕ) → length (equal_ends s c) ≡ c
length-equal s zero = refl
length-equal s (suc c) = omega (arith, length_push (equal_ends s c) (s * suc c), length-equal s c)

end-equal : (s c k : ℕ) → k < c → get_or (equal_ends s c) k 0 ≡ s * (k + 1)
end-equal s zero k l = absurd (omega arith)
end-equal s (suc c) k l =
    elim (cases_lt k c) [
      | inl less ↦ get_or_append_left (equal_ends s c) (s * suc c ∷ []) 0 k (omega (arith, less, length-equal s c)) ∙ end-equal s c k less
      | inr le ↦
          (let last : c ≡ k = omega (arith, le, l) in
          let next : suc c ≡ k + 1 = omega (arith, last) in
          get_or_push (equal_ends s c) (s * suc c) 0 k (length-equal s c ∙ last) ∙ ap (λ n. s * n) next)
    ]

pub length-joined : (s c : ℕ) (rest : List ℕ) → length (joined_ends s c rest) ≡ c + length rest
length-joined s c rest = grind (arith, common_steps, length-equal)

-- a part that is not below the first ones is a listed one
pub listed_below : (s c : ℕ) (rest ends : List ℕ) (k : ℕ) → joined_ends s c rest ≡ ends → c ≤ k → k < length ends → k - c < length rest
listed_below s c rest ends k seen behind l = grind (arith, joined_ends, length-joined)

-- where a part ends and starts that is not listed, and one that is
pub end-first : (s c : ℕ) (rest : List ℕ) (k : ℕ) → k < c → get_or (joined_ends s c rest) k 0 ≡ s * (k + 1)
end-first s c rest k l = grind (arith, common_steps, length-equal, end-equal)

pub end-listed : (s c : ℕ) (rest : List ℕ) (k : ℕ) → k < length rest → get_or (joined_ends s c rest) (c + k) 0 ≡ s * c + get_or rest k 0
end-listed s c rest k l = grind (arith, common_steps, length-equal)

pub start-first : (s c : ℕ) (rest : List ℕ) (k : ℕ) → k ≤ c → get_or (0 ∷ joined_ends s c rest) k 0 ≡ s * k
start-first s c rest zero l = omega arith
start-first s c rest (suc k) l = end-first s c rest k (omega arith) ∙ ap (λ n. s * n) (add-one k)

pub start-listed : (s c : ℕ) (rest : List ℕ) (k : ℕ) → k ≤ length rest
    → get_or (0 ∷ joined_ends s c rest) (c + k) 0 ≡ s * c + get_or (0 ∷ rest) k 0
start-listed s c rest zero l = grind (arith, joined_ends, start-first)
start-listed s c rest (suc k) l =
    let next : c + suc k ≡ suc (c + k) = omega arith in grind (arith, joined_ends, end-listed)

pub start-behind : (s c : ℕ) (rest : List ℕ) (k : ℕ) → c < k → k - c - 1 < length rest
    → get_or (0 ∷ joined_ends s c rest) k 0 ≡ s * c + get_or rest (k - c - 1) 0
start-behind s c rest zero before l = absurd (omega arith)
start-behind s c rest (suc k) before l =
    let place : c + (suc k - c - 1) ≡ k = omega (arith, before) in grind (arith, joined_ends, end-listed)

pub last_end-joined : (s c : ℕ) (rest : List ℕ) → last_end (joined_ends s c rest) ≡ s * c + last_end rest
last_end-joined s c rest = grind (arith, joined_ends, length-joined, start-listed)

-- the part of a place
pub in_first : (s c : ℕ) (rest : List ℕ) (place part : ℕ) → s * part ≤ place → place < s * (part + 1) → place < s * c
    → IsInPart (joined_ends s c rest) place part
in_first s c rest place part from to below = grind (arith, times_rises, length-joined, start-first, end-first)

pub in_listed : (s c : ℕ) (rest : List ℕ) (place part : ℕ) → s * c ≤ place → IsInPart rest (place - s * c) part
    → IsInPart (joined_ends s c rest) place (c + part)
in_listed s c rest place part from h = grind (arith, length-joined, start-listed, end-listed)

-- one part more
pub joined-push : (s c : ℕ) (rest : List ℕ) (size : ℕ)
    → joined_ends s c (rest ++ (last_end rest + size) ∷ []) ≡ joined_ends s c rest ++ (last_end (joined_ends s c rest) + size) ∷ []
joined-push s c rest size = grind (arith, common_steps, joined_ends, last_end-joined)

same_ends : (s old c : ℕ) → (c ≡ 0) ⊎ (s ≡ old) → equal_ends s c ≡ equal_ends old c
same_ends s old c (inl none) = ap (equal_ends s) none ∙ sym (ap (equal_ends old) none)
same_ends s old c (inr same) = ap (λ n. equal_ends n c) same

pub same_end : (s old c : ℕ) → (c ≡ 0) ⊎ (s ≡ old) → s * c ≡ old * c
same_end s old c (inl none) = omega (arith, ap (λ n. s * n) none, ap (λ n. old * n) none)
same_end s old c (inr same) = ap (λ n. n * c) same

pub equal-push : (s old c : ℕ) (rest : List ℕ) → length rest ≡ 0 → (c ≡ 0) ⊎ (s ≡ old)
    → joined_ends s (c + 1) rest ≡ joined_ends old c rest ++ (last_end (joined_ends old c rest) + s) ∷ []
equal-push s old c rest none h = grind (arith, common_steps, joined_ends, same_end, last_end-joined, add-one, same_ends)
