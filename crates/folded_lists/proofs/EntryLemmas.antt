-- Where an entry of a walk is in the fold of that walk.
use Rattle.folded_lists.proofs.Common.{fold, folded, not, ◌≡◌, inl, inr, ℕ, ◌+◌, ◌<◌, ◌≤◌, Bool, true, false, List, [], ◌∷◌, ◌++◌, length, get_or, take, refl, ap, sym, ◌∙◌, arith, cases_eq, eq-eqb, ne_eqb, length-append, take_more, length-take, ◌==◌, if◌then◌else◌}
use Rattle.folded_lists.proofs.FoldedParts.{folds_behind, length-folded, parted}

-- the fold up to the next entry
next_entry : (count : ℕ) (walk : List ℕ) (place : ℕ) → place + 1 < length walk
    → length (folded count (take (place + 1 + 1) walk))
    ≡ length (folded count (take (place + 1) walk))
    + (if fold count (get_or walk (place + 1) 0) == fold count (get_or walk place 0) then 0 else 1)
next_entry count walk place l =
    let here : ℕ = get_or walk place 0 in
    let to : ℕ = get_or walk (place + 1) 0 in
    let F : ℕ → ℕ = fold count in
    let front : take (place + 1) walk ≡ take place walk ++ here ∷ [] = take_more walk place 0 (omega (arith, l)) in
    let before : List ℕ = folded count (take place walk ++ here ∷ []) in
    let step : length (folds_behind count here (to ∷ [])) ≡ (if F to == F here then 0 else 1) =
    elim (cases_eq (F to) (F here)) [
      | inl same ↦ (let test : (F to == F here) ≡ true = eq-eqb (F to) (F here) same in rw test refl)
      | inr other ↦ (let test : (F to == F here) ≡ false = ne_eqb (F to) (F here) other in rw test refl)
    ] in
    ap (λ (w : List ℕ). length (folded count w))
    (take_more walk (place + 1) 0 l ∙ ap (λ (w : List ℕ). w ++ to ∷ []) front)
    ∙ ap length (parted count (take place walk) here (to ∷ []))
    ∙ length-append before (folds_behind count here (to ∷ []))
    ∙ ap (λ (n : ℕ). length before + n) step
    ∙ ap (λ (w : List ℕ). length (folded count w) + (if F to == F here then 0 else 1)) (sym front)

abbrev pub count_of : Bool → ℕ
count_of differ = if differ then 1 else 0

turned : (same : Bool) → count_of (not same) ≡ (if same then 0 else 1)
turned true = refl
turned false = refl

-- the same, told by whether the folds of two neighbours differ
pub one_further : (count : ℕ) (walk : List ℕ) (place last next : ℕ) (differ : Bool) → place + 1 < length walk
    → last ≡ fold count (get_or walk place 0) → next ≡ fold count (get_or walk (place + 1) 0) → differ ≡ not (next == last)
    → length (folded count (take (place + 1 + 1) walk))
    ≡ length (folded count (take (place + 1) walk)) + count_of differ
one_further count walk place last next differ l a b told =
    let same : Bool = fold count (get_or walk (place + 1) 0) == fold count (get_or walk place 0) in
    next_entry count walk place l
    ∙ ap (λ (n : ℕ). length (folded count (take (place + 1) walk)) + n)
    (sym (turned same) ∙ ap count_of
    (sym (told ∙ ap (λ (n : ℕ). not (n == last)) b ∙ ap (λ (n : ℕ). not (fold count (get_or walk (place + 1) 0) == n)) a)))

-- the fold has no more entries than the walk
pub fold_fits : (count : ℕ) (walk : List ℕ) (place : ℕ) → length (folded count (take (place + 1) walk)) ≤ place + 1
fold_fits count walk place =
    omega (arith, length-folded count (take (place + 1) walk), length-take (place + 1) walk)
