-- Lists one after the other, where one of them changes, becomes two or is joined to the next.
use Rattle.segmented_pool.proofs.Common.{part, ◌≡◌, ℕ, zero, suc, ◌<◌, List, [], ◌∷◌, ◌++◌, length, take, drop, set, refl, sym, ap, ◌∙◌, arith, append_assoc, take-append-drop, concat, insert, remove}

pub concat_at : (ps : List (List ℕ)) (k : ℕ) → k < length ps
    → concat ps ≡ concat (take k ps) ++ (part ps k ++ concat (drop (suc k) ps))
concat_at [] k lt = absurd (omega arith)
concat_at (p ∷ ps) zero lt = refl
concat_at (p ∷ ps) (suc k) lt =
    ap (λ (l : List ℕ). p ++ l) (concat_at ps k (omega arith))
    ∙ sym (append_assoc p (concat (take k ps)) (part ps k ++ concat (drop (suc k) ps)))

pub concat_set : (ps : List (List ℕ)) (k : ℕ) (l : List ℕ) → k < length ps
    → concat (set ps k l) ≡ concat (take k ps) ++ (l ++ concat (drop (suc k) ps))
concat_set [] k l lt = absurd (omega arith)
concat_set (p ∷ ps) zero l lt = refl
concat_set (p ∷ ps) (suc k) l lt =
    ap (λ (m : List ℕ). p ++ m) (concat_set ps k l (omega arith))
    ∙ sym (append_assoc p (concat (take k ps)) (l ++ concat (drop (suc k) ps)))

-- the lists where that of place `k` is two, parted at `place`
abbrev pub split_at : List (List ℕ) → ℕ → ℕ → List (List ℕ)
split_at ps k place = insert (set ps k (take place (part ps k))) (suc k) (drop place (part ps k))

pub split_joined : (ps : List (List ℕ)) (k place : ℕ) → k < length ps → concat (split_at ps k place) ≡ concat ps
split_joined [] k place lt = absurd (omega arith)
split_joined (p ∷ ps) zero place lt =
    sym (append_assoc (take place p) (drop place p) (concat ps)) ∙ ap (λ (l : List ℕ). l ++ concat ps) (take-append-drop place p)
split_joined (p ∷ ps) (suc k) place lt = ap (λ (l : List ℕ). p ++ l) (split_joined ps k place (omega arith))

pub split_before : (ps : List (List ℕ)) (k place : ℕ) → k < length ps → take k (split_at ps k place) ≡ take k ps
split_before [] k place lt = absurd (omega arith)
split_before (p ∷ ps) zero place lt = refl
split_before (p ∷ ps) (suc k) place lt = ap (λ (l : List (List ℕ)). p ∷ l) (split_before ps k place (omega arith))

pub split_count : (ps : List (List ℕ)) (k place : ℕ) → k < length ps → k < length (split_at ps k place)
split_count [] k place lt = absurd (omega arith)
split_count (p ∷ ps) zero place lt = omega arith
split_count (p ∷ ps) (suc k) place lt = let more = split_count ps k place (omega arith) in omega arith

-- the lists where that of place `k` has the entries of the next one too, which goes
abbrev pub joined_at : List (List ℕ) → ℕ → List (List ℕ)
joined_at ps k = set (remove ps (suc k)) k (part ps k ++ part ps (suc k))

pub join_joined : (ps : List (List ℕ)) (k : ℕ) → suc k < length ps → concat (joined_at ps k) ≡ concat ps
join_joined [] k lt = absurd (omega arith)
join_joined (p ∷ []) zero lt = absurd (omega arith)
join_joined (p ∷ q ∷ ps) zero lt = append_assoc p q (concat ps)
join_joined (p ∷ ps) (suc k) lt = ap (λ (l : List ℕ). p ++ l) (join_joined ps k (omega arith))

pub join_before : (ps : List (List ℕ)) (k : ℕ) → suc k < length ps → take k (joined_at ps k) ≡ take k ps
join_before [] k lt = absurd (omega arith)
join_before (p ∷ ps) zero lt = refl
join_before (p ∷ ps) (suc k) lt = ap (λ (l : List (List ℕ)). p ∷ l) (join_before ps k (omega arith))
