-- A pool with one chain.
use Rattle.segmented_pool.proofs.Common.{under, IsUnder, IsEdit, list_under, arith, ◌≡◌, ℕ, zero, suc, List, [], ◌∷◌, Option, Some, refl}

first : (list : List ℕ) (name : ℕ) → IsUnder (Some list ∷ []) name → list_under (Some list ∷ []) name ≡ list
first list zero live = refl
first list (suc name) live = cc

pub only_list : (lists : List (Option (List ℕ))) (list : List ℕ) (name : ℕ) → Some list ∷ [] ≡ lists → IsUnder lists name
    → list_under lists name ≡ list
only_list lists list name view live = grind (arith, first)

edited : (list new : List ℕ) (name : ℕ) → IsUnder (Some list ∷ []) name → IsEdit (Some list ∷ []) (Some new ∷ []) name (Some new)
edited list new zero live = grind (arith, under)
edited list new (suc name) live = cc

pub only_edit : (lists lists' : List (Option (List ℕ))) (list new wanted : List ℕ) (name : ℕ) → Some list ∷ [] ≡ lists
    → IsUnder lists name → Some new ∷ [] ≡ lists' → new ≡ wanted → IsEdit lists lists' name (Some wanted)
only_edit lists lists' list new wanted name view live view' e = grind (arith, edited)
