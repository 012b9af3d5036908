-- Walks that lie one after another, and marks for their numbers.
use Rattle.move_lifting.proofs.Common.{◌≡◌, ℕ, ◌+◌, ◌-◌, ◌≤◌, List, [], ◌∷◌, ◌++◌, length, refl, ap, ◌∙◌, arith, common_steps, All-head, All-tail, numbers, VertexName}
use Rattle.move_lifting.specs.StoredWalks.{ArePlacesWithin, stored_walks, walk_at_place}
use Rattle.move_lifting.specs.declared.spoke_walks.Place.{Place}

-- a place among the vertices
abbrev IsWithin : List VertexName → Place → Type 0
IsWithin vertices place = (place.start ≤ place.end) × (place.end ≤ length vertices)

-- vertices behind a walk leave it
walk_at-append : (vertices more : List VertexName) (place : Place) → IsWithin vertices place
    → walk_at_place (vertices ++ more) place ≡ walk_at_place vertices place
walk_at-append vertices more place within = grind (arith, common_steps)

stored-append : (places : List Place) (vertices more : List VertexName) → ArePlacesWithin places vertices
    → stored_walks places (vertices ++ more) ≡ stored_walks places vertices
stored-append [] vertices more within = refl
stored-append (place ∷ places) vertices more within =
    ap (λ (w : List ℕ). w ∷ stored_walks places (vertices ++ more))
    (walk_at-append vertices more place (All-head (IsWithin vertices) place places within))
    ∙ ap (λ (l : List (List ℕ)). walk_at_place vertices place ∷ l)
    (stored-append places vertices more (All-tail (IsWithin vertices) place places within))

-- one walk more
pub stored-push : (places : List Place) (vertices walk : List VertexName) (place : Place) → ArePlacesWithin places vertices
    → place.start ≡ length vertices → place.end ≡ length vertices + length walk
    → stored_walks (places ++ place ∷ []) (vertices ++ walk) ≡ stored_walks places vertices ++ numbers walk ∷ []
stored-push places vertices walk place within start end = grind (arith, common_steps, stored-append)
