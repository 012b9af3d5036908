-- Lists of vertices without repeats, and lists that go along edges.
use Rattle.doubling.proofs.Common.{edge_differs, fold, steps_behind, without_repeats, ◌≡◌, ◌≢◌, ℕ, ◌+◌, ◌<◌, false, List, [], ◌∷◌, map, refl, ap, sym, ◌∙◌, arith, ne_eqb, nat_tests, ◌==◌, head_used, used_below, Linked, FaceList, IsFaceList}

pub steps-other : (u v : ℕ) (rest : List ℕ) → v ≢ u → steps_behind u (v ∷ rest) ≡ v ∷ steps_behind v rest
steps-other u v rest other = let test : (v == u) ≡ false = ne_eqb v u other in rw test refl

-- a vertex of the mesh is its own fold, and so is the fold of its mirror
pub fold_kept : (count v : ℕ) → v < count → fold count v ≡ v
fold_kept count v l = grind (arith, nat_tests)

pub fold_mirror : (count v : ℕ) → fold count (v + count) ≡ v
fold_mirror count v = grind (arith, nat_tests)

-- a way along edges has no repeats
pub linked_steps : (mesh : FaceList) (u : ℕ) (rest : List ℕ) → IsFaceList mesh → Linked mesh (u ∷ rest) → steps_behind u rest ≡ rest
linked_steps mesh u [] valid h = refl
linked_steps mesh u (v ∷ rest) valid h =
    steps-other u v rest (λ same. edge_differs mesh u v valid h.0 (sym same))
    ∙ ap (λ (l : List ℕ). v ∷ l) (linked_steps mesh v rest valid h.1)

pub linked_repeats : (mesh : FaceList) (walk : List ℕ) → IsFaceList mesh → Linked mesh walk → without_repeats walk ≡ walk
linked_repeats mesh [] valid h = refl
linked_repeats mesh (u ∷ rest) valid h = ap (λ (l : List ℕ). u ∷ l) (linked_steps mesh u rest valid h)

-- and each vertex on it is its own fold
pub linked_folds : (mesh : FaceList) (u : ℕ) (rest : List ℕ) → IsFaceList mesh → u < mesh.count → Linked mesh (u ∷ rest)
    → map (fold mesh.count) (u ∷ rest) ≡ u ∷ rest
linked_folds mesh u [] valid l h = ap (λ (w : ℕ). w ∷ []) (fold_kept mesh.count u l)
linked_folds mesh u (v ∷ rest) valid l h =
    let next : v < mesh.count = used_below mesh v valid (head_used mesh u v h.0) in
    ap (λ (w : ℕ). w ∷ map (fold mesh.count) (v ∷ rest)) (fold_kept mesh.count u l)
    ∙ ap (λ (l : List ℕ). u ∷ l) (linked_folds mesh v rest valid next h.1)
