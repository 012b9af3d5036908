-- The quad path of a walk, dart after dart.
use Rattle.labellings.proofs.Common.{IsGood, LabellingView, spokes, quad_path, spoke_list, ◌≡◌, ℕ, zero, suc, ◌+◌, ◌<◌, List, [], ◌∷◌, ◌++◌, All, length, get_or, take, ap, sym, ◌∙◌, subst, arith, append_assoc, append-nil, Option, Some, None, IfSome, MatchOption, FaceList}
use Rattle.surf_model.specs.declared.names.Spoke.{Spoke}
use Rattle.labellings.proofs.WalkWordLemmas.{quad_path_below}

-- one dart more
pub path-next : (mesh : FaceList) (labelling : LabellingView) (walk : List ℕ) (k : ℕ) → k + 1 < length walk
    → quad_path mesh labelling (take (suc (suc k)) walk)
    ≡ quad_path mesh labelling (take (suc k) walk) ++ spokes mesh labelling (get_or walk k 0) (get_or walk (suc k) 0)
path-next mesh labelling [] k l = absurd (omega arith)
path-next mesh labelling (u ∷ []) k l = absurd (omega arith)
path-next mesh labelling (u ∷ v ∷ walk) zero l = append-nil (spokes mesh labelling u v)
path-next mesh labelling (u ∷ v ∷ walk) (suc k) l =
    ap (λ (rest : List ℕ). spokes mesh labelling u v ++ rest) (path-next mesh labelling (v ∷ walk) k (omega arith))
    ∙ sym (append_assoc (spokes mesh labelling u v) (quad_path mesh labelling (take (suc k) (v ∷ walk)))
    (spokes mesh labelling (get_or (v ∷ walk) k 0) (get_or walk k 0)))

-- the spokes of a dart are spokes of the wheel
spokes_below : (mesh : FaceList) (labelling : LabellingView) → IsGood mesh labelling → (u v : ℕ)
    → All (λ i. i < length labelling.places) (spokes mesh labelling u v)
spokes_below mesh labelling good u v =
    subst (All (λ i. i < length labelling.places)) (append-nil (spokes mesh labelling u v))
    (quad_path_below mesh labelling good (u ∷ v ∷ []))

-- the spokes that a dart was found to have
pub listed : (found : Option (Spoke × Spoke)) (xs : List ℕ) → MatchOption found (xs ≡ []) (λ pair. xs ≡ pair.0.0 ∷ pair.1.0 ∷ [])
    → xs ≡ spoke_list found
listed None xs h = h
listed (Some pair) xs h = h

pub found_below : (mesh : FaceList) (labelling : LabellingView) → IsGood mesh labelling → (u v : ℕ) (found : Option (Spoke × Spoke))
    → MatchOption found (spokes mesh labelling u v ≡ []) (λ pair. spokes mesh labelling u v ≡ pair.0.0 ∷ pair.1.0 ∷ [])
    → IfSome found (λ pair. (pair.0.0 < length labelling.places) × (pair.1.0 < length labelling.places))
found_below mesh labelling good u v None h = tt
found_below mesh labelling good u v (Some pair) h =
    let below : All (λ i. i < length labelling.places) (pair.0.0 ∷ pair.1.0 ∷ []) =
    subst (All (λ i. i < length labelling.places)) h (spokes_below mesh labelling good u v) in
    (below 0 0 (omega arith), below 1 0 (omega arith))
