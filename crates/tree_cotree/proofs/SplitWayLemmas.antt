-- Ways up a split: to the parents of its vertices, and from face to face of its cotree. From each one way leads to the root, and it passes
-- nothing twice.
use Rattle.tree_cotree.proofs.Common.{rotation_system, names_all, OrientedMesh, IsOrientedSurface, Rotations, rotations_of, IsRotationSystem, ◌≡◌, ◌⊎◌, inl, inr, ℕ, suc, ◌<◌, ◌≤◌, List, [], ◌∷◌, length, ap, sym, ◌∙◌, subst, arith, cases_lt, common_steps, IsPath, SplitView, IsSplit, StepsToParent, StepsUp}
use Rattle.tree_cotree.proofs.SearchLemmas.{not_both, same_some}
use Rattle.tree_cotree.proofs.UpwardLemmas.{IsUpward, single_path, no_loop, few_steps}

pub root_below : (s : OrientedMesh) (split : SplitView) → IsOrientedSurface s → (t : IsSplit s split) → t.parents.root < s.mesh.count
root_below s split o t =
    let dart = (names_all s o).each_vertex t.parents.root t.parents.root_used in grind (arith, names_all)

pub parents_upward : (s : OrientedMesh) (split : SplitView) → IsOrientedSurface s → (t : IsSplit s split)
    → IsUpward (StepsToParent (rotations_of s) split) t.parents.root
parents_upward s split o t = grind (arith, common_steps, same_some, not_both, root_below)

pub faces_upward : (s : OrientedMesh) (split : SplitView) → IsOrientedSurface s → IsSplit s split
    → IsUpward (StepsUp (rotations_of s) split) split.root_face
faces_upward s split o t = record {
  one = λ f g h p q.
      let same : maps.edge p.0 ≡ maps.edge q.0 = t.child_faces.once (maps.edge p.0) (maps.edge q.0) f p.1.below q.1.below in
      elim ((r.edges p.0 q.0 p.1.within q.1.within).0 same) [
        | inl here ↦ sym p.1.leads ∙ ap (λ (d : ℕ). maps.face (maps.twin d)) (sym here) ∙ q.1.leads
        | inr turned ↦
            let there : g ≡ f = sym p.1.leads ∙ ap maps.face (sym turned) ∙ q.1.inside in
            let back : h ≡ f =
            sym q.1.leads ∙ ap (λ (d : ℕ). maps.face (maps.twin d)) turned ∙ ap maps.face (r.twin_back p.0 p.1.within) ∙ p.1.inside in
            there ∙ sym back
      ];
  top = λ g p. t.child_faces.not_root ((rotations_of s).edge p.0) p.1.below;
}
  where
    maps : Rotations
    maps = rotations_of s

    r : IsRotationSystem (rotations_of s)
    r = rotation_system s o

pub one_way_up : (s : OrientedMesh) (split : SplitView) → IsOrientedSurface s → IsSplit s split → (f : ℕ) (path other : List ℕ)
    → IsPath (StepsUp (rotations_of s) split) f path split.root_face → IsPath (StepsUp (rotations_of s) split) f other split.root_face
    → path ≡ other
one_way_up s split o t = single_path (StepsUp (rotations_of s) split) split.root_face (faces_upward s split o t)

-- the way up from a face
pub pick : {s : OrientedMesh} {split : SplitView} (t : IsSplit s split) (f : ℕ) → (f < length s.mesh.faces) ⊎ (length s.mesh.faces ≤ f)
    → List ℕ
pick t f (inl within) = (t.child_faces.to_root f within).0
pick t f (inr _) = []

abbrev pub above : (s : OrientedMesh) (split : SplitView) → IsSplit s split → ℕ → List ℕ
above s split t f = pick t f (cases_lt f (length s.mesh.faces))

pub above_path : (s : OrientedMesh) (split : SplitView) (t : IsSplit s split) (f : ℕ) → f < length s.mesh.faces
    → IsPath (StepsUp (rotations_of s) split) f (above s split t f) split.root_face
unfolding pick
above_path s split t f l = grind (arith, pick)

-- both faces of a step up are faces
lower_within : {s : OrientedMesh} (split : SplitView) → IsOrientedSurface s → (f g : ℕ) → StepsUp (rotations_of s) split f g
    → f < length s.mesh.faces
lower_within {s} split o f g p = subst (λ (x : ℕ). x < length s.mesh.faces) p.1.inside ((names_all s o).face_below p.0 p.1.within)

pub upper_within : (s : OrientedMesh) (split : SplitView) → IsOrientedSurface s → (f g : ℕ) → StepsUp (rotations_of s) split f g
    → g < length s.mesh.faces
upper_within s split o f g p =
    subst (λ (x : ℕ). x < length s.mesh.faces) p.1.leads
    ((names_all s o).face_below ((rotations_of s).twin p.0) ((rotation_system s o).twin_within p.0 p.1.within))

-- the way up begins with the step up
pub rank_step : (s : OrientedMesh) (split : SplitView) → IsOrientedSurface s → (t : IsSplit s split) → (f g : ℕ)
    → StepsUp (rotations_of s) split f g
    → length (above s split t f) ≡ suc (length (above s split t g))
rank_step s split o t f g p =
    ap (λ (l : List ℕ). length l)
    (one_way_up s split o t f (above s split t f) (g ∷ above s split t g) (above_path s split t f (lower_within split o f g p))
    (p, above_path s split t g (upper_within s split o f g p)))

-- no face hangs below itself
pub not_itself : (s : OrientedMesh) (split : SplitView) → IsOrientedSurface s → (t : IsSplit s split) → (f : ℕ)
    → StepsUp (rotations_of s) split f f → ⊥
not_itself s split o t f p =
    no_loop (StepsUp (rotations_of s) split) split.root_face (faces_upward s split o t) f p
    (t.child_faces.to_root f (lower_within split o f f p))

-- a way up has fewer steps than there are faces
pub few_up : (s : OrientedMesh) (split : SplitView) → IsOrientedSurface s → (t : IsSplit s split) → (f : ℕ) (path : List ℕ)
    → IsPath (StepsUp (rotations_of s) split) f path split.root_face → length path < length s.mesh.faces
few_up s split o t f path p =
    few_steps (StepsUp (rotations_of s) split) split.root_face (length s.mesh.faces) (faces_upward s split o t) t.child_faces.root_below
    (lower_within split o) f path p
