-- On a sphere a walk off the cotree goes along the tree, so that a closed one without spurs is one vertex.
use Rattle.move_lifting.proofs.Common.{dart_between, rotation_system, names_all, darts_of, edge_of, origin_of, twin_of, OrientedMesh, IsOrientedSurface, rotations_of, IsRotationSystem, IsDartFrom, up, up_step, tree_edge, IsOffCotree, ◌≡◌, ◌⊎◌, inl, inr, ℕ, ◌+◌, ◌-◌, ◌*◌, ◌<◌, true, false, List, [], ◌∷◌, length, get_or, refl, ap, sym, ◌∙◌, subst, arith, cases_Bool, option_map, Some, None, is_used, HasNoSpur, IsAlongTree, RankFalls, count_below, IsWalk, SplitView, IsSplit, in_tree, in_cotree, is_left, is_tree_kind, is_cotree_kind, is_left_kind, kind_of, parent_dart, StepsToParent}
use Rattle.std.specs.Prelude.{Option}
use Rattle.surf_model.proofs.TreeWalkLemmas.{one_tree_walk}
use Rattle.tree_cotree.specs.declared.split.Kind.{Kind}
use Rattle.tree_cotree.specs.declared.split.Kind.TheVariants.{Tree, Cotree, Left}
use Rattle.move_lifting.proofs.CountLemmas.{count_some}
use Rattle.move_lifting.proofs.ListLemmas.{one_no_spur}

-- an edge that is neither of the cotree nor left over is of the tree
third_kind : (kind : Kind) → is_cotree_kind kind ≡ false → is_left_kind kind ≡ false → is_tree_kind kind ≡ true
third_kind Tree a b = refl
third_kind Cotree a b = sym a
third_kind Left a b = sym b

-- the parent of a vertex
parent : OrientedMesh → SplitView → ℕ → Option ℕ
parent s split v = option_map (λ d. origin_of s (twin_of s d)) (parent_dart split v)

parent_is : (s : OrientedMesh) (split : SplitView) (v d : ℕ) → parent_dart split v ≡ Some d
    → parent s split v ≡ Some (origin_of s (twin_of s d))
unfolding parent
parent_is s split v d is = ap (λ (o : Option ℕ). option_map (λ d. origin_of s (twin_of s d)) o) is

parent_dart_of : (s : OrientedMesh) (split : SplitView) (v w : ℕ) → parent s split v ≡ Some w
    → (d : ℕ) × (parent_dart split v ≡ Some d) × (origin_of s (twin_of s d) ≡ w)
unfolding parent
parent_dart_of s split v w is = by (parent_dart split v) refl
  where
    by : (o : Option ℕ) → parent_dart split v ≡ o → (d : ℕ) × (parent_dart split v ≡ Some d) × (origin_of s (twin_of s d) ≡ w)
    by None e = (let none : None ≡ Some w = sym (ap (λ (o : Option ℕ). option_map (λ d. origin_of s (twin_of s d)) o) e) ∙ is in cc)
    by (Some d) e =
        let one : Some (origin_of s (twin_of s d)) ≡ Some w = sym (ap (λ (o : Option ℕ). option_map (λ d. origin_of s (twin_of s d)) o) e)
        ∙ is in
        let same : origin_of s (twin_of s d) ≡ w = cc in
        (d, e, same)

module _ {s : OrientedMesh} {split : SplitView} (o : IsOrientedSurface s) (t : IsSplit s split) where
  on_tree : split.genus ≡ 0 → (d : ℕ) → d < darts_of s → in_cotree split (edge_of s d) ≡ false → in_tree split (edge_of s d) ≡ true
  on_tree sphere d l off =
      let none : count_below (is_left split) (length s.table) ≡ 0 = t.genus ∙ ap (λ n. 2 * n) sphere in
      let left : is_left split (edge_of s d) ≡ false = elim (cases_Bool (is_left split (edge_of s d))) [
        | inl over ↦ absurd (let some = count_some (is_left split) (length s.table) (edge_of s d) ((names_all s o).edge_below d l) over in
            omega arith)
        | inr not ↦ not
      ] in
      third_kind (kind_of split (edge_of s d)) off left

  -- the ways up grow shorter
  rank_falls : RankFalls (parent s split) (λ v. length (up s split t v))
  rank_falls v w is =
      let found = parent_dart_of s split v w is in
      let d : ℕ = found.0 in
      let l : d < darts_of s = t.parents.within v d found.1 in
      let step : StepsToParent (rotations_of s) split v w = (d, record { is_parent = found.1; ends = found.2 }) in
      let v_used : is_used s.mesh v ≡ true =
      subst (λ (x : ℕ). is_used s.mesh x ≡ true) (t.parents.starts v d found.1) ((names_all s o).vertex_used d l) in
      let w_used : is_used s.mesh w ≡ true =
      subst (λ (x : ℕ). is_used s.mesh x ≡ true) found.2
      ((names_all s o).vertex_used (twin_of s d) ((rotation_system s o).twin_within d l)) in
      omega (arith, ap (λ (x : List ℕ). length x) (up_step s split o t v w v_used w_used step))

  -- a tree dart leads to the parent or from it
  along_dart : (u v d : ℕ) → IsDartFrom (rotations_of s) u v d
      → in_tree split (edge_of s d) ≡ true → (parent s split u ≡ Some v) ⊎ (parent s split v ≡ Some u)
  along_dart u v d from is =
      let r : IsRotationSystem (rotations_of s) = rotation_system s o in
      let found = tree_edge s split o t (edge_of s d) ((names_all s o).edge_below d from.within) is in
      let x : ℕ = found.0 in
      let p : ℕ = found.1 in
      let p_in : p < darts_of s = t.parents.within x p found.2 in
      let starts : origin_of s p ≡ x = t.parents.starts x p found.2 in
      let up_is : parent s split x ≡ Some (origin_of s (twin_of s p)) = parent_is s split x p found.2 in
      elim ((r.edges p d p_in from.within).0 found.3) [
        | inl same ↦
            let x_is : x ≡ u = sym starts ∙ ap (origin_of s) (sym same) ∙ from.starts in
            let w_is : origin_of s (twin_of s p) ≡ v = ap (λ (y : ℕ). origin_of s (twin_of s y)) (sym same) ∙ from.ends in
            inl (ap (parent s split) (sym x_is) ∙ up_is ∙ ap Some w_is)
        | inr turned ↦
            let back : twin_of s d ≡ p = ap (twin_of s) turned ∙ r.twin_back p p_in in
            let x_is : x ≡ v = sym starts ∙ ap (origin_of s) (sym back) ∙ from.ends in
            let w_is : origin_of s (twin_of s p) ≡ u = ap (origin_of s) (sym turned) ∙ from.starts in
            inr (ap (parent s split) (sym x_is) ∙ up_is ∙ ap Some w_is)
      ]

  along_tree : split.genus ≡ 0 → (walk : List ℕ) → IsWalk s.mesh walk → IsOffCotree s split walk → IsAlongTree (parent s split) walk
  along_tree sphere walk w off k l =
      let found = dart_between s o (get_or walk k 0) (get_or walk (k + 1) 0) (w.edges k (omega arith)) in
      along_dart (get_or walk k 0) (get_or walk (k + 1) 0) found.0 found.1
      (on_tree sphere found.0 found.1.within (off k found.0 l found.1))

  -- a closed walk without spurs off the cotree of a sphere is one vertex
  pub one_vertex : split.genus ≡ 0 → (walk : List ℕ) (v : ℕ) → IsWalk s.mesh walk
      → IsOffCotree s split walk → HasNoSpur walk → get_or walk 0 0 ≡ v → get_or walk (length walk - 1) 0 ≡ v → walk ≡ v ∷ []
  one_vertex sphere walk v w off no_spur starts ends =
      one_tree_walk (parent s split) (λ x. length (up s split t x)) (rank_falls) walk (v ∷ []) w.starts (omega arith)
      (along_tree sphere walk w off) (λ k l. absurd (omega arith)) no_spur (one_no_spur v)
      (record { starts = starts; ends = ends })
