-- The way up the tree from each vertex, and that each tree edge is that of a dart to a parent.
use Rattle.polygon_cut.proofs.Common.{edge_of_dart, rotation_system, names_all, darts_of, OrientedMesh, IsOrientedSurface, Rotations, rotations_of, IsRotationSystem, ◌≡◌, ◌≢◌, ◌⊎◌, inl, inr, ℕ, zero, suc, ◌+◌, ◌<◌, Bool, true, false, ◌||◌, eqb, cond, List, [], ◌∷◌, length, refl, ap, sym, ◌∙◌, subst, arith, cases_Bool, both_ways, eqb-true, eq-eqb, or_right, common_steps, IsTrue, Option, Some, None, is_used, is_edge, count_below, IsPath, found_below, count_same, count_less, count_none, same_from_count, root_below, parents_upward, single_path, any_below, SplitView, IsSplit, in_tree, parent_dart, StepsToParent}
use Rattle.std.proofs.Math.Bool.{or-false}
use Rattle.polygon_cut.proofs.WayLemmas.{IsWay, HasWays}

pub one_path : (s : OrientedMesh) (split : SplitView) → IsOrientedSurface s → (t : IsSplit s split) → (v : ℕ) (path other : List ℕ)
    → IsPath (StepsToParent (rotations_of s) split) v path t.parents.root
    → IsPath (StepsToParent (rotations_of s) split) v other t.parents.root → path ≡ other
one_path s split o t = single_path (StepsToParent (rotations_of s) split) t.parents.root (parents_upward s split o t)

-- the way up, for used vertices
pub pick : {s : OrientedMesh} {split : SplitView} (t : IsSplit s split) (v : ℕ) → (is_used s.mesh v ≡ true) ⊎ (is_used s.mesh v ≡ false)
    → List ℕ
pick t v (inl used) = (t.parents.to_root v used).0
pick t v (inr _) = []

abbrev pub up : (s : OrientedMesh) (split : SplitView) → IsSplit s split → ℕ → List ℕ
up s split t v = pick t v (cases_Bool (is_used s.mesh v))

pub up_path : (s : OrientedMesh) (split : SplitView) (t : IsSplit s split) (v : ℕ) → is_used s.mesh v ≡ true
    → IsPath (StepsToParent (rotations_of s) split) v (up s split t v) t.parents.root
unfolding pick
up_path s split t v used = go (cases_Bool (is_used s.mesh v))
  where
    go : (c : (is_used s.mesh v ≡ true) ⊎ (is_used s.mesh v ≡ false))
        → IsPath (StepsToParent (rotations_of s) split) v (pick t v c) t.parents.root
    go (inl u) = (t.parents.to_root v u).1
    go (inr off) = absurd (both_ways (is_used s.mesh v) off used)

parent_edge : {s : OrientedMesh} {split : SplitView} → IsOrientedSurface s → (t : IsSplit s split) → (v w : ℕ)
    → StepsToParent (rotations_of s) split v w → IsTrue (is_edge s.mesh v w)
parent_edge {s} o t v w p =
    edge_of_dart s o v w p.0 (record {
      within = t.parents.within v p.0 p.1.is_parent;
      starts = t.parents.starts v p.0 p.1.is_parent;
      ends = p.1.ends;
    })

path_way : {s : OrientedMesh} {split : SplitView} → IsOrientedSurface s → (t : IsSplit s split) → (v : ℕ) (path : List ℕ)
    → IsPath (StepsToParent (rotations_of s) split) v path t.parents.root → IsWay s.mesh v t.parents.root path
path_way {s} o t v [] p = (p, subst (λ x. IsTrue (is_used s.mesh x)) (sym p) t.parents.root_used)
path_way o t v (w ∷ path) p = (parent_edge o t v w p.0, path_way o t w path p.1)

pub tree_ways : (s : OrientedMesh) (split : SplitView) → IsOrientedSurface s → (t : IsSplit s split)
    → HasWays s.mesh t.parents.root (up s split t)
tree_ways s split o t = record {
  root_used = t.parents.root_used;
  way = λ v used. path_way o t v (up s split t v) (up_path s split t v used);
}

-- from a vertex with a parent the way up begins with that parent
pub up_step : (s : OrientedMesh) (split : SplitView) → IsOrientedSurface s → (t : IsSplit s split) → (v w : ℕ) → is_used s.mesh v ≡ true
    → is_used s.mesh w ≡ true
    → StepsToParent (rotations_of s) split v w → up s split t v ≡ w ∷ up s split t w
up_step s split o t v w v_used w_used p =
    one_path s split o t v (up s split t v) (w ∷ up s split t w) (up_path s split t v v_used) (p, up_path s split t w w_used)

-- The edges of the parent darts are as many as the used vertices but one.

hits : Option ℕ → ℕ → Bool
hits None e = false
hits (Some x) e = eqb x e

is_some : Option ℕ → Bool
is_some None = false
is_some (Some x) = true

hit_is : (o : Option ℕ) (e : ℕ) → hits o e ≡ true → o ≡ Some e
unfolding hits
hit_is None e h = absurd (both_ways false refl h)
hit_is (Some x) e h = ap Some (eqb-true x e h)

is_hit : (o : Option ℕ) (e : ℕ) → o ≡ Some e → hits o e ≡ true
unfolding hits
is_hit None e h = cc
is_hit (Some x) e h = eq-eqb x e (let same : x ≡ e = cc in same)

-- a map that takes no two numbers to one has as many values as there are numbers at which it has any
image_count : (f : ℕ → Option ℕ) (bound : ℕ) → ((v e : ℕ) → f v ≡ Some e → e < bound) → (n : ℕ)
    → ((v w e : ℕ) → v < n → w < n → f v ≡ Some e → f w ≡ Some e → v ≡ w)
    → count_below (λ e. any_below (λ v. hits (f v) e) n) bound ≡ count_below (λ v. is_some (f v)) n
unfolding is_some hits
image_count f bound below zero once = count_none bound
image_count f bound below (suc n) once =
    go (f n) refl (image_count f bound below n (λ v w e l k. once v w e (omega arith) (omega arith)))
  where
    new : ℕ → Bool
    new e = any_below (λ v. hits (f v) e) (suc n)

    old : ℕ → Bool
    old e = any_below (λ v. hits (f v) e) n

    go : (o : Option ℕ) → f n ≡ o → count_below old bound ≡ count_below (λ v. is_some (f v)) n
        → count_below new bound ≡ count_below (λ v. is_some (f v)) (suc n)
    go None is before =
        let count : count_below (λ v. is_some (f v)) (suc n) ≡ count_below (λ v. is_some (f v)) n + 0 =
        ap (λ o. count_below (λ v. is_some (f v)) n + cond (is_some o) 1 0) is in
        let same : count_below new bound ≡ count_below old bound =
        count_same new old bound (λ e l. ap (λ o. old e || hits o e) is ∙ or-false (old e)) in
        omega (arith, count, same, before)
    go (Some x) is before =
        let count : count_below (λ v. is_some (f v)) (suc n) ≡ count_below (λ v. is_some (f v)) n + 1 =
        ap (λ o. count_below (λ v. is_some (f v)) n + cond (is_some o) 1 0) is in
        let fresh : old x ≡ false = elim (cases_Bool (old x)) [
          | inr off ↦ off
          | inl there ↦
              let found = found_below (λ v. hits (f v) x) n there in
              let same : found.0 ≡ n = once found.0 n x (omega (arith, found.1)) (omega arith) (hit_is (f found.0) x found.2) is in
              absurd (omega (arith, found.1, same))
        ] in
        let here : new x ≡ true = or_right (old x) (hits (f n) x) (is_hit (f n) x is) in
        let other : (e : ℕ) → e < bound → e ≢ x → new e ≡ old e = λ e l ne.
        let off : hits (f n) e ≡ false = elim (cases_Bool (hits (f n) e)) [
          | inr none ↦ none
          | inl hit ↦ absurd (ne (let both : Some x ≡ Some e = sym is ∙ hit_is (f n) e hit in let same : x ≡ e = cc in sym same))
        ] in
        ap (λ b. old e || b) off ∙ or-false (old e) in
        let more : count_below new bound ≡ suc (count_below old bound) = count_less new old bound x (below n x is) here fresh other in
        omega (arith, count, more, before)

-- the edge of the dart to a parent
edge_up : (s : OrientedMesh) (split : SplitView) → ℕ → Option ℕ
edge_up s split v = go (parent_dart split v)
  where
    go : Option ℕ → Option ℕ
    go None = None
    go (Some d) = Some ((rotations_of s).edge d)

edge_up_is : (s : OrientedMesh) (split : SplitView) (v e : ℕ) → edge_up s split v ≡ Some e
    → (d : ℕ) × (parent_dart split v ≡ Some d) × ((rotations_of s).edge d ≡ e)
unfolding edge_up
edge_up_is s split v e h = by (parent_dart split v) refl h
  where
    by : (o : Option ℕ) → parent_dart split v ≡ o → edge_up s split v ≡ Some e
        → (d : ℕ) × (parent_dart split v ≡ Some d) × ((rotations_of s).edge d ≡ e)
    by None is k = (let none : None ≡ Some e = rw is at k in cc)
    by (Some d) is k = (let one : Some ((rotations_of s).edge d) ≡ Some e = rw is at k in let same : (rotations_of s).edge d
        ≡ e = cc in (d, is, same))

-- a dart to a parent leads from a vertex to its parent
parent_step : (s : OrientedMesh) (split : SplitView) (v d : ℕ) → parent_dart split v ≡ Some d
    → StepsToParent (rotations_of s) split v ((rotations_of s).origin ((rotations_of s).twin d))
parent_step s split v d is = (d, record { is_parent = is; ends = refl })

used_at : {s : OrientedMesh} {split : SplitView} → IsOrientedSurface s → (t : IsSplit s split) → (v d : ℕ) → parent_dart split v ≡ Some d
    → is_used s.mesh v ≡ true
used_at {s} o t v d is = grind (arith, common_steps, names_all)

-- no two vertices have darts to parents along one edge
up_once : {s : OrientedMesh} {split : SplitView} → IsOrientedSurface s → (t : IsSplit s split) → (v w e : ℕ) → edge_up s split v ≡ Some e
    → edge_up s split w ≡ Some e → v ≡ w
up_once {s} {split} o t v w e p q =
    let maps : Rotations = rotations_of s in
    let r : IsRotationSystem maps = rotation_system s o in
    let a = edge_up_is s split v e p in
    let b = edge_up_is s split w e q in
    let a_in : a.0 < darts_of s = t.parents.within v a.0 a.1 in
    let b_in : b.0 < darts_of s = t.parents.within w b.0 b.1 in
    elim ((r.edges a.0 b.0 a_in b_in).0 (a.2 ∙ sym b.2)) [
      | inl same ↦ sym (t.parents.starts v a.0 a.1) ∙ ap maps.origin (sym same) ∙ t.parents.starts w b.0 b.1
      | inr turned ↦
          let w_is : maps.origin (maps.twin a.0) ≡ w = ap maps.origin (sym turned) ∙ t.parents.starts w b.0 b.1 in
          let v_is : maps.origin (maps.twin b.0) ≡ v = grind arith in
          let v_used : is_used s.mesh v ≡ true = used_at o t v a.0 a.1 in
          let w_used : is_used s.mesh w ≡ true = used_at o t w b.0 b.1 in
          let to_w : StepsToParent maps split v w = (a.0, record { is_parent = a.1; ends = w_is }) in
          let to_v : StepsToParent maps split w v = (b.0, record { is_parent = b.1; ends = v_is }) in
          let first : up s split t v ≡ w ∷ up s split t w = up_step s split o t v w v_used w_used to_w in
          let second : up s split t w ≡ v ∷ up s split t v = up_step s split o t w v w_used v_used to_v in
          let long : length (up s split t v) ≡ length (w ∷ v ∷ up s split t v) =
          ap (λ (l : List ℕ). length l) (first ∙ ap (λ (l : List ℕ). w ∷ l) second) in
          absurd (omega (arith, long))
    ]

-- the vertices with a parent are the used ones but the root
has_parent : {s : OrientedMesh} {split : SplitView} → IsOrientedSurface s → (t : IsSplit s split)
    → count_below (λ v. is_some (edge_up s split v)) s.mesh.count + 1 ≡ count_below (is_used s.mesh) s.mesh.count
unfolding is_some edge_up
has_parent {s} {split} o t =
    let less : count_below (is_used s.mesh) s.mesh.count ≡ suc (count_below (λ v. is_some (edge_up s split v)) s.mesh.count) =
    count_less (is_used s.mesh) (λ v. is_some (edge_up s split v)) s.mesh.count t.parents.root (root_below s split o t) t.parents.root_used
    at_root others in
    omega (arith, less)
  where
    at_root : is_some (edge_up s split t.parents.root) ≡ false
    at_root = let none : parent_dart split t.parents.root ≡ None =
        (t.parents.none t.parents.root (root_below s split o t)).1 (inl refl) in rw none refl

    others : (v : ℕ) → v < s.mesh.count → v ≢ t.parents.root → is_used s.mesh v ≡ is_some (edge_up s split v)
    others v l ne = by (parent_dart split v) refl
      where
        by : (p : Option ℕ) → parent_dart split v ≡ p → is_used s.mesh v ≡ is_some (edge_up s split v)
        by None is =
            let off : is_used s.mesh v ≡ false = elim ((t.parents.none v l).0 is) [ inl root ↦ absurd (ne root) | inr unused ↦ unused ] in
            off ∙ sym (rw is refl)
        by (Some d) is = used_at o t v d is ∙ sym (rw is refl)

-- each tree edge is that of a dart to a parent
pub tree_edge : (s : OrientedMesh) (split : SplitView) → IsOrientedSurface s → (t : IsSplit s split) → (e : ℕ) → e < length s.table
    → in_tree split e ≡ true
    → (v : ℕ) × (d : ℕ) × (parent_dart split v ≡ Some d) × ((rotations_of s).edge d ≡ e)
tree_edge s split o t e l is =
    let image : ℕ → Bool = λ x. any_below (λ v. hits (edge_up s split v) x) s.mesh.count in
    let size : count_below image (length s.table) ≡ count_below (λ v. is_some (edge_up s split v)) s.mesh.count =
    image_count (edge_up s split) (length s.table) (λ v x p. (let a = edge_up_is s split v x p in subst (λ y. y < length s.table) a.2
    ((names_all s o).edge_below a.0 (t.parents.within v a.0 a.1)))) s.mesh.count (λ v w x _ _ p q. up_once o t v w x p q) in
    let same : image e ≡ in_tree split e = same_from_count image (in_tree split) (length s.table) (λ x _ hit.
    let found = found_below (λ v. hits (edge_up s split v) x) s.mesh.count hit in
    let a = edge_up_is s split found.0 x (hit_is (edge_up s split found.0) x found.2) in
    subst (λ y. in_tree split y ≡ true) a.2 (t.parents.tree_dart found.0 a.0 a.1))
    (omega (arith, size, has_parent o t, t.trees.tree.count)) e l in
    let found = found_below (λ v. hits (edge_up s split v) e) s.mesh.count (same ∙ is) in
    let a = edge_up_is s split found.0 e (hit_is (edge_up s split found.0) e found.2) in
    (found.0, a.0, a.1, a.2)

-- a dart of the tree, or its twin, leads to a parent
pub tree_dart : {s : OrientedMesh} {split : SplitView} → IsOrientedSurface s → (t : IsSplit s split) → (d : ℕ) → d < darts_of s
    → in_tree split ((rotations_of s).edge d) ≡ true
    → (up s split t ((rotations_of s).origin d) ≡ (rotations_of s).origin ((rotations_of s).twin d) ∷ up s split t
    ((rotations_of s).origin ((rotations_of s).twin d)))
    ⊎ (up s split t ((rotations_of s).origin ((rotations_of s).twin d)) ≡ (rotations_of s).origin d ∷ up s split t
    ((rotations_of s).origin d))
tree_dart {s} {split} o t d l is =
    let maps : Rotations = rotations_of s in
    let r : IsRotationSystem maps = rotation_system s o in
    let found = tree_edge s split o t (maps.edge d) ((names_all s o).edge_below d l) is in
    let v : ℕ = found.0 in
    let p : ℕ = found.1 in
    let p_in : p < darts_of s = t.parents.within v p found.2 in
    let step : StepsToParent maps split v (maps.origin (maps.twin p)) = parent_step s split v p found.2 in
    let v_is : maps.origin p ≡ v = t.parents.starts v p found.2 in
    let way : up s split t (maps.origin p) ≡ maps.origin (maps.twin p) ∷ up s split t (maps.origin (maps.twin p)) =
    subst (λ x. up s split t x ≡ maps.origin (maps.twin p) ∷ up s split t (maps.origin (maps.twin p))) (sym v_is)
    (up_step s split o t v (maps.origin (maps.twin p)) (used_at o t v p found.2)
    ((names_all s o).vertex_used (maps.twin p) (r.twin_within p p_in)) step) in
    elim ((r.edges p d p_in l).0 found.3) [
      | inl same ↦ inl (subst (λ x. up s split t (maps.origin x) ≡ maps.origin (maps.twin x) ∷ up s split t (maps.origin (maps.twin x)))
          (sym same) way)
      | inr turned ↦
          let back : maps.twin d ≡ p = ap maps.twin turned ∙ r.twin_back p p_in in
          inr (subst (λ x. up s split t (maps.origin x) ≡ maps.origin d ∷ up s split t (maps.origin d)) (sym back)
          (subst (λ x. up s split t (maps.origin p) ≡ maps.origin x ∷ up s split t (maps.origin x)) (sym turned) way))
    ]
