-- A set of edges that spans the nodes is, from each root, that of a tree in which a dart is kept for each node: the nodes are put in one
-- after another, each across an edge of the set.
use Rattle.tree_cotree.proofs.Common.{Rotations, IsRotationSystem, ◌≡◌, ◌⊎◌, inl, inr, ℕ, zero, suc, ◌+◌, ◌-◌, ◌<◌, ◌≤◌, Bool, true, false, List, [], ◌∷◌, length, refl, ap, sym, ◌∙◌, subst, arith, set, cases_eq, both_ways, length-set, length-replicate, Option, Some, None, replicate, count_below, AreJoined, kept_at, IsStepIn, IsSpanningTree, LeadsUp, IsRooted}
use Rattle.tree_cotree.proofs.AfterLemmas.{twin_edge}
use Rattle.tree_cotree.proofs.SetLemmas.{with_one, with_itself, with_keeps, with_cases, count_with, count_few, same_from_count, some_outside}
use Rattle.tree_cotree.proofs.GrowthLemmas.{HasNodes, leaves}
use Rattle.tree_cotree.proofs.SearchLemmas.{not_both, same_some, kept_same, kept_other}
use Rattle.tree_cotree.proofs.UpwardLemmas.{joined_by}

-- a tree within the set over some of the nodes, which pass a test
record IsGrown (maps : Rotations) (node : ℕ → ℕ) (is_node : ℕ → Bool) (bound : ℕ) (tree : ℕ → Bool) (root : ℕ)
    (from : List (Option ℕ)) (nodes : ℕ → Bool) : Type 0 where
  long : length from ≡ bound
  rooted : nodes root ≡ true
  none : kept_at from root ≡ None
  within : (v x : ℕ) → kept_at from v ≡ Some x → x < maps.darts
  of_node : (v x : ℕ) → kept_at from v ≡ Some x → node x ≡ v
  inside : (v x : ℕ) → kept_at from v ≡ Some x → tree (maps.edge x) ≡ true
  listed : (v x : ℕ) → kept_at from v ≡ Some x → nodes v ≡ true
  to_root : (v : ℕ) → nodes v ≡ true → AreJoined (LeadsUp maps node from) v root
  are_nodes : (v : ℕ) → v < bound → nodes v ≡ true → is_node v ≡ true

none_kept : (n v : ℕ) → kept_at (replicate n None) v ≡ None
none_kept zero v = refl
none_kept (suc n) zero = refl
none_kept (suc n) (suc v) = none_kept n v

-- the root alone
root_grown : {maps : Rotations} {node : ℕ → ℕ} {is_node : ℕ → Bool} {bound edges : ℕ} (tree : ℕ → Bool) (root : ℕ)
    → HasNodes maps node is_node bound edges → root < maps.darts
    → IsGrown maps node is_node bound tree (node root) (replicate bound None) (with_one (λ v. false) (node root))
root_grown {node} {is_node} {bound} tree root n l = record {
  long = length-replicate bound None;
  rooted = with_itself (λ v. false) (node root);
  none = none_kept bound (node root);
  within = λ v x e. absurd (nothing v x e);
  of_node = λ v x e. absurd (nothing v x e);
  inside = λ v x e. absurd (nothing v x e);
  listed = λ v x e. absurd (nothing v x e);
  to_root = λ v is. ([], alone v is);
  are_nodes = λ v b is. subst (λ u. is_node u ≡ true) (sym (alone v is)) (n.is_of_dart root l);
}
  where
    nothing : (v x : ℕ) → kept_at (replicate bound None) v ≡ Some x → ⊥
    nothing v x e = not_both (kept_at (replicate bound None) v) x e (none_kept bound v)

    alone : (v : ℕ) → with_one (λ v. false) (node root) v ≡ true → v ≡ node root
    alone v is = elim (with_cases (λ v. false) (node root) v is) [
      | inl same ↦ same
      | inr never ↦ absurd (both_ways false refl never)
    ]

-- one node more, across a dart of the set that leads out of the nodes
one_more : {maps : Rotations} {node : ℕ → ℕ} {is_node : ℕ → Bool} {bound edges : ℕ} {tree : ℕ → Bool} {root : ℕ}
    {from : List (Option ℕ)} {nodes : ℕ → Bool} (d : ℕ)
    → IsRotationSystem maps → HasNodes maps node is_node bound edges → IsGrown maps node is_node bound tree root from nodes
    → d < maps.darts → tree (maps.edge d) ≡ true → nodes (node d) ≡ true → nodes (node (maps.twin d)) ≡ false
    → IsGrown maps node is_node bound tree root (set from (node (maps.twin d)) (Some (maps.twin d))) (with_one nodes (node (maps.twin d)))
one_more {maps} {node} {is_node} {tree} {root} {from} {nodes} d r n h d_in in_set inner outer = record {
  long = length-set from new (Some twin) ∙ h.long;
  rooted = with_keeps nodes new root h.rooted;
  none = kept_other from new root twin (λ e. both_ways (nodes new) outer (subst (λ v. nodes v ≡ true) e h.rooted)) ∙ h.none;
  within = λ v x e. elim (kept_now v x e) [ inl last ↦ subst (λ y. y < maps.darts) (sym last.1) twin_in | inr old ↦ h.within v x old ];
  of_node = λ v x e. elim (kept_now v x e) [ inl last ↦ ap node last.1 ∙ sym last.0 | inr old ↦ h.of_node v x old ];
  inside = λ v x e. elim (kept_now v x e) [
    | inl last ↦ ap (λ y. tree (maps.edge y)) last.1 ∙ ap tree (sym (twin_edge maps r d d_in)) ∙ in_set
    | inr old ↦ h.inside v x old
  ];
  listed = λ v x e. elim (kept_now v x e) [
    | inl last ↦ subst (λ u. with_one nodes new u ≡ true) (sym last.0) (with_itself nodes new)
    | inr old ↦ with_keeps nodes new v (h.listed v x old)
  ];
  to_root = λ v is. elim (with_cases nodes new v is) [
    | inl last ↦
        let rest : AreJoined (LeadsUp maps node kept) (node d) root = still (node d) inner in (
          node d ∷ rest.0,
          (
            (twin, ap (kept_at kept) last ∙ kept_same from new twin new_in, ap node (r.twin_back d d_in)),
            rest.1,
          ),
        )
    | inr before ↦ still v before
  ];
  are_nodes = λ v b is. elim (with_cases nodes new v is) [
    | inl last ↦ subst (λ u. is_node u ≡ true) (sym last) (n.is_of_dart twin twin_in)
    | inr before ↦ h.are_nodes v b before
  ];
}
  where
    twin : ℕ
    twin = maps.twin d

    new : ℕ
    new = node (maps.twin d)

    kept : List (Option ℕ)
    kept = set from (node (maps.twin d)) (Some (maps.twin d))

    twin_in : maps.twin d < maps.darts
    twin_in = r.twin_within d d_in

    new_in : node (maps.twin d) < length from
    new_in = subst (λ m. node (maps.twin d) < m) (sym h.long) (n.node_within (maps.twin d) twin_in)

    kept_now : (v x : ℕ) → kept_at kept v ≡ Some x → ((v ≡ new) × (x ≡ twin)) ⊎ (kept_at from v ≡ Some x)
    kept_now v x e = elim (cases_eq v new) [
      | inl last ↦ inl (last, same_some (kept_at kept v) x twin e (ap (kept_at kept) last ∙ kept_same from new twin new_in))
      | inr other ↦ inr (sym (kept_other from new v twin other) ∙ e)
    ]

    still : (v : ℕ) → nodes v ≡ true → AreJoined (LeadsUp maps node kept) v root
    still v is = joined_by (LeadsUp maps node from) (LeadsUp maps node kept) (λ u w step. (
      step.0,
      kept_other from new u twin (λ e. both_ways (nodes new) outer (subst (λ y. nodes y ≡ true) e (h.listed u step.0 step.1))) ∙ step.1,
      step.2,
    )) v root (h.to_root v is)

-- all nodes, one after another
grow_all : {maps : Rotations} {node : ℕ → ℕ} {is_node : ℕ → Bool} {bound edges : ℕ} {tree : ℕ → Bool} (root : ℕ)
    → IsRotationSystem maps → HasNodes maps node is_node bound edges → IsSpanningTree maps node is_node bound edges tree
    → root < maps.darts
    → (left : ℕ) {from : List (Option ℕ)} {nodes : ℕ → Bool} → count_below nodes bound + left ≡ count_below is_node bound
    → IsGrown maps node is_node bound tree (node root) from nodes
    → (kept : List (Option ℕ)) × IsRooted maps node tree bound (node root) kept
grow_all {node} {is_node} {bound} root r n t root_in zero {from} {nodes} count h =
    let all : (v : ℕ) → v < bound → nodes v ≡ is_node v = same_from_count nodes is_node bound h.are_nodes (omega arith) in grind arith
grow_all {maps} {node} {is_node} {bound} {tree} root r n t root_in (suc left) {nodes} count h =
    elim (some_outside nodes is_node bound) [
      | inr none ↦
          let few : count_below is_node bound ≤ count_below nodes bound = count_few is_node nodes bound none in
          absurd (omega arith)
      | inl out ↦
          let there = n.has_dart out.0 out.1 out.2 in
          let path = t.joins root there.0 root_in there.1 in
          let missed : nodes (node there.0) ≡ false = subst (λ (v : ℕ). nodes v ≡ false) (sym there.2) out.3 in
          let step = leaves nodes path.0 (node root) (node there.0) path.1 h.rooted missed in
          let d : ℕ = step.2.0 in
          let is : IsStepIn maps node tree step.0 step.1 d = step.2.1 in
          let inner : nodes (node d) ≡ true = subst (λ (v : ℕ). nodes v ≡ true) (sym is.starts) step.3 in
          let outer : nodes (node (maps.twin d)) ≡ false = subst (λ (v : ℕ). nodes v ≡ false) (sym is.ends) step.4 in
          let v : ℕ = node (maps.twin d) in
          let more : count_below (with_one nodes v) bound ≡ suc (count_below nodes bound) =
          count_with nodes bound v (n.node_within (maps.twin d) (r.twin_within d is.within)) outer in
          grow_all root r n t root_in left (omega (arith, count, more)) (one_more d r n h is.within is.in_set inner outer)
    ]

-- a set that spans the nodes has, from each root, a tree within it
pub rooted_within : {maps : Rotations} {node : ℕ → ℕ} {is_node : ℕ → Bool} {bound edges : ℕ} {tree : ℕ → Bool} (root : ℕ)
    → IsRotationSystem maps → HasNodes maps node is_node bound edges → IsSpanningTree maps node is_node bound edges tree
    → root < maps.darts
    → (kept : List (Option ℕ)) × IsRooted maps node tree bound (node root) kept
rooted_within {maps} {node} {is_node} {bound} {tree} root r n t root_in =
    let start : IsGrown maps node is_node bound tree (node root) (replicate bound None) (with_one (λ v. false) (node root)) =
    root_grown tree root n root_in in
    let few : count_below (with_one (λ v. false) (node root)) bound ≤ count_below is_node bound = grind (arith, count_few) in
    grow_all root r n t root_in (count_below is_node bound - count_below (with_one (λ v. false) (node root)) bound)
    (omega (arith, few)) start
