-- A spanning tree put in edge after edge, each bringing a new node: at its end there is one ring. Of the tree the rings begin as
-- the vertices, and each edge is put in; of the cotree they begin as the faces, and each edge is taken out.
use Rattle.tree_cotree.proofs.Common.{IsPermutationBelow, IsReached, Rotations, IsRotationSystem, ◌≡◌, ◌≢◌, ◌⊎◌, inl, inr, ℕ, zero, suc, ◌+◌, ◌-◌, ◌<◌, ◌≤◌, Bool, true, false, not, List, [], ◌∷◌, refl, ap, sym, ◌∙◌, subst, arith, cases_Bool, both_ways, count_below, IsPath, exchanged, after_dart, IsStepIn, IsSpanningTree}
use Rattle.tree_cotree.proofs.ExchangeLemmas.{IsOnMerged, joins_rings, exchanged_permutes}
use Rattle.tree_cotree.proofs.SetLemmas.{with_one, with_itself, with_other, with_keeps, with_cases, count_with, count_few, same_from_count, some_outside}
use Rattle.tree_cotree.proofs.AfterLemmas.{after_permutes, after_agrees, after_exchanges, DifferAt, reached_same}
use Rattle.tree_cotree.proofs.ClassLemmas.{count_none}

-- the nodes of the darts, and the edges, as numbers below bounds
pub record HasNodes (maps : Rotations) (node : ℕ → ℕ) (is_node : ℕ → Bool) (bound edges : ℕ) : Type 0 where
  pub edge_within : (d : ℕ) → d < maps.darts → maps.edge d < edges
  pub node_within : (d : ℕ) → d < maps.darts → node d < bound
  pub is_of_dart : (d : ℕ) → d < maps.darts → is_node (node d) ≡ true
  pub has_dart : (v : ℕ) → v < bound → is_node v ≡ true → (d : ℕ) × (d < maps.darts) × (node d ≡ v)

-- along a path that leaves a set some step leads out of it
pub leaves : {step : ℕ → ℕ → Type 0} (set : ℕ → Bool) (path : List ℕ) (u v : ℕ) → IsPath step u path v → set u ≡ true → set v ≡ false
    → (a : ℕ) × (b : ℕ) × (step a b) × (set a ≡ true) × (set b ≡ false)
leaves set [] u v e h k = absurd (both_ways (set v) k (subst (λ (x : ℕ). set x ≡ true) e h))
leaves set (w ∷ path) u v p h k = elim (cases_Bool (set w)) [
  | inl still ↦ leaves set path w v p.1 still k
  | inr out ↦ (u, w, p.0, h, out)
]

-- how far the tree has grown: the nodes reached make one ring, each other node one of its own
record Grown (maps : Rotations) (node : ℕ → ℕ) (is_node : ℕ → Bool) (bound edges : ℕ) (shape : Bool → Bool)
    (tree set nodes : ℕ → Bool) : Type 0 where
  within_tree : (e : ℕ) → e < edges → set e ≡ true → tree e ≡ true
  ends : (d : ℕ) → d < maps.darts → set (maps.edge d) ≡ true → nodes (node d) ≡ true
  are_nodes : (v : ℕ) → v < bound → nodes v ≡ true → is_node v ≡ true
  count : count_below set edges + 1 ≡ count_below nodes bound
  to_node : (x y : ℕ) → x < maps.darts → y < maps.darts → IsReached (after_dart maps (λ e. shape (set e))) x y
      → (node x ≡ node y) ⊎ ((nodes (node x) ≡ true) × (nodes (node y) ≡ true))
  from_node : (x y : ℕ) → x < maps.darts → y < maps.darts → (node x ≡ node y) ⊎ ((nodes (node x) ≡ true) × (nodes (node y) ≡ true))
      → IsReached (after_dart maps (λ e. shape (set e))) x y

-- one edge more: from a dart that leads out of the nodes reached
grow : {maps : Rotations} {node : ℕ → ℕ} {is_node : ℕ → Bool} {bound edges : ℕ} {shape : Bool → Bool} {tree set nodes : ℕ → Bool}
    → IsRotationSystem maps → HasNodes maps node is_node bound edges → shape true ≡ not (shape false)
    → Grown maps node is_node bound edges shape tree set nodes
    → (d : ℕ) → d < maps.darts → tree (maps.edge d) ≡ true → nodes (node d) ≡ false → nodes (node (maps.twin d)) ≡ true
    → Grown maps node is_node bound edges shape tree (with_one set (maps.edge d)) (with_one nodes (node d))
grow {maps} {node} {is_node} {bound} {edges} {shape} {tree} {set} {nodes} r h turned g d l chosen out inner =
    record {
      within_tree = λ e e_in is. grind (arith, with_cases);
      ends = λ x x_in is. grind (arith, with_cases, with_itself, with_keeps);
      are_nodes = λ v v_in is. elim (with_cases nodes (node d) v is) [
        | inl same ↦ subst (λ (x : ℕ). is_node x ≡ true) (sym same) (h.is_of_dart d l)
        | inr old ↦ g.are_nodes v v_in old
      ];
      count = grind (arith, count_with);
      to_node = λ x y x_in y_in reached. sort x y x_in y_in ((joins_rings d twin p l twin_in apart off x y x_in y_in).0
          (reached_same old_exchanged new_p (λ z z_in. sym (moved z z_in)) x_in reached));
      from_node = λ x y x_in y_in is. reached_same new exchanged_p moved x_in
          ((joins_rings d twin p l twin_in apart off x y x_in y_in).1 (merge x y x_in y_in is));
    }
  where
    n : ℕ
    n = maps.darts

    edge : ℕ
    edge = maps.edge d

    twin : ℕ
    twin = maps.twin d

    twin_in : twin < maps.darts
    twin_in = r.twin_within d l

    f : ℕ → ℕ
    f = after_dart maps (λ e. shape (set e))

    new : ℕ → ℕ
    new = after_dart maps (λ e. shape (with_one set edge e))

    old_exchanged : ℕ → ℕ
    old_exchanged = exchanged f d twin

    p : IsPermutationBelow maps.darts f
    p = after_permutes maps r (λ e. shape (set e))

    new_p : IsPermutationBelow maps.darts new
    new_p = after_permutes maps r (λ e. shape (with_one set edge e))

    apart : d ≢ twin
    apart e = r.twin_other d l (sym e)

    exchanged_p : IsPermutationBelow maps.darts old_exchanged
    exchanged_p = exchanged_permutes d twin p l twin_in apart

    fresh : set edge ≡ false
    fresh = elim (cases_Bool (set edge)) [
      | inl is ↦ absurd (both_ways (nodes (node d)) out (g.ends d l is))
      | inr is ↦ is
    ]

    differ : DifferAt (λ e. shape (set e)) (λ e. shape (with_one set edge e)) edge
    differ = record {
      there = ap shape (with_itself set edge) ∙ turned ∙ ap (λ (b : Bool). not (shape b)) (sym fresh);
      elsewhere = λ x ne. ap shape (with_other set edge x ne);
    }

    moved : (z : ℕ) → z < maps.darts → old_exchanged z ≡ new z
    moved z z_in = after_exchanges r d l differ z z_in

    off : IsReached f d twin → ⊥
    off reached = elim (g.to_node d twin l twin_in reached) [
      | inl same ↦ both_ways (nodes (node d)) out (subst (λ (v : ℕ). nodes v ≡ true) (sym same) inner)
      | inr both ↦ both_ways (nodes (node d)) out both.0
    ]

    -- on the ring of the new node stands that node alone
    at_new : (x : ℕ) → x < maps.darts → IsReached f x d → node x ≡ node d
    at_new x x_in reached = elim (g.to_node x d x_in l reached) [
      | inl same ↦ same
      | inr both ↦ absurd (both_ways (nodes (node d)) out both.1)
    ]

    at_old : (x : ℕ) → x < maps.darts → IsReached f x twin → nodes (node x) ≡ true
    at_old x x_in reached = elim (g.to_node x twin x_in twin_in reached) [
      | inl same ↦ subst (λ (v : ℕ). nodes v ≡ true) (sym same) inner
      | inr both ↦ both.0
    ]

    is_new : (x : ℕ) → node x ≡ node d → with_one nodes (node d) (node x) ≡ true
    is_new x same = subst (λ (v : ℕ). with_one nodes (node d) v ≡ true) (sym same) (with_itself nodes (node d))

    sort : (x y : ℕ) → x < maps.darts → y < maps.darts → IsOnMerged f d twin x y
        → (node x ≡ node y) ⊎ ((with_one nodes (node d) (node x) ≡ true) × (with_one nodes (node d) (node y) ≡ true))
    sort x y x_in y_in m = elim m [
      | inl reached ↦ elim (g.to_node x y x_in y_in reached) [
        | inl same ↦ inl same
        | inr both ↦ inr (with_keeps nodes (node d) (node x) both.0, with_keeps nodes (node d) (node y) both.1)
      ]
      | inr crossed ↦ elim crossed [
        | inl c ↦ inr (is_new x (at_new x x_in c.0), with_keeps nodes (node d) (node y) (at_old y y_in c.1))
        | inr c ↦ inr (with_keeps nodes (node d) (node x) (at_old x x_in c.0), is_new y (at_new y y_in c.1))
      ]
    ]

    to_new : (x : ℕ) → x < maps.darts → node x ≡ node d → IsReached f x d
    to_new x x_in same = g.from_node x d x_in l (inl same)

    to_old : (x : ℕ) → x < maps.darts → nodes (node x) ≡ true → IsReached f x twin
    to_old x x_in is = g.from_node x twin x_in twin_in (inr (is, inner))

    merge : (x y : ℕ) → x < maps.darts → y < maps.darts → (node x ≡ node y)
        ⊎ ((with_one nodes (node d) (node x) ≡ true) × (with_one nodes (node d) (node y) ≡ true))
        → IsOnMerged f d twin x y
    merge x y x_in y_in is = elim is [
      | inl same ↦ inl (g.from_node x y x_in y_in (inl same))
      | inr both ↦ elim (with_cases nodes (node d) (node x) both.0) [
        | inl x_new ↦ elim (with_cases nodes (node d) (node y) both.1) [
          | inl y_new ↦ inl (g.from_node x y x_in y_in (inl (x_new ∙ sym y_new)))
          | inr y_old ↦ inr (inl (to_new x x_in x_new, to_old y y_in y_old))
        ]
        | inr x_old ↦ elim (with_cases nodes (node d) (node y) both.1) [
          | inl y_new ↦ inr (inr (to_old x x_in x_old, to_new y y_in y_new))
          | inr y_old ↦ inl (g.from_node x y x_in y_in (inr (x_old, y_old)))
        ]
      ]
    ]

-- grown to the end
grown_up : {maps : Rotations} {node : ℕ → ℕ} {is_node : ℕ → Bool} {bound edges : ℕ} {shape : Bool → Bool} {tree : ℕ → Bool}
    → IsRotationSystem maps → HasNodes maps node is_node bound edges → shape true ≡ not (shape false)
    → IsSpanningTree maps node is_node bound edges tree → (root : ℕ) → root < maps.darts
    → (left : ℕ) {set nodes : ℕ → Bool} → nodes (node root) ≡ true → count_below nodes bound + left ≡ count_below is_node bound
    → Grown maps node is_node bound edges shape tree set nodes
    → (x y : ℕ) → x < maps.darts → y < maps.darts → IsReached (after_dart maps (λ e. shape (tree e))) x y
grown_up {maps} {node} {is_node} {bound} {edges} {shape} {tree} r h turned t root root_in zero {set} {nodes} rooted count g x y x_in y_in =
    let all : (v : ℕ) → v < bound → nodes v ≡ is_node v = same_from_count nodes is_node bound g.are_nodes (omega arith) in
    let met : (z : ℕ) → z < maps.darts → nodes (node z) ≡ true = λ z z_in. all (node z) (h.node_within z z_in) ∙ h.is_of_dart z z_in in
    let whole : (e : ℕ) → e < edges → set e ≡ tree e = same_from_count set tree edges g.within_tree (omega (arith, g.count, t.count)) in
    let same : (z : ℕ) → z < maps.darts → after_dart maps (λ e. shape (set e)) z ≡ after_dart maps (λ e. shape (tree e)) z =
    λ z z_in. after_agrees maps (λ e. shape (set e)) (λ e. shape (tree e)) z (ap shape (whole (maps.edge z) (h.edge_within z z_in))) in
    reached_same (after_dart maps (λ e. shape (tree e))) (after_permutes maps r (λ e. shape (set e))) same x_in
    (g.from_node x y x_in y_in (inr (met x x_in, met y y_in)))
grown_up {maps} {node} {is_node} {bound} {tree} r h turned t root root_in (suc left) {nodes} rooted count g x y x_in y_in =
    elim (some_outside nodes is_node bound) [
      | inr none ↦ grind (arith, count_few)
      | inl out ↦
          let there = h.has_dart out.0 out.1 out.2 in
          let path = t.joins root there.0 root_in there.1 in
          let missed : nodes (node there.0) ≡ false = subst (λ (v : ℕ). nodes v ≡ false) (sym there.2) out.3 in
          let step = leaves nodes path.0 (node root) (node there.0) path.1 rooted missed in
          let dart : ℕ = step.2.0 in
          let is : IsStepIn maps node tree step.0 step.1 dart = step.2.1 in
          let d : ℕ = maps.twin dart in
          let d_in : d < maps.darts = r.twin_within dart is.within in
          let back : maps.twin d ≡ dart = r.twin_back dart is.within in
          let one_edge : maps.edge dart ≡ maps.edge d = (r.edges dart d is.within d_in).1 (inr refl) in
          let chosen : tree (maps.edge d) ≡ true = subst (λ (e : ℕ). tree e ≡ true) one_edge is.in_set in
          let outer : nodes (node d) ≡ false = subst (λ (v : ℕ). nodes v ≡ false) (sym is.ends) step.4 in
          let inner : nodes (node (maps.twin d)) ≡ true =
          subst (λ (z : ℕ). nodes (node z) ≡ true) (sym back) (subst (λ (v : ℕ). nodes v ≡ true) (sym is.starts) step.3) in
          let more : count_below (with_one nodes (node d)) bound ≡ suc (count_below nodes bound) =
          count_with nodes bound (node d) (h.node_within d d_in) outer in
          grown_up r h turned t root root_in left (with_keeps nodes (node d) (node root) rooted) (omega (arith, count, more))
          (grow r h turned g d d_in chosen outer inner) x y x_in y_in
    ]

-- before the first edge each node makes a ring of its own
seed : {maps : Rotations} {node : ℕ → ℕ} {is_node : ℕ → Bool} {bound edges : ℕ} (shape : Bool → Bool) (tree : ℕ → Bool)
    → HasNodes maps node is_node bound edges
    → ((x y : ℕ) → x < maps.darts → y < maps.darts → (IsReached (after_dart maps (λ e. shape false)) x y → node x ≡ node y)
    × (node x ≡ node y → IsReached (after_dart maps (λ e. shape false)) x y))
    → (root : ℕ) → root < maps.darts → Grown maps node is_node bound edges shape tree (λ _. false) (with_one (λ _. false) (node root))
seed {node} {is_node} {bound} {edges} shape tree h base root root_in = record {
  within_tree = λ e l is. absurd (both_ways false refl is);
  ends = λ d l is. absurd (both_ways false refl is);
  are_nodes = λ v l is. subst (λ (x : ℕ). is_node x ≡ true) (sym (only v is)) (h.is_of_dart root root_in);
  count = grind (arith, count_with, count_none);
  to_node = λ x y l k reached. inl ((base x y l k).0 reached);
  from_node = λ x y l k is. (base x y l k).1 (elim is [ inl same ↦ same | inr both ↦ only (node x) both.0 ∙ sym (only (node y) both.1) ]);
}
  where
    only : (v : ℕ) → with_one (λ _. false) (node root) v ≡ true → v ≡ node root
    only v is = elim (with_cases (λ _. false) (node root) v is) [ inl same ↦ same | inr none ↦ absurd (both_ways false refl none) ]

-- a spanning tree leaves one ring
pub one_ring : {maps : Rotations} {node : ℕ → ℕ} {is_node : ℕ → Bool} {bound edges : ℕ} (shape : Bool → Bool) {tree : ℕ → Bool}
    → IsRotationSystem maps → HasNodes maps node is_node bound edges → shape true ≡ not (shape false)
    → IsSpanningTree maps node is_node bound edges tree
    → ((x y : ℕ) → x < maps.darts → y < maps.darts → (IsReached (after_dart maps (λ e. shape false)) x y → node x ≡ node y)
    × (node x ≡ node y → IsReached (after_dart maps (λ e. shape false)) x y))
    → (x y : ℕ) → x < maps.darts → y < maps.darts → IsReached (after_dart maps (λ e. shape (tree e))) x y
one_ring {maps} {node} {is_node} {bound} {edges} shape {tree} r h turned t base x y x_in y_in =
    let start : Grown maps node is_node bound edges shape tree (λ _. false) (with_one (λ _. false) (node x)) =
    seed shape tree h base x x_in in
    let few : count_below (with_one (λ _. false) (node x)) bound ≤ count_below is_node bound = grind (arith, count_few) in
    grown_up r h turned t x x_in (count_below is_node bound - count_below (with_one (λ _. false) (node x)) bound)
    (with_itself (λ _. false) (node x)) (omega (arith, few)) start x y x_in y_in
