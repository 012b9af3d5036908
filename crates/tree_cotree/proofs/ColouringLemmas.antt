-- Kinds of edges that are made by joining classes, edge by edge: what they are when the edges below n have been tried, and the trees that
-- they make in the end.
use Rattle.tree_cotree.proofs.Common.{joined_at_same, joined_at_ends, joined_refl, joined_step, joined_trans, joined_at, rotation_system, names_all, OrientedMesh, IsOrientedSurface, Rotations, rotations_of, IsRotationSystem, IsDartStep, IsDartFrom, ◌≡◌, ◌≢◌, inl, inr, ℕ, ◌+◌, ◌/◌, ◌<◌, ◌≤◌, Bool, true, false, List, [], ◌∷◌, length, get_or, refl, ap, sym, ◌∙◌, subst, arith, set, cases_Bool, cases_eq, both_ways, common_steps, length-replicate, get_or-set_same, get_or-set_other, length-set, range_with_len, replicate, count_below, IsPath, AreJoined, HasColouredTrees, without_ways, ColouringView, bound_of, is_node_of, kind_over, AreEnds, HangTogether, AreSpanned, IsEdgeTried, node_of, same_kind, has_kind, StepsIn, MakesOneRing, SplitView, HasTrees, in_tree, in_cotree, is_left, Nodes, Vertices, Faces, Kind, Tree, Cotree, Left}
use Rattle.tree_cotree.proofs.SetLemmas.{with_one, with_itself, with_other}
use Rattle.tree_cotree.proofs.GrowthLemmas.{HasNodes}
use Rattle.tree_cotree.proofs.SplitLemmas.{tree_ring, closed_holds_all}
use Rattle.tree_cotree.proofs.LawLemmas.{vertex_nodes, face_nodes, some_dart, even}
use Rattle.tree_cotree.proofs.TreeLemmas.{same_itself}
use Rattle.tree_cotree.proofs.KindLemmas.{all_left, other_kind, tree_kind, cotree_kind, left_kind}
use Rattle.tree_cotree.proofs.JoiningLemmas.{IsJoining, joining_none, joining_skip, joining_same, joining_set, joining_apart, ends_within, joined_spans}

pub has_nodes : {s : OrientedMesh} → IsOrientedSurface s → (nodes : Nodes)
    → HasNodes (rotations_of s) (node_of nodes (rotations_of s)) (is_node_of nodes s) (bound_of nodes s) (length s.table)
has_nodes {s} o Vertices = vertex_nodes (names_all s o)
has_nodes {s} o Faces = face_nodes (names_all s o)

-- edges that span nodes are not left over
pub kind_not_left : (nodes : Nodes) → same_kind Left (kind_over nodes) ≡ false
kind_not_left Vertices = refl
kind_not_left Faces = refl

-- the kinds when the edges below n are tried, and maybe some others
pub record IsSpanning (s : OrientedMesh) (nodes : Nodes) (kind : Kind) (old : List Kind) (n : ℕ) (least : List ℕ) (kinds : List Kind)
    : Type 0 where
  pub long : length kinds ≡ length old
  pub others : (e : ℕ) → has_kind kinds kind e ≡ false → get_or kinds e Tree ≡ get_or old e Tree
  pub joining :
      IsJoining (rotations_of s) (node_of nodes (rotations_of s)) (is_node_of nodes s) (bound_of nodes s) (length s.table)
      (has_kind old Left) n least (has_kind kinds kind)

pub spanning_none : (s : OrientedMesh) (nodes : Nodes) (kind : Kind) (old : List Kind) (least : List ℕ)
    → least ≡ range_with_len 0 (bound_of nodes s) → ((e : ℕ) → e < length s.table → has_kind old kind e ≡ false)
    → IsSpanning s nodes kind old 0 least old
spanning_none s nodes kind old least is free = record {
  long = refl;
  others = λ e out. refl;
  joining = subst (λ l. IsJoining (rotations_of s) (node_of nodes (rotations_of s)) (is_node_of nodes s) (bound_of nodes s)
      (length s.table) (has_kind old Left) 0 l (has_kind old kind)) (sym is)
      (joining_none (rotations_of s) (node_of nodes (rotations_of s)) (is_node_of nodes s) (bound_of nodes s) (length s.table)
      (has_kind old Left) (has_kind old kind) free);
}

-- an edge that is left was left before
was_left : {s : OrientedMesh} {nodes : Nodes} {kind : Kind} {old : List Kind} {n : ℕ} (e : ℕ) {least : List ℕ} {kinds : List Kind}
    → same_kind Left kind ≡ false → has_kind kinds Left e ≡ true → IsSpanning s nodes kind old n least kinds → has_kind old Left e ≡ true
was_left {kind} e {kinds} other left h = ap (λ k. same_kind k Left) (sym (h.others e (other_kind kinds Left kind e other left))) ∙ left

-- an edge whose nodes are apart joins them
spanning_more : {s : OrientedMesh} {nodes : Nodes} {kind : Kind} {old : List Kind} {n m : ℕ} {least : List ℕ} {kinds : List Kind} {x y : ℕ}
    → IsOrientedSurface s → m < length s.table → m < length kinds → same_kind Left kind ≡ false → has_kind kinds Left m ≡ true
    → AreEnds (rotations_of s) (node_of nodes (rotations_of s)) m x y → get_or least x 0 ≢ get_or least y 0
    → IsSpanning s nodes kind old n least kinds → IsSpanning s nodes kind old n (joined_at least x y) (set kinds m kind)
spanning_more {s} {nodes} {kind} {old} {n} {m} {least} {kinds} {x} {y} o l b other left a apart h = record {
  long = length-set kinds m kind ∙ h.long;
  others = λ e out. elim (cases_eq e m) [
    | inl here ↦ absurd (both_ways (has_kind new kind e) out (ap (has_kind new kind) here ∙ at_m))
    | inr ne ↦ elsewhere e ne ∙ h.others e (ap (λ k. same_kind k kind) (sym (elsewhere e ne)) ∙ out)
  ];
  joining = subst (IsJoining maps node (is_node_of nodes s) (bound_of nodes s) (length s.table) (has_kind old Left) n (joined_at least x y))
      (sym with_m) (joining_apart (rotation_system s o) (has_nodes o nodes) l (was_left m other left h)
      (other_kind kinds Left kind m other left) a apart h.joining);
}
  where
    maps : Rotations
    maps = rotations_of s

    node : ℕ → ℕ
    node = node_of nodes (rotations_of s)

    new : List Kind
    new = set kinds m kind

    at_m : has_kind (set kinds m kind) kind m ≡ true
    at_m = ap (λ k. same_kind k kind) (get_or-set_same kinds m kind Tree b) ∙ same_itself kind

    elsewhere : (e : ℕ) → e ≢ m → get_or (set kinds m kind) e Tree ≡ get_or kinds e Tree
    elsewhere e ne = get_or-set_other kinds m e kind Tree ne

    with_m_at : (e : ℕ) → has_kind (set kinds m kind) kind e ≡ with_one (has_kind kinds kind) m e
    with_m_at e = elim (cases_eq e m) [
      | inl here ↦
          ap (has_kind new kind) here ∙ at_m
          ∙ sym (ap (with_one (has_kind kinds kind) m) here ∙ with_itself (has_kind kinds kind) m)
      | inr ne ↦ ap (λ k. same_kind k kind) (elsewhere e ne) ∙ sym (with_other (has_kind kinds kind) m e ne)
    ]

    with_m : has_kind (set kinds m kind) kind ≡ with_one (has_kind kinds kind) m
    with_m = λ i e. with_m_at e i

-- an edge is tried, whether its turn has come or not
pub spanning_early : {s : OrientedMesh} {nodes : Nodes} {kind : Kind} {old : List Kind} {n m : ℕ} {least more : List ℕ}
    {kinds new : List Kind}
    → IsOrientedSurface s → m < length s.table → m < length kinds → same_kind Left kind ≡ false
    → IsEdgeTried s nodes kind m least more kinds new → IsSpanning s nodes kind old n least kinds
    → IsSpanning s nodes kind old n more new
spanning_early {s} {nodes} {kind} {old} {n} {m} {least} {more} {kinds} {new} o l b other tried h =
    elim (cases_Bool (has_kind kinds Left m)) [
      | inr out ↦ both least kinds (tried.other out).0 (tried.other out).1 h
      | inl left ↦
          (let t = tried.left left in
          elim (cases_eq (get_or least t.x 0) (get_or least t.y 0)) [
            | inl same ↦ both least kinds (t.joined ∙ joined_at_same least t.x t.y same) (t.same same) h
            | inr apart ↦ both (joined_at least t.x t.y) (set kinds m kind) t.joined (t.apart apart)
                (spanning_more o l b other left t.ends apart h)
          ])
    ]
  where
    both : (classes : List ℕ) (ks : List Kind) → more ≡ classes → new ≡ ks → IsSpanning s nodes kind old n classes ks
        → IsSpanning s nodes kind old n more new
    both classes ks is sets h = grind arith

-- the turn of an edge passes: its nodes are in one class, or it is in the set, or it was not left
spanning_joined : {s : OrientedMesh} {nodes : Nodes} {kind : Kind} {old : List Kind} {n : ℕ} {least : List ℕ} {kinds : List Kind} {x y : ℕ}
    → IsOrientedSurface s → AreEnds (rotations_of s) (node_of nodes (rotations_of s)) n x y → get_or least x 0 ≡ get_or least y 0
    → IsSpanning s nodes kind old n least kinds → IsSpanning s nodes kind old (n + 1) least kinds
spanning_joined {s} o a same h = record {
  long = h.long;
  others = h.others;
  joining = joining_same (rotation_system s o) a same h.joining;
}

spanning_passed : {s : OrientedMesh} {nodes : Nodes} {kind : Kind} {old : List Kind} {n : ℕ} {least : List ℕ} {kinds : List Kind}
    → n < length s.table → has_kind kinds Left n ≡ false → IsSpanning s nodes kind old n least kinds
    → IsSpanning s nodes kind old (n + 1) least kinds
spanning_passed {kind} {n} {kinds} l out h = grind (arith, joining_set, joining_skip)

-- an edge is tried in its turn
pub spanning_next : {s : OrientedMesh} {nodes : Nodes} {kind : Kind} {old : List Kind} {n : ℕ} {least more : List ℕ}
    {kinds new : List Kind}
    → IsOrientedSurface s → n < length s.table → n < length kinds → same_kind Left kind ≡ false
    → IsEdgeTried s nodes kind n least more kinds new → IsSpanning s nodes kind old n least kinds
    → IsSpanning s nodes kind old (n + 1) more new
spanning_next {s} {nodes} {kind} {old} {n} {least} {more} {kinds} {new} o l b other tried h =
    elim (cases_Bool (has_kind kinds Left n)) [
      | inr out ↦ grind (arith, spanning_passed)
      | inl left ↦
          (let t = tried.left left in
          let at = ends_within (rotation_system s o) (has_nodes o nodes) t.ends in
          let one : get_or more t.x 0 ≡ get_or more t.y 0 = grind (arith, joined_at_ends) in
          spanning_joined o t.ends one after)
    ]
  where
    after : IsSpanning s nodes kind old n more new
    after = spanning_early o l b other tried h

pub spanning_all : {s : OrientedMesh} {nodes : Nodes} {kind : Kind} {old : List Kind} {n : ℕ} {least : List ℕ} {kinds : List Kind}
    → IsOrientedSurface s → HangTogether (rotations_of s) (node_of nodes (rotations_of s)) (has_kind old Left) → length s.table ≤ n
    → IsSpanning s nodes kind old n least kinds
    → AreSpanned s nodes kind old kinds
spanning_all {nodes} o together all h = record {
  long = h.long;
  spans = joined_spans (has_nodes o nodes) (some_dart o) together all h.joining;
  were_left = h.joining.within;
  others = h.others;
}

-- the vertices hang together across all edges
along_darts : (maps : Rotations) (inside : ℕ → Bool) → ((d : ℕ) → d < maps.darts → inside (maps.edge d) ≡ true) → (u v : ℕ)
    (path : List ℕ)
    → IsPath (IsDartStep maps) u path v → IsPath (StepsIn maps maps.origin inside) u path v
along_darts maps inside all u v [] p = p
along_darts maps inside all u v (w ∷ path) p =
    let d : ℕ = p.0.0 in
    let step : IsDartFrom maps u w d = p.0.1 in (
      (d, record { within = step.within; in_set = all d step.within; starts = step.starts; ends = step.ends }),
      along_darts maps inside all w v path p.1,
    )

pub all_hang : {s : OrientedMesh} (inside : ℕ → Bool) → IsOrientedSurface s
    → ((d : ℕ) → d < (rotations_of s).darts → inside ((rotations_of s).edge d) ≡ true)
    → HangTogether (rotations_of s) (rotations_of s).origin inside
all_hang {s} inside o all d e l k =
    let maps : Rotations = rotations_of s in
    let way = (rotation_system s o).connected d e l k in
    (way.0, along_darts maps inside all (maps.origin d) (maps.origin e) way.0 way.1)

pub vertices_hang : {s : OrientedMesh} (k0 : List Kind) → IsOrientedSurface s → k0 ≡ replicate (length s.table) Left
    → HangTogether (rotations_of s) (rotations_of s).origin (has_kind k0 Left)
vertices_hang {s} k0 o first =
    all_hang (has_kind k0 Left) o
    (λ x b. ap (λ z. same_kind z Left) (all_left s k0 ((rotations_of s).edge x) first ((names_all s o).edge_below x b)))

-- an edge outside the tree is left
left_outside : {s : OrientedMesh} {k0 k1 : List Kind} (e : ℕ) → k0 ≡ replicate (length s.table) Left
    → AreSpanned s Vertices Tree k0 k1 → e < length s.table → has_kind k1 Tree e ≡ false → has_kind k1 Left e ≡ true
left_outside {s} {k0} e first t l out = ap (λ k. same_kind k Left) (t.others e out ∙ all_left s k0 e first l)

-- the faces hang together across the edges outside the tree
pub faces_hang : {s : OrientedMesh} {k0 k1 : List Kind} → IsOrientedSurface s → k0 ≡ replicate (length s.table) Left
    → AreSpanned s Vertices Tree k0 k1 → HangTogether (rotations_of s) (rotations_of s).face (has_kind k1 Left)
faces_hang {s} {k1} o first t d e l k =
    closed_holds_all (has_kind k1 Tree) (λ f. AreJoined steps (maps.face d) f) r ring
    (λ x b out reached. joined_trans steps (maps.face d) (maps.face x) (maps.face (maps.twin x)) reached
    (joined_step steps (maps.face x) (maps.face (maps.twin x)) (
      x,
      record {
        within = b;
        in_set = left_outside (maps.edge x) first t ((names_all s o).edge_below x b) out;
        starts = refl;
        ends = refl;
      },
    ))) d e l k (joined_refl steps (maps.face d) (maps.face d) refl)
  where
    maps : Rotations
    maps = rotations_of s

    r : IsRotationSystem maps
    r = rotation_system s o

    steps : ℕ → ℕ → Type 0
    steps = StepsIn (rotations_of s) (rotations_of s).face (has_kind k1 Left)

    ring : MakesOneRing maps (has_kind k1 Tree)
    ring = tree_ring r (vertex_nodes (names_all s o)) t.spans

-- no edge is of another kind than leftover at first, and none in the cotree after the tree
pub none_before : (s : OrientedMesh) (k0 : List Kind) (kind : Kind) → k0 ≡ replicate (length s.table) Left → same_kind Left kind ≡ false
    → (e : ℕ) → e < length s.table → has_kind k0 kind e ≡ false
none_before s k0 kind first other e l = ap (λ k. same_kind k kind) (all_left s k0 e first l) ∙ other

pub none_between : {s : OrientedMesh} {k0 k1 : List Kind} → k0 ≡ replicate (length s.table) Left → AreSpanned s Vertices Tree k0 k1
    → (e : ℕ) → e < length s.table → has_kind k1 Cotree e ≡ false
none_between {k1} first t e l = grind (arith, other_kind, left_outside)

-- the cotree leaves the tree as it is
pub tree_stays : {s : OrientedMesh} {k1 k2 : List Kind} → length k1 ≡ length s.table → AreSpanned s Faces Cotree k1 k2 → (e : ℕ)
    → has_kind k2 Tree e ≡ has_kind k1 Tree e
tree_stays {s} {k1} {k2} long c e = grind (arith, common_steps, other_kind)

coloured_trees : {s : OrientedMesh} {k0 k1 k2 : List Kind} (root genus : ℕ) → k0 ≡ replicate (length s.table) Left
    → AreSpanned s Vertices Tree k0 k1 → AreSpanned s Faces Cotree k1 k2
    → HasTrees s (without_ways (record { kinds = k2; root_face = root; genus = genus }))
coloured_trees {s} {k1} {k2} root genus first t c =
    let colours : ColouringView = record { kinds = k2; root_face = root; genus = genus } in
    let long : length k1 ≡ length s.table = t.long ∙ ap (λ (ks : List Kind). length ks) first ∙ length-replicate (length s.table) Left in
    let tree_set : in_tree (without_ways colours) ≡ has_kind k1 Tree = λ i e. (tree_kind (get_or k2 e Tree) ∙ tree_stays long c e) i in
    let cotree_set : in_cotree (without_ways colours) ≡ has_kind k2 Cotree = λ i e. cotree_kind (get_or k2 e Tree) i in grind arith

-- what joining vertices and then faces makes
pub coloured : {s : OrientedMesh} → IsOrientedSurface s → {k0 k1 k2 : List Kind} (start root genus : ℕ)
    → k0 ≡ replicate (length s.table) Left
    → AreSpanned s Vertices Tree k0 k1 → AreSpanned s Faces Cotree k1 k2 → start < (rotations_of s).darts
    → ((d : ℕ) → d < (rotations_of s).darts → has_kind k2 Left ((rotations_of s).edge d) ≡ true
    → has_kind k2 Left ((rotations_of s).edge start) ≡ true)
    → root ≡ (rotations_of s).face start → genus ≡ count_below (has_kind k2 Left) (length s.table) / 2
    → HasColouredTrees s (record { kinds = k2; root_face = root; genus = genus })
coloured {s} o {k2} start root genus first t c start_in start_left is_root half =
    let colours : ColouringView = record { kinds = k2; root_face = root; genus = genus } in
    let split : SplitView = without_ways colours in
    let trees : HasTrees s split = coloured_trees root genus first t c in
    let pairs = even s split o trees in
    let same : is_left split ≡ has_kind k2 Left = λ i e. left_kind (get_or k2 e Tree) i in
    let count : count_below (is_left split) (length s.table) ≡ count_below (has_kind k2 Left) (length s.table) =
    ap (λ set_of. count_below set_of (length s.table)) same in
    record {
      trees = trees;
      root_below = subst (λ f. f < length s.mesh.faces) (sym is_root) ((names_all s o).face_below start start_in);
      root_left = λ d l is. grind (arith, left_kind);
      genus = omega (arith, pairs.1, count, half);
    }
