-- A split, made by two searches: over the vertices, and over the faces across the edges outside the tree. The tree of the second is then
-- turned round, so that its root is a face that has a leftover dart.
use Rattle.tree_cotree.proofs.Common.{rotation_system, names_all, OrientedMesh, IsOrientedSurface, Rotations, rotations_of, NamesAll, ◌≡◌, inl, inr, ℕ, suc, ◌+◌, ◌/◌, ◌<◌, Bool, true, false, List, length, get_or, refl, ap, sym, ◌∙◌, subst, arith, cases_Bool, both_ways, common_steps, length-replicate, Option, Some, is_some, replicate, is_used, count_below, AreJoined, HasColouredTrees, without_ways, ColouringView, AreBelowEdges, bound_of, is_node_of, kind_over, AreSpanned, AreMarked, IsMarked, node_of, same_kind, has_kind, kept_at, IsSearched, IsSpanningTree, SplitView, HasParents, HasChildFaces, IsSplit, StepsToParent, StepsUp, below_edge, in_cotree, made_split, LeadsUp, IsRooted, Nodes, Vertices, Faces, Kind, Tree, Cotree, Left}
use Rattle.tree_cotree.proofs.ClassLemmas.{count_same, count_none}
use Rattle.tree_cotree.proofs.SetLemmas.{with_one, with_cases, with_keeps, count_with, same_from_count}
use Rattle.tree_cotree.proofs.GrowthLemmas.{HasNodes}
use Rattle.tree_cotree.proofs.LawLemmas.{vertex_nodes, face_nodes, some_dart}
use Rattle.tree_cotree.proofs.SearchLemmas.{option_cases, not_both}
use Rattle.tree_cotree.proofs.UpwardLemmas.{joined_by}
use Rattle.tree_cotree.proofs.TreeLemmas.{search_rooted, kept_nodes, kept_join}
use Rattle.tree_cotree.proofs.TurningLemmas.{allow}
use Rattle.tree_cotree.proofs.KindLemmas.{tree_kind, cotree_kind, all_left}
use Rattle.tree_cotree.proofs.ColouringLemmas.{has_nodes, all_hang, faces_hang, none_before, none_between, tree_stays, coloured}

-- a dart is kept for all nodes but one
count_nodes : {maps : Rotations} {node : ℕ → ℕ} {allowed : ℕ → Bool} {bound root edges : ℕ} {is_node : ℕ → Bool}
    {from : List (Option ℕ)}
    → HasNodes maps node is_node bound edges → IsRooted maps node allowed bound root from
    → count_below is_node bound ≡ count_below (λ w. is_some (kept_at from w)) (length from) + 1
count_nodes {bound} {root} {is_node} {from} n f =
    let l : root < bound = subst (λ v. v < bound) f.at_root.2 (n.node_within f.at_root.0 f.at_root.1) in
    count_same is_node (with_one (λ w. is_some (kept_at from w)) root) bound (λ v b. kept_nodes n f v b)
    ∙ count_with (λ w. is_some (kept_at from w)) bound root l (ap is_some f.none)
    ∙ ap (λ k. suc (count_below (λ w. is_some (kept_at from w)) k)) (sym f.long)
    ∙ (let e : suc (count_below (λ w. is_some (kept_at from w)) (length from)) ≡ count_below (λ w. is_some (kept_at from w))
    (length from) + 1 = omega arith in e)

-- a dart is kept for nodes alone
kept_below : {maps : Rotations} {node : ℕ → ℕ} {allowed : ℕ → Bool} {bound root edges : ℕ} {is_node : ℕ → Bool}
    {from : List (Option ℕ)} (v x : ℕ)
    → HasNodes maps node is_node bound edges → IsRooted maps node allowed bound root from → kept_at from v ≡ Some x → v < length from
kept_below {node} {bound} v x n f e = grind (arith, common_steps)

-- the edges of the kept darts span the nodes, where they get a kind that no edge had
marked_spans : {s : OrientedMesh} → IsOrientedSurface s → (nodes : Nodes) {old new : List Kind} {allowed : ℕ → Bool} {root : ℕ}
    {from : List (Option ℕ)} → length old ≡ length s.table
    → ((e : ℕ) → e < length s.table → has_kind old (kind_over nodes) e ≡ false)
    → ((e : ℕ) → e < length s.table → allowed e ≡ true → has_kind old Left e ≡ true)
    → IsRooted (rotations_of s) (node_of nodes (rotations_of s)) allowed (bound_of nodes s) root from
    → IsMarked (rotations_of s) from (kind_over nodes) old new (length from) → AreSpanned s nodes (kind_over nodes) old new
marked_spans {s} o nodes {old} {new} {allowed} {from} long none left f m =
    let empty : count_below (has_kind old kind) (length s.table) ≡ 0 =
    count_same (has_kind old kind) (λ e. false) (length s.table) none ∙ count_none (length s.table) in
    record {
      long = m.long;
      spans = record {
        joins = kept_join (has_kind new kind) (rotation_system s o) f (λ v x e. sets.marked v x (kept_below v x n f e) e);
        count = omega (
          arith,
          sets.count,
          empty,
          count_nodes n f,
        );
      };
      were_left = λ e l is. grind arith;
      others = m.others;
    }
  where
    maps : Rotations
    maps = rotations_of s

    node : ℕ → ℕ
    node = node_of nodes (rotations_of s)

    kind : Kind
    kind = kind_over nodes

    bound : ℕ
    bound = bound_of nodes s

    n : HasNodes (rotations_of s) (node_of nodes (rotations_of s)) (is_node_of nodes s) (bound_of nodes s) (length s.table)
    n = has_nodes o nodes

    sets : AreMarked (rotations_of s) from (length s.table) (has_kind old (kind_over nodes)) (has_kind new (kind_over nodes)) (length from)
    sets = subst (λ edges. AreMarked (rotations_of s) from edges (has_kind old (kind_over nodes)) (has_kind new (kind_over nodes))
        (length from)) long m.sets

-- as many edges have a face below them as there are cotree edges, so these are the cotree edges
below_is_cotree : {s : OrientedMesh} → IsOrientedSurface s
    → (k2 : List Kind) {t : List (Option ℕ)} {below : ℕ → Option ℕ} {root : ℕ}
    → IsSpanningTree (rotations_of s) (rotations_of s).face (λ f. true) (length s.mesh.faces) (length s.table) (has_kind k2 Cotree)
    → IsRooted (rotations_of s) (rotations_of s).face (has_kind k2 Cotree) (length s.mesh.faces) root t
    → AreBelowEdges (rotations_of s) t (length s.table) below (length t) → (e : ℕ) → e < length s.table
    → is_some (below e) ≡ has_kind k2 Cotree e
below_is_cotree {s} h k2 {t} {below} span f b =
    let faces : count_below (λ f. true) (length s.mesh.faces) ≡ count_below (λ w. is_some (kept_at t w)) (length t) + 1 = count_nodes
    (face_nodes (names_all s h)) f in
    let counts : count_below (λ e. is_some (below e)) (length s.table) ≡ count_below (has_kind k2 Cotree) (length s.table) =
    omega (arith, b.sets.count, count_none (length s.table), faces, span.count) in
    same_from_count (λ e. is_some (below e)) (has_kind k2 Cotree) (length s.table) (λ e k is. elim (b.sets.only e is) [
      | inl never ↦ cc
      | inr dart ↦ ap (has_kind k2 Cotree) (sym dart.4) ∙ f.inside dart.0 dart.1 dart.3
    ]) counts

-- the parents of the vertices, by a tree over them
parents_from : {s : OrientedMesh} → IsOrientedSurface s → (kinds : List Kind) {p : List (Option ℕ)} (b : List (Option ℕ)) {root : ℕ}
    (top genus : ℕ)
    → IsRooted (rotations_of s) (rotations_of s).origin (has_kind kinds Tree) s.mesh.count root p
    → HasParents s (made_split kinds p b top genus)
parents_from {s} h kinds {p} b {root} top genus f =
    let maps : Rotations = rotations_of s in
    let names : NamesAll s = names_all s h in
    let split : SplitView = made_split kinds p b top genus in
    let kept : ℕ → Bool = λ w. is_some (kept_at p w) in
    let used : (v : ℕ) → v < s.mesh.count → is_used s.mesh v ≡ with_one kept root v = kept_nodes (vertex_nodes names) f in
    record {
      root = root;
      root_used = subst (λ v. is_used s.mesh v ≡ true) f.at_root.2 (names.vertex_used f.at_root.0 f.at_root.1);
      each_vertex = f.long;
      none = λ v l. (
        λ none. elim (cases_Bool (is_used s.mesh v)) [
          | inr out ↦ inr out
          | inl is_in ↦ elim (with_cases kept root v (sym (used v l) ∙ is_in)) [
            | inl at_root ↦ inl at_root
            | inr is_kept ↦ absurd (both_ways (kept v) (ap is_some none) is_kept)
          ]
        ],
        λ either. elim (option_cases (kept_at p v)) [
          | inl none ↦ none
          | inr some ↦ grind (arith, not_both, with_keeps, is_some)
        ],
      );
      within = f.within;
      starts = f.of_node;
      tree_dart = λ v dart e. tree_kind (get_or kinds (maps.edge dart) Tree) ∙ f.inside v dart e;
      to_root = λ v is.
          let dart = names.each_vertex v is in
          joined_by (LeadsUp maps maps.origin p) (StepsToParent maps split)
          (λ u w step. (step.0, record { is_parent = step.1; ends = step.2 })) v root
          (subst (λ u. AreJoined (LeadsUp maps maps.origin p) u root) dart.2 (f.to_root dart.0 dart.1));
    }

-- the faces below the edges, by a tree over them
child_faces_from : {s : OrientedMesh} → IsOrientedSurface s → (kinds : List Kind) (p : List (Option ℕ)) {t : List (Option ℕ)}
    (b : List (Option ℕ)) {root : ℕ} (genus : ℕ)
    → IsSpanningTree (rotations_of s) (rotations_of s).face (λ f. true) (length s.mesh.faces) (length s.table) (has_kind kinds Cotree)
    → IsRooted (rotations_of s) (rotations_of s).face (has_kind kinds Cotree) (length s.mesh.faces) root t
    → length b ≡ length s.table → AreBelowEdges (rotations_of s) t (length s.table) (kept_at b) (length t)
    → HasChildFaces s (made_split kinds p b root genus)
child_faces_from {s} h kinds p {t} b {root} genus span a long kept_faces =
    let maps : Rotations = rotations_of s in
    let names : NamesAll s = names_all s h in
    let split : SplitView = made_split kinds p b root genus in
    let up : ℕ → Option ℕ = below_edge split in
    let faces : AreBelowEdges maps t (length s.table) up (length t) = kept_faces in
    let kept_in : (v x : ℕ) → kept_at t v ≡ Some x → v < length t = λ v x e. kept_below v x (face_nodes names) a e in
    let is_cotree : (e : ℕ) → e < length s.table → is_some (up e) ≡ has_kind kinds Cotree e = below_is_cotree h kinds span a faces in
    record {
      root_below = subst (λ f. f < length s.mesh.faces) a.at_root.2 (names.face_below a.at_root.0 a.at_root.1);
      each_edge = long;
      none = λ e l. grind (arith, cotree_kind, is_some, option_cases);
      step = λ e x k.
          let there = faces.faces e x k in
          (there.0, a.within x there.0 there.2, there.3, a.of_node x there.0 there.2);
      once = λ d e x k l. grind arith;
      not_root = λ e k. (let there = faces.faces e root k in not_both (kept_at t root) there.0 there.2 a.none);
      to_root = λ x l.
          let dart = names.each_face x l in
          joined_by (LeadsUp maps maps.face t) (StepsUp maps split) (λ v w step. (
            step.0,
            record {
              within = a.within v step.0 step.1;
              below = faces.keeps v step.0 (kept_in v step.0 step.1) step.1;
              inside = a.of_node v step.0 step.1;
              leads = step.2;
            },
          )) x root (subst (λ v. AreJoined (LeadsUp maps maps.face t) v root) dart.2 (a.to_root dart.0 dart.1));
    }

-- a colouring with its trees, and ways along them, are a split
pub split_of_ways : {s : OrientedMesh} → IsOrientedSurface s → {colouring : ColouringView} {p t : List (Option ℕ)} (b : List (Option ℕ))
    {root : ℕ}
    → HasColouredTrees s colouring
    → IsRooted (rotations_of s) (rotations_of s).origin (has_kind colouring.kinds Tree) s.mesh.count root p
    → IsRooted (rotations_of s) (rotations_of s).face (has_kind colouring.kinds Cotree) (length s.mesh.faces) colouring.root_face t
    → length b ≡ length s.table → AreBelowEdges (rotations_of s) t (length s.table) (kept_at b) (length t)
    → IsSplit s (made_split colouring.kinds p b colouring.root_face colouring.genus)
split_of_ways {s} o {colouring} {p} b c up across long below =
    let maps : Rotations = rotations_of s in
    let kinds : List Kind = colouring.kinds in
    let cotree_set : in_cotree (without_ways colouring) ≡ has_kind kinds Cotree = λ i e. cotree_kind (get_or kinds e Tree) i in
    let cotree : IsSpanningTree maps maps.face (λ f. true) (length s.mesh.faces) (length s.table) (has_kind kinds Cotree) = grind arith in
    record {
      trees = record { each_edge = c.trees.each_edge; tree = c.trees.tree; cotree = c.trees.cotree };
      parents = parents_from o kinds b colouring.root_face colouring.genus up;
      child_faces = child_faces_from o kinds p b colouring.genus cotree across long below;
      root_left = c.root_left;
      genus = c.genus;
    }

-- the parts of a split that is made so
pub record IsMade (s : OrientedMesh) (k0 k1 k2 : List Kind) (p q t b : List (Option ℕ)) (start : ℕ) : Type 0 where
  pub first : k0 ≡ replicate (length s.table) Left
  pub tree : IsSearched (rotations_of s) (rotations_of s).origin (λ e. true) s.mesh.count ((rotations_of s).origin 0) p
  pub marked : IsMarked (rotations_of s) p Tree k0 k1 (length p)
  pub cotree : IsSearched (rotations_of s) (rotations_of s).face (has_kind k1 Left) (length s.mesh.faces) ((rotations_of s).face 0) q
  pub crossed : IsMarked (rotations_of s) q Cotree k1 k2 (length q)
  pub start_in : start < (rotations_of s).darts
  pub start_left : (d : ℕ) → d < (rotations_of s).darts → has_kind k2 Left ((rotations_of s).edge d) ≡ true
      → has_kind k2 Left ((rotations_of s).edge start) ≡ true
  pub turned : (allowed : ℕ → Bool) (root : ℕ)
      → IsRooted (rotations_of s) (rotations_of s).face allowed (length s.mesh.faces) root q
      → IsRooted (rotations_of s) (rotations_of s).face allowed (length s.mesh.faces) ((rotations_of s).face start) t
  pub each_edge : length b ≡ length s.table
  pub below : AreBelowEdges (rotations_of s) t (length s.table) (kept_at b) (length t)

-- the first search, across all edges
pub tree_rooted : {s : OrientedMesh} → IsOrientedSurface s → {p : List (Option ℕ)}
    → IsSearched (rotations_of s) (rotations_of s).origin (λ e. true) s.mesh.count ((rotations_of s).origin 0) p
    → IsRooted (rotations_of s) (rotations_of s).origin (λ e. true) s.mesh.count ((rotations_of s).origin 0) p
tree_rooted o searched =
    search_rooted 0 (some_dart o) (all_hang (λ e. true) o (λ d l. refl)) searched

pub tree_spanned : {s : OrientedMesh} → IsOrientedSurface s → {k0 k1 : List Kind} {p : List (Option ℕ)}
    → k0 ≡ replicate (length s.table) Left
    → IsSearched (rotations_of s) (rotations_of s).origin (λ e. true) s.mesh.count ((rotations_of s).origin 0) p
    → IsMarked (rotations_of s) p Tree k0 k1 (length p) → AreSpanned s Vertices Tree k0 k1
tree_spanned {s} o {k0} first searched m =
    marked_spans o Vertices
    (ap (λ (ks : List Kind). length ks) first ∙ length-replicate (length s.table) Left) (none_before s k0 Tree first refl)
    (λ e l _. ap (λ k. same_kind k Left) (all_left s k0 e first l)) (tree_rooted o searched) m

-- the second one, across the edges outside the tree
pub cotree_rooted : {s : OrientedMesh} → IsOrientedSurface s → {k0 k1 : List Kind} {p q : List (Option ℕ)}
    → k0 ≡ replicate (length s.table) Left
    → IsSearched (rotations_of s) (rotations_of s).origin (λ e. true) s.mesh.count ((rotations_of s).origin 0) p
    → IsMarked (rotations_of s) p Tree k0 k1 (length p)
    → IsSearched (rotations_of s) (rotations_of s).face (has_kind k1 Left) (length s.mesh.faces) ((rotations_of s).face 0) q
    → IsRooted (rotations_of s) (rotations_of s).face (has_kind k1 Left) (length s.mesh.faces) ((rotations_of s).face 0) q
cotree_rooted o first tree m searched =
    search_rooted 0 (some_dart o) (faces_hang o first (tree_spanned o first tree m)) searched

pub split_is : {s : OrientedMesh} → IsOrientedSurface s
    → {k0 k1 k2 : List Kind} {p q t b : List (Option ℕ)} {start : ℕ} (genus : ℕ)
    → IsMade s k0 k1 k2 p q t b start → genus ≡ count_below (has_kind k2 Left) (length s.table) / 2
    → IsSplit s (made_split k2 p b ((rotations_of s).face start) genus)
split_is {s} o {k0} {k1} {k2} {p} {q} {b} {start} genus m half =
    let maps : Rotations = rotations_of s in
    let names : NamesAll s = names_all s o in
    let up : IsRooted maps maps.origin (λ e. true) s.mesh.count (maps.origin 0) p = tree_rooted o m.tree in
    let across : IsRooted maps maps.face (has_kind k1 Left) (length s.mesh.faces) (maps.face 0) q =
    cotree_rooted o m.first m.tree m.marked m.cotree in
    let spanned : AreSpanned s Vertices Tree k0 k1 = tree_spanned o m.first m.tree m.marked in
    let long : length k1 ≡ length s.table =
    spanned.long ∙ ap (λ (ks : List Kind). length ks) m.first ∙ length-replicate (length s.table) Left in
    let crossed : AreSpanned s Faces Cotree k1 k2 = marked_spans o Faces long (none_between m.first spanned) (λ e l is. is) across
    m.crossed in
    split_of_ways o b (coloured o start (maps.face start) genus m.first spanned crossed m.start_in m.start_left refl half)
    (allow (has_kind k2 Tree) up (λ v x e. tree_stays long crossed (maps.edge x)
    ∙ m.marked.sets.marked v x (kept_below v x (vertex_nodes names) up e) e)) (m.turned (has_kind k2 Cotree) (maps.face 0)
    (allow (has_kind k2 Cotree) across (λ v x e. m.crossed.sets.marked v x (kept_below v x (face_nodes names) across e) e)))
    m.each_edge m.below
