-- Each surface has a split, and so a genus: its edges are tried one after another, as a colouring is made, until they span its vertices,
-- and then its faces.
use Rattle.tree_cotree.proofs.Common.{joined_at, names_all, used_vertices, OrientedMesh, IsOrientedSurface, Rotations, rotations_of, ◌≡◌, inl, inr, ℕ, zero, suc, ◌+◌, ◌*◌, ◌/◌, ◌<◌, ◌≤◌, Bool, true, false, List, length, get_or, refl, ◌∙◌, subst, arith, set, cases_Bool, cases_eq, both_ways, length-replicate, range_with_len, replicate, Edge, IsTableOf, FaceList, IsFaceList, is_used, count_below, IsSurface, bound_of, kind_over, AreEnds, HangTogether, AreSpanned, IsEdgeTried, any_below, node_of, has_kind, SplitView, IsSplit, Nodes, Vertices, Faces, Kind, Tree, Left}
use Rattle.surf_model.proofs.EdgeTables.{some_table}
use Rattle.tree_cotree.proofs.ClassLemmas.{found_below, passes_below}
use Rattle.tree_cotree.proofs.LawLemmas.{some_dart, exact}
use Rattle.tree_cotree.proofs.ColourLemmas.{coloured_trees_are_of_a_split}
use Rattle.tree_cotree.proofs.ColouringLemmas.{IsSpanning, kind_not_left, spanning_none, spanning_next, spanning_all, vertices_hang, faces_hang, none_before, none_between, coloured}

-- ---- edge after edge

-- what becomes of the classes and the kinds when an edge is tried
record Tried (s : OrientedMesh) (nodes : Nodes) (edge : ℕ) (least : List ℕ) (kinds : List Kind) : Type 0 where
  more : List ℕ
  new : List Kind
  tried : IsEdgeTried s nodes (kind_over nodes) edge least more kinds new

some_try : {s : OrientedMesh} (nodes : Nodes) (edge : ℕ) (least : List ℕ) (kinds : List Kind) → IsOrientedSurface s → edge < length s.table
    → Tried s nodes edge least kinds
some_try {s} nodes edge least kinds o l = elim (cases_Bool (has_kind kinds Left edge)) [
  | inr out ↦ record {
    more = least;
    new = kinds;
    tried = record { left = λ is. absurd (both_ways (has_kind kinds Left edge) out is); other = λ is. (refl, refl) };
  }
  | inl left ↦ elim (cases_eq (get_or least x 0) (get_or least y 0)) [
    | inl same ↦ record {
      more = joined_at least x y;
      new = kinds;
      tried = record {
        left = λ is. record { x = x; y = y; ends = ends; joined = refl; apart = λ ne. absurd (ne same); same = λ e. refl };
        other = λ out. absurd (both_ways (has_kind kinds Left edge) out left);
      };
    }
    | inr apart ↦ record {
      more = joined_at least x y;
      new = set kinds edge (kind_over nodes);
      tried = record {
        left = λ is. record { x = x; y = y; ends = ends; joined = refl; apart = λ ne. refl; same = λ e. absurd (apart e) };
        other = λ out. absurd (both_ways (has_kind kinds Left edge) out left);
      };
    }
  ]
]
  where
    maps : Rotations
    maps = rotations_of s

    x : ℕ
    x = node_of nodes maps ((names_all s o).each_edge edge l).0

    y : ℕ
    y = node_of nodes maps (maps.twin ((names_all s o).each_edge edge l).0)

    ends : AreEnds maps (node_of nodes maps) edge x y
    ends = let there = (names_all s o).each_edge edge l in
        record { dart = there.0; within = there.1; on_edge = there.2; starts = refl; ends = refl }

-- the kinds when the edges below n are tried
record TriedUpTo (s : OrientedMesh) (nodes : Nodes) (old : List Kind) (n : ℕ) : Type 0 where
  least : List ℕ
  kinds : List Kind
  spanning : IsSpanning s nodes (kind_over nodes) old n least kinds

tried_upto : {s : OrientedMesh} (nodes : Nodes) (old : List Kind) → IsOrientedSurface s → length old ≡ length s.table
    → ((e : ℕ) → e < length s.table → has_kind old (kind_over nodes) e ≡ false)
    → (n : ℕ) → n ≤ length s.table → TriedUpTo s nodes old n
tried_upto {s} nodes old o long free zero l = record {
  least = range_with_len 0 (bound_of nodes s);
  kinds = old;
  spanning = spanning_none s nodes (kind_over nodes) old (range_with_len 0 (bound_of nodes s)) refl free;
}
tried_upto {s} nodes old o long free (suc n) l =
    let before : TriedUpTo s nodes old n = tried_upto nodes old o long free n (omega arith) in
    let within : n < length s.table = omega arith in
    let next : Tried s nodes n before.least before.kinds = some_try nodes n before.least before.kinds o within in
    let up : n + 1 ≡ suc n = omega arith in
    record {
      least = next.more;
      kinds = next.new;
      spanning = subst (λ k. IsSpanning s nodes (kind_over nodes) old k next.more next.new) up (spanning_next o within
          (omega (arith, within, before.spanning.long, long)) (kind_not_left nodes) next.tried before.spanning);
    }

some_spanned : {s : OrientedMesh} (nodes : Nodes) (old : List Kind) → IsOrientedSurface s → length old ≡ length s.table
    → ((e : ℕ) → e < length s.table → has_kind old (kind_over nodes) e ≡ false)
    → HangTogether (rotations_of s) (node_of nodes (rotations_of s)) (has_kind old Left)
    → (kinds : List Kind) × AreSpanned s nodes (kind_over nodes) old kinds
some_spanned {s} nodes old o long free together =
    let all : TriedUpTo s nodes old (length s.table) = tried_upto nodes old o long free (length s.table) (omega arith) in
    (all.kinds, spanning_all o together (omega arith) all.spanning)

-- ---- of a surface

-- a dart of a leftover edge, where there is one
record LeftoverStart (s : OrientedMesh) (kinds : List Kind) : Type 0 where
  dart : ℕ
  within : dart < (rotations_of s).darts
  left : (d : ℕ) → d < (rotations_of s).darts → has_kind kinds Left ((rotations_of s).edge d) ≡ true
      → has_kind kinds Left ((rotations_of s).edge dart) ≡ true

some_start : {s : OrientedMesh} (kinds : List Kind) → IsOrientedSurface s → LeftoverStart s kinds
some_start {s} kinds o = elim (cases_Bool (any_below is_left_dart (rotations_of s).darts)) [
  | inl some ↦ grind (arith, found_below)
  | inr none ↦ record {
    dart = 0;
    within = some_dart o;
    left = λ d l is. absurd (both_ways (any_below is_left_dart (rotations_of s).darts) none
        (passes_below is_left_dart (rotations_of s).darts d l is));
  }
]
  where
    is_left_dart : ℕ → Bool
    is_left_dart d = has_kind kinds Left ((rotations_of s).edge d)

pub some_split : (s : OrientedMesh) → IsOrientedSurface s → (split : SplitView) × IsSplit s split
some_split s o =
    let old : List Kind = replicate (length s.table) Left in
    let long : length old ≡ length s.table = length-replicate (length s.table) Left in
    let tree = some_spanned Vertices old o long (none_before s old Tree refl refl) (vertices_hang old o refl) in
    let cotree = some_spanned Faces tree.0 o (tree.1.long ∙ long) (none_between refl tree.1) (faces_hang o refl tree.1) in
    let start : LeftoverStart s cotree.0 = some_start cotree.0 o in
    let root : ℕ = (rotations_of s).face start.dart in
    let genus : ℕ = count_below (has_kind cotree.0 Left) (length s.table) / 2 in
    let is = coloured_trees_are_of_a_split o (coloured o start.dart root genus refl tree.1 cotree.1 start.within start.left refl refl) in
    (is.split, is.is_split)

-- and each mesh of a surface has a table, and a genus
pub table_and_genus : (mesh : FaceList) → IsFaceList mesh → IsSurface mesh
    → (table : List Edge) × IsTableOf mesh table × (g : ℕ)
    × (count_below (is_used mesh) mesh.count + length mesh.faces + 2 * g ≡ length table + 2)
unfolding used_vertices
table_and_genus mesh valid is =
    let table = some_table mesh valid in
    let s : OrientedMesh = record { mesh = mesh; table = table.0; signs = is.orientable.0 } in
    let o : IsOrientedSurface s = record { faces = valid; table = table.1; closed = is.closed; coherent = is.orientable.1 } in
    let split = some_split s o in
    (table.0, table.1, split.0.genus, exact s split.0 split.1.trees split.0.genus split.1.genus)
