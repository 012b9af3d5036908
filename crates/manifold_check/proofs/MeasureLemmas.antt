-- The vertices and the edges of each component, counted as those of the whole mesh are gone through.
use Rattle.manifold_check.proofs.Common.{◌≡◌, ◌≢◌, ◌⊎◌, inl, inr, ℕ, zero, suc, ◌+◌, ◌<◌, Bool, true, false, eqb, cond, List, [], ◌∷◌, length, get_or, set, refl, ap, sym, ◌∙◌, subst, arith, add-one, length-append, cases_Bool, both_ways, eq-eqb, eqb-true, nat_tests, ext_get_or, length-map, get_or-map, get_or_default, All-filter, All-map, filter-append, filter_passes, length-map-range_with_len, get_or-map-range_with_len, AllPairs-filter, range_with_len, Contains, filter, map, tail_used, head_used, filter-map, IsEdgeBetween, edge_between, table_pair, sides_of_edge, Contains-filter, counted_more, group_of-other, IsCounted, PartsView, AreParts, component_at, component_mesh, tail_of, Edge, IsEdgeOf, IsPairBefore, IsTableOf, edge_in, side_name, FaceList, FaceSide, all_sides, joins, is_edge, is_used, submesh}
use Rattle.connectivity.proofs.Forests.{range_more}
use Rattle.surf_model.proofs.ListedLemmas.{IsListed, all_listed}
use Rattle.surf_model.proofs.OneTableLemmas.{one_table}
use Rattle.surf_model.specs.Numbers.{count_below}
use Rattle.manifold_check.proofs.PieceLemmas.{IsPiece, edge_of_side, edge_up, used_up, used_down}
use Rattle.manifold_check.proofs.PieceSides.{sides_alike}
use Rattle.manifold_check.proofs.PartPieces.{IsOfComponent, piece_of_parts}

-- how many numbers pass is the length of the list of those that do
pub count_of_passing : (test : ℕ → Bool) (n : ℕ) → count_below test n ≡ length (filter test (range_with_len 0 n))
count_of_passing test zero = refl
count_of_passing test (suc n) =
    let passing : List ℕ = filter test (range_with_len 0 n) in
    let size : length (filter test (range_with_len 0 (n + 1))) ≡ length passing + length (cond (test n) (n ∷ []) []) =
    ap (λ (xs : List ℕ). length (filter test xs)) (range_more n)
    ∙ ap (λ (xs : List ℕ). length xs) (filter-append test (range_with_len 0 n) (n ∷ []))
    ∙ length-append passing (cond (test n) (n ∷ []) []) in
    let one_more : count_below test (suc n) ≡ length (filter test (range_with_len 0 (n + 1))) =
    omega (arith, count_of_passing test n, size, last (test n)) in
    one_more ∙ ap (λ (m : ℕ). length (filter test (range_with_len 0 m))) (add-one n)
  where
    last : (b : Bool) → length (cond b (n ∷ []) []) ≡ cond b 1 0
    last true = refl
    last false = refl

-- the component of a used vertex; for another one a place that no component has
abbrev pub place_of_used : FaceList → PartsView → ℕ → ℕ
place_of_used mesh parts v = cond (is_used mesh v) (get_or parts.places v 0) (length parts.components)

pub used_counted : (mesh : FaceList) (parts : PartsView) (v place : ℕ) (counts : List ℕ) → is_used mesh v ≡ true
    → place ≡ get_or parts.places v 0 → place < length counts → IsCounted (place_of_used mesh parts) v counts
    → IsCounted (place_of_used mesh parts) (v + 1) (set counts place (get_or counts place 0 + 1))
used_counted mesh parts v place counts used is l h = grind (arith, counted_more)

pub unused_counted : (mesh : FaceList) (parts : PartsView) (v : ℕ) (counts : List ℕ) → is_used mesh v ≡ false
    → length counts ≡ length parts.components → IsCounted (place_of_used mesh parts) v counts
    → IsCounted (place_of_used mesh parts) (v + 1) counts
unused_counted mesh parts v counts unused many h k l = grind (arith, group_of-other)

is_other : (a b : ℕ) → a ≢ b → eqb a b ≡ false
is_other a b h = grind (arith, nat_tests)

-- a vertex is counted for the component whose mesh uses it
pub used_alike : (mesh : FaceList) (parts : PartsView) (k v : ℕ) → AreParts mesh parts → k < length parts.components
    → eqb (place_of_used mesh parts v) k ≡ is_used (component_mesh mesh parts k) v
used_alike mesh parts k v h l =
    let Inside : ℕ → Type 0 = IsOfComponent parts.places k in
    let names : List ℕ = component_at parts k in
    let piece : IsPiece mesh Inside names = piece_of_parts mesh parts k h l in
    elim (cases_Bool (is_used (component_mesh mesh parts k) v)) [
      | inl here ↦
          (let up = used_up mesh Inside names v piece here in
          eq-eqb (place_of_used mesh parts v) k (ap (λ b. cond b (get_or parts.places v 0) (length parts.components)) up.0 ∙ up.1)
          ∙ sym here)
      | inr not_here ↦
          is_other (place_of_used mesh parts v) k
          (λ same. elim (cases_Bool (is_used mesh v)) [
            | inl used ↦
                (let inside : get_or parts.places v 0 ≡ k = grind arith in
                both_ways (is_used (component_mesh mesh parts k) v) not_here (used_down mesh Inside names v piece inside used))
            | inr unused ↦
                (let none : place_of_used mesh parts v ≡ length parts.components =
                ap (λ b. cond b (get_or parts.places v 0) (length parts.components)) unused in
                omega (arith, none, same, l))
          ])
          ∙ sym not_here
    ]

pub vertices_counted : (mesh : FaceList) (parts : PartsView) (counts : List ℕ) (k : ℕ) → AreParts mesh parts
    → k < length parts.components → k < length counts → IsCounted (place_of_used mesh parts) mesh.count counts
    → get_or counts k 0 ≡ count_below (is_used (component_mesh mesh parts k)) mesh.count
vertices_counted mesh parts counts k h l b counted = grind (arith, used_alike, count_of_passing)

-- the component of an edge, by its place in the table
abbrev pub place_of_edge : List Edge → PartsView → ℕ → ℕ
place_of_edge table parts e = get_or parts.places (edge_in table e).low 0

-- an edge with its sides in the mesh of a component
narrowed_edge : FaceList → Edge → Edge
narrowed_edge alone edge =
    record { low = edge.low; high = edge.high; sides = map side_name (filter (joins edge.low edge.high) (all_sides alone)) }

in_component : PartsView → ℕ → Edge → Bool
in_component parts k edge = eqb (get_or parts.places edge.low 0) k

joined_by : (a b u v : ℕ) (s : FaceSide) → s.tail ≡ u → s.head ≡ v → ((a ≡ u) × (b ≡ v)) ⊎ ((a ≡ v) × (b ≡ u)) → joins a b s ≡ true
joined_by a b u v s tail head ends = grind (arith, nat_tests)

narrowed_is_edge : (mesh : FaceList) (Inside : ℕ → Type 0) (names : List ℕ) (edge : Edge) → IsPiece mesh Inside names → Inside edge.low
    → IsEdgeOf mesh edge → IsEdgeOf (submesh mesh names) (narrowed_edge (submesh mesh names) edge)
unfolding narrowed_edge
narrowed_is_edge mesh Inside names edge piece inside is = record {
  ordered = is.ordered;
  sides = refl;
  some_side = omega (
    arith,
    length-map (filter (joins edge.low edge.high) (all_sides (submesh mesh names))) side_name,
    sides_alike mesh Inside names edge.low edge.high piece inside,
    sides_of_edge mesh edge is,
    is.some_side,
  );
}

-- the table of a component's mesh: the edges of the component
edges_alone : (mesh : FaceList) (table : List Edge) (parts : PartsView) (k : ℕ) → IsTableOf mesh table → AreParts mesh parts
    → k < length parts.components
    → IsTableOf (component_mesh mesh parts k) (map (narrowed_edge (component_mesh mesh parts k)) (filter (in_component parts k) table))
unfolding narrowed_edge in_component
edges_alone mesh table parts k h parted l =
    let Inside : ℕ → Type 0 = IsOfComponent parts.places k in
    let names : List ℕ = component_at parts k in
    let alone : FaceList = component_mesh mesh parts k in
    let piece : IsPiece mesh Inside names = piece_of_parts mesh parts k parted l in
    let kept : List Edge = filter (in_component parts k) table in
    let Before : Edge → Edge → Type 0 = λ e f. IsPairBefore e.low e.high f.low f.high in
    let no_edge : Edge = record { low = 0; high = 0; sides = [] } in
    record {
      edges = All-map (IsEdgeOf alone) (narrowed_edge alone) kept (λ i d b.
          narrowed_is_edge mesh Inside names (get_or kept i d) piece
          (eqb-true (get_or parts.places (get_or kept i d).low 0) k (filter_passes (in_component parts k) table i d b))
          (All-filter (in_component parts k) (IsEdgeOf mesh) table h.edges i d b));
      rising = λ i j d less b.
          let few : j < length kept = omega (arith, b, length-map kept (narrowed_edge alone)) in
          let first = get_or-map (narrowed_edge alone) kept i no_edge d (omega (arith, less, few)) in
          let second = get_or-map (narrowed_edge alone) kept j no_edge d few in
          subst (λ e. Before e (get_or (map (narrowed_edge alone) kept) j d)) (sym first)
          (subst (Before (narrowed_edge alone (get_or kept i no_edge))) (sym second)
          (AllPairs-filter Before (in_component parts k) table h.rising i j no_edge less few));
      complete = λ i d b.
          let s : FaceSide = get_or (all_sides alone) i d in
          let is : IsListed alone s = all_listed alone i d b in
          let edge_there : is_edge alone s.tail s.head ≡ true =
          ap (λ u. is_edge alone u s.head) is.tail ∙ ap (is_edge alone (tail_of alone (side_name s))) is.head
          ∙ edge_of_side alone (side_name s) is.side in
          let found : IsEdgeBetween table s.tail s.head =
          edge_between mesh table s.tail s.head h (edge_up mesh Inside names s.tail s.head piece edge_there) in
          let edge : Edge = edge_in table found.edge in
          let low_inside : get_or parts.places edge.low 0 ≡ k = elim found.ends [
            | inl e ↦ ap (λ v. get_or parts.places v 0) e.0
                ∙ (used_up mesh Inside names s.tail piece (tail_used alone s.tail s.head edge_there)).1
            | inr e ↦ ap (λ v. get_or parts.places v 0) e.0
                ∙ (used_up mesh Inside names s.head piece (head_used alone s.tail s.head edge_there)).1
          ] in
          let has : Contains kept edge =
          Contains-filter (in_component parts k) table edge
          (eq-eqb (get_or parts.places edge.low 0) k low_inside)
          (found.edge, found.in_table, get_or_default table found.edge edge no_edge found.in_table) in (
            has.0,
            narrowed_edge alone edge,
            omega (arith, has.1, length-map kept (narrowed_edge alone)),
            get_or-map (narrowed_edge alone) kept has.0 edge (narrowed_edge alone edge) has.1 ∙ ap (narrowed_edge alone) has.2,
            joined_by edge.low edge.high s.tail s.head s refl refl found.ends,
          );
    }

pub component_table : (mesh : FaceList) (table : List Edge) (parts : PartsView) (k : ℕ) → IsTableOf mesh table → AreParts mesh parts
    → k < length parts.components → (alone : List Edge) × IsTableOf (component_mesh mesh parts k) alone
component_table mesh table parts k h parted l =
    (map (narrowed_edge (component_mesh mesh parts k)) (filter (in_component parts k) table), edges_alone mesh table parts k h parted l)

-- the edges one by one
edges_by_place : (table : List Edge) → map (edge_in table) (range_with_len 0 (length table)) ≡ table
edges_by_place table =
    let n : ℕ = length table in
    let no_edge : Edge = record { low = 0; high = 0; sides = [] } in
    let size : length (map (edge_in table) (range_with_len 0 n)) ≡ n = length-map-range_with_len (edge_in table) 0 n in
    ext_get_or no_edge (map (edge_in table) (range_with_len 0 n)) table size
    (λ i l. get_or-map-range_with_len (edge_in table) 0 n i i no_edge (omega (arith, l, size)) (omega arith))

pub edges_counted : (mesh : FaceList) (table : List Edge) (parts : PartsView) (counts : List ℕ) (k : ℕ) (alone : List Edge)
    → IsTableOf mesh table → AreParts mesh parts → k < length parts.components → k < length counts
    → IsCounted (place_of_edge table parts) (length table) counts → IsTableOf (component_mesh mesh parts k) alone
    → get_or counts k 0 ≡ length alone
unfolding in_component
edges_counted mesh table parts counts k alone h parted l b counted is =
    let kept : List Edge = filter (in_component parts k) table in
    let all : List ℕ = range_with_len 0 (length table) in
    let narrow : List Edge = map (narrowed_edge (component_mesh mesh parts k)) kept in
    counted k b
    ∙ sym (length-map (filter (λ e. eqb (place_of_edge table parts e) k) all) (edge_in table))
    ∙ ap (λ (es : List Edge). length es) (sym (filter-map (in_component parts k) (edge_in table) all))
    ∙ ap (λ (es : List Edge). length (filter (in_component parts k) es)) (edges_by_place table)
    ∙ sym (length-map kept (narrowed_edge (component_mesh mesh parts k)))
    ∙ ap (λ (es : List Edge). length es) (one_table (component_mesh mesh parts k) narrow alone
    (edges_alone mesh table parts k h parted l) is)

-- the lower end of an edge is a vertex of the mesh, of some component
pub low_placed : (mesh : FaceList) (table : List Edge) (parts : PartsView) (e : ℕ) → IsTableOf mesh table → AreParts mesh parts
    → e < length table → place_of_edge table parts e < length parts.components
low_placed mesh table parts e h parted l =
    parted.places.below (edge_in table e).low (tail_used mesh (edge_in table e).low (edge_in table e).high (table_pair mesh table e h l))
