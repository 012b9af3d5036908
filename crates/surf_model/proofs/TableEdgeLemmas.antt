-- Edges of a mesh by its table: where an edge stands there, how many sides it has, and that places follow the order of the ends.
use Rattle.surf_model.proofs.Common.{◌≡◌, ◌⊎◌, inl, ℕ, ◌<◌, true, List, length, refl, ◌∙◌, arith, common_steps, get_or_default, Any-from_list_any, Edge, IsTableOf, IsEdgeOf, HasEnds, IsPairBefore, edge_in, FaceList, all_sides, joins, is_edge, sides_between}
use Rattle.surf_model.proofs.TableLemmas.{joins_swap, both_join, edge_from_table}

-- the edge of two vertices, by its place in the table
pub record IsEdgeBetween (table : List Edge) (u v : ℕ) : Type 0 where
  pub edge : ℕ
  pub in_table : edge < length table
  pub ends : HasEnds u v (edge_in table edge)

pub edge_between : (mesh : FaceList) (table : List Edge) (u v : ℕ) → IsTableOf mesh table → is_edge mesh u v ≡ true
    → IsEdgeBetween table u v
unfolding is_edge
edge_between mesh table u v h is =
    let any = Any-from_list_any (joins u v) (all_sides mesh) is in
    let found = h.complete any.0 any.1 any.2 in
    let at : edge_in table found.0 ≡ found.1 = get_or_default table found.0 _ found.1 found.2 ∙ found.3 in grind (arith, both_join)

-- the ends of an edge of the table form an edge
pub table_pair : (mesh : FaceList) (table : List Edge) (k : ℕ) → IsTableOf mesh table → k < length table
    → is_edge mesh (edge_in table k).low (edge_in table k).high ≡ true
table_pair mesh table k h l =
    let edge : Edge = edge_in table k in
    edge_from_table mesh table edge.low edge.high h (k, edge, l, get_or_default table k _ _ l, inl (refl, refl))

-- the number of sides of an edge of the table
pub sides_of_edge : (mesh : FaceList) (edge : Edge) → IsEdgeOf mesh edge → length edge.sides ≡ sides_between mesh edge.low edge.high
sides_of_edge mesh edge h = grind (arith, common_steps)

pub sides_between_swap : (mesh : FaceList) (u v : ℕ) → sides_between mesh u v ≡ sides_between mesh v u
sides_between_swap mesh u v = grind (arith, joins_swap)

-- two vertices in order are the ends of an edge in order
pub same_pair : (a b c d : ℕ) → a < b → c < d → ((c ≡ a) × (d ≡ b)) ⊎ ((c ≡ b) × (d ≡ a)) → (c ≡ a) × (d ≡ b)
same_pair a b c d up rise h = (grind arith, grind arith)

not_both_before : (a b c d : ℕ) → IsPairBefore a b c d → IsPairBefore c d a b → ⊥
not_both_before a b c d h k = grind arith

-- a pair that comes before an edge of the table has its place before it
pub place_before : (mesh : FaceList) (table : List Edge) (j k : ℕ) → IsTableOf mesh table → j < length table → k < length table
    → IsPairBefore (edge_in table j).low (edge_in table j).high (edge_in table k).low (edge_in table k).high → j < k
place_before mesh table j k h lj lk before = grind (arith, not_both_before)
