-- Vertices in classes, as the edges of the table are gone through.
use Rattle.connectivity.proofs.Common.{joined_at, JoinsOnlyBySteps, IsEdgeStep, AreComponents, ◌≡◌, inl, inr, ℕ, ◌+◌, ◌<◌, ◌≤◌, List, length, get_or, ap, sym, ◌∙◌, subst, arith, below_more, length-range_with_len, range_with_len, IsEdgeBetween, edge_between, table_pair, Edge, IsTableOf, edge_in, FaceList, IsFaceList}
use Rattle.connectivity.proofs.Joining.{length-joined_at, joined_at_ends, joined_at_keeps, joins_only-joined_at, joins_only-alone}
use Rattle.connectivity.proofs.EdgeLemmas.{edge_swap, ends_below}

-- the ends of the first k edges have one entry each two, and equal entries come by edges alone
pub record JoinsEdgesUpTo (mesh : FaceList) (table : List Edge) (least : List ℕ) (k : ℕ) : Type 0 where
  pub count : length least ≡ mesh.count
  pub joined : JoinsOnlyBySteps (λ v. v < mesh.count) (λ v. v) (IsEdgeStep mesh) least
  pub done : (j : ℕ) → j < k → get_or least (edge_in table j).low 0 ≡ get_or least (edge_in table j).high 0

pub edges_none : (mesh : FaceList) (table : List Edge) (least : List ℕ) → least ≡ range_with_len 0 mesh.count
    → JoinsEdgesUpTo mesh table least 0
edges_none mesh table least is =
    let joined : JoinsOnlyBySteps (λ v. v < mesh.count) (λ v. v) (IsEdgeStep mesh) (range_with_len 0 mesh.count) =
    joins_only-alone (λ v. v < mesh.count) (λ v. v) (IsEdgeStep mesh) mesh.count (λ v below. below) (λ v w is_v is_w same. same) in
    record {
      count = ap (λ (l : List ℕ). length l) is ∙ length-range_with_len 0 mesh.count;
      joined = subst (JoinsOnlyBySteps (λ v. v < mesh.count) (λ v. v) (IsEdgeStep mesh)) (sym is) joined;
      done = λ j l. absurd (omega arith);
    }

pub edges_more : (mesh : FaceList) (table : List Edge) (least : List ℕ) (k low high : ℕ) → IsFaceList mesh → IsTableOf mesh table
    → k < length table
    → low ≡ (edge_in table k).low → high ≡ (edge_in table k).high → JoinsEdgesUpTo mesh table least k
    → JoinsEdgesUpTo mesh table (joined_at least low high) (k + 1)
edges_more mesh table least k low high valid h l is_low is_high upto =
    let edge : Edge = edge_in table k in
    let below = ends_below mesh table k valid h l in
    let there : IsEdgeStep mesh edge.low edge.high = table_pair mesh table k h l in
    let back : IsEdgeStep mesh edge.high edge.low = edge_swap mesh edge.low edge.high there in
    let more : JoinsEdgesUpTo mesh table (joined_at least edge.low edge.high) (k + 1) = record {
      count = length-joined_at least edge.low edge.high ∙ upto.count;
      joined = joins_only-joined_at (λ v. v < mesh.count) (λ v. v) (IsEdgeStep mesh) least edge.low edge.high upto.joined
          (λ v b. omega (arith, upto.count, b)) below.0 below.1 there back;
      done = below_more _ _
          (λ j b.
          let ends = ends_below mesh table j valid h (omega arith) in
          joined_at_keeps least edge.low edge.high (edge_in table j).low (edge_in table j).high (omega (arith, upto.count, ends.0))
          (omega (arith, upto.count, ends.1)) (upto.done j b))
          (joined_at_ends least edge.low edge.high (omega (arith, upto.count, below.0)) (omega (arith, upto.count, below.1)));
    } in
    subst (λ x. JoinsEdgesUpTo mesh table (joined_at least x high) (k + 1)) (sym is_low)
    (subst (λ x. JoinsEdgesUpTo mesh table (joined_at least edge.low x) (k + 1)) (sym is_high) more)

pub edges_all : (mesh : FaceList) (table : List Edge) (least : List ℕ) (k : ℕ) → IsTableOf mesh table → length table ≤ k
    → JoinsEdgesUpTo mesh table least k → AreComponents mesh least
edges_all mesh table least k h l upto = record {
  joined = upto.joined;
  steps = λ u v is.
      let found : IsEdgeBetween table u v = edge_between mesh table u v h is in
      let edge : Edge = edge_in table found.edge in
      let same : get_or least edge.low 0 ≡ get_or least edge.high 0 = upto.done found.edge (omega (arith, found.in_table)) in
      elim found.ends [
        | inl e ↦ ap (λ x. get_or least x 0) (sym e.0) ∙ same ∙ ap (λ x. get_or least x 0) e.1
        | inr e ↦ ap (λ x. get_or least x 0) (sym e.1) ∙ sym same ∙ ap (λ x. get_or least x 0) e.0
      ];
}
