use Rattle.orientation_cover.proofs.Common.{AreClaimClasses, ◌≡◌, ◌+◌, ℕ, List, ap, sym, ◌∙◌, subst, arith, get_or_from_slice_get, range_with_len, partners_of_edge, edge_in, ArePartners}
use Rattle.orientation_cover.proofs.ClassLemmas.{no_side, side_in, CarriesUpTo, edges_none, edge_passed, edge_joined, edges_all}
use Rattle.orientation_cover.proofs.claims.claim_classes.Goals as goal
use Rattle.orientation_cover.proofs.claims.claim_classes.Goals.{then-sides_of-eq2, else-sides_of-eq2}

pub loop-edge-init : goal.loop-edge-init
loop-edge-init c =
    let mesh = c.args.faces.now in
    edges_none mesh c.args.sides.now c.in_ok-claims.claims
    (c.in_ok-claims.ensures ∙ ap (range_with_len 0) (omega (arith, c.total.ensures)))

pub join_across-requires-clause-partners : goal.join_across-requires-clause-partners
join_across-requires-clause-partners c =
    let mesh = c.args.faces.now in
    let table = c.args.sides.now in
    let k : ℕ = c.loop-edge.edge in
    let first : side_in table k 0 ≡ c.side.result = get_or_from_slice_get (edge_in table k).sides 0 c.side.result no_side c.side.ensures in
    let second : side_in table k 1 ≡ c.side-then-sides_of-eq2.result =
    get_or_from_slice_get (edge_in table k).sides 1 c.side-then-sides_of-eq2.result no_side c.side-then-sides_of-eq2.ensures in
    subst (ArePartners mesh c.side.result) second
    (subst (λ s. ArePartners mesh s (side_in table k 1)) first
    (partners_of_edge mesh table k 0 1 no_side c.requires.table (omega arith) (omega arith) (omega arith)))

pub loop-edge-preserved : goal.loop-edge-preserved
loop-edge-preserved c =
    let mesh = c.args.faces.now in
    let table = c.args.sides.now in
    let k : ℕ = c.loop-edge.edge in
    elim c.if-sides_of-eq2.branch [
      | then-sides_of-eq2 w ↦
          subst (λ (least : List ℕ). CarriesUpTo mesh table least (k + 1)) (sym w.claims-is)
          (edge_joined mesh table c.loop-edge.claims w.join_across.new.claims k w.side.result w.side-then-sides_of-eq2.result
          c.requires.table (omega arith)
          (get_or_from_slice_get (edge_in table k).sides 0 w.side.result no_side w.side.ensures)
          (get_or_from_slice_get (edge_in table k).sides 1 w.side-then-sides_of-eq2.result no_side w.side-then-sides_of-eq2.ensures)
          w.join_across.ensures c.loop-edge.invariant)
      | else-sides_of-eq2 w ↦
          subst (λ (least : List ℕ). CarriesUpTo mesh table least (k + 1)) (sym w.claims-is)
          (edge_passed mesh table c.loop-edge.claims k c.requires.table (omega arith) (λ two. omega arith) c.loop-edge.invariant)
    ]

pub returns-clause-classes : goal.returns-clause-classes
returns-clause-classes c =
    let mesh = c.args.faces.now in
    subst (AreClaimClasses mesh) (sym c.into_least.ensures.members)
    (edges_all mesh c.args.sides.now c.loop-edge.claims c.loop-edge.edge c.requires.table c.requires.few (omega arith)
    c.loop-edge.invariant)
