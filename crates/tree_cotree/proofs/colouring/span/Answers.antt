use Rattle.tree_cotree.proofs.Common.{OrientedMesh, ◌<◌, ◌≤◌, ℕ, List, length, ap, sym, subst, arith, Edge, IsEdgeTried, kind_over, Kind}
use Rattle.tree_cotree.proofs.ColouringLemmas.{kind_not_left, spanning_none, spanning_early, spanning_next, spanning_all}
use Rattle.tree_cotree.proofs.colouring.span.Goals.{then-begins_vertex, else-begins_vertex}
use Rattle.tree_cotree.proofs.colouring.span.Goals as goal

pub loop-early-init : goal.loop-early-init
loop-early-init c =
    let kind : Kind = kind_over c.args.nodes in
    spanning_none c.args.surface.now c.args.nodes kind c.args.kinds.now.items c.args.classes c.requires.alone c.requires.free

pub loop-early-preserved : goal.loop-early-preserved
loop-early-preserved c =
    let kind : Kind = kind_over c.args.nodes in
    let s : OrientedMesh = c.args.surface.now in
    let old : List Kind = c.args.kinds.now.items in
    let m : ℕ = c.loop-early.early in
    let within : m < length s.table = subst (λ (t : List Edge). m < length t) c.sides.ensures.table
    (omega (arith, c.loop-early-test.true, c.first_round-early-end.ensures, c.len-edges.ensures)) in
    let few : m < length c.loop-early.kinds.items = omega (arith, within, c.requires.kinds, c.loop-early.invariant.long) in
    elim c.if-begins_vertex.branch [
      | then-begins_vertex w ↦
          spanning_early c.requires.valid within few (kind_not_left c.args.nodes)
          (subst (λ ks. IsEdgeTried s c.args.nodes kind m c.loop-early.classes c.if-begins_vertex.classes c.loop-early.kinds.items ks)
          (sym (ap (λ v. v.items) w.kinds-is))
          (subst (λ r. IsEdgeTried s c.args.nodes kind m c.loop-early.classes r c.loop-early.kinds.items w.try_edge.new.kinds.items)
          (sym w.classes-is) w.try_edge.ensures)) c.loop-early.invariant
      | else-begins_vertex w ↦ grind arith
    ]

pub loop-edge-preserved : goal.loop-edge-preserved
loop-edge-preserved c =
    let s : OrientedMesh = c.args.surface.now in
    let n : ℕ = c.loop-edge.edge in
    let within : n < length s.table = grind arith in
    spanning_next c.requires.valid within
    (omega (arith, within, c.requires.kinds, c.loop-edge.invariant.long)) (kind_not_left c.args.nodes) c.try_edge-in-loop-edge.ensures
    c.loop-edge.invariant

pub returns : goal.returns
returns c =
    spanning_all c.requires.valid c.requires.together (subst (λ (t : List Edge). length t ≤ c.loop-edge.edge) c.sides.ensures.table
    (omega (arith, c.loop-edge-test.false, c.len-edges.ensures))) c.loop-edge.invariant
