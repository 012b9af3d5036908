use Rattle.tree_cotree.proofs.Common.{edge_of, Rotations, rotations_of, ◌≡◌, ◌+◌, ◌<◌, ℕ, length, sym, ap, ◌∙◌, subst, arith, set, Some, None, IsMarked, kept_at}
use Rattle.tree_cotree.proofs.SearchLemmas.{kept_read}
use Rattle.tree_cotree.proofs.TreeLemmas.{marks_skip, marks_more}
use Rattle.tree_cotree.proofs.marking.mark.Goals.{in-Some, in_default}
use Rattle.tree_cotree.proofs.marking.mark.Goals as goal

pub edge_of-requires : goal.edge_of-requires
edge_of-requires c =
    let some : kept_at c.args.from.now c.loop-node.node ≡ Some c.in-Some.dart.0 =
    kept_read c.args.from.now c.loop-node.node c.index-from-node.result c.dart.result (Some c.in-Some.dart) (omega arith)
    c.index-from-node.is c.dart.ensures c.in-Some.is in grind arith

pub loop-node-preserved : goal.loop-node-preserved
loop-node-preserved c =
    let s = c.args.surface.now in
    let maps : Rotations = rotations_of s in
    let from = c.args.from.now in
    let n : ℕ = c.loop-node.node in
    elim c.match-dart.branch [
      | in-Some w ↦
          (let x : ℕ = w.in-Some.dart.0 in
          let some : kept_at from n ≡ Some x = kept_read c.args.from.now c.loop-node.node c.index-from-node.result c.dart.result
          (Some w.in-Some.dart) (omega arith) c.index-from-node.is c.dart.ensures w.in-Some.is in
          let below : edge_of s x < length c.args.kinds.now.items =
          omega (arith, w.edge_of.ensures.within, w.edge_of.ensures.edge, c.requires.kinds) in
          let more : IsMarked maps from c.args.kind c.args.kinds.now.items (set c.loop-node.kinds.items (edge_of s x) c.args.kind) (n + 1) =
          marks_more x c.requires.apart c.loop-node.invariant some below (c.requires.free n x some) in
          let is : c.match-dart.kinds.items ≡ set c.loop-node.kinds.items (edge_of s x) c.args.kind =
          ap (λ v. v.items) w.kinds-is ∙ ap (λ e. set c.loop-node.kinds.items e c.args.kind) w.edge_of.ensures.edge in
          subst (λ ks. IsMarked maps from c.args.kind c.args.kinds.now.items ks (n + 1)) (sym is) more)
      | in_default w ↦
          (let is : c.match-dart.kinds.items ≡ c.loop-node.kinds.items = ap (λ v. v.items) w.kinds-is in
          subst (λ ks. IsMarked maps from c.args.kind c.args.kinds.now.items ks (n + 1)) (sym is) (marks_skip c.loop-node.invariant
          (kept_read c.args.from.now c.loop-node.node c.index-from-node.result c.dart.result None (omega arith) c.index-from-node.is
          c.dart.ensures w.in_default.is)))
    ]
