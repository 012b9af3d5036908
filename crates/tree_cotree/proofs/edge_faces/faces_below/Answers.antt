use Rattle.tree_cotree.proofs.Common.{edge_of, OrientedMesh, Rotations, rotations_of, ◌≡◌, ◌<◌, ◌+◌, ℕ, List, length, ap, sym, ◌∙◌, subst, arith, set, length-set, Option, Some, FaceList, AreBelowEdges, kept_at}
use Rattle.tree_cotree.proofs.SearchLemmas.{kept_read}
use Rattle.tree_cotree.proofs.BelowLemmas.{faces_skip, faces_more}
use Rattle.tree_cotree.proofs.edge_faces.faces_below.Goals.{in-Some, in_default}
use Rattle.tree_cotree.proofs.edge_faces.faces_below.Goals as goal

pub edge_of-requires : goal.edge_of-requires
edge_of-requires c =
    let count = c.len-face-end.ensures.count ∙ ap (λ (m : FaceList). length m.faces) c.faces.ensures.mesh in
    let within : c.loop-face.face < length c.args.from.now = omega (arith, c.loop-face-test.true, count, c.requires.each_face) in
    let some : kept_at c.args.from.now c.loop-face.face ≡ Some c.in-Some.dart.0 =
    kept_read c.args.from.now c.loop-face.face c.index-from-face.result c.dart.result (Some c.in-Some.dart) within
    c.index-from-face.is c.dart.ensures c.in-Some.is in grind arith

pub loop-face-preserved : goal.loop-face-preserved
loop-face-preserved c =
    let s : OrientedMesh = c.args.surface.now in
    let maps : Rotations = rotations_of s in
    let from : List (Option ℕ) = c.args.from.now in
    let n : ℕ = c.loop-face.face in
    let old : List (Option ℕ) = c.loop-face.below.items in
    let new : List (Option ℕ) = c.match-dart.below.items in
    let count = c.len-face-end.ensures.count ∙ ap (λ (m : FaceList). length m.faces) c.faces.ensures.mesh in
    let within : n < length from = omega (arith, c.loop-face-test.true, count, c.requires.each_face) in
    elim c.match-dart.branch [
      | in-Some w ↦
          (let x : ℕ = w.in-Some.dart.0 in
          let some : kept_at from n ≡ Some x = kept_read from n c.index-from-face.result c.dart.result (Some w.in-Some.dart) within
          c.index-from-face.is c.dart.ensures w.in-Some.is in
          let is : new ≡ set old (edge_of s x) (Some n) = grind arith in
          record {
            long = ap (λ (fs : List (Option ℕ)). length fs) is ∙ length-set old (edge_of s x) (Some n)
                ∙ c.loop-face.invariant.long;
            kept = subst (λ fs. AreBelowEdges maps from (length s.table) (kept_at fs) (n + 1)) (sym is)
                (faces_more x old c.requires.apart c.loop-face.invariant.long c.loop-face.invariant.kept
                some (subst (λ e. e < length s.table) w.edge_of.ensures.edge w.edge_of.ensures.within));
          })
      | in_default w ↦ grind (arith, faces_skip, kept_read)
    ]
