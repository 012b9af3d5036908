use Rattle.halfedge_map.proofs.Common.{signed, ◌≡◌, ℕ, ◌+◌, not, ◌++◌, ◌∷◌, [], length, refl, arith, common_steps, first_side, face_at, next_corner, is_flipped, DartName}
use Rattle.halfedge_map.proofs.StoringLemmas.{first_side-more, nexts_more, dart_small}
use Rattle.halfedge_map.proofs.darts.push_nexts.Goals as goal

pub overflow_add-first : goal.overflow_add-first
overflow_add-first c = grind (arith, common_steps, first_side, dart_small)

pub loop-at-preserved : goal.loop-at-preserved
loop-at-preserved c =
    let mesh = c.args.faces.now in
    let signs = c.args.signs.now in
    let f : ℕ = c.args.face.0 in
    let m : ℕ = length (face_at mesh f) in
    let t : ℕ = c.loop-at.at in
    let sides : c.sides-sides.result ≡ m = c.sides-sides.ensures in
    let flips : c.flipped-flipped.result ≡ is_flipped signs f = c.flipped-flipped.ensures in
    let next : c.first_dart-first.result.0 + c.corner_after.result ≡ first_side mesh f + next_corner (not (is_flipped signs f)) m t =
    rw (c.first_dart-first.ensures, c.corner_after.ensures.corner, sides, flips) refl in
    let x : DartName = record { 0 = c.first_dart-first.result.0 + c.corner_after.result } in
    let pushed : c.push.new.self.items ≡ c.loop-at.next.items ++ x ∷ [] = c.in_ok-push.ensures.items in
    rw pushed
    (nexts_more (signed mesh signs) f t c.loop-at.next.items x c.requires.face (omega (arith, c.loop-at-test.true, sides))
    c.loop-at.invariant next)

pub returns : goal.returns
returns c = grind (arith, first_side, first_side-more, signed)
