use Rattle.halfedge_map.proofs.Common.{signed, ◌≡◌, ℕ, ◌+◌, cond, ◌++◌, ◌∷◌, [], true, length, arith, first_side, face_at, next_corner, is_flipped}
use Rattle.halfedge_map.proofs.StoringLemmas.{first_side-more, origins_more}
use Rattle.halfedge_map.proofs.darts.push_starts.Goals as goal

pub loop-at-preserved : goal.loop-at-preserved
loop-at-preserved c =
    let mesh = c.args.faces.now in
    let signs = c.args.signs.now in
    let f : ℕ = c.args.face.0 in
    let m : ℕ = length (face_at mesh f) in
    let t : ℕ = c.loop-at.at in
    let sides : c.sides-sides.result ≡ m = c.sides-sides.ensures in
    let flips : c.flipped-flipped.result ≡ is_flipped signs f = c.flipped-flipped.ensures in
    let start : c.if-flipped.start ≡ cond (is_flipped signs f) (next_corner true m t) t = grind arith in
    let put : c.push.new.self.items ≡ c.loop-at.origin.items ++ c.corner.result ∷ [] = c.in_ok-push.ensures.items in
    rw put
    (origins_more (signed mesh signs) f t c.if-flipped.start c.loop-at.origin.items c.corner.result c.requires.face
    (omega (arith, c.loop-at-test.true, sides)) c.loop-at.invariant start c.corner.ensures)

pub returns : goal.returns
returns c = grind (arith, first_side, first_side-more, signed)
