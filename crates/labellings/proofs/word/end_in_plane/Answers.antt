use Rattle.labellings.proofs.Common.{flat_next, origin, quad_path, ◌≡◌, List, ℕ, ap₂, ◌∙◌, arith, to_z, of_z, w64, led}
use Rattle.std.proofs.lemmas.Int.{ints}
use Rattle.labellings.proofs.WordLemmas.{vector, flat_word}
use Rattle.labellings.proofs.word.end_in_plane.Goals as goal

pub returns : goal.returns
returns c =
    let mesh = c.args.faces.now in
    let path : List ℕ = quad_path mesh c.args.good.now c.args.walk.now in
    let start : c.new-form.result ≡ origin = c.new-form.ensures in
    let there : c.fold.new.form ≡ led flat_next c.args.good.now.places origin path = grind (arith, led) in
    let right : to_z w64 (of_z w64 c.x.result) ≡ c.x.result = omega (arith, ints, c.x.type_inv) in
    let up : to_z w64 (of_z w64 c.y.result) ≡ c.y.result = omega (arith, ints, c.y.type_inv) in
    flat_word mesh c.args.good.now c.args.walk.now (to_z w64 (of_z w64 c.x.result)) (to_z w64 (of_z w64 c.y.result)) c.requires.four
    (ap₂ vector (right ∙ c.x.ensures) (up ∙ c.y.ensures) ∙ there)
