use Rattle.quad_system.proofs.Common.{at_corners, numbers_alone, ◌≡◌, refl, ◌+◌, ◌++◌, length, take, drop, ap, ◌∙◌, arith, List, ℕ, with_items_is, between, first_side, FaceList, face_at, is_flipped}
use Rattle.quad_system.proofs.PolygonMakingLemmas.{made_none, made_more, made_all, made_stored, face_within}
use Rattle.quad_system.proofs.from_polygon.laid_out.Goals as goal

pub loop-face-init : goal.loop-face-init
loop-face-init c = grind (arith, made_none)

pub to_corners-requires-clause-within : goal.to_corners-requires-clause-within
to_corners-requires-clause-within c = grind (arith, first_side, face_within)

pub loop-face-preserved : goal.loop-face-preserved
loop-face-preserved c =
    let s = c.args.surface.now in
    let polygon = numbers_alone c.args.degree c.args.numbers.labels.items c.args.numbers.places.items in
    let k = c.loop-face.face in
    let labels = c.loop-face.labels in
    let count : c.len-faces.result ≡ length s.mesh.faces =
    c.len-faces.ensures.count ∙ ap (λ (mesh : FaceList). length mesh.faces) c.faces.ensures.mesh in
    let start : c.first_dart-start.result.0 ≡ first_side s.mesh k =
    c.first_dart-start.ensures ∙ ap (λ mesh. first_side mesh k) c.faces-in-loop-face.ensures.mesh in
    let sides : c.sides.result ≡ length (face_at s.mesh k) =
    c.sides.ensures ∙ ap (λ mesh. length (face_at mesh k)) c.faces-in-loop-face-2.ensures.mesh in
    let end : ℕ = c.first_dart-start.result.0 + c.sides.result in
    let flip : c.flipped-flipped.result ≡ is_flipped s.signs k =
    c.flipped-flipped.ensures ∙ ap (λ signs. is_flipped signs k) c.signs.ensures in
    let turned : c.to_corners.new.labels
    ≡ take c.first_dart-start.result.0 labels.items ++ at_corners c.flipped-flipped.result
    (between c.first_dart-start.result.0 end labels.items) ++ drop end labels.items =
    c.to_corners.ensures
    ∙ ap (λ (xs : List ℕ). take c.first_dart-start.result.0 xs
    ++ at_corners c.flipped-flipped.result (between c.first_dart-start.result.0 end xs) ++ drop end xs)
    c.deref_mut.ensures.value in
    let made = made_more s polygon k c.loop-face.signs.items c.loop-face.ends.items labels.items c.to_corners.new.labels
    c.flipped-flipped.result
    c.first_dart-start.result.0 end c.faces.ensures.valid.faces c.faces.ensures.small
    (omega (arith, count, c.len-faces.type_inv)) c.requires.labels
    c.loop-face.invariant
    (omega (arith, c.loop-face-test.true, count)) flip start (ap (λ n. c.first_dart-start.result.0 + n) sides) turned in
    let kept = with_items_is labels c.to_corners.new.labels (omega (arith, made.each_dart, c.loop-face.invariant.each_dart, labels.ok.0)) in
    rw (c.in_ok-push.ensures.items, c.in_ok-push-2.ensures.items, kept) made

pub from_parts-requires : goal.from_parts-requires
from_parts-requires c = grind (arith, made_stored)

pub returns : goal.returns
returns c =
    let s = c.args.surface.now in
    let all : c.loop-face.face ≡ length s.mesh.faces = grind arith in
    c.from_parts.ensures
    ∙ made_all s (numbers_alone c.args.degree c.args.numbers.labels.items c.args.numbers.places.items) c.loop-face.face c.args.degree
    c.loop-face.signs.items
    c.loop-face.ends.items c.loop-face.labels.items c.args.numbers.places.items all c.loop-face.invariant refl refl
