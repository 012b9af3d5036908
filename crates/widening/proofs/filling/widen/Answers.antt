use Rattle.widening.proofs.Common.{LabellingView, labels_at, IsOfComponent, piece_of_parts, IsPiece, ◌≡◌, ◌<◌, ℕ, List, length, take, replicate, ap, sym, ◌∙◌, subst, arith, both_ways, take-replicate, component_at, face_at, IsWidened}
use Rattle.widening.proofs.WidenedLemmas.{Widening, good_widened}
use Rattle.widening.proofs.WidenedPaths.{path_alike}
use Rattle.widening.proofs.WideningLemmas.{with_places, widened_named, widened_other, widened_all}
use Rattle.widening.proofs.filling.widen.Goals as goal
use Rattle.widening.proofs.filling.widen.Goals.{then-is_next+in_ok-push_face, else-is_next+in_ok-push_face-2}

pub overflow_add-next : goal.overflow_add-next
overflow_add-next c =
    omega (
      arith,
      c.loop-face.invariant.passed,
      c.loop-face-test.true,
      c.len-face-end.ensures.count,
      c.len-face-end.ensures.small.few_sides,
      c.loop-face.auto.next-fits,
    )

pub loop-face-preserved : goal.loop-face-preserved
loop-face-preserved c =
    let mesh = c.args.faces.now in
    let parts = c.args.parts.now in
    let names : List ℕ = component_at parts c.args.part in
    let narrow : LabellingView = c.args.good.now in
    let wide : LabellingView = c.loop-face.wide in
    let n : ℕ = c.loop-face.face in
    let next : ℕ = c.loop-face.next in
    let Inside : ℕ → Type 0 = IsOfComponent parts.places c.args.part in
    let piece : IsPiece mesh Inside names = piece_of_parts mesh parts c.args.part c.requires.parts c.requires.part in
    let there : n < length mesh.faces = omega (arith, c.loop-face-test.true, c.len-face-end.ensures.count) in
    let signed : n < length c.args.signs.now = omega (arith, there, c.requires.coherent.each_face) in
    elim c.if-is_next.branch [
      | then-is_next+in_ok-push_face w ↦
          (let is = c.is_next.ensures.0 w.if-is_next.true in
          rw (w.next-is, w.wide-is, w.in_ok-push_face.ensures.ok)
          (widened_named mesh Inside c.args.signs.now names narrow wide n next c.flipped-flipped.result w.labels.result.now piece
          c.loop-face.invariant signed c.flipped-flipped.ensures is.0 is.1
          (w.labels.ensures ∙ ap (λ (x : LabellingView). labels_at x next) c.labelling-narrow.ensures)))
      | else-is_next+in_ok-push_face-2 w ↦
          (let zeros : take w.sides.result w.deref.result.now ≡ replicate (length (face_at mesh n)) 0 =
          ap (λ (zs : List ℕ). take w.sides.result zs) (w.deref.ensures.value ∙ c.in_ok-zeros.ensures.all)
          ∙ ap (λ k. take k (replicate (length c.in_ok-zeros.zeros.items) 0)) w.sides.ensures
          ∙ take-replicate (length (face_at mesh n)) (length c.in_ok-zeros.zeros.items) 0 (c.in_ok-zeros.ensures.enough n there) in
          rw (w.next-is, w.wide-is, w.in_ok-push_face-2.ensures.ok)
          (widened_other mesh c.args.signs.now names narrow wide n next c.flipped-flipped.result (take w.sides.result w.deref.result.now)
          c.loop-face.invariant signed c.flipped-flipped.ensures
          (λ both. both_ways c.is_next.result w.if-is_next.false (c.is_next.ensures.1 both)) piece.rising zeros))
    ]

pub returns : goal.returns
returns c =
    let mesh = c.args.faces.now in
    let parts = c.args.parts.now in
    let names : List ℕ = component_at parts c.args.part in
    let narrow : LabellingView = c.args.good.now in
    let Inside : ℕ → Type 0 = IsOfComponent parts.places c.args.part in
    let piece : IsPiece mesh Inside names = piece_of_parts mesh parts c.args.part c.requires.parts c.requires.part in
    let all : c.loop-face.face ≡ length mesh.faces =
    omega (arith, c.loop-face-test.false, c.len-face-end.ensures.count, c.loop-face.auto.face-end) in
    let whole : c.put_places.new.wide ≡ with_places c.loop-face.wide narrow.places =
    c.in_ok-put_places.ensures ∙ ap (λ (x : LabellingView). with_places c.loop-face.wide x.places) c.labelling-narrow.ensures in
    let widened : IsWidened mesh c.args.signs.now names narrow c.put_places.new.wide =
    subst (IsWidened mesh c.args.signs.now names narrow) (sym whole)
    (widened_all mesh c.args.signs.now names narrow c.loop-face.wide c.loop-face.face c.loop-face.next c.loop-face.invariant all
    c.requires.coherent.each_face piece.each) in
    let widening : Widening mesh parts c.args.part c.args.signs.now narrow c.put_places.new.wide = record {
      valid = c.len-face-end.ensures.valid;
      parts_of = c.requires.parts;
      within = c.requires.part;
      closed = c.requires.closed;
      coherent = c.requires.coherent;
      good = c.requires.good;
      signs_are = c.requires.signs;
      widened = widened;
      piece = piece;
    } in
    record {
      widened = widened;
      good = good_widened mesh parts c.args.part c.args.signs.now narrow c.put_places.new.wide widening;
      paths = λ walk w start. path_alike mesh parts c.args.part c.args.signs.now narrow c.put_places.new.wide walk widening w start;
    }
