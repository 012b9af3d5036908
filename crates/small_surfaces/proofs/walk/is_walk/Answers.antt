use Rattle.std.proofs.Common.{◌≡◌, ◌∙◌, sym, true, false, arith, get_or, ap}
use Rattle.std.specs.Prelude.{not}
use Rattle.surf_model.specs.FaceLists.{is_used}
use Rattle.small_surfaces.proofs.WalkLemmas.{walk_goes_on, walk_or_nothing, unused_is_no_walk}
use Rattle.small_surfaces.proofs.walk.is_walk.Goals as goal
use Rattle.small_surfaces.proofs.walk.is_walk.Goals.{else-place-gt0-via-then-place-gt0+else-is_none, else-place-gt0-via-else-place-gt0}

pub returns-then-not-used : goal.returns-then-not-used
returns-then-not-used c =
    let unused : is_used c.args.surface.now.mesh (get_or c.args.vertices.now c.loop-place.place 0) ≡ false =
    sym (c.used.ensures.mesh c.args.surface.now.mesh (rw c.sides.ensures.table c.sides.ensures.valid.table)) ∙ c.if-not-used.true in (
      λ no. cc no,
      λ is. absurd (unused_is_no_walk c.args.surface.now.mesh c.args.vertices.now c.loop-place.place c.loop-place-test.true
          unused is),
    )

pub loop-place-preserved : goal.loop-place-preserved
loop-place-preserved c =
    let used : is_used c.args.surface.now.mesh (get_or c.args.vertices.now c.loop-place.place 0) ≡ true =
    sym (c.used.ensures.mesh c.args.surface.now.mesh (rw c.sides.ensures.table c.sides.ensures.valid.table)) ∙ c.if-not-used.false in
    walk_goes_on c.args.surface.now.mesh c.args.vertices.now c.loop-place.place c.loop-place.invariant used
    (λ some. elim c.else-place-gt0.branch [
      | else-place-gt0-via-then-place-gt0+else-is_none w ↦ sym w.dart_between.ensures.edge ∙ w.is_none.ensures ∙ ap not w.if-is_none.false
      | else-place-gt0-via-else-place-gt0 w ↦ absurd (omega (arith, some, w.if-place-gt0.false))
    ])

pub returns : goal.returns
returns c =
    rw c.is_empty.ensures (walk_or_nothing c.args.surface.now.mesh c.args.vertices.now c.loop-place.place c.loop-place.invariant
    (omega (arith, c.loop-place.auto.place-end, c.loop-place-test.false)))
