use Rattle.move_checker.proofs.Common.{list_under-is, inserted, ◌<◌, ℕ, List, length, Some, ap, ◌∙◌, arith}
use Rattle.move_checker.proofs.Replacements.{pushed_last}
use Rattle.move_checker.proofs.tape.Tape.start.Goals as goal

pub loop-place-preserved : goal.loop-place-preserved
loop-place-preserved c =
    let within : c.loop-place.place < length c.args.walk.now = omega (arith, c.darts-darts.ensures.count, c.darts-darts.ensures.starts) in
    let now = list_under-is c.loop-place.pool.lists 0 _ c.loop-place.invariant.0 in (
      c.push_after.ensures.list.here
          ∙ ap (λ (l : List ℕ). Some (inserted l c.loop-place.place c.at.result.0)) now
          ∙ ap (λ (l : List ℕ). Some l) (pushed_last c.args.walk.now c.loop-place.place c.at.result.0 within c.at.ensures),
      omega (arith, c.push_after.ensures.spare, c.loop-place.invariant.1),
    )
