use Rattle.spoke_paths.proofs.Common.{PathLeads, subst}
use Rattle.spoke_paths.proofs.Shortening.{short-pushed, all-read, reduced-from}
use Rattle.spoke_paths.proofs.reduce.reduce_spokes.Goals as goal

pub shorten_end-requires-clause-before : goal.shorten_end-requires-clause-before
shorten_end-requires-clause-before c =
    short-pushed c.args.wheel.now c.loop-spoke.front.items c.push.new.self.items _ c.in_ok-push.ensures.items c.loop-spoke.invariant.short

pub returns : goal.returns
returns c =
    let front = c.loop-spoke.front.items in
    let read = all-read front c.args.spokes.now c.loop-spoke.spoke-index c.loop-spoke-test.false in (
      front,
      subst (PathLeads c.args.wheel.now c.args.spokes.now c.loop-spoke.steps.items) read c.loop-spoke.invariant.leads,
      reduced-from
          c.args.wheel.now front c.loop-spoke.invariant.short,
    )
