use Rattle.move_lifting.proofs.Common.{IsFreelyPath, after_path_step, PathLeads, PathStep, Spur, ◌≡◌, ℕ, ◌≤◌, List, [], length, get_or, refl, ap, sym, ◌∙◌, subst, arith}
use Rattle.std.proofs.Common.{Some}
use Rattle.move_lifting.proofs.ContractLemmas.{led_walk, next_allowed, contracted_on, all_contracted, one_left}
use Rattle.move_lifting.proofs.ShortStepLemmas.{step_no_longer}
use Rattle.move_lifting.proofs.contracting.contract.Goals as goal

pub loop-step-init : goal.loop-step-init
loop-step-init c = record {
  so_far = record {
    goes = λ first rest l h. h;
    there = c.requires.led.some;
    no_spur = c.requires.no_spur;
    starts = refl;
    last = refl;
    spokes = c.requires.spokes;
    below = c.requires.reduction.below;
    leads = subst (λ (x : List PathStep). PathLeads c.args.cut.now.polygon.now.places c.args.reduction.spokes.items x [])
        (sym c.deref-step-items.ensures.value)
        c.requires.reduction.leads;
  };
  few = omega arith;
  low = λ pairs few bound begun room. begun;
  looper = c.new-looper.ensures c.args.cut.now.on.surface.now c.args.cut.now.on.split.now c.args.cut.now.polygon.now;
}

pub follow-requires-clause-allowed : goal.follow-requires-clause-allowed
follow-requires-clause-allowed c =
    let allowed = next_allowed c.requires.cut.surface c.deref-step-items.result.now c.loop-step.step-index (Spur 0) c.loop-step-test.true
    c.loop-step.invariant.so_far in
    (allowed.0, ap (after_path_step c.args.cut.now.polygon.now.places _) c.deref.ensures.value ∙ allowed.1)

pub follow-requires-clause-walk : goal.follow-requires-clause-walk
follow-requires-clause-walk c =
    led_walk c.requires.cut.surface c.requires.led c.loop-step.invariant.so_far

pub take_step-requires : goal.take_step-requires
take_step-requires c =
    let allowed = next_allowed c.requires.cut.surface c.deref-step-items.result.now c.loop-step.step-index (Spur 0) c.loop-step-test.true
    c.loop-step.invariant.so_far in (
      allowed.0,
      ap (λ (places : List ℕ). after_path_step places (get_or c.deref-step-items.result.now c.loop-step.step-index (Spur 0))
          c.loop-step.path.items) c.requires.reduction.wheel ∙ allowed.1,
    )

pub loop-step-preserved : goal.loop-step-preserved
loop-step-preserved c =
    let step : PathStep = get_or c.deref-step-items.result.now c.loop-step.step-index (Spur 0) in
    let taken : after_path_step c.args.cut.now.polygon.now.places step c.loop-step.path.items ≡ Some c.take_step.new.path.items =
    subst (λ (places : List ℕ). after_path_step places step c.loop-step.path.items ≡ Some c.take_step.new.path.items)
    c.requires.reduction.wheel c.take_step.ensures in
    let so_far = contracted_on c.requires.cut.surface c.in_ok-track.track c.take_step.new.path.items c.deref-step-items.result.now
    c.loop-step.step-index (Spur 0) c.loop-step-test.true c.loop-step.invariant.so_far taken c.in_ok-track.ensures.leads
    c.in_ok-track.ensures.some c.in_ok-track.ensures.no_spur c.in_ok-track.ensures.starts c.in_ok-track.ensures.last (λ other e.
    c.in_ok-track.ensures.spokes other (ap (after_path_step c.args.cut.now.polygon.now.places step) c.deref.ensures.value ∙ e)) in
    let shorter : length c.take_step.new.path.items ≤ length c.loop-step.path.items =
    step_no_longer c.args.cut.now.polygon.now.places step c.loop-step.path.items c.take_step.new.path.items taken in
    record {
      so_far = so_far;
      few = omega (arith, shorter, c.loop-step.invariant.few);
      low = λ pairs few bound begun room.
          c.in_ok-track.ensures.peak pairs
          (omega (arith, few, c.loop-step.invariant.few, ap (λ (l : List ℕ). length l) c.deref.ensures.value)) bound
          (c.loop-step.invariant.low pairs few bound begun room) room;
      looper = c.in_ok-track.ensures.looper;
    }

pub returns-clause-nothing : goal.returns-clause-nothing
returns-clause-nothing c =
    all_contracted c.requires.cut.surface c.deref-step-items.result.now c.loop-step.step-index (omega (arith, c.loop-step-test.false))
    c.requires.led c.loop-step.invariant.so_far

pub follow-requires-clause-spokes : goal.follow-requires-clause-spokes
follow-requires-clause-spokes c =
    subst (λ (l : List ℕ). IsFreelyPath c.args.cut.now.on.surface.now c.args.cut.now.on.split.now c.args.cut.now.polygon.now l
    c.loop-step.track.walk) (sym c.deref.ensures.value)
    c.loop-step.invariant.so_far.spokes

pub follow-requires-clause-looping : goal.follow-requires-clause-looping
follow-requires-clause-looping c = record { cut = c.requires.cut; behind = c.requires.behind }

pub follow-requires-clause-few : goal.follow-requires-clause-few
follow-requires-clause-few c = grind arith

pub returns-then-is_one_vertex-clause-nothing : goal.returns-then-is_one_vertex-clause-nothing
returns-then-is_one_vertex-clause-nothing c = grind (arith, one_left)
