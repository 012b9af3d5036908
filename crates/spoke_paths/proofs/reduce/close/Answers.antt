use Rattle.spoke_paths.proofs.Common.{PathLeads, after_path_step, IsTurnedOver, Spur, ◌≡◌, ◌-◌, ◌<◌, ◌++◌, Some, true, arith, length, take, drop, get_or, suc, sym, ◌∙◌, ap, subst, length-remove, remove, if◌then◌else◌, minus}
use Rattle.spoke_paths.proofs.Closing.{closing-next, closed-is, spur-stands, below-remove, signs-of}
use Rattle.spoke_paths.proofs.Leading.{leads-more, spur-at, written}
use Rattle.spoke_paths.proofs.reduce.close.Goals as goal

pub loop-at-preserved : goal.loop-at-preserved
loop-at-preserved c =
    let places = c.args.wheel.now in
    let d = length places in
    let up = c.args.up in
    let now = c.loop-at.front.items in
    let new = c.turn_over-step.new.path in
    let same : c.deref_mut.result.now ≡ now = c.deref_mut.ensures.value in
    let over : IsTurnedOver places (c.loop-at.at - 1) (if up then minus d 1 else 1) (if up then 1 else minus d 1) now new =
    subst (λ z. IsTurnedOver places (c.loop-at.at - 1) (if up then minus d 1 else 1) (if up then 1 else minus d 1) z new) same
    c.turn_over-step.ensures.turned in
    let long = over.as_long in
    let long_now : length now ≡ c.loop-at.front.len = sym (ap length same) ∙ c.deref_mut.ensures.len in
    let is : take c.loop-at.front.len (new ++ drop (length new) now) ≡ new =
    written c.loop-at.front.len new now (long ∙ long_now) long_now in
    let lt = c.loop-at-test.true in
    rw is (record {
      below = c.turn_over-step.ensures.below;
      closing = closing-next places c.requires.wheel c.args.start _ _ _ _ (signs-of d up c.requires.quads.four) c.args.front.now.items now
          new c.loop-at.at (c.loop-at.at - 1) (omega arith)
          lt c.requires.opens.turn c.requires.opens c.loop-at.invariant.below c.loop-at.invariant.closing over
          c.turn_over-step.ensures.below;
      leads = λ begin rest led.
          subst (λ steps. PathLeads places begin steps (new ++ rest)) (sym c.in_ok-push.ensures.items)
          (leads-more places c.loop-at.steps.items c.turn_over-step.result begin (now ++ rest) (new ++ rest)
          (c.loop-at.invariant.leads begin rest led)
          (subst (λ z. after_path_step places c.turn_over-step.result (z ++ rest) ≡ Some (new ++ rest)) same
          (c.turn_over-step.ensures.leads rest)));
    })

pub returns-clause-below : goal.returns-clause-below
returns-clause-below c =
    let d = length c.args.wheel.now in
    let now = c.loop-at.front.items in
    let stop = c.loop-at-test.false in
    let positive = c.requires.opens.turn in
    let start_in : c.args.start < length now = omega arith in
    let once = below-remove d now c.args.start start_in c.loop-at.invariant.below in
    let items : c.remove-2.new.self.items ≡ remove (remove now c.args.start) (c.args.start - 1) =
    c.remove-2.ensures.items ∙ ap (λ z. remove z (c.args.start - 1)) c.remove.ensures.items in
    let long = length-remove now c.args.start start_in in
    rw items (below-remove d (remove now c.args.start) (c.args.start - 1) (omega arith) once)

pub returns-clause-closed : goal.returns-clause-closed
returns-clause-closed c =
    let d = length c.args.wheel.now in
    let now = c.loop-at.front.items in
    let closing = c.loop-at.invariant.closing in
    let within = closing.within in
    let stop = c.loop-at-test.false in
    let positive = c.requires.opens.turn in
    let earlier = c.requires.opens.earlier in
    let items : c.remove-2.new.self.items ≡ remove (remove now c.args.start) (c.args.start - 1) =
    c.remove-2.ensures.items ∙ ap (λ z. remove z (c.args.start - 1)) c.remove.ensures.items in
    rw items (closed-is c.args.wheel.now c.requires.wheel c.args.start _ _ _ _ (signs-of d c.args.up c.requires.quads.four)
    c.args.front.now.items now c.loop-at.at (omega arith)
    positive (omega arith) c.loop-at.invariant.below closing)

pub returns-clause-leads : goal.returns-clause-leads
returns-clause-leads c begin rest led =
    let places = c.args.wheel.now in
    let now = c.loop-at.front.items in
    let closing = c.loop-at.invariant.closing in
    let positive = c.requires.opens.turn in
    let n = c.args.start - 1 in
    let start_is : suc n ≡ c.args.start = omega arith in
    let stands = spur-stands places c.requires.wheel c.args.start _ _ _ _ (signs-of (length places) c.args.up c.requires.quads.four)
    c.args.front.now.items now c.loop-at.at (omega arith)
    positive c.loop-at.invariant.below closing in
    let goes = spur-at n true now rest (omega arith) (stands ∙ ap (λ k. get_or now k 0) (sym start_is)) in
    let items : c.remove-2.new.self.items ≡ remove (remove now (suc n)) n =
    c.remove-2.ensures.items ∙ ap (λ z. remove z n) c.remove.ensures.items ∙ ap (λ k. remove (remove now k) n) (sym start_is) in
    rw (items, c.in_ok-push-2.ensures.items) (leads-more places c.loop-at.steps.items (Spur n) begin (now ++ rest)
    (remove (remove now (suc n)) n ++ rest)
    (c.loop-at.invariant.leads begin rest led) goes)
