use Rattle.free_forms.proofs.Common.{leads_nowhere, IsNormal, LeadsAtPeak, ReductionView, state_of, darts_in, MOST_OPEN_SIDES, ◌≡◌, ℕ, List, [], ◌∷◌, ◌++◌, ◌+◌, ◌*◌, ◌≤◌, length, ap, sym, subst, arith, PeakedMoves, darts}
use Rattle.free_forms.proofs.CostLemmas.{stays_paid, has_room, paid_darts}
use Rattle.free_forms.proofs.StepLemmas.{HasStepped, has_stepped, normal_alone, weight}
use Rattle.free_forms.proofs.WeightLemmas.{weight_bound}
use Rattle.free_forms.proofs.reduction.reduce.Goals as goal

pub loop-next-init : goal.loop-next-init
loop-next-init c =
    let start : ReductionView = state_of c.in_ok-reduction.reduction in
    let none : length start.front ≡ 0 = ap (λ (f : List ℕ). length f) c.in_ok-reduction.ensures.front in
    let count : length start.list.moves ≡ 0 = ap (λ (l : PeakedMoves). length l.moves) c.in_ok-reduction.ensures.list in
    let peak : start.list.peak ≡ darts c.args.walk.now = ap (λ (l : PeakedMoves). l.peak) c.in_ok-reduction.ensures.list in
    let weight : weight c.args.mesh.now start.last start.coming ≤ length start.coming * MOST_OPEN_SIDES =
    weight_bound MOST_OPEN_SIDES start.last start.coming c.faces.ensures.parents (omega arith) c.requires.sides in
    record {
      leads =
          subst (LeadsAtPeak c.args.mesh.now.mesh c.args.walk.now start.list) (sym c.in_ok-reduction.ensures.walk)
          (leads_nowhere c.args.mesh.now.mesh c.args.walk.now start.list c.in_ok-reduction.ensures.list);
      normal =
          subst (λ (f : List ℕ). IsNormal c.args.mesh.now (f ++ start.last ∷ [])) (sym c.in_ok-reduction.ensures.front)
          (normal_alone c.args.mesh.now start.last);
      paid = grind (arith, weight);
    }

-- the step at hand
stepped : (c : goal.In_ok-step) → HasStepped c.args.mesh.now c.args.walk.now (state_of c.take.new.reduction) c.in-Some.next.0
    (state_of c.step.new.reduction)
stepped c =
    has_stepped (state_of c.loop-next.reduction) (state_of c.take.new.reduction) c.in-Some.next.0
    (state_of c.step.new.reduction) c.in_ok-step.ensures.parents c.loop-next.invariant.leads c.loop-next.invariant.normal
    c.in-Some.ensures.some c.in_ok-step.ensures.step

pub loop-next-smaller : goal.loop-next-smaller
loop-next-smaller c =
    let before : weight c.args.mesh.now (state_of c.loop-next.reduction).last (state_of c.loop-next.reduction).coming
    ≡ weight c.args.mesh.now (state_of c.take.new.reduction).last (c.in-Some.next.0 ∷ (state_of c.take.new.reduction).coming) =
    ap (λ (s : ReductionView). weight c.args.mesh.now s.last s.coming) c.in-Some.ensures.some in
    omega (arith, before, (stepped c).falls)

pub loop-next-preserved : goal.loop-next-preserved
loop-next-preserved c =
    let done = stepped c in
    record {
      leads = done.leads;
      normal = done.normal;
      paid = stays_paid c.loop-next.invariant.paid c.in-Some.ensures.some done c.in_ok-step.ensures.step;
    }

pub step-requires-clause-few : goal.step-requires-clause-few
step-requires-clause-few c =
    let darts : darts_in (state_of c.loop-next.reduction) ≤ darts c.args.walk.now * MOST_OPEN_SIDES =
    paid_darts c.loop-next.invariant.paid in
    let taken : darts_in (state_of c.loop-next.reduction) ≡ darts_in (state_of c.take.new.reduction) + 1 = grind arith in
    omega (arith, darts, taken, c.requires.few)

pub step-requires-clause-room : goal.step-requires-clause-room
step-requires-clause-room c =
    has_room (state_of c.take.new.reduction)
    c.in-Some.next.0 c.faces.ensures.parents c.loop-next.invariant.paid c.in-Some.ensures.some (omega (arith, c.requires.few))
