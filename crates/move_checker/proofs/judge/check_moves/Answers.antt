use Rattle.move_checker.proofs.Common.{step_of, verdict_from, ◌≡◌, ℕ, ◌+◌, ◌≤◌, ◌∷◌, List, drop, refl, ap, sym, ◌∙◌, arith, inl, inr, cases_lt, drop_more, drop_all, Ok, Err, slice_get, darts, Move}
use Rattle.std.proofs.lemmas.Option.{slice_get_within, get_or_from_slice_get}
use Rattle.std.specs.Prelude.{Some}
use Rattle.move_checker.proofs.Judgement.{verdict_over_peak, verdict_start, verdict_more, verdict_refused, verdict_accepted, verdict_end, accepted_exactly}
use Rattle.move_checker.proofs.judge.check_moves.Goals as goal

pub returns-in-Err-OverPeak-clause-verdict : goal.returns-in-Err-OverPeak-clause-verdict
returns-in-Err-OverPeak-clause-verdict c =
    sym (verdict_over_peak c.args.faces.now c.args.first.now c.args.second.now c.args.list.now
    (omega (arith, c.in-Err-OverPeak.ensures.over.0 (ap (λ e. Err e) c.in-Err-OverPeak.field-0-is), c.peak.ensures)))

pub loop-k-init : goal.loop-k-init
loop-k-init c =
    let list = c.args.list.now in
    let within : darts c.args.first.now ≤ list.peak =
    elim (cases_lt c.peak.result (darts c.args.first.now)) [
      | inl lt ↦ let over = c.in-Ok.ensures.over.1 lt in cc
      | inr le ↦ omega (arith, le, c.peak.ensures)
    ] in
    let laid : c.in-Ok.tape.walk ≡ c.args.first.now = c.in-Ok.ensures.walk in (
      verdict_start c.args.faces.now c.args.first.now c.args.second.now list within
          ∙ ap (λ (w : List ℕ). verdict_from c.args.faces.now list.peak c.args.second.now 1 w list.moves) (sym laid),
      c.in-Ok.ensures.peak ∙ c.peak.ensures,
    )

-- the moves from move k on
rest : (moves : List Move) (k : ℕ) (move : Move) → slice_get moves k ≡ Some move → drop k moves ≡ move ∷ drop (k + 1) moves
rest moves k move e =
    drop_more moves k move (slice_get_within moves k move e)
    ∙ ap (λ (m : Move). m ∷ drop (k + 1) moves) (get_or_from_slice_get moves k move move e)

pub returns-in-Err-clause-verdict : goal.returns-in-Err-clause-verdict
returns-in-Err-clause-verdict c =
    let list = c.args.list.now in
    let k = c.loop-k.k in
    let step : step_of c.args.faces.now list.peak c.loop-k.tape.walk c.at.result ≡ Err c.in-Err.fault =
    ap (λ (p : ℕ). step_of c.args.faces.now p c.loop-k.tape.walk c.at.result) (sym c.loop-k.invariant.1) ∙ c.in-Err.ensures.step in
    sym (c.loop-k.invariant.0
    ∙ ap (verdict_from c.args.faces.now list.peak c.args.second.now (k + 1) c.loop-k.tape.walk) (rest list.moves k c.at.result c.at.ensures)
    ∙ verdict_refused c.args.faces.now list.peak c.args.second.now (k + 1) c.loop-k.tape.walk c.at.result (drop (k + 1) list.moves)
    c.in-Err.fault step)

pub loop-k-preserved : goal.loop-k-preserved
loop-k-preserved c =
    let list = c.args.list.now in
    let k = c.loop-k.k in
    let step : step_of c.args.faces.now list.peak c.loop-k.tape.walk c.at.result ≡ Ok c.step.new.self.walk =
    ap (λ (p : ℕ). step_of c.args.faces.now p c.loop-k.tape.walk c.at.result) (sym c.loop-k.invariant.1) ∙ c.in_default.ensures.step in (
      c.loop-k.invariant.0
          ∙ ap (verdict_from c.args.faces.now list.peak c.args.second.now (k + 1) c.loop-k.tape.walk)
          (rest list.moves k c.at.result c.at.ensures)
          ∙ verdict_more c.args.faces.now list.peak c.args.second.now (k + 1) c.loop-k.tape.walk c.step.new.self.walk c.at.result
          (drop (k + 1) list.moves) step,
      c.step.ensures.peak ∙ c.loop-k.invariant.1,
    )

pub returns-then-equals-clause-verdict : goal.returns-then-equals-clause-verdict
returns-then-equals-clause-verdict c =
    let list = c.args.list.now in
    let k = c.loop-k.k in
    sym (c.loop-k.invariant.0
    ∙ ap (verdict_from c.args.faces.now list.peak c.args.second.now (k + 1) c.loop-k.tape.walk)
    (drop_all k list.moves (omega (arith, c.len-k-end.ensures)))
    ∙ verdict_accepted c.args.faces.now list.peak c.args.second.now (k + 1) c.loop-k.tape.walk (c.if-equals.ensures.0 refl))

pub returns-clause-verdict : goal.returns-clause-verdict
returns-clause-verdict c =
    let list = c.args.list.now in
    let k = c.loop-k.k in
    sym (c.loop-k.invariant.0
    ∙ ap (verdict_from c.args.faces.now list.peak c.args.second.now (k + 1) c.loop-k.tape.walk)
    (drop_all k list.moves (omega (arith, c.len-k-end.ensures)))
    ∙ verdict_end c.args.faces.now list.peak c.args.second.now (k + 1) c.loop-k.tape.walk
    (λ same. let t = c.if-equals.ensures.1 same in cc))

pub returns-in-Err-OverPeak-clause-accepted : goal.returns-in-Err-OverPeak-clause-accepted
returns-in-Err-OverPeak-clause-accepted c =
    accepted_exactly c.args.faces.now c.args.first.now c.args.second.now c.args.list.now _ (returns-in-Err-OverPeak-clause-verdict c)

pub returns-in-Err-clause-accepted : goal.returns-in-Err-clause-accepted
returns-in-Err-clause-accepted c =
    accepted_exactly c.args.faces.now c.args.first.now c.args.second.now c.args.list.now _ (returns-in-Err-clause-verdict c)

pub returns-then-equals-clause-accepted : goal.returns-then-equals-clause-accepted
returns-then-equals-clause-accepted c =
    accepted_exactly c.args.faces.now c.args.first.now c.args.second.now c.args.list.now _ (returns-then-equals-clause-verdict c)

pub returns-clause-accepted : goal.returns-clause-accepted
returns-clause-accepted c =
    accepted_exactly c.args.faces.now c.args.first.now c.args.second.now c.args.list.now _ (returns-clause-verdict c)
