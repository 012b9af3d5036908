use Rattle.move_lifting.proofs.Common.{LeadsAtPeak, last_of, ◌≡◌, ℕ, ◌+◌, ◌-◌, ◌<◌, ◌++◌, ◌∷◌, [], List, length, drop, get_or, max, sym, ap, ◌∙◌, subst, arith, length-append, PeakedMoves, numbers, Insert}
use Rattle.move_lifting.proofs.CloseLemmas.{goes_on_back}
use Rattle.move_lifting.proofs.ExpandLemmas.{one_pending, length-numbers}
use Rattle.move_lifting.proofs.LedLemmas.{last-push}
use Rattle.move_lifting.proofs.lifting.append_back.Goals as goal

pub loop-done-preserved : goal.loop-done-preserved
loop-done-preserved c =
    let second : List ℕ = c.args.walk.now in
    let place : ℕ = c.darts-darts.result - c.loop-done.done - 1 in
    let out : List ℕ = numbers c.loop-done.vertices.items in
    let via = c.at-via.result in
    let long : length out ≡ length c.loop-done.vertices.items = length-numbers c.loop-done.vertices.items in
    let next : c.darts-darts.result - c.loop-done.done ≡ place + 1 = omega (arith, c.loop-done-test.true) in
    let ends : last_of out ≡ get_or second (place + 1) 0 = c.loop-done.invariant.last ∙ ap (λ (n : ℕ). get_or second n 0) next in
    let within : place + 1 < length second =
    omega (arith, c.darts-darts.ensures.count, c.darts-darts.ensures.starts, c.loop-done-test.true) in
    let some : 0 < length out = omega (arith, c.loop-done.invariant.long, c.requires.some) in
    let pushed : numbers c.push.new.self.items ≡ out ++ via.0 ∷ [] =
    one_pending c.push.new.self.items c.loop-done.vertices.items via c.in_ok-push.ensures.items in
    let at : c.len.result - 1 ≡ length out - 1 = omega (arith, c.len.ensures) in
    let count : c.len.result - 1 + 2 + c.loop-done.done ≡ length out + (length second - place - 1) =
    omega (arith, c.len.ensures, some, c.darts-darts.ensures.count, c.darts-darts.ensures.starts, c.loop-done-test.true) in
    let noted : c.push-in-loop-done.new.self
    ≡ record {
      moves = c.loop-done.moves.moves ++ Insert (length out - 1) via ∷ [];
      peak = max c.loop-done.moves.peak (length out + (length second - place - 1));
    } =
    subst (λ (n : ℕ). c.push-in-loop-done.new.self ≡ record {
      moves = c.loop-done.moves.moves ++ Insert (length out - 1) via ∷ [];
      peak = max c.loop-done.moves.peak n;
    }) count
    (subst (λ (n : ℕ). c.push-in-loop-done.new.self ≡ record {
      moves = c.loop-done.moves.moves ++ Insert n via ∷ [];
      peak = max c.loop-done.moves.peak (c.len.result - 1 + 2 + c.loop-done.done);
    }) at
    c.in_ok-push-2.ensures.ok) in
    let two : c.darts-darts.result - c.loop-done.done + 1 ≡ place + 2 = omega (arith, c.loop-done-test.true) in
    let one : place + 1 ≡ c.darts-darts.result - (c.loop-done.done + 1) + 1 = omega arith in
    let here : place ≡ c.darts-darts.result - (c.loop-done.done + 1) = omega arith in
    record {
      peak = omega (
        arith,
        ap (λ (m : PeakedMoves). m.peak) noted,
        c.loop-done.invariant.peak,
        c.loop-done.invariant.long,
        count,
        c.len.ensures,
        long,
        length-numbers c.args.vertices.now.items,
        c.requires.some,
      );
      count = omega (
        arith,
        c.loop-done.invariant.count,
        ap (λ (m : PeakedMoves). length m.moves) noted,
        length-append c.loop-done.moves.moves (Insert (length out - 1) via ∷ []),
      );
      long = omega (arith, c.in_ok-push.ensures.len, c.loop-done.invariant.long);
      last = ap last_of pushed ∙ last-push out via.0 ∙ c.at-via.ensures ∙ ap (λ (n : ℕ). get_or second n 0) here;
      leads = λ mesh first w h.
          let before : LeadsAtPeak mesh first c.loop-done.moves (out ++ drop (place + 2) second) =
          subst (λ (n : ℕ). LeadsAtPeak mesh first c.loop-done.moves (out ++ drop n second)) two
          (c.loop-done.invariant.leads mesh first w h) in
          subst (λ (n : ℕ). LeadsAtPeak mesh first c.push-in-loop-done.new.self (numbers c.push.new.self.items ++ drop n second)) one
          (subst (λ (l : List ℕ). LeadsAtPeak mesh first c.push-in-loop-done.new.self (l ++ drop (place + 1) second)) (sym pushed)
          (goes_on_back mesh first out second place via c.loop-done.moves c.push-in-loop-done.new.self w within some ends c.at-via.ensures
          noted before));
    }
