use Rattle.spoke_rings.proofs.Common.{ring_turn, ◌≡◌, ◌+◌, ◌-◌, ◌<◌, ℕ, length, arith, sym, ◌∙◌, ap}
use Rattle.spoke_rings.proofs.Reducing.{fine-one}
use Rattle.spoke_rings.proofs.ring.Ring.bracket.Goals as goal
use Rattle.spoke_rings.proofs.ring.Ring.bracket.Goals.{then-loop-twos-test+else-turn-eq2, else-loop-twos-test, else-opening-eq1-via-then-opening-eq1+else-twos-len-2, else-opening-eq1-via-else-opening-eq1}

pub returns-else-opening-eq1 : goal.returns-else-opening-eq1
returns-else-opening-eq1 c =
    let turn = ring_turn c.args.wheel.now c.args.self.now in
    let n = length c.args.self.now.spokes in
    let twos = c.loop-twos.twos in
    let n_is : c.len-len.result ≡ n = c.len-len.ensures in
    let at : (i : ℕ) → turn (c.len-len.result - 1 - i) ≡ turn (n - 1 - i) = λ i. ap (λ m. turn (m - 1 - i)) n_is in
    let inside : twos + 1 < n = omega (arith, c.loop-twos.invariant.0, c.if-twos-len.false) in
    fine-one (length c.args.wheel.now) n twos turn c.requires.degree c.requires.one inside
    (λ i below. sym (at i) ∙ c.loop-twos.invariant.1 i below)
    (λ two. elim c.loop-twos-test.branch [
      | then-loop-twos-test+else-turn-eq2 w ↦ w.if-turn-eq2.false (w.turn.ensures.turn ∙ at twos ∙ two)
      | else-loop-twos-test w ↦ (let last = w.loop-twos-test.false in omega arith)
    ])
    (λ one. elim c.else-opening-eq1.branch [
      | else-opening-eq1-via-then-opening-eq1+else-twos-len-2 w ↦ (let far = w.if-twos-len-2.false in omega arith)
      | else-opening-eq1-via-else-opening-eq1 w ↦ absurd (w.if-opening-eq1.false (c.turn-opening.ensures.turn ∙ at twos ∙ one))
    ])
