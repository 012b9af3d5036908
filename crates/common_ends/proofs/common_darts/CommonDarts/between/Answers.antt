use Rattle.common_ends.proofs.Common.{◌≡◌, ℕ, ◌+◌, ◌-◌, ◌<◌, ◌++◌, ◌∷◌, [], List, length, take, drop, get_or, ap, sym, ◌∙◌, arith, drop-take, get_or-drop, length-drop, take_more}
use Rattle.common_ends.proofs.common_darts.CommonDarts.between.Goals as goal

pub loop-done-preserved : goal.loop-done-preserved
loop-done-preserved c =
    let walk : List ℕ = c.args.walk.now in
    let front : ℕ = c.args.self.front in
    let done : ℕ = c.loop-done.done in
    let left : List ℕ = drop front walk in
    let within : done + 1 < length left =
    omega (arith, length-drop front walk, c.darts.ensures.count, c.darts.ensures.starts, c.loop-done-test.true, c.requires) in
    let at : front + done + 1 ≡ front + (done + 1) = omega arith in
    let read : c.at-in-loop-done.result.0 ≡ get_or left (done + 1) 0 =
    c.at-in-loop-done.ensures ∙ ap (λ (n : ℕ). get_or walk n 0) at ∙ sym (get_or-drop front walk (done + 1) 0) in
    c.in_ok-push.ensures.ok ∙ ap (λ (l : List ℕ). l ++ c.at-in-loop-done.result.0 ∷ []) c.loop-done.invariant
    ∙ ap (λ (x : ℕ). take (done + 1) left ++ x ∷ []) read ∙ sym (take_more left (done + 1) 0 within)

pub returns : goal.returns
returns c =
    let walk : List ℕ = c.args.walk.now in
    let front : ℕ = c.args.self.front in
    let n : ℕ = c.loop-done.done + 1 in
    let end : front + n ≡ length walk - c.args.self.back =
    omega (arith, c.darts.ensures.count, c.darts.ensures.starts, c.loop-done-test.false, c.loop-done.auto.done-end, c.requires) in
    c.loop-done.invariant ∙ sym (drop-take front n walk) ∙ ap (λ (m : ℕ). drop front (take m walk)) end
