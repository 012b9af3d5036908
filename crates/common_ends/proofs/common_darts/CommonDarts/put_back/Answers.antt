use Rattle.common_ends.proofs.Common.{◌≡◌, ◌+◌, ℕ, List, ap, sym, ◌∙◌, arith, all_raised, Move}
use Rattle.common_ends.proofs.TrimLemmas.{raised_nowhere}
use Rattle.common_ends.proofs.common_darts.CommonDarts.put_back.Goals as goal

pub returns-then-self-eq0-2 : goal.returns-then-self-eq0-2
returns-then-self-eq0-2 c =
    let front : c.args.self.front ≡ 0 = omega (arith, c.if-self-eq0.true) in
    let around : c.args.list.peak ≡ c.args.self.front + c.args.self.back + c.args.list.peak =
    omega (arith, c.if-self-eq0.true, c.if-self-eq0-2.true) in
    let moves : c.args.list.moves ≡ all_raised c.args.self.front c.args.list.moves =
    sym (ap (λ (n : ℕ). all_raised n c.args.list.moves) front ∙ raised_nowhere c.args.list.moves) in
    let one : c.args.list ≡ record { moves = all_raised c.args.self.front c.args.list.moves; peak = c.args.list.peak } =
    ap (λ (l : List Move). record { moves = l; peak = c.args.list.peak }) moves in
    one ∙ ap (λ (n : ℕ). record { moves = all_raised c.args.self.front c.args.list.moves; peak = n }) around
