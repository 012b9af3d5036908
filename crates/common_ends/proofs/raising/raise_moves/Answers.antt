use Rattle.common_ends.proofs.Common.{◌≡◌, inl, inr, ℕ, ◌+◌, max, ap, ◌∙◌, arith, PeakedMoves}
use Rattle.std.proofs.lemmas.Bool.{cases_eq}
use Rattle.common_ends.proofs.PeakLemmas.{raised_more}
use Rattle.common_ends.proofs.raising.raise_moves.Goals as goal

pub loop-place-preserved : goal.loop-place-preserved
loop-place-preserved c =
    let k : ℕ = c.loop-place.place in
    let pushed = c.in_ok-push.ensures.ok in
    let peak : c.push.new.self.peak ≡ max c.loop-place.moves.peak (c.args.around + c.peak.result) =
    ap (λ (l : PeakedMoves). l.peak) pushed in
    record {
      moves = ap (λ (l : PeakedMoves). l.moves) pushed
          ∙ raised_more c.args.by c.args.list.now.moves c.loop-place.moves.moves c.args.moves.now.moves k c.at.result c.raise.result
          (omega (arith, c.loop-place-test.true, c.len-place-end.ensures)) c.at.ensures c.raise.ensures c.loop-place.invariant.moves;
      none = λ no. absurd (omega arith);
      some = λ l. elim (cases_eq k 0) [
        | inl first ↦ omega (arith, peak, c.loop-place.invariant.none first)
        | inr other ↦ omega (arith, peak, c.loop-place.invariant.some (omega arith))
      ];
    }
