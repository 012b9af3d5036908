use Rattle.move_checker.proofs.Common.{list_of, PeakedWalk, ◌≡◌, ◌+◌, ◌≤◌, List, ℕ, length, take, drop, ap, sym, ◌∙◌, arith}
use Rattle.move_checker.proofs.SideLemmas.{one_more}
use Rattle.move_checker.proofs.tape.Tape.equals.Goals as goal

pub loop-place-preserved : goal.loop-place-preserved
loop-place-preserved c =
    let list : List ℕ = list_of c.self.inside.pool c.self.inside.chain.0 in
    let walk : List ℕ = c.args.walk.now in
    let start : ℕ = c.around-start.result.0 in
    let sides : ℕ = length c.around-start.result.1.before + length c.around-start.result.1.behind in
    let n : sides ≡ c.len.result + c.len-in-loop-place.result = omega (arith, c.len.ensures, c.len-in-loop-place.ensures) in
    let same : take sides (drop start list) ≡ take sides (drop start walk) =
    sym c.around-start.ensures.list ∙ c.are_sides.ensures.0 (cc) in (
      one_more list walk start c.loop-place.place _ c.loop-place.invariant.0 c.around-start.ensures.from
          (ap (λ (k : ℕ). take k (drop start list)) (sym n) ∙ same ∙ ap (λ (k : ℕ). take k (drop start walk)) n),
      omega (
        arith,
        c.around-start.ensures.within,
        n,
        c.if-darts.false,
        c.darts.ensures.count,
        c.darts-darts.ensures.count,
        c.darts-darts.ensures.starts,
        c.self.invariant.starts,
        ap (λ (t : PeakedWalk). length t.walk) c.self.view_is,
      ),
    )
