use Rattle.free_forms.proofs.Common.{view_of_search, ℕ, ◌+◌, sym, subst, arith, IsSide}
use Rattle.free_forms.proofs.SearchLemmas.{HasStarted, side_of_one, start_more, start_other}
use Rattle.free_forms.proofs.search.start.Goals as goal
use Rattle.free_forms.proofs.search.start.Goals.{then-sides_of-eq1+in_ok-reach, else-sides_of-eq1}

pub reach-requires-clause-mark : goal.reach-requires-clause-mark
reach-requires-clause-mark c =
    let is : IsSide c.args.faces.now c.side.result =
    side_of_one c.loop-edge.edge c.side.result c.requires.table (omega arith) (omega arith) c.side.ensures in grind arith

pub reach-requires-clause-place : goal.reach-requires-clause-place
reach-requires-clause-place c =
    let is : IsSide c.args.faces.now c.side.result =
    side_of_one c.loop-edge.edge c.side.result c.requires.table (omega arith) (omega arith) c.side.ensures in grind arith

pub loop-edge-preserved : goal.loop-edge-preserved
loop-edge-preserved c =
    let k : ℕ = c.loop-edge.edge in
    let from : HasStarted c.args.faces.now c.args.sides.now (view_of_search c.loop-edge.search) k =
    record { search_of = c.loop-edge.invariant.search; started = c.loop-edge.invariant.started } in
    let more : HasStarted c.args.faces.now c.args.sides.now (view_of_search c.if-sides_of-eq1.search) (k + 1) =
    elim c.if-sides_of-eq1.branch [
      | then-sides_of-eq1+in_ok-reach w ↦
          subst (λ s. HasStarted c.args.faces.now c.args.sides.now (view_of_search s) (k + 1)) (sym w.search-is)
          (start_more (view_of_search w.reach.new.search) w.side.result
          c.requires.table (omega arith) (omega (arith, c.sides_of.ensures, w.if-sides_of-eq1.true)) w.side.ensures from
          w.in_ok-reach.ensures)
      | else-sides_of-eq1 w ↦ grind (arith, start_other)
    ] in
    record { search = more.search_of; started = more.started }
