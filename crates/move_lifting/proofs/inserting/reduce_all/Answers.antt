use Rattle.move_lifting.proofs.Common.{TrackView, ◌≡◌, ℕ, ◌+◌, ◌-◌, ◌<◌, List, length, ap, arith, get_or-map, numbers, VertexName}
use Rattle.move_lifting.proofs.ExpandLemmas.{length-numbers}
use Rattle.move_lifting.proofs.SpurLemmas.{reduced_first, reduced_more, reduced_all}
use Rattle.move_lifting.proofs.inserting.reduce_all.Goals as goal
use Rattle.move_lifting.proofs.inserting.reduce_all.Goals.{After-loop-place}

pub loop-place-init : goal.loop-place-init
loop-place-init c =
    let long : length (numbers c.args.walk.now) ≡ length c.args.walk.now = length-numbers c.args.walk.now in
    let some : 0 < length (numbers c.args.walk.now) = omega (arith, c.requires.some) in
    record {
      so_far = reduced_first c.args.behind (numbers c.args.walk.now) c.args.moves c.in_ok-track.track _ _ some
          (get_or-map (λ (x : VertexName). x.0) c.args.walk.now 0 _ 0 c.requires.some) c.in_ok-track.ensures;
      count = omega (
        arith,
        ap (λ (t : TrackView). length t.walk) c.in_ok-track.ensures,
        ap (λ (t : TrackView). length t.list.moves) c.in_ok-track.ensures,
      );
      cells = omega (
        arith,
        ap (λ (t : TrackView). length t.walk) c.in_ok-track.ensures,
        ap (λ (t : TrackView). t.spare) c.in_ok-track.ensures,
        c.requires.some,
      );
    }

pub loop-place-preserved : goal.loop-place-preserved
loop-place-preserved c =
    let walk : List ℕ = numbers c.args.walk.now in
    let n : ℕ = c.loop-place.place in
    let within : n < length c.args.walk.now = c.loop-place-test.true in
    let long : length walk ≡ length c.args.walk.now = length-numbers c.args.walk.now in
    let here : n < length walk = omega arith in
    let put = c.in_ok-put.ensures in
    record {
      so_far = reduced_more c.put.new.self _ (length c.args.walk.now - n - 1 + c.args.behind) c.loop-place.invariant.so_far
          (omega (arith, c.loop-place.auto.place)) here (get_or-map (λ (x : VertexName). x.0) c.args.walk.now n _ 0 within) (omega arith)
          put.leads put.some put.no_spur put.last put.long put.shape put.peak put.more;
      count = omega (arith, put.count, c.loop-place.invariant.count);
      cells = omega (arith, put.cells, c.loop-place.invariant.cells);
    }

-- the whole walk is put on
all : (c : After-loop-place) → c.loop-place.place ≡ length (numbers c.args.walk.now)
all c = omega (arith, c.loop-place-test.false, c.loop-place.auto.place-end, length-numbers c.args.walk.now, c.requires.some)

pub returns-clause-leads : goal.returns-clause-leads
returns-clause-leads c = (reduced_all c.loop-place.invariant.so_far (all (goal.at.returns-clause-leads c).After-loop-place)).0

pub returns-clause-freely : goal.returns-clause-freely
returns-clause-freely c = (reduced_all c.loop-place.invariant.so_far (all (goal.at.returns-clause-freely c).After-loop-place)).1

pub returns-clause-removals : goal.returns-clause-removals
returns-clause-removals c = c.loop-place.invariant.so_far.removals
