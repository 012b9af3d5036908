use Rattle.move_lifting.proofs.Common.{places_below, darts_of, origin_of, OrientedMesh, IsLastLoop, IsLooping, last_of, MOST_LIFTED_DARTS, side_at, PolygonView, last_side, ◌≡◌, ℕ, ◌-◌, ◌∷◌, [], true, List, get_or, ap, sym, ◌∙◌, arith, common_steps, is_used, HasNoSpur, numbers, SplitView}
use Rattle.move_lifting.specs.declared.looping.Looping.{Looping}
use Rattle.move_lifting.proofs.ApproachLemmas.{goes_end, goes_start, goes_some, goes_walk}
use Rattle.move_lifting.proofs.ExpandLemmas.{length-numbers}
use Rattle.move_lifting.proofs.LastLoopLemmas.{last_below}
use Rattle.move_lifting.proofs.LoopInLemmas.{IsReady, is_ready, picked, loop_put_in, IsByTree}
use Rattle.move_lifting.proofs.LoopRiseLemmas.{loop_rises, loop_room}
use Rattle.move_lifting.proofs.TreeUpLemmas.{origin_used}
use Rattle.move_lifting.proofs.looping.Looping.put_loop.Goals as goal
use Rattle.move_lifting.proofs.looping.Looping.put_loop.Goals.{After-turn}

abbrev surface_of : Looping → OrientedMesh
surface_of l = l.cut.now.on.surface.now

abbrev split_of : Looping → SplitView
split_of l = l.cut.now.on.split.now

abbrev polygon_of : Looping → PolygonView
polygon_of l = l.cut.now.polygon.now

-- the last side is a dart of the surface, and where it starts is used
last_is : (l : Looping) (side count : ℕ) → side ≡ side_at (polygon_of l) (count - 1) → count ≡ (polygon_of l).degree
    → side ≡ last_side (polygon_of l)
last_is l side count e f = e ∙ ap (λ (n : ℕ). side_at (polygon_of l) (n - 1)) f

end_used : (l : Looping) → IsLooping l → (side end : ℕ) → side ≡ last_side (polygon_of l) → end ≡ origin_of (surface_of l) side
    → is_used (surface_of l).mesh end ≡ true
end_used l r side end last starts = grind (arith, origin_used, last_below)

pub approach_of-requires-clause-end : goal.approach_of-requires-clause-end
approach_of-requires-clause-end c = grind (arith, end_used, last_is)

pub approach_of-requires-clause-front : goal.approach_of-requires-clause-front
approach_of-requires-clause-front c = grind (arith, common_steps)

-- the turn is the loop of the last side, or the way back along it
turn : (c : After-turn)
    → IsLastLoop (surface_of c.args.self.now) (split_of c.args.self.now) (polygon_of c.args.self.now) c.args.up c.turn.result.now
turn c =
    picked (surface_of c.args.self.now) (split_of c.args.self.now) (polygon_of c.args.self.now) c.in_ok-turns.turns c.args.up
    c.turn.result.now c.in_ok-turns.ensures.turns c.turn.ensures

-- the approach goes there by the tree and along the spokes in front, without spurs
by_tree : (c : After-turn)
    → IsByTree (surface_of c.args.self.now) (split_of c.args.self.now) (polygon_of c.args.self.now) c.take_turns.new.self.spokes
    c.args.front.now (get_or c.args.track.walk 0 0) c.origin-end.result.0 (numbers c.deref.result.now)
by_tree c =
    let l : Looping = c.args.self.now in
    let last = last_is l c.side.result.0 c.degree.result c.side.ensures c.degree.ensures.degree in
    record {
      all = rw c.take_turns.ensures.kept c.in_ok-make.ensures.walks;
      made = rw c.take_turns.ensures.kept c.in_ok-make.ensures.made;
      starts = c.requires.walk.used 0 0 c.requires.walk.starts;
      there = c.origin-end.ensures ∙ ap (origin_of (surface_of l)) last;
      used = end_used l c.requires.looping c.side.result.0 c.origin-end.result.0 last c.origin-end.ensures;
      freely = λ root ways h. rw (c.deref.ensures.value, ← c.first.ensures) (c.in_ok-approach.ensures.freely root ways h);
    }

no_spur : (c : After-turn) → HasNoSpur (numbers c.deref.result.now)
no_spur c = grind (arith, common_steps)

-- the approach and the turn are ready to be put in
ready : (c : After-turn)
    → IsReady (surface_of c.args.self.now).mesh (get_or c.args.track.walk 0 0) c.origin-end.result.0 (numbers c.deref.result.now)
    c.turn.result.now
ready c = is_ready c.requires.looping.cut.surface (turn c) (by_tree c)

pub put_turn-requires : goal.put_turn-requires
put_turn-requires c =
    let r = ready c in
    let l : Looping = c.args.self.now in
    let cut = c.requires.looping.cut in
    let goes = c.requires.short in
    let approach : List ℕ = numbers c.deref.result.now in
    let arrives = goes_end r.there in
    record {
      some = c.requires.walk.starts;
      some_approach = omega (arith, goes_some r.there, length-numbers c.deref.result.now);
      starts = goes_start r.there;
      meets = goes_start r.round ∙ sym arrives;
      closed = goes_end r.round ∙ sym arrives;
      places =
          places_below (surface_of l).mesh c.turn.result.now.moves.moves (last_of approach ∷ []) c.turn.result.now.walk
          c.turn.result.now.moves.peak (omega arith) r.leads.leads (omega (arith, r.leads.peak));
      room = omega (
        arith,
        length-numbers c.deref.result.now,
        loop_room cut.surface goes.path c.args.track.walk c.turn.result.now.walk l.behind c.turn.result.now.moves.peak MOST_LIFTED_DARTS
            (by_tree c) c.requires.walk c.requires.closed (no_spur c) c.requires.no_spur goes.spokes goes.around goes.below goes.few
            (omega arith) (omega (arith, c.requires.looping.behind)) (omega (arith, cut.on.sides)) (turn c).short (turn c).low,
      );
    }

-- where the approach is ready, the moves lead there and round and back
pub returns-clause-leads : goal.returns-clause-leads
returns-clause-leads c =
    let there = ready (goal.at.returns-clause-leads c).After-turn in
    c.in_ok-after.ensures.leads (surface_of c.args.self.now).mesh (goes_walk there.there) there.leads

pub returns-clause-freely : goal.returns-clause-freely
returns-clause-freely c =
    let at = (goal.at.returns-clause-freely c).After-turn in
    loop_put_in c.requires.looping.cut.surface c.args.track.walk c.in_ok-after.after.walk (turn at) (by_tree at) c.requires.walk
    c.requires.closed (c.in_ok-after.ensures.freely (surface_of c.args.self.now).mesh)

pub returns-clause-peak : goal.returns-clause-peak
returns-clause-peak c path pairs is_path short =
    let at = (goal.at.returns-clause-peak c).After-turn in
    loop_rises c.requires.looping.cut.surface path c.args.track.walk c.args.self.now.behind pairs c.args.track.list.peak
    c.in_ok-after.after.list.peak (by_tree at) c.requires.walk c.requires.closed (no_spur at) is_path short
    (c.in_ok-after.ensures.peak (darts_of (surface_of c.args.self.now)) (turn at).low (turn at).short (no_spur at) c.requires.no_spur)

pub returns-clause-looper : goal.returns-clause-looper
returns-clause-looper c = record {
  spokes = (by_tree (goal.at.returns-clause-looper c).After-turn).all;
  turns = c.in_ok-turns.ensures.turns;
}
