use Rattle.component_deciding.proofs.Common.{walk_same_place, ◌≡◌, ◌<◌, ◌≤◌, ℕ, true, List, length, get_or, map, sym, ap, ◌∙◌, subst, arith, both_ways, get_or_read, take_all, take_more, All-push, All, used_below, is_used, numbers}
use Rattle.component_deciding.proofs.ComponentLemmas.{renumbered_more}
use Rattle.component_deciding.proofs.OwnSurfaces.{IsThere, own_walk_is}
use Rattle.component_deciding.proofs.own_mesh.own_walk.Goals as goal

pub returns-in_default : goal.returns-in_default
returns-in_default c = λ walk start.
    (let at : ℕ = c.loop-at.at in
    let few : at < length c.args.walk.now =
    omega (arith, c.loop-at-test.true, c.darts-entries.ensures.count, c.darts-entries.ensures.starts) in
    let used : is_used c.args.apart.now.mesh.faces c.at-vertex.result.0 ≡ true =
    subst (λ (v : ℕ). is_used c.args.apart.now.mesh.faces v ≡ true) (sym c.at-vertex.ensures) (walk.used at 0 few) in
    both_ways (is_used c.args.apart.now.mesh.faces c.at-vertex.result.0) (c.in_default.ensures) used)

pub returns-then-there-place : goal.returns-then-there-place
returns-then-there-place c = λ walk start.
    (let at : ℕ = c.loop-at.at in
    let few : at < length c.args.walk.now =
    omega (arith, c.loop-at-test.true, c.darts-entries.ensures.count, c.darts-entries.ensures.starts) in
    let told = c.in-Some.ensures in
    let same : c.in-Some.there ≡ c.args.place =
    sym told.1 ∙ ap (λ (v : ℕ). get_or c.args.apart.now.parts.places v 0) c.at-vertex.ensures
    ∙ walk_same_place c.args.apart.now.mesh.faces c.args.apart.now.parts c.args.walk.now at c.requires.parts walk few ∙ start in
    omega (arith, same, c.if-there-place.true))

pub index-requires : goal.index-requires
index-requires c =
    let told = c.in-Some.ensures in
    omega (
      arith,
      used_below c.args.apart.now.mesh.faces c.at-vertex.result.0 c.requires.own.valid told.0,
      c.requires.own.each_vertex,
      c.args.apart.now.own.numbers.ok.0,
    )

pub loop-at-preserved : goal.loop-at-preserved
loop-at-preserved c =
    let at : ℕ = c.loop-at.at in
    let mesh = c.args.apart.now.mesh.faces in
    let own : List ℕ = c.args.apart.now.own.numbers.items in
    let walk : List ℕ = c.args.walk.now in
    let few : at < length walk = omega (arith, c.loop-at-test.true, c.darts-entries.ensures.count, c.darts-entries.ensures.starts) in
    let told = c.in-Some.ensures in
    let same : c.in-Some.there ≡ c.args.place = omega (arith, c.if-there-place.false) in
    let here : IsThere mesh c.args.apart.now.parts c.args.place c.at-vertex.result.0 = (told.0, told.1 ∙ same) in
    let within : c.at-vertex.result.0 < length own =
    omega (arith, used_below mesh c.at-vertex.result.0 c.requires.own.valid told.0, c.requires.own.each_vertex) in
    record {
      there = subst (All (IsThere mesh c.args.apart.now.parts c.args.place)) (sym (take_more walk at 0 few))
          (All-push (IsThere mesh c.args.apart.now.parts c.args.place) _ _ c.loop-at.invariant.there
          (subst (IsThere mesh c.args.apart.now.parts c.args.place) c.at-vertex.ensures here));
      by_number = renumbered_more own walk c.loop-at.vertices.items c.push.new.self.items at c.index.result.now few
          c.loop-at.invariant.by_number
          (get_or_read own c.at-vertex.result.0 _ within c.index.ensures 0 ∙ ap (λ (v : ℕ). get_or own v 0) c.at-vertex.ensures)
          c.in_ok-push.ensures.items;
    }

pub returns : goal.returns
returns c =
    let at : ℕ = c.loop-at.at in
    let walk : List ℕ = c.args.walk.now in
    let own : List ℕ = c.args.apart.now.own.numbers.items in
    let all : length walk ≤ at = omega (arith, c.loop-at-test.false, c.darts-entries.ensures.count, c.darts-entries.ensures.starts) in
    let there : All (IsThere c.args.apart.now.mesh.faces c.args.apart.now.parts c.args.place) walk =
    subst (All (IsThere c.args.apart.now.mesh.faces c.args.apart.now.parts c.args.place)) (take_all at walk all)
    c.loop-at.invariant.there in
    let vertices : numbers c.deref.result.now ≡ map (λ x. get_or own x 0) walk =
    ap numbers c.deref.ensures.value ∙ c.loop-at.invariant.by_number ∙ ap (map (λ x. get_or own x 0)) (take_all at walk all) in
    record {
      there = there;
      by_number = c.in_ok-of.ensures ∙ vertices
          ∙ own_walk_is c.args.apart.now.mesh.faces c.args.apart.now.parts c.args.apart.now.own c.args.place walk c.requires.own there;
    }
