use Rattle.orientation.proofs.Common.{IsFoundFrom, ◌<◌, ◌≤◌, ◌∷◌, [], sym, ◌∙◌, ap, subst, arith, IsOddChain, FaceName}
use Rattle.orientation.proofs.SearchLemmas.{seen_below}
use Rattle.orientation.proofs.TreeLemmas.{few_faces}
use Rattle.orientation.proofs.ClimbLemmas.{IsClimb, climb_first, climb_last, found_up, found_down, climbed_up, climbed_down, apart_from_test, same_from_test}
use Rattle.orientation.proofs.climb.chain_round.Goals as goal
use Rattle.orientation.proofs.climb.chain_round.Goals.{After-place-other_place}

pub loop-face-init : goal.loop-face-init
loop-face-init c =
    subst (λ chain. IsClimb c.args.faces.now c.args.trees.now c.args.tear.other.face.0 chain c.new-down.result.items
    c.args.tear.side.face.0 c.args.tear.other.face.0) (sym c.in_ok-chain.ensures)
    (subst (λ down. IsClimb c.args.faces.now c.args.trees.now c.args.tear.other.face.0 (c.link.result ∷ []) down c.args.tear.side.face.0
    c.args.tear.other.face.0) (sym c.new-down.ensures.items) (climb_first c.link.result c.requires.two c.requires.trees c.requires.tear
    c.link.ensures.edge (ap (λ (f : FaceName). f.0) c.link.ensures.face)))

pub place-place-requires : goal.place-place-requires
place-place-requires c =
    omega (
      arith,
      seen_below c.loop-face.face.0 c.requires.trees c.loop-face.invariant.seen,
      c.requires.trees.each_face,
    )

pub place-other_place-requires : goal.place-other_place-requires
place-other_place-requires c =
    omega (
      arith,
      seen_below c.loop-face.other.0 c.requires.trees c.loop-face.invariant.other_seen,
      c.requires.trees.each_face,
    )

-- the place that is deeper was found from the next one
up : (c : After-place-other_place) → c.place-other_place.result.depth ≤ c.place-place.result.depth
    → IsFoundFrom c.args.faces.now c.args.trees.now c.loop-face.face.0 c.place-place.result.from
up c deep =
    found_up c.place-place.result c.place-other_place.result c.requires.trees c.loop-face.invariant
    (apart_from_test c.loop-face.face.0 c.loop-face.other.0 (sym c.ne.ensures ∙ c.loop-face-test.true))
    c.place-place.ensures c.place-other_place.ensures deep

down : (c : After-place-other_place) → c.place-place.result.depth < c.place-other_place.result.depth
    → IsFoundFrom c.args.faces.now c.args.trees.now c.loop-face.other.0 c.place-other_place.result.from
down c deep =
    found_down c.place-place.result c.place-other_place.result c.requires.trees c.loop-face.invariant
    (apart_from_test c.loop-face.face.0 c.loop-face.other.0 (sym c.ne.ensures ∙ c.loop-face-test.true))
    c.place-place.ensures c.place-other_place.ensures deep

pub link-requires-then-place-other_place-clause-side : goal.link-requires-then-place-other_place-clause-side
link-requires-then-place-other_place-clause-side c =
    (up (goal.at.link-requires-then-place-other_place-clause-side c).After-place-other_place c.if-place-other_place.true).partners.first

pub push-requires : goal.push-requires
push-requires c = omega (arith, c.loop-face.invariant.size, few_faces c.requires.trees.mesh_is c.requires.trees.small)

pub link-requires-else-place-other_place-clause-side : goal.link-requires-else-place-other_place-clause-side
link-requires-else-place-other_place-clause-side c =
    (down (goal.at.link-requires-else-place-other_place-clause-side c).After-place-other_place c.if-place-other_place.false).partners.first

pub push_reversed-requires : goal.push_reversed-requires
push_reversed-requires c = omega (arith, c.loop-face.invariant.size, few_faces c.requires.trees.mesh_is c.requires.trees.small)

pub loop-face-smaller-then-place-other_place : goal.loop-face-smaller-then-place-other_place
loop-face-smaller-then-place-other_place c =
    omega (arith, (up (goal.at.loop-face-smaller-then-place-other_place c).After-place-other_place c.if-place-other_place.true).deeper)

pub loop-face-preserved-then-place-other_place : goal.loop-face-preserved-then-place-other_place
loop-face-preserved-then-place-other_place c =
    climbed_up c.link-then-place-other_place.result
    c.place-place.result c.push.new.self c.requires.two c.loop-face.invariant c.place-place.ensures
    (up (goal.at.loop-face-preserved-then-place-other_place c).After-place-other_place c.if-place-other_place.true)
    c.link-then-place-other_place.ensures.edge
    (ap (λ (f : FaceName). f.0) c.link-then-place-other_place.ensures.face) c.in_ok-push.ensures.ok

pub loop-face-smaller : goal.loop-face-smaller
loop-face-smaller c =
    omega (arith, (down (goal.at.loop-face-smaller c).After-place-other_place c.if-place-other_place.false).deeper)

pub loop-face-preserved : goal.loop-face-preserved
loop-face-preserved c =
    climbed_down c.link-else-place-other_place.result
    c.place-other_place.result c.push-else-place-other_place.new.self.items c.requires.two c.loop-face.invariant
    c.place-other_place.ensures
    (down (goal.at.loop-face-preserved c).After-place-other_place c.if-place-other_place.false) c.link-else-place-other_place.ensures.edge
    (ap (λ (f : FaceName). f.0) c.link-else-place-other_place.ensures.face) c.in_ok-push-2.ensures.items

pub returns : goal.returns
returns c =
    subst (IsOddChain c.args.faces.now) (sym c.in_ok-push_reversed.ensures) (climb_last c.loop-face.invariant
    (same_from_test c.loop-face.face.0 c.loop-face.other.0 (sym c.ne.ensures ∙ c.loop-face-test.false)))
