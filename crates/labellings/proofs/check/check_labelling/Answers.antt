use Rattle.labellings.proofs.Common.{HasShape, HasDegree, EntryMeetsRule, ℕ, ◌<◌, length, inr, rules}
use Rattle.labellings.proofs.EdgeRuleLemmas.{each-edge, least-against}
use Rattle.labellings.proofs.check.check_labelling.Goals as goal

pub returns-in-Some-clause-fault : goal.returns-in-Some-clause-fault
returns-in-Some-clause-fault c =
    let shape : HasShape c.args.faces.now c.args.labelling = search rules in
    let degree : HasDegree c.args.labelling = search rules in
    inr (
      shape,
      degree,
      c.in_ok-wheel.ensures.places,
      rw (c.ends.ensures.low, c.ends.ensures.high) (least-against c.args.faces.now c.args.sides.now c.args.labelling c.in-Some.edge.0
          c.requires c.in-Some.ensures.some),
    )

pub returns-in-Some-clause-accepted : goal.returns-in-Some-clause-accepted
returns-in-Some-clause-accepted c =
    let least = least-against c.args.faces.now c.args.sides.now c.args.labelling c.in-Some.edge.0 c.requires c.in-Some.ensures.some in
    λ good. absurd (least.against (good.edges _ _ least.edge))

pub returns-clause-good : goal.returns-clause-good
returns-clause-good c =
    let shape : HasShape c.args.faces.now c.args.labelling = search rules in
    let degree : HasDegree c.args.labelling = search rules in
    let all : (k : ℕ) → k < length c.args.sides.now → EntryMeetsRule c.args.faces.now c.args.sides.now c.args.labelling k = search rules in
    record {
      shape = shape;
      degree = degree;
      places = c.in_ok-wheel.ensures.places;
      edges = each-edge c.args.faces.now c.args.sides.now c.args.labelling c.requires all;
    }
