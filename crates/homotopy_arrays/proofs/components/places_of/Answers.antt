use Rattle.std.proofs.Common.{◌+◌, ◌∙◌, ℕ, ap}
use Rattle.std.proofs.lemmas.List.{length_push}
use Rattle.homotopy_arrays.specs.ArrayComponents.{IsToldPlace}
use Rattle.homotopy_arrays.proofs.PartLemmas.{places_more}
use Rattle.homotopy_arrays.proofs.components.places_of.Goals as goal

pub loop-vertex-preserved : goal.loop-vertex-preserved
loop-vertex-preserved c =
    let place : ℕ = c.place_of.result in
    let here : IsToldPlace c.args.faces.now c.args.parts.now c.loop-vertex.vertex place =
    c.place_of.ensures c.args.faces.now c.requires.table in
    rw c.in_ok-push.ensures.items (record {
      many = length_push c.loop-vertex.places.items place ∙ ap (λ k. k + 1) c.loop-vertex.invariant.many;
      own = places_more c.args.faces.now c.args.parts.now c.loop-vertex.places.items c.loop-vertex.vertex place c.loop-vertex.invariant.many
          c.loop-vertex.invariant.own here;
    })
