use Rattle.connectivity.proofs.Common.{IsLeastElsewhere, ◌≡◌, ◌<◌, ℕ, List, get_or, subst, true, is_used}
use Rattle.connectivity.proofs.EdgeLemmas.{used_below}
use Rattle.connectivity.proofs.WalkLemmas.{least_apart, all_joined}
use Rattle.connectivity.proofs.vertices.vertices_apart.Goals as goal

pub least_elsewhere-requires-clause-vertex : goal.least_elsewhere-requires-clause-vertex
least_elsewhere-requires-clause-vertex c =
    used_below c.args.faces.now c.in-Some.vertex.0 c.in_ok-least.ensures.valid c.in-Some.ensures.some.used

pub returns-in-Some-least_elsewhere : goal.returns-in-Some-least_elsewhere
returns-in-Some-least_elsewhere c =
    let mesh = c.args.faces.now in
    let u : ℕ = c.in-Some.vertex.0 in
    let v : ℕ = c.in-Some-least_elsewhere.other.0 in
    least_apart c.in_ok-least.ensures.valid c.in_ok-least.ensures.components c.in-Some.ensures.some
    (subst (λ (least : List ℕ). IsLeastElsewhere mesh least u v) c.deref.ensures.value c.in-Some-least_elsewhere.ensures.some)

pub returns : goal.returns
returns c =
    let mesh = c.args.faces.now in
    let u : ℕ = c.in-Some.vertex.0 in
    all_joined c.in_ok-least.least.items u c.in_ok-least.ensures.valid c.in_ok-least.ensures.components
    (subst (λ (least : List ℕ). (v : ℕ) → v < mesh.count → is_used mesh v ≡ true → get_or least v 0 ≡ get_or least u 0)
    c.deref.ensures.value c.in-None.ensures.none)
