use Rattle.component_deciding.proofs.Common.{◌≡◌, ◌<◌, ℕ, List, length, get_or, sym, ◌∙◌, ap, arith, get_or_read, length-map, numbers, VertexName}
use Rattle.component_deciding.proofs.ComponentLemmas.{number_at, renumbered_more}
use Rattle.component_deciding.proofs.own_mesh.renumber.Goals as goal

pub index-requires : goal.index-requires
index-requires c =
    let i : ℕ = c.loop-vertex.vertex-index in
    let b : i < length c.args.vertices.now = omega arith in
    let few : i < length (numbers c.args.vertices.now) = omega (arith, b, length-map c.args.vertices.now (λ (v : VertexName). v.0)) in
    omega (arith, number_at c.args.vertices.now i (record { 0 = 0 }) b, c.requires i 0 few, c.args.own.now.numbers.ok.0)

pub loop-vertex-preserved : goal.loop-vertex-preserved
loop-vertex-preserved c =
    let i : ℕ = c.loop-vertex.vertex-index in
    let own : List ℕ = c.args.own.now.numbers.items in
    let vertices : List ℕ = numbers c.args.vertices.now in
    let none : VertexName = record { 0 = 0 } in
    let b : i < length c.args.vertices.now = omega arith in
    let few : i < length vertices = omega (arith, b, length-map c.args.vertices.now (λ (v : VertexName). v.0)) in
    let same : get_or vertices i 0 ≡ (get_or c.args.vertices.now i none).0 = number_at c.args.vertices.now i none b in
    let within : (get_or c.args.vertices.now i none).0 < length own = omega (arith, same, c.requires i 0 few) in
    let read : c.index.result.now ≡ get_or own (get_or c.args.vertices.now i none).0 0 =
    get_or_read own (get_or c.args.vertices.now i none).0 _ within c.index.ensures 0 in
    renumbered_more own vertices c.loop-vertex.list.items c.push.new.self.items i c.index.result.now few c.loop-vertex.invariant
    (read ∙ ap (λ (v : ℕ). get_or own v 0) (sym same)) c.in_ok-push.ensures.items
