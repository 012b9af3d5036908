use Rattle.manifold_check.proofs.Common.{◌≡◌, ◌+◌, ◌<◌, ℕ, List, get_or, length, refl, ap, sym, ◌∙◌, arith, get_or_read, length_push, component_at, component_mesh, AreNumbersOf, SurfaceNumbers}
use Rattle.manifold_check.proofs.MeasureLemmas.{component_table}
use Rattle.manifold_check.proofs.PieceLemmas.{length-submesh}
use Rattle.manifold_check.proofs.measuring.measure.Goals as goal

pub loop-part-preserved : goal.loop-part-preserved
loop-part-preserved c =
    let mesh = c.args.faces.now in
    let parts = c.args.parts.now in
    let part : ℕ = c.loop-part.part in
    let all : List SurfaceNumbers = c.loop-part.all.items in
    let vertices : List ℕ = c.in_ok-vertices.vertices.items in
    let edges : List ℕ = c.in_ok-edges.edges.items in
    let there : part < length parts.components = omega (arith, c.loop-part-test.true, c.len-part-end.ensures) in
    let read : c.index.result.now ≡ get_or vertices part 0 =
    get_or_read vertices part _ (omega (arith, there, c.in_ok-vertices.ensures.len)) c.index.ensures 0 in
    let read_too : c.index-in-loop-part.result.now ≡ get_or edges part 0 =
    get_or_read edges part _ (omega (arith, there, c.in_ok-edges.ensures.len)) c.index-in-loop-part.ensures 0 in
    let value : SurfaceNumbers = c.of.result in
    let own = component_table mesh c.args.sides.now parts part c.requires.table c.requires.parts there in
    let numbers : AreNumbersOf (component_mesh mesh parts part) value = record {
      vertices = c.of.ensures.vertices ∙ read ∙ c.in_ok-vertices.ensures.counted part there;
      table = own.0;
      is_table = own.1;
      edges = c.of.ensures.edges ∙ read_too ∙ c.in_ok-edges.ensures.counted part own.0 there own.1;
      faces = c.of.ensures.faces ∙ c.size.ensures ∙ sym (length-submesh mesh (component_at parts part));
      euler = c.of.ensures.euler ∙ rw (c.of.ensures.vertices, c.of.ensures.edges, c.of.ensures.faces) refl;
    } in
    rw c.in_ok-push.ensures.items (record {
      many = length_push all value ∙ ap (λ k. k + 1) c.loop-part.invariant.many;
      numbers = λ k d l. grind arith;
    })
