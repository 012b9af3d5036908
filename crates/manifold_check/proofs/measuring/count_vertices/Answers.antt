use Rattle.manifold_check.proofs.Common.{◌≡◌, ◌+◌, ◌<◌, ℕ, true, List, get_or, set, length, sym, ◌∙◌, subst, arith, get_or_read, length-set, group_of_within, IsCounted, is_used}
use Rattle.manifold_check.proofs.MeasureLemmas.{place_of_used, used_counted, unused_counted, vertices_counted}
use Rattle.manifold_check.proofs.measuring.count_vertices.Goals as goal
use Rattle.manifold_check.proofs.measuring.count_vertices.Goals.{then-used, else-used}

pub index_mut-requires : goal.index_mut-requires
index_mut-requires c = grind arith

pub overflow_add-index_mut : goal.overflow_add-index_mut
overflow_add-index_mut c =
    let mesh = c.args.faces.now in
    let v : ℕ = c.loop-vertex.vertex in
    let place : ℕ = c.part_of.result in
    let used : is_used mesh v ≡ true = sym (c.if-used.ensures.mesh mesh c.requires.table) in
    let inside : place < length c.loop-vertex.counts.items = grind arith in
    let read : c.index_mut.result.now ≡ get_or c.loop-vertex.counts.items place 0 =
    get_or_read c.loop-vertex.counts.items place _ inside c.index_mut.ensures.value 0 in
    omega (
      arith,
      read,
      c.loop-vertex.invariant.counted place inside,
      group_of_within (place_of_used mesh c.args.parts.now) place v,
      c.loop-vertex-test.true,
      c.count-vertex-end.ensures.count,
      c.count-vertex-end.ensures.small.few_vertices,
    )

pub loop-vertex-preserved : goal.loop-vertex-preserved
loop-vertex-preserved c =
    let mesh = c.args.faces.now in
    let parts = c.args.parts.now in
    let v : ℕ = c.loop-vertex.vertex in
    let counts : List ℕ = c.loop-vertex.counts.items in
    elim c.if-used.branch [
      | then-used w ↦
          (let place : ℕ = w.part_of.result in
          let used : is_used mesh v ≡ true = sym (w.if-used.ensures.mesh mesh c.requires.table) in
          let inside : place < length counts = grind arith in
          let read : w.index_mut.result.now ≡ get_or counts place 0 = get_or_read counts place _ inside w.index_mut.ensures.value 0 in
          rw w.counts-is (record {
            many = length-set counts place (w.index_mut.result.now + 1) ∙ c.loop-vertex.invariant.many;
            counted = subst (λ x. IsCounted (place_of_used mesh parts) (v + 1) (set counts place (x + 1))) (sym read)
                (used_counted mesh parts v place counts used w.part_of.ensures inside c.loop-vertex.invariant.counted);
          }))
      | else-used w ↦
          rw w.counts-is (record {
            many = c.loop-vertex.invariant.many;
            counted = unused_counted mesh parts v counts (sym (w.if-used.ensures.mesh mesh c.requires.table)) c.loop-vertex.invariant.many
                c.loop-vertex.invariant.counted;
          })
    ]

pub returns-clause-counted : goal.returns-clause-counted
returns-clause-counted c = grind (arith, vertices_counted)
