use Rattle.component_deciding.proofs.Common.{own_number, place_of_used, used_counted, unused_counted, vertices_counted, Vec, Global, ◌≡◌, ◌+◌, ◌<◌, ℕ, true, false, List, get_or, set, length, sym, ◌∙◌, subst, ap, arith, both_ways, get_or_read, length_push, used_below, IsCounted, component_mesh, is_used}
use Rattle.std.proofs.lemmas.List.{length-set}
use Rattle.surf_model.proofs.TallyLemmas.{group_of_within}
use Rattle.component_deciding.proofs.ComponentLemmas.{count_is_number, numbered_more}
use Rattle.component_deciding.proofs.own_numbers.number_vertices.Goals as goal
use Rattle.component_deciding.proofs.own_numbers.number_vertices.Goals.{then-used, else-used}

pub index-number-requires : goal.index-number-requires
index-number-requires c =
    let used : is_used c.args.mesh.now.faces c.loop-vertex.vertex ≡ true =
    sym (c.if-used.ensures.mesh c.args.mesh.now.faces c.requires.signed.table) in
    omega (
      arith,
      c.part_of-place.ensures,
      c.requires.parts.places.below c.loop-vertex.vertex used,
      c.loop-vertex.invariant.each_component,
      c.loop-vertex.counts.ok.0,
    )

pub index_mut-requires : goal.index_mut-requires
index_mut-requires c =
    let used : is_used c.args.mesh.now.faces c.loop-vertex.vertex ≡ true =
    sym (c.if-used.ensures.mesh c.args.mesh.now.faces c.requires.signed.table) in
    omega (
      arith,
      c.part_of-place.ensures,
      c.requires.parts.places.below c.loop-vertex.vertex used,
      c.loop-vertex.invariant.each_component,
      c.loop-vertex.counts.ok.0,
    )

pub overflow_add-index_mut : goal.overflow_add-index_mut
overflow_add-index_mut c =
    let mesh = c.args.mesh.now.faces in
    let v : ℕ = c.loop-vertex.vertex in
    let place : ℕ = c.part_of-place.result in
    let used : is_used mesh v ≡ true = sym (c.if-used.ensures.mesh mesh c.requires.signed.table) in
    let inside : place < length c.loop-vertex.counts.items =
    omega (arith, c.part_of-place.ensures, c.requires.parts.places.below v used, c.loop-vertex.invariant.each_component) in
    let read : c.index_mut.result.now ≡ get_or c.loop-vertex.counts.items place 0 =
    get_or_read c.loop-vertex.counts.items place _ inside c.index_mut.ensures.value 0 in
    omega (
      arith,
      read,
      c.loop-vertex.invariant.counted place inside,
      group_of_within (place_of_used mesh c.args.parts.now) place v,
      c.loop-vertex-test.true,
      c.count-count.ensures.count,
      c.count-count.ensures.small.few_vertices,
    )

pub loop-vertex-preserved : goal.loop-vertex-preserved
loop-vertex-preserved c =
    let mesh = c.args.mesh.now.faces in
    let parts = c.args.parts.now in
    let v : ℕ = c.loop-vertex.vertex in
    let counts : List ℕ = c.loop-vertex.counts.items in
    let inv = c.loop-vertex.invariant in
    let long : length c.push.new.self.items ≡ v + 1 =
    ap (λ (l : List ℕ). length l) c.in_ok-push.ensures.items ∙ length_push c.loop-vertex.numbers.items c.if-used.number
    ∙ ap (λ (n : ℕ). n + 1) inv.each_vertex in
    elim c.if-used.branch [
      | then-used w ↦
          (let place : ℕ = w.part_of-place.result in
          let used : is_used mesh v ≡ true = sym (w.if-used.ensures.mesh mesh c.requires.signed.table) in
          let below = c.requires.parts.places.below v used in
          let inside : place < length counts = omega (arith, w.part_of-place.ensures, below, inv.each_component) in
          let read : w.index_mut.result.now ≡ get_or counts place 0 = get_or_read counts place _ inside w.index_mut.ensures.value 0 in
          let number : c.if-used.number ≡ own_number (component_mesh mesh parts (get_or parts.places v 0)) v =
          w.number-is ∙ get_or_read counts place _ inside w.index-number.ensures 0
          ∙ count_is_number mesh parts counts place v c.requires.parts (omega (arith, w.part_of-place.ensures, below)) inside inv.counted
          ∙ ap (λ (j : ℕ). own_number (component_mesh mesh parts j) v) w.part_of-place.ensures in
          record {
            each_component = ap (λ (x : Vec ℕ Global). length x.items) w.counts-is
                ∙ length-set counts place (w.index_mut.result.now + 1) ∙ inv.each_component;
            each_vertex = long;
            counted = rw w.counts-is (subst (λ x. IsCounted (place_of_used mesh parts) (v + 1) (set counts place (x + 1))) (sym read)
                (used_counted mesh parts v place counts used w.part_of-place.ensures inside inv.counted));
            numbered = rw c.in_ok-push.ensures.items (numbered_more mesh parts v c.if-used.number c.loop-vertex.numbers.items
                inv.each_vertex (λ _. number) inv.numbered);
          })
      | else-used w ↦
          (let unused : is_used mesh v ≡ false = sym (w.if-used.ensures.mesh mesh c.requires.signed.table) in
          record {
            each_component = ap (λ (x : Vec ℕ Global). length x.items) w.counts-is ∙ inv.each_component;
            each_vertex = long;
            counted = rw w.counts-is (unused_counted mesh parts v counts unused inv.each_component inv.counted);
            numbered = rw c.in_ok-push.ensures.items (numbered_more mesh parts v c.if-used.number c.loop-vertex.numbers.items
                inv.each_vertex (λ used. absurd (both_ways (is_used mesh v) unused used)) inv.numbered);
          })
    ]

pub returns : goal.returns
returns c =
    let mesh = c.args.mesh.now.faces in
    let parts = c.args.parts.now in
    let inv = c.loop-vertex.invariant in
    let all : c.loop-vertex.vertex ≡ mesh.count =
    omega (arith, c.loop-vertex-test.false, c.count-count.ensures.count, c.loop-vertex.auto.vertex-end) in
    record {
      valid = c.count-count.ensures.valid;
      small = c.count-count.ensures.small;
      each_vertex = inv.each_vertex ∙ all;
      each_component = inv.each_component;
      numbered = λ v used. inv.numbered v (omega (arith, all, used_below mesh v c.count-count.ensures.valid used)) used;
      counted = λ k l. vertices_counted mesh parts c.loop-vertex.counts.items k c.requires.parts l (omega (arith, l, inv.each_component))
          (subst (λ n. IsCounted (place_of_used mesh parts) n c.loop-vertex.counts.items) all inv.counted);
    }
