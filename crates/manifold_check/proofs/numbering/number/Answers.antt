use Rattle.manifold_check.proofs.Common.{◌≡◌, ◌<◌, ℕ, List, get_or, length, sym, arith, subst, get_or_read}
use Rattle.manifold_check.proofs.NumberLemmas.{AreLeasts, AreNumbered, rank_within, leads, numbered_none, numbered_first, numbered_later, numbered_unused, places_of_components}
use Rattle.manifold_check.proofs.numbering.number.Goals as goal
use Rattle.manifold_check.proofs.numbering.number.Goals.{then-not-used+in_ok-push, else-not-used+then-first-vertex+in_ok-push-2, else-not-used+else-first-vertex+in_ok-push-3}

pub loop-vertex-init : goal.loop-vertex-init
loop-vertex-init c = rw c.in_ok-places.ensures.items (numbered_none c.args.faces.now c.args.least.now)

pub overflow_add-count : goal.overflow_add-count
overflow_add-count c = grind (arith, rank_within, leads)

pub loop-vertex-preserved : goal.loop-vertex-preserved
loop-vertex-preserved c =
    let mesh = c.args.faces.now in
    let least : List ℕ = c.args.least.now in
    let n : ℕ = c.loop-vertex.vertex in
    let first : ℕ = get_or least n 0 in
    let places : List ℕ = c.loop-vertex.places.items in
    let leasts : AreLeasts mesh least = grind arith in
    let below : n < length least = omega (arith, c.loop-vertex-test.true, c.count-vertex-end.ensures.count, c.requires.count) in
    elim c.if-not-used.branch [
      | then-not-used+in_ok-push w ↦
          rw (w.count-is, w.places-is, w.in_ok-push.ensures.items)
          (numbered_unused mesh least n c.loop-vertex.count 0 places c.loop-vertex.invariant
          (sym (w.if-not-used.ensures.mesh mesh c.requires.table)))
      | else-not-used+then-first-vertex+in_ok-push-2 w ↦
          rw (w.count-is, w.places-is, w.in_ok-push-2.ensures.items)
          (numbered_first mesh least n c.loop-vertex.count places c.loop-vertex.invariant
          (sym (w.if-not-used.ensures.mesh mesh c.requires.table)) w.if-first-vertex.true)
      | else-not-used+else-first-vertex+in_ok-push-3 w ↦
          (let inside : first < length places =
          omega (arith, c.loop-vertex.invariant.long, c.requires.members.lesser n below, w.if-first-vertex.false) in
          let read : w.index-place.result.now ≡ get_or places first 0 =
          get_or_read places first _ inside w.index-place.ensures 0 in
          rw (w.count-is, w.places-is, w.in_ok-push-3.ensures.items, read)
          (numbered_later mesh least n c.loop-vertex.count places leasts c.loop-vertex.invariant
          (sym (w.if-not-used.ensures.mesh mesh c.requires.table)) w.if-first-vertex.false))
    ]

pub returns-clause-places : goal.returns-clause-places
returns-clause-places c =
    let mesh = c.args.faces.now in
    let all : c.loop-vertex.vertex ≡ mesh.count = grind arith in
    places_of_components mesh c.args.least.now c.loop-vertex.count c.loop-vertex.places.items
    (record {
      valid = c.count-vertex-end.ensures.valid;
      components = c.requires.components;
      members = c.requires.members;
      count = c.requires.count;
    })
    (subst (λ n. AreNumbered mesh c.args.least.now n c.loop-vertex.count c.loop-vertex.places.items) all c.loop-vertex.invariant)

pub returns-clause-few : goal.returns-clause-few
returns-clause-few c = grind (arith, rank_within, leads)
