use Rattle.component_deciding.proofs.Common.{AreOwnNumbers, own_mesh, OwnNumbers, count_at_most, ◌≡◌, ◌<◌, ℕ, List, length, ap, sym, ◌∙◌, subst, arith, get_or_read, length-map, take_all, All, PartsView, AreParts, component_at, component_mesh, FaceList, face_at, is_used, total_sides, numbers, VertexName}
use Rattle.component_deciding.proofs.ComponentLemmas.{IsNumbered, named_within, own_count, own_face_valid, own_faces_more, own_ring, own_room}
use Rattle.component_deciding.proofs.own_mesh.own_faces.Goals as goal

pub index-requires : goal.index-requires
index-requires c = omega (arith, c.requires.place, c.requires.apart.own.each_component, c.args.apart.now.own.counts.ok.0)

-- the component, with the numbers of its own vertices
numbered : (mesh : FaceList) (parts : PartsView) (own : OwnNumbers) (k : ℕ) → AreParts mesh parts → AreOwnNumbers mesh parts own
    → k < length parts.components → IsNumbered mesh parts own k
numbered mesh parts own k h n l = record { parts_are = h; numbers_are = n; within = l }

pub new-alone-requires : goal.new-alone-requires
new-alone-requires c =
    let mesh = c.args.apart.now.mesh.faces in
    let parts = c.args.apart.now.parts in
    let own = c.args.apart.now.own in
    let inside : c.args.place < length own.counts.items = omega (arith, c.requires.place, c.requires.apart.own.each_component) in
    omega (
      arith,
      get_or_read own.counts.items c.args.place _ inside c.index.ensures 0,
      c.requires.apart.own.counted c.args.place c.requires.place,
      count_at_most (is_used (component_mesh mesh parts c.args.place)) mesh.count,
      c.requires.apart.own.small.few_vertices,
    )

pub ring-requires : goal.ring-requires
ring-requires c =
    let parts = c.args.apart.now.parts in
    let f : ℕ = c.loop-face.face in
    let h = numbered c.args.apart.now.mesh.faces parts c.args.apart.now.own c.args.place c.requires.apart.parts c.requires.apart.own
    c.requires.place in
    omega (
      arith,
      c.name-name.ensures,
      named_within c.args.apart.now.mesh.faces parts c.args.apart.now.own c.args.place f h
          (omega (arith, c.loop-face-test.true, c.size-face-end.ensures)),
    )

pub renumber-requires : goal.renumber-requires
renumber-requires c =
    subst (λ (ring : List ℕ). All (λ v. v < length c.args.apart.now.own.numbers.items) ring) (sym c.ring.ensures.ring)
    (λ t d l. omega (arith, c.ring.ensures.polygon.in_range t d l, c.requires.apart.own.each_vertex))

pub push_slice-requires-clause-face : goal.push_slice-requires-clause-face
push_slice-requires-clause-face c =
    let mesh = c.args.apart.now.mesh.faces in
    let parts = c.args.apart.now.parts in
    let own = c.args.apart.now.own in
    let f : ℕ = c.loop-face.face in
    let few : f < length (component_at parts c.args.place) = omega (arith, c.loop-face-test.true, c.size-face-end.ensures) in
    let h = numbered mesh parts own c.args.place c.requires.apart.parts c.requires.apart.own c.requires.place in
    let ring : numbers c.deref.result.now ≡ face_at (own_mesh (component_mesh mesh parts c.args.place)) f =
    own_ring mesh parts own c.args.place f c.name-name.result.0 (numbers c.ring.result.now) (numbers c.deref.result.now) h few
    c.name-name.ensures c.ring.ensures.ring (ap numbers c.deref.ensures.value ∙ c.in_ok-renumber.ensures) in
    let count = ap (λ (m : FaceList). m.count) c.loop-face.invariant in
    rw (ring, count) (own_face_valid mesh parts own c.args.place f h few)

pub push_slice-requires-clause-room : goal.push_slice-requires-clause-room
push_slice-requires-clause-room c =
    let mesh = c.args.apart.now.mesh.faces in
    let parts = c.args.apart.now.parts in
    let own = c.args.apart.now.own in
    let f : ℕ = c.loop-face.face in
    let few : f < length (component_at parts c.args.place) = omega (arith, c.loop-face-test.true, c.size-face-end.ensures) in
    let h = numbered mesh parts own c.args.place c.requires.apart.parts c.requires.apart.own c.requires.place in
    let ring : numbers c.deref.result.now ≡ face_at (own_mesh (component_mesh mesh parts c.args.place)) f =
    own_ring mesh parts own c.args.place f c.name-name.result.0 (numbers c.ring.result.now) (numbers c.deref.result.now) h few
    c.name-name.ensures c.ring.ensures.ring (ap numbers c.deref.ensures.value ∙ c.in_ok-renumber.ensures) in
    omega (
      arith,
      ap total_sides c.loop-face.invariant,
      length-map c.deref.result.now (λ (v : VertexName). v.0),
      ap (λ (r : List ℕ). length r) ring,
      own_room mesh parts own c.args.place f h few,
    )

pub loop-face-preserved : goal.loop-face-preserved
loop-face-preserved c =
    let mesh = c.args.apart.now.mesh.faces in
    let parts = c.args.apart.now.parts in
    let own = c.args.apart.now.own in
    let f : ℕ = c.loop-face.face in
    let few : f < length (component_at parts c.args.place) = omega (arith, c.loop-face-test.true, c.size-face-end.ensures) in
    let h = numbered mesh parts own c.args.place c.requires.apart.parts c.requires.apart.own c.requires.place in
    let whole : FaceList = own_mesh (component_mesh mesh parts c.args.place) in
    own_faces_more whole.count f whole.faces (numbers c.deref.result.now) c.loop-face.alone c.push_slice.new.self
    (omega (arith, few, own_count mesh parts c.args.place)) c.loop-face.invariant
    (own_ring mesh parts own c.args.place f c.name-name.result.0 (numbers c.ring.result.now) (numbers c.deref.result.now) h few
    c.name-name.ensures c.ring.ensures.ring (ap numbers c.deref.ensures.value ∙ c.in_ok-renumber.ensures))
    c.in_ok-push_slice.ensures.ok

pub returns : goal.returns
returns c =
    let whole : FaceList = own_mesh (component_mesh c.args.apart.now.mesh.faces c.args.apart.now.parts c.args.place) in
    c.loop-face.invariant
    ∙ ap (λ (fs : List (List ℕ)). let all : FaceList = record { count = whole.count; faces = fs } in all)
    (take_all c.loop-face.face whole.faces (omega (
      arith,
      own_count c.args.apart.now.mesh.faces c.args.apart.now.parts c.args.place,
      c.loop-face-test.false,
      c.size-face-end.ensures,
    )))
