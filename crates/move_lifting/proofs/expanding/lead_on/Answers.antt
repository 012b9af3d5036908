use Rattle.move_lifting.proofs.Common.{darts_of, edge_of, rotations_of, IsDartFrom, IsFaceBelow, IsCrossed, TrackView, last_of, ◌≡◌, ℕ, ◌+◌, ◌≤◌, false, List, [], ◌∷◌, ◌++◌, length, sym, ap, ◌∙◌, subst, arith, common_steps, nil_from_length, FaceList, face_at, numbers, VertexName, in_cotree}
use Rattle.move_lifting.proofs.ExpandLemmas.{under_way, all_come, one_pending, length-numbers, room_along, room_across, put_on_way, cross_on_way, all_led, rest_turned_to}
use Rattle.move_lifting.proofs.expanding.lead_on.Goals as goal
use Rattle.move_lifting.proofs.expanding.lead_on.Goals.{in-Some-face_below+in_ok-cross-in-Some-face_below, in-None+in_ok-put-in-None, In_default, After-len}
use Rattle.move_lifting.proofs.LedLemmas.{led_put}

pub loop-step-init : goal.loop-step-init
loop-step-init c =
    let items : c.push.new.self.items ≡ c.args.to ∷ [] =
    c.in_ok-push.ensures.items ∙ ap (λ (l : List VertexName). l ++ c.args.to ∷ []) c.requires.pending in
    record {
      under = under_way c.args.on.now.surface.now c.args.on.now.split.now c.darts-step-end.ensures.valid c.args.behind c.args.to.0 _
          c.args.track.now c.reserve.new.self (numbers c.push.new.self.items) c.in_ok-reserve.ensures (ap numbers items) c.requires.some
          c.requires.no_spur c.requires.off_cotree c.requires.edge;
      cells = omega (
        arith,
        ap (λ (t : TrackView). length t.walk) c.in_ok-reserve.ensures,
        ap (λ (t : TrackView). t.spare) c.in_ok-reserve.ensures,
        c.darts.ensures.count,
      );
    }

-- nothing is pending any more
none : (c : In_default) → c.loop-step.pending.items ≡ []
none c = nil_from_length c.loop-step.pending.items (omega (arith, c.in_default.ensures.cases.0))

pub returns-in_default-clause-no_spur : goal.returns-in_default-clause-no_spur
returns-in_default-clause-no_spur c = c.loop-step.invariant.under.no_spur

pub returns-in_default-clause-off_cotree : goal.returns-in_default-clause-off_cotree
returns-in_default-clause-off_cotree c = c.loop-step.invariant.under.off_cotree

pub returns-in_default-clause-long : goal.returns-in_default-clause-long
returns-in_default-clause-long c = grind arith

pub returns-in_default-clause-led : goal.returns-in_default-clause-led
returns-in_default-clause-led c = grind (arith, common_steps, all_led, none)

pub face_below-requires-clause-edge : goal.face_below-requires-clause-edge
face_below-requires-clause-edge c = grind (arith, common_steps, one_pending, rest_turned_to)

pub cross-requires-clause-room : goal.cross-requires-clause-room
cross-requires-clause-room c =
    let s = c.args.on.now.surface.now in
    let u : ℕ = last_of c.loop-step.track.walk in
    let step = c.in-Some-face_below.step in
    let popped = one_pending c.loop-step.pending.items c.pop.new.self.items c.in-Some.next c.in-Some.ensures.items in
    let under : IsFaceBelow s c.args.on.now.split.now u c.in-Some.next.0 step =
    subst (λ (x : ℕ). IsFaceBelow s c.args.on.now.split.now x c.in-Some.next.0 step) c.last.ensures.vertex c.in-Some-face_below.ensures in
    let room = room_across c.faces.ensures.valid c.requires.on.split (numbers c.pop.new.self.items) c.in-Some.next.0
    c.loop-step.invariant.under popped under in
    let mesh : length (face_at c.faces.result.now step.face.0) ≡ length (face_at s.mesh step.face.0) =
    ap (λ (m : FaceList). length (face_at m step.face.0)) c.faces.ensures.mesh in
    omega (arith, room, mesh, c.requires.room, length-numbers c.pop.new.self.items)

-- along an edge there is room
room : (c : After-len)
    → length c.loop-step.track.walk + c.len.result + 1 ≤ length c.args.track.now.walk + darts_of c.args.on.now.surface.now
room c =
    let popped = one_pending c.loop-step.pending.items c.pop.new.self.items c.in-Some.next c.in-Some.ensures.items in
    let room = room_along c.requires.on.split (numbers c.pop.new.self.items) c.in-Some.next.0 c.loop-step.invariant.under popped in
    omega (arith, room, c.len.ensures, length-numbers c.pop.new.self.items)

pub overflow_cast-len : goal.overflow_cast-len
overflow_cast-len c = omega (arith, room (goal.at.overflow_cast-len c).After-len, c.requires.room)

pub overflow_add-len : goal.overflow_add-len
overflow_add-len c = omega (arith, room (goal.at.overflow_add-len c).After-len, c.requires.room)

pub put-requires-clause-no_spur : goal.put-requires-clause-no_spur
put-requires-clause-no_spur c = c.loop-step.invariant.under.no_spur

pub put-requires-clause-room : goal.put-requires-clause-room
put-requires-clause-room c = omega (arith, room (goal.at.put-requires-clause-room c).After-len, c.requires.room)

pub loop-step-preserved : goal.loop-step-preserved
loop-step-preserved c =
    let s = c.args.on.now.surface.now in
    let split = c.args.on.now.split.now in
    let u : ℕ = last_of c.loop-step.track.walk in
    let v : ℕ = c.in-Some.next.0 in
    let popped = one_pending c.loop-step.pending.items c.pop.new.self.items c.in-Some.next c.in-Some.ensures.items in
    elim c.match-face_below.branch [
      | in-Some-face_below+in_ok-cross-in-Some-face_below w ↦
          let step = w.in-Some-face_below.step in
          let under : IsFaceBelow s split u v step =
          subst (λ (x : ℕ). IsFaceBelow s split x v step) c.last.ensures.vertex w.in-Some-face_below.ensures in
          let crossed : IsCrossed s.mesh step c.args.behind c.loop-step.track (numbers c.pop.new.self.items) w.cross.new.track
          (numbers w.cross.new.pending.items) =
          subst (λ (m : FaceList). IsCrossed m step c.args.behind c.loop-step.track (numbers c.pop.new.self.items) w.cross.new.track
          (numbers w.cross.new.pending.items))
          w.faces.ensures.mesh w.in_ok-cross-in-Some-face_below.ensures.crossed in
          rw (w.track-is, w.pending-is)
          (record {
            under = cross_on_way c.darts-step-end.ensures.valid (numbers c.pop.new.self.items) v c.loop-step.invariant.under popped
                under crossed;
            cells = omega (
              arith,
              w.in_ok-cross-in-Some-face_below.ensures.spare,
              ap (λ (l : List ℕ). length l) crossed.walk,
              c.loop-step.invariant.cells,
            );
          })
      | in-None+in_ok-put-in-None w ↦
          let put = w.in_ok-put-in-None.ensures in
          let off : (d : ℕ) → IsDartFrom (rotations_of s) u v d → in_cotree split (edge_of s d) ≡ false =
          subst (λ (x : ℕ). (d : ℕ) → IsDartFrom (rotations_of s) x v d → in_cotree split (edge_of s d) ≡ false) c.last.ensures.vertex
          w.in-None.ensures in
          let after : w.len.result + c.args.behind ≡ length (numbers c.pop.new.self.items) + c.args.behind =
          omega (arith, w.len.ensures, length-numbers c.pop.new.self.items) in
          rw (w.track-is, w.pending-is)
          (record {
            under = put_on_way w.put.new.self (numbers c.pop.new.self.items) v (w.len.result + c.args.behind) c.loop-step.invariant.under
                popped after off
                (led_put (w.len.result + c.args.behind) v c.loop-step.track w.put.new.self (put.leads s.mesh) put.some put.last put.more
                put.shape put.count put.peak) put.no_spur put.long put.shape;
            cells = omega (arith, put.cells, c.loop-step.invariant.cells);
          })
    ]

pub returns-clause-pending : goal.returns-clause-pending
returns-clause-pending c =
    let done : darts_of c.args.on.now.surface.now ≤ c.loop-step._step =
    omega (arith, c.darts-step-end.ensures.count, c.loop-step-test.false) in
    nil_from_length c.loop-step.pending.items
    (sym (length-numbers c.loop-step.pending.items)
    ∙ all_come c.requires.on.split c.loop-step.invariant.under done)

pub returns-clause-no_spur : goal.returns-clause-no_spur
returns-clause-no_spur c = c.loop-step.invariant.under.no_spur

pub returns-clause-off_cotree : goal.returns-clause-off_cotree
returns-clause-off_cotree c = c.loop-step.invariant.under.off_cotree

pub returns-clause-long : goal.returns-clause-long
returns-clause-long c = omega (arith, c.loop-step.invariant.under.long, c.darts-step-end.ensures.count, c.loop-step.auto._step-end)

pub returns-clause-led : goal.returns-clause-led
returns-clause-led c = all_led c.loop-step.invariant.under (ap numbers (returns-clause-pending c))
