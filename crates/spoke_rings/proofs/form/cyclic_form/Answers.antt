use Rattle.spoke_rings.proofs.Common.{IsLoop, IsCyclicallyCanonical, ◌≤◌, length, arith, refl, ap, sym, subst}
use Rattle.spoke_rings.proofs.Forming.{Form, form-of, form-over, form-leads, loop-now, all-turns}
use Rattle.spoke_rings.proofs.form.cyclic_form.Goals as goal
use Rattle.spoke_rings.proofs.form.cyclic_form.Goals.{then-len-gt0+then-all_fall+in_ok-turn_over, else-len-gt0, else-len-gt0-via-then-len-gt0+else-all_fall, else-len-gt0-via-else-len-gt0}

pub all_fall-requires-clause-spokes : goal.all_fall-requires-clause-spokes
all_fall-requires-clause-spokes c =
    loop-now c.args.wheel.now c.requires.full c.reduce.new.self c.to_vertex.new.self c.reduce.ensures.acts.loop
    (c.to_vertex.ensures.spokes, c.to_vertex.ensures.at_vertex)

pub turn_over-requires-clause-spokes : goal.turn_over-requires-clause-spokes
turn_over-requires-clause-spokes c =
    loop-now c.args.wheel.now c.requires.full c.reduce.new.self c.to_vertex.new.self c.reduce.ensures.acts.loop
    (c.to_vertex.ensures.spokes, c.to_vertex.ensures.at_vertex)

pub turn_over-requires-clause-some : goal.turn_over-requires-clause-some
turn_over-requires-clause-some c =
    let loop = loop-now c.args.wheel.now c.requires.full c.reduce.new.self c.to_vertex.new.self c.reduce.ensures.acts.loop
    (c.to_vertex.ensures.spokes, c.to_vertex.ensures.at_vertex) in
    let some = c.if-len-gt0.true in
    omega (arith, c.len.ensures)

pub turn_over-requires-clause-falls : goal.turn_over-requires-clause-falls
turn_over-requires-clause-falls c =
    let loop = loop-now c.args.wheel.now c.requires.full c.reduce.new.self c.to_vertex.new.self c.reduce.ensures.acts.loop
    (c.to_vertex.ensures.spokes, c.to_vertex.ensures.at_vertex) in
    all-turns c.args.wheel.now c.requires.full c.to_vertex.new.self loop (omega (arith, c.if-len-gt0.true, c.len.ensures))
    (c.if-all_fall.ensures.0 refl)

-- the ring at the end
form : (c : goal.In_ok-form) → Form c.args.wheel.now c.in_ok-ring.ring c.if-len-gt0.ring
form c =
    let places = c.args.wheel.now in
    let start = c.in_ok-ring.ring in
    let now = c.to_vertex.new.self in
    elim c.if-len-gt0.branch [
      | then-len-gt0+then-all_fall+in_ok-turn_over w ↦
          subst (Form places start) (sym w.ring-is)
          (form-over places c.requires.full start c.reduce.new.self now w.turn_over.new.self w.to_vertex-then-all_fall.new.self
          c.reduce.ensures.acts c.reduce.ensures.not_longer (c.to_vertex.ensures.spokes, c.to_vertex.ensures.at_vertex)
          (omega (arith, w.if-len-gt0.true, c.len.ensures)) w.in_ok-turn_over.ensures
          (w.to_vertex-then-all_fall.ensures.spokes, w.to_vertex-then-all_fall.ensures.at_vertex))
      | else-len-gt0 w ↦
          subst (Form places start) (sym w.ring-is)
          (form-of places c.requires.full start c.reduce.new.self now c.reduce.ensures.acts c.reduce.ensures.not_longer
          c.reduce.ensures.fine
          (c.to_vertex.ensures.spokes, c.to_vertex.ensures.at_vertex)
          (λ all. elim w.else-len-gt0.branch [
            | else-len-gt0-via-then-len-gt0+else-all_fall u ↦ (let yes = u.if-all_fall.ensures.1 all.1 in absurd cc)
            | else-len-gt0-via-else-len-gt0 u ↦ (let some = all.0 in omega (arith, u.if-len-gt0.false, c.len.ensures))
          ]))
    ]

pub returns-clause-spokes : goal.returns-clause-spokes
returns-clause-spokes c = subst (IsLoop c.args.wheel.now) (sym c.in_ok-form.ensures) (form c).acts.loop

pub returns-clause-canonical : goal.returns-clause-canonical
returns-clause-canonical c = subst (IsCyclicallyCanonical c.args.wheel.now) (sym c.in_ok-form.ensures) (form c).canonical

pub returns-clause-leads : goal.returns-clause-leads
returns-clause-leads c =
    form-leads c.args.wheel.now c.requires.full c.in_ok-ring.ring c.if-len-gt0.ring c.args.spokes.now c.in_ok-form.form.items
    c.in_ok-ring.ensures.spokes c.in_ok-ring.ensures.at_vertex c.in_ok-form.ensures (form c)

pub returns-clause-not_longer : goal.returns-clause-not_longer
returns-clause-not_longer c =
    let shorter : length c.if-len-gt0.ring.spokes ≤ length c.in_ok-ring.ring.spokes = (form c).not_longer in
    omega (arith, ap length c.in_ok-form.ensures, ap length c.in_ok-ring.ensures.spokes)
