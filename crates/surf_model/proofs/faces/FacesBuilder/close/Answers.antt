use Rattle.surf_model.proofs.Common.{◌+◌, ◌-◌, ◌≡◌, length, arith, last_end}
use Rattle.surf_model.proofs.StoredLemmas.{total_sides-pending, length-pending, close_face}
use Rattle.surf_model.proofs.faces.FacesBuilder.close.Goals as goal

pub push-requires-clause-room : goal.push-requires-clause-room
push-requires-clause-room c =
    omega (
      arith,
      c.requires.room,
      total_sides-pending _ _ _ c.args.self.now c.self.invariant c.self.view_is,
      length-pending _ _ _ c.args.self.now c.self.view_is,
      c.len.ensures,
      c.self.inside.corners.ok.0,
      c.total.ensures,
    )

pub invariant_of-self-2 : goal.invariant_of-self-2
invariant_of-self-2 c =
    let i = c.self.inside in
    let whole : last_end i.parts + (c.len.result - c.total.result) ≡ length i.corners.items = grind arith in
    rw c.in_ok-push.ensures.ok (close_face i.count i.parts i.corners.items c.args.self.now _ c.self.invariant c.self.view_is
    c.requires.face c.requires.room whole).stored

pub returns-clause-ok : goal.returns-clause-ok
returns-clause-ok c =
    let i = c.self.inside in
    let whole : last_end i.parts + (c.len.result - c.total.result) ≡ length i.corners.items = grind arith in
    rw c.in_ok-push.ensures.ok (close_face i.count i.parts i.corners.items c.args.self.now _ c.self.invariant c.self.view_is
    c.requires.face c.requires.room whole).seen
