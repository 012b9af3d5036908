use Rattle.surf_model.proofs.Common.{◌≡◌, ◌+◌, ◌≤◌, ◌∷◌, [], ◌++◌, length, sym, ap, ◌∙◌, subst, arith, rules, FaceList, total_sides, IsFace, last_end, numbers, MOST_SIDES}
use Rattle.surf_model.proofs.PartsLemmas.{EndsRise-last}
use Rattle.surf_model.proofs.StoredLemmas.{IsStored-push, stored_mesh-push, total_sides-seen}
use Rattle.surf_model.proofs.faces.Faces.push_slice.Goals as goal

pub push-requires-clause-room : goal.push-requires-clause-room
push-requires-clause-room c =
    omega (
      arith,
      c.requires.room,
      total_sides-seen _ _ _ c.args.self.now c.self.invariant c.self.view_is,
      EndsRise-last c.self.inside.parts _ c.self.invariant.rising,
    )

pub invariant_of-self-2 : goal.invariant_of-self-2
invariant_of-self-2 c =
    let i = c.self.inside in
    let corners : c.extend_from_slice.new.self.items ≡ i.corners.items ++ c.args.face.now = search rules in
    let face = subst (λ (m : FaceList). IsFace m.count (numbers c.args.face.now)) (sym c.self.view_is) c.requires.face in
    let room = subst (λ (m : FaceList). total_sides m + length c.args.face.now ≤ MOST_SIDES) (sym c.self.view_is) c.requires.room in
    let size : last_end i.parts + length c.args.face.now ≡ length i.corners.items + length c.args.face.now =
    omega (arith, EndsRise-last i.parts _ c.self.invariant.rising) in
    rw (corners, c.in_ok-push.ensures.ok) (IsStored-push i.count i.parts i.corners.items c.args.face.now _ c.self.invariant face room size)

pub returns-clause-ok : goal.returns-clause-ok
returns-clause-ok c =
    let i = c.self.inside in
    let corners : c.extend_from_slice.new.self.items ≡ i.corners.items ++ c.args.face.now = search rules in
    let size : last_end i.parts + length c.args.face.now ≡ length i.corners.items + length c.args.face.now =
    omega (arith, EndsRise-last i.parts _ c.self.invariant.rising) in
    rw (corners, c.in_ok-push.ensures.ok) (stored_mesh-push i.count i.parts i.corners.items c.args.face.now _ c.self.invariant.rising size
    ∙ ap (λ (m : FaceList). let mesh : FaceList = record { count = m.count; faces = m.faces ++ numbers c.args.face.now ∷ [] } in mesh)
    c.self.view_is)
