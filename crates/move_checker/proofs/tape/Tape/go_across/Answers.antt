use Rattle.move_checker.proofs.Common.{list_under-is, Chains, list_of, step_of, PeakedWalk, Place, NotOnFace, OverPeak, ◌≡◌, Bool, true, ℕ, ◌+◌, ◌-◌, ◌≤◌, List, length, not, ap, sym, subst, ◌∙◌, arith, and_parts, leb-true, ◌&&◌, nat_lt, nat_le, Ok, Err, length-corners_from, face_at, corners_from, replaced, Across}
use Rattle.move_checker.proofs.Laid.{live_from}
use Rattle.move_checker.proofs.Replacements.{length-replaced}
use Rattle.move_checker.proofs.Steps.{across_misplaced, across_off_face, across_allowed, within_peak, over_peak}
use Rattle.move_checker.proofs.tape.Tape.go_across.Goals as goal
use Rattle.move_checker.proofs.tape.Tape.go_across.Goals.{After-is_on_face, After-replace_sides}

pub returns-then-darts-from-clause-step : goal.returns-then-darts-from-clause-step
returns-then-darts-from-clause-step c =
    subst (λ (t : PeakedWalk). step_of c.args.faces.now t.peak t.walk
    (Across c.args.at c.args.way.face c.args.way.corner c.args.way.forward c.args.taken) ≡ Err Place) c.self.view_is
    (across_misplaced c.args.faces.now c.self.inside.peak (list_of c.self.inside.pool c.self.inside.chain.0) c.args.at c.args.way.face
    c.args.way.corner c.args.way.forward c.args.taken
    (omega (arith, c.if-darts-from.true, c.from.ensures, c.from-taken_darts.ensures, c.from-darts.ensures, c.len.ensures)))

pub returns-then-not-is_on_face-clause-step : goal.returns-then-not-is_on_face-clause-step
returns-then-not-is_on_face-clause-step c =
    subst (λ (t : PeakedWalk). step_of c.args.faces.now t.peak t.walk
    (Across c.args.at c.args.way.face c.args.way.corner c.args.way.forward c.args.taken) ≡ Err NotOnFace) c.self.view_is
    (across_off_face c.args.faces.now c.self.inside.peak (list_of c.self.inside.pool c.self.inside.chain.0) c.args.at c.args.way.face
    c.args.way.corner c.args.way.forward c.args.taken
    (omega (arith, c.if-darts-from.false, c.from.ensures, c.from-taken_darts.ensures, c.from-darts.ensures, c.len.ensures))
    (sym c.is_on_face.ensures.reads ∙ c.if-not-is_on_face.true))

pub returns-then-darts-from-2-clause-step : goal.returns-then-darts-from-2-clause-step
returns-then-darts-from-2-clause-step c =
    let mesh = c.args.faces.now in
    let way = c.args.way in
    let walk : List ℕ = list_of c.self.inside.pool c.self.inside.chain.0 in
    let ring : List ℕ = face_at mesh way.face.0 in
    let others : List ℕ = corners_from ring (not way.forward) way.corner (length ring - c.args.taken) in
    let place : c.args.at + c.args.taken ≤ length walk - 1 =
    omega (arith, c.if-darts-from.false, c.from.ensures, c.from-taken_darts.ensures, c.from-darts.ensures, c.len.ensures) in
    let below : c.args.at + (c.args.taken + 1) ≤ length walk = omega (arith, place, c.self.invariant.starts) in
    let size = length-replaced c.args.at (c.args.taken + 1) others walk below in
    let written = length-corners_from ring (not way.forward) way.corner (length ring - c.args.taken) in
    subst (λ (t : PeakedWalk). step_of mesh t.peak t.walk (Across c.args.at way.face way.corner way.forward c.args.taken) ≡ Err OverPeak)
    c.self.view_is
    (over_peak mesh c.self.inside.peak walk (Across c.args.at way.face way.corner way.forward c.args.taken)
    (replaced c.args.at (c.args.taken + 1) others walk)
    (across_allowed mesh walk c.args.at way.face way.corner way.forward c.args.taken place
    (sym c.is_on_face.ensures.reads ∙ c.if-not-is_on_face.false))
    (omega (
      arith,
      size,
      written,
      below,
      c.if-darts-from-2.true,
      c.from-2.ensures,
      c.from-3.ensures,
      c.from-taken_darts.ensures,
      c.from-darts.ensures,
      c.len.ensures,
      c.sides.ensures,
    )))

-- the walk afterwards
after : (c : After-replace_sides) → list_of c.replace_sides.new.pool c.self.inside.chain.0
    ≡ replaced c.args.at (c.args.taken + 1)
    (corners_from (face_at c.args.faces.now c.args.way.face.0) (not c.args.way.forward) c.args.way.corner
    (length (face_at c.args.faces.now c.args.way.face.0) - c.args.taken))
    (list_of c.self.inside.pool c.self.inside.chain.0)
after c =
    let name = c.self.inside.chain.0 in
    let way = c.args.way in
    let ring : List ℕ = face_at c.args.faces.now way.face.0 in
    let others : List ℕ = corners_from ring (not way.forward) way.corner (length ring - c.args.taken) in
    list_under-is c.replace_sides.new.pool.lists name _ c.replace_sides.ensures.list
    ∙ ap (λ (p : Chains). replaced c.args.at (c.args.taken + 1) others (list_of p name)) c.is_on_face.ensures.same

-- no more sides are taken than the face has
enough : (c : After-is_on_face) → c.is_on_face.result ≡ true → c.args.taken ≤ length (face_at c.args.faces.now c.args.way.face.0)
enough c holds =
    let ring : List ℕ = face_at c.args.faces.now c.args.way.face.0 in
    let there : Bool = nat_lt c.args.way.face.0 (length c.args.faces.now.faces) in
    let cornered : Bool = nat_lt c.args.way.corner (length ring) in
    let few : Bool = nat_le c.args.taken (length ring) in
    let tests = and_parts (there && cornered && few) _ (sym c.is_on_face.ensures.reads ∙ holds) in
    leb-true c.args.taken (length ring) (and_parts (there && cornered) few tests.0).1

-- how many entries the walk then has
long : (c : After-replace_sides) → length (list_of c.replace_sides.new.pool c.self.inside.chain.0) + (c.args.taken + 1)
    ≡ length (list_of c.self.inside.pool c.self.inside.chain.0) + (c.sides.result - c.args.taken + 1)
long c =
    let walk : List ℕ = list_of c.self.inside.pool c.self.inside.chain.0 in
    let ring : List ℕ = face_at c.args.faces.now c.args.way.face.0 in
    let others : List ℕ = corners_from ring (not c.args.way.forward) c.args.way.corner (length ring - c.args.taken) in
    let below : c.args.at + (c.args.taken + 1) ≤ length walk =
    omega (
      arith,
      c.if-darts-from.false,
      c.from.ensures,
      c.from-taken_darts.ensures,
      c.from-darts.ensures,
      c.len.ensures,
      c.self.invariant.starts,
    ) in
    omega (
      arith,
      ap (λ (l : List ℕ). length l) (after c),
      length-replaced c.args.at (c.args.taken + 1) others walk below,
      length-corners_from ring (not c.args.way.forward) c.args.way.corner (length ring - c.args.taken),
      c.sides.ensures,
    )

pub invariant_of-self-2 : goal.invariant_of-self-2
invariant_of-self-2 c =
    let name = c.self.inside.chain.0 in
    let at = (goal.at.invariant_of-self-2 c).After-replace_sides in
    record {
      live = live_from c.replace_sides.new.pool.lists name _ c.replace_sides.ensures.list;
      starts = omega (
        arith,
        long at,
        c.if-darts-from.false,
        c.from.ensures,
        c.from-taken_darts.ensures,
        c.from-darts.ensures,
        c.len.ensures,
        c.self.invariant.starts,
      );
      room = omega (
        arith,
        enough (goal.at.invariant_of-self-2 c).After-is_on_face c.if-not-is_on_face.false,
        long at,
        c.self.invariant.room,
        c.replace_sides.ensures.spare,
        ap (λ (p : Chains). p.spare) c.is_on_face.ensures.same,
        c.sides.ensures,
      );
      few = c.self.invariant.few;
    }

pub returns-clause-step : goal.returns-clause-step
returns-clause-step c =
    let name = c.self.inside.chain.0 in
    let mesh = c.args.faces.now in
    let way = c.args.way in
    let at = (goal.at.returns-clause-step c).After-replace_sides in
    let walk : List ℕ = list_of c.self.inside.pool name in
    let ring : List ℕ = face_at mesh way.face.0 in
    let others : List ℕ = corners_from ring (not way.forward) way.corner (length ring - c.args.taken) in
    let place : c.args.at + c.args.taken ≤ length walk - 1 =
    omega (arith, c.if-darts-from.false, c.from.ensures, c.from-taken_darts.ensures, c.from-darts.ensures, c.len.ensures) in
    let written : list_of c.replace_sides.new.pool name ≡ replaced c.args.at (c.args.taken + 1) others walk = after at in
    subst (λ (t : PeakedWalk). step_of mesh t.peak t.walk (Across c.args.at way.face way.corner way.forward c.args.taken)
    ≡ Ok (list_of c.replace_sides.new.pool name)) c.self.view_is
    (rw written (within_peak mesh c.self.inside.peak walk (Across c.args.at way.face way.corner way.forward c.args.taken)
    (replaced c.args.at (c.args.taken + 1) others walk)
    (across_allowed mesh walk c.args.at way.face way.corner way.forward c.args.taken place
    (sym c.is_on_face.ensures.reads ∙ c.if-not-is_on_face.false))
    (omega (
      arith,
      long at,
      ap (λ (l : List ℕ). length l) written,
      c.if-darts-from-2.false,
      c.from-2.ensures,
      c.from-3.ensures,
      c.from-taken_darts.ensures,
      c.from-darts.ensures,
      c.len.ensures,
      c.sides.ensures,
    ))))
