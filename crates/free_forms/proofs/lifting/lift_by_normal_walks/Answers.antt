use Rattle.free_forms.proofs.Common.{IsNormal, LeadsAtPeak, IsListWithin, IsMoveOf, state_of, whole, MOST_OPEN_SIDES, ◌≡◌, ℕ, ◌+◌, ◌*◌, ◌++◌, ap, sym, ◌∙◌, subst, arith, All, ◌↔◌, FaceList, Homotopic, way_back, darts}
use Rattle.free_forms.proofs.BackLemmas.{moves_of, there_and_back_leads, both_within}
use Rattle.free_forms.proofs.NormalLemmas.{by_normal_walks}
use Rattle.free_forms.proofs.lifting.lift_by_normal_walks.Goals as goal

pub push_back-requires : goal.push_back-requires
push_back-requires c =
    let mesh : FaceList = c.args.mesh.now.mesh in
    let all : All (IsMoveOf mesh) c.in_ok-two.two.moves.moves =
    moves_of mesh c.in_ok-two.two.moves.moves c.args.second.now (whole (state_of c.in_ok-two.two)) c.requires.walks.second_walk.starts
    c.in_ok-two.ensures.leads.leads in grind arith

pub returns-then-are_equal-clause-moves : goal.returns-then-are_equal-clause-moves
returns-then-are_equal-clause-moves c =
    let mesh : FaceList = c.args.mesh.now.mesh in
    let one : LeadsAtPeak mesh c.args.first.now c.in_ok-near.moves c.in_ok-near.near = grind arith in
    let two : LeadsAtPeak mesh c.args.second.now c.in_ok-far.others c.in_ok-far.far = grind arith in
    there_and_back_leads c.push_back.new.moves c.requires.walks.second_walk one two (c.are_equal.ensures.0 c.if-are_equal.true)
    (c.in_ok-push_back.ensures.moves
    ∙ ap (λ (m : FaceList). c.in_ok-near.moves.moves ++ way_back m c.in_ok-far.others.moves) c.faces-faces.ensures.mesh)
    c.in_ok-push_back.ensures.none c.in_ok-push_back.ensures.some

pub returns-clause-moves : goal.returns-clause-moves
returns-clause-moves c =
    let mesh : FaceList = c.args.mesh.now.mesh in
    let equal : Homotopic mesh c.args.first.now c.args.second.now ↔ (c.in_ok-near.near ≡ c.in_ok-far.far) =
    by_normal_walks c.args.mesh.now c.args.first.now c.args.second.now c.in_ok-near.near c.in_ok-far.far c.faces-faces.ensures.parents
    c.requires.walks.first_walk c.requires.walks.second_walk
    (record {
      normal = subst (IsNormal c.args.mesh.now) (sym c.in_ok-near.ensures.walk) c.in_ok-one.ensures.normal;
      homotopic = grind arith;
    })
    (record {
      normal = subst (IsNormal c.args.mesh.now) (sym c.in_ok-far.ensures.walk) c.in_ok-two.ensures.normal;
      homotopic = grind arith;
    }) in λ joined. grind arith

pub returns-then-are_equal-clause-short : goal.returns-then-are_equal-clause-short
returns-then-are_equal-clause-short c =
    let one : ℕ = darts c.args.first.now * MOST_OPEN_SIDES in
    let two : ℕ = darts c.args.second.now * MOST_OPEN_SIDES in
    let both : ℕ = (darts c.args.first.now + darts c.args.second.now) * MOST_OPEN_SIDES in
    both_within c.faces-faces.result.now both c.push_back.new.moves
    (subst (IsListWithin one) (sym c.in_ok-near.ensures.moves) c.in_ok-one.ensures.short)
    (subst (IsListWithin two) (sym c.in_ok-far.ensures.moves) c.in_ok-two.ensures.short)
    (omega arith) c.in_ok-push_back.ensures.moves c.in_ok-push_back.ensures.none c.in_ok-push_back.ensures.some
