use Rattle.move_checker.proofs.Common.{list_under-is, Chains, list_of, inserted, step_of, PeakedWalk, Place, NoEdge, OverPeak, ◌≡◌, ℕ, ◌+◌, ◌<◌, ◌≤◌, ◌∷◌, [], List, length, get_or, ap, sym, subst, ◌∙◌, arith, Ok, Err, FaceList, is_edge, replaced, Insert}
use Rattle.surf_model.specs.Edges.{IsTableOf}
use Rattle.move_checker.proofs.Replacements.{pushed_spur, length-replaced}
use Rattle.move_checker.proofs.Steps.{IsAllowed, insert_misplaced, insert_off_edge, insert_allowed, within_peak, over_peak}
use Rattle.move_checker.proofs.tape.Tape.insert_spur.Goals as goal
use Rattle.move_checker.proofs.tape.Tape.insert_spur.Goals.{After-form_edge}

pub returns-then-darts-at-clause-step : goal.returns-then-darts-at-clause-step
returns-then-darts-at-clause-step c = λ mesh table.
    subst (λ (t : PeakedWalk). step_of mesh t.peak t.walk (Insert c.args.at c.args.via) ≡ Err Place) c.self.view_is
    (insert_misplaced mesh c.self.inside.peak (list_of c.self.inside.pool c.self.inside.chain.0) c.args.at c.args.via
    (omega (arith, c.if-darts-at.true, c.len-darts.ensures)))

-- whether the two vertices form an edge
edge : (c : After-form_edge) (mesh : FaceList) → IsTableOf mesh c.args.sides.now
    → is_edge mesh (get_or (list_of c.self.inside.pool c.self.inside.chain.0) c.args.at 0) c.args.via.0 ≡ c.form_edge.result
edge c mesh table = ap (λ (v : ℕ). is_edge mesh v c.args.via.0) (sym c.read-here.ensures.value) ∙ sym (c.form_edge.ensures mesh table)

pub returns-then-not-form_edge-clause-step : goal.returns-then-not-form_edge-clause-step
returns-then-not-form_edge-clause-step c = λ mesh table.
    subst (λ (t : PeakedWalk). step_of mesh t.peak t.walk (Insert c.args.at c.args.via) ≡ Err NoEdge) c.self.view_is
    (insert_off_edge mesh c.self.inside.peak (list_of c.self.inside.pool c.self.inside.chain.0) c.args.at c.args.via
    (omega (arith, c.if-darts-at.false, c.len-darts.ensures))
    (edge (goal.at.returns-then-not-form_edge-clause-step c).After-form_edge mesh table ∙ c.if-not-form_edge.true))

pub returns-then-darts-self-clause-step : goal.returns-then-darts-self-clause-step
returns-then-darts-self-clause-step c = λ mesh table.
    let list : List ℕ = list_of c.self.inside.pool c.self.inside.chain.0 in
    let others : List ℕ = get_or list c.args.at 0 ∷ c.args.via.0 ∷ get_or list c.args.at 0 ∷ [] in
    let below : c.args.at + 1 ≤ length list = omega (arith, c.if-darts-at.false, c.len-darts.ensures, c.self.invariant.starts) in
    let grown = length-replaced c.args.at 1 others list below in
    subst (λ (t : PeakedWalk). step_of mesh t.peak t.walk (Insert c.args.at c.args.via) ≡ Err OverPeak) c.self.view_is
    (over_peak mesh c.self.inside.peak list (Insert c.args.at c.args.via) (replaced c.args.at 1 others list)
    (insert_allowed mesh list c.args.at c.args.via (omega (arith, c.if-darts-at.false, c.len-darts.ensures))
    (edge (goal.at.returns-then-darts-self-clause-step c).After-form_edge mesh table ∙ c.if-not-form_edge.false))
    (omega (arith, grown, c.len-darts.ensures, below, c.if-darts-self.true)))

pub returns-clause-step : goal.returns-clause-step
returns-clause-step c = λ mesh table.
    let name = c.self.inside.chain.0 in
    let list : List ℕ = list_of c.self.inside.pool name in
    let others : List ℕ = get_or list c.args.at 0 ∷ c.args.via.0 ∷ get_or list c.args.at 0 ∷ [] in
    let below : c.args.at + 1 ≤ length list = omega (arith, c.if-darts-at.false, c.len-darts.ensures, c.self.invariant.starts) in
    let within : c.args.at < length list = omega (arith, below) in
    let grown = length-replaced c.args.at 1 others list below in
    let first : list_of c.push_after.new.self name ≡ inserted list c.args.at c.read-here.result.0 =
    list_under-is c.push_after.new.self.lists name _ c.push_after.ensures.list.here
    ∙ ap (λ (p : Chains). inserted (list_of p name) c.args.at c.read-here.result.0) c.read-here.ensures.same in
    let second : list_of c.push_after-2.new.self name ≡ replaced c.args.at 1 others list =
    list_under-is c.push_after-2.new.self.lists name _ c.push_after-2.ensures.list.here
    ∙ ap (λ (l : List ℕ). inserted l (c.args.at + 1) c.args.via.0) first
    ∙ pushed_spur list c.args.at c.args.via.0 c.read-here.result.0 within c.read-here.ensures.value in
    let allowed : IsAllowed mesh list (Insert c.args.at c.args.via) (replaced c.args.at 1 others list) =
    insert_allowed mesh list c.args.at c.args.via (omega (arith, c.if-darts-at.false, c.len-darts.ensures))
    (edge (goal.at.returns-clause-step c).After-form_edge mesh table ∙ c.if-not-form_edge.false) in
    subst (λ (t : PeakedWalk). step_of mesh t.peak t.walk (Insert c.args.at c.args.via) ≡ Ok (list_of c.push_after-2.new.self name))
    c.self.view_is
    (rw second (within_peak mesh c.self.inside.peak list (Insert c.args.at c.args.via) (replaced c.args.at 1 others list) allowed
    (omega (arith, grown, c.len-darts.ensures, below, c.if-darts-self.false))))
