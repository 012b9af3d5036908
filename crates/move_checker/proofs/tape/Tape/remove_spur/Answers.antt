use Rattle.move_checker.proofs.Common.{list_under-is, Chains, list_of, cut, step_of, PeakedWalk, Place, NotSpur, ◌≡◌, ℕ, ◌+◌, ◌≤◌, ◌∷◌, [], List, length, get_or, true, ap, sym, subst, ◌∙◌, arith, and_left, and_right, and_from, not-true, not-false, eqb-true, ◌==◌, Ok, Err, replaced, darts, Remove}
use Rattle.move_checker.proofs.Replacements.{cut_spur, length-replaced}
use Rattle.move_checker.proofs.Steps.{remove_misplaced, remove_off_spur, remove_allowed, within_peak}
use Rattle.move_checker.proofs.tape.Tape.remove_spur.Goals as goal
use Rattle.move_checker.proofs.tape.Tape.remove_spur.Goals.{then-ne-via-then-ne, then-ne-via-else-ne+then-ne-2, After-at-2}

pub returns-then-from-clause-step : goal.returns-then-from-clause-step
returns-then-from-clause-step c = λ mesh.
    subst (λ (t : PeakedWalk). step_of mesh t.peak t.walk (Remove c.args.at c.args.via) ≡ Err Place) c.self.view_is
    (remove_misplaced mesh c.self.inside.peak (list_of c.self.inside.pool c.self.inside.chain.0) c.args.at c.args.via
    (omega (arith, c.if-from.true, c.from.ensures, c.from-2.ensures, c.len.ensures, c.self.invariant.starts)))

-- the entries that are read are the walk's
middle : (c : After-at-2) → c.at.result ≡ get_or (list_of c.self.inside.pool c.self.inside.chain.0) (c.args.at + 1) 0
middle c = c.at.ensures ∙ ap (λ (p : Chains). get_or (list_of p c.self.inside.chain.0) (c.args.at + 1) 0) c.read-here.ensures.same

last : (c : After-at-2) → c.at-2.result ≡ get_or (list_of c.self.inside.pool c.self.inside.chain.0) (c.args.at + 2) 0
last c = c.at-2.ensures ∙ ap (λ (p : Chains). get_or (list_of p c.self.inside.chain.0) (c.args.at + 2) 0) c.read-here.ensures.same

pub returns-then-ne-clause-step : goal.returns-then-ne-clause-step
returns-then-ne-clause-step c = λ mesh.
    let list : List ℕ = list_of c.self.inside.pool c.self.inside.chain.0 in
    let at = (goal.at.returns-then-ne-clause-step c).After-at-2 in
    let place : c.args.at + 2 ≤ darts list = omega (arith, c.if-from.false, c.from.ensures, c.from-2.ensures, c.len.ensures) in
    subst (λ (t : PeakedWalk). step_of mesh t.peak t.walk (Remove c.args.at c.args.via) ≡ Err NotSpur) c.self.view_is
    (elim c.then-ne.branch [
      | then-ne-via-then-ne w ↦ remove_off_spur mesh c.self.inside.peak list c.args.at c.args.via place
          (and_left _ _ (ap (λ (a : ℕ). a == get_or list (c.args.at + 2) 0) (sym c.read-here.ensures.value)
          ∙ ap (λ (b : ℕ). c.read-here.result.0 == b) (sym (last at)) ∙ not-true _ (sym w.if-ne.ensures)))
      | then-ne-via-else-ne+then-ne-2 w ↦ remove_off_spur mesh c.self.inside.peak list c.args.at c.args.via place
          (and_right _ _ (ap (λ (a : ℕ). a == c.args.via.0) (sym (middle at)) ∙ not-true _ (sym w.if-ne-2.ensures)))
    ])

pub returns-clause-step : goal.returns-clause-step
returns-clause-step c = λ mesh.
    let name = c.self.inside.chain.0 in
    let list : List ℕ = list_of c.self.inside.pool name in
    let at = (goal.at.returns-clause-step c).After-at-2 in
    let place : c.args.at + 2 ≤ darts list = omega (arith, c.if-from.false, c.from.ensures, c.from-2.ensures, c.len.ensures) in
    let same : (get_or list c.args.at 0 == get_or list (c.args.at + 2) 0) ≡ true =
    ap (λ (a : ℕ). a == get_or list (c.args.at + 2) 0) (sym c.read-here.ensures.value)
    ∙ ap (λ (b : ℕ). c.read-here.result.0 == b) (sym (last at)) ∙ not-false _ (sym c.if-ne.ensures) in
    let passed : (get_or list (c.args.at + 1) 0 == c.args.via.0) ≡ true =
    ap (λ (a : ℕ). a == c.args.via.0) (sym (middle at)) ∙ not-false _ (sym c.if-ne-2.ensures) in
    let others : List ℕ = get_or list c.args.at 0 ∷ [] in
    let below : c.args.at + 3 ≤ length list = omega (arith, c.if-from.false, c.from.ensures, c.from-2.ensures, c.len.ensures) in
    let shorter = length-replaced c.args.at 3 others list below in
    let written : list_of c.cut_between.new.self name ≡ replaced c.args.at 3 others list =
    list_under-is c.cut_between.new.self.lists name _ c.cut_between.ensures.list.here
    ∙ ap (λ (p : Chains). cut (list_of p name) c.args.at (c.args.at + 2)) c.read-here.ensures.same
    ∙ cut_spur list c.args.at (omega (arith, below)) (eqb-true _ _ same) in
    subst (λ (t : PeakedWalk). step_of mesh t.peak t.walk (Remove c.args.at c.args.via) ≡ Ok (list_of c.cut_between.new.self name))
    c.self.view_is
    (rw written (within_peak mesh c.self.inside.peak list (Remove c.args.at c.args.via) (replaced c.args.at 3 others list)
    (remove_allowed mesh list c.args.at c.args.via place (and_from _ _ same passed))
    (omega (arith, shorter, below, c.self.invariant.room))))
