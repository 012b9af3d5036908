use Rattle.trial_commands.proofs.Common.{walks_of_pair, ◌≡◌, [], ℕ, List, get_or, refl, sym, subst, ap, ◌∙◌, ◌↔◌, Some, None, first_walk, second_walk, AreWalkPair, Homotopic, pair_walks, pair_fault}
use Rattle.std.proofs.lemmas.Option.{get_or_from_slice_get}
use Rattle.std.proofs.lemmas.Result.{err_from_is_err_and}
use Rattle.surf_model.specs.Edges.{IsTableOf}
use Rattle.walk_files.specs.WalkLists.{WalkText}
use Rattle.surf_model.specs.Moves as moves
use Rattle.trial_commands.proofs.Trying.{pair_faulty, pair_answered}
use Rattle.trial_commands.proofs.trial.decide_pair.Goals as goal

pub returns-in_err-check_pair-clause-end : goal.returns-in_err-check_pair-clause-end
returns-in_err-check_pair-clause-end c =
    let mesh = c.args.decider.now in
    let fault = c.in_err-check_pair.field-0.0 in
    let p = err_from_is_err_and c.from_residual-in_err-check_pair.result c.from_residual-in_err-check_pair.ensures.1 in
    let table : IsTableOf mesh c.sides.result.now = c.sides.ensures in
    let walks : c.in_ok-pair.pair.walks ≡ pair_walks c.args.grid c.args.which =
    ap (λ (list : WalkText). list.walks) c.in_ok-pair.ensures ∙ cc (c.in_ok-first.ensures.first, c.in_ok-first.ensures.second) in
    let found : Some fault ≡ pair_fault mesh c.in_ok-pair.pair.walks = c.in_err-check_pair.ensures.fault mesh table in
    rw p.1 (pair_faulty mesh c.args.grid c.args.which fault p.0 (ap (pair_fault mesh) (sym walks) ∙ sym found) p.2)

-- what is known of the two walks
walks : (c : goal.After-at-2) → AreWalkPair c.args.decider.now c.at.result.now c.at-2.result.now
walks c =
    let mesh = c.args.decider.now in
    let table : IsTableOf mesh c.sides.result.now = c.sides.ensures in
    walks_of_pair ((c.in_ok-check_pair.ensures.pair mesh table).0 refl) c.at.ensures c.at-2.ensures

pub answer-requires-clause-first : goal.answer-requires-clause-first
answer-requires-clause-first c = (walks c).first_walk

pub answer-requires-clause-second : goal.answer-requires-clause-second
answer-requires-clause-second c = (walks c).second_walk

pub answer-requires-clause-ends : goal.answer-requires-clause-ends
answer-requires-clause-ends c = (walks c).ends

pub returns-clause-end : goal.returns-clause-end
returns-clause-end c =
    let mesh = c.args.decider.now in
    let decision = c.in_ok-answer.field-0 in
    let table : IsTableOf mesh c.sides.result.now = c.sides.ensures in
    let same : c.in_ok-pair.pair.walks ≡ pair_walks c.args.grid c.args.which =
    ap (λ (list : WalkText). list.walks) c.in_ok-pair.ensures ∙ cc (c.in_ok-first.ensures.first, c.in_ok-first.ensures.second) in
    let none : None ≡ pair_fault mesh c.in_ok-pair.pair.walks = c.in_ok-check_pair.ensures.fault mesh table in
    let first : c.at.result.now ≡ first_walk c.args.grid c.args.which =
    sym (get_or_from_slice_get c.in_ok-pair.pair.walks 0 c.at.result.now [] c.at.ensures)
    ∙ ap (λ (w : List (List ℕ)). get_or w 0 []) same in
    let second : c.at-2.result.now ≡ second_walk c.args.grid c.args.which =
    sym (get_or_from_slice_get c.in_ok-pair.pair.walks 1 c.at-2.result.now [] c.at-2.ensures)
    ∙ ap (λ (w : List (List ℕ)). get_or w 1 []) same in
    let right : (decision ≡ Homotopic) ↔ moves.Homotopic mesh (first_walk c.args.grid c.args.which) (second_walk c.args.grid c.args.which) =
    subst (λ (w : List ℕ). (decision ≡ Homotopic) ↔ moves.Homotopic mesh (first_walk c.args.grid c.args.which) w) second
    (subst (λ (w : List ℕ). (decision ≡ Homotopic) ↔ moves.Homotopic mesh w c.at-2.result.now) first c.in_ok-answer.ensures) in
    pair_answered mesh c.args.grid c.args.which decision (ap (pair_fault mesh) (sym same) ∙ sym none) right
